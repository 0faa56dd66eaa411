-- Prefixes of items stand in items.
use Rattle.std.proofs.Common.{ℕ, ◌+◌, ◌-◌, Bool, true, cond, List, [], ◌∷◌}
use Rattle.std.specs.Prelude.{◌&&◌, ◌||◌, not, nat_lt}
use Rattle.markdown_base.specs.declared.event.Event.{Event}
use Rattle.markdown_base.specs.declared.event.Name.TheVariants as name
use Rattle.markdown_base.specs.Events.{is_enter, same_name}
use Rattle.mdgfm_tasks.specs.Awaits.{enters}

-- in how many items is what is behind an event
abbrev pub items_behind : (depth : ℕ) → Event → ℕ
items_behind d e = cond (same_name e.name name.ListItem) (cond (is_enter e.kind) (d + 1) (d - 1)) d

-- each prefix of an item is entered in an item
abbrev pub in_items : (depth : ℕ) → List Event → Bool
in_items d [] = true
in_items d (e ∷ es) = (not (enters name.ListItemPrefix e) || nat_lt 0 d) && in_items (items_behind d e) es
