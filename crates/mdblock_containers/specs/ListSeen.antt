-- Inner: what is known of the parts of spans, from an event on. No public contract cites this file.
use Rattle.std.specs.Prelude.{◌≡◌, ℕ, suc, ◌≤◌, max, ◌==◌, ◌&&◌, ◌||◌, not, nat_lt, Bool, true, false, cond, List, [], ◌∷◌, ◌++◌, drop, filter, map, replicate, reverse, Option, None, Some, option_and_then}
use Rattle.std.specs.List.{list_any, take_while}
use Rattle.markdown_base.specs.declared.event.Event.{Event}
use Rattle.markdown_base.specs.declared.event.Kind.TheVariants.{Enter, Exit}
use Rattle.markdown_base.specs.declared.event.Name.{Name}
use Rattle.markdown_base.specs.declared.event.Name.TheVariants.{BlankLineEnding, ListItem}
use Rattle.markdown_base.specs.declared.event.Point.{Point}
use Rattle.markdown_base.specs.Events.{is_enter, same_name}
use Rattle.markdown_edits.specs.SpanWalks.{is_wanted}
use Rattle.mdblock_containers.specs.declared.list_shapes.Level.{Level}
use Rattle.mdblock_containers.specs.declared.list_shapes.Levels.{Levels}
use Rattle.mdblock_containers.specs.declared.list_shapes.ListShape.{ListShape}
use Rattle.mdblock_containers.specs.declared.list_shapes.Parts.{Parts}
use Rattle.mdblock_containers.specs.declared.list_shapes.Seen.{Seen}
use Rattle.mdblock_containers.specs.ListWalks.{is_item}
use Rattle.mdblock_containers.specs.Lists.{Met, behind_enter, block_names, directly_from, is_apart, is_blank_behind, is_spread, item_names, list_marker, list_names, list_start}

abbrev pub has_blank : Point → Option ℕ → Bool
has_blank end None = false
has_blank end (Some line) = nat_lt end.line line || (end.column == 1)

abbrev pub line_of : Option ℕ → ℕ
line_of None = 0
line_of (Some line) = line

abbrev pub blank_before : Event → Option ℕ → Option ℕ
blank_before e blank = cond (is_enter e.kind && same_name e.name BlankLineEnding) (Some (max e.point.line (line_of blank))) blank

abbrev pub parts_before : List Name → Event → Parts → Parts
parts_before names e p =
    cond (is_wanted names e.name)
    (record { any = true; is_apart = (p.any && has_blank e.point p.blank) || p.is_apart; blank = None })
    (record { any = p.any; is_apart = p.is_apart; blank = blank_before e p.blank })

abbrev pub seen_before : Event → Bool → Seen → Seen
seen_before e spread s =
    record { items = parts_before item_names e s.items; blocks = parts_before block_names e s.blocks; has_spread_item = (is_item e && spread) || s.has_spread_item }

abbrev pub no_parts : Parts
no_parts = record { any = false; is_apart = false; blank = None }

abbrev pub nothing_seen : Seen
nothing_seen = record { items = no_parts; blocks = no_parts; has_spread_item = false }

-- what is known of open spans, the innermost first: of that one something is known
abbrev pub known_from : List Level → List Seen
known_from [] = []
known_from (l ∷ ls) = l.seen ∷ (replicate l.around nothing_seen ++ known_from ls)

-- what is known of all
abbrev pub all_seen : Levels → List Seen
all_seen l = replicate l.inside nothing_seen ++ known_from (reverse l.known.items)

abbrev pub top_of : List Seen → Seen
top_of [] = nothing_seen
top_of (s ∷ ss) = s

abbrev pub stack_at_exit : Event → List Seen → List Seen
stack_at_exit e ss = nothing_seen ∷ seen_before e false (top_of ss) ∷ drop 1 ss

abbrev pub stack_at_enter : Event → List Seen → List Seen
stack_at_enter e ss = seen_before e (top_of ss).blocks.is_apart (top_of (drop 1 ss)) ∷ drop 1 (drop 1 ss)

abbrev pub stack_before : Event → List Seen → List Seen
stack_before e ss = elim e.kind [ Enter ↦ stack_at_enter e ss | Exit ↦ stack_at_exit e ss ]

-- spans of this name are no parts of lists and of items, and no blank lines
abbrev pub is_quiet : Name → Bool
is_quiet n = not (is_wanted (BlankLineEnding ∷ ListItem ∷ block_names) n)

-- what is said of the list whose enter is at an index, by what is known of its parts
abbrev pub shape_at : (bytes : List ℕ) → List Event → (at : ℕ) → Seen → ListShape
shape_at bytes events at inside =
    record {
      at = at;
      is_loose = inside.items.is_apart || inside.has_spread_item;
      is_spread = inside.items.is_apart;
      marker = option_and_then (list_marker bytes) (behind_enter list_names at events);
      start = option_and_then (list_start bytes) (behind_enter list_names at events);
    }

abbrev pub is_list : Event → Bool
is_list e = is_enter e.kind && is_wanted list_names e.name

-- what is known of spans of these names is so
pub record IsParts (names : List Name) (p : Parts) (es : List Event) : Type 0 where
  pub any : p.any ≡ list_any (λ f. is_wanted names f.name) es
  pub apart : p.is_apart ≡ is_apart names es
  pub blank : (end : Point) → has_blank end p.blank ≡ list_any (is_blank_behind end) (take_while (λ f. not (is_wanted names f.name)) es)

pub record IsSeen (s : Seen) (ms : List Met) : Type 0 where
  pub items : IsParts item_names s.items (map (λ m. m.event) ms)
  pub blocks : IsParts block_names s.blocks (map (λ m. m.event) ms)
  pub spread_item : s.has_spread_item ≡ list_any (λ item. is_spread block_names item.behind) (filter (λ m. is_item m.event) ms)

-- of each open span, the innermost first, from so many spans around on; of no other span anything is left
abbrev pub AreSeen : List Seen → (depth : ℕ) → List Event → Type 0
AreSeen [] depth es = (k : ℕ) → depth ≤ k → directly_from k es ≡ []
AreSeen (s ∷ ss) depth es = IsSeen s (directly_from depth es) × AreSeen ss (suc depth) es
