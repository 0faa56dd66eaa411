-- Looks over all that is left of a text.
use Rattle.std.specs.Prelude.{◌≡◌, ℕ, ◌+◌, Bool, List, Option, length}
use Rattle.markdown_base.specs.declared.event.Event.{Event}
use Rattle.markdown_base.specs.declared.event.Name.{Name as EventName}
use Rattle.markdown_base.specs.declared.state.Name.{Name}
use Rattle.markdown_base.specs.declared.state.State.TheVariants.{Nok}
use Rattle.markdown_base.specs.Virtual.{Seat}
use Rattle.markdown_tokenizer.specs.Text.{Given, Text}
use Rattle.markdown_tokenizer.specs.Configuration.{Local}
use Rattle.mdconstructs_tables.specs.Looks.{scan}
use Rattle.mdconstructs_tables.specs.Rows.{Table}

-- the look of a state reads all bytes that are left, one in each call, and fails at the end
abbrev pub LooksOverTheRest : {W : Type 0} → Table W Unit Unit → Name → Type 0
LooksOverTheRest table name = (g : Given) (text : Text) (stack : List EventName) (events : List Event)
    (l : List Seat) (previous : Option ℕ) (position : ℕ) (mark : Bool) (local : Local Unit Unit)
    → let r = scan table g text stack events 1 l previous position mark local name in
    (r.count ≡ length l) × (r.answer ≡ Nok) × (r.calls ≡ length l + 1)
