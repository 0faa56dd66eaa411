-- The events that a machine makes of each document, by a definition without states.
use Rattle.std.specs.Prelude.{◌≡◌, ℕ, List, false}
use Rattle.markdown_base.specs.declared.event.Event.{Event}
use Rattle.markdown_base.specs.declared.state.Name.{Name}
use Rattle.markdown_base.specs.Virtual.{Seat, virtual}
use Rattle.markdown_tokenizer.specs.declared.subtokenize.Subresult.{Subresult}
use Rattle.markdown_tokenizer.specs.Engine.{IsRun}
use Rattle.markdown_tokenizer.specs.Rules.{Rules}
use Rattle.markdown_tokenizer.specs.Text.{Given, IsDocument}

-- For each document, a run of these rules from this start returns the events that are defined for the document's bytes and virtual bytes
abbrev pub IsReadAs : {R D : Type 0} → (rules : Given → Rules R D) → (start : Name) → (events_of : List ℕ → List Seat → List Event) → Type 0
IsReadAs rules start events_of =
    (g : Given) (events : List Event) (sub : Subresult) → IsDocument g → IsRun g rules false start events sub
    → events ≡ events_of g.bytes (virtual g.tab g.bytes)
