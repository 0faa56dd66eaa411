-- The innermost spans of events, and that they account for virtual bytes.
use Rattle.std.specs.Prelude.{◌≡◌, ℕ, List, [], ◌∷◌, ◌++◌, false, cond, map}
use Rattle.std.specs.List.{flat_map}
use Rattle.markdown_base.specs.declared.event.Event.{Event}
use Rattle.markdown_base.specs.declared.event.Point.{Point}
use Rattle.markdown_base.specs.Events.{is_enter}
use Rattle.markdown_base.specs.Places.{shown}
use Rattle.markdown_base.specs.Virtual.{Seat, end_after, virtual}
use Rattle.markdown_base.specs.declared.state.Name.{Name}
use Rattle.markdown_tokenizer.specs.declared.subtokenize.Subresult.{Subresult}
use Rattle.markdown_tokenizer.specs.Engine.{IsRun}
use Rattle.markdown_tokenizer.specs.Rules.{Rules}
use Rattle.markdown_tokenizer.specs.Text.{Given, IsDocument}

-- the place of an event, with that of the next event, if the next one is an exit
abbrev pub ended_next : Event → List Event → List (Point × Point)
ended_next e [] = []
ended_next e (f ∷ events) = cond (is_enter f.kind) [] ((e.point, f.point) ∷ [])

-- The innermost spans of events, each by its two places: those from an enter to an exit directly behind it
abbrev pub innermost_spans : List Event → List (Point × Point)
innermost_spans [] = []
innermost_spans (e ∷ events) = cond (is_enter e.kind) (ended_next e events) [] ++ innermost_spans events

-- a stretch of virtual bytes: its first, and those that follow it
abbrev pub stretch_bytes : (Seat × List Seat) → List Seat
stretch_bytes stretch = stretch.0 ∷ stretch.1

-- the places of the span over a stretch: of its first byte, and of the end of its last one
abbrev pub span_over : List ℕ → (Seat × List Seat) → Point × Point
span_over bytes stretch = (shown bytes stretch.0.point, shown bytes (end_after stretch.0.end stretch.1))

-- Each of these virtual bytes is in exactly one innermost span of the events: the bytes can be cut into stretches, and the innermost spans
-- are those over these stretches, in order
pub record AccountFor (events : List Event) (bytes : List ℕ) (seats : List Seat) : Type 0 where
  pub stretches : List (Seat × List Seat)
  pub are_all : flat_map stretch_bytes stretches ≡ seats
  pub are_innermost : innermost_spans events ≡ map (span_over bytes) stretches

-- Of each document, what a run of these rules from this start returns accounts for each virtual byte
abbrev pub AccountsForDocuments : {R D : Type 0} → (rules : Given → Rules R D) → (start : Name) → Type 0
AccountsForDocuments rules start =
    (g : Given) (events : List Event) (sub : Subresult) → IsDocument g → IsRun g rules false start events sub → AccountFor events g.bytes (virtual g.tab g.bytes)
