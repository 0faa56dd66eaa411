-- The texts of code spans and autolinks.
use Rattle.std.specs.Prelude.{◌≡◌, ℕ, zero, suc, ◌||◌, ◌&&◌, not, Bool, List, [], ◌∷◌, ◌++◌, Option, Some, None, slice_get, cond}
use Rattle.markdown.specs.declared.event.Event.{Event}
use Rattle.markdown.specs.declared.event.Kind.TheVariants.{Exit}
use Rattle.markdown.specs.declared.event.Name.TheVariants.{Autolink, CodeText}
use Rattle.markdown.specs.Events.{is_enter, same_name}
use Rattle.markdown.specs.Slices.{bytes_between, nearest_enter}

-- the event at an index ends a span
abbrev pub EndsAt : List Event → ℕ → Type 0
EndsAt events index = (e : Event) × (slice_get events index ≡ Some e) × (e.kind ≡ Exit)

-- it ends a code span or an autolink
abbrev pub ends_span : Event → Bool
ends_span e = not (is_enter e.kind) && (same_name e.name CodeText || same_name e.name Autolink)

-- the bytes from one event to another, if there are both
abbrev pub bytes_from : List ℕ → Option Event → Option Event → List ℕ
bytes_from bytes (Some enter) (Some exit) = bytes_between bytes enter.point exit.point
bytes_from bytes _ _ = []

-- the bytes of the span that the event at an index ends: from the nearest earlier enter of its name
abbrev pub text_at : List ℕ → List Event → ℕ → List ℕ
text_at bytes events index = bytes_from bytes (nearest_enter events index) (slice_get events index)

abbrev pub text_if : List ℕ → List Event → ℕ → Option Event → List (List ℕ)
text_if bytes events index None = []
text_if bytes events index (Some e) = cond (ends_span e) (text_at bytes events index ∷ []) []

-- the texts of the code spans and autolinks that end at the first n events
abbrev pub texts_upto : List ℕ → List Event → ℕ → List (List ℕ)
texts_upto bytes events zero = []
texts_upto bytes events (suc n) = texts_upto bytes events n ++ text_if bytes events n (slice_get events n)
