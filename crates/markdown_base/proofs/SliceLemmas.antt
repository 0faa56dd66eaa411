-- Lemmas on the nearest enter before an exit.
use Rattle.markdown_base.proofs.Prelude.{◌≡◌, ℕ, inl, inr, List, length, get_or, Some, None, IsSome, slice_get, slice_get-get_or, cases_lt, false≢true, Event, Enter, AttentionSequence, nearest_enter}
use Rattle.std.proofs.lemmas.Option.{slice_get_past}

-- the event that the code's reads give past the end
abbrev pub filler : Event
filler = record { kind = Enter; name = AttentionSequence; point = record { line = 0; column = 0; index = 0; vs = 0 }; link = None }

-- the exit is inside the list
pub exit_at : (events : List Event) (index : ℕ) → IsSome (nearest_enter events index) → slice_get events index ≡ Some (get_or events index filler)
exit_at events index some = elim (cases_lt index (length events)) [ inl lt ↦ slice_get-get_or events index filler lt | inr le ↦ absurd (false≢true (rw (slice_get_past events index le) at some)) ]
