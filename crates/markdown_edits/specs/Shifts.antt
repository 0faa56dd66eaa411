-- Inner: the new places of events, by a table of how many events edits remove and add. No public contract cites this file.
use Rattle.std.specs.Prelude.{ℕ, ◌+◌, ◌-◌, ◌≤◌, ◌<◌, ◌^◌, List, [], ◌∷◌, length, Option, Some, None, IfSome, if◌then◌else◌, nat_lt}
use Rattle.markdown_base.specs.declared.event.Event.{Event}
use Rattle.markdown_base.specs.Events.{EachEnd}
use Rattle.markdown_edits.specs.Edits.{Edit}
use Rattle.markdown_edits.specs.declared.shift.Shift.{Shift}

-- the shifts of edits, if the edits before them remove `removed` events and add `added`
abbrev pub shifts : ℕ → ℕ → List Edit → List Shift
shifts removed added [] = []
shifts removed added (e ∷ es) =
    record { index = e.index; end = e.index + e.remove; removed = removed + e.remove; added = added + length e.additions }
    ∷ shifts (removed + e.remove) (added + length e.additions) es

-- the new place of the event at n, if the edits before these remove `removed` events and add `added`
abbrev pub place_by : List Shift → ℕ → ℕ → ℕ → Option ℕ
place_by [] removed added n = Some (n - removed + added)
place_by (s ∷ ss) removed added n =
    if nat_lt n s.index then Some (n - removed + added) else (if nat_lt n s.end then None else place_by ss s.removed s.added n)

-- shifts of edits from `from` on that do not overlap; none of them moves n too far
abbrev pub AreShifts : (n from : ℕ) → List Shift → Type 0
AreShifts n from [] = Unit {0}
AreShifts n from (s ∷ ss) = (from ≤ s.index) × (s.index ≤ s.end) × (s.removed ≤ s.end) × (n + s.added < 2 ^ 64) × AreShifts n s.end ss

-- the shifts move no link end of an event too far
abbrev pub EndsFit : List Shift → Event → Type 0
EndsFit ss e = IfSome e.link (EachEnd (λ n. AreShifts n 0 ss))
