-- Inner: the edited list by prefix sums, as one pass over the edits makes it. No public contract cites this file.
use Rattle.std.specs.Prelude.{ℕ, ◌+◌, ◌-◌, List, [], ◌∷◌, ◌++◌, map, length, take, drop, Option, Some, None, if◌then◌else◌, nat_lt}
use Rattle.markdown_base.specs.declared.event.Event.{Event}
use Rattle.markdown_base.specs.Events.{relinked}
use Rattle.markdown_edits.specs.Edits.{Edit}

-- the new place of the event at n after these edits, if earlier edits removed `removed` events and added `added`
abbrev pub place_from : List Edit → ℕ → ℕ → ℕ → Option ℕ
place_from [] removed added n = Some (n - removed + added)
place_from (e ∷ es) removed added n =
    if nat_lt n e.index then Some (n - removed + added)
    else (if nat_lt n (e.index + e.remove) then None else place_from es (removed + e.remove) (added + length e.additions) n)

-- events with their link ends moved to their places
abbrev pub relinked_by : (ℕ → Option ℕ) → List Event → List Event
relinked_by place xs = map (relinked place) xs

-- the events xs, from index i on, with edits made in turn and link ends moved to their places
abbrev pub spliced : (ℕ → Option ℕ) → List Edit → ℕ → List Event → List Event
spliced place [] i xs = relinked_by place xs
spliced place (e ∷ es) i xs =
    relinked_by place (take (e.index - i) xs) ++ (e.additions ++ spliced place es (e.index + e.remove) (drop (e.index + e.remove - i) xs))
