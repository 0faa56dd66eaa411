-- Inner: what an edit map keeps means. No public contract cites this file.
use Rattle.std.specs.Prelude.{ℕ, ◌+◌, ◌≤◌, ◌<◌, List, [], ◌∷◌, map}
use Rattle.std.specs.List.{between, AllByRecursion}
use Rattle.markdown_base.specs.declared.event.Event.{Event}
use Rattle.markdown_edits.specs.Edits.{Edit, edit_at}
use Rattle.markdown_edits.specs.declared.entry.Entry.{Entry}
use Rattle.markdown_edits.specs.declared.replacement.Replacement.{Replacement}

-- the edit that is kept at an index
abbrev pub as_edit : ℕ × Replacement → Edit
as_edit e = record { index = e.0; remove = e.1.remove; additions = e.1.additions.items }

-- the edits that are kept
abbrev pub edits_of : List (ℕ × Replacement) → List Edit
edits_of es = map as_edit es

-- the edit of an entry, whose additions are a part of this list
abbrev pub part_edit : List Event → Entry → Edit
part_edit additions e = edit_at e.index e.remove (between e.start e.end additions)

-- the edits of entries, whose additions are parts of this list
abbrev pub pooled : List Event → List Entry → List Edit
pooled additions es = map (part_edit additions) es

-- an entry's part lies in a list of n events
abbrev pub IsPart : ℕ → Entry → Type 0
IsPart n e = (e.start ≤ e.end) × (e.end ≤ n)

-- an entry whose part is n events further on
abbrev pub moved_by : ℕ → Entry → Entry
moved_by n e = record e { start = e.start + n; end = e.end + n }

-- each edit has a smaller index than the next
abbrev pub IsAscending : List Edit → Type 0
IsAscending [] = Unit {0}
IsAscending (e ∷ es) = AllByRecursion (λ (d : Edit). e.index < d.index) es × IsAscending es
