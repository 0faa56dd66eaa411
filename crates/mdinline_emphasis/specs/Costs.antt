-- Costs of emphasis: looks at runs that wait, tries to make pairs, and ends of pairs that are put among events.
use Rattle.std.specs.Prelude.{ℕ, ◌+◌, ◌-◌, ◌*◌, cond, nat_lt, List, [], ◌∷◌, Option, Some, None, length}
use Rattle.mdinline_emphasis.specs.Emphasis.{Run, all_markers}

-- How many kinds of runs that close each marker has: one that can open too, or not, of each length modulo 3
abbrev pub kinds_a_marker : ℕ
kinds_a_marker = 2 * 3

-- how many kinds there are
abbrev pub kinds_of_runs : ℕ
kinds_of_runs = kinds_a_marker * length all_markers

-- What pairs may take for each run: as long as it waits one look for each kind, one as it stops waiting, and one try that finds nothing
abbrev pub pairs_a_run : ℕ
pairs_a_run = kinds_of_runs + 2

-- what emphasis may take for each run: its pairs, and a look as it is written
abbrev pub emphasis_a_run : ℕ
emphasis_a_run = pairs_a_run + 1

-- how many markers of some runs are in no pair
abbrev pub markers_left : List Run → ℕ
markers_left [] = 0
markers_left (r ∷ rs) = r.left + markers_left rs

-- how many pairs a run closes and opens
abbrev pub ends_at : Run → ℕ
ends_at r = length r.closed + length r.opened

-- how many ends of pairs are at some runs
abbrev pub ends_of_pairs : List Run → ℕ
ends_of_pairs [] = 0
ends_of_pairs (r ∷ rs) = ends_at r + ends_of_pairs rs

-- how many of the runs that wait are not before a place
abbrev pub waiting_from : ℕ → List ℕ → ℕ
waiting_from place [] = 0
waiting_from place (i ∷ is) = cond (nat_lt i place) 0 1 + waiting_from place is

-- how many looks a search takes: down to what it found, or down to a place
abbrev pub looks : List ℕ → (bottom : ℕ) → Option ℕ → ℕ
looks openers bottom None = waiting_from bottom openers
looks openers bottom (Some at) = length openers - at

-- of the runs that wait, those that are not before each place, all told
abbrev pub above : List ℕ → List ℕ → ℕ
above openers [] = 0
above openers (bottom ∷ bottoms) = waiting_from bottom openers + above openers bottoms

-- What searches may cost yet: a turn for each run that waits, for each of them once more for each kind that has not looked at it in vain,
-- and two for each marker that is left
abbrev pub to_pay : List Run → List ℕ → List ℕ → ℕ
to_pay rs openers bottoms = (length openers + above openers bottoms) + 2 * markers_left rs
