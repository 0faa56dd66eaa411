-- Pairs, as the code makes them: the runs stay in their places, and those that wait are known by their indices.
use Rattle.std.specs.Prelude.{◌≡◌, ◌+◌, ◌*◌, ◌==◌, ◌≤◌, slice_index, ℕ, zero, suc, Bool, false, cond, List, [], ◌∷◌, ◌++◌, Option, Some, None, slice_get, slice_set, ◌<◌, length, reverse}
use Rattle.mdinline_emphasis.specs.Costs.{kinds_a_marker}
use Rattle.mdinline_emphasis.specs.declared.pairs.Delimiters.{Delimiters}
use Rattle.mdinline_emphasis.specs.Emphasis.{Run, may_pair, style_of}
use Rattle.mdinline_emphasis.specs.declared.pairs.Marker.{Marker}
use Rattle.mdinline_emphasis.specs.declared.pairs.Marker.TheVariants.{Asterisk, Underscore, Tilde}
use Rattle.mdinline_emphasis.specs.InTurn.{Waiting, SoFar, all_runs, all_waiting, opening, closing, put, close}

-- the run that a value of the code stands for: it lists the pairs that it opens the other way round
abbrev pub as_run : Delimiters → Run
as_run d = record {
  index = d.index;
  start = d.start;
  marker = d.marker;
  rest = d.rest;
  opens = d.opens;
  closes = d.closes;
  closed = d.closed.items;
  left = d.left;
  opened = reverse d.opened.items;
}

-- the run at an index, if there is one, fits
abbrev pub may_pair_there : Option Run → Run → Bool
may_pair_there None r = false
may_pair_there (Some o) r = may_pair o r

abbrev pub run_there : List Run → Option ℕ → Option Run
run_there rs None = None
run_there rs (Some i) = slice_get rs i

-- the last one that fits, of the first k that wait
abbrev pub last_of : List Run → List ℕ → Run → ℕ → Option ℕ
last_of rs openers r zero = None
last_of rs openers r (suc k) = cond (may_pair_there (run_there rs (slice_get openers k)) r) (Some k) (last_of rs openers r k)

-- a number for each marker, from 0 on
abbrev pub marker_number : Marker → ℕ
marker_number Underscore = 0
marker_number Asterisk = 1
marker_number Tilde = 2

-- what is asked of a length modulo 3: whether it is 1 or 2
abbrev pub third : ℕ → ℕ
third b = cond (b == 1) 1 (cond (b == 2) 2 0)

-- The kind of a run that closes: which runs fit it depends on its kind alone
abbrev pub kind : Run → ℕ
kind r = (kinds_a_marker * marker_number r.marker + cond r.opens 3 0) + third r.rest

-- of the runs that wait before a place, none fits
abbrev pub NoneFitsBefore : ℕ → List Run → List ℕ → Run → Type 0
NoneFitsBefore bottom rs openers r = (k i : ℕ) → slice_get openers k ≡ Some i → i < bottom → may_pair_there (slice_get rs i) r ≡ false

-- for each kind a place, no further than runs were read: of the runs that wait before it, none fits a run of that kind
abbrev pub AreBottoms : List Run → List ℕ → (read : ℕ) → List ℕ → Type 0
AreBottoms rs openers read bottoms = (r : Run) → (slice_index bottoms (kind r) ≤ read) × NoneFitsBefore (slice_index bottoms (kind r)) rs openers r

-- indices stand in their order
abbrev pub AreInOrder : List ℕ → Type 0
AreInOrder openers = (j k a b : ℕ) → j ≤ k → slice_get openers j ≡ Some a → slice_get openers k ≡ Some b → a ≤ b

-- the runs with one more pair, of the runs at two indices
abbrev pub with_pair_of : List Run → (i j : ℕ) → Option Run → Option Run → List Run
with_pair_of rs i j (Some o) (Some r) = let s = style_of o r in slice_set (slice_set rs i (opening s o)) j (closing s r)
with_pair_of rs i j _ _ = rs

abbrev pub with_pair : List Run → (i j : ℕ) → List Run
with_pair rs i j = with_pair_of rs i j (slice_get rs i) (slice_get rs j)

-- the indices of the runs that wait, the first one first
abbrev pub positions : List Run → List Waiting → List ℕ
positions base [] = []
positions base (w ∷ ws) = positions base ws ++ length (base ++ all_waiting ws) ∷ []

-- these runs were read so far, and these wait
pub record Stands (rs : List Run) (openers : List ℕ) (z : SoFar) (rest : List Run) : Type 0 where
  pub runs : rs ≡ all_runs z ++ rest
  pub waiting : openers ≡ positions z.base z.waiting

-- the run at an index is next
pub record StandsAt (rs : List Run) (openers : List ℕ) (closer : ℕ) (z : SoFar) (r : Run) (rest : List Run) : Type 0 where
  pub so_far : Stands rs openers z (r ∷ rest)
  pub next : closer ≡ length (all_runs z)

-- how many markers the run at an index has left
abbrev pub left_of : Option Run → ℕ
left_of None = 0
left_of (Some r) = r.left

-- some runs were read, and the run at an index is next
abbrev pub IsNext : List Run → List ℕ → ℕ → Type 0
IsNext rs openers closer = (z : SoFar) × (r : Run) × (rest : List Run) × StandsAt rs openers closer z r rest

-- it closed one pair more
abbrev pub HasClosed : List Run → List ℕ → ℕ → List Run → List ℕ → Type 0
HasClosed rs openers closer rs' openers' = (z : SoFar) (r : Run) (rest : List Run) → StandsAt rs openers closer z r rest
    → (z' : SoFar) × (r' : Run) × StandsAt rs' openers' closer z' r' rest × (r'.left < r.left) × ((n : ℕ) → close (suc n) r z ≡ close n r' z')

-- it can close nothing more
abbrev pub ClosesNothing : List Run → List ℕ → ℕ → Type 0
ClosesNothing rs openers closer = (z : SoFar) (r : Run) (rest : List Run) → StandsAt rs openers closer z r rest → (n : ℕ) → close n r z ≡ put r z

-- it closed all that it can, and waits if it can open
abbrev pub IsTaken : List Run → List ℕ → ℕ → List Run → List ℕ → Type 0
IsTaken rs openers closer rs' openers' = (z : SoFar) (r : Run) (rest : List Run) → StandsAt rs openers closer z r rest → Stands rs' openers' (close r.left r z) rest
