-- The runs of a text and the same runs with their pairs, one by one.
use Rattle.mdinline_emphasis.proofs.Prelude.{ℕ, ◌+◌, Bool, true, false, cond, List, [], ◌∷◌, Option, Some, None, refl, ◌==◌, ◌&&◌, slice_get, Event, Run, paired, index_of_event, is_sequence, depth_after, run_at, runs_from, runs_in, AreBeside, AreUnpaired}
use Rattle.mdinline_emphasis.proofs.Beside.Neighbours.{pairs-beside}

-- the runs of a list are in no pair
runs-unpaired : (one : Bool) (bytes : List ℕ) (i depth : ℕ) (before : Option ℕ) (es : List Event) → AreUnpaired (runs_from one bytes i depth before es)
runs-unpaired one bytes i depth before [] = tt
runs-unpaired one bytes i depth before (e ∷ []) = tt
runs-unpaired one bytes i depth before (e ∷ f ∷ es) = either (depth == 0 && is_sequence e f) _ _ (runs-unpaired one bytes (i + 2) depth (Some f.point.index) es) (runs-unpaired one bytes (i + 1) (depth_after e.kind depth) (Some e.point.index) (f ∷ es))
  where
    either : (b : Bool) (rs ss : List Run) → AreUnpaired rs → AreUnpaired ss → AreUnpaired (cond b (run_at one bytes i e f before (index_of_event (slice_get es 0)) ∷ rs) ss)
    either true rs ss h k = ((refl, refl), h)
    either false rs ss h k = k

pub unpaired-in : (one : Bool) (bytes : List ℕ) (events : List Event) → AreUnpaired (runs_in one bytes events)
unpaired-in one bytes events = runs-unpaired one bytes 0 0 None events

-- so, with their pairs, neighbours among them are beside one another
pub beside-in : (one : Bool) (bytes : List ℕ) (events : List Event) → AreBeside (paired (runs_in one bytes events))
beside-in one bytes events = pairs-beside (runs_in one bytes events) (unpaired-in one bytes events)
