-- Marks whose cells stand apart: so do those of their events, be they linked.
use Rattle.std.proofs.Common.{◌≡◌, ℕ, zero, suc, ◌+◌, ◌<◌, ◌≤◌, Bool, true, false, cond, List, [], ◌∷◌, ◌++◌, arith, refl, sym, ap, ◌∙◌, subst}
use Rattle.std.specs.Prelude.{Option, None, Some, is_some, unwrap_or}
use Rattle.std.proofs.lemmas.Bool.{false≢true}
use Rattle.markdown_base.specs.declared.event.Event.{Event}
use Rattle.markdown_edits.specs.Links.{next_of}
use Rattle.markdown_base.specs.OpenNames.{names_after_all}
use Rattle.mdblock_leaf_blocks.specs.LeafEvents.{Mark}
use Rattle.mdblock_containers.specs.SeatPlaces.{events_of}
use Rattle.mdblock_containers.specs.Skeleton.{chained_from, next_chunk}
use Rattle.mdblock_containers.specs.Written.{waits}
use Rattle.mdblock_containers.proofs.SkeletonChains.{Due, Runs, Unlinked, a_chunk, alone_unlinked, an_exit, behind_alone, chunk_is, idle, next_due, no_next_of, waits as due_waits}
use Rattle.mdblock_table_marks.specs.Cells.{BeginsWithData, CellsHaveData, enters_cell}
use Rattle.mdblock_table_marks.specs.CellPlaces.{AreApart, CellsAreFree, NoCellInGaps, NoCells, ends_entering, is_cell_at}

-- ---- links change nothing

chained-free : (b w : Bool) (i : ℕ) (previous : Option ℕ) (ms : List Mark) (due : Due) → Runs ms due → AreApart b w ms → CellsAreFree b (chained_from i previous ms)
chained-free b w i previous [] due runs h = tt
chained-free b w i previous ((e, None) ∷ ms) due runs h =
    let (f, rest, same) = behind_alone e ms due runs in
    ((λ is. alone_unlinked due e ms runs), chained-free (enters_cell e) w (suc i) previous ms f rest h.1)
chained-free b w i previous ((e, Some k) ∷ ms) due runs h =
    ((λ is. absurd (false≢true (sym h.0 ∙ is))), chained-free (enters_cell e) k.has_next (suc i) (Some i) ms (next_due k.has_next) (chunk_is e k ms due runs).1 h.1)

-- ---- between two chunks

first-none : (es : List Event) → is_cell_at false es 0 ≡ false
first-none [] = refl
first-none (e ∷ es) = refl

-- up to the next chunk
run-none : (b : Bool) (i d : ℕ) (previous : Option ℕ) (ms : List Mark) → AreApart b true ms → next_chunk i ms ≡ Some d → (m : ℕ) → 1 ≤ m → i + m < d → is_cell_at b (chained_from i previous ms) m ≡ false
run-none b i d previous [] h is m from to = refl
run-none b i d previous ((e, Some k) ∷ ms) h is m from to = let same : i ≡ d = ap (λ (x : Option ℕ). unwrap_or x i) is in absurd (omega (arith, same, to))
run-none b i d previous ((e, None) ∷ ms) h is zero from to = absurd (omega (arith, from))
run-none b i d previous ((e, None) ∷ ms) h is (suc zero) from to =
    let es = chained_from (suc i) previous ms in ap (λ x. is_cell_at x es 0) (h.0 refl) ∙ first-none es
run-none b i d previous ((e, None) ∷ ms) h is (suc (suc m)) from to = run-none (enters_cell e) (suc i) d previous ms h.1 is (suc m) (omega arith) (omega (arith, to))

gap-none : (b w : Bool) (i k d : ℕ) (previous : Option ℕ) (ms : List Mark) (due : Due) → Runs ms due → AreApart b w ms → next_of (chained_from i previous ms) k ≡ Some d → (m : ℕ) → k + 2 ≤ m → i + m < d → is_cell_at b (chained_from i previous ms) m ≡ false
gap-none b w i k d previous [] due runs h is m from to = refl
gap-none b w i k d previous ((e, c) ∷ ms) due runs h is zero from to = absurd (omega (arith, from))
gap-none b w i zero d previous ((e, None) ∷ ms) due runs h is (suc m) from to = absurd (no_next_of e (chained_from (suc i) previous ms) d (alone_unlinked due e ms runs) is)
gap-none b w i (suc k) d previous ((e, None) ∷ ms) due runs h is (suc m) from to =
    let (f, rest, same) = behind_alone e ms due runs in
    gap-none (enters_cell e) w (suc i) k d previous ms f rest h.1 is m (omega (arith, from)) (omega (arith, to))
gap-none b w i zero d previous ((e, Some c) ∷ ms) due runs h is (suc m) from to = by c.has_next h.1 is
  where
    by : (n : Bool) → AreApart (enters_cell e) n ms → cond n (next_chunk (suc i) ms) None ≡ Some d → is_cell_at (enters_cell e) (chained_from (suc i) (Some i) ms) m ≡ false
    by true apart at = run-none (enters_cell e) (suc i) d (Some i) ms apart at m (omega (arith, from)) (omega (arith, to))
    by false apart at = absurd (false≢true (ap is_some at))
gap-none b w i (suc k) d previous ((e, Some c) ∷ ms) due runs h is (suc m) from to =
    gap-none (enters_cell e) c.has_next (suc i) k d (Some i) ms (next_due c.has_next) (chunk_is e c ms due runs).1 h.1 is m (omega (arith, from)) (omega (arith, to))

-- marks of which each chunk's run is whole
module _ (ms : List Mark) (runs : Runs ms idle) (apart : AreApart false false ms) where
  pub cells-free : CellsAreFree false (chained_from 0 None ms)
  cells-free = chained-free false false 0 None ms idle runs apart

  pub no-cell-in-gaps : NoCellInGaps (chained_from 0 None ms)
  no-cell-in-gaps k d is m from to = gap-none false false 0 k d None ms idle runs apart is m from (omega (arith, to))

-- ---- one behind the other

pub apart-both : (b w : Bool) (xs ys : List Mark) → AreApart b w xs → AreApart (ends_entering b xs) (waits w xs) ys → AreApart b w (xs ++ ys)
apart-both b w [] ys h k = k
apart-both b w ((e, None) ∷ xs) ys h k = (h.0, apart-both (enters_cell e) w xs ys h.1 k)
apart-both b w ((e, Some c) ∷ xs) ys h k = (h.0, apart-both (enters_cell e) c.has_next xs ys h.1 k)

pub no-cells-both : (xs ys : List Mark) → NoCells xs → NoCells ys → NoCells (xs ++ ys)
no-cells-both [] ys h k = k
no-cells-both ((e, c) ∷ xs) ys h k = (h.0, no-cells-both xs ys h.1 k)

pub no-cells-apart : (w : Bool) (ms : List Mark) → NoCells ms → AreApart false w ms
no-cells-apart w [] h = tt
no-cells-apart w ((e, None) ∷ ms) h = ((λ is. h.0), subst (λ (b : Bool). AreApart b w ms) (sym h.0) (no-cells-apart w ms h.1))
no-cells-apart w ((e, Some c) ∷ ms) h = (refl, subst (λ (b : Bool). AreApart b c.has_next ms) (sym h.0) (no-cells-apart c.has_next ms h.1))

pub no-cells-end : (ms : List Mark) → NoCells ms → ends_entering false ms ≡ false
no-cells-end [] h = refl
no-cells-end ((e, c) ∷ ms) h = ap (λ b. ends_entering b ms) h.0 ∙ no-cells-end ms h.1

-- marks without chunks, behind which nothing waits
pub unlinked-apart : (b : Bool) (ms : List Mark) → Unlinked ms → AreApart b false ms
unlinked-apart b [] h = tt
unlinked-apart b ((e, None) ∷ ms) h = ((λ is. absurd (false≢true is)), unlinked-apart (enters_cell e) ms h.1)
unlinked-apart b ((e, Some c) ∷ ms) h = absurd h

pub data-ends : (b : Bool) (ms : List Mark) → (b ≡ true → BeginsWithData (events_of ms)) → CellsHaveData (events_of ms) → ends_entering b ms ≡ false
data-ends false [] due h = refl
data-ends true [] due h = absurd (due refl)
data-ends b ((e, c) ∷ ms) due h = data-ends (enters_cell e) ms h.0 h.1

-- behind whole runs nothing waits
due-waits : (b : Bool) → due_waits (next_due b) ≡ b
due-waits true = refl
due-waits false = refl

runs-wait : (ms : List Mark) (due : Due) → Runs ms due → waits (due_waits due) ms ≡ false
runs-wait [] idle h = refl
runs-wait [] an_exit h = absurd h
runs-wait [] (a_chunk p o) h = absurd h
runs-wait ((e, None) ∷ ms) idle h = runs-wait ms idle h.1
runs-wait ((e, None) ∷ ms) an_exit h = runs-wait ms (a_chunk e.point (Some [])) h.1
runs-wait ((e, None) ∷ ms) (a_chunk p o) h = runs-wait ms (a_chunk p (names_after_all o (e ∷ []))) h.1
runs-wait ((e, Some k) ∷ ms) due h = ap (λ b. waits b ms) (sym (due-waits k.has_next)) ∙ runs-wait ms (next_due k.has_next) (chunk_is e k ms due h).1

-- marks of which each run is whole, and others behind them
pub apart-more : (xs ys : List Mark) → Runs xs idle → AreApart false false xs → ends_entering false xs ≡ false → AreApart false false ys → AreApart false false (xs ++ ys)
apart-more xs ys runs h none k = apart-both false false xs ys h (subst (λ (b : Bool). AreApart b (waits false xs) ys) (sym none) (subst (λ (w : Bool). AreApart false w ys) (sym (runs-wait xs idle runs)) k))
