-- The chains of cells change links alone.
use Rattle.std.proofs.Common.{◌≡◌, ℕ, zero, suc, ◌+◌, ◌<◌, ◌≤◌, Bool, true, false, cond, List, [], ◌∷◌, ◌++◌, append-nil, length, map, take, drop, refl, ap, ◌∙◌, arith, get_or, slice_set}
use Rattle.std.proofs.lemmas.List.{drop_all, length-append, take-append-drop, take_all}
use Rattle.markdown_base.specs.declared.event.Event.{Event}
use Rattle.mdblock_table_marks.specs.Cells.{as_text, celled, enters_cell}
use Rattle.mdblock_table_marks.specs.Laws.{CellsCanBeOff, CellsKeepEvents}

-- what as_text keeps
module _ {A : Type 0} (f : Event → A) (keeps : (e : Event) → f (as_text e) ≡ f e) where
  celled-keeps : (is_cell : Bool) (es : List Event) → map f (celled is_cell es) ≡ map f es
  celled-keeps is_cell [] = refl
  celled-keeps true (e ∷ es) = λ i. keeps e i ∷ celled-keeps (enters_cell e) es i
  celled-keeps false (e ∷ es) = ap (λ l. f e ∷ l) (celled-keeps (enters_cell e) es)

  kept : (b : Bool) (es : List Event) → map f (cond b (celled false es) es) ≡ map f es
  kept true es = celled-keeps false es
  kept false es = refl

pub cells_can_be_off : CellsCanBeOff
cells_can_be_off on events off = ap (λ b. cond b (celled false events) events) off

pub cells_keep_events : CellsKeepEvents
cells_keep_events on events = (kept (λ e. e.kind) (λ e. refl) on.gfm_table events, kept (λ e. e.name) (λ e. refl) on.gfm_table events, kept (λ e. e.point) (λ e. refl) on.gfm_table events)

-- ---- events one after another

-- the last of events enters the text of a cell, or, if there is none, so it was before
abbrev pub enters-last : Bool → List Event → Bool
enters-last b [] = b
enters-last b (e ∷ es) = enters-last (enters_cell e) es

pub celled-length : (b : Bool) (es : List Event) → length (celled b es) ≡ length es
celled-length b [] = refl
celled-length b (e ∷ es) = ap suc (celled-length (enters_cell e) es)

-- so many events are done, and the others are as they were
abbrev pub done : ℕ → List Event → List Event
done i es = celled false (take i es) ++ drop i es

pub done-length : (i : ℕ) (es : List Event) → length (done i es) ≡ length es
done-length i es =
    omega (arith, length-append (celled false (take i es)) (drop i es), celled-length false (take i es), ap (λ (l : List Event). length l) (take-append-drop i es), length-append (take i es) (drop i es))

one-more : (b : Bool) (es : List Event) (i : ℕ) (d : Event) → i < length es
    → let ys = celled b (take i es) ++ drop i es in slice_set ys i (cond (enters-last b (take i es)) (as_text (get_or ys i d)) (get_or ys i d)) ≡ celled b (take (suc i) es) ++ drop (suc i) es
one-more b [] i d lt = absurd (omega arith)
one-more b (e ∷ es) zero d lt = refl
one-more b (e ∷ es) (suc i) d lt = ap (λ l. cond b (as_text e) e ∷ l) (one-more (enters_cell e) es i d (omega arith))

one-enters : (b : Bool) (es : List Event) (i : ℕ) (d : Event) → i < length es → let ys = celled b (take i es) ++ drop i es in enters_cell (get_or ys i d) ≡ enters-last b (take (suc i) es)
one-enters b [] i d lt = absurd (omega arith)
one-enters b (e ∷ es) zero d lt = refl
one-enters b (e ∷ es) (suc i) d lt = one-enters (enters_cell e) es i d (omega arith)

-- one more is done
pub done-more : (ys es : List Event) (i : ℕ) (d : Event) (b : Bool) → ys ≡ done i es → b ≡ enters-last false (take i es) → i < length es
    → slice_set ys i (cond b (as_text (get_or ys i d)) (get_or ys i d)) ≡ done (i + 1) es
done-more ys es i d b e f lt =
    let next : suc i ≡ i + 1 = omega arith in
    (λ k. slice_set (e k) i (cond (f k) (as_text (get_or (e k) i d)) (get_or (e k) i d))) ∙ one-more false es i d lt ∙ ap (λ n. done n es) next

pub enters-more : (ys es : List Event) (i : ℕ) (d : Event) → ys ≡ done i es → i < length es → enters_cell (get_or ys i d) ≡ enters-last false (take (i + 1) es)
enters-more ys es i d e lt =
    let next : suc i ≡ i + 1 = omega arith in
    ap (λ l. enters_cell (get_or l i d)) e ∙ one-enters false es i d lt ∙ ap (λ n. enters-last false (take n es)) next

-- all are done
pub done-all : (i : ℕ) (es : List Event) → length es ≤ i → done i es ≡ celled false es
done-all i es le = (λ k. celled false (take_all i es le k) ++ drop_all i es le k) ∙ append-nil (celled false es)
