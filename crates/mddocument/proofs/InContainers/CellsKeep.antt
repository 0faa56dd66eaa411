-- What events keep with the texts of cells as chains: as links alone change, they are balanced, in order, at their places, and so on.
use Rattle.std.proofs.Common.{◌≡◌, ◌∙◌, ℕ, ◌+◌, Bool, true, false, cond, List, [], ◌∷◌, ◌++◌, ap, inl, inr, refl, sym}
use Rattle.std.specs.Prelude.{AllPairs, Option, Some, slice_get}
use Rattle.std.specs.List.{AllByRecursion}
use Rattle.std.proofs.lemmas.List.Elements.{All-from_recursion, recursion_from_All}
use Rattle.std.proofs.lemmas.Option.{same_Some}
use Rattle.markdown_base.specs.declared.configuration.Constructs.{Constructs}
use Rattle.markdown_base.specs.declared.event.Content.{Content}
use Rattle.markdown_base.specs.declared.event.Event.{Event}
use Rattle.markdown_base.specs.declared.event.Point.{Point}
use Rattle.markdown_base.specs.Events.{IsBalanced, IsInOrder, IsVoidTight, is_enter, is_void}
use Rattle.markdown_base.specs.Places.{IsPointOf, IsShown, stands_before}
use Rattle.markdown_base.specs.Virtual.{Seat}
use Rattle.markdown_base.proofs.Seats.{stands-self}
use Rattle.markdown_tokenizer.specs.AtPlaces.{AreAtPlaces}
use Rattle.markdown_tokenizer.specs.Engine.{IsWellFormed}
use Rattle.markdown_tokenizer.specs.Text.{Given}
use Rattle.markdown_children.specs.Chains.{some_fits}
use Rattle.markdown_children.specs.NextContent.{HasTextInGaps}
use Rattle.mdconstructs_machines.specs.Innermost.{AccountFor, ended_next, innermost_spans}
use Rattle.mdblock_table_marks.specs.Cells.{as_text, celled, enters_cell, with_cells}
use Rattle.mdblock_table_marks.specs.CellPlaces.{CellsAreFree, is_cell_at}
use Rattle.mddocument.proofs.InContainers.CellLinks.{content-same, event-at, event-was, next-not, next-same, place-same}
use Rattle.mddocument.proofs.InContainers.Celled.{alike-balanced, alike-celled, kind-same, name-same}
use Rattle.mddocument.proofs.InContainers.Order.{Steady, pairs-steady, steady-pairs}

-- what is kept by links, with tables on and off
pub with-cells-by : (P : List Event → Type 0) (on : Constructs) (es : List Event) → P (celled false es) → P es → P (with_cells on es)
with-cells-by P on es h k = by on.gfm_table
  where
    by : (b : Bool) → P (cond b (celled false es) es)
    by true = h
    by false = k

-- ---- each event
pub celled-each : (P : Event → Type 0) → ((e : Event) → P e → P (as_text e)) → (b : Bool) (es : List Event) → AllByRecursion P es → AllByRecursion P (celled b es)
celled-each P keep b [] h = tt
celled-each P keep true (e ∷ es) h = (keep e h.0, celled-each P keep (enters_cell e) es h.1)
celled-each P keep false (e ∷ es) h = (h.0, celled-each P keep (enters_cell e) es h.1)

pub cells-each : (P : Event → Type 0) → ((e : Event) → P e → P (as_text e)) → (on : Constructs) (es : List Event) → AllByRecursion P es → AllByRecursion P (with_cells on es)
cells-each P keep on es h = with-cells-by (AllByRecursion P) on es (celled-each P keep false es h) h

-- ---- they are well formed
module _ (es : List Event) where
  abbrev new : List Event
  new = celled false es

  pub celled-balanced : IsBalanced es → IsBalanced new
  celled-balanced is = alike-balanced es new (alike-celled false es) is

  -- the event at an index was one of the same kind and name
  was : (k : ℕ) (e : Event) → slice_get new k ≡ Some e → (f : Event) × (slice_get es k ≡ Some f) × (e.kind ≡ f.kind) × (e.name ≡ f.name)
  was k e at =
      let old = event-was false es k e at in
      let b = is_cell_at false es k in
      let same : cond b (as_text old.0) old.0 ≡ e = same_Some (cond b (as_text old.0) old.0) e (sym (event-at false es k old.0 old.1) ∙ at) in
      (old.0, old.1, sym (ap (λ (x : Event). x.kind) same) ∙ kind-same b old.0, sym (ap (λ (x : Event). x.name) same) ∙ name-same b old.0)

  pub celled-tight : IsVoidTight es → IsVoidTight new
  celled-tight h k e at enters void =
      let old = was k e at in
      let exit = h k old.0 old.1 (sym old.2 ∙ enters) (ap is_void (sym old.3) ∙ void) in
      let b = is_cell_at false es (k + 1) in
      (cond b (as_text exit.0) exit.0, event-at false es (k + 1) exit.0 exit.1, kind-same b exit.0 ∙ exit.2, name-same b exit.0 ∙ exit.3 ∙ sym old.3)

  pub celled-at-places : (t : ℕ) (bytes : List ℕ) → AreAtPlaces t bytes es → AreAtPlaces t bytes new
  celled-at-places t bytes h =
      let At = λ (e : Event). IsPointOf t bytes e.point in
      All-from_recursion At new (celled-each At (λ e k. k) false es (recursion_from_All At es h))

abbrev Any : Point → Type 0
Any p = Unit {0}

any-at : (es : List Event) → AllByRecursion (λ (e : Event). Any e.point) es
any-at [] = tt
any-at (e ∷ es) = (tt, any-at es)

steady-celled : (b : Bool) (p : Point) (es : List Event) → Steady Any p es → Steady Any p (celled b es)
steady-celled b p [] h = tt
steady-celled true p (e ∷ es) h = (h.0, h.1, steady-celled (enters_cell e) e.point es h.2)
steady-celled false p (e ∷ es) h = (h.0, h.1, steady-celled (enters_cell e) e.point es h.2)

-- places do not decrease
pairs-celled : (es : List Event) → AllPairs (λ (e f : Event). stands_before f.point e.point ≡ false) es → AllPairs (λ (e f : Event). stands_before f.point e.point ≡ false) (celled false es)
pairs-celled [] h = h
pairs-celled (e ∷ es) h =
    let steady = steady-pairs Any e es h (any-at es) in
    pairs-steady Any e.point (celled false (e ∷ es)) (steady-celled false e.point (e ∷ es) (stands-self e.point, tt, steady))

pub celled-in-order : (bytes : List ℕ) (es : List Event) → IsInOrder bytes es → IsInOrder bytes (celled false es)
celled-in-order bytes es h =
    let Shown = λ (e : Event). IsShown bytes e.point in
    (pairs-celled es h.0, All-from_recursion Shown (celled false es) (celled-each Shown (λ e k. k) false es (recursion_from_All Shown es h.1)))

pub cells-formed : (g : Given) (on : Constructs) (es : List Event) → IsWellFormed g es → IsWellFormed g (with_cells on es)
cells-formed g on es h =
    with-cells-by (IsWellFormed g) on es
    (record { balanced = celled-balanced es h.balanced; void_tight = celled-tight es h.void_tight; at_places = celled-at-places es g.tab g.bytes h.at_places; in_order = celled-in-order g.bytes es h.in_order }) h

-- ---- they account for the same virtual bytes
inner-same : (b : Bool) (es : List Event) → innermost_spans (celled b es) ≡ innermost_spans es
inner-same b [] = refl
inner-same true (e ∷ []) = refl
inner-same false (e ∷ []) = refl
inner-same b (e ∷ f ∷ es) = two b (enters_cell e) (celled (enters_cell f) es) ∙ ap (λ l. cond (is_enter e.kind) (ended_next e (f ∷ es)) [] ++ l) (inner-same (enters_cell e) (f ∷ es))
  where
    two : (b c : Bool) (l : List Event)
        → innermost_spans (cond b (as_text e) e ∷ cond c (as_text f) f ∷ l) ≡ cond (is_enter e.kind) (ended_next e (f ∷ es)) [] ++ innermost_spans (cond c (as_text f) f ∷ l)
    two true true l = refl
    two true false l = refl
    two false true l = refl
    two false false l = refl

pub cells-account : (on : Constructs) (es : List Event) (bytes : List ℕ) (seats : List Seat) → AccountFor es bytes seats → AccountFor (with_cells on es) bytes seats
cells-account on es bytes seats h =
    with-cells-by (λ l. AccountFor l bytes seats) on es (record { stretches = h.stretches; are_all = h.are_all; are_innermost = inner-same false es ∙ h.are_innermost }) h

-- ---- and their chains are as they were
module _ (on : Constructs) (es : List Event) (free : CellsAreFree false es) where
  pub cells-gaps : (wanted : Option Content) → HasTextInGaps wanted es → HasTextInGaps wanted (with_cells on es)
  cells-gaps wanted h = with-cells-by (HasTextInGaps wanted) on es celled-gaps h
    where
      celled-gaps : HasTextInGaps wanted (celled false es)
      celled-gaps k d fit e =
          let old = sym (next-same false es k free) ∙ e in
          elim (h k d (ap (some_fits wanted) (sym (content-same false es k (next-not false es k d free old))) ∙ fit) old) [
            | inl near ↦ inl near
            | inr text ↦ inr ((λ i. stands_before (place-same false es (k + 1) i) (place-same false es d i)) ∙ text)
          ]
