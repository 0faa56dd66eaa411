-- With the texts of cells as chains, events can be read as before, and so can these chains.
use Rattle.std.proofs.Common.{◌≡◌, ℕ, zero, suc, ◌+◌, ◌-◌, Bool, true, false, cond, List, [], ◌∷◌, drop, inl, inr, refl, sym, ap, ◌∙◌, subst, take}
use Rattle.std.specs.Prelude.{◌&&◌, Option, None, Some, slice_get}
use Rattle.std.specs.List.{between}
use Rattle.std.proofs.Math.Bool.{and-false}
use Rattle.std.proofs.lemmas.Bool.{false≢true}
use Rattle.markdown_base.specs.declared.configuration.Constructs.{Constructs}
use Rattle.markdown_base.specs.declared.event.Content.{Content}
use Rattle.markdown_base.specs.declared.event.Content.TheVariants.{Text as TextContent}
use Rattle.markdown_base.specs.declared.event.Content.TheVariants as content
use Rattle.markdown_base.specs.declared.event.Event.{Event}
use Rattle.markdown_base.specs.declared.event.Name.{Name}
use Rattle.markdown_base.specs.declared.event.Name.TheVariants as name
use Rattle.markdown_base.specs.Events.{IsBalanced, is_enter, is_void, same_name}
use Rattle.markdown_base.specs.Places.{stands_before}
use Rattle.markdown_base.proofs.Balanced.{balanced_from_open, names_after_balanced}
use Rattle.markdown_edits.specs.Links.{IsChunk, content_at, next_of}
use Rattle.markdown_base.specs.OpenNames.{names_after, names_after_all}
use Rattle.markdown_children.specs.Chains.{fits, some_fits}
use Rattle.markdown_children.specs.Ready.{IsGap, IsReadable, IsReady, IsShownPlace, place_at}
use Rattle.mdblock_containers.proofs.TightMarks.{one_more}
use Rattle.mdblock_table_marks.specs.Cells.{BeginsWithData, CellsHaveData, as_text, celled, enters_cell, with_cells}
use Rattle.mdblock_table_marks.specs.CellPlaces.{CellsAreFree, NoCellInGaps, is_cell_at}
use Rattle.mddocument.proofs.InContainers.CellLinks.{content-cell, content-same, either, event-at, event-was, next-not, next-same, place-same, previous-not, previous-same}

-- ---- names

-- events one by one of the same kinds and names
abbrev pub AreAlike : List Event → List Event → Type 0
AreAlike [] [] = Unit {0}
AreAlike [] (f ∷ fs) = ⊥
AreAlike (e ∷ es) [] = ⊥
AreAlike (e ∷ es) (f ∷ fs) = (e.kind ≡ f.kind) × ((e.name ≡ f.name) × AreAlike es fs)

pub alike-celled : (b : Bool) (es : List Event) → AreAlike es (celled b es)
alike-celled b [] = tt
alike-celled true (e ∷ es) = (refl, (refl, alike-celled (enters_cell e) es))
alike-celled false (e ∷ es) = (refl, (refl, alike-celled (enters_cell e) es))

alike-take : (n : ℕ) (es fs : List Event) → AreAlike es fs → AreAlike (take n es) (take n fs)
alike-take zero es fs h = tt
alike-take (suc n) [] [] h = tt
alike-take (suc n) [] (f ∷ fs) h = absurd h
alike-take (suc n) (e ∷ es) [] h = absurd h
alike-take (suc n) (e ∷ es) (f ∷ fs) h = (h.0, (h.1.0, alike-take n es fs h.1.1))

alike-drop : (n : ℕ) (es fs : List Event) → AreAlike es fs → AreAlike (drop n es) (drop n fs)
alike-drop zero es fs h = h
alike-drop (suc n) [] [] h = tt
alike-drop (suc n) [] (f ∷ fs) h = absurd h
alike-drop (suc n) (e ∷ es) [] h = absurd h
alike-drop (suc n) (e ∷ es) (f ∷ fs) h = alike-drop n es fs h.1.1

alike-names : (o : Option (List Name)) (es fs : List Event) → AreAlike es fs → names_after_all o es ≡ names_after_all o fs
alike-names None es fs h = refl
alike-names (Some st) [] [] h = refl
alike-names (Some st) [] (f ∷ fs) h = absurd h
alike-names (Some st) (e ∷ es) [] h = absurd h
alike-names (Some st) (e ∷ es) (f ∷ fs) h = (λ i. names_after_all (names_after (h.0 i) (h.1.0 i) st) es) ∙ alike-names (names_after f.kind f.name st) es fs h.1.1

pub alike-balanced : (es fs : List Event) → AreAlike es fs → IsBalanced es → IsBalanced fs
alike-balanced es fs h is = balanced_from_open fs (sym (alike-names (Some []) es fs h) ∙ names_after_balanced is [])

-- ---- chunks

pub kind-same : (b : Bool) (e : Event) → (cond b (as_text e) e).kind ≡ e.kind
kind-same true e = refl
kind-same false e = refl

pub name-same : (b : Bool) (e : Event) → (cond b (as_text e) e).name ≡ e.name
name-same true e = refl
name-same false e = refl

-- a chunk stays one
chunk-stays : (es : List Event) (k : ℕ) → is_cell_at false es k ≡ false → IsChunk es k → IsChunk (celled false es) k
chunk-stays es k none c =
    let b = is_cell_at false es (k + 1) in
    record {
      enter = c.enter;
      exit = cond b (as_text c.exit) c.exit;
      enter_at = event-at false es k c.enter c.enter_at ∙ ap (λ x. Some (cond x (as_text c.enter) c.enter)) none;
      exit_at = event-at false es (k + 1) c.exit c.exit_at;
      linked = c.linked;
      ended = record { exits = kind-same b c.exit ∙ c.ended.exits; same = name-same b c.exit ∙ c.ended.same };
    }

data-is-no-cell : (e : Event) → e.name ≡ name.Data → enters_cell e ≡ false
data-is-no-cell e is = ap (λ n. is_enter e.kind && same_name n name.GfmTableCellText) is ∙ and-false (is_enter e.kind)

-- the text of a cell comes to be one
cell-chunk : (b : Bool) (es : List Event) (k : ℕ) → CellsHaveData es → (b ≡ true → BeginsWithData es) → is_cell_at b es k ≡ true → IsChunk (celled b es) k
cell-chunk b [] k cells due is = absurd (false≢true is)
cell-chunk false (e ∷ es) zero cells due is = absurd (false≢true is)
cell-chunk true (e ∷ []) zero cells due is = absurd (due refl)
cell-chunk true (e ∷ f ∷ es) zero cells due is =
    let own = due refl in
    record {
      enter = as_text e;
      exit = f;
      enter_at = refl;
      exit_at = ap (λ b. Some (cond b (as_text f) f)) (data-is-no-cell e own.1);
      linked = record { enter = own.0; void = ap is_void own.1; linked = refl };
      ended = record { exits = own.2; same = own.3 ∙ sym own.1 };
    }
cell-chunk true (e ∷ es) (suc k) cells due is = one_more (as_text e) (celled (enters_cell e) es) k (cell-chunk (enters_cell e) es k cells.1 cells.0 is)
cell-chunk false (e ∷ es) (suc k) cells due is = one_more e (celled (enters_cell e) es) k (cell-chunk (enters_cell e) es k cells.1 cells.0 is)

-- ---- they can be read

module _ (t : ℕ) (bytes : List ℕ) (wanted : Option Content) (es : List Event) (ready : IsReady t bytes wanted es) (cells : CellsHaveData es) (free : CellsAreFree false es) (apart : NoCellInGaps es)
    (places : (k : ℕ) (e : Event) → slice_get es k ≡ Some e → IsShownPlace t bytes (place_at es k))
    (order : (k : ℕ) (e : Event) → slice_get es (k + 1) ≡ Some e → stands_before (place_at es (k + 1)) (place_at es k) ≡ false) where
  abbrev new : List Event
  new = celled false es

  abbrev cell : ℕ → Bool
  cell k = is_cell_at false es k

  next-was : (k d : ℕ) → next_of new k ≡ Some d → next_of es k ≡ Some d
  next-was k d e = sym (next-same false es k free) ∙ e

  chunks-are : (k : ℕ) (c : Content) → content_at new k ≡ Some c → IsChunk new k
  chunks-are k c at = elim (either (cell k)) [
    | inl is ↦ cell-chunk false es k cells (λ e. absurd (false≢true e)) is
    | inr none ↦ chunk-stays es k none (ready.chunks k c (sym (content-same false es k none) ∙ at))
  ]

  shown-same : (k : ℕ) → IsShownPlace t bytes (place_at es k) → IsShownPlace t bytes (place_at new k)
  shown-same k h = subst (IsShownPlace t bytes) (sym (place-same false es k)) h

  before-same : (j k : ℕ) → stands_before (place_at es j) (place_at es k) ≡ false → stands_before (place_at new j) (place_at new k) ≡ false
  before-same j k h = (λ i. stands_before (place-same false es j i) (place-same false es k i)) ∙ h

  readable-is : (k : ℕ) → fits wanted new k ≡ true → IsReadable t bytes new k
  readable-is k fit = elim (either (cell k)) [
    | inl is ↦
        (let chunk = cell-chunk false es k cells (λ e. absurd (false≢true e)) is in
        let enter = event-was false es k chunk.enter chunk.enter_at in
        let exit = event-was false es (k + 1) chunk.exit chunk.exit_at in
        record {
          content = λ flow. other (sym (content-cell false es k is) ∙ flow);
          from = shown-same k (places k enter.0 enter.1);
          to = shown-same (k + 1) (places (k + 1) exit.0 exit.1);
          forward = before-same (k + 1) k (order k exit.0 exit.1);
        })
    | inr none ↦
        (let old = ready.readable k (ap (some_fits wanted) (sym (content-same false es k none)) ∙ fit) in
        record {
          content = λ flow. old.content (sym (content-same false es k none) ∙ flow);
          from = shown-same k old.from;
          to = shown-same (k + 1) old.to;
          forward = before-same (k + 1) k old.forward;
        })
  ]
    where
      other : Some TextContent ≡ Some content.Flow → ⊥
      other e = cc

  gap-is : (k d : ℕ) → fits wanted new k ≡ true → next_of new k ≡ Some d → IsGap new k d
  gap-is k d fit e =
      let was = next-was k d e in
      let none = next-not false es k d free was in
      let old = ready.gaps k d (ap (some_fits wanted) (sym (content-same false es k none)) ∙ fit) was in
      let here = place-same false es (k + 1) in
      let there = place-same false es d in
      record {
        forward = before-same d (k + 1) old.forward;
        in_line = elim old.in_line [
          | inl same ↦ inl (here ∙ same ∙ sym there)
          | inr begins ↦ inr ((λ i. (here i).column) ∙ begins.0, (λ i. (there i).line) ∙ begins.1 ∙ sym (λ i. (here i).line))
        ];
        balanced = alike-balanced (between (k + 2) d es) (between (k + 2) d new) (alike-take (d - (k + 2)) (drop (k + 2) es) (drop (k + 2) new) (alike-drop (k + 2) es new (alike-celled false es))) old.balanced;
        no_link = λ m from to. content-same false es m (apart k d was m from to) ∙ old.no_link m from to;
      }

  pub celled-ready : IsReady t bytes wanted new
  celled-ready = record {
    balanced = alike-balanced es new (alike-celled false es) ready.balanced;
    chunks = chunks-are;
    joined = λ i j. ((λ e. previous-same false es j free ∙ (ready.joined i j).0 (next-was i j e)), (λ e. next-same false es i free ∙ (ready.joined i j).1 (sym (previous-same false es j free) ∙ e)));
    forward = λ k d e. ready.forward k d (next-was k d e);
    one_content = λ k d e.
        let was = next-was k d e in
        content-same false es k (next-not false es k d free was) ∙ ready.one_content k d was ∙ sym (content-same false es d (previous-not false es d k free ((ready.joined k d).0 was)));
    readable = readable-is;
    gaps = gap-is;
  }

  -- The chains that were there, and those of the texts of cells, can be read
  pub cells-ready : (on : Constructs) → IsReady t bytes wanted (with_cells on es)
  cells-ready on = by on.gfm_table
    where
      by : (b : Bool) → IsReady t bytes wanted (cond b (celled false es) es)
      by true = celled-ready
      by false = ready
