-- The chains of a skeleton with the texts of cells: what an event of it was, and that the texts of cells are data.
use Rattle.std.proofs.Common.{◌≡◌, ◌∙◌, ℕ, zero, suc, Bool, true, false, cond, List, [], ◌∷◌, Some, ap, inl, inr, refl, sym}
use Rattle.std.proofs.lemmas.Bool.{false≢true}
use Rattle.std.proofs.lemmas.Option.{same_Some}
use Rattle.std.specs.Prelude.{slice_get}
use Rattle.markdown_base.specs.declared.configuration.Constructs.{Constructs}
use Rattle.markdown_base.specs.declared.event.Content.TheVariants as content
use Rattle.markdown_base.specs.declared.event.Event.{Event}
use Rattle.markdown_base.specs.declared.event.Name.TheVariants.{Data}
use Rattle.markdown_edits.specs.Links.{content_at}
use Rattle.markdown_tokenizer.specs.Text.{Given, IsDocument}
use Rattle.mdblock_table_marks.specs.CellPlaces.{is_cell_at}
use Rattle.mdblock_table_marks.specs.Cells.{BeginsWithData, CellsHaveData, as_text, celled, enters_cell, with_cells}
use Rattle.mdblock_definitions.proofs.SectionsReady.{skeletons-have-one-content}
use Rattle.mdblock_definitions.specs.Blocks.{document_skeleton}
use Rattle.mddocument.proofs.InContainers.CellLinks.{content-same, either, event-at, event-was}
use Rattle.mddocument.proofs.InContainers.Celled.{name-same}
use Rattle.mddocument.proofs.InContainers.CellsKeep.{with-cells-by}
use Rattle.mddocument.proofs.InContainers.SkeletonCells.{skeleton-data}
use Rattle.mddocument.proofs.InContainers.Skeletons.{skeleton_chains}

-- an event was one of this name, at this place
pub record Was (old : List Event) (k : ℕ) (e : Event) : Type 0 where
  pub event : Event
  pub there : slice_get old k ≡ Some event
  pub named : e.name ≡ event.name
  pub place : e.point ≡ event.point

point-same : (b : Bool) (e : Event) → (cond b (as_text e) e).point ≡ e.point
point-same true e = refl
point-same false e = refl

was-celled : (es : List Event) (k : ℕ) (e : Event) → slice_get (celled false es) k ≡ Some e → Was es k e
was-celled es k e at =
    let old = event-was false es k e at in
    let b = is_cell_at false es k in
    let same : cond b (as_text old.0) old.0 ≡ e = same_Some (cond b (as_text old.0) old.0) e (sym (event-at false es k old.0 old.1) ∙ at) in
    record { event = old.0; there = old.1; named = sym (ap (λ (x : Event). x.name) same) ∙ name-same b old.0; place = sym (ap (λ (x : Event). x.point) same) ∙ point-same b old.0 }

pub was : (on : Constructs) (es : List Event) (k : ℕ) (e : Event) → slice_get (with_cells on es) k ≡ Some e → Was es k e
was on es k e = with-cells-by (λ l. slice_get l k ≡ Some e → Was es k e) on es (was-celled es k e) (λ at. record { event = e; there = at; named = refl; place = refl })

-- what comes directly behind the enter of the text of a cell is data
cell-is-data : (b : Bool) (es : List Event) (k : ℕ) (e : Event) → (b ≡ true → BeginsWithData es) → CellsHaveData es → is_cell_at b es k ≡ true → slice_get es k ≡ Some e → e.name ≡ Data
cell-is-data b [] k e at more is here = absurd (false≢true is)
cell-is-data b (x ∷ []) zero e at more is here = absurd (at is)
cell-is-data b (x ∷ y ∷ es) zero e at more is here = sym (ap (λ (z : Event). z.name) (same_Some x e here)) ∙ (at is).1
cell-is-data b (x ∷ es) (suc k) e at more is here = cell-is-data (enters_cell x) es k e more.0 more.1 is here

module _ (g : Given) (is : IsDocument g) where
  abbrev sk : List Event
  sk = document_skeleton g

  no-text : (k : ℕ) → content_at sk k ≡ Some content.Text → ⊥
  no-text k at = absurd (let no : content.Text ≡ content.Content = skeletons-have-one-content g is k content.Text at in cc)

  -- a chain of text is data
  pub text-is-data : (k : ℕ) (e : Event) → slice_get (skeleton_chains g) k ≡ Some e → content_at (skeleton_chains g) k ≡ Some content.Text → e.name ≡ Data
  text-is-data k e = with-cells-by (λ es. slice_get es k ≡ Some e → content_at es k ≡ Some content.Text → e.name ≡ Data) g.options.constructs sk of-cells (λ at c. absurd (no-text k c))
    where
      of-cells : slice_get (celled false sk) k ≡ Some e → content_at (celled false sk) k ≡ Some content.Text → e.name ≡ Data
      of-cells at c =
          let it = was-celled sk k e at in
          elim (either (is_cell_at false sk k)) [
            | inl cell ↦ it.named ∙ cell-is-data false sk k it.event (λ h. absurd (false≢true h)) (skeleton-data g) cell it.there
            | inr none ↦ absurd (no-text k (sym (content-same false sk k none) ∙ c))
          ]
