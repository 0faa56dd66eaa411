-- What the laws say of the skeleton of each document, with the texts of cells as chains.
use Rattle.std.proofs.Common.{◌≡◌, ◌∙◌, ◌⊎◌, ℕ, false, List, inl, inr, sym}
use Rattle.std.specs.Prelude.{None, Option, Some}
use Rattle.std.proofs.lemmas.Option.{same_Some}
use Rattle.std.specs.List.{AllByRecursion}
use Rattle.markdown_base.proofs.Common.{every-map}
use Rattle.markdown_base.specs.declared.event.Content.{Content}
use Rattle.markdown_base.specs.declared.event.Content.TheVariants as content
use Rattle.markdown_base.specs.declared.event.Event.{Event}
use Rattle.markdown_base.specs.Virtual.{point, virtual}
use Rattle.markdown_edits.specs.Links.{content_at}
use Rattle.markdown_children.specs.NextContent.{HasTextInGaps}
use Rattle.markdown_children.specs.Ready.{IsReady, IsShownPlace}
use Rattle.markdown_tokenizer.specs.Engine.{IsWellFormed}
use Rattle.markdown_tokenizer.specs.Text.{Given, IsDocument}
use Rattle.mdblock_definitions.specs.Blocks.{document_skeleton}
use Rattle.mdblock_containers.specs.Letters.{ArePlainFrom}
use Rattle.mdblock_definitions.specs.Skeleton.{letters}
use Rattle.mdblock_definitions.proofs.PlainLetters.{letters-are-plain}
use Rattle.mdblock_containers.proofs.SkeletonReady.{in_order, next_place, place_there, places}
use Rattle.mdblock_containers.proofs.TightMarks.{Tight}
use Rattle.mdblock_leaf_blocks.proofs.Marks.Courses.{Place}
use Rattle.mdblock_definitions.proofs.SectionTight.{all-sections-tight}
use Rattle.mdblock_definitions.proofs.SectionsReady.{document-goes, finish, marks, skeletons-are-formed, skeletons-are-ready, skeletons-have-one-content, skeletons-have-text-in-gaps}
use Rattle.mdblock_table_marks.specs.Cells.{celled, with_cells}
use Rattle.mdblock_table_marks.specs.CellPlaces.{is_cell_at}
use Rattle.mddocument.proofs.InContainers.CellLinks.{content-cell, content-same, either}
use Rattle.mddocument.proofs.InContainers.Celled.{cells-ready}
use Rattle.mddocument.proofs.InContainers.CellsKeep.{cells-formed, cells-gaps, with-cells-by}
use Rattle.mddocument.proofs.InContainers.SkeletonCells.{skeleton-data, skeleton-free, skeleton-gaps}

-- the skeleton of a document, with the text of each cell of its tables as a chain
abbrev pub skeleton_chains : Given → List Event
skeleton_chains g = with_cells g.options.constructs (document_skeleton g)

-- each chunk of a list is of content, or of text
abbrev pub HasBoth : List Event → Type 0
HasBoth events = (k : ℕ) (c : Content) → content_at events k ≡ Some c → (c ≡ content.Content) ⊎ (c ≡ content.Text)

-- it can be read, and is well formed; and letters can be put in it
pub record SkeletonLaws : Type 0 where
  pub ready : (g : Given) → IsDocument g → IsReady g.tab g.bytes (Some content.Content) (skeleton_chains g)
  pub all_ready : (g : Given) → IsDocument g → IsReady g.tab g.bytes None (skeleton_chains g)
  pub of_contents : (g : Given) → IsDocument g → HasBoth (skeleton_chains g)
  pub gaps : (g : Given) → IsDocument g → (wanted : Option Content) → HasTextInGaps wanted (skeleton_chains g)
  pub formed : (g : Given) → IsDocument g → IsWellFormed g (skeleton_chains g)
  pub plain : (g : Given) → IsDocument g → ArePlainFrom 0 (letters g.options.constructs (virtual g.tab g.bytes)) g.bytes

module _ (g : Given) (is : IsDocument g) where
  abbrev sk : List Event
  sk = document_skeleton g

  tight : Tight (marks g is)
  tight = all-sections-tight g.bytes g.options.constructs g.tab

  shown-places : AllByRecursion (λ (e : Event). IsShownPlace g.tab g.bytes e.point) sk
  shown-places =
      every-map (λ (e : Event). Place g.tab g.bytes e.point) (λ (e : Event). IsShownPlace g.tab g.bytes e.point) (λ e h. (h.is_point, h.is_shown)) sk (places g (marks g is) (finish g is) (document-goes g is) tight)

  chains-ready : (wanted : Option Content) → IsReady g.tab g.bytes wanted (skeleton_chains g)
  chains-ready wanted =
      cells-ready g.tab g.bytes wanted sk (skeletons-are-ready g is wanted) (skeleton-data g) (skeleton-free g is) (skeleton-gaps g is)
      (λ k e at. place_there (IsShownPlace g.tab g.bytes) sk k e shown-places at)
      (λ k e at. next_place (point 1 1 0 0) sk (finish g is) k e (in_order g (marks g is) (finish g is) (document-goes g is) tight) at)
      g.options.constructs

  both-contents : HasBoth (skeleton_chains g)
  both-contents = with-cells-by HasBoth g.options.constructs sk celled-both (λ k c at. inl (skeletons-have-one-content g is k c at))
    where
      celled-both : HasBoth (celled false sk)
      celled-both k c at = elim (either (is_cell_at false sk k)) [
        | inl cell ↦ inr (sym (same_Some content.Text c (sym (content-cell false sk k cell) ∙ at)))
        | inr none ↦ inl (skeletons-have-one-content g is k c (sym (content-same false sk k none) ∙ at))
      ]

pub skeleton-laws : SkeletonLaws
skeleton-laws = record {
  ready = λ g is. chains-ready g is (Some content.Content);
  all_ready = λ g is. chains-ready g is None;
  of_contents = both-contents;
  gaps = λ g is wanted. cells-gaps g.options.constructs (document_skeleton g) (skeleton-free g is) wanted (skeletons-have-text-in-gaps g is wanted);
  formed = λ g is. cells-formed g g.options.constructs (document_skeleton g) (skeletons-are-formed g is);
  plain = λ g is. letters-are-plain g.options.constructs g.tab g.bytes;
}
