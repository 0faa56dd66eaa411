-- The skeleton of a document with definitions is well formed, and its chains can be read.
use Rattle.std.proofs.Common.{List, [], sym, subst}
use Rattle.std.specs.Prelude.{None}
use Rattle.markdown_base.specs.declared.event.Point.{Point}
use Rattle.markdown_base.specs.Virtual.{Seat, end_after, point, virtual}
use Rattle.markdown_tokenizer.specs.Text.{Given, IsDocument}
use Rattle.mdconstructs_machines.proofs.BlockReads.Accounts.{lines-are-all}
use Rattle.mdconstructs_machines.specs.LineEvents.{all_of, lines_in}
use Rattle.mdblock_leaf_blocks.proofs.Marks.Courses.{Track, whole-track}
use Rattle.mdblock_leaf_blocks.specs.LeafEvents.{Mark}
use Rattle.mdblock_containers.proofs.PartSpans.{Goes}
use Rattle.mdblock_containers.proofs.SeatFacts.{document_lines, lines_end}
use Rattle.mdblock_containers.proofs.SkeletonChains.{idle, one_content_of}
use Rattle.mdblock_containers.proofs.SkeletonReady.{are_formed, are_ready, have_text_in_gaps}
use Rattle.mdblock_containers.proofs.TightMarks.{Tight}
use Rattle.mdblock_definitions.specs.Rows.{rows}
use Rattle.mdblock_definitions.specs.Sections.{sections}
use Rattle.mdblock_definitions.specs.Skeleton.{sections_marks}
use Rattle.mdblock_definitions.specs.SkeletonLaws.{SkeletonsAreFormed, SkeletonsAreReady, SkeletonsHaveOneContent, SkeletonsHaveTextInGaps}
use Rattle.mdblock_definitions.proofs.SectionGoes.{all-sections-go}
use Rattle.mdblock_definitions.proofs.SectionTight.{all-sections-tight}

module _ (g : Given) (is : IsDocument g) where
  abbrev pub seats : List Seat
  seats = virtual g.tab g.bytes

  abbrev pub marks : List Mark
  marks = sections_marks g.bytes (sections g.options.constructs (rows g.options.constructs (lines_in seats)))

  abbrev pub finish : Point
  finish = end_after (point 1 1 0 0) (all_of (lines_in seats))

  -- its marks go over all virtual bytes of the document
  pub document-goes : Goes g.tab g.bytes [] (point 1 1 0 0) marks [] finish
  document-goes =
      all-sections-go g.tab g.bytes g.options.constructs (lines_in seats) (point 1 1 0 0) (document_lines g.tab g.bytes) (lines_end seats)
      (subst (Track g.tab g.bytes (point 1 1 0 0)) (sym (lines-are-all seats)) (whole-track g.tab g.bytes is.tab.0))

  document-tight : Tight marks
  document-tight = all-sections-tight g.bytes g.options.constructs g.tab

pub skeletons-are-formed : SkeletonsAreFormed
skeletons-are-formed g is = are_formed g (marks g is) (finish g is) (document-goes g is) (document-tight g is)

pub skeletons-have-one-content : SkeletonsHaveOneContent
skeletons-have-one-content g is k c at = one_content_of 0 k c None (marks g is) idle (document-goes g is).runs at

pub skeletons-are-ready : SkeletonsAreReady
skeletons-are-ready g is wanted = are_ready g (marks g is) (finish g is) (document-goes g is) (document-tight g is) wanted

pub skeletons-have-text-in-gaps : SkeletonsHaveTextInGaps
skeletons-have-text-in-gaps g is wanted = have_text_in_gaps g (marks g is) (finish g is) (document-goes g is) (document-tight g is) wanted
