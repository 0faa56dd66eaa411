-- In the skeleton of a document the texts of cells hold data, which is in no chain, and stand between no two chunks of one.
use Rattle.std.proofs.Common.{◌∙◌, ℕ, suc, true, false, List, [], ◌∷◌, ◌++◌, None, Option, Some, drop, refl, subst, sym}
use Rattle.std.specs.List.{AllByRecursion}
use Rattle.std.proofs.lemmas.Bool.{false≢true}
use Rattle.std.proofs.lemmas.List.{map-append}
use Rattle.markdown_base.specs.declared.event.Kind.{Kind}
use Rattle.markdown_base.specs.declared.event.Name.{Name}
use Rattle.markdown_base.specs.declared.event.Name.TheVariants as name
use Rattle.markdown_base.specs.declared.event.Point.{Point}
use Rattle.markdown_base.specs.Virtual.{Seat, virtual}
use Rattle.markdown_tokenizer.proofs.Positions.Order.{every-all}
use Rattle.markdown_tokenizer.specs.Text.{Given, IsDocument}
use Rattle.mdconstructs_machines.specs.LineEvents.{lines_in}
use Rattle.mdconstructs_machines.specs.Spans.{event}
use Rattle.mdblock_leaf_blocks.specs.LeafEvents.{Mark, leaf_marks}
use Rattle.mdblock_lines.specs.Containers.{Container, footnote, item, quote}
use Rattle.mdinline_labels.specs.declared.definitions.Definition.{Definition}
use Rattle.mdblock_containers.specs.Rows.{Row}
use Rattle.mdblock_containers.specs.SeatPlaces.{events_of}
use Rattle.mdblock_containers.specs.Skeleton.{Part, begun_all, chained_from, ending_marks, exits, inside_of, is_held, pieces_of, prefixes_marks}
use Rattle.mdblock_table_marks.proofs.CellData.{both-events, tables_have_cell_data}
use Rattle.mdblock_table_marks.proofs.CellGaps.{cells-free, no-cell-in-gaps, no-cells-both}
use Rattle.mdblock_table_marks.proofs.NoCellMarks.{IsOther, PlainPieces, begun-all-none, chunks-none, ending-none, exits-none, inside-none, joined-plain, leaf-none, pieces-plain, prefixes-none}
use Rattle.mdblock_table_marks.specs.CellPlaces.{CellsAreFree, NoCellInGaps, NoCells}
use Rattle.mdblock_table_marks.specs.Cells.{BeginsWithData, CellsHaveData}
use Rattle.mdblock_definitions.proofs.SectionApart.{all-sections-apart}
use Rattle.mdblock_definitions.proofs.SectionMarks.{AreAround, behind-definitions, sections-have}
use Rattle.mdblock_definitions.proofs.SectionsReady.{document-goes, marks}
use Rattle.mdblock_definitions.specs.Blocks.{document_skeleton}
use Rattle.mdblock_definitions.specs.Definitions.{definitions_marks, places_in}
use Rattle.mdblock_definitions.specs.Rows.{rows}
use Rattle.mdblock_definitions.specs.Sections.{Inside, Section, defined, lines, sections, table}
use Rattle.mdblock_definitions.specs.Skeleton.{all_rows, behind_definitions, inside_marks, sections_marks}
use Rattle.mddocument.proofs.InContainers.FlowPlain.{other-plain}
use Rattle.mddocument.proofs.Walks.InnerTexts.{AnySeat, any-seats}
use Rattle.mddocument.proofs.Walks.MarksWalk.{Walk, walk-of-marks}
use Rattle.mddocument.proofs.Walks.SkeletonWalk.{AnyContainer, AreInDefinition, MayPrefix, any-rows, any-texts, are-in-definition, definitions-are, places}

-- the data of cells is there, whether events are linked or not
abbrev HaveData : List Mark → Type 0
HaveData ms = CellsHaveData (events_of ms)

data-both : (xs ys : List Mark) → HaveData xs → HaveData ys → HaveData (xs ++ ys)
data-both xs ys h k = subst CellsHaveData (sym (map-append (λ (m : Mark). m.0) xs ys)) (both-events (events_of xs) (events_of ys) h k)

none-data : (ms : List Mark) → NoCells ms → HaveData ms
none-data [] h = tt
none-data ((e, c) ∷ ms) h = ((λ is. absurd (false≢true (sym h.0 ∙ is))), none-data ms h.1)

begins-linked : (i : ℕ) (previous : Option ℕ) (ms : List Mark) → BeginsWithData (events_of ms) → BeginsWithData (chained_from i previous ms)
begins-linked i previous [] h = h
begins-linked i previous ((e, None) ∷ []) h = h
begins-linked i previous ((e, Some k) ∷ []) h = h
begins-linked i previous ((e, None) ∷ (f, None) ∷ ms) h = h
begins-linked i previous ((e, None) ∷ (f, Some k) ∷ ms) h = h
begins-linked i previous ((e, Some c) ∷ (f, None) ∷ ms) h = h
begins-linked i previous ((e, Some c) ∷ (f, Some k) ∷ ms) h = h

data-linked : (i : ℕ) (previous : Option ℕ) (ms : List Mark) → HaveData ms → CellsHaveData (chained_from i previous ms)
data-linked i previous [] h = tt
data-linked i previous ((e, None) ∷ ms) h = ((λ is. begins-linked (suc i) previous ms (h.0 is)), data-linked (suc i) previous ms h.1)
data-linked i previous ((e, Some c) ∷ ms) h = ((λ is. begins-linked (suc i) (Some i) ms (h.0 is)), data-linked (suc i) (Some i) ms h.1)

module _ (bytes : List ℕ) where
  -- ---- definitions have no cells
  mark : (k : Kind) (n : Name) (place : Point) → IsOther n → NoCells ((event bytes k n place, None) ∷ [])
  mark k n place m = (other-plain k n m, tt)

  walk : Walk bytes NoCells IsOther AnySeat
  walk = walk-of-marks bytes NoCells IsOther tt no-cells-both mark refl refl refl

  prefix-other : (c : Container) → AnyContainer c → MayPrefix IsOther c
  prefix-other (quote q) h = (refl, refl)
  prefix-other (item i) h = (refl, refl, refl)
  prefix-other (footnote f) h = (refl, refl, refl, refl, refl, refl)

  in-definition : AreInDefinition IsOther
  in-definition = are-in-definition IsOther (refl, (refl, (refl, (refl, (refl, (refl, (refl, (refl, (refl, (refl, (refl, (refl, tt))))))))))))

  some-data : (ss : List Seat) → AllByRecursion AnySeat ss → NoCells (leaf_marks bytes name.Data ss)
  some-data ss h = leaf-none bytes name.Data ss refl

  definitions-none : (ds : List Definition) (rs : List Row) → NoCells (definitions_marks bytes ds (places_in bytes rs))
  definitions-none ds rs =
      definitions-are walk AnyContainer prefix-other AnySeat some-data in-definition NoCells tt no-cells-both (λ ms h. h) (λ seats inside h. walk.over name.Definition seats inside refl (any-seats seats) h) ds (places_in bytes rs)
      (places walk AnyContainer prefix-other AnySeat some-data rs (any-rows rs) (any-texts rs))

  -- ---- sections
  behind-none : (part : Part) → NoCells (behind_definitions bytes part)
  behind-none part =
      behind-definitions bytes NoCells (PlainPieces bytes) tt no-cells-both (λ ss. leaf-none bytes name.SpaceOrTab ss refl) (λ p ps c h. chunks-none bytes false (record p { before = []; seats = drop c p.seats } ∷ ps) ((tt, tt), h.1)) part
      (joined-plain bytes (pieces_of bytes (is_held part) part.first part.more) (pieces-plain bytes (is_held part) part.first part.more))

  inside-data : (part : Part) (i : Inside) → HaveData (inside_marks bytes part i)
  inside-data part (lines true) = none-data (behind_definitions bytes part) (behind-none part)
  inside-data part (lines false) = none-data (inside_of bytes part) (inside-none bytes part)
  inside-data part (defined ds) = none-data (definitions_marks bytes ds (places_in bytes (all_rows part))) (definitions-none ds (all_rows part))
  inside-data part table = tables_have_cell_data bytes part.first part.more

  around-data : AreAround bytes HaveData
  around-data = record {
    none = tt;
    both = data-both;
    went_on = λ ps ss. none-data (prefixes_marks bytes ps ss) (prefixes-none bytes ps ss);
    begun = λ ps ss. none-data (begun_all bytes ps ss) (begun-all-none bytes ps ss);
    ended = λ fs p. none-data (exits bytes fs p) (exits-none bytes fs p);
    ending = λ part. none-data (ending_marks bytes part) (ending-none bytes part);
  }

  sections-data : (ss : List Section) → HaveData (sections_marks bytes ss)
  sections-data ss = sections-have around-data ss (every-all (λ (s : Section). HaveData (inside_marks bytes s.part s.inside)) (λ s. inside-data s.part s.inside) ss)

-- ---- the skeleton of a document
pub skeleton-data : (g : Given) → CellsHaveData (document_skeleton g)
skeleton-data g = let ss = sections g.options.constructs (rows g.options.constructs (lines_in (virtual g.tab g.bytes))) in data-linked 0 None (sections_marks g.bytes ss) (sections-data g.bytes ss)

module _ (g : Given) (is : IsDocument g) where
  pub skeleton-free : CellsAreFree false (document_skeleton g)
  skeleton-free = cells-free (marks g is) (document-goes g is).runs (all-sections-apart g.bytes g.options.constructs g.tab)

  pub skeleton-gaps : NoCellInGaps (document_skeleton g)
  skeleton-gaps = no-cell-in-gaps (marks g is) (document-goes g is).runs (all-sections-apart g.bytes g.options.constructs g.tab)
