-- Void spans of a skeleton with definitions are empty: so is each piece that it is made of.
use Rattle.std.proofs.Common.{ℕ, true, false, List, [], ◌∷◌, drop}
use Rattle.std.specs.Prelude.{None}
use Rattle.std.specs.List.{AllByRecursion}
use Rattle.markdown_base.specs.declared.configuration.Constructs.{Constructs}
use Rattle.markdown_base.specs.declared.event.Name.TheVariants as name
use Rattle.markdown_base.specs.Virtual.{virtual}
use Rattle.mdconstructs_machines.specs.LineEvents.{lines_in}
use Rattle.mdblock_containers.proofs.TightMarks.{Tight, TightPieces, begun_all_tight, chunks_tight, ending_tight, events_chunks, events_tight, exits_tight, inside_tight, joined_tight, leaf_tight, pieces_tight, prefixes_tight, tight_more}
use Rattle.mdblock_containers.specs.Skeleton.{Part, is_held, pieces_of}
use Rattle.mdblock_definitions.specs.Rows.{rows}
use Rattle.mdblock_definitions.specs.Sections.{Inside, Section, defined, lines, sections, table}
use Rattle.mdblock_definitions.specs.Skeleton.{all_rows, behind_definitions, inside_marks, sections_marks}
use Rattle.mdblock_table_marks.proofs.TableShapes.{tables-are-shaped}
use Rattle.mdblock_definitions.specs.SkeletonLaws.{SkeletonsAreVoidTight, SkeletonsHaveChunks}
use Rattle.mdblock_definitions.proofs.DefinitionMarks.{definitions-are-shaped}
use Rattle.mdblock_definitions.proofs.SectionMarks.{AreAround, behind-definitions, document-has}
use Rattle.mdblock_definitions.proofs.SectionTurns.{InsideIs, RowIs, SectionIs, rows-fit}

module _ (bytes : List ℕ) where
  behind-tight : (part : Part) → Tight (behind_definitions bytes part)
  behind-tight part =
      behind-definitions bytes Tight (TightPieces bytes) tt tight_more (leaf_tight bytes name.SpaceOrTab) (λ p ps c h. chunks_tight bytes false (record p { before = []; seats = drop c p.seats } ∷ ps) (tt, h.1)) part
      (joined_tight bytes (pieces_of bytes (is_held part) part.first part.more) (pieces_tight bytes (is_held part) part.first part.more))

  inside-is-tight : (s : Section) → SectionIs bytes s → AllByRecursion RowIs (all_rows s.part) → Tight (inside_marks bytes s.part s.inside)
  inside-is-tight s is fits = by s.inside is.inside
    where
      by : (i : Inside) → InsideIs bytes s.part i → Tight (inside_marks bytes s.part i)
      by (lines true) h = behind-tight s.part
      by (lines false) h = inside_tight bytes s.part
      by (defined ds) h = (definitions-are-shaped bytes ds (all_rows s.part) h.0.laid (rows-fit (all_rows s.part) fits)).0
      by table h = (tables-are-shaped bytes s.part.first s.part.more).0

  around-tight : AreAround bytes Tight
  around-tight = record { none = tt; both = tight_more; went_on = prefixes_tight bytes; begun = begun_all_tight bytes; ended = exits_tight bytes; ending = ending_tight bytes }

  pub all-sections-tight : (on : Constructs) (t : ℕ) → Tight (sections_marks bytes (sections on (rows on (lines_in (virtual t bytes)))))
  all-sections-tight on t = document-has around-tight inside-is-tight on t

pub skeletons-are-void-tight : SkeletonsAreVoidTight
skeletons-are-void-tight on t bytes = events_tight 0 None (sections_marks bytes (sections on (rows on (lines_in (virtual t bytes))))) (all-sections-tight bytes on t)

pub skeletons-have-chunks : SkeletonsHaveChunks
skeletons-have-chunks on t bytes = events_chunks 0 None (sections_marks bytes (sections on (rows on (lines_in (virtual t bytes))))) (all-sections-tight bytes on t)
