-- In a skeleton no text of a cell is between two chunks of a chain, nor in one: tables have no chunks, and lines have no cells.
use Rattle.std.proofs.Common.{◌≡◌, ℕ, Bool, true, false, List, [], ◌∷◌, ◌++◌, drop, refl, subst, sym, ap, ◌∙◌}
use Rattle.std.specs.List.{AllByRecursion}
use Rattle.markdown_base.proofs.Facts.Bools.{cond-same}
use Rattle.markdown_base.specs.declared.configuration.Constructs.{Constructs}
use Rattle.markdown_base.specs.declared.event.Name.TheVariants as name
use Rattle.markdown_base.specs.Virtual.{Seat, virtual}
use Rattle.mdconstructs_machines.specs.LineEvents.{lines_in}
use Rattle.mdblock_leaf_blocks.specs.LeafEvents.{Mark, white}
use Rattle.mdblock_containers.specs.Rows.{has_none}
use Rattle.mdblock_containers.specs.Skeleton.{Part, Piece, begun_all, chunks_of, ending_marks, exits, inside_of, is_held, pieces_of, prefixes_marks}
use Rattle.mdblock_containers.specs.Written.{waits}
use Rattle.mdblock_containers.proofs.PrefixSpans.{leaf_unlinked, prefixes_unlinked}
use Rattle.mdblock_containers.proofs.SkeletonChains.{Unlinked}
use Rattle.mdblock_table_marks.specs.CellPlaces.{AreApart, NoCells, ends_entering}
use Rattle.mdblock_table_marks.proofs.CellEnds.{ends-both, tables-out}
use Rattle.mdblock_table_marks.proofs.CellGaps.{apart-both, no-cells-apart, no-cells-end, unlinked-apart}
use Rattle.mdblock_table_marks.proofs.NoCellMarks.{PlainPieces, all_of, begun-all-none, begun-all-unlinked, chunks-none, chunks-wait, ending-none, ending-unlinked, exits-none, exits-unlinked, inside-none, inside-waits, joined-plain, leaf-none, pieces-plain, prefixes-none, unlinked-waits, waits-both}
use Rattle.mdblock_table_marks.proofs.TableShapes.{tables-are-shaped}
use Rattle.mdblock_definitions.specs.Rows.{rows}
use Rattle.mdblock_definitions.specs.Sections.{Inside, Section, defined, lines, sections, table}
use Rattle.mdblock_definitions.specs.Skeleton.{all_rows, behind_definitions, inside_marks, sections_marks}
use Rattle.mdblock_definitions.proofs.DefinitionMarks.{definitions-are-shaped, definitions-out}
use Rattle.mdblock_definitions.proofs.SectionMarks.{AreAround, behind-definitions, document-has}
use Rattle.mdblock_definitions.proofs.SectionTurns.{InsideIs, RowIs, SectionIs, rows-fit}

-- cells stand apart in marks, and behind them nothing is due
pub record IsClosed (ms : List Mark) : Type 0 where
  pub apart : AreApart false false ms
  pub ends : ends_entering false ms ≡ false
  pub waits : waits false ms ≡ false

pub closed-both : (xs ys : List Mark) → IsClosed xs → IsClosed ys → IsClosed (xs ++ ys)
closed-both xs ys h k = record {
  apart = apart-both false false xs ys h.apart (subst (λ (b : Bool). AreApart b (waits false xs) ys) (sym h.ends) (subst (λ (w : Bool). AreApart false w ys) (sym h.waits) k.apart));
  ends = ends-both false xs ys ∙ ap (λ b. ends_entering b ys) h.ends ∙ k.ends;
  waits = waits-both false xs ys ∙ ap (λ w. waits w ys) h.waits ∙ k.waits;
}

plain-closed : (ms : List Mark) → NoCells ms → waits false ms ≡ false → IsClosed ms
plain-closed ms h w = record { apart = no-cells-apart false ms h; ends = no-cells-end ms h; waits = w }

unlinked-closed : (ms : List Mark) → Unlinked ms → ends_entering false ms ≡ false → IsClosed ms
unlinked-closed ms h e = record { apart = unlinked-apart false ms h; ends = e; waits = unlinked-waits false ms h }

module _ (bytes : List ℕ) where
  white-closed : (ss : List Seat) → IsClosed (white bytes ss)
  white-closed ss = plain-closed (white bytes ss) (leaf-none bytes name.SpaceOrTab ss refl) (unlinked-waits false (white bytes ss) (leaf_unlinked bytes name.SpaceOrTab ss))

  behind-closed : (part : Part) → IsClosed (behind_definitions bytes part)
  behind-closed part =
      behind-definitions bytes IsClosed (PlainPieces bytes) (record { apart = tt; ends = refl; waits = refl }) closed-both white-closed
      (λ p ps c h.
      let all : List (Piece bytes) = record p { before = []; seats = drop c p.seats } ∷ ps in
      let plain : PlainPieces bytes all = ((tt, tt), h.1) in
      plain-closed (chunks_of bytes false all) (chunks-none bytes false all plain) (chunks-wait bytes false false all plain ∙ cond-same (has_none (all_of bytes all)) false))
      part (joined-plain bytes (pieces_of bytes (is_held part) part.first part.more) (pieces-plain bytes (is_held part) part.first part.more))

  inside-closed : (s : Section) → SectionIs bytes s → AllByRecursion RowIs (all_rows s.part) → IsClosed (inside_marks bytes s.part s.inside)
  inside-closed s is fits = by s.inside is.inside
    where
      by : (i : Inside) → InsideIs bytes s.part i → IsClosed (inside_marks bytes s.part i)
      by (lines true) h = behind-closed s.part
      by (lines false) h = plain-closed (inside_of bytes s.part) (inside-none bytes s.part) (inside-waits bytes s.part)
      by (defined ds) h =
          let fit = rows-fit (all_rows s.part) fits in
          unlinked-closed (inside_marks bytes s.part (defined ds)) (definitions-are-shaped bytes ds (all_rows s.part) h.0.laid fit).1 (definitions-out bytes ds (all_rows s.part) h.0.laid fit)
      by table h = unlinked-closed (inside_marks bytes s.part table) (tables-are-shaped bytes s.part.first s.part.more).1 (tables-out bytes s.part.first s.part.more)

  around-closed : AreAround bytes IsClosed
  around-closed = record {
    none = record { apart = tt; ends = refl; waits = refl };
    both = closed-both;
    went_on = λ ps ss. plain-closed (prefixes_marks bytes ps ss) (prefixes-none bytes ps ss) (unlinked-waits false (prefixes_marks bytes ps ss) (prefixes_unlinked bytes ps ss));
    begun = λ ps ss. plain-closed (begun_all bytes ps ss) (begun-all-none bytes ps ss) (unlinked-waits false (begun_all bytes ps ss) (begun-all-unlinked bytes ps ss));
    ended = λ fs p. plain-closed (exits bytes fs p) (exits-none bytes fs p) (unlinked-waits false (exits bytes fs p) (exits-unlinked bytes fs p));
    ending = λ p. plain-closed (ending_marks bytes p) (ending-none bytes p) (unlinked-waits false (ending_marks bytes p) (ending-unlinked bytes p));
  }

  -- for CellGaps' `cells-free` and `no-cell-in-gaps`, with the runs of `document-goes`
  pub all-sections-apart : (on : Constructs) (t : ℕ) → AreApart false false (sections_marks bytes (sections on (rows on (lines_in (virtual t bytes)))))
  all-sections-apart on t = (document-has around-closed inside-closed on t).apart
