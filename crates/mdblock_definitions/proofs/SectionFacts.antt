-- The lines of a section, as its parts are written.
use Rattle.std.proofs.Common.{◌≡◌, ◌≤◌, ℕ, zero, suc, arith, List, [], ◌∷◌, ◌++◌, length, drop, take, refl, sym, ap, ◌∙◌, subst}
use Rattle.std.specs.Prelude.{None, cond, false}
use Rattle.markdown_base.specs.declared.event.Event.{Event}
use Rattle.mdblock_leaf_blocks.specs.LeafEvents.{Mark}
use Rattle.mdblock_lines.specs.Containers.{Container}
use Rattle.mdblock_lines.specs.Lines.{line_at, line_bytes}
use Rattle.mdblock_containers.specs.declared.prefixes.At.{At}
use Rattle.mdblock_containers.specs.declared.spans.RowAt.{RowAt}
use Rattle.mdblock_containers.specs.Costs.{columns_in}
use Rattle.mdblock_containers.specs.Prefixes.{columns_of}
use Rattle.mdblock_containers.specs.Parts.{open_behind}
use Rattle.mdblock_containers.specs.Rest.{AreLeft}
use Rattle.mdblock_containers.specs.Rows.{Row, has_none}
use Rattle.mdblock_containers.specs.SeatPlaces.{events_of}
use Rattle.mdblock_containers.specs.Skeleton.{Part}
use Rattle.mdblock_containers.specs.Spans.{AreRowsIn, IsPlaced, IsRowIn}
use Rattle.mdblock_containers.specs.Stretches.{AreFurther, IsOutside}
use Rattle.mdblock_containers.specs.Written.{Written}
use Rattle.mdblock_containers.proofs.WrittenLemmas.{write_plain}
use Rattle.mdinline_labels.specs.declared.definitions.Definition.{Definition}
use Rattle.mdblock_definitions.specs.Costs.{bytes_in, bytes_of}
use Rattle.mdblock_definitions.specs.Cursor.{AreLines}
use Rattle.mdblock_definitions.specs.Definitions.{definitions_marks, places_in}
use Rattle.mdblock_definitions.specs.Sections.{Section, text_in}
use Rattle.mdblock_definitions.specs.Sectioned.{AreFirst, AreInLines, IsBegun, IsSectionOf}
use Rattle.mdblock_definitions.specs.Seen.{AreThese, rows_by}
use Rattle.mdblock_definitions.specs.Skeleton.{all_rows}
use Rattle.mdblock_definitions.proofs.PlainDefinitions.{plain-definitions, plain-places}
use Rattle.mdblock_definitions.proofs.RowTexts.{these-further, these-one}
use Rattle.mdblock_definitions.proofs.SectionLemmas.{text-by}

module _ (t : ℕ) (bytes : List ℕ) (stack : List Container) where
  same-size : (number start : ℕ) (xs : List RowAt) (rs : List Row) → AreFurther t bytes stack number start xs rs → length xs ≡ length rs
  same-size number start [] [] are = refl
  same-size number start [] (r ∷ rs) are = absurd are
  same-size number start (x ∷ xs) [] are = absurd are
  same-size number start (x ∷ xs) (r ∷ rs) are = ap suc (same-size (suc number) x.span.next xs rs are.2)

  module _ (x : RowAt) (xs : List RowAt) (p : Part) (s : IsSectionOf t bytes stack x xs p) where
    pub section-first : AreFirst t bytes (x ∷ xs) (all_rows p)
    section-first = record { stack = s.before; behind = s.behind; rest = s.rest; left = s.left; size = ap suc (same-size (suc s.left.number) x.span.next xs p.more s.further) }

    pub section-these : AreThese t bytes (x ∷ xs) (all_rows p)
    section-these = these-one t bytes s.before s.left.number s.left.start x p.first xs p.more s.left.are.0 (these-further t bytes stack (suc s.left.number) x.span.next xs p.more s.further)

    pub section-lines : AreLines t bytes stack (x ∷ xs) (all_rows p)
    section-lines =
        let row = s.left.are.0 in
        let number = sym row.placed.number_is in
        let start = sym row.placed.start_is in (
          record {
            placed = subst (λ (n : ℕ). IsPlaced t bytes n x.span.start x) number (subst (λ (i : ℕ). IsPlaced t bytes s.left.number i x) start row.placed);
            line = row.line ∙ (λ k. line_at t (number k) (start k) (drop (start k) bytes));
            columns = row.is.columns;
            outside = subst (IsOutside bytes) start s.left.outside;
          },
          subst (λ (n : ℕ). AreFurther t bytes stack (suc n) x.span.next xs p.more) number s.further,
        )

    -- the first line of definitions is not blank
    pub section-columns : (begin : At) → IsBegun t bytes p x begin → x.row.is_blank ≡ false → begin.columns ≡ x.row.columns
    section-columns begin b e =
        let row = s.left.are.0 in
        b.columns ∙ ap (λ v. cond v (cond (has_none p.first.begun) (columns_of (take (length p.stands) p.first.went_on)) p.first.columns) p.first.columns) (sym row.is.is_blank ∙ e) ∙ sym row.is.columns

    -- the same, of all its lines
    module _ (rows : List RowAt) (er : rows ≡ x ∷ xs) where
      pub rows-lines : AreLines t bytes stack rows (all_rows p)
      rows-lines = subst (λ (l : List RowAt). AreLines t bytes stack l (all_rows p)) (sym er) section-lines

      pub rows-text : (text : List ℕ) → text ≡ text_in (rows_by t bytes rows) → text ≡ text_in (all_rows p)
      rows-text text e = e ∙ ap (λ l. text_in (rows_by t bytes l)) er ∙ text-by t bytes (x ∷ xs) (all_rows p) section-these.texts

-- definitions are written
pub write-definitions : (bytes : List ℕ) (old new : List Event) (ds : List Definition) (rs : List Row) (rest all : List Mark) → new ≡ old ++ events_of (definitions_marks bytes ds (places_in bytes rs))
    → Written old None false (definitions_marks bytes ds (places_in bytes rs) ++ rest) all → Written new None false rest all
write-definitions bytes old new ds rs rest all e w = write_plain old new None false (definitions_marks bytes ds (places_in bytes rs)) rest all (plain-definitions bytes ds (places_in bytes rs) (plain-places bytes rs)) e w

-- ---- the bytes of lines

module _ (t : ℕ) (bytes : List ℕ) (stack : List Container) where
  row-bytes : (others : List Container) (number start : ℕ) (x : RowAt) (r : Row) → IsRowIn t bytes others number start x r → suc x.span.size ≡ bytes_of t bytes x
  row-bytes others number start x r row = ap suc (row.placed.size_is ∙ (λ k. length (line_bytes t (sym row.placed.number_is k) 1 (sym row.placed.start_is k) (drop (sym row.placed.start_is k) bytes))))

  further-bytes : (number start : ℕ) (xs : List RowAt) (rs : List Row) → AreFurther t bytes stack number start xs rs → columns_in xs ≡ bytes_in t bytes xs
  further-bytes number start [] [] are = refl
  further-bytes number start [] (r ∷ rs) are = absurd are
  further-bytes number start (x ∷ xs) [] are = absurd are
  further-bytes number start (x ∷ xs) (r ∷ rs) are = omega (arith, row-bytes stack number start x r are.0, further-bytes (suc number) x.span.next xs rs are.2)

  module _ (x : RowAt) (xs : List RowAt) (p : Part) (s : IsSectionOf t bytes stack x xs p) where
    pub section-bytes : columns_in xs ≡ bytes_in t bytes xs
    section-bytes = further-bytes (suc s.left.number) x.span.next xs p.more s.further

    pub rows-bytes : (rows : List RowAt) → rows ≡ x ∷ xs → columns_in rows ≡ bytes_in t bytes rows
    rows-bytes rows e = ap columns_in e ∙ omega (arith, row-bytes s.before s.left.number s.left.start x p.first s.left.are.0, section-bytes) ∙ ap (bytes_in t bytes) (sym e)

  rows-in-bytes : (n : ℕ) (others : List Container) (number start : ℕ) (xs : List RowAt) (rs : List Row) → AreRowsIn t bytes others number start xs rs → columns_in (take n xs) ≡ bytes_in t bytes (take n xs)
  rows-in-bytes zero others number start xs rs are = refl
  rows-in-bytes (suc n) others number start [] rs are = refl
  rows-in-bytes (suc n) others number start (x ∷ xs) [] are = absurd are
  rows-in-bytes (suc n) others number start (x ∷ xs) (r ∷ rs) are = omega (arith, row-bytes others number start x r are.0, rows-in-bytes n (open_behind others r) (suc number) x.span.next xs rs are.1)

  -- the first of the lines that are left
  pub left-bytes : (n : ℕ) (xs : List RowAt) (rs : List Row) → AreLeft bytes t stack xs rs → columns_in (take n xs) ≡ bytes_in t bytes (take n xs)
  left-bytes n xs rs left = rows-in-bytes n stack left.number left.start xs rs left.are

  -- lines of sections are some
  pub in-some : (xs : List RowAt) (s : Section) (ss : List Section) → AreInLines t bytes stack xs (s ∷ ss) → 1 ≤ bytes_in t bytes xs
  in-some [] s ss are = absurd are
  in-some (x ∷ xs) s ss are = omega (arith)
