-- Rows and parts of lines in which no container begins, and the marks of their skeleton.
use Rattle.mddocument_parts.proofs.Prelude.{AllByRecursion, Bool, Constructs, Line, List, Mark, Seat, [], alone, and-left, and-right, ap, append-nil, append_assoc, arith, blank_line, chunk_span, cond, drop, ending_of, false, flat_map, is_blank_line, last_end, leaf_block_marks, leaf_blocks_marks, leaf_marks, length, length-drop, line_text, map, nat_le, not, refl, subst, suc, sym, take, text_of, true, white, zero, ℕ, ◌&&◌, ◌++◌, ◌==◌, ◌∙◌, ◌∷◌, ◌≡◌, ◌≤◌}
use Rattle.std.proofs.lemmas.Bool.{le-leb}
use Rattle.std.specs.List.{list_all}
use Rattle.std.specs.Prelude.{reverse}
use Rattle.markdown_base.proofs.Common.{every-drop}
use Rattle.markdown_base.specs.declared.event.Content.TheVariants as content
use Rattle.markdown_base.specs.declared.event.Name.TheVariants as name
use Rattle.markdown_base.proofs.Facts.Bools.{cond-same}
use Rattle.mdblock_leaf_blocks.specs.BlocksRead.{block_seats}
use Rattle.mdblock_lines.specs.Containers.{Container}
use Rattle.mdblock_containers.proofs.FrameFacts.{none_is}
use Rattle.mdblock_containers.proofs.JoinLemmas.{join, join_is}
use Rattle.mdblock_containers.specs.Letters.{lazy_underline}
use Rattle.mdblock_containers.specs.Prefixes.{columns_of, containers_of}
use Rattle.mdblock_containers.specs.Rows.{Before, Leaf, Row, closed, has_none, holds_ending, known_after, leaf_after, row_of, row_with, rows, rows_from}
use Rattle.mdblock_containers.specs.Skeleton.{Frame, Part, Piece, begun_all, behind_marks, chunks_of, end_of, ending_marks, exits, frames_at, frames_of, further, going_on_at, inside_of, is_held, joined_pieces, last_of, left_in, list_at, list_begun, part_marks, parts_in, parts_marks, piece_of, pieces_of, prefixes_marks, shared, standing}
use Rattle.mddocument_parts.proofs.WithoutContainers.Leaves as leaves
use Rattle.mddocument_parts.proofs.WithoutContainers.Leaves.{is_left, kept, last_line, leaf_behind, leaf_next}

-- ==== Rows of lines in which no container begins: none has a prefix, and each goes on with the stretch of lines before it.
-- a row without prefixes
abbrev pub IsBare : Row → Type 0
IsBare row = (row.went_on ≡ []) × (row.begun ≡ [])

module _ (on : Constructs) where
  abbrev pub plain_row : Leaf → (number : ℕ) → Line → Row
  plain_row leaf number line =
      record {
        number = number;
        line = line;
        went_on = [];
        begun = [];
        columns = 0;
        is_blank = is_blank_line (text_of line);
        is_lazy = false;
        stays = true;
        is_left_blank = is_left on leaf line;
        leaf = leaf_next on leaf line;
      }

  abbrev pub plain_rows : Leaf → (number : ℕ) → List Line → List Row
  plain_rows leaf number [] = []
  plain_rows leaf number (line ∷ lines) = plain_row leaf number line ∷ plain_rows (leaf_next on leaf line) (suc number) lines

  -- what is known before a line: no container is open
  abbrev pub plain_before : Leaf → Before
  plain_before leaf = record { stack = []; depth = 0; leaf = leaf }

  pub row-plain : (leaf : Leaf) (number : ℕ) (line : Line) → has_none (row_of on (plain_before leaf) number line).begun ≡ true → row_of on (plain_before leaf) number line ≡ plain_row leaf number line
  row-plain leaf number line h = ap (row_with on (plain_before leaf) number line []) (none_is (row_of on (plain_before leaf) number line).begun h)

  pub known-plain : (leaf : Leaf) (number : ℕ) (line : Line) → known_after on (plain_before leaf) (plain_row leaf number line) ≡ plain_before (leaf_next on leaf line)
  known-plain leaf number line = by (is_left on leaf line) (leaf_after on leaf (text_of line))
    where
      by : (b : Bool) (after : Leaf) → let kept : Before = record { stack = []; depth = 0; leaf = closed } in let new : Before = record { stack = []; depth = 0; leaf = cond b closed after } in
          cond b kept new ≡ plain_before (cond b closed after)
      by true after = refl
      by false after = refl

  rows-plain : (leaf : Leaf) (number : ℕ) (lines : List Line) → list_all (λ (row : Row). has_none row.begun) (rows_from on (plain_before leaf) number lines) ≡ true → rows_from on (plain_before leaf) number lines ≡ plain_rows leaf number lines
  rows-plain leaf number [] h = refl
  rows-plain leaf number (line ∷ lines) h =
      let b = plain_before leaf in
      let row = row_of on b number line in
      let first = row-plain leaf number line (and-left (has_none row.begun) _ h) in
      let next : known_after on b row ≡ plain_before (leaf_next on leaf line) = ap (known_after on b) first ∙ known-plain leaf number line in
      let rest = subst (λ c. list_all (λ (row : Row). has_none row.begun) (rows_from on c (suc number) lines) ≡ true) next (and-right (has_none row.begun) _ h) in
      (λ i. first i ∷ rows_from on (next i) (suc number) lines) ∙ ap (λ r. plain_row leaf number line ∷ r) (rows-plain (leaf_next on leaf line) (suc number) lines rest)

  pub all-plain : (lines : List Line) → list_all (λ (row : Row). has_none row.begun) (rows on lines) ≡ true → rows on lines ≡ plain_rows closed 1 lines
  all-plain lines h = rows-plain closed 1 lines h

  pub plain-bare : (leaf : Leaf) (number : ℕ) (lines : List Line) → AllByRecursion IsBare (plain_rows leaf number lines)
  plain-bare leaf number [] = tt
  plain-bare leaf number (line ∷ lines) = ((refl, refl), plain-bare (leaf_next on leaf line) (suc number) lines)

  -- none is lazy, so no letter is needed
  pub plain-letters : (leaf : Leaf) (number : ℕ) (lines : List Line) → flat_map (lazy_underline on) (plain_rows leaf number lines) ≡ []
  plain-letters leaf number [] = refl
  plain-letters leaf number (line ∷ lines) = plain-letters (leaf_next on leaf line) (suc number) lines

  pub plain-length : (leaf : Leaf) (number : ℕ) (lines : List Line) → length (plain_rows leaf number lines) ≡ length lines
  plain-length leaf number [] = refl
  plain-length leaf number (line ∷ lines) = ap suc (plain-length (leaf_next on leaf line) (suc number) lines)

  -- how many of them stay in a stretch
  pub further-plain : (leaf : Leaf) (number : ℕ) (lines : List Line) → further (plain_rows leaf number lines) ≡ kept on leaf lines
  further-plain leaf number [] = refl
  further-plain leaf number (line ∷ lines) = ap (λ n. cond (is_left on leaf line) (cond (nat_le 1 n) (suc n) 0) (suc n)) (further-plain (leaf_next on leaf line) (suc number) lines)

  pub take-plain : (n : ℕ) (leaf : Leaf) (number : ℕ) (lines : List Line) → take n (plain_rows leaf number lines) ≡ plain_rows leaf number (take n lines)
  take-plain zero leaf number lines = refl
  take-plain (suc n) leaf number [] = refl
  take-plain (suc n) leaf number (line ∷ lines) = ap (λ r. plain_row leaf number line ∷ r) (take-plain n (leaf_next on leaf line) (suc number) lines)

  -- the number of a line so many lines on
  abbrev pub number_on : (number n : ℕ) → ℕ
  number_on number zero = number
  number_on number (suc n) = number_on (suc number) n

  pub drop-plain : (n : ℕ) (leaf : Leaf) (number : ℕ) (lines : List Line) → drop n (plain_rows leaf number lines) ≡ plain_rows (leaf_behind on leaf (take n lines)) (number_on number n) (drop n lines)
  drop-plain zero leaf number lines = refl
  drop-plain (suc n) leaf number [] = refl
  drop-plain (suc n) leaf number (line ∷ lines) = drop-plain n (leaf_next on leaf line) (suc number) lines

  -- the last of them
  pub last-leaf : (leaf : Leaf) (number : ℕ) (line : Line) (lines : List Line) → (last_of (plain_row leaf number line) (plain_rows (leaf_next on leaf line) (suc number) lines)).leaf ≡ leaf_behind on leaf (line ∷ lines)
  last-leaf leaf number line [] = refl
  last-leaf leaf number line (next ∷ lines) = last-leaf (leaf_next on leaf line) (suc number) next lines

  pub last-is : (leaf : Leaf) (number : ℕ) (line : Line) (lines : List Line) → (last_of (plain_row leaf number line) (plain_rows (leaf_next on leaf line) (suc number) lines)).line ≡ last_line (line ∷ lines)
  last-is leaf number line [] = refl
  last-is leaf number line (next ∷ lines) = last-is (leaf_next on leaf line) (suc number) next lines

-- ==== The parts of lines in which no container begins: blank lines, and one stretch at most; and the marks of their skeleton.
-- a part without spans and prefixes
pub record IsAlone (part : Part) : Type 0 where
  pub frames : part.frames ≡ []
  pub stands : part.stands ≡ []
  pub begun : part.first.begun ≡ []

no-standing : (row : Row) (behind : List Row) → IsBare row → standing row behind ≡ []
no-standing row behind h =
    (λ i. let all = containers_of (h.0 i) ++ containers_of (h.1 i) in cond row.is_blank (reverse (left_in (going_on_at behind) row.number (reverse all))) all)
    ∙ cond-same row.is_blank []

no-list : (behind : List Row) → AllByRecursion IsBare behind → list_at behind ≡ []
no-list [] h = refl
no-list (row ∷ behind) h = (λ i. cond row.is_left_blank (no-list behind h.1 i) (list_begun (h.0.1 i))) ∙ cond-same row.is_left_blank []

no-frames : (row : Row) (behind : List Row) → IsBare row → AllByRecursion IsBare behind → frames_at row behind ≡ []
no-frames row behind h k =
    let s = no-standing row behind h in
    let l = no-list behind k in
    (λ i. flat_map frames_of (s i) ++ cond (row.is_left_blank && (length (s i) == going_on_at behind)) (l i) []) ∙ cond-same (row.is_left_blank && (0 == going_on_at behind)) []

pub parts-alone : (bound : ℕ) (rows : List Row) → AllByRecursion IsBare rows → AllByRecursion IsAlone (parts_in bound rows)
parts-alone zero rows h = tt
parts-alone (suc bound) [] h = tt
parts-alone (suc bound) (row ∷ behind) h =
    let n = cond row.is_blank 0 (further behind) in
    (record { frames = no-frames row behind h.0 h.1; stands = no-standing row behind h.0; begun = h.0.1 }, parts-alone bound (drop n behind) (every-drop IsBare n behind h.1))

module _ (bytes : List ℕ) where
  -- what is in a part, and the line ending behind it
  abbrev pub whole_marks : Part → List Mark
  whole_marks part = inside_of bytes part ++ ending_marks bytes part

  part-alone : (part : Part) → IsAlone part → part_marks bytes part ≡ inside_of bytes part
  part-alone part h =
      (λ i. prefixes_marks bytes (take (length (h.stands i)) part.first.went_on) part.first.line
      ++ (begun_all bytes (h.begun i) (drop (columns_of part.first.went_on) part.first.line) ++ inside_of bytes part))

  behind-alone : (part : Part) (more : List Part) → IsAlone part → AllByRecursion IsAlone more → behind_marks bytes part more ≡ ending_marks bytes part ++ flat_map whole_marks more
  behind-alone part [] h k = (λ i. exits bytes (h.frames i) (end_of bytes part) ++ ending_marks bytes part) ∙ sym (append-nil (ending_marks bytes part))
  behind-alone part (next ∷ more) h k =
      let ends = ending_marks bytes part in
      (λ i. exits bytes (drop (shared (h.frames i) next.frames) (h.frames i)) (end_of bytes part) ++ (ends ++ (part-alone next k.0 i ++ behind-alone next more k.0 k.1 i)))
      ∙ ap (λ l. ends ++ l) (sym (append_assoc (inside_of bytes next) (ending_marks bytes next) (flat_map whole_marks more)))

  pub marks-alone : (ps : List Part) → AllByRecursion IsAlone ps → parts_marks bytes ps ≡ flat_map whole_marks ps
  marks-alone [] h = refl
  marks-alone (part ∷ more) h =
      (λ i. part-alone part h.0 i ++ behind-alone part more h.0 h.1 i) ∙ sym (append_assoc (inside_of bytes part) (ending_marks bytes part) (flat_map whole_marks more))

  -- ---- one part
  first-is : (part : Part) → IsAlone part → drop (cond (has_none part.first.begun) (columns_of (take (length part.stands) part.first.went_on)) part.first.columns) part.first.line ≡ part.first.line
  first-is part h = (λ i. drop (cond (has_none (h.begun i)) (columns_of (take (length (h.stands i)) part.first.went_on)) part.first.columns) part.first.line)

  cond-true : {A : Type 0} (b : Bool) (x y : A) → b ≡ true → cond b x y ≡ x
  cond-true b x y e = ap (λ b. cond b x y) e

  cond-false : {A : Type 0} (b : Bool) (x y : A) → b ≡ false → cond b x y ≡ y
  cond-false b x y e = ap (λ b. cond b x y) e

  abbrev pub blank_marks : Line → List Mark
  blank_marks line = leaf_block_marks bytes (blank_line line)

  -- a blank line
  blank-part : (part : Part) → IsAlone part → part.first.is_blank ≡ true → part.more ≡ [] → whole_marks part ≡ blank_marks part.first.line
  blank-part part h blank none =
      let inside : inside_of bytes part ≡ white bytes (line_text part.first.line) = cond-true part.first.is_blank _ _ blank ∙ ap (λ l. white bytes (line_text l)) (first-is part h) in
      let ending : ending_marks bytes part ≡ leaf_marks bytes name.BlankLineEnding (ending_of part.first.line) =
      (λ i. cond (not (blank i) && holds_ending (last_of part.first (none i)).leaf) [] (leaf_marks bytes (cond (blank i) name.BlankLineEnding name.LineEnding) (ending_of (last_of part.first (none i)).line))) in
      (λ i. inside i ++ ending i)

  -- the pieces of a stretch without prefixes are one
  module _ (on : Constructs) where
    abbrev one_piece : List Seat → List (Piece bytes)
    one_piece seats = record { before = []; seats = seats } ∷ []

    pieces-plain : (held : Bool) (leaf : Leaf) (number : ℕ) (line : Line) (lines : List Line)
        → joined_pieces bytes (pieces_of bytes held (plain_row on leaf number line) (plain_rows on (leaf_next on leaf line) (suc number) lines)) ≡ one_piece (block_seats held (line ∷ lines))
    pieces-plain true leaf number line [] = ap one_piece (sym (append-nil line))
    pieces-plain false leaf number line [] = refl
    pieces-plain held leaf number line (next ∷ lines) =
        let more = leaf_next on leaf line in
        let rest = pieces_of bytes held (plain_row on more (suc number) next) (plain_rows on (leaf_next on more next) (suc (suc number)) lines) in
        join_is bytes (piece_of bytes true (plain_row on leaf number line)) rest
        ∙ ap (join bytes (piece_of bytes true (plain_row on leaf number line))) (pieces-plain held more (suc number) next lines)
        ∙ ap one_piece (by held)
      where
        by : (held : Bool) → line ++ block_seats held (next ∷ lines) ≡ block_seats held (line ∷ next ∷ lines)
        by true = refl
        by false = refl

    -- a stretch that begins with this line
    abbrev plain_part : (leaf : Leaf) (number : ℕ) (line : Line) (lines : List Line) (frames : List Frame) (stands : List Container) → Part
    plain_part leaf number line lines frames stands = record { first = plain_row on leaf number line; more = plain_rows on (leaf_next on leaf line) (suc number) lines; frames = frames; stands = stands }

    last-end-is : (line : Line) (lines : List Line) → leaf_marks bytes name.LineEnding (ending_of (leaves.last_line (line ∷ lines))) ≡ last_end bytes (line ∷ lines)
    last-end-is line [] = refl
    last-end-is line (next ∷ lines) = last-end-is next lines

    abbrev inside_pieces : List (Piece bytes) → List Mark
    inside_pieces l = elim l [ [] ↦ [] | p ∷ ps ↦ chunks_of bytes false (record p { before = [] } ∷ ps) ]

    stretch-part : (leaf : Leaf) (number : ℕ) (line : Line) (lines : List Line) (frames : List Frame) (stands : List Container) → IsAlone (plain_part leaf number line lines frames stands) → is_blank_line (text_of line) ≡ false
        → let held = holds_ending (leaf_behind on leaf (line ∷ lines)) in
        whole_marks (plain_part leaf number line lines frames stands) ≡ chunk_span bytes (alone content.Content) name.Data (block_seats held (line ∷ lines)) [] ++ cond held [] (last_end bytes (line ∷ lines))
    stretch-part leaf number line lines frames stands h full =
        let part = plain_part leaf number line lines frames stands in
        let held = holds_ending (leaf_behind on leaf (line ∷ lines)) in
        let held_is : is_held part ≡ held = (λ i. not (full i) && holds_ending (last-leaf on leaf number line lines i)) in
        let seats = block_seats held (line ∷ lines) in
        let chunk = chunk_span bytes (alone content.Content) name.Data seats [] in
        let inside : inside_of bytes part ≡ chunk =
        cond-false (is_blank_line (text_of line)) _ _ full
        ∙ ap (λ b. inside_pieces (joined_pieces bytes (pieces_of bytes b part.first part.more))) held_is
        ∙ ap inside_pieces (pieces-plain held leaf number line lines)
        ∙ append-nil chunk in
        let ending : ending_marks bytes part ≡ cond held [] (last_end bytes (line ∷ lines)) =
        (λ i. cond (held_is i) [] (leaf_marks bytes (cond (full i) name.BlankLineEnding name.LineEnding) (ending_of (last-is on leaf number line lines i))))
        ∙ ap (λ l. cond held [] l) (last-end-is line lines) in
        (λ i. inside i ++ ending i)

    -- ---- blank lines
    abbrev pub IsBlank : Line → Type 0
    IsBlank line = is_blank_line (text_of line) ≡ true

    -- a blank line in front
    pub blank-marks : (bound : ℕ) (leaf : Leaf) (number : ℕ) (line : Line) (lines : List Line) → is_blank_line (text_of line) ≡ true
        → flat_map whole_marks (parts_in (suc bound) (plain_rows on leaf number (line ∷ lines))) ≡ blank_marks line ++ flat_map whole_marks (parts_in bound (plain_rows on (leaf_next on leaf line) (suc number) lines))
    blank-marks bound leaf number line lines h =
        let next = leaf_next on leaf line in
        let row = plain_row on leaf number line in
        let behind = plain_rows on next (suc number) lines in
        let n = cond row.is_blank 0 (further behind) in
        let none : n ≡ 0 = ap (λ b. cond b 0 (further behind)) h in
        let part : Part = record { first = row; more = take n behind; frames = frames_at row behind; stands = standing row behind } in
        let alone = parts-alone (suc bound) (row ∷ behind) (plain-bare on leaf number (line ∷ lines)) in
        (λ i. blank-part part alone.0 h (ap (λ k. take k behind) none) i ++ flat_map whole_marks (parts_in bound (drop (none i) behind)))

    pub blanks-marks : (bound : ℕ) (leaf : Leaf) (number : ℕ) (lines : List Line) → length lines ≤ bound → AllByRecursion IsBlank lines
        → flat_map whole_marks (parts_in bound (plain_rows on leaf number lines)) ≡ leaf_blocks_marks bytes (map blank_line lines)
    blanks-marks zero leaf number [] l h = refl
    blanks-marks zero leaf number (line ∷ lines) l h = absurd (omega (arith, l))
    blanks-marks (suc bound) leaf number [] l h = refl
    blanks-marks (suc bound) leaf number (line ∷ lines) l h = blank-marks bound leaf number line lines h.0 ∙ ap (λ r. blank_marks line ++ r) (blanks-marks bound (leaf_next on leaf line) (suc number) lines (omega (arith, l)) h.1)

    -- the lines behind those that are kept are blank
    kept-rest : (leaf : Leaf) (lines : List Line) → AllByRecursion IsBlank (drop (kept on leaf lines) lines)
    kept-rest leaf [] = tt
    kept-rest leaf (line ∷ lines) =
        let n = kept on (leaf_next on leaf line) lines in
        by (is_left on leaf line) refl n (nat_le 1 n) refl (kept-rest (leaf_next on leaf line) lines)
      where
        by : (b : Bool) → is_left on leaf line ≡ b → (n : ℕ) (d : Bool) → nat_le 1 n ≡ d → AllByRecursion IsBlank (drop n lines) → AllByRecursion IsBlank (drop (cond b (cond d (suc n) 0) (suc n)) (line ∷ lines))
        by true e n true l h = h
        by true e zero false l h = (and-left (is_blank_line (text_of line)) _ e, h)
        by true e (suc n) false l h = let both : true ≡ false = sym (le-leb 1 (suc n) (omega arith)) ∙ l in absurd (cc)
        by false e n d l h = h

    -- a stretch, and blank lines behind it
    pub stretch-marks : (bound : ℕ) (leaf : Leaf) (number : ℕ) (line : Line) (lines : List Line) → length lines ≤ bound → is_blank_line (text_of line) ≡ false
        → let n = kept on (leaf_next on leaf line) lines in let mid = line ∷ take n lines in let held = holds_ending (leaf_behind on leaf mid) in
        flat_map whole_marks (parts_in (suc bound) (plain_rows on leaf number (line ∷ lines)))
        ≡ (chunk_span bytes (alone content.Content) name.Data (block_seats held mid) [] ++ cond held [] (last_end bytes mid)) ++ leaf_blocks_marks bytes (map blank_line (drop n lines))
    stretch-marks bound leaf number line lines l full =
        let next = leaf_next on leaf line in
        let row = plain_row on leaf number line in
        let behind = plain_rows on next (suc number) lines in
        let k = kept on next lines in
        let n = cond row.is_blank 0 (further behind) in
        let many : n ≡ k = ap (λ b. cond b 0 (further behind)) full ∙ further-plain on next (suc number) lines in
        let frames = frames_at row behind in
        let stands = standing row behind in
        let part : Part = record { first = row; more = take n behind; frames = frames; stands = stands } in
        let more : take n behind ≡ plain_rows on next (suc number) (take k lines) = ap (λ k. take k behind) many ∙ take-plain on k next (suc number) lines in
        let are = parts-alone (suc bound) (row ∷ behind) (plain-bare on leaf number (line ∷ lines)) in
        let same : part ≡ plain_part leaf number line (take k lines) frames stands = (λ i. record { first = row; more = more i; frames = frames; stands = stands }) in
        let first = ap whole_marks same ∙ stretch-part leaf number line (take k lines) frames stands (subst IsAlone same are.0) full in
        let rest = ap (λ k. flat_map whole_marks (parts_in bound (drop k behind))) many
        ∙ ap (λ r. flat_map whole_marks (parts_in bound r)) (drop-plain on k next (suc number) lines)
        ∙ blanks-marks bound (leaf_behind on next (take k lines)) (number_on on (suc number) k) (drop k lines) (omega (arith, l, length-drop k lines)) (kept-rest next lines) in
        (λ i. first i ++ rest i)
