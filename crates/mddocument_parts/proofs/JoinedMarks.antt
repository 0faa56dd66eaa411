-- Marks of sections at a seam: those of the parts, but for the chunks of the two stretches and what stands between them, in whose place stands one chunk.
use Rattle.std.proofs.Common.{Bool, List, [], ap, append_assoc, cond, drop, false, length, refl, sym, take, true, ℕ, ◌++◌, ◌&&◌, not, ◌∙◌, ◌∷◌, ◌≡◌}
use Rattle.std.proofs.lemmas.List.{append-nil}
use Rattle.std.specs.List.{AllByRecursion, flat_map}
use Rattle.std.specs.Prelude.{map}
use Rattle.markdown_base.proofs.Common.{every-append}
use Rattle.markdown_base.specs.declared.event.Content.TheVariants as content
use Rattle.markdown_base.specs.declared.event.Name.TheVariants as name
use Rattle.markdown_base.specs.Virtual.{Seat}
use Rattle.mdconstructs_machines.specs.LineEvents.{ending_of, line_text}
use Rattle.mdblock_leaf_blocks.specs.BlocksRead.{block_seats}
use Rattle.mdblock_leaf_blocks.specs.LeafBlocks.{Line, blank_line}
use Rattle.mdblock_leaf_blocks.specs.LeafEvents.{Mark, alone, chunk_span, leaf_block_marks, leaf_marks, white}
use Rattle.mdblock_leaf_blocks.specs.LineKinds.{indent}
use Rattle.mdblock_containers.proofs.JoinLemmas.{join, join_is}
use Rattle.mdblock_containers.specs.Prefixes.{columns_of}
use Rattle.mdblock_containers.specs.Rows.{Row, has_none, holds_ending, rest_of}
use Rattle.mdblock_containers.specs.Skeleton.{Part, Piece, begun_all, chunks_of, end_of, ending_marks, exits, inside_of, is_held, joined_pieces, last_of, piece_of, pieces_of, prefixes_marks, shared}
use Rattle.mdblock_containers.proofs.FrameFacts.{shared_none}
use Rattle.mdblock_definitions.specs.Sections.{Section, lines}
use Rattle.mdblock_definitions.specs.Skeleton.{behind_marks, inside_marks, section_marks, sections_marks}
use Rattle.mddocument_parts.specs.JoinedStretches.{IsBlankPart, firsts, joined_part, plain_section, plain_sections}
use Rattle.mddocument_parts.proofs.MarksOfBoth.{SharesNone, last_part, marks-apart}
use Rattle.mddocument_parts.proofs.WithoutContainers.PlainParts.{IsBare}

-- the lines of rows
abbrev pub lines_of : List Row → List Line
lines_of rs = map (λ (r : Row). r.line) rs

-- a row without prefixes, and no columns of them
pub record IsPlainRow (r : Row) : Type 0 where
  pub bare : IsBare r
  pub columns : r.columns ≡ 0

-- a part in no spans, with such rows
pub record IsPlainPart (p : Part) : Type 0 where
  pub frames : p.frames ≡ []
  pub stands : p.stands ≡ []
  pub first : IsPlainRow p.first
  pub more : AllByRecursion IsPlainRow p.more

module _ (bytes : List ℕ) where
  abbrev one_piece : List Seat → List (Piece bytes)
  one_piece seats = record { before = []; seats = seats } ∷ []

  -- the pieces of a stretch without prefixes are one
  pieces-plain : (held : Bool) (r : Row) (rs : List Row) → IsPlainRow r → AllByRecursion IsPlainRow rs → joined_pieces bytes (pieces_of bytes held r rs) ≡ one_piece (block_seats held (lines_of (r ∷ rs)))
  pieces-plain held r [] h k = (λ i. (let p : Piece bytes = record { before = prefixes_marks bytes (h.bare.0 i) r.line; seats = drop (h.columns i) (cond held r.line (line_text r.line)) } in p) ∷ []) ∙ ap one_piece (by held)
    where
      by : (held : Bool) → cond held r.line (line_text r.line) ≡ block_seats held (r.line ∷ [])
      by true = sym (append-nil r.line)
      by false = refl
  pieces-plain held r (q ∷ qs) h k =
      let rest = pieces_of bytes held q qs in
      join_is bytes (piece_of bytes true r) rest
      ∙ (λ i. join bytes (let p : Piece bytes = record { before = prefixes_marks bytes (h.bare.0 i) r.line; seats = drop (h.columns i) r.line } in p) (pieces-plain held q qs k.0 k.1 i))
      ∙ ap one_piece (by held)
    where
      by : (held : Bool) → r.line ++ block_seats held (lines_of (q ∷ qs)) ≡ block_seats held (lines_of (r ∷ q ∷ qs))
      by true = refl
      by false = refl

  -- ---- what is in a section
  -- the columns of white space before the chunk
  abbrev pub white_columns : (is_behind : Bool) → Row → ℕ
  white_columns is_behind r = cond is_behind (indent (rest_of r)) 0

  abbrev pub part_seats : Part → List Seat
  part_seats p = block_seats (is_held p) (lines_of (p.first ∷ p.more))

  abbrev pub part_white : (is_behind : Bool) → Part → List Mark
  part_white is_behind p = cond is_behind (white bytes (take (indent (rest_of p.first)) (part_seats p))) []

  abbrev pub part_chunk : (is_behind : Bool) → Part → List Mark
  part_chunk is_behind p = chunk_span bytes (alone content.Content) name.Data (drop (white_columns is_behind p.first) (part_seats p)) []

  inside-plain : (is_behind : Bool) (p : Part) → IsPlainPart p → p.first.is_blank ≡ false → inside_marks bytes p (lines is_behind) ≡ part_white is_behind p ++ part_chunk is_behind p
  inside-plain true p h full = ap of-pieces (pieces-plain (is_held p) p.first p.more h.first h.more) ∙ ap (λ l. white bytes (take n seats) ++ l) (append-nil (chunk_span bytes (alone content.Content) name.Data (drop n seats) []))
    where
      n : ℕ
      n = indent (rest_of p.first)

      seats : List Seat
      seats = part_seats p

      of-pieces : List (Piece bytes) → List Mark
      of-pieces l = elim l [ [] ↦ [] | p ∷ ps ↦ white bytes (take n p.seats) ++ chunks_of bytes false (record p { before = []; seats = drop n p.seats } ∷ ps) ]
  inside-plain false p h full = (λ i. cond (full i) (white bytes (line_text first)) (of-pieces (pieces-plain (is_held p) p.first p.more h.first h.more i))) ∙ append-nil (chunk_span bytes (alone content.Content) name.Data (part_seats p) [])
    where
      first : Line
      first = drop (cond (has_none p.first.begun) (columns_of (take (length p.stands) p.first.went_on)) p.first.columns) p.first.line

      of-pieces : List (Piece bytes) → List Mark
      of-pieces l = elim l [ [] ↦ [] | p ∷ ps ↦ chunks_of bytes false (record p { before = [] } ∷ ps) ]

  section-plain : (is_behind : Bool) (p : Part) → IsPlainPart p → p.first.is_blank ≡ false → section_marks bytes (record { part = p; inside = lines is_behind }) ≡ part_white is_behind p ++ part_chunk is_behind p
  section-plain is_behind p h full =
      (λ i. prefixes_marks bytes (take (length (h.stands i)) p.first.went_on) p.first.line ++ (begun_all bytes (h.first.bare.1 i) (drop (columns_of p.first.went_on) p.first.line) ++ inside_marks bytes p (lines is_behind)))
      ∙ inside-plain is_behind p h full

  -- ---- blank lines
  abbrev pub blank_marks : Row → List Mark
  blank_marks r = leaf_block_marks bytes (blank_line r.line)

  blank-inside : (p : Part) → IsPlainPart p → IsBlankPart p → inside_of bytes p ≡ white bytes (line_text p.first.line)
  blank-inside p h b =
      (λ i. cond (b.blank i) (white bytes (line_text (drop (cond (has_none (h.first.bare.1 i)) (columns_of (take (length (h.stands i)) p.first.went_on)) p.first.columns) p.first.line)))
      (elim (joined_pieces bytes (pieces_of bytes (is_held p) p.first p.more)) [ [] ↦ [] | q ∷ ps ↦ chunks_of bytes false (record q { before = [] } ∷ ps) ]))

  blank-section : (p : Part) → IsPlainPart p → IsBlankPart p → section_marks bytes (plain_section p) ≡ white bytes (line_text p.first.line)
  blank-section p h b =
      (λ i. prefixes_marks bytes (take (length (h.stands i)) p.first.went_on) p.first.line ++ (begun_all bytes (h.first.bare.1 i) (drop (columns_of p.first.went_on) p.first.line) ++ inside_of bytes p))
      ∙ blank-inside p h b

  blank-ending : (p : Part) → IsBlankPart p → ending_marks bytes p ≡ leaf_marks bytes name.BlankLineEnding (ending_of p.first.line)
  blank-ending p b = (λ i. cond (not (b.blank i) && holds_ending (last_of p.first (b.alone i)).leaf) [] (leaf_marks bytes (cond (b.blank i) name.BlankLineEnding name.LineEnding) (ending_of (last_of p.first (b.alone i)).line)))

  -- what comes behind a part in no spans
  behind-top : (p : Part) (s : Section) (ss : List Section) → p.frames ≡ [] → behind_marks bytes p (s ∷ ss) ≡ ending_marks bytes p ++ sections_marks bytes (s ∷ ss)
  behind-top p s ss h = (λ i. exits bytes (drop (shared (h i) s.part.frames) (h i)) (end_of bytes p) ++ (ending_marks bytes p ++ sections_marks bytes (s ∷ ss)))

  behind-last : (p : Part) → p.frames ≡ [] → behind_marks bytes p [] ≡ ending_marks bytes p
  behind-last p h = (λ i. exits bytes (h i) (end_of bytes p) ++ ending_marks bytes p)

  -- blank lines behind it
  blanks-behind : (p : Part) (ps : List Part) → p.frames ≡ [] → AllByRecursion IsPlainPart ps → AllByRecursion IsBlankPart ps → behind_marks bytes p (plain_sections ps) ≡ ending_marks bytes p ++ flat_map blank_marks (firsts ps)
  blanks-behind p [] e h b = behind-last p e ∙ sym (append-nil (ending_marks bytes p))
  blanks-behind p (q ∷ ps) e h b =
      let s = white bytes (line_text q.first.line) in
      let end = leaf_marks bytes name.BlankLineEnding (ending_of q.first.line) in
      behind-top p (plain_section q) (plain_sections ps) e
      ∙ ap (λ l. ending_marks bytes p ++ l)
      ((λ i. blank-section q h.0 b.0 i ++ blanks-behind q ps h.0.frames h.1 b.1 i)
      ∙ (λ i. s ++ (blank-ending q b.0 i ++ flat_map blank_marks (firsts ps)))
      ∙ sym (append_assoc s end (flat_map blank_marks (firsts ps))))

  -- the last line of a joined part is that of the second
  last-joined : (r : Row) (xs : List Row) (q : Row) (ys : List Row) → last_of r (xs ++ (q ∷ ys)) ≡ last_of q ys
  last-joined r [] q ys = refl
  last-joined r (x ∷ xs) q ys = last-joined x xs q ys

  module _ (begin : Part) (blanks : List Part) (end : Part) (is_behind : Bool) (full : begin.first.is_blank ≡ false) (full2 : end.first.is_blank ≡ false) (plain : IsPlainPart begin) (plain2 : IsPlainPart end)
      (are_plain : AllByRecursion IsPlainPart blanks) (are_blank : AllByRecursion IsBlankPart blanks) where
    abbrev both : Part
    both = joined_part begin blanks end

    last-is : last_of both.first both.more ≡ last_of end.first end.more
    last-is = last-joined begin.first (begin.more ++ firsts blanks) end.first end.more

    pub same-held : is_held both ≡ is_held end
    same-held = (λ i. not ((full ∙ sym full2) i) && holds_ending (last-is i).leaf)

    same-ending : ending_marks bytes both ≡ ending_marks bytes end
    same-ending = (λ i. cond (same-held i) [] (leaf_marks bytes (cond ((full ∙ sym full2) i) name.BlankLineEnding name.LineEnding) (ending_of (last-is i).line)))

    same-behind : (back : List Section) → behind_marks bytes both back ≡ behind_marks bytes end back
    same-behind [] = behind-last both plain.frames ∙ same-ending ∙ sym (behind-last end plain2.frames)
    same-behind (s ∷ ss) = behind-top both s ss plain.frames ∙ ap (λ l. l ++ sections_marks bytes (s ∷ ss)) same-ending ∙ sym (behind-top end s ss plain2.frames)

    blank-rows : (ps : List Part) → AllByRecursion IsPlainPart ps → AllByRecursion IsPlainRow (firsts ps)
    blank-rows [] h = tt
    blank-rows (p ∷ ps) h = (h.0.first, blank-rows ps h.1)

    both-plain : IsPlainPart both
    both-plain = record {
      frames = plain.frames;
      stands = plain.stands;
      first = plain.first;
      more = every-append IsPlainRow (begin.more ++ firsts blanks) (end.first ∷ end.more) (every-append IsPlainRow begin.more (firsts blanks) plain.more (blank-rows blanks are_plain)) (plain2.first, plain2.more);
    }

    -- the sections before
    shares-no : (ss : List Section) (p : Part) → p.frames ≡ [] → SharesNone ss p
    shares-no [] p e = tt
    shares-no (s ∷ ss) p e = ap (shared (last_part s.part ss).frames) e ∙ shared_none (last_part s.part ss).frames

    module _ (front back : List Section) where
      -- the line ending, and blank lines
      abbrev pub between_marks : List Mark
      between_marks = ending_marks bytes begin ++ flat_map blank_marks (firsts blanks)

      abbrev pub after_marks : List Mark
      after_marks = behind_marks bytes end back

      pub whole-marks : sections_marks bytes (front ++ ((let s : Section = record { part = both; inside = lines is_behind } in s) ∷ back)) ≡ sections_marks bytes front ++ (part_white is_behind both ++ (part_chunk is_behind both ++ after_marks))
      whole-marks =
          let s : Section = record { part = both; inside = lines is_behind } in
          marks-apart bytes front s back (shares-no front both plain.frames)
          ∙ ap (λ l. sections_marks bytes front ++ l)
          ((λ i. section-plain is_behind both both-plain full i ++ same-behind back i)
          ∙ append_assoc (part_white is_behind both) (part_chunk is_behind both) after_marks)

      pub first-marks : sections_marks bytes (front ++ ((let s : Section = record { part = begin; inside = lines is_behind } in s) ∷ plain_sections blanks)) ≡ sections_marks bytes front ++ (part_white is_behind begin ++ (part_chunk is_behind begin ++ between_marks))
      first-marks =
          let s : Section = record { part = begin; inside = lines is_behind } in
          marks-apart bytes front s (plain_sections blanks) (shares-no front begin plain.frames)
          ∙ ap (λ l. sections_marks bytes front ++ l)
          ((λ i. section-plain is_behind begin plain full i ++ blanks-behind begin blanks plain.frames are_plain are_blank i)
          ∙ append_assoc (part_white is_behind begin) (part_chunk is_behind begin) between_marks)

      pub second-marks : sections_marks bytes (plain_section end ∷ back) ≡ part_chunk false end ++ after_marks
      second-marks = ap (λ l. l ++ after_marks) (section-plain false end plain2 full2)
