-- The skeleton of lines in which no container begins, and their leaf blocks: blank lines, one chunk at most, and blank lines; and in place of the
-- chunk the leaf blocks of its text.
use Rattle.mddocument_parts.proofs.Prelude.{◌≡◌, inl, inr, ℕ, zero, suc, ◌≤◌, ◌&&◌, nat_le, List, [], ◌∷◌, ◌++◌, Bool, true, false, cond, length, take, drop, refl, sym, ap, ◌∙◌, subst, arith, append_assoc, append-nil, None, map, AllByRecursion, flat_map, flat_map-append, Constructs, Line, blank_line, Mark, alone, block_of_kind, body, bytes_of, chunk_span, is_blank_line, last_end, leaf_block_marks, leaf_blocks, leaf_blocks_marks, leaf_marks, line_kind, text_of, all_of, ending_of, joined, line_text, lines_in, Seat, blank, indented}
use Rattle.std.proofs.lemmas.List.{take-append-drop}
use Rattle.markdown_base.proofs.Common.{every-append}
use Rattle.markdown_base.specs.declared.event.Content.TheVariants as content
use Rattle.markdown_base.specs.declared.event.Name.{Name}
use Rattle.markdown_base.specs.declared.event.Name.TheVariants as name
use Rattle.mdblock_leaf_blocks.proofs.Lines.WholeLines.{IsWhole, body-and-last, whole-text}
use Rattle.mdblock_leaf_blocks.specs.BlocksRead.{block_seats, last_ending}
use Rattle.mdblock_leaf_blocks.specs.LineKinds.{is_far, kind_of_rest, indent, unindented}
use Rattle.mdblock_containers.proofs.SeatFacts.{LineIs, LinesEnd}
use Rattle.mdblock_containers.specs.Rows.{Leaf, closed, has_none, holds_ending, leaf_after}
use Rattle.mdblock_containers.specs.Skeleton.{parts_in}
use Rattle.mddocument_parts.proofs.Rests.{leaf-step}
use Rattle.mddocument_parts.proofs.WithoutContainers.Stretch.{cut_last, IsStretch, held_lines, stretch}
use Rattle.mddocument_parts.proofs.WithoutContainers.Leaves.{HasText, is_left, kept, last_line, leaf_behind, leaf_next}
use Rattle.mddocument_parts.proofs.WithoutContainers.PlainParts.{blank-marks, stretch-marks, whole_marks, plain_rows}

-- ---- the lines of the virtual bytes of lines
one-line : (line : Line) (rest : List Seat) → IsWhole line → has_none (ending_of line) ≡ false → lines_in (line ++ rest) ≡ line ∷ lines_in rest
one-line [] rest w e = absurd (cc)
one-line (s ∷ ss) rest (inl h) e =
    let end = sym (ap (λ b. has_none (cond b (s ∷ ending_of ss) (ending_of ss))) h.0) ∙ e in
    ap (λ b. cond b ((s ∷ []) ∷ lines_in (ss ++ rest)) (joined s (lines_in (ss ++ rest)))) h.0 ∙ ap (joined s) (one-line ss rest h.1 end)
one-line (s ∷ ss) rest (inr h) e =
    ap (λ b. cond b ((s ∷ []) ∷ lines_in (ss ++ rest)) (joined s (lines_in (ss ++ rest)))) h.0 ∙ (λ i. (s ∷ sym h.1 i) ∷ lines_in (h.1 i ++ rest))

alone-line : (line : Line) → IsWhole line → has_none line ≡ false → lines_in line ≡ line ∷ []
alone-line [] w e = absurd (cc)
alone-line (s ∷ []) (inl h) e = ap (λ b. cond b ((s ∷ []) ∷ []) (joined s [])) h.0
alone-line (s ∷ []) (inr h) e = ap (λ b. cond b ((s ∷ []) ∷ []) (joined s [])) h.0
alone-line (s ∷ r ∷ rs) (inl h) e = ap (λ b. cond b ((s ∷ []) ∷ lines_in (r ∷ rs)) (joined s (lines_in (r ∷ rs)))) h.0 ∙ ap (joined s) (alone-line (r ∷ rs) h.1 refl)
alone-line (s ∷ r ∷ rs) (inr h) e = let none : r ∷ rs ≡ [] = h.1 in absurd (cc)

lines-all : (lines : List Line) → AllByRecursion LineIs lines → LinesEnd lines → lines_in (all_of lines) ≡ lines
lines-all [] is ends = refl
lines-all (line ∷ []) is ends = ap lines_in (append-nil line) ∙ alone-line line is.0.whole is.0.some
lines-all (line ∷ next ∷ lines) is ends = one-line line (all_of (next ∷ lines)) is.0.whole ends.0 ∙ ap (λ r. line ∷ r) (lines-all (next ∷ lines) is.1 ends.1)

some-text : (seats : List Seat) → (bytes_of seats ≡ [] → ⊥) → has_none seats ≡ false
some-text [] h = absurd (h refl)
some-text (s ∷ ss) h = refl

lines-body : (lines : List Line) → AllByRecursion LineIs lines → LinesEnd lines → (1 ≤ length lines → HasText (last_line lines)) → lines_in (body lines) ≡ cut_last lines
lines-body [] is ends text = refl
lines-body (line ∷ []) is ends text = alone-line (line_text line) (whole-text line) (some-text (line_text line) (text (omega arith)))
lines-body (line ∷ next ∷ lines) is ends text = one-line line (body (next ∷ lines)) is.0.whole ends.0 ∙ ap (λ r. line ∷ r) (lines-body (next ∷ lines) is.1 ends.1 (λ _. text (omega arith)))

pub lines-held : (held : Bool) (lines : List Line) → AllByRecursion LineIs lines → LinesEnd lines → (held ≡ false → 1 ≤ length lines → HasText (last_line lines)) → lines_in (block_seats held lines) ≡ held_lines held lines
lines-held true lines is ends text = lines-all lines is ends
lines-held false lines is ends text = lines-body lines is ends (text refl)

pub ends-front : (n : ℕ) (lines : List Line) → LinesEnd lines → LinesEnd (take n lines)
ends-front zero lines h = tt
ends-front (suc n) [] h = tt
ends-front (suc zero) (line ∷ lines) h = tt
ends-front (suc (suc n)) (line ∷ []) h = tt
ends-front (suc (suc n)) (line ∷ next ∷ lines) h = (h.0, ends-front (suc n) (next ∷ lines) h.1)

ends-more : (line : Line) (lines : List Line) → LinesEnd (line ∷ lines) → LinesEnd lines
ends-more line [] h = tt
ends-more line (next ∷ lines) h = h.1

pub lines-front : (n : ℕ) (lines : List Line) → AllByRecursion LineIs lines → AllByRecursion LineIs (take n lines)
lines-front zero lines h = tt
lines-front (suc n) [] h = tt
lines-front (suc n) (line ∷ lines) h = (h.0, lines-front n lines h.1)

pub lines-whole : (lines : List Line) → AllByRecursion LineIs lines → AllByRecursion IsWhole lines
lines-whole [] h = tt
lines-whole (line ∷ lines) h = (h.0.whole, lines-whole lines h.1)

held-and-last : (held : Bool) (lines : List Line) → AllByRecursion IsWhole lines → block_seats held lines ++ cond held [] (last_ending lines) ≡ all_of lines
held-and-last true lines h = append-nil (all_of lines)
held-and-last false lines h = body-and-last lines h

-- ---- marks without chunks
abbrev pub IsPlain : Mark → Type 0
IsPlain m = (m.1 ≡ None) × (m.0.link ≡ None)

module _ (bytes : List ℕ) where
  plain-leaf : (n : Name) (seats : List Seat) → AllByRecursion IsPlain (leaf_marks bytes n seats)
  plain-leaf n [] = tt
  plain-leaf n (s ∷ ss) = ((refl, refl), ((refl, refl), tt))

  pub plain-end : (lines : List Line) → AllByRecursion IsPlain (last_end bytes lines)
  plain-end [] = tt
  plain-end (line ∷ []) = plain-leaf name.LineEnding (ending_of line)
  plain-end (line ∷ next ∷ lines) = plain-end (next ∷ lines)

  plain-held : (held : Bool) (lines : List Line) → AllByRecursion IsPlain (cond held [] (last_end bytes lines))
  plain-held true lines = tt
  plain-held false lines = plain-end lines

  plain-blank : (line : Line) → AllByRecursion IsPlain (leaf_block_marks bytes (blank_line line))
  plain-blank line = every-append IsPlain (leaf_marks bytes name.SpaceOrTab (line_text line)) (leaf_marks bytes name.BlankLineEnding (ending_of line)) (plain-leaf name.SpaceOrTab (line_text line)) (plain-leaf name.BlankLineEnding (ending_of line))

  pub plain-blanks : (lines : List Line) → AllByRecursion IsPlain (leaf_blocks_marks bytes (map blank_line lines))
  plain-blanks [] = tt
  plain-blanks (line ∷ lines) = every-append IsPlain (leaf_block_marks bytes (blank_line line)) (leaf_blocks_marks bytes (map blank_line lines)) (plain-blank line) (plain-blanks lines)

  module _ (on : Constructs) where
    -- marks of a skeleton, and those of leaf blocks, are the same but for one chunk, in whose place the leaf blocks of its text stand
    pub record IsCutOff (marks : List Mark) (lines : List Line) : Type 0 where
      pub front : List Mark
      pub seats : List Seat
      pub back : List Mark
      pub before : List Seat
      pub behind : List Seat
      pub skeleton : marks ≡ front ++ (chunk_span bytes (alone content.Content) name.Data seats [] ++ back)
      pub blocks : leaf_blocks_marks bytes (leaf_blocks on lines) ≡ front ++ (leaf_blocks_marks bytes (leaf_blocks on (lines_in seats)) ++ back)
      pub front_plain : AllByRecursion IsPlain front
      pub back_plain : AllByRecursion IsPlain back
      pub whole : all_of lines ≡ before ++ (seats ++ behind)

    abbrev marks_from : (bound : ℕ) → Leaf → (number : ℕ) → List Line → List Mark
    marks_from bound leaf number lines = flat_map (whole_marks bytes) (parts_in bound (plain_rows on leaf number lines))

    blank-block : (line : Line) (lines : List Line) → is_blank_line (text_of line) ≡ true → leaf_blocks on (line ∷ lines) ≡ blank_line line ∷ leaf_blocks on lines
    blank-block line lines full =
        let t = text_of line in
        let kind : line_kind on t ≡ blank = ap (λ b. cond b blank (cond (is_far on t) indented (kind_of_rest on (indent t) (unindented t)))) full in
        leaf-step on line lines ∙ ap (λ k. let c = block_of_kind on k line lines in c.0 ∷ leaf_blocks on (drop c.1 (line ∷ lines))) kind

    -- a blank line in front
    cut-blank : (bound number : ℕ) (line : Line) (lines : List Line) → is_blank_line (text_of line) ≡ true → (rest : List Mark) → marks_from (suc bound) closed number (line ∷ lines) ≡ leaf_block_marks bytes (blank_line line) ++ rest → IsCutOff rest lines → IsCutOff (marks_from (suc bound) closed number (line ∷ lines)) (line ∷ lines)
    cut-blank bound number line lines full rest first h =
        let b = leaf_block_marks bytes (blank_line line) in
        record {
          front = b ++ h.front;
          seats = h.seats;
          back = h.back;
          before = line ++ h.before;
          behind = h.behind;
          skeleton = first ∙ ap (λ l. b ++ l) h.skeleton ∙ sym (append_assoc b h.front (chunk_span bytes (alone content.Content) name.Data h.seats [] ++ h.back));
          blocks = ap (leaf_blocks_marks bytes) (blank-block line lines full) ∙ ap (λ l. b ++ l) h.blocks ∙ sym (append_assoc b h.front (leaf_blocks_marks bytes (leaf_blocks on (lines_in h.seats)) ++ h.back));
          front_plain = every-append IsPlain b h.front (plain-blank line) h.front_plain;
          back_plain = h.back_plain;
          whole = ap (λ l. line ++ l) h.whole ∙ sym (append_assoc line h.before (h.seats ++ h.behind));
        }

    cut-stretch : (bound number : ℕ) (line : Line) (lines : List Line) → length lines ≤ bound → is_blank_line (text_of line) ≡ false → AllByRecursion LineIs (line ∷ lines) → LinesEnd (line ∷ lines) → IsCutOff (marks_from (suc bound) closed number (line ∷ lines)) (line ∷ lines)
    cut-stretch bound number line lines l full are ends =
        let all = line ∷ lines in
        let n = kept on (leaf_next on closed line) lines in
        let left : is_left on closed line ≡ false = ap (λ b. b && true) full in
        let many : kept on closed all ≡ suc n = ap (λ b. cond b (cond (nat_le 1 n) (suc n) 0) (suc n)) left in
        let s : IsStretch on bytes all (suc n) (holds_ending (leaf_behind on closed (take (suc n) all))) =
        subst (λ k. IsStretch on bytes all k (holds_ending (leaf_behind on closed (take k all)))) many (stretch on bytes (length all) all (omega arith) (lines-whole all are)) in
        let mid = line ∷ take n lines in
        let trail = drop n lines in
        let held = holds_ending (leaf_behind on closed mid) in
        let seats = block_seats held mid in
        let end = cond held [] (last_end bytes mid) in
        let chunk = chunk_span bytes (alone content.Content) name.Data seats [] in
        let blanks = leaf_blocks_marks bytes (map blank_line trail) in
        let mid_are : AllByRecursion LineIs mid = lines-front (suc n) all are in
        let lines_are : lines_in seats ≡ held_lines held mid = lines-held held mid mid_are (ends-front (suc n) all ends) (λ shut _. s.text_is (omega arith) shut) in
        let inside = leaf_blocks_marks bytes (leaf_blocks on (lines_in seats)) in
        let ending = cond held [] (last_ending mid) in
        record {
          front = [];
          seats = seats;
          back = end ++ blanks;
          before = [];
          behind = ending ++ all_of trail;
          skeleton = stretch-marks bytes on bound closed number line lines l full ∙ append_assoc chunk end blanks;
          blocks =
              ap (leaf_blocks_marks bytes) s.blocks
              ∙ flat_map-append (leaf_block_marks bytes) (leaf_blocks on mid) (map blank_line trail)
              ∙ ap (λ l. l ++ blanks) (s.marks (omega arith) ∙ ap (λ ls. leaf_blocks_marks bytes (leaf_blocks on ls) ++ end) (sym lines_are))
              ∙ append_assoc inside end blanks;
          front_plain = tt;
          back_plain = every-append IsPlain end blanks (plain-held held mid) (plain-blanks trail);
          whole =
              ap all_of (sym (take-append-drop (suc n) all))
              ∙ flat_map-append (λ (l : Line). l) mid trail
              ∙ ap (λ l. l ++ all_of trail) (sym (held-and-last held mid (lines-whole mid mid_are)))
              ∙ append_assoc seats ending (all_of trail);
        }

    pub cut-off : (bound number : ℕ) (lines : List Line) → length lines ≤ bound → AllByRecursion LineIs lines → LinesEnd lines → IsCutOff (marks_from bound closed number lines) lines
    cut-off zero number [] l are ends = record { front = []; seats = []; back = []; before = []; behind = []; skeleton = refl; blocks = refl; front_plain = tt; back_plain = tt; whole = refl }
    cut-off zero number (line ∷ lines) l are ends = absurd (omega (arith, l))
    cut-off (suc bound) number [] l are ends = record { front = []; seats = []; back = []; before = []; behind = []; skeleton = refl; blocks = refl; front_plain = tt; back_plain = tt; whole = refl }
    cut-off (suc bound) number (line ∷ lines) l are ends =
        elim (is_blank_line (text_of line)) as (λ b. is_blank_line (text_of line) ≡ b → IsCutOff (marks_from (suc bound) closed number (line ∷ lines)) (line ∷ lines)) [
          | true ↦ λ e.
              let next : leaf_next on closed line ≡ closed = ap (λ b. cond (b && true) closed (leaf_after on closed (text_of line))) e in
              cut-blank bound number line lines e (marks_from bound closed (suc number) lines)
              (blank-marks bytes on bound closed number line lines e ∙ ap (λ leaf. leaf_block_marks bytes (blank_line line) ++ marks_from bound leaf (suc number) lines) next)
              (cut-off bound (suc number) lines (omega (arith, l)) are.1 (ends-more line lines ends))
          | false ↦ λ e. cut-stretch bound number line lines (omega (arith, l)) e are ends
        ] refl
