-- The leaf blocks of lines, where no container begins: those of the lines up to the last that is not left blank, and blank lines behind them.
use Rattle.mddocument_parts.proofs.Prelude.{AllByRecursion, Bool, Chunk, Constructs, Fence, HtmlKind, LeafBlock, Line, LineKind, List, Mark, None, Option, Seat, Some, [], ap, append-nil, append_assoc, arith, atx_heading, blank, blank_line, block_lines, block_of_kind, block_span, body, break_line, break_marks, bytes_of, chunk_span, code_fenced_around, code_marks, cond, content_at, cut, drop, ending_of, ends, ends_text, false, fence, fence_around, fenced_code, fenced_marks, has_line, heading_around, html, html_block, html_marks, indent, indented, indented_code, is_blank, is_blank_line, is_line_ending, is_open as is_open_on, is_white, last_end, last_passes, leaf_block_marks, leaf_blocks, leaf_blocks_marks, leaf_marks, length, length-append, length-drop, length-take, line_end, line_kind, line_text, lines_marks, lines_through, lines_until, map, nat_le, not, paragraph, prefix_len, prefix_len-le-length, refl, run, sequence_marks, setext_heading, span_marks, string_chunk, subst, suc, sym, take, text, text_chunk, text_marks, text_of, true, underline_marks, underline_rank, underlined, unindented, waits_for_blank, white, zero, ℕ, ◌&&◌, ◌++◌, ◌+◌, ◌-◌, ◌||◌, ◌∙◌, ◌∷◌, ◌≡◌, ◌≤◌}
use Rattle.std.proofs.Math.Seq.{drop-append_seam, take-append_seam}
use Rattle.std.proofs.lemmas.Bool.{le-leb}
use Rattle.std.proofs.lemmas.List.{drop-drop, length-map, take-append-drop}
use Rattle.markdown_base.proofs.Common.{every-drop, every-take}
use Rattle.markdown_base.specs.declared.event.Content.TheVariants as content
use Rattle.markdown_base.specs.declared.event.Name.{Name}
use Rattle.markdown_base.specs.declared.event.Name.TheVariants as name
use Rattle.mdblock_leaf_blocks.proofs.Lines.WholeLines.{IsWhole, whole-text}
use Rattle.mdblock_leaf_blocks.proofs.Marks.Cuts.{IsCut, IsLong}
use Rattle.mdblock_leaf_blocks.specs.LineKinds.{is_far, kind_of_rest}
use Rattle.mdblock_containers.proofs.SeatFacts.{drop_text, take_text}
use Rattle.mdblock_containers.specs.Rows.{Leaf, closed, holds_ending, leaf_after, open_html, open_paragraph}
use Rattle.mdblock_paragraphs.proofs.ShownLines.{text-twice}
use Rattle.mddocument_parts.proofs.DocumentRests.{closed-is}
use Rattle.mddocument_parts.proofs.Rests.{blank_text, leaf-step}
use Rattle.mddocument_parts.proofs.WithoutContainers.Leaves.{Acts, Front, HasText, acts-behind, acts-closed, acts-kept, blank-is, ends-by-none, front, is_left, is_open, kept, last_line, leaf_behind, leaf_next, opens, text-goes, until, until-more}
use Rattle.mddocument_parts.proofs.WithoutContainers.SameTexts.{Agree, agree-self, agree-take, agree-trans, first_of, same-front, with_lines}
use Rattle.mddocument_parts.specs.DocumentRests.{is_closed}

-- ==== Where no leaf block may go on behind lines, the last of their leaf blocks is not open.
module _ (on : Constructs) where
  -- ---- the block at the front of lines
  module _ (line : Line) (lines : List Line) (full : is_blank_line (text_of line) ≡ false) where
    abbrev whole_lines : List Line
    whole_lines = line ∷ lines

    abbrev IsShut : ℕ → Type 0
    IsShut n = is_closed (leaf_behind on closed (take n whole_lines)) ≡ true

    -- no block that holds its line ending is open
    shut-held : (c : LeafBlock × ℕ) → Front on c whole_lines → IsShut c.1 → holds_ending (leaf_behind on closed (take c.1 whole_lines)) ≡ false
    shut-held c f h = ap holds_ending (closed-is (leaf_behind on closed (take c.1 whole_lines)) h)

    waiting-goes : (kind : HtmlKind) → waits_for_blank kind ≡ true → (line : Line) → blank_text line ≡ false → (is_blank_line (text_of line) ≡ false) × (leaf_after on (open_html kind) (text_of line) ≡ open_html kind)
    waiting-goes kind waits line e = (e, ap (λ w. cond (cond w (is_blank_line (text_of line)) (ends kind (text_of line))) closed (open_html kind)) waits ∙ ap (λ b. cond b closed (open_html kind)) e)

    -- HTML that waits for a blank line is open to its end
    shut-waiting : (kind : HtmlKind) → line_kind on (text_of line) ≡ html kind → waits_for_blank kind ≡ true → IsShut (lines_until blank_text whole_lines) → ⊥
    shut-waiting kind is waits h =
        let goes = waiting-goes kind waits in
        let t = lines_until blank_text lines in
        let more = until-more on (open_html kind) blank_text goes line lines full in
        let next : leaf_next on closed line ≡ open_html kind = opens on (html kind) line full is ∙ ap (λ b. cond b closed (open_html kind)) (ends-by-none on kind (text_of line) waits) in
        let leaf : leaf_behind on closed (take (lines_until blank_text whole_lines) whole_lines) ≡ open_html kind =
        ap (λ n. leaf_behind on closed (take n whole_lines)) more ∙ ap (λ l. leaf_behind on l (take t lines)) next ∙ (until on (open_html kind) blank_text goes lines).leaf_is in
        let both : true ≡ false = sym h ∙ ap is_closed leaf in
        absurd (cc)

    -- and so is a paragraph
    shut-text : line_kind on (text_of line) ≡ text → IsShut (suc (lines_until (ends_text on) lines)) → ⊥
    shut-text is h =
        let t = lines_until (ends_text on) lines in
        let next : leaf_next on closed line ≡ open_paragraph = opens on text line full is in
        let leaf : leaf_behind on closed (take (suc t) whole_lines) ≡ open_paragraph = ap (λ l. leaf_behind on l (take t lines)) next ∙ (until on open_paragraph (ends_text on) (text-goes on) lines).leaf_is in
        let both : true ≡ false = sym h ∙ ap is_closed leaf in
        absurd (cc)

    shut-content : line_kind on (text_of line) ≡ text → IsShut (content_at on whole_lines).1 → is_open_on on (content_at on whole_lines).0 ≡ false
    shut-content is = by-behind (drop n whole_lines)
      where
        n : ℕ
        n = suc (lines_until (ends_text on) lines)

        long : length (take n whole_lines) ≡ n
        long = let few = prefix_len-le-length (λ (l : Line). not (ends_text on l)) lines in omega (arith, few, length-take n whole_lines)

        none : IsShut (length (take n whole_lines)) → ⊥
        none h = shut-text is (sym (ap (λ k. is_closed (leaf_behind on closed (take k whole_lines))) long) ∙ h)

        by-rank : (next : Line) (rank : Option ℕ) → let u : LeafBlock × ℕ = elim rank [ None ↦ (paragraph (take n whole_lines), length (take n whole_lines)) | Some rank ↦ (setext_heading rank (take n whole_lines) next, suc (length (take n whole_lines))) ] in IsShut u.1 → is_open_on on u.0 ≡ false
        by-rank next None h = absurd (none h)
        by-rank next (Some rank) h = refl

        by-behind : (behind : List Line) → IsShut (underlined on (take n whole_lines) behind).1 → is_open_on on (underlined on (take n whole_lines) behind).0 ≡ false
        by-behind [] h = absurd (none h)
        by-behind (next ∷ behind) h = by-rank next (underline_rank on (text_of next)) h

    shut-html : (kind : HtmlKind) → line_kind on (text_of line) ≡ html kind → Front on (block_of_kind on (html kind) line lines) whole_lines → IsShut (block_of_kind on (html kind) line lines).1 → is_open_on on (block_of_kind on (html kind) line lines).0 ≡ false
    shut-html kind is f h = by (waits_for_blank kind) refl f h
      where
        by : (b : Bool) → waits_for_blank kind ≡ b → let n = cond b (lines_until blank_text whole_lines) (lines_through (ends kind) whole_lines) in
            Front on (html_block kind (b || has_line (ends kind) whole_lines) (take n whole_lines), n) whole_lines → IsShut n → is_open_on on (html_block kind (b || has_line (ends kind) whole_lines) (take n whole_lines)) ≡ false
        by true w f h = absurd (shut-waiting kind is w h)
        by false w f h = let n = lines_through (ends kind) whole_lines in (λ i. (sym f.open_is ∙ shut-held (html_block kind (has_line (ends kind) whole_lines) (take n whole_lines), n) f h) i || w i)

    shut-front : IsShut (block_of_kind on (line_kind on (text_of line)) line lines).1 → is_open_on on (block_of_kind on (line_kind on (text_of line)) line lines).0 ≡ false
    shut-front = by (line_kind on (text_of line)) refl (front on line lines full)
      where
        by : (kind : LineKind) → line_kind on (text_of line) ≡ kind → Front on (block_of_kind on kind line lines) whole_lines → IsShut (block_of_kind on kind line lines).1 → is_open_on on (block_of_kind on kind line lines).0 ≡ false
        by (fence g) e f h = sym f.open_is ∙ shut-held (block_of_kind on (fence g) line lines) f h
        by (html kind) e f h = shut-html kind e f h
        by text e f h = shut-content e h
        by kind e f h = refl

  -- ---- all blocks
  pub behind-both : (leaf : Leaf) (xs ys : List Line) → leaf_behind on leaf (xs ++ ys) ≡ leaf_behind on (leaf_behind on leaf xs) ys
  behind-both leaf [] ys = refl
  behind-both leaf (x ∷ xs) ys = behind-both (leaf_next on leaf x) xs ys

  -- a block, and others behind it
  block-and-more : (test : LeafBlock → Bool) (block : LeafBlock) (next : Line) (more : List Line) → last_passes on test (block ∷ leaf_blocks on (next ∷ more)) ≡ last_passes on test (leaf_blocks on (next ∷ more))
  block-and-more test block next more =
      let step = leaf-step on next more in
      ap (λ bs. last_passes on test (block ∷ bs)) step ∙ sym (ap (λ bs. last_passes on test bs) step)

  -- a leaf that acts as none before lines
  acts-all : (leaf : Leaf) (next : Line) (more : List Line) → Acts on leaf (next ∷ more) → leaf_behind on leaf (next ∷ more) ≡ leaf_behind on closed (next ∷ more)
  acts-all leaf next more h = ap (λ l. leaf_behind on l more) h.0

  -- behind the front
  record FrontShut (line : Line) (lines : List Line) (c : LeafBlock × ℕ) : Type 0 where
    pub acts : Acts on (leaf_behind on closed (take c.1 (line ∷ lines))) (drop c.1 (line ∷ lines))
    pub shut : is_closed (leaf_behind on closed (take c.1 (line ∷ lines))) ≡ true → is_open_on on c.0 ≡ false

  front-shut : (line : Line) (lines : List Line) → FrontShut line lines (block_of_kind on (line_kind on (text_of line)) line lines)
  front-shut line lines = by (is_blank_line (text_of line)) refl
    where
      by : (b : Bool) → is_blank_line (text_of line) ≡ b → FrontShut line lines (block_of_kind on (line_kind on (text_of line)) line lines)
      by true e =
          let t = text_of line in
          let kind : line_kind on t ≡ blank = ap (λ b. cond b blank (cond (is_far on t) indented (kind_of_rest on (indent t) (unindented t)))) e in
          let next : leaf_next on closed line ≡ closed = ap (λ b. cond (b && true) closed (leaf_after on closed t)) e in
          subst (λ (k : LineKind). FrontShut line lines (block_of_kind on k line lines)) (sym kind) (record { acts = acts-closed on (leaf_next on closed line) lines next; shut = λ h. refl })
      by false e = record { acts = (front on line lines e).acts; shut = shut-front line lines e }

  pub shut-behind : (bound : ℕ) (lines : List Line) → length lines ≤ bound → is_closed (leaf_behind on closed lines) ≡ true → last_passes on (is_open_on on) (leaf_blocks on lines) ≡ false
  shut-behind bound [] l h = refl
  shut-behind zero (line ∷ lines) l h = absurd (omega (arith, l))
  shut-behind (suc bound) (line ∷ lines) l h =
      let c = block_of_kind on (line_kind on (text_of line)) line lines in
      let some = (cut on line lines).some in
      let few = length-drop c.1 (line ∷ lines) in
      ap (λ bs. last_passes on (is_open_on on) bs) (leaf-step on line lines)
      ∙ by (block_of_kind on (line_kind on (text_of line)) line lines) (front-shut line lines) (drop c.1 (line ∷ lines)) refl (shut-behind bound (drop c.1 (line ∷ lines)) (omega (arith, l, some, few)))
    where
      whole_lines : List Line
      whole_lines = line ∷ lines

      by : (c : LeafBlock × ℕ) → FrontShut line lines c → (more : List Line) → drop c.1 whole_lines ≡ more → (is_closed (leaf_behind on closed (drop c.1 whole_lines)) ≡ true → last_passes on (is_open_on on) (leaf_blocks on (drop c.1 whole_lines)) ≡ false)
          → last_passes on (is_open_on on) (c.0 ∷ leaf_blocks on (drop c.1 whole_lines)) ≡ false
      by c f [] e rest =
          let whole : take c.1 whole_lines ≡ whole_lines = sym (append-nil (take c.1 whole_lines)) ∙ ap (λ r. take c.1 whole_lines ++ r) (sym e) ∙ take-append-drop c.1 whole_lines in
          ap (λ r. last_passes on (is_open_on on) (c.0 ∷ leaf_blocks on r)) e ∙ f.shut (ap (λ ls. is_closed (leaf_behind on closed ls)) whole ∙ h)
      by c f (next ∷ more) e rest =
          let halves : leaf_behind on closed whole_lines ≡ leaf_behind on closed (next ∷ more) =
          ap (leaf_behind on closed) (sym (take-append-drop c.1 whole_lines)) ∙ behind-both closed (take c.1 whole_lines) (drop c.1 whole_lines) ∙ ap (leaf_behind on (leaf_behind on closed (take c.1 whole_lines))) e
          ∙ acts-all (leaf_behind on closed (take c.1 whole_lines)) next more (subst (Acts on (leaf_behind on closed (take c.1 whole_lines))) e f.acts) in
          ap (λ r. last_passes on (is_open_on on) (c.0 ∷ leaf_blocks on r)) e ∙ block-and-more (is_open_on on) c.0 next more ∙ sym (ap (λ r. last_passes on (is_open_on on) (leaf_blocks on r)) e)
          ∙ rest (ap (λ ls. is_closed (leaf_behind on closed ls)) e ∙ ap is_closed (sym halves) ∙ h)

-- ==== Lines without their last line ending: a closed block has the same marks, but for that line ending behind it.
-- lines, the last without its line ending
abbrev pub cut_last : List Line → List Line
cut_last [] = []
cut_last (line ∷ []) = line_text line ∷ []
cut_last (line ∷ next ∷ lines) = line ∷ cut_last (next ∷ lines)

-- ---- the text of a line has no line ending
pub ending-none : (line : Line) → ending_of (line_text line) ≡ []
ending-none [] = refl
ending-none (s ∷ ss) = by (ending-none ss) (is_line_ending s) refl
  where
    by : ending_of (line_text ss) ≡ [] → (b : Bool) → is_line_ending s ≡ b → ending_of (cond (not b) (s ∷ line_text ss) (line_text ss)) ≡ []
    by more true e = more
    by more false e = ap (λ b. cond b (s ∷ ending_of (line_text ss)) (ending_of (line_text ss))) e ∙ more

pub body-cut : (lines : List Line) → body (cut_last lines) ≡ body lines
body-cut [] = refl
body-cut (line ∷ []) = text-twice line
body-cut (line ∷ next ∷ []) = ap (λ l. line ++ l) (text-twice next)
body-cut (line ∷ next ∷ third ∷ lines) = ap (λ l. line ++ l) (body-cut (next ∷ third ∷ lines))

pub cut-behind : (lines : List Line) (line : Line) → cut_last (lines ++ line ∷ []) ≡ lines ++ line_text line ∷ []
cut-behind [] line = refl
cut-behind (l ∷ []) line = refl
cut-behind (l ∷ next ∷ lines) line = ap (λ r. l ∷ r) (cut-behind (next ∷ lines) line)

pub length-cut : (lines : List Line) → length (cut_last lines) ≡ length lines
length-cut [] = refl
length-cut (line ∷ []) = refl
length-cut (line ∷ next ∷ lines) = ap suc (length-cut (next ∷ lines))

-- a block is no blank line
abbrev pub IsNoBlank : LeafBlock → Type 0
IsNoBlank (blank_line line) = ⊥
IsNoBlank block = Unit {0}

module _ (bytes : List ℕ) where
  end-cut : (lines : List Line) → last_end bytes (cut_last lines) ≡ []
  end-cut [] = refl
  end-cut (line ∷ []) = ap (leaf_marks bytes name.LineEnding) (ending-none line)
  end-cut (line ∷ next ∷ []) = ap (leaf_marks bytes name.LineEnding) (ending-none next)
  end-cut (line ∷ next ∷ third ∷ lines) = end-cut (next ∷ third ∷ lines)

  -- a block over lines without their last line ending
  block-cut : (n : Name) (lines : List Line) (inside inside2 : List Mark) → inside ≡ inside2 → block_span bytes n false lines inside ≡ block_span bytes n false (cut_last lines) inside2 ++ last_end bytes lines
  block-cut n lines inside inside2 e =
      (λ i. span_marks bytes n (sym (body-cut lines) i) (e i) ++ last_end bytes lines)
      ∙ ap (λ l. l ++ last_end bytes lines) (sym (append-nil (span_marks bytes n (body (cut_last lines)) inside2)) ∙ ap (λ l. span_marks bytes n (body (cut_last lines)) inside2 ++ l) (sym (end-cut lines)))

  -- ---- what is in it
  text-chunk-of : (p : Bool) → (line : Line) → let c : Option Chunk = Some (record { content = content.Text; has_previous = p; has_next = false }) in chunk_span bytes c name.Data (line_text (line_text line)) [] ≡ chunk_span bytes c name.Data (line_text line) []
  text-chunk-of p line = ap (λ l. chunk_span bytes (Some (record { content = content.Text; has_previous = p; has_next = false })) name.Data l []) (text-twice line)

  texts-cut : (p : Bool) (lines : List Line) → text_marks bytes p (cut_last lines) ≡ text_marks bytes p lines
  texts-cut p [] = refl
  texts-cut p (line ∷ []) = text-chunk-of p line
  texts-cut p (line ∷ next ∷ []) = ap (λ l. chunk_span bytes (Some (record { content = content.Text; has_previous = p; has_next = true })) name.Data line [] ++ l) (text-chunk-of true next)
  texts-cut p (line ∷ next ∷ third ∷ lines) = ap (λ l. chunk_span bytes (Some (record { content = content.Text; has_previous = p; has_next = true })) name.Data line [] ++ l) (texts-cut true (next ∷ third ∷ lines))

  module _ (marks : List Seat → List Mark) where
    lines-cut : (lines : List Line) → lines_marks bytes marks false (cut_last lines) ≡ lines_marks bytes marks false lines
    lines-cut [] = refl
    lines-cut (line ∷ []) = ap (λ l. marks l ++ []) (text-twice line)
    lines-cut (line ∷ next ∷ []) = ap (λ l. marks (line_text line) ++ (line_end bytes line ++ (marks l ++ []))) (text-twice next)
    lines-cut (line ∷ next ∷ third ∷ lines) = ap (λ l. marks (line_text line) ++ (line_end bytes line ++ l)) (lines-cut (next ∷ third ∷ lines))

  -- a thematic break: as many pieces as there are virtual bytes are enough
  front-some : (t : List ℕ) → 1 ≤ length t → 1 ≤ indent t + prefix_len (λ b. not (is_white b)) (drop (indent t) t)
  front-some [] some = absurd (omega (arith, some))
  front-some (b ∷ bs) some = elim (is_white b) as (λ w. is_white b ≡ w → 1 ≤ cond w (1 + indent bs) 0 + prefix_len (λ b. not (is_white b)) (drop (cond w (1 + indent bs) 0) (b ∷ bs))) [
    | true ↦ λ e. omega arith
    | false ↦ λ e. subst (λ w. 1 ≤ 0 + cond (not w) (1 + prefix_len (λ b. not (is_white b)) bs) 0) (sym e) (omega arith)
  ] refl

  breaks-none : (n : ℕ) → break_marks bytes n [] ≡ []
  breaks-none zero = refl
  breaks-none (suc n) = breaks-none n

  breaks-enough : (n m : ℕ) (seats : List Seat) → length seats ≤ n → length seats ≤ m → break_marks bytes n seats ≡ break_marks bytes m seats
  breaks-enough n m [] h k = breaks-none n ∙ sym (breaks-none m)
  breaks-enough zero m (s ∷ ss) h k = absurd (omega (arith, h))
  breaks-enough (suc n) zero (s ∷ ss) h k = absurd (omega (arith, k))
  breaks-enough (suc n) (suc m) (s ∷ ss) h k =
      let seats = s ∷ ss in
      let columns = indent (bytes_of seats) in
      let end = columns + prefix_len (λ b. not (is_white b)) (drop columns (bytes_of seats)) in
      let some = front-some (bytes_of seats) (omega arith) in
      ap (λ r. white bytes (take columns seats) ++ (leaf_marks bytes name.ThematicBreakSequence (take (end - columns) (drop columns seats)) ++ r))
      (breaks-enough n m (drop end seats) (omega (arith, h, some, length-drop end seats)) (omega (arith, k, some, length-drop end seats)))

  text-shorter : (line : Line) → length (line_text line) ≤ length line
  text-shorter [] = omega arith
  text-shorter (s ∷ ss) = let rest = text-shorter ss in elim (is_line_ending s) as (λ b. length (cond (not b) (s ∷ line_text ss) (line_text ss)) ≤ suc (length ss)) [ true ↦ omega (arith, rest) | false ↦ omega (arith, rest) ]

  breaks-cut : (line : Line) → break_marks bytes (length line) (line_text line) ≡ break_marks bytes (length (line_text line)) (line_text (line_text line))
  breaks-cut line = breaks-enough (length line) (length (line_text line)) (line_text line) (text-shorter line) (omega arith) ∙ ap (break_marks bytes (length (line_text line))) (sym (text-twice line))

  -- fenced code
  abbrev closing-of : Fence → List Seat → List Mark
  closing-of f t = span_marks bytes name.CodeFencedFence t (sequence_marks bytes name.CodeFencedFenceSequence (run f.byte (unindented (bytes_of t))) t)

  fenced-cut : (f : Fence) (lines : List Line) → fenced_marks bytes f true (cut_last lines) ≡ fenced_marks bytes f true lines
  fenced-cut f [] = refl
  fenced-cut f (line ∷ []) = ap (closing-of f) (text-twice line)
  fenced-cut f (line ∷ next ∷ []) = ap (λ l. code_marks bytes f.indent (line_text line) ++ (line_end bytes line ++ closing-of f l)) (text-twice next)
  fenced-cut f (line ∷ next ∷ third ∷ lines) = ap (λ l. code_marks bytes f.indent (line_text line) ++ (line_end bytes line ++ l)) (fenced-cut f (next ∷ third ∷ lines))

  code-cut : (f : Fence) (lines : List Line) → 2 ≤ length lines → code_fenced_around bytes (string_chunk bytes) f true lines ≡ code_fenced_around bytes (string_chunk bytes) f true (cut_last lines)
  code-cut f [] long = refl
  code-cut f (line ∷ []) long = absurd (omega (arith, long))
  code-cut f (line ∷ next ∷ []) long = ap (λ l. fence_around bytes (string_chunk bytes) f.size (line_text line) ++ (line_end bytes line ++ l)) (sym (fenced-cut f (next ∷ [])))
  code-cut f (line ∷ next ∷ third ∷ lines) long = ap (λ l. fence_around bytes (string_chunk bytes) f.size (line_text line) ++ (line_end bytes line ++ l)) (sym (fenced-cut f (next ∷ third ∷ lines)))

  -- HTML
  within-text : (line : Line) → indent (bytes_of (line_text line)) ≤ length (line_text line)
  within-text line = let few = prefix_len-le-length is_white (bytes_of (line_text line)) in omega (arith, few, length-map (line_text line) (λ (s : Seat). s.byte))

  htmls-cut : (lines : List Line) → AllByRecursion IsWhole lines → html_marks bytes false lines ≡ html_marks bytes false (cut_last lines)
  htmls-cut [] whole = refl
  htmls-cut (line ∷ []) whole =
      let t = line_text line in
      let columns = indent (bytes_of t) in
      let few = within-text line in
      let twice = text-twice line in
      let taken = take_text line columns whole.0 few in
      let front : line_text (drop columns line) ≡ drop columns t = drop_text line columns whole.0 few in
      let again : line_text (drop columns t) ≡ drop columns t = drop_text t columns (whole-text line) (subst (λ l. columns ≤ length l) (sym twice) few) ∙ ap (drop columns) twice in
      (λ i. leaf_marks bytes name.HtmlFlowData (taken i) ++ (leaf_marks bytes name.HtmlFlowData ((front ∙ sym again) i) ++ []))
      ∙ ap (λ (n : ℕ). leaf_marks bytes name.HtmlFlowData (take n t) ++ (leaf_marks bytes name.HtmlFlowData (line_text (drop n t)) ++ [])) (ap (λ l. indent (bytes_of l)) (sym twice))
  htmls-cut (line ∷ next ∷ lines) whole =
      let columns = indent (bytes_of (line_text line)) in
      ap (λ l. leaf_marks bytes name.HtmlFlowData (take columns line) ++ l) (sym (lines-cut (leaf_marks bytes name.HtmlFlowData) (drop columns line ∷ next ∷ lines)))

  -- ---- each block but a blank line
  front-of : (lines : List Line) (line : Line) → take (length lines) (lines ++ line ∷ []) ≡ lines
  front-of [] line = refl
  front-of (l ∷ lines) line = ap (λ r. l ∷ r) (front-of lines line)

  below-of : (lines : List Line) (line : Line) → first_of (drop (length lines) (lines ++ line ∷ [])) ≡ line
  below-of [] line = refl
  below-of (l ∷ lines) line = below-of lines line

  setext-cut : (rank : ℕ) (lines : List Line) (below : Line) → with_lines (setext_heading rank lines below) (cut_last (lines ++ below ∷ [])) ≡ setext_heading rank lines (line_text below)
  setext-cut rank lines below =
      ap (λ all. setext_heading rank (take (length lines) all) (first_of (drop (length lines) all))) (cut-behind lines below)
      ∙ (λ i. setext_heading rank (front-of lines (line_text below) i) (below-of lines (line_text below) i))

  pub closed-cut : (block : LeafBlock) → IsNoBlank block → IsLong block → AllByRecursion IsWhole (block_lines block) → is_open block ≡ false
      → leaf_block_marks bytes block ≡ leaf_block_marks bytes (with_lines block (cut_last (block_lines block))) ++ last_end bytes (block_lines block)
  closed-cut (blank_line line) some long whole shut = absurd some
  closed-cut (break_line line) some long whole shut = block-cut name.ThematicBreak (line ∷ []) _ _ (breaks-cut line)
  closed-cut (atx_heading line) some long whole shut = block-cut name.HeadingAtx (line ∷ []) _ _ (ap (heading_around bytes (text_chunk bytes)) (sym (text-twice line)))
  closed-cut (paragraph lines) some long whole shut = block-cut name.Paragraph lines _ _ (sym (texts-cut false lines))
  closed-cut (setext_heading rank lines below) some long whole shut =
      let all = lines ++ below ∷ [] in
      let front = span_marks bytes name.HeadingSetextText (body lines) (text_marks bytes false lines) in
      block-cut name.HeadingSetext all _ _ (ap (λ l. front ++ (last_end bytes lines ++ underline_marks bytes l)) (sym (text-twice below)))
      ∙ ap (λ ls. block_span bytes name.HeadingSetext false ls (front ++ (last_end bytes lines ++ underline_marks bytes (line_text (line_text below)))) ++ last_end bytes all) (cut-behind lines below)
      ∙ ap (λ b. leaf_block_marks bytes b ++ last_end bytes all) (sym (setext-cut rank lines below))
  closed-cut (indented_code lines) some long whole shut = block-cut name.CodeIndented lines _ _ (sym (lines-cut (code_marks bytes 4) lines))
  closed-cut (fenced_code f true lines) some long whole shut = block-cut name.CodeFenced lines _ _ (code-cut f lines (long refl))
  closed-cut (fenced_code f false lines) some long whole shut = absurd (cc)
  closed-cut (html_block kind true lines) some long whole shut = block-cut name.HtmlFlow lines _ _ (htmls-cut lines whole)
  closed-cut (html_block kind false lines) some long whole shut = absurd (cc)

-- ==== The leaf blocks of lines, where no container begins: those of the lines up to the last that is not left blank, and blank lines behind them.
-- lines, the last with its line ending if it is held
abbrev pub held_lines : (is_held : Bool) → List Line → List Line
held_lines true lines = lines
held_lines false lines = cut_last lines

cut-agree : (lines : List Line) → Agree (cut_last lines) lines
cut-agree [] = tt
cut-agree (line ∷ []) = (ap bytes_of (text-twice line), tt)
cut-agree (line ∷ next ∷ lines) = (refl, cut-agree (next ∷ lines))

held-agree : (held : Bool) (lines : List Line) → Agree (held_lines held lines) lines
held-agree true lines = agree-self lines
held-agree false lines = cut-agree lines

-- lines with others behind them
cut-both : (xs ys : List Line) → 1 ≤ length ys → cut_last (xs ++ ys) ≡ xs ++ cut_last ys
cut-both [] ys some = refl
cut-both (x ∷ []) [] some = absurd (omega (arith, some))
cut-both (x ∷ []) (y ∷ ys) some = refl
cut-both (x ∷ next ∷ xs) ys some = ap (λ l. x ∷ l) (cut-both (next ∷ xs) ys some)

pub held-both : (held : Bool) (xs ys : List Line) → 1 ≤ length ys → held_lines held (xs ++ ys) ≡ xs ++ held_lines held ys
held-both true xs ys some = refl
held-both false xs ys some = cut-both xs ys some

pub end-both : (bytes : List ℕ) (xs ys : List Line) → 1 ≤ length ys → last_end bytes (xs ++ ys) ≡ last_end bytes ys
end-both bytes [] ys some = refl
end-both bytes (x ∷ []) [] some = absurd (omega (arith, some))
end-both bytes (x ∷ []) (y ∷ ys) some = refl
end-both bytes (x ∷ next ∷ xs) ys some = end-both bytes (next ∷ xs) ys some

pub last-both : (xs ys : List Line) → 1 ≤ length ys → last_line (xs ++ ys) ≡ last_line ys
last-both [] ys some = refl
last-both (x ∷ []) [] some = absurd (omega (arith, some))
last-both (x ∷ []) (y ∷ ys) some = refl
last-both (x ∷ next ∷ xs) ys some = last-both (next ∷ xs) ys some

take-both : {A : Type 0} (n m : ℕ) (xs : List A) → n ≤ length xs → take (n + m) xs ≡ take n xs ++ take m (drop n xs)
take-both zero m xs l = let none : 0 + m ≡ m = omega arith in ap (λ k. take k xs) none
take-both (suc n) m [] l = absurd (omega (arith, l))
take-both (suc n) m (x ∷ xs) l = let one : suc n + m ≡ suc (n + m) = omega arith in ap (λ k. take k (x ∷ xs)) one ∙ ap (λ r. x ∷ r) (take-both n m xs (omega (arith, l)))

pub front-taken : {A : Type 0} (n : ℕ) (xs ys : List A) → length xs ≡ n → take n (xs ++ ys) ≡ xs
front-taken n xs ys e = ap (λ k. take k (xs ++ ys)) (sym e) ∙ take-append_seam xs ys

pub front-dropped : {A : Type 0} (n : ℕ) (xs ys : List A) → length xs ≡ n → drop n (xs ++ ys) ≡ ys
front-dropped n xs ys e = ap (λ k. drop k (xs ++ ys)) (sym e) ∙ drop-append_seam xs ys

module _ (on : Constructs) where
  -- a block, cut from the front of lines
  abbrev block_at : (line : Line) (lines : List Line) → LeafBlock × ℕ
  block_at line lines = block_of_kind on (line_kind on (text_of line)) line lines

  -- lines with the same texts have the same blocks, if there are enough of them
  front-again : (line : Line) (lines : List Line) (y : Line) (ys : List Line) → Agree (y ∷ ys) (line ∷ lines) → (block_at line lines).1 ≤ suc (length ys)
      → block_at y ys ≡ (with_lines (block_at line lines).0 (take (block_at line lines).1 (y ∷ ys)), (block_at line lines).1)
  front-again line lines y ys h few = ap (λ t. block_of_kind on (line_kind on t) y ys) h.0 ∙ same-front on (line_kind on (text_of line)) line lines y ys h.0 h.1 few

  -- the block is itself with its own lines
  own-lines : (line : Line) (lines : List Line) → with_lines (block_at line lines).0 (take (block_at line lines).1 (line ∷ lines)) ≡ (block_at line lines).0
  own-lines line lines = let within = (cut on line lines).within in sym (ap (λ (c : LeafBlock × ℕ). c.0) (front-again line lines line lines (agree-self (line ∷ lines)) (omega (arith, within))))

  -- the blocks of lines that begin with a block's lines or with lines of the same texts
  blocks-again : (line : Line) (lines ys : List Line) → Agree ys (line ∷ lines) → let c = block_at line lines in c.1 ≤ length ys → leaf_blocks on ys ≡ with_lines c.0 (take c.1 ys) ∷ leaf_blocks on (drop c.1 ys)
  blocks-again line lines [] h few = let some = (cut on line lines).some in absurd (omega (arith, few, some))
  blocks-again line lines (y ∷ ys) h few = leaf-step on y ys ∙ ap (λ (d : LeafBlock × ℕ). d.0 ∷ leaf_blocks on (drop d.1 (y ∷ ys))) (front-again line lines y ys h few)

  -- Lines are cut behind the last that is not left blank. Its line ending is held, or stands behind all blocks
  pub record IsStretch (bytes : List ℕ) (lines : List Line) (m : ℕ) (held : Bool) : Type 0 where
    pub within : m ≤ length lines
    pub blocks : leaf_blocks on lines ≡ leaf_blocks on (take m lines) ++ map blank_line (drop m lines)
    pub marks : 1 ≤ m → leaf_blocks_marks bytes (leaf_blocks on (take m lines)) ≡ leaf_blocks_marks bytes (leaf_blocks on (held_lines held (take m lines))) ++ cond held [] (last_end bytes (take m lines))
    pub text_is : 1 ≤ m → held ≡ false → HasText (last_line (take m lines))

  module _ (bytes : List ℕ) where
    abbrev marks_of : List LeafBlock → List Mark
    marks_of blocks = leaf_blocks_marks bytes blocks

    -- ---- a block and the lines behind it
    module _ (line : Line) (lines : List Line) where
      abbrev all : List Line
      all = line ∷ lines

      abbrev c : LeafBlock × ℕ
      c = block_at line lines

      abbrev more : List Line
      more = drop c.1 all

      abbrev ahead : List Line
      ahead = take c.1 all

      is : IsCut c.0 c.1 all
      is = cut on line lines

      ahead-length : length ahead ≡ c.1
      ahead-length = let within = is.within in omega (arith, within, length-take c.1 all)

      -- with so many lines behind it
      split : (m : ℕ) → take (c.1 + m) all ≡ ahead ++ take m more
      split m = take-both c.1 m all is.within

      first-blocks : leaf_blocks on all ≡ c.0 ∷ leaf_blocks on more
      first-blocks = leaf-step on line lines

      part-blocks : (m : ℕ) → leaf_blocks on (take (c.1 + m) all) ≡ c.0 ∷ leaf_blocks on (take m more)
      part-blocks m =
          let within = is.within in
          let ys = ahead ++ take m more in
          let long = length-append ahead (take m more) in
          ap (leaf_blocks on) (split m)
          ∙ blocks-again line lines ys (subst (λ l. Agree l all) (split m) (agree-take (c.1 + m) all)) (omega (arith, long, ahead-length))
          ∙ (λ i. with_lines c.0 (front-taken c.1 ahead (take m more) ahead-length i) ∷ leaf_blocks on (front-dropped c.1 ahead (take m more) ahead-length i))
          ∙ ap (λ b. b ∷ leaf_blocks on (take m more)) (own-lines line lines)

      more-within : (m : ℕ) → m ≤ length more → c.1 + m ≤ length all
      more-within m l = let within = is.within in omega (arith, l, within, length-drop c.1 all)

      blocks-on : (m : ℕ) → leaf_blocks on more ≡ leaf_blocks on (take m more) ++ map blank_line (drop m more) → leaf_blocks on all ≡ leaf_blocks on (take (c.1 + m) all) ++ map blank_line (drop (c.1 + m) all)
      blocks-on m e =
          let behind : drop m more ≡ drop (c.1 + m) all = drop-drop m c.1 all in
          first-blocks ∙ ap (λ l. c.0 ∷ l) e ∙ (λ i. sym (part-blocks m) i ++ map blank_line (behind i))

      -- lines of the same texts in place of the lines behind it
      held-blocks : (held : Bool) (m : ℕ) → 1 ≤ length (take m more) → leaf_blocks on (held_lines held (take (c.1 + m) all)) ≡ c.0 ∷ leaf_blocks on (held_lines held (take m more))
      held-blocks held m some =
          let ys = take m more in
          let zs = held_lines held ys in
          let whole : held_lines held (take (c.1 + m) all) ≡ ahead ++ zs = ap (held_lines held) (split m) ∙ held-both held ahead ys some in
          let long = length-append ahead zs in
          let agree : Agree (ahead ++ zs) all = subst (λ l. Agree l all) whole (agree-trans (held_lines held (take (c.1 + m) all)) (take (c.1 + m) all) all (held-agree held (take (c.1 + m) all)) (agree-take (c.1 + m) all)) in
          ap (leaf_blocks on) whole
          ∙ blocks-again line lines (ahead ++ zs) agree (omega (arith, long, ahead-length))
          ∙ (λ i. with_lines c.0 (front-taken c.1 ahead zs ahead-length i) ∷ leaf_blocks on (front-dropped c.1 ahead zs ahead-length i))
          ∙ ap (λ b. b ∷ leaf_blocks on zs) (own-lines line lines)

      -- the block, and a stretch behind it
      marks-on : (held : Bool) (m : ℕ) → 1 ≤ length (take m more) → marks_of (leaf_blocks on (take m more)) ≡ marks_of (leaf_blocks on (held_lines held (take m more))) ++ cond held [] (last_end bytes (take m more))
          → marks_of (leaf_blocks on (take (c.1 + m) all)) ≡ marks_of (leaf_blocks on (held_lines held (take (c.1 + m) all))) ++ cond held [] (last_end bytes (take (c.1 + m) all))
      marks-on held m some e =
          let ys = take m more in
          let front = leaf_block_marks bytes c.0 in
          let last : last_end bytes (take (c.1 + m) all) ≡ last_end bytes ys = ap (last_end bytes) (split m) ∙ end-both bytes ahead ys some in
          ap marks_of (part-blocks m) ∙ ap (λ l. front ++ l) e
          ∙ sym (append_assoc front (marks_of (leaf_blocks on (held_lines held ys))) (cond held [] (last_end bytes ys)))
          ∙ (λ i. marks_of (sym (held-blocks held m some) i) ++ cond held [] (sym last i))

      -- the block alone
      alone-open : is_open c.0 ≡ true → marks_of (leaf_blocks on ahead) ≡ marks_of (leaf_blocks on (held_lines true ahead)) ++ cond true [] (last_end bytes ahead)
      alone-open e = sym (append-nil (marks_of (leaf_blocks on ahead)))

      alone-blocks : (ys : List Line) → Agree ys all → length ys ≡ c.1 → leaf_blocks on ys ≡ with_lines c.0 ys ∷ []
      alone-blocks ys agree long =
          blocks-again line lines ys agree (omega (arith, long))
          ∙ (λ i. with_lines c.0 ((ap (take c.1) (sym (append-nil ys)) ∙ front-taken c.1 ys [] long) i) ∷ leaf_blocks on ((ap (drop c.1) (sym (append-nil ys)) ∙ front-dropped c.1 ys [] long) i))

      alone-closed : IsNoBlank c.0 → AllByRecursion IsWhole all → is_open c.0 ≡ false → marks_of (leaf_blocks on ahead) ≡ marks_of (leaf_blocks on (held_lines false ahead)) ++ cond false [] (last_end bytes ahead)
      alone-closed some whole shut =
          let zs = cut_last ahead in
          let lines-are : block_lines c.0 ≡ ahead = is.lines in
          let own : with_lines c.0 ahead ≡ c.0 = own-lines line lines in
          let block = closed-cut bytes c.0 some is.long (subst (AllByRecursion IsWhole) (sym lines-are) (every-take IsWhole c.1 all whole)) shut in
          let first : marks_of (leaf_blocks on ahead) ≡ leaf_block_marks bytes c.0 = ap marks_of (alone-blocks ahead (agree-take c.1 all) ahead-length) ∙ append-nil (leaf_block_marks bytes (with_lines c.0 ahead)) ∙ ap (leaf_block_marks bytes) own in
          let second : marks_of (leaf_blocks on zs) ≡ leaf_block_marks bytes (with_lines c.0 zs) =
          ap marks_of (alone-blocks zs (agree-trans zs ahead all (cut-agree ahead) (agree-take c.1 all)) (length-cut ahead ∙ ahead-length)) ∙ append-nil (leaf_block_marks bytes (with_lines c.0 zs)) in
          first ∙ block ∙ (λ i. leaf_block_marks bytes (with_lines c.0 (cut_last (lines-are i))) ++ last_end bytes (lines-are i)) ∙ ap (λ l. l ++ last_end bytes ahead) (sym second)

      alone-marks : (held : Bool) → IsNoBlank c.0 → AllByRecursion IsWhole all → held ≡ is_open c.0 → marks_of (leaf_blocks on ahead) ≡ marks_of (leaf_blocks on (held_lines held ahead)) ++ cond held [] (last_end bytes ahead)
      alone-marks true some whole e = alone-open (sym e)
      alone-marks false some whole e = alone-closed some whole (sym e)

      -- ---- where the lines are cut
      abbrev after : Leaf
      after = leaf_behind on closed ahead

      abbrev m : ℕ
      m = kept on closed more

      abbrev held_by : ℕ → List Line → Bool
      held_by k ls = holds_ending (leaf_behind on closed (take k ls))

      -- the last line that is not left blank is behind the block
      stretch-on : (n : ℕ) → m ≡ suc n → Acts on after more → IsStretch bytes more m (held_by m more) → IsStretch bytes all (c.1 + m) (held_by (c.1 + m) all)
      stretch-on n e acts h =
          let h_within = h.within in
          let some : 1 ≤ m = omega (arith, e) in
          let there : 1 ≤ length (take m more) = omega (arith, e, h_within, length-take m more) in
          let held : held_by (c.1 + m) all ≡ held_by m more = ap (λ l. holds_ending (leaf_behind on closed l)) (split m) ∙ ap holds_ending (behind-both on closed ahead (take m more) ∙ acts-behind on after more (take m more) n acts (ap (λ k. take k more) e) there) in
          let last : last_line (take (c.1 + m) all) ≡ last_line (take m more) = ap last_line (split m) ∙ last-both ahead (take m more) there in
          subst (IsStretch bytes all (c.1 + m)) (sym held) (record {
            within = more-within m h_within;
            blocks = blocks-on m h.blocks;
            marks = λ _. marks-on (held_by m more) m there (h.marks some);
            text_is = λ _ shut. subst HasText (sym last) (h.text_is some shut);
          })

      -- or it is in it
      stretch-ends : m ≡ 0 → IsNoBlank c.0 → AllByRecursion IsWhole all → Front on c all → IsStretch bytes more m (held_by m more) → IsStretch bytes all c.1 (held_by c.1 all)
      stretch-ends e some whole front h =
          let none : c.1 + m ≡ c.1 = omega (arith, e) in
          subst (IsStretch bytes all c.1) (sym front.open_is) (record {
            within = is.within;
            blocks = subst (λ k. leaf_blocks on all ≡ leaf_blocks on (take k all) ++ map blank_line (drop k all)) none (blocks-on m h.blocks);
            marks = λ _. alone-marks (is_open c.0) some whole refl;
            text_is = λ _ shut. front.text_is shut;
          })

      full-stretch : (k : ℕ) → m ≡ k → IsNoBlank c.0 → AllByRecursion IsWhole all → Front on c all → IsStretch bytes more m (held_by m more) → IsStretch bytes all (kept on closed all) (held_by (kept on closed all) all)
      full-stretch k e some whole front h =
          let run : kept on closed all ≡ c.1 + m = front.run_is ∙ ap (λ n. c.1 + n) (acts-kept on after more front.acts) in
          subst (λ k. IsStretch bytes all k (held_by k all)) (sym run) (by k e)
        where
          by : (k : ℕ) → m ≡ k → IsStretch bytes all (c.1 + m) (held_by (c.1 + m) all)
          by zero e = let none : c.1 + m ≡ c.1 = omega (arith, e) in subst (λ k. IsStretch bytes all k (held_by k all)) (sym none) (stretch-ends e some whole front h)
          by (suc n) e = stretch-on n e front.acts h

      -- a blank line
      blank-stretch : (k : ℕ) → m ≡ k → is_blank_line (text_of line) ≡ true → IsStretch bytes more m (held_by m more) → IsStretch bytes all (kept on closed all) (held_by (kept on closed all) all)
      blank-stretch k e full h = by k e
        where
          kind : line_kind on (text_of line) ≡ blank
          kind = ap (λ b. cond b blank (cond (is_far on (text_of line)) indented (kind_of_rest on (indent (text_of line)) (unindented (text_of line))))) full

          block : c ≡ (blank_line line, 1)
          block = ap (λ k. block_of_kind on k line lines) kind

          left : is_left on closed line ≡ true
          left = ap (λ b. b && true) full

          next : leaf_next on closed line ≡ closed
          next = ap (λ b. cond b closed (leaf_after on closed (text_of line))) left

          rest : more ≡ lines
          rest = ap (λ (d : LeafBlock × ℕ). drop d.1 all) block

          shut : after ≡ closed
          shut = ap (λ (d : LeafBlock × ℕ). leaf_behind on closed (take d.1 all)) block ∙ next

          run : kept on closed all ≡ cond (nat_le 1 m) (suc m) 0
          run = (λ i. let n = kept on (next i) (sym rest i) in cond (left i) (cond (nat_le 1 n) (suc n) 0) (suc n))

          by : (k : ℕ) → m ≡ k → IsStretch bytes all (kept on closed all) (held_by (kept on closed all) all)
          by zero e =
              let none : kept on closed all ≡ 0 = run ∙ ap (λ n. cond (nat_le 1 n) (suc n) 0) e in
              subst (λ k. IsStretch bytes all k (held_by k all)) (sym none) (record {
                within = omega arith;
                blocks = first-blocks ∙ (λ i. (block i).0 ∷ (h.blocks ∙ ap (λ k. leaf_blocks on (take k more) ++ map blank_line (drop k more)) e ∙ ap (map blank_line) rest) i);
                marks = λ some. absurd (omega (arith, some));
                text_is = λ some. absurd (omega (arith, some));
              })
          by (suc n) e =
              let one : c.1 ≡ 1 = ap (λ (d : LeafBlock × ℕ). d.1) block in
              let first : cond (nat_le 1 m) (suc m) 0 ≡ suc m = ap (λ b. cond b (suc m) 0) (le-leb 1 m (omega (arith, e))) in
              let many : kept on closed all ≡ suc m = run ∙ first in
              let all_is : kept on closed all ≡ c.1 + m = omega (arith, many, one) in
              subst (λ k. IsStretch bytes all k (held_by k all)) (sym all_is) (stretch-on n e (acts-closed on after more shut) h)

    -- ---- all lines
    by-content : (lines behind : List Line) → IsNoBlank (underlined on lines behind).0
    by-content lines [] = tt
    by-content lines (next ∷ behind) = by-rank (underline_rank on (text_of next))
      where
        by-rank : (rank : Option ℕ) → let u : LeafBlock × ℕ = elim rank [ None ↦ (paragraph lines, length lines) | Some rank ↦ (setext_heading rank lines next, suc (length lines)) ] in IsNoBlank u.0
        by-rank None = tt
        by-rank (Some rank) = tt

    no-blank : (kind : LineKind) (line : Line) (lines : List Line) → is_blank on kind ≡ false → IsNoBlank (block_of_kind on kind line lines).0
    no-blank blank line lines h = absurd (cc)
    no-blank text line lines h = let n = suc (lines_until (ends_text on) lines) in by-content (take n (line ∷ lines)) (drop n (line ∷ lines))
    no-blank kind line lines h = tt

    full-kind : (line : Line) → is_blank_line (text_of line) ≡ false → (b : Bool) → is_blank on (line_kind on (text_of line)) ≡ b → is_blank on (line_kind on (text_of line)) ≡ false
    full-kind line h true e = let both : true ≡ false = sym (blank-is on (text_of line) e) ∙ h in absurd (cc)
    full-kind line h false e = e

    pub stretch : (bound : ℕ) (lines : List Line) → length lines ≤ bound → AllByRecursion IsWhole lines → IsStretch bytes lines (kept on closed lines) (holds_ending (leaf_behind on closed (take (kept on closed lines) lines)))
    stretch bound [] l whole = record { within = omega arith; blocks = refl; marks = λ some. absurd (omega (arith, some)); text_is = λ some. absurd (omega (arith, some)) }
    stretch zero (line ∷ lines) l whole = absurd (omega (arith, l))
    stretch (suc bound) (line ∷ lines) l whole =
        let all = line ∷ lines in
        let n = (block_at line lines).1 in
        let some = (cut on line lines).some in
        let rest = drop n all in
        let more = stretch bound rest (omega (arith, l, some, length-drop n all)) (every-drop IsWhole n all whole) in
        elim (is_blank_line (text_of line)) as (λ b. is_blank_line (text_of line) ≡ b → IsStretch bytes all (kept on closed all) (holds_ending (leaf_behind on closed (take (kept on closed all) all)))) [
          | true ↦ λ e. blank-stretch line lines (kept on closed rest) refl e more
          | false ↦ λ e. full-stretch line lines (kept on closed rest) refl (no-blank (line_kind on (text_of line)) line lines (full-kind line e (is_blank on (line_kind on (text_of line))) refl)) whole (front on line lines e) more
        ] refl
