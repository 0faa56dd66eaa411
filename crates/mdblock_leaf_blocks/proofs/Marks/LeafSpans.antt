-- Leaf blocks are all their lines, and their marks account for each virtual byte.
use Rattle.mdblock_leaf_blocks.proofs.Prelude.{◌≡◌, ℕ, zero, suc, ◌≤◌, List, [], ◌∷◌, ◌++◌, false, not, append_assoc, length, take, drop, length-append, length-drop, refl, sym, ap, ◌∙◌, subst, arith, AllByRecursion, append-nil, Constructs, lines-are-all, AccountFor, all_of, ending_of, line_text, lines_in, block_lines, last_ending, paragraph_told, underline_told, Line, LeafBlock, blank_line, break_line, atx_heading, paragraph, setext_heading, indented_code, fenced_code, html_block, block_of_kind, blocks_in, leaf_blocks, text_of, line_kind, block_told, blocks_told, flow_told, as_it_is, before_edits, mark_before, flat_map, map, None, map-append, Enter, Exit, Seat, end_after, event, Mark, block_around, block_span, body, code_marks, last_end, leaf_block_marks, leaf_blocks_marks, span_marks, string_chunk, text_chunk, text_marks, underline_inside, underline_marks, FlowAccounts}
use Rattle.markdown_base.specs.declared.event.Content.TheVariants as content
use Rattle.markdown_base.specs.declared.event.Name.TheVariants as name
use Rattle.mdblock_leaf_blocks.proofs.Marks.Cuts.{IsLong, cut}
use Rattle.mdblock_leaf_blocks.proofs.Marks.FullBlocks.{IsFull, StartsText, leaf-blocks-full}
use Rattle.mdblock_leaf_blocks.proofs.Marks.MarkAccounts.{AreSpans, accounts-kept, bare, linked-spans}
use Rattle.mdblock_leaf_blocks.proofs.Lines.{IsWhole, all-of-split, body-and-last, body-and-text, text-and-ending, whole-lines}
use Rattle.mdblock_leaf_blocks.proofs.Marks.MarkLists.{kept-before}
use Rattle.mdblock_leaf_blocks.proofs.Marks.MarkSpans.{IsKeptBySpans, no-spans, over, spans-around, spans-block, spans-both, spans-break, spans-code, spans-code-fenced-around, spans-data, spans-heading-around, spans-html, spans-last, spans-leaf, spans-lines, spans-text, spans-underline}
use Rattle.mdblock_leaf_blocks.proofs.Lines.WholeLines.{whole-ending, whole-text}

last-is : (lines : List Line) (below : Line) → last_ending (lines ++ below ∷ []) ≡ ending_of below
last-is [] below = refl
last-is (line ∷ []) below = refl
last-is (line ∷ next ∷ lines) below = last-is (next ∷ lines) below

lines-front : (xs ys : List Line) → AllByRecursion IsWhole (xs ++ ys) → AllByRecursion IsWhole xs
lines-front [] ys h = tt
lines-front (x ∷ xs) ys h = (h.0, lines-front xs ys h.1)

lines-back : (xs ys : List Line) → AllByRecursion IsWhole (xs ++ ys) → AllByRecursion IsWhole ys
lines-back [] ys h = h
lines-back (x ∷ xs) ys h = lines-back xs ys h.1

-- a setext heading is its text, the line ending behind that, and its underline
pub setext-body : (lines : List Line) (below : Line) → AllByRecursion IsWhole (lines ++ below ∷ []) → body lines ++ (last_ending lines ++ line_text below) ≡ body (lines ++ below ∷ [])
setext-body lines below whole =
    let t = line_text below in
    sym (append_assoc (body lines) (last_ending lines) t) ∙ ap (λ l. l ++ t) (body-and-last lines (lines-front lines (below ∷ []) whole)) ∙ sym (body-and-text lines below)

whole-taken : (n : ℕ) (lines : List Line) → AllByRecursion IsWhole lines → AllByRecursion IsWhole (take n lines)
whole-taken zero lines h = tt
whole-taken (suc n) [] h = tt
whole-taken (suc n) (line ∷ lines) h = (h.0, whole-taken n lines h.1)

whole-dropped : (n : ℕ) (lines : List Line) → AllByRecursion IsWhole lines → AllByRecursion IsWhole (drop n lines)
whole-dropped zero lines h = h
whole-dropped (suc n) [] h = tt
whole-dropped (suc n) (line ∷ lines) h = whole-dropped n lines h.1

pub text-shorter : (line : Line) → IsWhole line → length (line_text line) ≤ length line
text-shorter line h = let long = ap length (text-and-ending line h) in omega (arith, long, length-append (line_text line) (ending_of line))

module _ (bytes : List ℕ) (P : List Mark → List Seat → Type 0) (kept : IsKeptBySpans bytes P) where
  -- a setext heading, by what its text is read as
  pub spans-setext-around : (lines : List Line) (below : Line) (inside : List Mark) → P inside (body lines) → AllByRecursion IsWhole (lines ++ below ∷ [])
      → P (block_span bytes name.HeadingSetext false (lines ++ below ∷ []) (span_marks bytes name.HeadingSetextText (body lines) inside ++ (last_end bytes lines ++ underline_marks bytes (line_text below)))) (all_of (lines ++ below ∷ []))
  spans-setext-around lines below inside h whole =
      let t = line_text below in
      let is = setext-body lines below whole in
      spans-block bytes P kept name.HeadingSetext false (lines ++ below ∷ []) _ refl whole
      (over bytes P kept (body (lines ++ below ∷ [])) is (spans-both bytes P kept (spans-around bytes P kept name.HeadingSetextText (body lines) _ refl h) (spans-both bytes P kept (spans-last bytes P kept lines (lines-front lines (below ∷ []) whole)) (spans-underline bytes P kept t (whole-text below)))))

  -- a block, by what its texts and strings are read as
  pub spans-of-around : (read : List Seat → List Mark) → ((seats : List Seat) → IsWhole seats → P (read seats) seats)
      → (lines_of_text : List Line → List Mark) → ((lines : List Line) → AllByRecursion StartsText lines → AllByRecursion IsWhole lines → P (lines_of_text lines) (body lines))
      → (string : List Seat → List Mark) → ((seats : List Seat) → IsWhole seats → P (string seats) seats)
      → (block : LeafBlock) → IsFull block → AllByRecursion IsWhole (block_lines block) → IsLong block → P (block_around bytes read lines_of_text string block) (all_of (block_lines block))
  spans-of-around read texts ls lines_read string strings (blank_line line) full whole long = over bytes P kept (line ++ []) (text-and-ending line whole.0 ∙ sym (append-nil line)) (spans-both bytes P kept (spans-leaf bytes P kept name.SpaceOrTab (line_text line) (whole-text line)) (spans-leaf bytes P kept name.BlankLineEnding (ending_of line) (whole-ending line whole.0)))
  spans-of-around read texts ls lines_read string strings (break_line line) full whole long = spans-block bytes P kept name.ThematicBreak false (line ∷ []) _ refl whole (spans-break bytes P kept (length line) (line_text line) (text-shorter line whole.0) (whole-text line))
  spans-of-around read texts ls lines_read string strings (atx_heading line) full whole long = spans-block bytes P kept name.HeadingAtx false (line ∷ []) _ refl whole (spans-heading-around bytes P kept read texts (line_text line) (whole-text line))
  spans-of-around read texts ls lines_read string strings (paragraph lines) full whole long = spans-block bytes P kept name.Paragraph false lines _ refl whole (lines_read lines full whole)
  spans-of-around read texts ls lines_read string strings (setext_heading rank lines below) full whole long = spans-setext-around lines below (ls lines) (lines_read lines full.0 (lines-front lines (below ∷ []) whole)) whole
  spans-of-around read texts ls lines_read string strings (indented_code lines) full whole long = spans-block bytes P kept name.CodeIndented false lines _ refl whole (spans-lines bytes P kept (code_marks bytes 4) (spans-code bytes P kept 4) false lines whole)
  spans-of-around read texts ls lines_read string strings (fenced_code f is_closed lines) full whole long = spans-block bytes P kept name.CodeFenced (not is_closed) lines _ refl whole (spans-code-fenced-around bytes P kept string strings f is_closed lines long whole)
  spans-of-around read texts ls lines_read string strings (html_block kind is_closed lines) full whole long = spans-block bytes P kept name.HtmlFlow (not is_closed) lines _ refl whole (spans-html bytes P kept (not is_closed) lines whole)

  pub spans-of : (block : LeafBlock) → IsFull block → AllByRecursion IsWhole (block_lines block) → IsLong block → P (leaf_block_marks bytes block) (all_of (block_lines block))
  spans-of block full whole long =
      spans-of-around (text_chunk bytes) (spans-data bytes P kept content.Text) (text_marks bytes false) (spans-text bytes P kept) (string_chunk bytes) (spans-data bytes P kept content.String) block full whole long

module _ (on : Constructs) where
  -- what each block's marks keep over its lines, the marks of all blocks keep over all lines
  pub spans-blocks : (bytes : List ℕ) (P : List Mark → List Seat → Type 0) (kept : IsKeptBySpans bytes P) (marks_of : LeafBlock → List Mark)
      → ((block : LeafBlock) → IsFull block → AllByRecursion IsWhole (block_lines block) → IsLong block → P (marks_of block) (all_of (block_lines block)))
      → (bound : ℕ) (lines : List Line) → length lines ≤ bound → AllByRecursion IsFull (blocks_in on bound lines) → AllByRecursion IsWhole lines → P (flat_map marks_of (blocks_in on bound lines)) (all_of lines)
  spans-blocks bytes P kept marks_of each zero [] l full whole = no-spans bytes P kept
  spans-blocks bytes P kept marks_of each zero (line ∷ lines) l full whole = absurd (omega (arith, l))
  spans-blocks bytes P kept marks_of each (suc bound) [] l full whole = no-spans bytes P kept
  spans-blocks bytes P kept marks_of each (suc bound) (line ∷ lines) l full whole =
      let all = line ∷ lines in
      let kind = line_kind on (text_of line) in
      let n = (block_of_kind on kind line lines).1 in
      let first = cut on line lines in
      let some = first.some in
      let shorter : length (drop n all) ≤ bound = omega (arith, length-drop n all, some, l) in
      let block = (block_of_kind on kind line lines).0 in
      let one = each block full.0 (subst (AllByRecursion IsWhole) (sym first.lines) (whole-taken n all whole)) first.long in
      over bytes P kept (all_of all) (ap (λ ls. all_of ls ++ all_of (drop n all)) first.lines ∙ all-of-split n all)
      (spans-both bytes P kept one (spans-blocks bytes P kept marks_of each bound (drop n all) shorter full.1 (whole-dropped n all whole)))

-- What spans keep, the marks of leaf blocks keep over all virtual bytes
pub leaf-blocks-keep : (on : Constructs) (bytes : List ℕ) (P : List Mark → List Seat → Type 0) → IsKeptBySpans bytes P → (seats : List Seat) → P (leaf_blocks_marks bytes (leaf_blocks on (lines_in seats))) seats
leaf-blocks-keep on bytes P kept seats =
    let lines = lines_in seats in
    over bytes P kept seats (lines-are-all seats) (spans-blocks on bytes P kept (leaf_block_marks bytes) (spans-of bytes P kept) (length lines) lines (omega arith) (leaf-blocks-full on seats) (whole-lines seats))

-- and so do the marks that are read of them, before the edits
module _ (bytes : List ℕ) (P : List Mark → List Seat → Type 0) (kept : IsKeptBySpans bytes P) where
  before-paragraph : (seats : List Seat) (inside : List Mark) → before_edits (paragraph_told bytes seats (map as_it_is inside)) ≡ span_marks bytes name.Paragraph seats inside
  before-paragraph [] inside = kept-before inside
  before-paragraph (s ∷ ss) inside = ap (λ l. (event bytes Enter name.Paragraph s.point, None) ∷ l) (map-append mark_before (map as_it_is inside) _ ∙ ap (λ l. l ++ (event bytes Exit name.Paragraph (end_after s.end ss), None) ∷ []) (kept-before inside))

  before-underline : (seats : List Seat) (inside : List Mark) → before_edits (underline_told bytes seats inside) ≡ span_marks bytes name.HeadingSetextUnderline seats inside
  before-underline [] inside = kept-before inside
  before-underline (s ∷ ss) inside =
      ap (λ l. (event bytes Enter name.HeadingSetextUnderline s.point, None) ∷ l) (map-append mark_before (map as_it_is inside) _ ∙ ap (λ l. l ++ (event bytes Exit name.HeadingSetextUnderline (end_after s.end ss), None) ∷ []) (kept-before inside))

  before-heading : (rank : ℕ) (lines : List Line) (below : Line)
      → before_edits (block_told bytes (setext_heading rank lines below)) ≡ ((span_marks bytes name.Paragraph (body lines) (text_marks bytes false lines) ++ (last_end bytes lines ++ underline_marks bytes (line_text below))) ++ last_end bytes (below ∷ []))
  before-heading rank lines below =
      let p = paragraph_told bytes (body lines) (map as_it_is (text_marks bytes false lines)) in
      let e = map as_it_is (last_end bytes lines) in
      let u = underline_told bytes (line_text below) (underline_inside bytes (line_text below)) in
      let z = map as_it_is (last_end bytes (below ∷ [])) in
      let first = map-append mark_before p (e ++ u) in
      let second = map-append mark_before e u in
      map-append mark_before (p ++ (e ++ u)) z ∙ ap (λ l. l ++ before_edits z) (first ∙ ap (λ l. before_edits p ++ l) second)
      ∙ rw (before-paragraph (body lines) (text_marks bytes false lines), before-underline (line_text below) (underline_inside bytes (line_text below)), kept-before (last_end bytes lines), kept-before (last_end bytes (below ∷ []))) refl

  told-heading : (rank : ℕ) (lines : List Line) (below : Line) → AllByRecursion StartsText lines → AllByRecursion IsWhole (lines ++ below ∷ []) → P (before_edits (block_told bytes (setext_heading rank lines below))) (all_of (lines ++ below ∷ []))
  told-heading rank lines below full whole =
      let t = line_text below in
      let all = lines ++ below ∷ [] in
      let joined = setext-body lines below whole in
      let is = ap (λ l. l ++ ending_of below) joined ∙ ap (λ l. body all ++ l) (sym (last-is lines below)) ∙ body-and-last all whole in
      subst (λ ms. P ms (all_of all)) (sym (before-heading rank lines below))
      (over bytes P kept (all_of all) is
      (spans-both bytes P kept
      (spans-both bytes P kept (spans-around bytes P kept name.Paragraph (body lines) _ refl (spans-text bytes P kept lines full (lines-front lines (below ∷ []) whole))) (spans-both bytes P kept (spans-last bytes P kept lines (lines-front lines (below ∷ []) whole)) (spans-underline bytes P kept t (whole-text below))))
      (spans-last bytes P kept (below ∷ []) (lines-back lines (below ∷ []) whole))))

  as-kept : (block : LeafBlock) → IsFull block → AllByRecursion IsWhole (block_lines block) → IsLong block → P (before_edits (map as_it_is (leaf_block_marks bytes block))) (all_of (block_lines block))
  as-kept block full whole long = subst (λ ms. P ms (all_of (block_lines block))) (sym (kept-before (leaf_block_marks bytes block))) (spans-of bytes P kept block full whole long)

  told-block : (block : LeafBlock) → IsFull block → AllByRecursion IsWhole (block_lines block) → IsLong block → P (before_edits (block_told bytes block)) (all_of (block_lines block))
  told-block (setext_heading rank lines below) full whole long = told-heading rank lines below full.0 whole
  told-block (blank_line line) full whole long = as-kept (blank_line line) full whole long
  told-block (break_line line) full whole long = as-kept (break_line line) full whole long
  told-block (atx_heading line) full whole long = as-kept (atx_heading line) full whole long
  told-block (paragraph lines) full whole long = as-kept (paragraph lines) full whole long
  told-block (indented_code lines) full whole long = as-kept (indented_code lines) full whole long
  told-block (fenced_code f is_closed lines) full whole long = as-kept (fenced_code f is_closed lines) full whole long
  told-block (html_block kind is_closed lines) full whole long = as-kept (html_block kind is_closed lines) full whole long

  told-blocks : (blocks : List LeafBlock) → before_edits (blocks_told bytes blocks) ≡ flat_map (λ block. before_edits (block_told bytes block)) blocks
  told-blocks [] = refl
  told-blocks (block ∷ blocks) = map-append mark_before (block_told bytes block) (blocks_told bytes blocks) ∙ ap (λ l. before_edits (block_told bytes block) ++ l) (told-blocks blocks)

  pub flow-told-keeps : (on : Constructs) (seats : List Seat) → P (before_edits (flow_told on bytes seats)) seats
  flow-told-keeps on seats =
      let lines = lines_in seats in
      subst (λ ms. P ms seats) (sym (told-blocks (leaf_blocks on lines)))
      (over bytes P kept seats (lines-are-all seats) (spans-blocks on bytes P kept (λ block. before_edits (block_told bytes block)) told-block (length lines) lines (omega arith) (leaf-blocks-full on seats) (whole-lines seats)))

-- The events of leaf blocks account for each virtual byte
pub flow-accounts : FlowAccounts
flow-accounts on bytes seats =
    let marks = leaf_blocks_marks bytes (leaf_blocks on (lines_in seats)) in
    let spans = leaf-blocks-keep on bytes (λ ms a. AreSpans bytes ms a) (accounts-kept bytes) seats in
    let nothing : AccountFor [] bytes [] = record { stretches = []; are_all = refl; are_innermost = refl } in
    let h = subst (λ es. AccountFor es bytes seats) (append-nil (bare marks)) (subst (AccountFor (bare marks ++ []) bytes) (append-nil seats) (spans.account [] [] nothing)) in
    record { stretches = h.stretches; are_all = h.are_all; are_innermost = linked-spans 0 marks ∙ h.are_innermost }
