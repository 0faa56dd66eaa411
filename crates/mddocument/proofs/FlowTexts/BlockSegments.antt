-- The marks of leaf blocks are cut into segments over their lines: the lines of a text are one chain, and so is each string.
use Rattle.mddocument.proofs.Prelude.{◌≡◌, ℕ, ◌+◌, ◌-◌, List, [], ◌∷◌, ◌++◌, Bool, true, false, not, inl, inr, Option, None, Some, length, take, drop, refl, sym, ap, ◌∙◌, subst, arith, AllByRecursion, flat_map, prefix_len, flat_map-append, append-nil, Constructs, Content, Event, Seat, lets_through, every-back, every-front, lines-are-all, HaveNoLinks, is_white, all_of, ending_of, line_text, lines_in, IsFull, StartsText, leaf-blocks-full, leaf-blocks-lines, setext-body, block_lines, AreSingle, IsPlain, single-block-marks, single-both, single-data, single-end, single-fenced, single-last, single-leaf, single-sequence, single-span, single-underline, line-on, IsWhole, body-and-last, part-behind, text-and-ending, three-parts, whole-behind, whole-lines, whole-part, whole-text, block_seats, last_ending, Line, LeafBlock, blank_line, break_line, atx_heading, paragraph, setext_heading, indented_code, fenced_code, html_block, leaf_blocks, Mark, alone, block_around, block_span, body, chunk_span, code_fenced_around, fence_around, fenced_marks, heading_around, last_end, leaf_block_marks, leaf_blocks_marks, line_end, string_chunk, text_chunk, text_marks, underline_marks, Fence, heading_text, indent, run, unindented, block_texts, read_marks}
use Rattle.markdown_base.specs.declared.event.Content.TheVariants as content
use Rattle.markdown_base.specs.declared.event.Name.{Name}
use Rattle.markdown_base.specs.declared.event.Name.TheVariants as name
use Rattle.mdblock_leaf_blocks.specs.LeafBlocks.{bytes_of}
use Rattle.mddocument.proofs.FlowTexts.Segments.{AreSegments, HasByte, IsOther, IsTextual, chain_marks, in_line, kept-events, no-segments, segments-around, segments-both, segments-chain, segments-kept}

-- ---- lines of text as chunks
-- each line is a chunk with its line ending, the last without it
abbrev chunks_of : List Line → List (List Seat)
chunks_of [] = []
chunks_of (line ∷ []) = line_text line ∷ []
chunks_of (line ∷ next ∷ lines) = line ∷ chunks_of (next ∷ lines)

chunks-body : (lines : List Line) → in_line (chunks_of lines) ≡ body lines
chunks-body [] = refl
chunks-body (line ∷ []) = append-nil (line_text line)
chunks-body (line ∷ next ∷ lines) = ap (λ l. line ++ l) (chunks-body (next ∷ lines))

full-line : (line : Line) → StartsText line → HasByte line
full-line [] h = absurd h
full-line (s ∷ ss) h = tt

full-text : (line : Line) → StartsText line → HasByte (line_text line)
full-text [] h = absurd h
full-text (s ∷ ss) h = rw h tt

full-chunks : (lines : List Line) → AllByRecursion StartsText lines → AllByRecursion HasByte (chunks_of lines)
full-chunks [] h = tt
full-chunks (line ∷ []) h = (full-text line h.0, tt)
full-chunks (line ∷ next ∷ lines) h = (full-line line h.0, full-chunks (next ∷ lines) h.1)

-- and each is in one line
whole-chunks : (lines : List Line) → AllByRecursion IsWhole lines → AllByRecursion IsWhole (chunks_of lines)
whole-chunks [] h = tt
whole-chunks (line ∷ []) h = (whole-text line, tt)
whole-chunks (line ∷ next ∷ lines) h = (h.0, whole-chunks (next ∷ lines) h.1)

module _ (bytes : List ℕ) where
  text-chain : (p : Bool) (lines : List Line) → text_marks bytes p lines ≡ chain_marks content.Text bytes p (chunks_of lines)
  text-chain p [] = refl
  text-chain p (line ∷ []) = refl
  text-chain p (line ∷ next ∷ []) = refl
  text-chain p (line ∷ next ∷ third ∷ lines) =
      ap (λ l. chunk_span bytes (Some (record { content = content.Text; has_previous = p; has_next = true })) name.Data line [] ++ l) (text-chain true (next ∷ third ∷ lines))

-- what chains that pass a filter are read as
module _ (wanted : Option Content) (bytes : List ℕ) (reads : Option Content → List Seat → List Event) where
  abbrev Are : List Mark → List Mark → List Seat → Type 0
  Are = AreSegments wanted bytes reads

  abbrev Other : Content → Type 0
  Other = IsOther wanted

  over : {f d : List Mark} {a : List Seat} (b : List Seat) → a ≡ b → Are f d a → Are f d b
  over {f} {d} b e h = subst (Are f d) e h

  -- virtual bytes that are a chunk of their own
  segments-chunk : (of : Content) → lets_through wanted of ≡ true → IsTextual of → (seats : List Seat) → IsWhole seats → Are (chunk_span bytes (alone of) name.Data seats []) (read_marks (reads (Some of)) bytes seats) seats
  segments-chunk of lets textual [] w = segments-chain wanted bytes reads of lets textual [] tt tt
  segments-chunk of lets textual (s ∷ ss) w =
      let t = s ∷ ss in
      let same : in_line (t ∷ []) ≡ t = append-nil t in
      over t same (subst (λ d. Are (chunk_span bytes (alone of) name.Data t []) d (in_line (t ∷ []))) (ap (read_marks (reads (Some of)) bytes) same) (segments-chain wanted bytes reads of lets textual (t ∷ []) (tt, tt) (w, tt)))

  -- the lines of a text
  segments-lines : lets_through wanted content.Text ≡ true → (lines : List Line) → AllByRecursion StartsText lines → AllByRecursion IsWhole lines
      → Are (text_marks bytes false lines) (read_marks (reads (Some content.Text)) bytes (body lines)) (body lines)
  segments-lines lets lines h w =
      let are = segments-chain wanted bytes reads content.Text lets (inl refl) (chunks_of lines) (full-chunks lines h) (whole-chunks lines w) in
      over (body lines) (chunks-body lines)
      (subst (λ d. Are (text_marks bytes false lines) d (in_line (chunks_of lines))) (ap (read_marks (reads (Some content.Text)) bytes) (chunks-body lines))
      (subst (λ f. Are f (read_marks (reads (Some content.Text)) bytes (in_line (chunks_of lines))) (in_line (chunks_of lines))) (sym (text-chain bytes false lines)) are))

  segments-single : (marks : List Mark) (seats : List Seat) → AreSingle Other marks → Are marks marks seats
  segments-single marks seats h = segments-kept wanted bytes reads marks seats h.each

  segments-last : (lines : List Line) → Are (last_end bytes lines) (last_end bytes lines) (last_ending lines)
  segments-last lines = segments-single (last_end bytes lines) (last_ending lines) (single-last Other bytes lines)

  -- a block over its lines
  segments-block : (n : Name) (is_open : Bool) (lines : List Line) {f d : List Mark} → AllByRecursion IsWhole lines → Are f d (block_seats is_open lines)
      → Are (block_span bytes n is_open lines f) (block_span bytes n is_open lines d) (all_of lines)
  segments-block n false lines whole h = over (all_of lines) (body-and-last lines whole) (segments-both wanted bytes reads (segments-around wanted bytes reads n (body lines) h) (segments-last lines))
  segments-block n true lines whole h = segments-around wanted bytes reads n (all_of lines) h

  -- two ways to read texts, lines of text, and strings
  module _ (text text2 : List Seat → List Mark) (texts : (seats : List Seat) → IsWhole seats → Are (text seats) (text2 seats) seats) (rows rows2 : List Line → List Mark)
      (lines_of_text : (lines : List Line) → AllByRecursion StartsText lines → AllByRecursion IsWhole lines → Are (rows lines) (rows2 lines) (body lines)) (string string2 : List Seat → List Mark)
      (strings : (seats : List Seat) → IsWhole seats → Are (string seats) (string2 seats) seats) where
    segments-heading : (seats : List Seat) → IsWhole seats → Are (heading_around bytes text seats) (heading_around bytes text2 seats) seats
    segments-heading seats w =
        let t = bytes_of seats in
        let signs = indent t + run 35 (unindented t) in
        let start = signs + indent (drop signs t) in
        let end = start + length (heading_text (drop start t)) in
        let part = take (end - start) (drop start seats) in
        over seats (three-parts start end seats (omega arith))
        (segments-both wanted bytes reads (segments-single _ (take start seats) (single-sequence Other bytes name.HeadingAtxSequence (run 35 (unindented t)) (take start seats)))
        (segments-both wanted bytes reads (segments-around wanted bytes reads name.HeadingAtxText part (texts part (whole-part (end - start) start seats w)))
        (segments-single _ (drop end seats) (single-sequence Other bytes name.HeadingAtxSequence (run 35 (unindented (drop end t))) (drop end seats)))))

    segments-setext : (rank : ℕ) (lines : List Line) (below : Line) → AllByRecursion StartsText lines → AllByRecursion IsWhole (lines ++ below ∷ [])
        → Are (block_around bytes text rows string (setext_heading rank lines below)) (block_around bytes text2 rows2 string2 (setext_heading rank lines below)) (all_of (lines ++ below ∷ []))
    segments-setext rank lines below full whole =
        let t = line_text below in
        let is = setext-body lines below whole in
        let under = single-span Other bytes name.HeadingSetextUnderline t _ (single-underline Other bytes t) in
        segments-block name.HeadingSetext false (lines ++ below ∷ []) whole
        (over (body (lines ++ below ∷ [])) is
        (segments-both wanted bytes reads (segments-around wanted bytes reads name.HeadingSetextText (body lines) (lines_of_text lines full (every-front IsWhole lines (below ∷ []) whole)))
        (segments-both wanted bytes reads (segments-last lines) (segments-single (underline_marks bytes t) t under))))

    segments-fence : (size : ℕ) (seats : List Seat) → IsWhole seats → Are (fence_around bytes string size seats) (fence_around bytes string2 size seats) seats
    segments-fence size seats w =
        let t = bytes_of seats in
        let signs = indent t + size in
        let start = signs + indent (drop signs t) in
        let word = start + prefix_len (λ c. not (is_white c)) (drop start t) in
        let rest = word + indent (drop word t) in
        let info = take (word - start) (drop start seats) in
        let meta = drop rest seats in
        let gap = take (rest - word) (drop word seats) in
        let all = ap (λ l. take start seats ++ (info ++ l)) (part-behind word rest seats (omega arith)) ∙ three-parts start word seats (omega arith) in
        segments-around wanted bytes reads name.CodeFencedFence seats
        (over seats all
        (segments-both wanted bytes reads (segments-single _ (take start seats) (single-sequence Other bytes name.CodeFencedFenceSequence size (take start seats)))
        (segments-both wanted bytes reads (segments-around wanted bytes reads name.CodeFencedFenceInfo info (strings info (whole-part (word - start) start seats w)))
        (segments-both wanted bytes reads (segments-single _ gap (single-leaf Other bytes name.SpaceOrTab gap)) (segments-around wanted bytes reads name.CodeFencedFenceMeta meta (strings meta (whole-behind rest seats w)))))))

    -- an opening fence, and marks that are kept
    fence-on : (f : Fence) (line : Line) (marks : List Mark) (behind whole : List Seat) → AreSingle Other marks → line_text line ++ behind ≡ whole
        → Are (fence_around bytes string f.size (line_text line) ++ marks) (fence_around bytes string2 f.size (line_text line) ++ marks) whole
    fence-on f line marks behind whole h e = over whole e (segments-both wanted bytes reads (segments-fence f.size (line_text line) (whole-text line)) (segments-single marks behind h))

    segments-code-fenced : (f : Fence) (is_closed : Bool) (lines : List Line) → AllByRecursion IsWhole lines
        → Are (code_fenced_around bytes string f is_closed lines) (code_fenced_around bytes string2 f is_closed lines) (block_seats (not is_closed) lines)
    segments-code-fenced f true [] h = no-segments wanted bytes reads
    segments-code-fenced f false [] h = no-segments wanted bytes reads
    segments-code-fenced f true (line ∷ []) h = fence-on f line (line_end bytes line) [] (line_text line) (single-end Other bytes line) (append-nil (line_text line))
    segments-code-fenced f false (line ∷ []) h = fence-on f line (line_end bytes line) (ending_of line) (line ++ []) (single-end Other bytes line) (text-and-ending line h.0 ∙ sym (append-nil line))
    segments-code-fenced f is_closed (line ∷ next ∷ lines) h =
        let more = next ∷ lines in
        fence-on f line (line_end bytes line ++ fenced_marks bytes f is_closed more) (ending_of line ++ block_seats (not is_closed) more) (block_seats (not is_closed) (line ∷ more))
        (single-both Other (single-end Other bytes line) (single-fenced Other bytes f is_closed more)) (line-on (not is_closed) line next lines h.0)

    -- ---- each block
    segments-plain : (block : LeafBlock) → IsPlain Other block → Are (leaf_block_marks bytes block) (leaf_block_marks bytes block) (all_of (block_lines block))
    segments-plain block h = segments-single (leaf_block_marks bytes block) (all_of (block_lines block)) (single-block-marks Other bytes block h)

    segments-of : (block : LeafBlock) → IsFull block → AllByRecursion IsWhole (block_lines block) → Are (block_around bytes text rows string block) (block_around bytes text2 rows2 string2 block) (all_of (block_lines block))
    segments-of (blank_line line) full whole = segments-plain (blank_line line) tt
    segments-of (break_line line) full whole = segments-plain (break_line line) tt
    segments-of (atx_heading line) full whole = segments-block name.HeadingAtx false (line ∷ []) whole (segments-heading (line_text line) (whole-text line))
    segments-of (paragraph lines) full whole = segments-block name.Paragraph false lines whole (lines_of_text lines full whole)
    segments-of (setext_heading rank lines below) full whole = segments-setext rank lines below full.0 whole
    segments-of (indented_code lines) full whole = segments-plain (indented_code lines) tt
    segments-of (fenced_code f is_closed lines) full whole = segments-block name.CodeFenced (not is_closed) lines whole (segments-code-fenced f is_closed lines whole)
    segments-of (html_block kind is_closed lines) full whole = segments-plain (html_block kind is_closed lines) tt

    segments-blocks : (blocks : List LeafBlock) → AllByRecursion IsFull blocks → AllByRecursion IsWhole (flat_map block_lines blocks)
        → Are (flat_map (block_around bytes text rows string) blocks) (flat_map (block_around bytes text2 rows2 string2) blocks) (all_of (flat_map block_lines blocks))
    segments-blocks [] full whole = no-segments wanted bytes reads
    segments-blocks (block ∷ blocks) full whole =
        let lines = block_lines block in
        let more = flat_map block_lines blocks in
        over (all_of (lines ++ more)) (sym (flat_map-append (λ (line : Line). line) lines more))
        (segments-both wanted bytes reads (segments-of block full.0 (every-front IsWhole lines more whole)) (segments-blocks blocks full.1 (every-back IsWhole lines more whole)))

    segments-all : (on : Constructs) (seats : List Seat)
        → let blocks = leaf_blocks on (lines_in seats) in Are (flat_map (block_around bytes text rows string) blocks) (flat_map (block_around bytes text2 rows2 string2) blocks) seats
    segments-all on seats =
        let lines = lines_in seats in
        let blocks = leaf_blocks on lines in
        let are = leaf-blocks-lines on lines in
        over seats (ap all_of are ∙ lines-are-all seats) (segments-blocks blocks (leaf-blocks-full on seats) (subst (AllByRecursion IsWhole) (sym are) (whole-lines seats)))

module _ (bytes : List ℕ) (texts strings : List Seat → List Event) where
  -- a block with its texts read, and strings that are chunks
  abbrev pub half_read : LeafBlock → List Mark
  half_read block = block_around bytes (read_marks texts bytes) (λ lines. read_marks texts bytes (body lines)) (string_chunk bytes) block

  -- what a chain is read as, by its content
  abbrev pub by_content : Option Content → List Seat → List Event
  by_content None = texts
  by_content (Some content.Flow) = texts
  by_content (Some content.Content) = texts
  by_content (Some content.String) = strings
  by_content (Some content.Text) = texts

  -- chains of text, where strings stay
  pub text-segments : (on : Constructs) (seats : List Seat)
      → let blocks = leaf_blocks on (lines_in seats) in AreSegments (Some content.Text) bytes (λ o. texts) (leaf_blocks_marks bytes blocks) (flat_map half_read blocks) seats
  text-segments on seats =
      let wanted : Option Content = Some content.Text in
      let reads : Option Content → List Seat → List Event = λ o. texts in
      segments-all wanted bytes reads (text_chunk bytes) (read_marks texts bytes) (segments-chunk wanted bytes reads content.Text refl (inl refl)) (text_marks bytes false) (λ lines. read_marks texts bytes (body lines)) (segments-lines wanted bytes reads refl)
      (string_chunk bytes) (string_chunk bytes) (λ seats w. segments-single wanted bytes reads (string_chunk bytes seats) seats (single-data (IsOther wanted) bytes content.String refl name.Data seats)) on seats

  -- then strings, where the events of texts stay
  pub string-segments : ((seats : List Seat) → HaveNoLinks (texts seats)) → (on : Constructs) (seats : List Seat)
      → let blocks = leaf_blocks on (lines_in seats) in AreSegments (Some content.String) bytes (λ o. strings) (flat_map half_read blocks) (flat_map (block_texts texts strings bytes) blocks) seats
  string-segments unlinked on seats =
      let wanted : Option Content = Some content.String in
      let reads : Option Content → List Seat → List Event = λ o. strings in
      let read = read_marks texts bytes in
      let stays : (l : List Seat) → AreSegments wanted bytes reads (read l) (read l) l = λ l. segments-kept wanted bytes reads (read l) l (kept-events wanted (texts l) (unlinked l)) in
      segments-all wanted bytes reads read read (λ l w. stays l) (λ lines. read (body lines)) (λ lines. read (body lines)) (λ lines h w. stays (body lines)) (string_chunk bytes) (read_marks strings bytes)
      (segments-chunk wanted bytes reads content.String refl (inr refl)) on seats

  -- chains of texts and of strings at once
  pub all-segments : (on : Constructs) (seats : List Seat)
      → let blocks = leaf_blocks on (lines_in seats) in AreSegments None bytes by_content (leaf_blocks_marks bytes blocks) (flat_map (block_texts texts strings bytes) blocks) seats
  all-segments on seats =
      segments-all None bytes by_content (text_chunk bytes) (read_marks texts bytes) (segments-chunk None bytes by_content content.Text refl (inl refl)) (text_marks bytes false) (λ lines. read_marks texts bytes (body lines))
      (segments-lines None bytes by_content refl) (string_chunk bytes) (read_marks strings bytes) (segments-chunk None bytes by_content content.String refl (inr refl)) on seats
