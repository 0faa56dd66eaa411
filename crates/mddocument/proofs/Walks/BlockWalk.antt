-- What lists of marks have, if lists of spans with such names have it, and chunks: the marks of leaf blocks have it.
use Rattle.std.proofs.Common.{ℕ, zero, suc, ◌+◌, ◌-◌, List, [], ◌∷◌, ◌++◌, Bool, true, false, cond, not, Some, take, drop, length, min}
use Rattle.std.specs.List.{AllByRecursion, prefix_len}
use Rattle.markdown_base.proofs.Common.{every-append, every-drop, every-filter, every-take}
use Rattle.markdown_base.specs.declared.event.Name.{Name}
use Rattle.markdown_base.specs.Virtual.{Seat}
use Rattle.markdown_tokenizer.proofs.Positions.Order.{every-back, every-front}
use Rattle.mdconstructs_tables.specs.Breaks.{is_white}
use Rattle.mdconstructs_machines.specs.LineEvents.{all_of, ending_of, is_line_ending, line_text}
use Rattle.mdblock_leaf_blocks.specs.BlockLines.{block_lines}
use Rattle.mdblock_leaf_blocks.specs.LeafBlocks.{Line, LeafBlock, atx_heading, blank_line, break_line, bytes_of, fenced_code, html_block, indented_code, paragraph, setext_heading}
use Rattle.mdblock_leaf_blocks.specs.LeafEvents.{Chunk, Mark, block_span, body, break_marks, chunk_span, code_fenced_around, code_marks, fence_around, fenced_marks, heading_around, html_marks, last_end, leaf_block_marks, leaf_marks, line_end, lines_marks, sequence_marks, span_marks, string_chunk, text_chunk, text_marks, underline_marks}
use Rattle.mdblock_leaf_blocks.specs.LineKinds.{Fence, heading_text, indent, run, unindented}
use Rattle.markdown_base.specs.declared.event.Name.TheVariants as name
use Rattle.mddocument.proofs.Walks.InnerTexts.{AreTextLines, inner-text, texts-front}
use Rattle.mddocument.proofs.Walks.MarksWalk.{Walk, leafs, whites}

-- ---- the names that spans of a block have

-- what blocks are made of
abbrev pub block_names : List Name
block_names =
    name.ThematicBreak ∷ name.ThematicBreakSequence ∷ name.HeadingAtx ∷ name.HeadingAtxSequence ∷ name.HeadingAtxText ∷ name.Paragraph ∷ name.HeadingSetext ∷ name.HeadingSetextText ∷ name.HeadingSetextUnderline
    ∷ name.HeadingSetextUnderlineSequence ∷ name.CodeIndented ∷ name.CodeFlowChunk ∷ name.CodeFenced ∷ name.CodeFencedFence ∷ name.CodeFencedFenceSequence ∷ name.CodeFencedFenceInfo ∷ name.CodeFencedFenceMeta
    ∷ name.HtmlFlow ∷ name.HtmlFlowData ∷ []

module _ (May : Name → Type 0) where
  -- of what is in fenced code, and of fenced code
  pub record MayInFence : Type 0 where
    pub fence : May name.CodeFencedFence
    pub sequence : May name.CodeFencedFenceSequence
    pub info : May name.CodeFencedFenceInfo
    pub meta : May name.CodeFencedFenceMeta
    pub code : May name.CodeFlowChunk

  pub record MayFence : Type 0 where
    pub code_fenced : May name.CodeFenced
    pub fence : May name.CodeFencedFence
    pub sequence : May name.CodeFencedFenceSequence
    pub info : May name.CodeFencedFenceInfo
    pub meta : May name.CodeFencedFenceMeta
    pub code : May name.CodeFlowChunk

  in-fence : MayFence → MayInFence
  in-fence m = record { fence = m.fence; sequence = m.sequence; info = m.info; meta = m.meta; code = m.code }

  abbrev pub MayBlock : LeafBlock → Type 0
  MayBlock (blank_line line) = Unit {0}
  MayBlock (break_line line) = May name.ThematicBreak × May name.ThematicBreakSequence
  MayBlock (atx_heading line) = May name.HeadingAtx × May name.HeadingAtxSequence × May name.HeadingAtxText
  MayBlock (paragraph lines) = May name.Paragraph
  MayBlock (setext_heading rank lines underline) = May name.HeadingSetext × May name.HeadingSetextText × May name.HeadingSetextUnderline × May name.HeadingSetextUnderlineSequence
  MayBlock (indented_code lines) = May name.CodeIndented × May name.CodeFlowChunk
  MayBlock (fenced_code f is_closed lines) = MayFence
  MayBlock (html_block kind is_closed lines) = May name.HtmlFlow × May name.HtmlFlowData

  -- Where all names of blocks are such, those of each block are
  pub all-may : AllByRecursion May block_names → (block : LeafBlock) → MayBlock block
  all-may (a, (b, (c, (d, (e, (f, (g, (h, (i, (j, (k, (l, (m, (n, (o, (p, (q, (r, (s, _))))))))))))))))))) block = by block
    where
      by : (x : LeafBlock) → MayBlock x
      by (blank_line line) = tt
      by (break_line line) = (a, b)
      by (atx_heading line) = (c, d, e)
      by (paragraph lines) = f
      by (setext_heading rank lines underline) = (g, h, i, j)
      by (indented_code lines) = (k, l)
      by (fenced_code fence is_closed lines) = record { code_fenced = m; fence = n; sequence = o; info = p; meta = q; code = l }
      by (html_block kind is_closed lines) = (r, s)

-- Lists of marks that spans of such names over such virtual bytes, and lists one behind another keep
module _ {bytes : List ℕ} {Are : List Mark → Type 0} {May : Name → Type 0} {Q : Seat → Type 0} (w : Walk bytes Are May Q) where
  abbrev pub Of : List Seat → Type 0
  Of seats = AllByRecursion Q seats

  abbrev pub OfLines : List Line → Type 0
  OfLines lines = AllByRecursion Of lines

  front : (n : ℕ) (seats : List Seat) → Of seats → Of (take n seats)
  front n seats h = every-take Q n seats h

  back : (n : ℕ) (seats : List Seat) → Of seats → Of (drop n seats)
  back n seats h = every-drop Q n seats h

  text-of : (line : Line) → Of line → Of (line_text line)
  text-of line h = every-filter Q (λ s. not (is_line_ending s)) line h

  ending-of : (line : Line) → Of line → Of (ending_of line)
  ending-of line h = every-filter Q is_line_ending line h

  body-of : (lines : List Line) → OfLines lines → Of (body lines)
  body-of [] h = tt
  body-of (line ∷ []) h = text-of line h.0
  body-of (line ∷ next ∷ lines) h = every-append Q line (body (next ∷ lines)) h.0 (body-of (next ∷ lines) h.1)

  all-of : (lines : List Line) → OfLines lines → Of (all_of lines)
  all-of [] h = tt
  all-of (line ∷ lines) h = every-append Q line (all_of lines) h.0 (all-of lines h.1)

  endings : (line : Line) → Of line → Are (line_end bytes line)
  endings line q = leafs w name.LineEnding (ending_of line) w.line_ending (ending-of line q)

  sequences : (n : Name) (size : ℕ) (seats : List Seat) → May n → Of seats → Are (sequence_marks bytes n size seats)
  sequences n size seats m q =
      let columns = indent (bytes_of seats) in
      w.both _ _ (whites w (take columns seats) (front columns seats q))
      (w.both _ _ (leafs w n (take size (drop columns seats)) m (front size (drop columns seats) (back columns seats q))) (whites w (drop (columns + size) seats) (back (columns + size) seats q)))

  pub breaks : (bound : ℕ) (seats : List Seat) → May name.ThematicBreakSequence → Of seats → Are (break_marks bytes bound seats)
  breaks zero seats m q = w.none
  breaks (suc bound) seats m q =
      let columns = indent (bytes_of seats) in
      let end = columns + prefix_len (λ b. not (is_white b)) (drop columns (bytes_of seats)) in
      w.both _ _ (whites w (take columns seats) (front columns seats q))
      (w.both _ _ (leafs w name.ThematicBreakSequence (take (end - columns) (drop columns seats)) m (front (end - columns) (drop columns seats) (back columns seats q))) (breaks bound (drop end seats) m (back end seats q)))

  pub codes : (most : ℕ) (seats : List Seat) → May name.CodeFlowChunk → Of seats → Are (code_marks bytes most seats)
  codes most seats m q = let n = min most (indent (bytes_of seats)) in w.both _ _ (whites w (take n seats) (front n seats q)) (leafs w name.CodeFlowChunk (drop n seats) m (back n seats q))

  open-end : (is_open : Bool) (line : Line) → Of line → Are (cond is_open (line_end bytes line) [])
  open-end true line q = endings line q
  open-end false line q = w.none

  pub in-lines : (marks : List Seat → List Mark) → ((seats : List Seat) → Of seats → Are (marks seats)) → (is_open : Bool) (lines : List Line) → OfLines lines → Are (lines_marks bytes marks is_open lines)
  in-lines marks h is_open [] q = w.none
  in-lines marks h is_open (line ∷ []) q = w.both _ _ (h (line_text line) (text-of line q.0)) (open-end is_open line q.0)
  in-lines marks h is_open (line ∷ next ∷ lines) q = w.both _ _ (h (line_text line) (text-of line q.0)) (w.both _ _ (endings line q.0) (in-lines marks h is_open (next ∷ lines) q.1))

  pub last-ends : (lines : List Line) → OfLines lines → Are (last_end bytes lines)
  last-ends [] q = w.none
  last-ends (line ∷ []) q = endings line q.0
  last-ends (line ∷ next ∷ lines) q = last-ends (next ∷ lines) q.1

  over-block : (n : Name) (is_open : Bool) (lines : List Line) (marks : List Mark) → May n → OfLines lines → Are marks → Are (block_span bytes n is_open lines marks)
  over-block n false lines marks m q h = w.both _ _ (w.over n (body lines) marks m (body-of lines q) h) (last-ends lines q)
  over-block n true lines marks m q h = w.over n (all_of lines) marks m (all-of lines q) h

  closings : (f : Fence) (is_closed : Bool) (line : Line) → MayInFence May → Of line
      → Are (cond is_closed (span_marks bytes name.CodeFencedFence (line_text line) (sequence_marks bytes name.CodeFencedFenceSequence (run f.byte (unindented (bytes_of (line_text line)))) (line_text line))) (code_marks bytes f.indent (line_text line) ++ line_end bytes line))
  closings f true line m q =
      let t = text-of line q in
      w.over name.CodeFencedFence (line_text line) _ m.fence t (sequences name.CodeFencedFenceSequence (run f.byte (unindented (bytes_of (line_text line)))) (line_text line) m.sequence t)
  closings f false line m q = w.both _ _ (codes f.indent (line_text line) m.code (text-of line q)) (endings line q)

  in-fences : (f : Fence) (is_closed : Bool) (lines : List Line) → MayInFence May → OfLines lines → Are (fenced_marks bytes f is_closed lines)
  in-fences f is_closed [] m q = w.none
  in-fences f is_closed (line ∷ []) m q = closings f is_closed line m q.0
  in-fences f is_closed (line ∷ next ∷ lines) m q = w.both _ _ (codes f.indent (line_text line) m.code (text-of line q.0)) (w.both _ _ (endings line q.0) (in-fences f is_closed (next ∷ lines) m q.1))

  pub htmls : (is_open : Bool) (lines : List Line) → May name.HtmlFlowData → OfLines lines → Are (html_marks bytes is_open lines)
  htmls is_open [] m q = w.none
  htmls is_open (line ∷ lines) m q =
      let columns = indent (bytes_of (line_text line)) in
      w.both _ _ (leafs w name.HtmlFlowData (take columns line) m (front columns line q.0))
      (in-lines (leaf_marks bytes name.HtmlFlowData) (λ seats s. leafs w name.HtmlFlowData seats m s) is_open (drop columns line ∷ lines) (back columns line q.0, q.1))

  pub underlines : (seats : List Seat) → May name.HeadingSetextUnderline → May name.HeadingSetextUnderlineSequence → Of seats → Are (underline_marks bytes seats)
  underlines seats m n q = w.over name.HeadingSetextUnderline seats _ m q (sequences name.HeadingSetextUnderlineSequence _ seats n q)

  -- where what chunks of a text have are such virtual bytes
  module _ (Inner : Seat → Type 0) where
    abbrev pub Inside : List Seat → Type 0
    Inside seats = AllByRecursion Inner seats

    inner : (n k : ℕ) (seats : List Seat) → Inside seats → Inside (take n (drop k seats))
    inner n k seats i = every-take Inner n (drop k seats) (every-drop Inner k seats i)

    -- a heading, if its text has it
    pub headings : ((seats : List Seat) → Of seats → Inside seats → Are (span_marks bytes name.HeadingAtxText seats (text_chunk bytes seats))) → (seats : List Seat) → May name.HeadingAtxSequence → Of seats → Inside seats
        → Are (heading_around bytes (text_chunk bytes) seats)
    headings headed seats m q i =
        let t = bytes_of seats in
        let signs = indent t + run 35 (unindented t) in
        let start = signs + indent (drop signs t) in
        let end = start + length (heading_text (drop start t)) in
        let text = take (end - start) (drop start seats) in
        let is = front (end - start) (drop start seats) (back start seats q) in
        w.both _ _ (sequences name.HeadingAtxSequence (run 35 (unindented t)) (take start seats) m (front start seats q))
        (w.both _ _ (headed text is (inner (end - start) start seats i)) (sequences name.HeadingAtxSequence (run 35 (unindented (drop end t))) (drop end seats) m (back end seats q)))

    module _ (strings : (seats : List Seat) → Of seats → Inside seats → Are (string_chunk bytes seats)) where
      fences : (size : ℕ) (seats : List Seat) → MayInFence May → Of seats → Inside seats → Are (fence_around bytes (string_chunk bytes) size seats)
      fences size seats m q i =
          let t = bytes_of seats in
          let signs = indent t + size in
          let start = signs + indent (drop signs t) in
          let word = start + prefix_len (λ c. not (is_white c)) (drop start t) in
          let rest = word + indent (drop word t) in
          let info = take (word - start) (drop start seats) in
          let meta = drop rest seats in
          let gap = take (rest - word) (drop word seats) in
          let a = front (word - start) (drop start seats) (back start seats q) in
          let b = back rest seats q in
          w.over name.CodeFencedFence seats _ m.fence q
          (w.both _ _ (sequences name.CodeFencedFenceSequence size (take start seats) m.sequence (front start seats q))
          (w.both _ _ (w.over name.CodeFencedFenceInfo info _ m.info a (strings info a (inner (word - start) start seats i)))
          (w.both _ _ (whites w gap (front (rest - word) (drop word seats) (back word seats q))) (w.over name.CodeFencedFenceMeta meta _ m.meta b (strings meta b (every-drop Inner rest seats i))))))

      pub fenced : (f : Fence) (is_closed : Bool) (lines : List Line) → MayInFence May → OfLines lines → AreTextLines Inner lines → Are (code_fenced_around bytes (string_chunk bytes) f is_closed lines)
      fenced f is_closed [] m q i = w.none
      fenced f is_closed (line ∷ []) m q i = w.both _ _ (fences f.size (line_text line) m (text-of line q.0) i) (endings line q.0)
      fenced f is_closed (line ∷ next ∷ lines) m q i = w.both _ _ (fences f.size (line_text line) m (text-of line q.0) (inner-text Inner line i.0)) (w.both _ _ (endings line q.0) (in-fences f is_closed (next ∷ lines) m q.1))

-- Lists of marks, where chunks are of such virtual bytes of texts
module _ (bytes : List ℕ) (Are : List Mark → Type 0) (May : Name → Type 0) (Q Inner : Seat → Type 0) (w : Walk bytes Are May Q)
    (chunk : (c : Chunk) (seats : List Seat) → AllByRecursion Q seats → AllByRecursion Inner seats → Are (chunk_span bytes (Some c) name.Data seats [])) where
  texts : (has_previous : Bool) (lines : List Line) → AllByRecursion (AllByRecursion Q) lines → AreTextLines Inner lines → Are (text_marks bytes has_previous lines)
  texts has_previous [] q i = w.none
  texts has_previous (line ∷ []) q i = chunk _ (line_text line) (text-of w line q.0) i
  texts has_previous (line ∷ next ∷ lines) q i = w.both _ _ (chunk _ line q.0 i.0) (texts true (next ∷ lines) q.1 i.1)

  -- The marks of a block have it
  pub block-are : (block : LeafBlock) → MayBlock May block → AllByRecursion (AllByRecursion Q) (block_lines block) → AreTextLines Inner (block_lines block) → Are (leaf_block_marks bytes block)
  block-are (blank_line line) m q i = w.both _ _ (whites w (line_text line) (text-of w line q.0)) (leafs w name.BlankLineEnding (ending_of line) w.blank_ending (ending-of w line q.0))
  block-are (break_line line) m q i = over-block w name.ThematicBreak false (line ∷ []) _ m.0 q (breaks w (length line) (line_text line) m.1 (text-of w line q.0))
  block-are (atx_heading line) m q i = over-block w name.HeadingAtx false (line ∷ []) _ m.0 q (headings w Inner (λ seats s is. w.over name.HeadingAtxText seats _ m.2 s (chunk _ seats s is)) (line_text line) m.1 (text-of w line q.0) i)
  block-are (paragraph lines) m q i = over-block w name.Paragraph false lines _ m q (texts false lines q i)
  block-are (setext_heading rank lines underline) m q i =
      let first = every-front (AllByRecursion Q) lines (underline ∷ []) q in
      let last = every-back (AllByRecursion Q) lines (underline ∷ []) q in
      over-block w name.HeadingSetext false (lines ++ underline ∷ []) _ m.0 q
      (w.both _ _ (w.over name.HeadingSetextText (body lines) _ m.1 (body-of w lines first) (texts false lines first (texts-front Inner lines (underline ∷ []) i)))
      (w.both _ _ (last-ends w lines first) (underlines w (line_text underline) m.2 m.3 (text-of w underline last.0))))
  block-are (indented_code lines) m q i = over-block w name.CodeIndented false lines _ m.0 q (in-lines w (code_marks bytes 4) (λ seats s. codes w 4 seats m.1 s) false lines q)
  block-are (fenced_code f is_closed lines) m q i = over-block w name.CodeFenced (not is_closed) lines _ m.code_fenced q (fenced w Inner (λ seats s is. chunk _ seats s is) f is_closed lines (in-fence May m) q i)
  block-are (html_block kind is_closed lines) m q i = over-block w name.HtmlFlow (not is_closed) lines _ m.0 q (htmls w (not is_closed) lines m.1 q)
