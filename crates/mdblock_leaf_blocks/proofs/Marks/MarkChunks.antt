-- Chunks in the marks of leaf blocks: only lines of text have chunks that are linked, and each of these is an enter and an exit.
use Rattle.mdblock_leaf_blocks.proofs.Prelude.{◌≡◌, ℕ, zero, suc, ◌+◌, List, [], ◌∷◌, ◌++◌, Bool, true, false, cond, Some, None, take, drop, refl, ◌-◌, length, not, AllByRecursion, prefix_len, every-append, Content, Seat, is_white, all_of, ending_of, line_text, Line, LeafBlock, blank_line, break_line, atx_heading, paragraph, setext_heading, indented_code, fenced_code, html_block, bytes_of, Mark, alone, body, chunk_span, span_marks, leaf_marks, line_end, sequence_marks, break_marks, heading_marks, fence_marks, code_marks, lines_marks, block_span, last_end, fenced_marks, code_fenced_marks, html_marks, leaf_block_marks, underline_inside, Fence, heading_text, indent, run, unindented}
use Rattle.markdown_base.specs.declared.event.Content.TheVariants as content
use Rattle.markdown_base.specs.declared.event.Name.{Name}
use Rattle.markdown_base.specs.declared.event.Name.TheVariants as name

-- a mark without a chunk, or with one that stands alone and has a content of some kind
abbrev pub IsSingle : (Content → Type 0) → Mark → Type 0
IsSingle Fits (e, None) = e.link ≡ None
IsSingle Fits (e, Some chunk) = Fits chunk.content × (chunk.has_previous ≡ false) × (chunk.has_next ≡ false)

-- a block without lines of text; the text of an ATX heading is one chunk, and so are the strings of fenced code
abbrev pub IsPlain : (Content → Type 0) → LeafBlock → Type 0
IsPlain Fits (paragraph lines) = ⊥
IsPlain Fits (setext_heading rank lines below) = ⊥
IsPlain Fits (atx_heading line) = Fits content.Text
IsPlain Fits (fenced_code f is_closed lines) = Fits content.String
IsPlain Fits _ = Unit {0}

pub record AreSingle (Fits : Content → Type 0) (ms : List Mark) : Type 0 where
  pub each : AllByRecursion (IsSingle Fits) ms

module _ (Fits : Content → Type 0) where
  abbrev Single : List Mark → Type 0
  Single ms = AreSingle Fits ms

  pub single-both : {xs ys : List Mark} → Single xs → Single ys → Single (xs ++ ys)
  single-both {xs} {ys} h k = record { each = every-append (IsSingle Fits) xs ys h.each k.each }

  module _ (bytes : List ℕ) where
    pub single-span : (n : Name) (seats : List Seat) (inside : List Mark) → Single inside → Single (span_marks bytes n seats inside)
    single-span n [] inside h = h
    single-span n (s ∷ ss) inside h = record { each = (refl, every-append (IsSingle Fits) inside _ h.each (refl, tt)) }

    pub single-leaf : (n : Name) (seats : List Seat) → Single (leaf_marks bytes n seats)
    single-leaf n seats = single-span n seats [] (record { each = tt })

    pub single-data : (c : Content) → Fits c → (n : Name) (seats : List Seat) → Single (chunk_span bytes (alone c) n seats [])
    single-data c fit n [] = record { each = tt }
    single-data c fit n (s ∷ ss) = record { each = ((fit, refl, refl), (refl, tt)) }

    pub single-sequence : (n : Name) (size : ℕ) (seats : List Seat) → Single (sequence_marks bytes n size seats)
    single-sequence n size seats = search (single-both, single-leaf)

    pub single-break : (bound : ℕ) (seats : List Seat) → Single (break_marks bytes bound seats)
    single-break zero seats = record { each = tt }
    single-break (suc bound) seats = search (single-both, single-leaf, single-break bound)

    pub single-heading : Fits content.Text → (seats : List Seat) → Single (heading_marks bytes seats)
    single-heading texts seats =
        let t = bytes_of seats in
        let signs = indent t + run 35 (unindented t) in
        let start = signs + indent (drop signs t) in
        let end = start + length (heading_text (drop start t)) in
        let text = take (end - start) (drop start seats) in
        single-both (single-sequence name.HeadingAtxSequence (run 35 (unindented t)) (take start seats))
        (single-both (single-span name.HeadingAtxText text _ (single-data content.Text texts name.Data text)) (single-sequence name.HeadingAtxSequence (run 35 (unindented (drop end t))) (drop end seats)))

    single-fence : Fits content.String → (size : ℕ) (seats : List Seat) → Single (fence_marks bytes size seats)
    single-fence strings size seats =
        let t = bytes_of seats in
        let start = indent t + size + indent (drop (indent t + size) t) in
        let word = start + prefix_len (λ c. not (is_white c)) (drop start t) in
        let rest = word + indent (drop word t) in
        let info = take (word - start) (drop start seats) in
        let meta = drop rest seats in
        single-span name.CodeFencedFence seats _
        (single-both (single-sequence name.CodeFencedFenceSequence size (take start seats))
        (single-both (single-span name.CodeFencedFenceInfo info _ (single-data content.String strings name.Data info))
        (single-both (single-leaf name.SpaceOrTab (take (rest - word) (drop word seats))) (single-span name.CodeFencedFenceMeta meta _ (single-data content.String strings name.Data meta)))))

    single-code : (most : ℕ) (seats : List Seat) → Single (code_marks bytes most seats)
    single-code most seats = search (single-both, single-leaf)

    single-if : (b : Bool) (ms : List Mark) → Single ms → Single (cond b ms [])
    single-if true ms h = h
    single-if false ms h = record { each = tt }

    pub single-end : (line : Line) → Single (line_end bytes line)
    single-end line = single-leaf name.LineEnding (ending_of line)

    single-lines : (marks : List Seat → List Mark) → ((seats : List Seat) → Single (marks seats)) → (is_open : Bool) (lines : List Line) → Single (lines_marks bytes marks is_open lines)
    single-lines marks h is_open [] = record { each = tt }
    single-lines marks h is_open (line ∷ []) = single-both (h (line_text line)) (single-if is_open (line_end bytes line) (single-end line))
    single-lines marks h is_open (line ∷ next ∷ lines) = single-both (h (line_text line)) (single-both (single-end line) (single-lines marks h is_open (next ∷ lines)))

    pub single-last : (lines : List Line) → Single (last_end bytes lines)
    single-last [] = record { each = tt }
    single-last (line ∷ []) = single-end line
    single-last (line ∷ next ∷ lines) = single-last (next ∷ lines)

    single-block : (n : Name) (is_open : Bool) (lines : List Line) (inside : List Mark) → Single inside → Single (block_span bytes n is_open lines inside)
    single-block n false lines inside h = single-both (single-span n (body lines) inside h) (single-last lines)
    single-block n true lines inside h = single-span n (all_of lines) inside h

    pub single-fenced : (f : Fence) (is_closed : Bool) (lines : List Line) → Single (fenced_marks bytes f is_closed lines)
    single-fenced f is_closed [] = record { each = tt }
    single-fenced f true (line ∷ []) = single-span name.CodeFencedFence (line_text line) _ (single-sequence name.CodeFencedFenceSequence (run f.byte (unindented (bytes_of (line_text line)))) (line_text line))
    single-fenced f false (line ∷ []) = single-both (single-code f.indent (line_text line)) (single-end line)
    single-fenced f is_closed (line ∷ next ∷ lines) = single-both (single-code f.indent (line_text line)) (single-both (single-end line) (single-fenced f is_closed (next ∷ lines)))

    single-code-fenced : Fits content.String → (f : Fence) (is_closed : Bool) (lines : List Line) → Single (code_fenced_marks bytes f is_closed lines)
    single-code-fenced strings f is_closed [] = record { each = tt }
    single-code-fenced strings f is_closed (line ∷ []) = single-both (single-fence strings f.size (line_text line)) (single-end line)
    single-code-fenced strings f is_closed (line ∷ next ∷ lines) = single-both (single-fence strings f.size (line_text line)) (single-both (single-end line) (single-fenced f is_closed (next ∷ lines)))

    single-html : (is_open : Bool) (lines : List Line) → Single (html_marks bytes is_open lines)
    single-html is_open [] = record { each = tt }
    single-html is_open (line ∷ lines) =
        let columns = indent (bytes_of (line_text line)) in
        single-both (single-leaf name.HtmlFlowData (take columns line)) (single-lines (leaf_marks bytes name.HtmlFlowData) (single-leaf name.HtmlFlowData) is_open (drop columns line ∷ lines))

    pub single-underline : (seats : List Seat) → Single (underline_inside bytes seats)
    single-underline seats = search single-sequence

    pub single-block-marks : (block : LeafBlock) → IsPlain Fits block → Single (leaf_block_marks bytes block)
    single-block-marks (paragraph lines) h = absurd h
    single-block-marks (setext_heading rank lines below) h = absurd h
    single-block-marks (blank_line line) h = search (single-both, single-leaf)
    single-block-marks (break_line line) h = single-block name.ThematicBreak false (line ∷ []) _ (single-break (length line) (line_text line))
    single-block-marks (atx_heading line) h = single-block name.HeadingAtx false (line ∷ []) _ (single-heading h (line_text line))
    single-block-marks (indented_code lines) h = single-block name.CodeIndented false lines _ (single-lines (code_marks bytes 4) (single-code 4) false lines)
    single-block-marks (fenced_code f is_closed lines) h = single-block name.CodeFenced (not is_closed) lines _ (single-code-fenced h f is_closed lines)
    single-block-marks (html_block kind is_closed lines) h = single-block name.HtmlFlow (not is_closed) lines _ (single-html (not is_closed) lines)
