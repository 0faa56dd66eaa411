-- Links of chunks behind other events.
use Rattle.mddocument_parts.proofs.Prelude.{◌≡◌, ℕ, zero, suc, ◌+◌, ◌-◌, ◌≤◌, List, [], ◌∷◌, ◌++◌, Bool, true, false, cond, not, length, take, drop, refl, sym, ap, ◌∙◌, arith, Option, Some, None, map, AllByRecursion, flat_map, prefix_len, Event, Exit, event, Name, Line, LeafBlock, blank_line, break_line, atx_heading, paragraph, setext_heading, indented_code, fenced_code, html_block, bytes_of, Chunk, Mark, alone, block_around, block_span, body, break_marks, chunk_span, code_fenced_around, code_marks, fence_around, fenced_marks, heading_around, html_marks, last_end, leaf_blocks_marks, leaf_marks, lines_marks, linked_from, sequence_marks, string_chunk, text_chunk, text_marks, underline_inside, all_of, ending_of, line_text, Fence, heading_text, indent, run, unindented, is_white, moved_event, moved_index, block_lines, Seat, end_after}
use Rattle.markdown_base.specs.declared.event.Content.TheVariants as content
use Rattle.markdown_base.specs.declared.event.Name.TheVariants as name
use Rattle.markdown_tokenizer.proofs.Positions.Order.{every-front}
use Rattle.mddocument.proofs.FlowTexts.Segments.{HasByte}

-- a chunk that has another before it has two marks before it at least, if so many stand before these marks
abbrev pub LinkBack : ℕ → List Mark → Type 0
LinkBack i [] = Unit {0}
LinkBack i ((e, None) ∷ marks) = LinkBack (suc i) marks
LinkBack i ((e, Some chunk) ∷ marks) = (chunk.has_previous ≡ true → 2 ≤ i) × LinkBack (suc i) marks

pub back-more : (i j : ℕ) (marks : List Mark) → i ≤ j → LinkBack i marks → LinkBack j marks
back-more i j [] l h = tt
back-more i j ((e, None) ∷ marks) l h = back-more (suc i) (suc j) marks (omega (arith, l)) h
back-more i j ((e, Some chunk) ∷ marks) l h = ((λ p. let few = h.0 p in omega (arith, few, l)), back-more (suc i) (suc j) marks (omega (arith, l)) h.1)

-- what links back by itself does so behind others
pub back-both : (i : ℕ) (xs ys : List Mark) → LinkBack i xs → LinkBack i ys → LinkBack i (xs ++ ys)
back-both i [] ys h k = k
back-both i ((e, None) ∷ xs) ys h k = back-both (suc i) xs ys h (back-more i (suc i) ys (omega arith) k)
back-both i ((e, Some chunk) ∷ xs) ys h k = (h.0, back-both (suc i) xs ys h.1 (back-more i (suc i) ys (omega arith) k))

-- ---- events

module _ (l n k : ℕ) where
  abbrev moved_mark : Mark → Mark
  moved_mark m = (moved_event l n k m.0, m.1)

  before-moved : (b : Bool) (i j : ℕ) → j ≡ i + k → (b ≡ true → 2 ≤ i) → cond b (Some (j - 2)) None ≡ moved_index k (cond b (Some (i - 2)) None)
  before-moved true i j e h = let few = h refl in let same : j - 2 ≡ (i - 2) + k = omega (arith, e, few) in ap (λ i. Some i) same
  before-moved false i j e h = refl

  behind-moved : (b : Bool) (i j : ℕ) → j ≡ i + k → cond b (Some (j + 2)) None ≡ moved_index k (cond b (Some (i + 2)) None)
  behind-moved true i j e = let same : j + 2 ≡ (i + 2) + k = omega (arith, e) in ap (λ i. Some i) same
  behind-moved false i j e = refl

  pub linked-moved : (marks : List Mark) (i j : ℕ) → j ≡ i + k → LinkBack i marks → linked_from j (map moved_mark marks) ≡ map (moved_event l n k) (linked_from i marks)
  linked-moved [] i j e h = refl
  linked-moved ((v, None) ∷ marks) i j e h =
      let one : suc i ≡ i + 1 = omega arith in
      ap (λ r. moved_event l n k v ∷ r) (linked-moved marks (i + 1) (j + 1) (omega (arith, e)) (back-more (suc i) (i + 1) marks (omega arith) h))
  linked-moved ((v, Some chunk) ∷ marks) i j e h =
      let before = before-moved chunk.has_previous i j e h.0 in
      let behind = behind-moved chunk.has_next i j e in
      let m = moved_event l n k v in
      let rest = linked-moved marks (i + 1) (j + 1) (omega (arith, e)) (back-more (suc i) (i + 1) marks (omega arith) h.1) in
      (λ d. (let w : Event = record { kind = m.kind; name = m.name; point = m.point; link = Some (record { previous = before d; next = behind d; content = chunk.content }) } in w) ∷ rest d)

-- ---- marks of blocks

-- a chunk that has none before it, or no chunk
abbrev IsFree : Option Chunk → Type 0
IsFree None = Unit {0}
IsFree (Some chunk) = chunk.has_previous ≡ false

-- marks that link back by themselves
pub record Back (marks : List Mark) : Type 0 where
  pub links : LinkBack 0 marks

pub nothing : Back []
nothing = record { links = tt }

pub two : (x y : List Mark) → Back x → Back y → Back (x ++ y)
two x y h k = record { links = back-both 0 x y h.links k.links }

abbrev chunk_with : (has_previous has_next : Bool) → Chunk
chunk_with has_previous has_next = record { content = content.Text; has_previous = has_previous; has_next = has_next }

module _ (B : List ℕ) where
  span-back : (chunk : Option Chunk) (n : Name) (seats : List Seat) (inside : List Mark) → IsFree chunk → Back inside → Back (chunk_span B chunk n seats inside)
  span-back chunk n [] inside c h = h
  span-back None n (s ∷ ss) inside c h = record { links = back-both 1 inside ((event B Exit n (end_after s.end ss), None) ∷ []) (back-more 0 1 inside (omega arith) h.links) tt }
  span-back (Some chunk) n (s ∷ ss) inside c h =
      record { links = ((λ p. absurd (let both : true ≡ false = sym p ∙ c in cc)), back-both 1 inside ((event B Exit n (end_after s.end ss), None) ∷ []) (back-more 0 1 inside (omega arith) h.links) tt) }

  chunk-back : (chunk : Option Chunk) (n : Name) (seats : List Seat) → LinkBack 2 (chunk_span B chunk n seats [])
  chunk-back chunk n [] = tt
  chunk-back None n (s ∷ ss) = tt
  chunk-back (Some chunk) n (s ∷ ss) = ((λ p. omega arith), tt)

  leaf : (n : Name) (seats : List Seat) → Back (leaf_marks B n seats)
  leaf n seats = span-back None n seats [] tt nothing

  sequence : (n : Name) (size : ℕ) (seats : List Seat) → Back (sequence_marks B n size seats)
  sequence n size seats = two _ _ (leaf name.SpaceOrTab _) (two _ _ (leaf n _) (leaf name.SpaceOrTab _))

  breaks : (bound : ℕ) (seats : List Seat) → Back (break_marks B bound seats)
  breaks zero seats = nothing
  breaks (suc bound) seats = two _ _ (leaf name.SpaceOrTab _) (two _ _ (leaf name.ThematicBreakSequence _) (breaks bound _))

  heading : (read : List Seat → List Mark) → ((s : List Seat) → Back (read s)) → (seats : List Seat) → Back (heading_around B read seats)
  heading read reads seats =
      let t = bytes_of seats in
      let signs = indent t + run 35 (unindented t) in
      let start = signs + indent (drop signs t) in
      let end = start + length (heading_text (drop start t)) in
      let text = take (end - start) (drop start seats) in
      two _ _ (sequence name.HeadingAtxSequence (run 35 (unindented t)) (take start seats))
      (two _ _ (span-back None name.HeadingAtxText text (read text) tt (reads text)) (sequence name.HeadingAtxSequence (run 35 (unindented (drop end t))) (drop end seats)))

  fence-around : (read : List Seat → List Mark) → ((s : List Seat) → Back (read s)) → (size : ℕ) (seats : List Seat) → Back (fence_around B read size seats)
  fence-around read reads size seats =
      let t = bytes_of seats in
      let signs = indent t + size in
      let start = signs + indent (drop signs t) in
      let word = start + prefix_len (λ c. not (is_white c)) (drop start t) in
      let rest = word + indent (drop word t) in
      let info = take (word - start) (drop start seats) in
      let meta = drop rest seats in
      span-back None name.CodeFencedFence seats _ tt
      (two _ _ (sequence name.CodeFencedFenceSequence size (take start seats))
      (two _ _ (span-back None name.CodeFencedFenceInfo info (read info) tt (reads info))
      (two _ _ (leaf name.SpaceOrTab (take (rest - word) (drop word seats))) (span-back None name.CodeFencedFenceMeta meta (read meta) tt (reads meta)))))

  code : (most : ℕ) (seats : List Seat) → Back (code_marks B most seats)
  code most seats = two _ _ (leaf name.SpaceOrTab _) (leaf name.CodeFlowChunk _)

  more-texts : (lines : List Line) → LinkBack 2 (text_marks B true lines)
  more-texts [] = tt
  more-texts (line ∷ []) = chunk-back (Some (chunk_with true false)) name.Data (line_text line)
  more-texts (line ∷ next ∷ lines) = back-both 2 (chunk_span B (Some (chunk_with true true)) name.Data line []) (text_marks B true (next ∷ lines)) (chunk-back (Some (chunk_with true true)) name.Data line) (more-texts (next ∷ lines))

  texts : (lines : List Line) → AllByRecursion HasByte lines → Back (text_marks B false lines)
  texts [] h = nothing
  texts (line ∷ []) h = span-back (Some (chunk_with false false)) name.Data (line_text line) [] refl nothing
  texts ([] ∷ next ∷ lines) h = absurd h.0
  texts ((s ∷ ss) ∷ next ∷ lines) h = record { links = ((λ p. absurd (let both : false ≡ true = p in cc)), more-texts (next ∷ lines)) }

  module _ (marks : List Seat → List Mark) (each : (s : List Seat) → Back (marks s)) where
    lines-back : (is_open : Bool) (lines : List Line) → Back (lines_marks B marks is_open lines)
    lines-back is_open [] = nothing
    lines-back true (line ∷ []) = two _ _ (each (line_text line)) (leaf name.LineEnding (ending_of line))
    lines-back false (line ∷ []) = two _ [] (each (line_text line)) nothing
    lines-back is_open (line ∷ next ∷ lines) = two _ _ (each (line_text line)) (two _ _ (leaf name.LineEnding (ending_of line)) (lines-back is_open (next ∷ lines)))

  last : (lines : List Line) → Back (last_end B lines)
  last [] = nothing
  last (line ∷ []) = leaf name.LineEnding (ending_of line)
  last (line ∷ next ∷ lines) = last (next ∷ lines)

  around : (n : Name) (is_open : Bool) (lines : List Line) (inside : List Mark) → Back inside → Back (block_span B n is_open lines inside)
  around n false lines inside h = two _ _ (span-back None n (body lines) inside tt h) (last lines)
  around n true lines inside h = span-back None n (all_of lines) inside tt h

  fenced : (fence : Fence) (is_closed : Bool) (lines : List Line) → Back (fenced_marks B fence is_closed lines)
  fenced fence is_closed [] = nothing
  fenced fence true (line ∷ []) = let t = line_text line in span-back None name.CodeFencedFence t _ tt (sequence name.CodeFencedFenceSequence (run fence.byte (unindented (bytes_of t))) t)
  fenced fence false (line ∷ []) = two _ _ (code fence.indent (line_text line)) (leaf name.LineEnding (ending_of line))
  fenced fence is_closed (line ∷ next ∷ lines) = two _ _ (code fence.indent (line_text line)) (two _ _ (leaf name.LineEnding (ending_of line)) (fenced fence is_closed (next ∷ lines)))

  strings : (s : List Seat) → Back (string_chunk B s)
  strings s = span-back (alone content.String) name.Data s [] refl nothing

  text-alone : (s : List Seat) → Back (text_chunk B s)
  text-alone s = span-back (alone content.Text) name.Data s [] refl nothing

  code-fenced : (string : List Seat → List Mark) → ((s : List Seat) → Back (string s)) → (fence : Fence) (is_closed : Bool) (lines : List Line) → Back (code_fenced_around B string fence is_closed lines)
  code-fenced string string-back fence is_closed [] = nothing
  code-fenced string string-back fence is_closed (line ∷ []) = two _ _ (fence-around string string-back fence.size (line_text line)) (leaf name.LineEnding (ending_of line))
  code-fenced string string-back fence is_closed (line ∷ next ∷ lines) = two _ _ (fence-around string string-back fence.size (line_text line)) (two _ _ (leaf name.LineEnding (ending_of line)) (fenced fence is_closed (next ∷ lines)))

  htmls : (is_open : Bool) (lines : List Line) → Back (html_marks B is_open lines)
  htmls is_open [] = nothing
  htmls is_open (line ∷ lines) = let columns = indent (bytes_of (line_text line)) in two _ _ (leaf name.HtmlFlowData (take columns line)) (lines-back (leaf_marks B name.HtmlFlowData) (leaf name.HtmlFlowData) is_open (drop columns line ∷ lines))

  -- blocks, by what their texts and strings are read as
  module _ (text : List Seat → List Mark) (text-back : (s : List Seat) → Back (text s)) (lines1 : List Line → List Mark) (lines-back1 : (lines : List Line) → AllByRecursion HasByte lines → Back (lines1 lines))
      (string : List Seat → List Mark) (string-back : (s : List Seat) → Back (string s)) where
    block : (b : LeafBlock) → AllByRecursion HasByte (block_lines b) → Back (block_around B text lines1 string b)
    block (blank_line line) h = two _ _ (leaf name.SpaceOrTab (line_text line)) (leaf name.BlankLineEnding (ending_of line))
    block (break_line line) h = around name.ThematicBreak false (line ∷ []) _ (breaks (length line) (line_text line))
    block (atx_heading line) h = around name.HeadingAtx false (line ∷ []) _ (heading text text-back (line_text line))
    block (paragraph lines) h = around name.Paragraph false lines _ (lines-back1 lines h)
    block (setext_heading rank lines below) h =
        around name.HeadingSetext false (lines ++ below ∷ []) _
        (two _ _ (span-back None name.HeadingSetextText (body lines) (lines1 lines) tt (lines-back1 lines (every-front HasByte lines (below ∷ []) h)))
        (two _ _ (last lines) (let t = line_text below in span-back None name.HeadingSetextUnderline t (underline_inside B t) tt (sequence name.HeadingSetextUnderlineSequence (prefix_len (λ c. not (is_white c)) (unindented (bytes_of t))) t))))
    block (indented_code lines) h = around name.CodeIndented false lines _ (lines-back (code_marks B 4) (code 4) false lines)
    block (fenced_code fence is_closed lines) h = around name.CodeFenced (not is_closed) lines _ (code-fenced string string-back fence is_closed lines)
    block (html_block kind is_closed lines) h = around name.HtmlFlow (not is_closed) lines _ (htmls (not is_closed) lines)

    pub around-back : (blocks : List LeafBlock) → AllByRecursion (λ b. AllByRecursion HasByte (block_lines b)) blocks → Back (flat_map (block_around B text lines1 string) blocks)
    around-back [] h = nothing
    around-back (b ∷ blocks) h = two _ _ (block b h.0) (around-back blocks h.1)

  pub blocks-link-back : (blocks : List LeafBlock) → AllByRecursion (λ b. AllByRecursion HasByte (block_lines b)) blocks → Back (leaf_blocks_marks B blocks)
  blocks-link-back blocks h = around-back (text_chunk B) text-alone (text_marks B false) texts (string_chunk B) strings blocks h
