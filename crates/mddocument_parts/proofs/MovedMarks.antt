-- The marks of leaf blocks depend on the places of their virtual bytes alone, and on how these are shown: where places move, marks move.
use Rattle.mddocument_parts.proofs.Prelude.{◌≡◌, ℕ, zero, suc, ◌+◌, ◌-◌, List, [], ◌∷◌, ◌++◌, Bool, true, false, not, length, min, take, drop, refl, sym, ap, ◌∙◌, Option, None, map, AllByRecursion, flat_map, prefix_len, drop-map, length-map, map-append, take-map, Event, Kind, Enter, Exit, Link, Name, Point, Line, LeafBlock, blank_line, break_line, atx_heading, paragraph, setext_heading, indented_code, fenced_code, html_block, bytes_of, Chunk, Mark, block_around, block_span, body, break_marks, chunk_span, code_fenced_around, code_marks, fence_around, fenced_marks, heading_around, html_marks, last_end, leaf_blocks_marks, leaf_marks, line_end, lines_marks, sequence_marks, span_marks, string_chunk, text_chunk, text_marks, underline_marks, white, all_of, ending_of, is_line_ending, line_text, Fence, heading_text, indent, run, unindented, shown, block_lines, event, Seat, end_after, is_white}
use Rattle.markdown_base.proofs.Common.{every-append, every-drop, every-take, every-filter}
use Rattle.markdown_base.specs.declared.event.Name.TheVariants as name
use Rattle.mdblock_tables.proofs.PieceLemmas.{end-moved, two}
use Rattle.mddocument_parts.proofs.TextLines.{AnySeat, AreInner, AreTextLines, any-blocks, inner-body, inner-text, texts-front}
use Rattle.mddocument_parts.proofs.Choices.{filter-mapped}

-- Two documents; where a place of the first is in the second, and what a link comes to be; and which places are known, and are shown alike
pub record Places : Type 0 where
  pub old : List ℕ
  pub new : List ℕ
  pub to : Point → Point
  pub link : Option Link → Option Link
  pub unlinked : link None ≡ None
  pub known : Point → Bool
  pub shows : (p : Point) → known p ≡ true → shown new (to p) ≡ to (shown old p)

-- places of one document, B, and where they are in another, C
module _ (B C : List ℕ) (f : Point → Point) (g : Option Link → Option Link) (none : g None ≡ None) (Ok : Point → Type 0) (sh : (p : Point) → Ok p → shown C (f p) ≡ f (shown B p)) where
  abbrev pub fs : Seat → Seat
  fs s = record { byte = s.byte; point = f s.point; end = f s.end }

  abbrev pub ms : List Seat → List Seat
  ms seats = map fs seats

  abbrev pub mls : List Line → List Line
  mls lines = map ms lines

  abbrev pub fe : Event → Event
  fe e = record { kind = e.kind; name = e.name; point = f e.point; link = g e.link }

  abbrev pub fm : Mark → Mark
  fm m = (fe m.0, m.1)

  abbrev pub mk : List Mark → List Mark
  mk marks = map fm marks

  abbrev pub mb : LeafBlock → LeafBlock
  mb (blank_line line) = blank_line (ms line)
  mb (break_line line) = break_line (ms line)
  mb (atx_heading line) = atx_heading (ms line)
  mb (paragraph ls) = paragraph (mls ls)
  mb (setext_heading rank ls below) = setext_heading rank (mls ls) (ms below)
  mb (indented_code ls) = indented_code (mls ls)
  mb (fenced_code h is_closed ls) = fenced_code h is_closed (mls ls)
  mb (html_block kind is_closed ls) = html_block kind is_closed (mls ls)

  -- ---- places that are known
  abbrev pub IsSeatOk : Seat → Type 0
  IsSeatOk s = Ok s.point × Ok s.end

  abbrev pub AreOk : List Seat → Type 0
  AreOk seats = AllByRecursion IsSeatOk seats

  abbrev pub AreLinesOk : List Line → Type 0
  AreLinesOk lines = AllByRecursion AreOk lines

  ok-take : (n : ℕ) (s : List Seat) → AreOk s → AreOk (take n s)
  ok-take n s h = every-take IsSeatOk n s h

  ok-drop : (n : ℕ) (s : List Seat) → AreOk s → AreOk (drop n s)
  ok-drop n s h = every-drop IsSeatOk n s h

  ok-append : (s r : List Seat) → AreOk s → AreOk r → AreOk (s ++ r)
  ok-append s r h k = every-append IsSeatOk s r h k

  ok-text : (s : List Seat) → AreOk s → AreOk (line_text s)
  ok-text s h = every-filter IsSeatOk (λ (x : Seat). not (is_line_ending x)) s h

  ok-ending : (s : List Seat) → AreOk s → AreOk (ending_of s)
  ok-ending s h = every-filter IsSeatOk is_line_ending s h

  -- ---- seats that are others, moved
  pub record Part (s r : List Seat) : Type 0 where
    pub is : s ≡ ms r
    pub ok : AreOk r

  bytes-moved : (r : List Seat) → bytes_of (ms r) ≡ bytes_of r
  bytes-moved [] = refl
  bytes-moved (x ∷ r) = ap (λ t. x.byte ∷ t) (bytes-moved r)

  text-moved : (line : Line) → line_text (ms line) ≡ ms (line_text line)
  text-moved line = filter-mapped (λ (s : Seat). not (is_line_ending s)) (λ (s : Seat). not (is_line_ending s)) fs (λ s. refl) line

  ending-moved : (line : Line) → ending_of (ms line) ≡ ms (ending_of line)
  ending-moved line = filter-mapped is_line_ending is_line_ending fs (λ s. refl) line

  pub whole : (r : List Seat) → AreOk r → Part (ms r) r
  whole r h = record { is = refl; ok = h }

  pub bs : (s r : List Seat) → Part s r → bytes_of s ≡ bytes_of r
  bs s r p = ap bytes_of p.is ∙ bytes-moved r

  pub tk : (s r : List Seat) (n m : ℕ) → n ≡ m → Part s r → Part (take n s) (take m r)
  tk s r n m e p = record { is = (λ i. take (e i) (p.is i)) ∙ take-map fs m r; ok = ok-take m r p.ok }

  pub dr : (s r : List Seat) (n m : ℕ) → n ≡ m → Part s r → Part (drop n s) (drop m r)
  dr s r n m e p = record { is = (λ i. drop (e i) (p.is i)) ∙ drop-map fs m r; ok = ok-drop m r p.ok }

  pub txt : (s r : List Seat) → Part s r → Part (line_text s) (line_text r)
  txt s r p = record { is = ap line_text p.is ∙ text-moved r; ok = ok-text r p.ok }

  pub ending : (s r : List Seat) → Part s r → Part (ending_of s) (ending_of r)
  ending s r p = record { is = ap ending_of p.is ∙ ending-moved r; ok = ok-ending r p.ok }

  pub joined-parts : (s r s2 r2 : List Seat) → Part s r → Part s2 r2 → Part (s ++ s2) (r ++ r2)
  joined-parts s r s2 r2 p q = record { is = (λ i. p.is i ++ q.is i) ∙ sym (map-append fs r r2); ok = ok-append r r2 p.ok q.ok }

  -- virtual bytes that are others, moved, and are of a text
  pub record Text (Inner : Seat → Type 0) (s r : List Seat) : Type 0 where
    pub part : Part s r
    pub inner : AreInner Inner r

  -- ---- marks that are others, moved
  pub event-moved : (kind : Kind) (n : Name) (p : Point) → Ok p → event C kind n (f p) ≡ fe (event B kind n p)
  event-moved kind n p h = let e = sh p h in let l = sym none in (λ i. let v : Event = record { kind = kind; name = n; point = e i; link = l i } in v)

  pub end-ok : (p : Point) (ss : List Seat) → Ok p → AreOk ss → Ok (end_after p ss)
  end-ok p [] h k = h
  end-ok p (s ∷ ss) h k = end-ok s.end ss k.0.1 k.1

  span-whole : (chunk : Option Chunk) (n : Name) (r : List Seat) (x y : List Mark) → AreOk r → x ≡ mk y → chunk_span C chunk n (ms r) x ≡ mk (chunk_span B chunk n r y)
  span-whole chunk n [] x y h e = e
  span-whole chunk n (s ∷ ss) x y h e =
      let enter = event-moved Enter n s.point h.0.0 in
      let exit : event C Exit n (end_after (f s.end) (ms ss)) ≡ fe (event B Exit n (end_after s.end ss)) = ap (event C Exit n) (end-moved f s.end ss) ∙ event-moved Exit n (end_after s.end ss) (end-ok s.end ss h.0.1 h.1) in
      (λ i. (enter i, chunk) ∷ (e i ++ (exit i, None) ∷ []))
      ∙ ap (λ l. (fe (event B Enter n s.point), chunk) ∷ l) (sym (map-append fm y ((event B Exit n (end_after s.end ss), None) ∷ [])))

  pub span : (chunk : Option Chunk) (n : Name) (s r : List Seat) (x y : List Mark) → Part s r → x ≡ mk y → chunk_span C chunk n s x ≡ mk (chunk_span B chunk n r y)
  span chunk n s r x y p e = ap (λ s. chunk_span C chunk n s x) p.is ∙ span-whole chunk n r x y p.ok e

  pub leaf : (n : Name) (s r : List Seat) → Part s r → leaf_marks C n s ≡ mk (leaf_marks B n r)
  leaf n s r p = span None n s r [] [] p refl

  pub whites : (s r : List Seat) → Part s r → white C s ≡ mk (white B r)
  whites s r p = leaf name.SpaceOrTab s r p

  line-end : (s r : Line) → Part s r → line_end C s ≡ mk (line_end B r)
  line-end s r p = leaf name.LineEnding _ _ (ending s r p)

  sequence : (n : Name) (size size2 : ℕ) (s r : List Seat) → size ≡ size2 → Part s r → sequence_marks C n size s ≡ mk (sequence_marks B n size2 r)
  sequence n size size2 s r e p =
      let c = ap indent (bs s r p) in
      two _ _ _ _ _ (whites _ _ (tk s r _ _ c p))
      (two _ _ _ _ _ (leaf n _ _ (tk _ _ _ _ e (dr s r _ _ c p))) (whites _ _ (dr s r _ _ (λ i. c i + e i) p)))

  breaks : (bound : ℕ) (s r : List Seat) → Part s r → break_marks C bound s ≡ mk (break_marks B bound r)
  breaks zero s r p = refl
  breaks (suc bound) s r p =
      let t = bs s r p in
      let c = ap indent t in
      let e = ap (λ t. indent t + prefix_len (λ b. not (is_white b)) (drop (indent t) t)) t in
      two _ _ _ _ _ (whites _ _ (tk s r _ _ c p))
      (two _ _ _ _ _ (leaf name.ThematicBreakSequence _ _ (tk _ _ _ _ (λ i. e i - c i) (dr s r _ _ c p))) (breaks bound _ _ (dr s r _ _ e p)))

  module _ (Inner : Seat → Type 0) (read2 read : List Seat → List Mark) (reads : (s r : List Seat) → Text Inner s r → read2 s ≡ mk (read r)) where
    read-front : (n k n2 k2 : ℕ) (s r : List Seat) → n ≡ n2 → k ≡ k2 → Part s r → AreInner Inner r → read2 (take n (drop k s)) ≡ mk (read (take n2 (drop k2 r)))
    read-front n k n2 k2 s r e f p i = reads _ _ (record { part = tk _ _ n n2 e (dr s r k k2 f p); inner = every-take Inner n2 (drop k2 r) (every-drop Inner k2 r i) })

    heading : (s r : List Seat) → Part s r → AreInner Inner r → heading_around C read2 s ≡ mk (heading_around B read r)
    heading s r p i =
        let t = bs s r p in
        let signs = λ (t : List ℕ). indent t + run 35 (unindented t) in
        let start = λ (t : List ℕ). signs t + indent (drop (signs t) t) in
        let end = λ (t : List ℕ). start t + length (heading_text (drop (start t) t)) in
        let part = tk _ _ _ _ (ap (λ t. end t - start t) t) (dr s r _ _ (ap start t) p) in
        two _ _ _ _ _ (sequence name.HeadingAtxSequence _ _ _ _ (ap (λ t. run 35 (unindented t)) t) (tk s r _ _ (ap start t) p))
        (two _ _ _ _ _ (span None name.HeadingAtxText _ _ _ _ part (read-front _ _ _ _ s r (ap (λ t. end t - start t) t) (ap start t) p i))
        (sequence name.HeadingAtxSequence _ _ _ _ (ap (λ t. run 35 (unindented (drop (end t) t))) t) (dr s r _ _ (ap end t) p)))

    fence-around : (size : ℕ) (s r : List Seat) → Part s r → AreInner Inner r → fence_around C read2 size s ≡ mk (fence_around B read size r)
    fence-around size s r p i =
        let t = bs s r p in
        let signs = λ (t : List ℕ). indent t + size in
        let start = λ (t : List ℕ). signs t + indent (drop (signs t) t) in
        let word = λ (t : List ℕ). start t + prefix_len (λ c. not (is_white c)) (drop (start t) t) in
        let rest = λ (t : List ℕ). word t + indent (drop (word t) t) in
        let info = tk _ _ _ _ (ap (λ t. word t - start t) t) (dr s r _ _ (ap start t) p) in
        let meta = dr s r _ _ (ap rest t) p in
        span None name.CodeFencedFence _ _ _ _ p
        (two _ _ _ _ _ (sequence name.CodeFencedFenceSequence size size _ _ refl (tk s r _ _ (ap start t) p))
        (two _ _ _ _ _ (span None name.CodeFencedFenceInfo _ _ _ _ info (read-front _ _ _ _ s r (ap (λ t. word t - start t) t) (ap start t) p i))
        (two _ _ _ _ _ (whites _ _ (tk _ _ _ _ (ap (λ t. rest t - word t) t) (dr s r _ _ (ap word t) p))) (span None name.CodeFencedFenceMeta _ _ _ _ meta (reads _ _ (record { part = meta; inner = every-drop Inner _ r i }))))))

  code : (most : ℕ) (s r : List Seat) → Part s r → code_marks C most s ≡ mk (code_marks B most r)
  code most s r p =
      let e = ap (λ t. min most (indent t)) (bs s r p) in
      two _ _ _ _ _ (whites _ _ (tk s r _ _ e p)) (leaf name.CodeFlowChunk _ _ (dr s r _ _ e p))

  -- ---- lines
  texts : (has_previous : Bool) (lines : List Line) → AreLinesOk lines → text_marks C has_previous (mls lines) ≡ mk (text_marks B has_previous lines)
  texts has_previous [] h = refl
  texts has_previous (line ∷ []) h = span _ name.Data _ _ [] [] (txt _ _ (whole line h.0)) refl
  texts has_previous (line ∷ next ∷ lines) h = two _ _ _ _ _ (span _ name.Data _ _ [] [] (whole line h.0) refl) (texts true (next ∷ lines) h.1)

  module _ (read2 read : List Seat → List Mark) (reads : (s r : List Seat) → Part s r → read2 s ≡ mk (read r)) where
    lines-marks : (is_open : Bool) (lines : List Line) → AreLinesOk lines → lines_marks C read2 is_open (mls lines) ≡ mk (lines_marks B read is_open lines)
    lines-marks is_open [] h = refl
    lines-marks true (line ∷ []) h = let p = whole line h.0 in two _ _ _ _ _ (reads _ _ (txt _ _ p)) (line-end _ _ p)
    lines-marks false (line ∷ []) h = let p = whole line h.0 in two _ _ _ [] [] (reads _ _ (txt _ _ p)) refl
    lines-marks is_open (line ∷ next ∷ lines) h = let p = whole line h.0 in two _ _ _ _ _ (reads _ _ (txt _ _ p)) (two _ _ _ _ _ (line-end _ _ p) (lines-marks is_open (next ∷ lines) h.1))

  last-end : (lines : List Line) → AreLinesOk lines → last_end C (mls lines) ≡ mk (last_end B lines)
  last-end [] h = refl
  last-end (line ∷ []) h = line-end _ _ (whole line h.0)
  last-end (line ∷ next ∷ lines) h = last-end (next ∷ lines) h.1

  bodies : (lines : List Line) → AreLinesOk lines → Part (body (mls lines)) (body lines)
  bodies [] h = whole [] tt
  bodies (line ∷ []) h = txt _ _ (whole line h.0)
  bodies (line ∷ next ∷ lines) h = joined-parts _ _ _ _ (whole line h.0) (bodies (next ∷ lines) h.1)

  pub text-bodies : (Inner : Seat → Type 0) (lines : List Line) → AreLinesOk lines → AreTextLines Inner lines → Text Inner (body (mls lines)) (body lines)
  text-bodies Inner lines h i = record { part = bodies lines h; inner = inner-body Inner lines i }

  all : (lines : List Line) → AreLinesOk lines → Part (all_of (mls lines)) (all_of lines)
  all [] h = whole [] tt
  all (line ∷ lines) h = joined-parts _ _ _ _ (whole line h.0) (all lines h.1)

  block-span : (n : Name) (is_open : Bool) (lines : List Line) (x y : List Mark) → AreLinesOk lines → x ≡ mk y → block_span C n is_open (mls lines) x ≡ mk (block_span B n is_open lines y)
  block-span n false lines x y h e = two _ _ _ _ _ (span None n _ _ x y (bodies lines h) e) (last-end lines h)
  block-span n true lines x y h e = span None n _ _ x y (all lines h) e

  fenced : (fence : Fence) (is_closed : Bool) (lines : List Line) → AreLinesOk lines → fenced_marks C fence is_closed (mls lines) ≡ mk (fenced_marks B fence is_closed lines)
  fenced fence is_closed [] h = refl
  fenced fence true (line ∷ []) h =
      let p = txt _ _ (whole line h.0) in
      span None name.CodeFencedFence _ _ _ _ p (sequence name.CodeFencedFenceSequence _ _ _ _ (ap (λ t. run fence.byte (unindented t)) (bs _ _ p)) p)
  fenced fence false (line ∷ []) h = let p = whole line h.0 in two _ _ _ _ _ (code fence.indent _ _ (txt _ _ p)) (line-end _ _ p)
  fenced fence is_closed (line ∷ next ∷ lines) h = let p = whole line h.0 in two _ _ _ _ _ (code fence.indent _ _ (txt _ _ p)) (two _ _ _ _ _ (line-end _ _ p) (fenced fence is_closed (next ∷ lines) h.1))

  code-fenced : (Inner : Seat → Type 0) (read2 read : List Seat → List Mark) → ((s r : List Seat) → Text Inner s r → read2 s ≡ mk (read r)) → (fence : Fence) (is_closed : Bool) (lines : List Line) → AreLinesOk lines → AreTextLines Inner lines
      → code_fenced_around C read2 fence is_closed (mls lines) ≡ mk (code_fenced_around B read fence is_closed lines)
  code-fenced Inner read2 read reads fence is_closed [] h i = refl
  code-fenced Inner read2 read reads fence is_closed (line ∷ []) h i = let p = whole line h.0 in two _ _ _ _ _ (fence-around Inner read2 read reads fence.size _ _ (txt _ _ p) i) (line-end _ _ p)
  code-fenced Inner read2 read reads fence is_closed (line ∷ next ∷ lines) h i =
      let p = whole line h.0 in
      two _ _ _ _ _ (fence-around Inner read2 read reads fence.size _ _ (txt _ _ p) (inner-text Inner line i.0)) (two _ _ _ _ _ (line-end _ _ p) (fenced fence is_closed (next ∷ lines) h.1))

  htmls : (is_open : Bool) (lines : List Line) → AreLinesOk lines → html_marks C is_open (mls lines) ≡ mk (html_marks B is_open lines)
  htmls is_open [] h = refl
  htmls is_open (line ∷ lines) h =
      let p = whole line h.0 in
      let c = ap indent (bs _ _ (txt _ _ p)) in
      let d = dr _ _ _ _ c p in
      two _ _ _ _ _ (leaf name.HtmlFlowData _ _ (tk _ _ _ _ c p))
      (ap (λ l. lines_marks C (leaf_marks C name.HtmlFlowData) is_open (l ∷ mls lines)) d.is ∙ lines-marks (leaf_marks C name.HtmlFlowData) (leaf_marks B name.HtmlFlowData) (leaf name.HtmlFlowData) is_open (_ ∷ lines) (d.ok, h.1))

  underlines : (s r : List Seat) → Part s r → underline_marks C s ≡ mk (underline_marks B r)
  underlines s r p =
      span None name.HeadingSetextUnderline _ _ _ _ p (sequence name.HeadingSetextUnderlineSequence _ _ _ _ (ap (λ t. prefix_len (λ c. not (is_white c)) (unindented t)) (bs s r p)) p)

  text-chunk : (s r : List Seat) → Part s r → text_chunk C s ≡ mk (text_chunk B r)
  text-chunk s r p = span _ name.Data s r [] [] p refl

  string-chunk : (s r : List Seat) → Part s r → string_chunk C s ≡ mk (string_chunk B r)
  string-chunk s r p = span _ name.Data s r [] [] p refl

  abbrev pub IsBlockOk : LeafBlock → Type 0
  IsBlockOk block = AreLinesOk (block_lines block)

  abbrev pub AreBlockTexts : (Inner : Seat → Type 0) → LeafBlock → Type 0
  AreBlockTexts Inner block = AreTextLines Inner (block_lines block)

  lines-front : (xs ys : List Line) → AreLinesOk (xs ++ ys) → AreLinesOk xs
  lines-front [] ys h = tt
  lines-front (x ∷ xs) ys h = (h.0, lines-front xs ys h.1)

  lines-back : (xs ys : List Line) → AreLinesOk (xs ++ ys) → AreLinesOk ys
  lines-back [] ys h = h
  lines-back (x ∷ xs) ys h = lines-back xs ys h.1

  -- the marks of a block, by what its texts and strings are read as
  module _ (Inner : Seat → Type 0) (text2 text : List Seat → List Mark) (text-reads : (s r : List Seat) → Text Inner s r → text2 s ≡ mk (text r))
      (lines2 lines1 : List Line → List Mark) (lines-reads : (lines : List Line) → AreLinesOk lines → AreTextLines Inner lines → lines2 (mls lines) ≡ mk (lines1 lines))
      (string2 string : List Seat → List Mark) (string-reads : (s r : List Seat) → Text Inner s r → string2 s ≡ mk (string r)) where
    block : (b : LeafBlock) → IsBlockOk b → AreBlockTexts Inner b → block_around C text2 lines2 string2 (mb b) ≡ mk (block_around B text lines1 string b)
    block (blank_line line) h i = let p = whole line h.0 in two _ _ _ _ _ (whites _ _ (txt _ _ p)) (leaf name.BlankLineEnding _ _ (ending _ _ p))
    block (break_line line) h i =
        let p = whole line h.0 in
        block-span name.ThematicBreak false (line ∷ []) _ _ h (ap (λ n. break_marks C n (line_text (ms line))) (length-map line fs) ∙ breaks (length line) _ _ (txt _ _ p))
    block (atx_heading line) h i = block-span name.HeadingAtx false (line ∷ []) _ _ h (heading Inner text2 text text-reads _ _ (txt _ _ (whole line h.0)) i)
    block (paragraph lines) h i = block-span name.Paragraph false lines _ _ h (lines-reads lines h i)
    block (setext_heading rank lines below) h i =
        let front = lines-front lines (below ∷ []) h in
        let back = lines-back lines (below ∷ []) h in
        let read = lines-reads lines front (texts-front Inner lines (below ∷ []) i) in
        let inside = two _ _ _ _ _ (span None name.HeadingSetextText _ _ _ _ (bodies lines front) read) (two _ _ _ _ _ (last-end lines front) (underlines _ _ (txt _ _ (whole below back.0)))) in
        let x = span_marks C name.HeadingSetextText (body (mls lines)) (lines2 (mls lines)) ++ (last_end C (mls lines) ++ underline_marks C (line_text (ms below))) in
        ap (λ ls. block_span C name.HeadingSetext false ls x) (sym (map-append ms lines (below ∷ []))) ∙ block-span name.HeadingSetext false (lines ++ below ∷ []) _ _ h inside
    block (indented_code lines) h i = block-span name.CodeIndented false lines _ _ h (lines-marks (code_marks C 4) (code_marks B 4) (code 4) false lines h)
    block (fenced_code fence is_closed lines) h i = block-span name.CodeFenced (not is_closed) lines _ _ h (code-fenced Inner string2 string string-reads fence is_closed lines h i)
    block (html_block kind is_closed lines) h i = block-span name.HtmlFlow (not is_closed) lines _ _ h (htmls (not is_closed) lines h)

    pub around-moved : (blocks : List LeafBlock) → AllByRecursion IsBlockOk blocks → AllByRecursion (AreBlockTexts Inner) blocks → flat_map (block_around C text2 lines2 string2) (map mb blocks) ≡ mk (flat_map (block_around B text lines1 string) blocks)
    around-moved [] h i = refl
    around-moved (b ∷ blocks) h i = two _ _ _ _ _ (block b h.0 i.0) (around-moved blocks h.1 i.1)

  pub blocks-marks-moved : (blocks : List LeafBlock) → AllByRecursion IsBlockOk blocks → leaf_blocks_marks C (map mb blocks) ≡ mk (leaf_blocks_marks B blocks)
  blocks-marks-moved blocks h =
      around-moved AnySeat (text_chunk C) (text_chunk B) (λ s r t. text-chunk s r t.part) (text_marks C false) (text_marks B false) (λ lines h i. texts false lines h) (string_chunk C) (string_chunk B) (λ s r t. string-chunk s r t.part) blocks h (any-blocks blocks)
