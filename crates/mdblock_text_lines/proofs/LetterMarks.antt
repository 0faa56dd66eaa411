-- The marks of leaf blocks do not look at bytes, but for white space and marks: so they are the same of lines with letters, if these have the same white space.
use Rattle.std.proofs.Common.{◌≡◌, ℕ, zero, suc, ◌+◌, ◌-◌, Bool, true, false, cond, List, [], ◌∷◌, ◌++◌, ap, drop, length, map, refl, sym, take, ◌∙◌}
use Rattle.std.specs.Prelude.{min, not, None, Option, Some}
use Rattle.std.specs.List.{AllByRecursion, prefix_len}
use Rattle.std.proofs.lemmas.List.{drop-map, map-append, take-map}
use Rattle.markdown_base.specs.declared.event.Content.TheVariants as content
use Rattle.markdown_base.specs.declared.event.Kind.{Kind}
use Rattle.markdown_base.specs.declared.event.Kind.TheVariants.{Enter, Exit}
use Rattle.markdown_base.specs.declared.event.Name.{Name}
use Rattle.markdown_base.specs.declared.event.Name.TheVariants as name
use Rattle.markdown_base.specs.declared.event.Point.{Point}
use Rattle.markdown_base.specs.Places.{shown}
use Rattle.markdown_base.specs.Virtual.{Seat, end_after}
use Rattle.mdconstructs_tables.specs.Breaks.{is_white}
use Rattle.mdconstructs_machines.specs.LineEvents.{all_of, ending_of, is_line_ending, joined, line_text, lines_in}
use Rattle.mdconstructs_machines.specs.Spans.{event}
use Rattle.mdblock_leaf_blocks.specs.LeafBlocks.{Line, bytes_of, text_of}
use Rattle.mdblock_leaf_blocks.specs.LeafEvents.{Chunk, Mark, block_span, body, break_marks, chunk_span, code_fenced_marks, code_marks, fence_marks, fenced_marks, heading_marks, html_marks, last_end, leaf_marks, line_end, lines_marks, sequence_marks, span_marks, string_chunk, text_chunk, text_marks, underline_inside, underline_marks, white}
use Rattle.mdblock_leaf_blocks.specs.LineKinds.{Fence, heading_text, indent, run, unindented}
use Rattle.mdblock_containers.proofs.LetterPlaces.{end_kept}
use Rattle.mdblock_containers.specs.Letters.{lettered_seat}

-- ---- lines with letters
module _ (at : List ℕ) where
  abbrev pub lettered : List Seat → List Seat
  lettered seats = map (lettered_seat at) seats

  abbrev pub all_lettered : List Line → List Line
  all_lettered ls = map lettered ls

  -- a line ending is one as before, and nothing else
  abbrev pub IsKept : Seat → Type 0
  IsKept s = is_line_ending (lettered_seat at s) ≡ is_line_ending s

  abbrev pub AreKept : List Line → Type 0
  AreKept ls = AllByRecursion (AllByRecursion IsKept) ls

  pub text-kept : (l : List Seat) → AllByRecursion IsKept l → line_text (lettered l) ≡ lettered (line_text l)
  text-kept [] h = refl
  text-kept (s ∷ ss) h = let more = text-kept ss h.1 in (λ i. cond (not (h.0 i)) (lettered_seat at s ∷ more i) (more i)) ∙ by (is_line_ending s)
    where
      by : (x : Bool) → cond (not x) (lettered_seat at s ∷ lettered (line_text ss)) (lettered (line_text ss)) ≡ lettered (cond (not x) (s ∷ line_text ss) (line_text ss))
      by true = refl
      by false = refl

  pub ending-kept : (l : List Seat) → AllByRecursion IsKept l → ending_of (lettered l) ≡ lettered (ending_of l)
  ending-kept [] h = refl
  ending-kept (s ∷ ss) h = let more = ending-kept ss h.1 in (λ i. cond (h.0 i) (lettered_seat at s ∷ more i) (more i)) ∙ by (is_line_ending s)
    where
      by : (x : Bool) → cond x (lettered_seat at s ∷ lettered (ending_of ss)) (lettered (ending_of ss)) ≡ lettered (cond x (s ∷ ending_of ss) (ending_of ss))
      by true = refl
      by false = refl

  pub lines-kept : (ss : List Seat) → AllByRecursion IsKept ss → lines_in (lettered ss) ≡ all_lettered (lines_in ss)
  lines-kept [] h = refl
  lines-kept (s ∷ ss) h = let more = lines-kept ss h.1 in (λ i. cond (h.0 i) ((lettered_seat at s ∷ []) ∷ more i) (joined (lettered_seat at s) (more i))) ∙ by (is_line_ending s) (lines_in ss)
    where
      by : (x : Bool) (ls : List Line) → cond x ((lettered_seat at s ∷ []) ∷ all_lettered ls) (joined (lettered_seat at s) (all_lettered ls)) ≡ all_lettered (cond x ((s ∷ []) ∷ ls) (joined s ls))
      by true ls = refl
      by false [] = refl
      by false (l ∷ ls) = refl

-- ---- marks of two documents in which each place is shown alike
module _ (a b : List ℕ) (alike : (p : Point) → shown a p ≡ shown b p) where
  one : (k : Kind) (n : Name) (p : Point) → event a k n p ≡ event b k n p
  one k n p = λ i. record { kind = k; name = n; point = alike p i; link = None }

  pub span-same : (c : Option Chunk) (n : Name) (ss : List Seat) (x y : List Mark) → x ≡ y → chunk_span a c n ss x ≡ chunk_span b c n ss y
  span-same c n [] x y e = e
  span-same c n (s ∷ ss) x y e = λ i. (one Enter n s.point i, c) ∷ (e i ++ (one Exit n (end_after s.end ss) i, None) ∷ [])

  pub leaf-same : (n : Name) (ss : List Seat) → leaf_marks a n ss ≡ leaf_marks b n ss
  leaf-same n ss = span-same None n ss [] [] refl

  pub white-same : (ss : List Seat) → white a ss ≡ white b ss
  white-same ss = leaf-same name.SpaceOrTab ss

  sequence-same : (n : Name) (size : ℕ) (ss : List Seat) → sequence_marks a n size ss ≡ sequence_marks b n size ss
  sequence-same n size ss =
      let c = indent (bytes_of ss) in
      λ i. white-same (take c ss) i ++ (leaf-same n (take size (drop c ss)) i ++ white-same (drop (c + size) ss) i)

  pub break-same : (bound : ℕ) (ss : List Seat) → break_marks a bound ss ≡ break_marks b bound ss
  break-same zero ss = refl
  break-same (suc bound) ss =
      let c = indent (bytes_of ss) in
      let e = c + prefix_len (λ x. not (is_white x)) (drop c (bytes_of ss)) in
      λ i. white-same (take c ss) i ++ (leaf-same name.ThematicBreakSequence (take (e - c) (drop c ss)) i ++ break-same bound (drop e ss) i)

  pub heading-same : (ss : List Seat) → heading_marks a ss ≡ heading_marks b ss
  heading-same ss =
      let t = bytes_of ss in
      let signs = indent t + run 35 (unindented t) in
      let start = signs + indent (drop signs t) in
      let end = start + length (heading_text (drop start t)) in
      let text = take (end - start) (drop start ss) in
      let chunk : text_chunk a text ≡ text_chunk b text = span-same _ name.Data text [] [] refl in
      λ i. sequence-same name.HeadingAtxSequence (run 35 (unindented t)) (take start ss) i
      ++ (span-same None name.HeadingAtxText text (text_chunk a text) (text_chunk b text) chunk i ++ sequence-same name.HeadingAtxSequence (run 35 (unindented (drop end t))) (drop end ss) i)

  fence-same : (size : ℕ) (ss : List Seat) → fence_marks a size ss ≡ fence_marks b size ss
  fence-same size ss =
      let t = bytes_of ss in
      let signs = indent t + size in
      let start = signs + indent (drop signs t) in
      let word = start + prefix_len (λ c. not (is_white c)) (drop start t) in
      let rest = word + indent (drop word t) in
      let info = take (word - start) (drop start ss) in
      let meta = drop rest ss in
      let string : (l : List Seat) → string_chunk a l ≡ string_chunk b l = λ l. span-same _ name.Data l [] [] refl in
      span-same None name.CodeFencedFence ss _ _
      (λ i. sequence-same name.CodeFencedFenceSequence size (take start ss) i
      ++ (span-same None name.CodeFencedFenceInfo info (string_chunk a info) (string_chunk b info) (string info) i
      ++ (white-same (take (rest - word) (drop word ss)) i ++ span-same None name.CodeFencedFenceMeta meta (string_chunk a meta) (string_chunk b meta) (string meta) i)))

  pub underline-same : (ss : List Seat) → underline_marks a ss ≡ underline_marks b ss
  underline-same ss =
      span-same None name.HeadingSetextUnderline ss (underline_inside a ss) (underline_inside b ss) (sequence-same name.HeadingSetextUnderlineSequence (prefix_len (λ c. not (is_white c)) (unindented (bytes_of ss))) ss)

  -- ---- and with letters in one
  module _ (at : List ℕ) where
    pub span-kept : (c : Option Chunk) (n : Name) (ss : List Seat) (x y : List Mark) → x ≡ y → chunk_span a c n (lettered at ss) x ≡ chunk_span b c n ss y
    span-kept c n [] x y e = e
    span-kept c n (s ∷ ss) x y e =
        let exit : event a Exit n (end_after s.end (lettered at ss)) ≡ event b Exit n (end_after s.end ss) = ap (event a Exit n) (end_kept at s.end ss) ∙ one Exit n (end_after s.end ss) in
        λ i. (one Enter n s.point i, c) ∷ (e i ++ (exit i, None) ∷ [])

    pub leaf-kept : (n : Name) (ss : List Seat) → leaf_marks a n (lettered at ss) ≡ leaf_marks b n ss
    leaf-kept n ss = span-kept None n ss [] [] refl

    pub white-kept : (ss : List Seat) → white a (lettered at ss) ≡ white b ss
    white-kept ss = leaf-kept name.SpaceOrTab ss

    -- virtual bytes with the same white space in front
    abbrev pub SameIndent : List Seat → Type 0
    SameIndent ss = indent (bytes_of (lettered at ss)) ≡ indent (bytes_of ss)

    sequence-kept : (n : Name) (size : ℕ) (ss : List Seat) → SameIndent ss → sequence_marks a n size (lettered at ss) ≡ sequence_marks b n size ss
    sequence-kept n size ss e =
        let c = indent (bytes_of ss) in
        let l = lettered at ss in
        let middle : take size (drop c l) ≡ lettered at (take size (drop c ss)) = ap (take size) (drop-map (lettered_seat at) c ss) ∙ take-map (lettered_seat at) size (drop c ss) in
        (λ i. white a (take (e i) l) ++ (leaf_marks a n (take size (drop (e i) l)) ++ white a (drop (e i + size) l)))
        ∙ (λ i. white a (take-map (lettered_seat at) c ss i) ++ (leaf_marks a n (middle i) ++ white a (drop-map (lettered_seat at) (c + size) ss i)))
        ∙ (λ i. white-kept (take c ss) i ++ (leaf-kept n (take size (drop c ss)) i ++ white-kept (drop (c + size) ss) i))

    pub code-kept : (most : ℕ) (ss : List Seat) → SameIndent ss → code_marks a most (lettered at ss) ≡ code_marks b most ss
    code-kept most ss e =
        let n = min most (indent (bytes_of ss)) in
        let l = lettered at ss in
        (λ i. white a (take (min most (e i)) l) ++ leaf_marks a name.CodeFlowChunk (drop (min most (e i)) l))
        ∙ (λ i. white a (take-map (lettered_seat at) n ss i) ++ leaf_marks a name.CodeFlowChunk (drop-map (lettered_seat at) n ss i))
        ∙ (λ i. white-kept (take n ss) i ++ leaf-kept name.CodeFlowChunk (drop n ss) i)

    -- ---- lines
    pub text-marks-kept : (w : Bool) (ls : List Line) → AreKept at ls → text_marks a w (all_lettered at ls) ≡ text_marks b w ls
    text-marks-kept w [] h = refl
    text-marks-kept w (l ∷ []) h =
        let c : Option Chunk = Some (record { content = content.Text; has_previous = w; has_next = false }) in
        ap (λ x. chunk_span a c name.Data x []) (text-kept at l h.0) ∙ span-kept c name.Data (line_text l) [] [] refl
    text-marks-kept w (l ∷ m ∷ ls) h =
        let c : Option Chunk = Some (record { content = content.Text; has_previous = w; has_next = true }) in
        λ i. span-kept c name.Data l [] [] refl i ++ text-marks-kept true (m ∷ ls) h.1 i

    body-kept : (ls : List Line) → AreKept at ls → body (all_lettered at ls) ≡ lettered at (body ls)
    body-kept [] h = refl
    body-kept (l ∷ []) h = text-kept at l h.0
    body-kept (l ∷ m ∷ ls) h = ap (λ x. lettered at l ++ x) (body-kept (m ∷ ls) h.1) ∙ sym (map-append (lettered_seat at) l (body (m ∷ ls)))

    all-kept : (ls : List Line) → all_of (all_lettered at ls) ≡ lettered at (all_of ls)
    all-kept [] = refl
    all-kept (l ∷ ls) = ap (λ x. lettered at l ++ x) (all-kept ls) ∙ sym (map-append (lettered_seat at) l (all_of ls))

    pub end-kept : (l : Line) → AllByRecursion (IsKept at) l → line_end a (lettered at l) ≡ line_end b l
    end-kept l h = ap (leaf_marks a name.LineEnding) (ending-kept at l h) ∙ leaf-kept name.LineEnding (ending_of l)

    pub last-kept : (ls : List Line) → AreKept at ls → last_end a (all_lettered at ls) ≡ last_end b ls
    last-kept [] h = refl
    last-kept (l ∷ []) h = end-kept l h.0
    last-kept (l ∷ m ∷ ls) h = last-kept (m ∷ ls) h.1

    pub body-span-kept : (n : Name) (ls : List Line) (x y : List Mark) → AreKept at ls → x ≡ y → span_marks a n (body (all_lettered at ls)) x ≡ span_marks b n (body ls) y
    body-span-kept n ls x y h e = ap (λ l. span_marks a n l x) (body-kept ls h) ∙ span-kept None n (body ls) x y e

    pub block-kept : (n : Name) (is_open : Bool) (ls : List Line) (x y : List Mark) → AreKept at ls → x ≡ y → block_span a n is_open (all_lettered at ls) x ≡ block_span b n is_open ls y
    block-kept n false ls x y h e = λ i. body-span-kept n ls x y h e i ++ last-kept ls h i
    block-kept n true ls x y h e = ap (λ l. span_marks a n l x) (all-kept ls) ∙ span-kept None n (all_of ls) x y e

    pub lines-marks-kept : (f g : List Seat → List Mark) (is_open : Bool) (ls : List Line) → AreKept at ls → AllByRecursion (λ l. f (line_text (lettered at l)) ≡ g (line_text l)) ls → lines_marks a f is_open (all_lettered at ls) ≡ lines_marks b g is_open ls
    lines-marks-kept f g is_open [] h k = refl
    lines-marks-kept f g is_open (l ∷ []) h k = λ i. k.0 i ++ by is_open i
      where
        by : (x : Bool) → cond x (line_end a (lettered at l)) [] ≡ cond x (line_end b l) []
        by true = end-kept l h.0
        by false = refl
    lines-marks-kept f g is_open (l ∷ m ∷ ls) h k = λ i. k.0 i ++ (end-kept l h.0 i ++ lines-marks-kept f g is_open (m ∷ ls) h.1 k.1 i)

    -- ---- fenced code
    -- a line with the same white space in front, and the same run of a byte behind it
    pub record IsFencedAlike (q : ℕ) (l : Line) : Type 0 where
      pub kept : AllByRecursion (IsKept at) l
      pub white : indent (text_of (lettered at l)) ≡ indent (text_of l)
      pub marks : run q (unindented (text_of (lettered at l))) ≡ run q (unindented (text_of l))

    pub same-indent : (l : Line) → AllByRecursion (IsKept at) l → indent (text_of (lettered at l)) ≡ indent (text_of l) → SameIndent (line_text l)
    same-indent l h e = ap (λ x. indent (bytes_of x)) (sym (text-kept at l h)) ∙ e

    pub code-line-kept : (most : ℕ) (l : Line) → AllByRecursion (IsKept at) l → indent (text_of (lettered at l)) ≡ indent (text_of l) → code_marks a most (line_text (lettered at l)) ≡ code_marks b most (line_text l)
    code-line-kept most l h e = ap (code_marks a most) (text-kept at l h) ∙ code-kept most (line_text l) (same-indent l h e)

    fenced-kept : (f : Fence) (closed : Bool) (ls : List Line) → AllByRecursion (IsFencedAlike f.byte) ls → fenced_marks a f closed (all_lettered at ls) ≡ fenced_marks b f closed ls
    fenced-kept f closed [] h = refl
    fenced-kept f closed (l ∷ []) h = by closed
      where
        size : ℕ
        size = run f.byte (unindented (text_of l))

        sequence : sequence_marks a name.CodeFencedFenceSequence (run f.byte (unindented (text_of (lettered at l)))) (line_text (lettered at l)) ≡ sequence_marks b name.CodeFencedFenceSequence size (line_text l)
        sequence =
            (λ i. sequence_marks a name.CodeFencedFenceSequence (h.0.marks i) (text-kept at l h.0.kept i)) ∙ sequence-kept name.CodeFencedFenceSequence size (line_text l) (same-indent l h.0.kept h.0.white)

        by : (x : Bool) → cond x (span_marks a name.CodeFencedFence (line_text (lettered at l)) (sequence_marks a name.CodeFencedFenceSequence (run f.byte (unindented (text_of (lettered at l)))) (line_text (lettered at l))))
            (code_marks a f.indent (line_text (lettered at l)) ++ line_end a (lettered at l))
            ≡ cond x (span_marks b name.CodeFencedFence (line_text l) (sequence_marks b name.CodeFencedFenceSequence size (line_text l))) (code_marks b f.indent (line_text l) ++ line_end b l)
        by true =
            let x = sequence_marks a name.CodeFencedFenceSequence (run f.byte (unindented (text_of (lettered at l)))) (line_text (lettered at l)) in
            ap (λ ss. span_marks a name.CodeFencedFence ss x) (text-kept at l h.0.kept) ∙ span-kept None name.CodeFencedFence (line_text l) x (sequence_marks b name.CodeFencedFenceSequence size (line_text l)) sequence
        by false = λ i. code-line-kept f.indent l h.0.kept h.0.white i ++ end-kept l h.0.kept i
    fenced-kept f closed (l ∷ m ∷ ls) h = λ i. code-line-kept f.indent l h.0.kept h.0.white i ++ (end-kept l h.0.kept i ++ fenced-kept f closed (m ∷ ls) h.1 i)

    -- whose opening fence has no letter
    pub code-fenced-kept : (f : Fence) (closed : Bool) (l : Line) (ls : List Line) → lettered at l ≡ l → AllByRecursion (IsKept at) l → AllByRecursion (IsFencedAlike f.byte) ls → code_fenced_marks a f closed (all_lettered at (l ∷ ls)) ≡ code_fenced_marks b f closed (l ∷ ls)
    code-fenced-kept f closed l [] e k h = λ i. (ap (λ x. fence_marks a f.size (line_text x)) e ∙ fence-same f.size (line_text l)) i ++ end-kept l k i
    code-fenced-kept f closed l (m ∷ ls) e k h = λ i. (ap (λ x. fence_marks a f.size (line_text x)) e ∙ fence-same f.size (line_text l)) i ++ (end-kept l k i ++ fenced-kept f closed (m ∷ ls) h i)

    -- ---- HTML whose first line has no letter
    pub html-kept : (is_open : Bool) (l : Line) (ls : List Line) → lettered at l ≡ l → AreKept at (l ∷ ls) → html_marks a is_open (all_lettered at (l ∷ ls)) ≡ html_marks b is_open (l ∷ ls)
    html-kept is_open l ls e h =
        let c = indent (bytes_of (line_text l)) in
        let d = drop c l in
        let cut : lettered at d ≡ d = sym (drop-map (lettered_seat at) c l) ∙ ap (drop c) e in
        let each = λ (x : List Seat) (k : AllByRecursion (IsKept at) x). ap (leaf_marks a name.HtmlFlowData) (text-kept at x k) ∙ leaf-kept name.HtmlFlowData (line_text x) in
        ap (λ x. leaf_marks a name.HtmlFlowData (take (indent (bytes_of (line_text x))) x) ++ lines_marks a (leaf_marks a name.HtmlFlowData) is_open (drop (indent (bytes_of (line_text x))) x ∷ all_lettered at ls)) e
        ∙ (λ i. leaf-same name.HtmlFlowData (take c l) i ++ (ap (λ x. lines_marks a (leaf_marks a name.HtmlFlowData) is_open (x ∷ all_lettered at ls)) (sym cut)
        ∙ lines-marks-kept (leaf_marks a name.HtmlFlowData) (leaf_marks b name.HtmlFlowData) is_open (d ∷ ls) (front c l h.0, h.1) (each d (front c l h.0), others ls h.1 each)) i)
      where
        front : (n : ℕ) (x : List Seat) → AllByRecursion (IsKept at) x → AllByRecursion (IsKept at) (drop n x)
        front zero x k = k
        front (suc n) [] k = tt
        front (suc n) (s ∷ ss) k = front n ss k.1

        others : (ls : List Line) → AreKept at ls → ((x : List Seat) → AllByRecursion (IsKept at) x → leaf_marks a name.HtmlFlowData (line_text (lettered at x)) ≡ leaf_marks b name.HtmlFlowData (line_text x))
            → AllByRecursion (λ x. leaf_marks a name.HtmlFlowData (line_text (lettered at x)) ≡ leaf_marks b name.HtmlFlowData (line_text x)) ls
        others [] k each = tt
        others (x ∷ xs) k each = (each x k.0, others xs k.1 each)
