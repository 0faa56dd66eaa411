-- What holds of spans over virtual bytes, and of marks one after another, holds of the marks of leaf blocks over their lines.
use Rattle.mdblock_leaf_blocks.proofs.Prelude.{◌≡◌, ℕ, zero, suc, ◌+◌, ◌-◌, ◌≤◌, List, [], ◌∷◌, ◌++◌, Bool, true, false, cond, not, Option, append_assoc, length, length-drop, take, drop, refl, sym, ap, ◌∙◌, subst, arith, min, AllByRecursion, prefix_len, append-nil, take-append-drop, length-map, prefix_len-le-length, Content, is_void, Seat, is_white, all_of, ending_of, line_text, last_ending, block_seats, Line, bytes_of, Chunk, Mark, alone, block_span, body, break_marks, chunk_span, code_fenced_around, code_marks, fence_around, fenced_marks, heading_around, html_marks, last_end, leaf_marks, lines_marks, sequence_marks, span_marks, text_marks, underline_marks, Fence, heading_text, indent, run, unindented}
use Rattle.markdown_base.specs.declared.event.Name.{Name}
use Rattle.markdown_base.specs.declared.event.Name.TheVariants as name
use Rattle.mdblock_leaf_blocks.proofs.Marks.FullBlocks.{StartsText}
use Rattle.mdblock_leaf_blocks.proofs.Lines.WholeLines.{IsWhole, body-and-last, part-behind, text-and-ending, text-behind, three-parts, whole-behind, whole-ending, whole-front, whole-part, whole-text}

-- what is said of marks over virtual bytes is said of a span around them, if its name may be around others
abbrev pub IsKeptAround : (bytes : List ℕ) → (List Mark → List Seat → Type 0) → Type 0
IsKeptAround bytes P = (n : Name) (seats : List Seat) (inside : List Mark) → is_void n ≡ false → P inside seats → P (span_marks bytes n seats inside) seats

-- What is said of marks over virtual bytes is kept by marks behind others, by spans, alone in a line and around others, and by lines of text
pub record IsKeptBySpans (bytes : List ℕ) (P : List Mark → List Seat → Type 0) : Type 0 where
  pub none : P [] []
  pub both : {xs ys : List Mark} {a b : List Seat} → P xs a → P ys b → P (xs ++ ys) (a ++ b)
  pub leaf : (n : Name) (s : Seat) (ss : List Seat) → IsWhole (s ∷ ss) → P (leaf_marks bytes n (s ∷ ss)) (s ∷ ss)
  pub datum : (c : Content) (s : Seat) (ss : List Seat) → IsWhole (s ∷ ss) → P (chunk_span bytes (alone c) name.Data (s ∷ ss) []) (s ∷ ss)
  pub text : (lines : List Line) → AllByRecursion StartsText lines → AllByRecursion IsWhole lines → P (text_marks bytes false lines) (body lines)
  pub around : (n : Name) (s : Seat) (ss : List Seat) (inside : List Mark) → is_void n ≡ false → P inside (s ∷ ss) → P (span_marks bytes n (s ∷ ss) inside) (s ∷ ss)

-- what is kept by each span alone, with any chunk, is kept by lines of text
module _ (bytes : List ℕ) (P : List Mark → List Seat → Type 0) (none : P [] []) (both : (xs ys : List Mark) (a b : List Seat) → P xs a → P ys b → P (xs ++ ys) (a ++ b))
    (alone : (chunk : Option Chunk) (n : Name) (s : Seat) (ss : List Seat) → IsWhole (s ∷ ss) → P (chunk_span bytes chunk n (s ∷ ss) []) (s ∷ ss)) where
  any-chunk : (chunk : Option Chunk) (seats : List Seat) → IsWhole seats → P (chunk_span bytes chunk name.Data seats []) seats
  any-chunk chunk [] w = none
  any-chunk chunk (s ∷ ss) w = alone chunk name.Data s ss w

  pub text-by-chunks : (has_previous : Bool) (lines : List Line) → AllByRecursion IsWhole lines → P (text_marks bytes has_previous lines) (body lines)
  text-by-chunks has_previous [] w = none
  text-by-chunks has_previous (line ∷ []) w = any-chunk _ (line_text line) (whole-text line)
  text-by-chunks has_previous (line ∷ next ∷ lines) w = both _ _ _ _ (any-chunk _ line w.0) (text-by-chunks true (next ∷ lines) w.1)

seats-on : (is_open : Bool) (line next : Line) (lines : List Line) → block_seats is_open (line ∷ next ∷ lines) ≡ line ++ block_seats is_open (next ∷ lines)
seats-on true line next lines = refl
seats-on false line next lines = refl

-- a line, its line ending, and more
pub line-on : (is_open : Bool) (line next : Line) (lines : List Line) → IsWhole line → line_text line ++ (ending_of line ++ block_seats is_open (next ∷ lines)) ≡ block_seats is_open (line ∷ next ∷ lines)
line-on is_open line next lines h =
    let rest = block_seats is_open (next ∷ lines) in
    sym (append_assoc (line_text line) (ending_of line) rest) ∙ ap (λ l. l ++ rest) (text-and-ending line h) ∙ sym (seats-on is_open line next lines)

module _ (bytes : List ℕ) (P : List Mark → List Seat → Type 0) (kept : IsKeptBySpans bytes P) where
  pub over : {marks : List Mark} {a : List Seat} (b : List Seat) → a ≡ b → P marks a → P marks b
  over {marks} b e h = subst (P marks) e h

  pub no-spans : P [] []
  no-spans = kept.none

  pub spans-both : {xs ys : List Mark} {a b : List Seat} → P xs a → P ys b → P (xs ++ ys) (a ++ b)
  spans-both h k = kept.both h k

  pub spans-data : (c : Content) (seats : List Seat) → IsWhole seats → P (chunk_span bytes (alone c) name.Data seats []) seats
  spans-data c [] w = kept.none
  spans-data c (s ∷ ss) w = kept.datum c s ss w

  pub spans-leaf : (n : Name) (seats : List Seat) → IsWhole seats → P (leaf_marks bytes n seats) seats
  spans-leaf n [] w = kept.none
  spans-leaf n (s ∷ ss) w = kept.leaf n s ss w

  pub spans-around : IsKeptAround bytes P
  spans-around n [] inside void h = h
  spans-around n (s ∷ ss) inside void h = kept.around n s ss inside void h

  -- ---- what is in blocks
  pub spans-sequence : (n : Name) (size : ℕ) (seats : List Seat) → IsWhole seats → P (sequence_marks bytes n size seats) seats
  spans-sequence n size seats w =
      let c = indent (bytes_of seats) in
      let same : c + size - c ≡ size = omega arith in
      over seats (let parts = three-parts c (c + size) seats (omega arith) in rw same at parts) (spans-both (spans-leaf name.SpaceOrTab (take c seats) (whole-front c seats w)) (spans-both (spans-leaf n (take size (drop c seats)) (whole-part size c seats w)) (spans-leaf name.SpaceOrTab (drop (c + size) seats) (whole-behind (c + size) seats w))))

  -- a thematic break goes on at each step
  break-goes-on : (s : Seat) (ss : List Seat) → let t = bytes_of (s ∷ ss) in 1 ≤ indent t + prefix_len (λ b. not (is_white b)) (drop (indent t) t)
  break-goes-on s ss = elim (is_white s.byte) as (λ b. let n = cond b (1 + indent (bytes_of ss)) 0 in is_white s.byte ≡ b → 1 ≤ n + prefix_len (λ b. not (is_white b)) (drop n (bytes_of (s ∷ ss)))) [
    | true ↦ λ e. omega arith
    | false ↦ λ e. (let is : prefix_len (λ b. not (is_white b)) (bytes_of (s ∷ ss)) ≡ 1 + prefix_len (λ b. not (is_white b)) (bytes_of ss) = rw e refl in omega (arith, is))
  ] refl

  pub spans-break : (bound : ℕ) (seats : List Seat) → length seats ≤ bound → IsWhole seats → P (break_marks bytes bound seats) seats
  spans-break zero [] l w = no-spans
  spans-break zero (s ∷ ss) l w = absurd (omega (arith, l))
  spans-break (suc bound) [] l w = spans-break bound [] (omega arith) w
  spans-break (suc bound) (s ∷ ss) l w =
      let seats = s ∷ ss in
      let t = bytes_of seats in
      let c = indent t in
      let end = c + prefix_len (λ b. not (is_white b)) (drop c t) in
      let on = break-goes-on s ss in
      let shorter : length (drop end seats) ≤ bound = omega (arith, length-drop end seats, on, l) in
      over seats (three-parts c end seats (omega arith))
      (spans-both (spans-leaf name.SpaceOrTab (take c seats) (whole-front c seats w))
      (spans-both (spans-leaf name.ThematicBreakSequence (take (end - c) (drop c seats)) (whole-part (end - c) c seats w)) (spans-break bound (drop end seats) shorter (whole-behind end seats w))))

  -- an ATX heading, by what its text is read as
  pub spans-heading-around : (read : List Seat → List Mark) → ((text : List Seat) → IsWhole text → P (read text) text) → (seats : List Seat) → IsWhole seats → P (heading_around bytes read seats) seats
  spans-heading-around read reads seats w =
      let t = bytes_of seats in
      let signs = indent t + run 35 (unindented t) in
      let start = signs + indent (drop signs t) in
      let end = start + length (heading_text (drop start t)) in
      let text = take (end - start) (drop start seats) in
      over seats (three-parts start end seats (omega arith))
      (spans-both (spans-sequence name.HeadingAtxSequence (run 35 (unindented t)) (take start seats) (whole-front start seats w))
      (spans-both (spans-around name.HeadingAtxText text _ refl (reads text (whole-part (end - start) start seats w))) (spans-sequence name.HeadingAtxSequence (run 35 (unindented (drop end t))) (drop end seats) (whole-behind end seats w))))

  -- an opening fence, by what its strings are read as
  spans-fence-around : (read : List Seat → List Mark) → ((string : List Seat) → IsWhole string → P (read string) string) → (size : ℕ) (seats : List Seat) → IsWhole seats → P (fence_around bytes read size seats) seats
  spans-fence-around read reads size seats w =
      let t = bytes_of seats in
      let signs = indent t + size in
      let start = signs + indent (drop signs t) in
      let word = start + prefix_len (λ c. not (is_white c)) (drop start t) in
      let rest = word + indent (drop word t) in
      let info = take (word - start) (drop start seats) in
      let meta = drop rest seats in
      let all = ap (λ l. take start seats ++ (info ++ l)) (part-behind word rest seats (omega arith)) ∙ three-parts start word seats (omega arith) in
      spans-around name.CodeFencedFence seats _ refl
      (over seats all
      (spans-both (spans-sequence name.CodeFencedFenceSequence size (take start seats) (whole-front start seats w))
      (spans-both (spans-around name.CodeFencedFenceInfo info _ refl (reads info (whole-part (word - start) start seats w)))
      (spans-both (spans-leaf name.SpaceOrTab (take (rest - word) (drop word seats)) (whole-part (rest - word) word seats w)) (spans-around name.CodeFencedFenceMeta meta _ refl (reads meta (whole-behind rest seats w)))))))

  pub spans-code : (most : ℕ) (seats : List Seat) → IsWhole seats → P (code_marks bytes most seats) seats
  spans-code most seats w =
      let n = min most (indent (bytes_of seats)) in
      over seats (take-append-drop n seats) (spans-both (spans-leaf name.SpaceOrTab (take n seats) (whole-front n seats w)) (spans-leaf name.CodeFlowChunk (drop n seats) (whole-behind n seats w)))

  pub spans-lines : (marks : List Seat → List Mark) → ((seats : List Seat) → IsWhole seats → P (marks seats) seats) → (is_open : Bool) (lines : List Line) → AllByRecursion IsWhole lines → P (lines_marks bytes marks is_open lines) (block_seats is_open lines)
  spans-lines marks each true [] h = no-spans
  spans-lines marks each false [] h = no-spans
  spans-lines marks each true (line ∷ []) h = over (line ++ []) (text-and-ending line h.0 ∙ sym (append-nil line)) (spans-both (each (line_text line) (whole-text line)) (spans-leaf name.LineEnding (ending_of line) (whole-ending line h.0)))
  spans-lines marks each false (line ∷ []) h = over (line_text line) (append-nil (line_text line)) (spans-both (each (line_text line) (whole-text line)) no-spans)
  spans-lines marks each is_open (line ∷ next ∷ lines) h =
      over (block_seats is_open (line ∷ next ∷ lines)) (line-on is_open line next lines h.0)
      (spans-both (each (line_text line) (whole-text line)) (spans-both (spans-leaf name.LineEnding (ending_of line) (whole-ending line h.0)) (spans-lines marks each is_open (next ∷ lines) h.1)))

  pub spans-text : (lines : List Line) → AllByRecursion StartsText lines → AllByRecursion IsWhole lines → P (text_marks bytes false lines) (body lines)
  spans-text lines h w = kept.text lines h w

  pub spans-last : (lines : List Line) → AllByRecursion IsWhole lines → P (last_end bytes lines) (last_ending lines)
  spans-last [] h = no-spans
  spans-last (line ∷ []) h = spans-leaf name.LineEnding (ending_of line) (whole-ending line h.0)
  spans-last (line ∷ next ∷ lines) h = spans-last (next ∷ lines) h.1

  -- ---- blocks
  pub spans-block : (n : Name) (is_open : Bool) (lines : List Line) (inside : List Mark) → is_void n ≡ false → AllByRecursion IsWhole lines → P inside (block_seats is_open lines) → P (block_span bytes n is_open lines inside) (all_of lines)
  spans-block n false lines inside void whole h = over (all_of lines) (body-and-last lines whole) (spans-both (spans-around n (body lines) inside void h) (spans-last lines whole))
  spans-block n true lines inside void whole h = spans-around n (all_of lines) inside void h

  -- fenced code is closed by its last line
  spans-fenced : (f : Fence) (is_closed : Bool) (lines : List Line) → AllByRecursion IsWhole lines → P (fenced_marks bytes f is_closed lines) (block_seats (not is_closed) lines)
  spans-fenced f true [] h = no-spans
  spans-fenced f false [] h = no-spans
  spans-fenced f true (line ∷ []) h = spans-around name.CodeFencedFence (line_text line) _ refl (spans-sequence name.CodeFencedFenceSequence (run f.byte (unindented (bytes_of (line_text line)))) (line_text line) (whole-text line))
  spans-fenced f false (line ∷ []) h = over (line ++ []) (text-and-ending line h.0 ∙ sym (append-nil line)) (spans-both (spans-code f.indent (line_text line) (whole-text line)) (spans-leaf name.LineEnding (ending_of line) (whole-ending line h.0)))
  spans-fenced f is_closed (line ∷ next ∷ lines) h =
      over (block_seats (not is_closed) (line ∷ next ∷ lines)) (line-on (not is_closed) line next lines h.0)
      (spans-both (spans-code f.indent (line_text line) (whole-text line)) (spans-both (spans-leaf name.LineEnding (ending_of line) (whole-ending line h.0)) (spans-fenced f is_closed (next ∷ lines) h.1)))

  -- fenced code, by what its strings are read as
  pub spans-code-fenced-around : (read : List Seat → List Mark) → ((string : List Seat) → IsWhole string → P (read string) string) → (f : Fence) (is_closed : Bool) (lines : List Line) → (is_closed ≡ true → 2 ≤ length lines) → AllByRecursion IsWhole lines
      → P (code_fenced_around bytes read f is_closed lines) (block_seats (not is_closed) lines)
  spans-code-fenced-around read reads f true [] long h = no-spans
  spans-code-fenced-around read reads f false [] long h = no-spans
  spans-code-fenced-around read reads f true (line ∷ []) long h = absurd (let two = long refl in omega (arith, two))
  spans-code-fenced-around read reads f false (line ∷ []) long h =
      over (line ++ []) (text-and-ending line h.0 ∙ sym (append-nil line)) (spans-both (spans-fence-around read reads f.size (line_text line) (whole-text line)) (spans-leaf name.LineEnding (ending_of line) (whole-ending line h.0)))
  spans-code-fenced-around read reads f is_closed (line ∷ next ∷ lines) long h =
      over (block_seats (not is_closed) (line ∷ next ∷ lines)) (line-on (not is_closed) line next lines h.0)
      (spans-both (spans-fence-around read reads f.size (line_text line) (whole-text line)) (spans-both (spans-leaf name.LineEnding (ending_of line) (whole-ending line h.0)) (spans-fenced f is_closed (next ∷ lines) h.1)))

  -- columns of white space at the beginning of a line are no part of its line ending
  seats-behind : (is_open : Bool) (n : ℕ) (line : Line) (lines : List Line) → IsWhole line → n ≤ length (line_text line) → take n line ++ block_seats is_open (drop n line ∷ lines) ≡ block_seats is_open (line ∷ lines)
  seats-behind false n line [] h l = text-behind n line h l
  seats-behind false n line (next ∷ lines) h l = sym (append_assoc (take n line) (drop n line) (body (next ∷ lines))) ∙ ap (λ l. l ++ body (next ∷ lines)) (take-append-drop n line)
  seats-behind true n line lines h l = sym (append_assoc (take n line) (drop n line) (all_of lines)) ∙ ap (λ l. l ++ all_of lines) (take-append-drop n line)

  pub spans-html : (is_open : Bool) (lines : List Line) → AllByRecursion IsWhole lines → P (html_marks bytes is_open lines) (block_seats is_open lines)
  spans-html true [] h = no-spans
  spans-html false [] h = no-spans
  spans-html is_open (line ∷ lines) h =
      let columns = indent (bytes_of (line_text line)) in
      let few = prefix_len-le-length is_white (bytes_of (line_text line)) in
      let long = length-map (line_text line) (λ (s : Seat). s.byte) in
      over (block_seats is_open (line ∷ lines)) (seats-behind is_open columns line lines h.0 (omega (arith, few, long)))
      (spans-both (spans-leaf name.HtmlFlowData (take columns line) (whole-front columns line h.0)) (spans-lines (leaf_marks bytes name.HtmlFlowData) (spans-leaf name.HtmlFlowData) is_open (drop columns line ∷ lines) (whole-behind columns line h.0, h.1)))

  pub spans-underline : (seats : List Seat) → IsWhole seats → P (underline_marks bytes seats) seats
  spans-underline seats w = spans-around name.HeadingSetextUnderline seats _ refl (spans-sequence name.HeadingSetextUnderlineSequence _ seats w)
