-- The lines of fenced code behind its first are read, one after another.
use Rattle.mdblock_leaf_blocks.proofs.Prelude.{⊎_elim, Bool, List, None, [], ap, append-nil, append_assoc, arith, drop, false, length, length-append, min, not, refl, subst, suc, sym, take, true, ℕ, ◌++◌, ◌-◌, ◌<◌, ◌==◌, ◌^◌, ◌∙◌, ◌∷◌, ◌≡◌, ◌≤◌, length-drop, Seat, end_after, CodeFenced, CodeFencedFence, CodeFencedFenceSequence, CodeFlowChunk, LineEnding, Point, FlowAfter, RawFlowAfter, RawFlowAtNonLazyBreak, RawFlowContentBefore, RawFlowContentStart, Configuration, Given, Text, line_feed, RawFlowCloseBefore, AreLines, behind_block, block_seats, Line, bytes_of, has_line, lines_through, text_of, Mark, code_marks, fenced_marks, leaf_marks, line_end, sequence_marks, span_marks, white, Fence, closes, run, unindented, IsInLine, LineEnds, all_of, ending_of, line_text, consume, enter, exit}
use Rattle.mdblock_leaf_blocks.proofs.Fenced.Checks.{behind_look, next-read}
use Rattle.mdblock_leaf_blocks.proofs.Fenced.Lines.{closing-line, code-line}
use Rattle.mdblock_leaf_blocks.proofs.Fenced.Looks.{closes-is}
use Rattle.mdblock_leaf_blocks.proofs.Fenced.Steps.{IsMark, IsOfFence, IsRead, KeepsFence, feed-class, fence_kept, of-fence-kept}
use Rattle.mdblock_leaf_blocks.proofs.Lines.{IsAt, byte-then, cut-line, first-parts, goes, has-one-more, has-there, lines-behind, row-ends, row-takes-on, some-through, text-in-line, then, then-ends, through-one-more, through-there}

-- ---- a line before lines: virtual bytes, and marks
module _ (line : Line) (e : Seat) (whole : line_text line ++ ending_of line ≡ line) (ends : ending_of line ≡ e ∷ []) where
  as-text : (l : List Seat) → line ++ l ≡ line_text line ++ (e ∷ l)
  as-text l = ap (λ x. x ++ l) (sym whole ∙ ap (λ x. line_text line ++ x) ends) ∙ append_assoc (line_text line) (e ∷ []) l

  -- a closed block has a line behind this one
  pub joined-seats : (closed : Bool) (ours : List Line) → (closed ≡ true → 1 ≤ length ours) → block_seats (not closed) (line ∷ ours) ≡ line_text line ++ (e ∷ block_seats (not closed) ours)
  joined-seats true [] some = absurd (let h = some refl in omega (arith, h))
  joined-seats true (next ∷ ours) some = as-text (block_seats false (next ∷ ours))
  joined-seats false ours some = as-text (all_of ours)

  pub joined-behind : (closed : Bool) (ours behind : List Line) → (closed ≡ true → 1 ≤ length ours) → behind_block (not closed) (line ∷ ours) behind ≡ behind_block (not closed) ours behind
  joined-behind true [] behind some = absurd (let h = some refl in omega (arith, h))
  joined-behind closed ours behind some = refl

  joined-marks : (g : Given) (f : Fence) (closed : Bool) (ours : List Line) → (closed ≡ true → 1 ≤ length ours)
      → fenced_marks g.bytes f closed (line ∷ ours) ≡ code_marks g.bytes f.indent (line_text line) ++ (line_end g.bytes line ++ fenced_marks g.bytes f closed ours)
  joined-marks g f true [] some = absurd (let h = some refl in omega (arith, h))
  joined-marks g f false [] some = ap (λ x. code_marks g.bytes f.indent (line_text line) ++ x) (sym (append-nil (line_end g.bytes line)))
  joined-marks g f closed (next ∷ ours) some = refl

module _ (g : Given) (t : Text) (f : Fence) (of : IsMark f.byte) (size : 1 ≤ f.size) (room : length t.seats < 2 ^ 64 - 1) (indent_room : f.indent < 2 ^ 64 - 1) where
  -- the end of the text ends the block
  pub text-ends : (k : Configuration Unit Unit) (p : Point) → IsAt t k p [] → IsRead g t k RawFlowAtNonLazyBreak [] [] (goes g t CodeFenced p) FlowAfter
  text-ends k p at = row-ends g t fence_kept RawFlowAtNonLazyBreak (CodeFenced ∷ []) FlowAfter k p [] None at refl (λ b. refl)

  -- a line ending
  abbrev pub ending_marks : Seat → List Mark
  ending_marks s = leaf_marks g.bytes LineEnding (s ∷ [])

  -- the bytes of a line are fewer than those of the text
  has-room : (q : ℕ) (s : Seat) (l rest : List Seat) → drop q t.seats ≡ s ∷ (l ++ rest) → length l < 2 ^ 64 - 1
  has-room q s l rest at =
      let count : length t.seats - q ≡ suc (length (l ++ rest)) = sym (length-drop q t.seats) ∙ ap length at in
      let sum = length-append l rest in
      omega (arith, count, sum, room)

  -- it, and a line of code
  code-next : (e : Seat) (l rest : List Seat) → (e.byte == 10) ≡ true → IsInLine l → LineEnds rest → closes g.options.constructs f (bytes_of l) ≡ false
      → (k : Configuration Unit Unit) (p : Point) → IsOfFence f k.local → IsAt t k p (e ∷ (l ++ rest))
      → IsRead g t k RawFlowAtNonLazyBreak (e ∷ l) rest (ending_marks e ++ code_marks g.bytes f.indent l) RawFlowAtNonLazyBreak
  code-next e l rest feed all ends other k p fenced at =
      let marks = ending_marks e ++ code_marks g.bytes f.indent l in
      next-read g t f of size k p e l rest feed fenced at all ends (has-room k.position e l rest at.left) (e ∷ l) rest marks RawFlowAtNonLazyBreak
      (λ k' at' fenced'. subst (λ v. IsRead g t k' (behind_look v) (e ∷ l) rest marks RawFlowAtNonLazyBreak) (sym other)
      (byte-then g t fence_kept k' p RawFlowContentBefore RawFlowContentStart RawFlowAtNonLazyBreak e l rest (ending_marks e) (code_marks g.bytes f.indent l) at'
      (row-takes-on g t KeepsFence k' RawFlowContentBefore p e (l ++ rest) line_feed (enter LineEnding ∷ consume ∷ exit LineEnding ∷ []) RawFlowContentStart at' (feed-class e.byte feed) refl tt refl (fence_kept.same k'.local))
      (λ k'' at'' kept. code-line g t f l rest all ends indent_room k'' e.end (of-fence-kept f k'.local k''.local kept fenced') at'')))

  -- or the closing fence
  abbrev close_marks : List Seat → List Mark
  close_marks l = span_marks g.bytes CodeFencedFence l (sequence_marks g.bytes CodeFencedFenceSequence (run f.byte (unindented (bytes_of l))) l)

  close-next : (e : Seat) (l rest : List Seat) → (e.byte == 10) ≡ true → IsInLine l → LineEnds rest → closes g.options.constructs f (bytes_of l) ≡ true
      → (k : Configuration Unit Unit) (p : Point) → IsOfFence f k.local → IsAt t k p (e ∷ (l ++ rest))
      → IsRead g t k RawFlowAtNonLazyBreak (e ∷ l) rest (ending_marks e ++ (close_marks l ++ goes g t CodeFenced (end_after e.end l))) FlowAfter
  close-next e l rest feed all ends close k p fenced at =
      let last = close_marks l ++ goes g t CodeFenced (end_after e.end l) in
      next-read g t f of size k p e l rest feed fenced at all ends (has-room k.position e l rest at.left) (e ∷ l) rest (ending_marks e ++ last) FlowAfter
      (λ k' at' fenced'. subst (λ v. IsRead g t k' (behind_look v) (e ∷ l) rest (ending_marks e ++ last) FlowAfter) (sym close)
      (byte-then g t fence_kept k' p RawFlowAfter RawFlowCloseBefore FlowAfter e l rest (ending_marks e) last at'
      (row-takes-on g t KeepsFence k' RawFlowAfter p e (l ++ rest) line_feed (enter LineEnding ∷ consume ∷ exit LineEnding ∷ []) RawFlowCloseBefore at' (feed-class e.byte feed) refl tt refl (fence_kept.same k'.local))
      (λ k'' at'' kept. closing-line g t f of size l rest ends close k'' e.end at'')))

  -- ---- the lines behind a line ending
  abbrev pub behind_marks : Seat → (closed : Bool) → List Line → List Mark
  behind_marks e closed ours = ending_marks e ++ (fenced_marks g.bytes f closed ours ++ goes g t CodeFenced (end_after e.end (block_seats (not closed) ours)))

  abbrev pub AreReadBehind : Seat → (ours behind : List Line) → (closed : Bool) → Type 0
  AreReadBehind e ours behind closed =
      let seats = block_seats (not closed) ours in
      let rest = behind_block (not closed) ours behind in
      (k : Configuration Unit Unit) (p : Point) → IsOfFence f k.local → IsAt t k p (e ∷ (seats ++ rest)) → IsRead g t k RawFlowAtNonLazyBreak (e ∷ seats) rest (behind_marks e closed ours) FlowAfter

  abbrev is_close : List ℕ → Bool
  is_close = closes g.options.constructs f

  code-nothing : code_marks g.bytes f.indent [] ≡ []
  code-nothing = let none : min f.indent 0 ≡ 0 = omega arith in ap (λ n. white g.bytes (take n []) ++ leaf_marks g.bytes CodeFlowChunk (drop n [])) none

  -- no line is left
  behind-none : (e : Seat) → (e.byte == 10) ≡ true → AreReadBehind e [] [] false
  behind-none e feed k p fenced at =
      let one = subst (λ ms. IsRead g t k RawFlowAtNonLazyBreak (e ∷ []) [] (ending_marks e ++ ms) RawFlowAtNonLazyBreak) code-nothing (code-next e [] [] feed tt tt (sym (closes-is g f [] size of)) k p fenced at) in
      then-ends g t fence_kept k p RawFlowAtNonLazyBreak RawFlowAtNonLazyBreak FlowAfter (e ∷ []) [] (ending_marks e) (goes g t CodeFenced e.end) at one (λ k' at' kept. text-ends k' e.end at')

  -- the closing fence comes
  behind-closed : (e : Seat) → (e.byte == 10) ≡ true → (line : Line) (more : List Line) → AreLines (line ∷ more) → is_close (text_of line) ≡ true → AreReadBehind e (line ∷ []) more true
  behind-closed e feed line more are close = let parts = first-parts line more are in close-next e (line_text line) (ending_of line ++ all_of more) feed parts.in_line parts.ends close

  -- a line of code comes, which ends the text
  behind-last : (e : Seat) → (e.byte == 10) ≡ true → (line : Line) → line_text line ++ ending_of line ≡ line → ending_of line ≡ [] → is_close (text_of line) ≡ false → AreReadBehind e (line ∷ []) [] false
  behind-last e feed line whole none other k p fenced at =
      let l = line_text line in
      let code = code_marks g.bytes f.indent l in
      let same : l ≡ line ++ [] = sym (append-nil l) ∙ ap (λ x. l ++ x) (sym none) ∙ whole ∙ sym (append-nil line) in
      let last = goes g t CodeFenced (end_after e.end l) in
      let marks : (ending_marks e ++ code) ++ last ≡ ending_marks e ++ ((code ++ line_end g.bytes line) ++ last) =
      append_assoc (ending_marks e) code last ∙ ap (λ x. ending_marks e ++ (x ++ last)) (sym (append-nil code) ∙ ap (λ x. code ++ x) (ap (leaf_marks g.bytes LineEnding) (sym none))) in
      subst (λ x. IsAt t k p (e ∷ (x ++ [])) → IsRead g t k RawFlowAtNonLazyBreak (e ∷ x) [] (ending_marks e ++ ((code ++ line_end g.bytes line) ++ goes g t CodeFenced (end_after e.end x))) FlowAfter) same
      (λ at. subst (λ ms. IsRead g t k RawFlowAtNonLazyBreak (e ∷ l) [] ms FlowAfter) marks
      (then-ends g t fence_kept k p RawFlowAtNonLazyBreak RawFlowAtNonLazyBreak FlowAfter (e ∷ l) [] (ending_marks e ++ code) last at (code-next e l [] feed (text-in-line line) tt other k p fenced at)
      (λ k' at' kept. text-ends k' (end_after e.end l) at'))) at

  -- a line of code comes, and others behind it
  behind-code : (e : Seat) → (e.byte == 10) ≡ true → (line : Line) (end : Seat) → line_text line ++ ending_of line ≡ line → ending_of line ≡ end ∷ [] → end.byte ≡ 10 → is_close (text_of line) ≡ false
      → (ours behind : List Line) (closed : Bool) → (closed ≡ true → 1 ≤ length ours) → AreReadBehind end ours behind closed → AreReadBehind e (line ∷ ours) behind closed
  behind-code e feed line end whole ends end_feed other ours behind closed some further k p fenced at =
      let l = line_text line in
      let code = code_marks g.bytes f.indent l in
      let seats = block_seats (not closed) ours in
      let rest = behind_block (not closed) ours behind in
      let fenced_are = fenced_marks g.bytes f closed ours in
      let begin = ending_marks e in
      let middle = ending_marks end in
      let marks = λ (z : Point). append_assoc begin code (middle ++ (fenced_are ++ goes g t CodeFenced z)) ∙ ap (λ x. begin ++ (code ++ x)) (sym (append_assoc middle fenced_are (goes g t CodeFenced z)))
      ∙ ap (λ x. begin ++ x) (sym (append_assoc code (middle ++ fenced_are) (goes g t CodeFenced z)))
      ∙ ap (λ x. begin ++ (x ++ goes g t CodeFenced z)) (ap (λ x. code ++ (leaf_marks g.bytes LineEnding x ++ fenced_are)) (sym ends) ∙ sym (joined-marks line end whole ends g f closed ours some)) in
      subst (λ r. IsAt t k p (e ∷ (block_seats (not closed) (line ∷ ours) ++ r)) → IsRead g t k RawFlowAtNonLazyBreak (e ∷ block_seats (not closed) (line ∷ ours)) r (behind_marks e closed (line ∷ ours)) FlowAfter) (sym (joined-behind line end whole ends closed ours behind some))
      (subst (λ x. IsAt t k p (e ∷ (x ++ rest)) → IsRead g t k RawFlowAtNonLazyBreak (e ∷ x) rest (begin ++ (fenced_marks g.bytes f closed (line ∷ ours) ++ goes g t CodeFenced (end_after e.end x))) FlowAfter) (sym (joined-seats line end whole ends closed ours some))
      (λ at. let l' = e ∷ (l ++ (end ∷ seats)) in
      subst (λ ms. IsRead g t k RawFlowAtNonLazyBreak l' rest ms FlowAfter) (marks (end_after p l'))
      (then g t fence_kept k p RawFlowAtNonLazyBreak RawFlowAtNonLazyBreak FlowAfter (e ∷ l) (end ∷ seats) l' rest refl (begin ++ code) (λ z. middle ++ (fenced_are ++ goes g t CodeFenced z)) at
      (λ at'. code-next e l ((end ∷ seats) ++ rest) feed (text-in-line line) end_feed other k p fenced at')
      (λ k' at' kept. further k' (end_after p (e ∷ l)) (of-fence-kept f k.local k'.local kept fenced) at')))) at

  -- So the lines are read, up to the closing fence
  pub behind-reads : (more : List Line) (e : Seat) → (e.byte == 10) ≡ true → AreLines more → let n = lines_through is_close more in AreReadBehind e (take n more) (drop n more) (has_line is_close more)
  behind-reads [] e feed are = behind-none e feed
  behind-reads (line ∷ more) e feed are =
      let cut = cut-line line more are in
      let goal = λ (n : ℕ) (closed : Bool). AreReadBehind e (take n (line ∷ more)) (drop n (line ∷ more)) closed in
      elim (is_close (text_of line)) as (λ b. is_close (text_of line) ≡ b → goal (lines_through is_close (line ∷ more)) (has_line is_close (line ∷ more))) [
        | true ↦ λ is.
            subst (λ n. goal n (has_line is_close (line ∷ more))) (sym (through-there is_close line more is)) (subst (λ closed. goal 1 closed) (sym (has-there is_close line more is)) (behind-closed e feed line more are is))
        | false ↦ λ is.
            let n = lines_through is_close more in
            subst (λ n. goal n (has_line is_close (line ∷ more))) (sym (through-one-more is_close line more is)) (subst (λ closed. goal (suc n) closed) (sym (has-one-more is_close line more is))
            (⊎_elim
            (λ h. behind-code e feed line h.ending cut.whole h.is h.feed is (take n more) (drop n more) (has_line is_close more) (some-through is_close more) (behind-reads more h.ending (ap (λ b. b == 10) h.feed) (lines-behind line more are)))
            (λ h. subst (λ m. AreReadBehind e (line ∷ take (lines_through is_close m) m) (drop (lines_through is_close m) m) (has_line is_close m)) (sym h.last) (behind-last e feed line cut.whole h.is is)) cut.ends))
      ] refl
