-- Lines of fenced code are read as their definitions say.
use Rattle.mdblock_leaf_blocks.proofs.Prelude.{Bool, List, ap, arith, drop, length, min, nat_le, not, subst, sym, take, true, ℕ, ◌&&◌, ◌++◌, ◌-◌, ◌<◌, ◌^◌, ◌∙◌, ◌∷◌, ◌≡◌, ◌≤◌, and_parts, leb-true, AllByRecursion, Seat, end_after, CodeFenced, CodeFencedFence, CodeFencedFenceSequence, CodeFlowChunk, Point, FlowAfter, RawFlowAtNonLazyBreak, RawFlowContentStart, Configuration, Given, Text, RawFlowCloseBefore, bytes_of, Mark, code_marks, leaf_marks, sequence_marks, span_marks, white, Fence, closes, indent, is_blank_line, is_far, run, unindented, IsInLine, LineEnds, is_white}
use Rattle.mdblock_leaf_blocks.proofs.Blocks.HeadingParts.{sequence-fronts}
use Rattle.mdblock_leaf_blocks.proofs.Fenced.Closing.{closing-reads}
use Rattle.mdblock_leaf_blocks.proofs.Fenced.Code.{code-reads}
use Rattle.mdblock_leaf_blocks.proofs.Fenced.Steps.{IsMark, IsOfFence, IsRead, is_mark}
use Rattle.mdblock_leaf_blocks.proofs.Lines.{IsAt, all-white, back, back_upto, drop-bytes, front, front-all, front-back, front_upto, goes, has-first, length-front, take-upto, upto-in-line, upto-short, upto-stops, upto-white, upto-whole}

module _ (g : Given) (t : Text) (f : Fence) where
  -- a line of code: columns of white space, so many at most, and the rest
  pub code-line : (l rest : List Seat) → IsInLine l → LineEnds rest → f.indent < 2 ^ 64 - 1 → (k : Configuration Unit Unit) (p : Point) → IsOfFence f k.local → IsAt t k p (l ++ rest)
      → IsRead g t k RawFlowContentStart l rest (code_marks g.bytes f.indent l) RawFlowAtNonLazyBreak
  code-line l rest all ends room k p fenced at =
      let m = f.indent in
      let u = front_upto m l in
      let c = back_upto m l in
      let (taken, left) = take-upto m l in
      let marks : white g.bytes u ++ leaf_marks g.bytes CodeFlowChunk c ≡ code_marks g.bytes m l =
      ap (λ a. white g.bytes a ++ leaf_marks g.bytes CodeFlowChunk c) (sym taken) ∙ ap (λ b. white g.bytes (take (min m (indent (bytes_of l))) l) ++ leaf_marks g.bytes CodeFlowChunk b) (sym left) in
      subst (λ ms. IsRead g t k RawFlowContentStart l rest ms RawFlowAtNonLazyBreak) marks
      (subst (λ l. IsAt t k p (l ++ rest) → IsRead g t k RawFlowContentStart l rest (white g.bytes u ++ leaf_marks g.bytes CodeFlowChunk c) RawFlowAtNonLazyBreak) (upto-whole m l)
      (λ at. code-reads g t f u c rest (upto-white m l) (upto-in-line m l all) ends (upto-stops m l) (upto-short m l) room k p fenced at) at)

  module _ (of : IsMark f.byte) (size : 1 ≤ f.size) where
    abbrev mark : ℕ → Bool
    mark b = is_mark f of b

    -- a closing fence has a mark, and behind the marks only white space
    close-parts : (l : List Seat) → closes g.options.constructs f (bytes_of l) ≡ true → (1 ≤ length (front mark (back is_white l))) × (is_blank_line (bytes_of (back mark (back is_white l))) ≡ true)
    close-parts l close =
        let b = back is_white l in
        let r = unindented (bytes_of l) in
        let behind : r ≡ bytes_of b = drop-bytes is_white l in
        let rest = and_parts (not (is_far g.options.constructs (bytes_of l))) (nat_le f.size (run f.byte r) && is_blank_line (drop (run f.byte r) r)) close in
        let (long, blank) = and_parts (nat_le f.size (run f.byte r)) (is_blank_line (drop (run f.byte r) r)) rest.1 in
        let count : length (front mark b) ≡ run f.byte r = length-front mark b ∙ ap (run f.byte) (sym behind) in
        let enough = leb-true f.size (run f.byte r) long in
        let left : drop (run f.byte r) r ≡ bytes_of (back mark b) = ap (λ r. drop (run f.byte r) r) behind ∙ drop-bytes mark b in
        (omega (arith, count, enough, size), ap is_blank_line (sym left) ∙ blank)

    pub closing-line : (l rest : List Seat) → LineEnds rest → closes g.options.constructs f (bytes_of l) ≡ true → (k : Configuration Unit Unit) (p : Point) → IsAt t k p (l ++ rest)
        → IsRead g t k RawFlowCloseBefore l rest (span_marks g.bytes CodeFencedFence l (sequence_marks g.bytes CodeFencedFenceSequence (run f.byte (unindented (bytes_of l))) l) ++ goes g t CodeFenced (end_after p l)) FlowAfter
    closing-line l rest ends close k p at =
        let u = front is_white l in
        let b = back is_white l in
        let v = back mark b in
        let (some, blank) = close-parts l close in
        let (s, sq, is) = has-first (front mark b) some in
        let whole : u ++ ((s ∷ sq) ++ v) ≡ l = ap (λ q. u ++ (q ++ v)) (sym is) ∙ ap (λ x. u ++ x) (front-back mark b) ∙ front-back is_white l in
        let inside = white g.bytes u ++ (leaf_marks g.bytes CodeFencedFenceSequence (s ∷ sq) ++ white g.bytes v) in
        let inside_is : inside ≡ sequence_marks g.bytes CodeFencedFenceSequence (run f.byte (unindented (bytes_of l))) l =
        ap (λ q. white g.bytes u ++ (leaf_marks g.bytes CodeFencedFenceSequence q ++ white g.bytes v)) (sym is) ∙ sym (sequence-fronts g.bytes CodeFencedFenceSequence mark l) in
        let marks = λ (l : List Seat) (inside : List Mark). span_marks g.bytes CodeFencedFence l inside ++ goes g t CodeFenced (end_after p l) in
        subst (λ inside. IsRead g t k RawFlowCloseBefore l rest (marks l inside) FlowAfter) inside_is
        (subst (λ l. IsAt t k p (l ++ rest) → IsRead g t k RawFlowCloseBefore l rest (marks l inside) FlowAfter) whole
        (λ at. closing-reads g t f of v rest (all-white v blank) ends u s sq (front-all is_white l) (subst (AllByRecursion (λ (s : Seat). mark s.byte ≡ true)) is (front-all mark b)) k p at) at)
