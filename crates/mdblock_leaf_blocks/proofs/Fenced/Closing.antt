-- The closing fence is read.
use Rattle.mdblock_leaf_blocks.proofs.Prelude.{Bool, List, [], ap, append_assoc, refl, subst, sym, true, ℕ, ◌++◌, ◌∷◌, ◌≡◌, AllByRecursion, Seat, end_after, CodeFenced, CodeFencedFence, CodeFencedFenceSequence, SpaceOrTab, Point, Name, FlowAfter, Configuration, Given, Text, blank, flow_byte, is_blank, is_fence, RawFlowCloseBefore, RawFlowCloseBetween, RawFlowCloseBlank, RawFlowCloseSequence, Mark, leaf_marks, span_marks, white, Fence, LineEnds, is_white, consume, enter}
use Rattle.mdblock_leaf_blocks.proofs.Fenced.Steps.{IsMark, IsRead, KeepsFence, fence_kept, is_mark, mark-class, of-fence, takes-mark}
use Rattle.mdblock_leaf_blocks.proofs.Lines.{Fails, Goes, IsAt, comes, fails-line, goes, goes-by, leaves, line-over, row-takes-on, run-from, then, then-ends, white-is-blank, white-piece}
use Rattle.mdblock_leaf_blocks.proofs.Looks.ByteClasses.{blank-is}

white_goes : Goes RawFlowCloseBlank is_white (SpaceOrTab ∷ []) RawFlowCloseBetween
white_goes = goes-by RawFlowCloseBlank (SpaceOrTab ∷ []) RawFlowCloseBetween (λ b. refl) is_blank is_white (λ b c. refl) blank-is

abbrev is_fence_byte : ℕ → Bool
is_fence_byte b = is_fence (flow_byte b)

marks_go : Goes RawFlowCloseSequence is_fence_byte (CodeFencedFenceSequence ∷ []) RawFlowCloseBetween
marks_go = goes-by RawFlowCloseSequence (CodeFencedFenceSequence ∷ []) RawFlowCloseBetween (λ b. refl) is_fence is_fence_byte (λ b c. refl) (λ c. refl)

white-no-fence : (v : List Seat) → AllByRecursion (λ (s : Seat). is_white s.byte ≡ true) v → Fails is_fence_byte v
white-no-fence [] all = tt
white-no-fence (s ∷ v) all = ap is_fence (white-is-blank s.byte all.0)

module _ (g : Given) (t : Text) (f : Fence) (of : IsMark f.byte) where
  all-fences : (sq : List Seat) → AllByRecursion (λ (s : Seat). is_mark f of s.byte ≡ true) sq → AllByRecursion (λ (s : Seat). is_fence_byte s.byte ≡ true) sq
  all-fences [] all = tt
  all-fences (s ∷ sq) all = ((mark-class s.byte (of-fence f of s.byte all.0)).4, all-fences sq all.1)

  module _ (v rest : List Seat) (all : AllByRecursion (λ (s : Seat). is_white s.byte ≡ true) v) (ends : LineEnds rest) where
    -- white space behind the marks, and the end of the fence and of the block
    abbrev closed : Point → List Mark
    closed q = (white g.bytes v ++ goes g t CodeFencedFence q) ++ goes g t CodeFenced q

    white-ends : (k : Configuration Unit Unit) (p : Point) → IsAt t k p (v ++ rest) → IsRead g t k RawFlowCloseBetween v rest (closed (end_after p v)) FlowAfter
    white-ends k p at =
        let q = end_after p v in
        subst (λ ms. IsRead g t k RawFlowCloseBetween v rest ms FlowAfter) (sym (append_assoc (white g.bytes v) (goes g t CodeFencedFence q) (goes g t CodeFenced q)))
        (then-ends g t fence_kept k p RawFlowCloseBetween RawFlowCloseBetween FlowAfter v rest (white g.bytes v) (leaves g (CodeFencedFence ∷ CodeFenced ∷ []) q) at
        (white-piece g t fence_kept RawFlowCloseBetween RawFlowCloseBlank white_goes (λ b. refl) v rest all (fails-line is_white refl [] rest tt ends) k p at)
        (λ k' at' kept. line-over g t fence_kept RawFlowCloseBetween (CodeFencedFence ∷ CodeFenced ∷ []) FlowAfter (λ b. refl) (λ b. refl) k' q rest ends at'))

    -- a first mark, and what is behind it
    mark-then : (from : Name) (marks : List Mark) (s : Seat) (sq : List Seat) → AllByRecursion (λ (s : Seat). is_mark f of s.byte ≡ true) sq → (k : Configuration Unit Unit) (p : Point) → IsAt t k p (((s ∷ sq) ++ v) ++ rest)
        → (IsAt t k p (s ∷ (sq ++ (v ++ rest))) → IsRead g t k from (s ∷ []) (sq ++ (v ++ rest)) marks RawFlowCloseSequence)
        → IsRead g t k from ((s ∷ sq) ++ v) rest ((marks ++ goes g t CodeFencedFenceSequence (end_after s.end sq)) ++ closed (end_after p ((s ∷ sq) ++ v))) FlowAfter
    mark-then from marks s sq fences k p at first =
        then g t fence_kept k p from RawFlowCloseBetween FlowAfter (s ∷ sq) v ((s ∷ sq) ++ v) rest refl (marks ++ goes g t CodeFencedFenceSequence (end_after s.end sq)) closed at
        (λ at'. run-from g t fence_kept RawFlowCloseSequence (CodeFencedFenceSequence ∷ []) RawFlowCloseBetween is_fence_byte marks_go from marks s sq (v ++ rest) (all-fences sq fences)
        (fails-line is_fence_byte refl v rest (white-no-fence v all) ends) k p at' (first at'))
        (λ k' at' kept. white-ends k' (end_after p (s ∷ sq)) at')

    -- The whole of it: white space, marks and white space
    abbrev pub closing_line : (u : List Seat) → Seat → (sq : List Seat) → List Seat
    closing_line u s sq = u ++ ((s ∷ sq) ++ v)

    abbrev pub closing_marks : (u : List Seat) → Seat → (sq : List Seat) → List Mark
    closing_marks u s sq = span_marks g.bytes CodeFencedFence (closing_line u s sq) (white g.bytes u ++ (leaf_marks g.bytes CodeFencedFenceSequence (s ∷ sq) ++ white g.bytes v))

    pub closing-reads : (u : List Seat) (s : Seat) (sq : List Seat) → AllByRecursion (λ (s : Seat). is_white s.byte ≡ true) u → AllByRecursion (λ (s : Seat). is_mark f of s.byte ≡ true) (s ∷ sq) → (k : Configuration Unit Unit) (p : Point)
        → IsAt t k p (closing_line u s sq ++ rest) → IsRead g t k RawFlowCloseBefore (closing_line u s sq) rest (closing_marks u s sq ++ goes g t CodeFenced (end_after p (closing_line u s sq))) FlowAfter
    closing-reads [] s sq before marks k p at =
        mark-then RawFlowCloseBefore (comes g t CodeFencedFence s ++ comes g t CodeFencedFenceSequence s) s sq marks.1 k p at
        (λ at'. takes-mark g t RawFlowCloseBefore RawFlowCloseSequence (enter CodeFencedFence ∷ enter CodeFencedFenceSequence ∷ consume ∷ []) (λ b. refl) (λ b. refl) tt refl k p s (sq ++ (v ++ rest)) (of-fence f of s.byte marks.0) at' (fence_kept.same k.local))
    closing-reads (b ∷ u) s sq before marks k p at =
        let l = (s ∷ sq) ++ v in
        let first = comes g t CodeFencedFence b ++ comes g t SpaceOrTab b in
        then g t fence_kept k p RawFlowCloseBefore RawFlowCloseBetween FlowAfter (b ∷ u) l ((b ∷ u) ++ l) rest refl (first ++ goes g t SpaceOrTab (end_after b.end u))
        (λ z. (comes g t CodeFencedFenceSequence s ++ goes g t CodeFencedFenceSequence (end_after s.end sq)) ++ closed z) at
        (λ at'. run-from g t fence_kept RawFlowCloseBlank (SpaceOrTab ∷ []) RawFlowCloseBetween is_white white_goes RawFlowCloseBefore first b u (l ++ rest) before.1 (mark-class s.byte (of-fence f of s.byte marks.0)).1 k p at'
        (row-takes-on g t KeepsFence k RawFlowCloseBefore p b (u ++ (l ++ rest)) blank (enter CodeFencedFence ∷ enter SpaceOrTab ∷ consume ∷ []) RawFlowCloseBlank at' (white-is-blank b.byte before.0) refl tt refl (fence_kept.same k.local)))
        (λ k' at' kept. mark-then RawFlowCloseBetween (comes g t CodeFencedFenceSequence s) s sq marks.1 k' (end_after p (b ∷ u)) at'
        (λ at''. takes-mark g t RawFlowCloseBetween RawFlowCloseSequence (enter CodeFencedFenceSequence ∷ consume ∷ []) (λ b. refl) (λ b. refl) tt refl k' (end_after p (b ∷ u)) s (sq ++ (v ++ rest)) (of-fence f of s.byte marks.0) at'' (fence_kept.same k'.local)))
