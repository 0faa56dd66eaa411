-- The opening fence is read.
use Rattle.mdblock_leaf_blocks.proofs.Prelude.{List, None, Some, [], ap, append_assoc, cond, false, refl, subst, sym, true, ◌++◌, ◌==◌, ◌∙◌, ◌∷◌, ◌≡◌, AllByRecursion, Seat, end_after, CodeFenced, CodeFencedFence, CodeFencedFenceSequence, SpaceOrTab, Point, Next, Retry, FlowBlankLineAfter, RawFlowAtNonLazyBreak, RawFlowBeforeSequenceOpen, RawFlowInfoBefore, RawFlowSequenceOpen, RawFlowStart, Configuration, Given, Text, blank, flow_byte, is_blank, is_fence, at_mark, Mark, leaf_marks, span_marks, white, Fence, IsInLine, LineEnds, is_white, Rows, consume, enter, exit, picked, row, when}
use Rattle.mdblock_leaf_blocks.proofs.Fenced.Info.{info-reads, info_marks}
use Rattle.mdblock_leaf_blocks.proofs.Fenced.Steps.{IsMark, IsOfFence, IsRead, KeepsFence, fence_kept, is_mark, is_word, mark-class, of-fence, of-fence-kept, takes-mark}
use Rattle.mdblock_leaf_blocks.proofs.Lines.{Fails, Goes, IsAt, byte-then, comes, counted, goes, goes-by, row-ends, row-stays, row-takes-on, run-on, seen, then, white-is-blank, white-piece, white-runs}
use Rattle.mdblock_leaf_blocks.proofs.Looks.ByteClasses.{blank-is}

white_goes : Goes RawFlowBeforeSequenceOpen is_white (SpaceOrTab ∷ []) RawFlowInfoBefore
white_goes = goes-by RawFlowBeforeSequenceOpen (SpaceOrTab ∷ []) RawFlowInfoBefore (λ b. refl) is_blank is_white (λ b c. refl) blank-is

-- where white space before a byte begins, or that byte
abbrev pub start_of : List Seat → Seat → Seat
start_of [] s = s
start_of (s ∷ u) _ = s

module _ (g : Given) (t : Text) (f : Fence) (of : IsMark f.byte) where
  -- the marks
  sequence-reads : (sq rest : List Seat) → AllByRecursion (λ (s : Seat). is_mark f of s.byte ≡ true) sq → Fails (is_mark f of) rest → (k : Configuration Unit Unit) (p : Point) → IsOfFence f k.local → IsAt t k p (sq ++ rest)
      → IsRead g t k RawFlowSequenceOpen sq rest (goes g t CodeFencedFenceSequence (end_after p sq)) RawFlowInfoBefore
  sequence-reads [] [] all stops k p fenced at = row-ends g t fence_kept RawFlowSequenceOpen (CodeFencedFenceSequence ∷ []) RawFlowInfoBefore k p [] None at refl (λ b. refl)
  sequence-reads [] (s ∷ rest) all stops k p fenced at =
      let on : Rows Unit Unit = row (consume ∷ []) (Next RawFlowSequenceOpen) in
      let over : Rows Unit Unit = row (exit CodeFencedFenceSequence ∷ []) (Retry RawFlowInfoBefore) in
      let pick = λ (r : Rows Unit Unit). picked r g (seen g t KeepsFence k RawFlowSequenceOpen p (s ∷ rest)) (counted k) in
      row-stays g t KeepsFence k RawFlowSequenceOpen p (s ∷ rest) (Some (flow_byte s.byte)) (exit CodeFencedFenceSequence ∷ []) (Retry RawFlowInfoBefore) at refl
      (elim (is_fence (flow_byte s.byte)) as (λ b. pick (cond b (when at_mark on over) over) ≡ pick over) [
        | true ↦ ap (λ b. cond b (pick on) (pick over)) (ap (λ m. s.byte == m) fenced.0 ∙ stops)
        | false ↦ refl
      ]) tt refl refl (fence_kept.same k.local)
  sequence-reads (s ∷ sq) rest all stops k p fenced at =
      let on : Rows Unit Unit = row (consume ∷ []) (Next RawFlowSequenceOpen) in
      let over : Rows Unit Unit = row (exit CodeFencedFenceSequence ∷ []) (Retry RawFlowInfoBefore) in
      let pick = λ (r : Rows Unit Unit). picked r g (seen g t KeepsFence k RawFlowSequenceOpen p (s ∷ (sq ++ rest))) (counted k) in
      byte-then g t fence_kept k p RawFlowSequenceOpen RawFlowSequenceOpen RawFlowInfoBefore s sq rest [] (goes g t CodeFencedFenceSequence (end_after s.end sq)) at
      (row-takes-on g t KeepsFence k RawFlowSequenceOpen p s (sq ++ rest) (flow_byte s.byte) (consume ∷ []) RawFlowSequenceOpen at refl
      (ap (λ b. pick (cond b (when at_mark on over) over)) (mark-class s.byte (of-fence f of s.byte all.0)).4 ∙ ap (λ b. cond b (pick on) (pick over)) (ap (λ m. s.byte == m) fenced.0 ∙ all.0)) tt refl (fence_kept.same k.local))
      (λ k' at' kept. sequence-reads sq rest all.1 stops k' s.end (of-fence-kept f k.local k'.local kept fenced) at')

  -- the parts of a line behind its marks: white space, a word, white space, and the rest
  pub record IsInfo (v i w m rest : List Seat) : Type 0 where
    pub white_before : AllByRecursion (λ (s : Seat). is_white s.byte ≡ true) v
    pub word : AllByRecursion (λ (s : Seat). is_word s.byte ≡ true) i
    pub white_behind : AllByRecursion (λ (s : Seat). is_white s.byte ≡ true) w
    pub in_line : IsInLine m
    pub ends : LineEnds rest
    pub word_first : Fails is_white ((i ++ (w ++ m)) ++ rest)
    pub words_then : Fails is_white (m ++ rest)
    pub no_white : w ≡ [] → m ≡ []
    pub no_word : i ≡ [] → w ++ m ≡ []

  module _ (v i w m rest : List Seat) (h : IsInfo v i w m rest) where
    abbrev info : List Seat
    info = v ++ (i ++ (w ++ m))

    -- white space before the info string, and it
    abbrev pub info_from : List Mark
    info_from = white g.bytes v ++ info_marks g t i w m

    abbrev fence_ends : Point → List Mark
    fence_ends p = goes g t CodeFencedFence p

    from-info : (k : Configuration Unit Unit) (p : Point) → IsAt t k p (info ++ rest) → IsRead g t k RawFlowInfoBefore info rest (info_from ++ fence_ends (end_after p info)) RawFlowAtNonLazyBreak
    from-info k p at =
        subst (λ ms. IsRead g t k RawFlowInfoBefore info rest ms RawFlowAtNonLazyBreak) (sym (append_assoc (white g.bytes v) (info_marks g t i w m) (fence_ends (end_after p info))))
        (then g t fence_kept k p RawFlowInfoBefore RawFlowInfoBefore RawFlowAtNonLazyBreak v (i ++ (w ++ m)) info rest refl (white g.bytes v) (λ q. info_marks g t i w m ++ fence_ends q) at
        (λ at'. white-piece g t fence_kept RawFlowInfoBefore RawFlowBeforeSequenceOpen white_goes (λ b. refl) v ((i ++ (w ++ m)) ++ rest) h.white_before h.word_first k p at')
        (λ k' at' kept. info-reads g t i w m rest h.word h.white_behind h.in_line h.ends h.words_then h.no_white h.no_word k' (end_after p v) at'))

    -- the marks, from the second one on, and the info string
    abbrev marks_behind : Point → List Seat → Point → List Mark
    marks_behind p sq z = goes g t CodeFencedFenceSequence (end_after p sq) ++ (info_from ++ fence_ends z)

    marks-read : (sq : List Seat) → AllByRecursion (λ (s : Seat). is_mark f of s.byte ≡ true) sq → Fails (is_mark f of) (info ++ rest) → (k : Configuration Unit Unit) (p : Point) → IsOfFence f k.local → IsAt t k p ((sq ++ info) ++ rest)
        → IsRead g t k RawFlowSequenceOpen (sq ++ info) rest (marks_behind p sq (end_after p (sq ++ info))) RawFlowAtNonLazyBreak
    marks-read sq all stops k p fenced at =
        then g t fence_kept k p RawFlowSequenceOpen RawFlowInfoBefore RawFlowAtNonLazyBreak sq info (sq ++ info) rest refl (goes g t CodeFencedFenceSequence (end_after p sq)) (λ q. info_from ++ fence_ends q) at
        (λ at'. sequence-reads sq (info ++ rest) all stops k p fenced at') (λ k' at' kept. from-info k' (end_after p sq) at')

    -- the fence at the beginning of its line
    abbrev pub fence_line : List Seat → Seat → List Seat → List Seat
    fence_line u s sq = u ++ (s ∷ (sq ++ info))

    abbrev pub opening : List Seat → Seat → List Seat → List Mark
    opening u s sq = comes g t CodeFenced (start_of u s) ++ span_marks g.bytes CodeFencedFence (fence_line u s sq) (white g.bytes u ++ (leaf_marks g.bytes CodeFencedFenceSequence (s ∷ sq) ++ info_from))

    pub opening-reads : (u : List Seat) (s : Seat) (sq : List Seat) → AllByRecursion (λ (s : Seat). is_white s.byte ≡ true) u → AllByRecursion (λ (s : Seat). is_mark f of s.byte ≡ true) (s ∷ sq) → Fails (is_mark f of) (info ++ rest)
        → (k : Configuration Unit Unit) (p : Point) → k.local.tokenize_state.token_1 ≡ CodeFenced → IsOfFence f k.local → IsAt t k p (fence_line u s sq ++ rest)
        → IsRead g t k FlowBlankLineAfter (fence_line u s sq) rest (opening u s sq) RawFlowAtNonLazyBreak
    opening-reads [] s sq all marks stops k p kind fenced at =
        byte-then g t fence_kept k p FlowBlankLineAfter RawFlowSequenceOpen RawFlowAtNonLazyBreak s (sq ++ info) rest (comes g t CodeFenced s ++ (comes g t CodeFencedFence s ++ comes g t CodeFencedFenceSequence s))
        (marks_behind s.end sq (end_after s.end (sq ++ info))) at
        (takes-mark g t FlowBlankLineAfter RawFlowSequenceOpen (enter CodeFenced ∷ enter CodeFencedFence ∷ enter CodeFencedFenceSequence ∷ consume ∷ []) (λ b. refl) (λ b. refl) tt refl k p s ((sq ++ info) ++ rest) (of-fence f of s.byte marks.0) at (fence_kept.same k.local))
        (λ k' at' kept. marks-read sq marks.1 stops k' s.end (of-fence-kept f k.local k'.local kept fenced) at')
    opening-reads (b ∷ u) s sq all marks stops k p kind fenced at =
        let l = s ∷ (sq ++ info) in
        let q = end_after b.end u in
        let first = comes g t CodeFenced b ++ (comes g t CodeFencedFence b ++ comes g t SpaceOrTab b) in
        let last = λ (z : Point). (goes g t SpaceOrTab q ++ comes g t CodeFencedFenceSequence s) ++ marks_behind s.end sq z in
        then g t fence_kept k p FlowBlankLineAfter RawFlowStart RawFlowAtNonLazyBreak (b ∷ u) l ((b ∷ u) ++ l) rest refl first last at
        (λ at'. byte-then g t fence_kept k p FlowBlankLineAfter RawFlowStart RawFlowStart b u (l ++ rest) first [] at'
        (row-takes-on g t KeepsFence k FlowBlankLineAfter p b (u ++ (l ++ rest)) blank (enter CodeFenced ∷ enter CodeFencedFence ∷ enter SpaceOrTab ∷ consume ∷ []) RawFlowStart at' (white-is-blank b.byte all.0) (rw kind refl) tt refl (fence_kept.same k.local))
        (λ k' at'' kept. run-on g t fence_kept RawFlowStart is_white (white-runs RawFlowStart (λ b. refl)) u (l ++ rest) all.1 k' b.end at''))
        (λ k' at' kept. byte-then g t fence_kept k' q RawFlowStart RawFlowSequenceOpen RawFlowAtNonLazyBreak s (sq ++ info) rest (goes g t SpaceOrTab q ++ comes g t CodeFencedFenceSequence s) (marks_behind s.end sq (end_after s.end (sq ++ info))) at'
        (takes-mark g t RawFlowStart RawFlowSequenceOpen (exit SpaceOrTab ∷ enter CodeFencedFenceSequence ∷ consume ∷ []) (λ b. refl) (λ b. refl) tt refl k' q s ((sq ++ info) ++ rest) (of-fence f of s.byte marks.0) at' (fence_kept.same k'.local))
        (λ k'' at'' kept'. marks-read sq marks.1 stops k'' s.end (of-fence-kept f k'.local k''.local kept' (of-fence-kept f k.local k'.local kept fenced)) at''))
