-- A line of fenced code is read: its indentation, and the rest.
use Rattle.mdblock_leaf_blocks.proofs.Prelude.{Bool, List, [], ap, arith, cond, false, inl, inr, le-ltb, length, lt-ltb, nat_lt, refl, subst, suc, true, ℕ, ◌++◌, ◌+◌, ◌-◌, ◌<◌, ◌==◌, ◌^◌, ◌∙◌, ◌∷◌, ◌≡◌, ◌≤◌, ◌⊎◌, AllByRecursion, Seat, end_after, CodeFlowChunk, SpaceOrTab, Point, Next, Retry, RawFlowAtNonLazyBreak, RawFlowBeforeContentChunk, RawFlowContentChunk, RawFlowContentStart, Configuration, Local, Sight, Given, Text, blank, flow_byte, is_blank, is_line_feed, count_becomes, count_grows, Mark, leaf_marks, white, Fence, IsInLine, LineEnds, is_white, one_more, Rows, consume, enter, exit, picked, row, when, write}
use Rattle.mdblock_leaf_blocks.proofs.Fenced.Steps.{IsOfFence, IsRead, KeepsFence, fence_kept, of-fence-kept}
use Rattle.mdblock_leaf_blocks.proofs.Lines.{Fails, Goes, IsAt, all-in-line, byte-then, comes, counted, fails-line, goes, goes-line, is_in_line, line-over, reads-on, row-takes-on, run-ends, seen, white-is-blank}
use Rattle.mdblock_leaf_blocks.proofs.Looks.ByteClasses.{blank-is, no-line-feed}

chunk_goes : Goes RawFlowContentChunk is_in_line (CodeFlowChunk ∷ []) RawFlowAtNonLazyBreak
chunk_goes = goes-line RawFlowContentChunk (CodeFlowChunk ∷ []) RawFlowAtNonLazyBreak (λ b. refl) (λ b c. refl)

-- behind so many columns comes nothing, or a byte that is no white space, or any, if the columns are those of the fence
abbrev pub IsCode : Fence → (columns : ℕ) → List Seat → Type 0
IsCode f n l = (n ≡ f.indent) ⊎ Fails is_white l

-- in a line, where no column is left, or no white space comes, the rest of the rows is meant
no-column : (g : Given) (s : Sight) (k : Configuration Unit Unit) (test : Given → Sight → Configuration Unit Unit → Bool) (over x y : Rows Unit Unit) (b : ℕ) → (b == 10) ≡ false → (test g s k ≡ false) ⊎ (is_white b ≡ false)
    → picked (cond (is_line_feed (flow_byte b)) over (cond (is_blank (flow_byte b)) (when test x y) y)) g s k ≡ picked y g s k
no-column g s k test over x y b feed (inl full) =
    ap (λ t. picked (cond t over (cond (is_blank (flow_byte b)) (when test x y) y)) g s k) (no-line-feed b feed)
    ∙ (elim (is_blank (flow_byte b)) as (λ t. picked (cond t (when test x y) y) g s k ≡ picked y g s k) [ true ↦ ap (λ t. cond t (picked x g s k) (picked y g s k)) full | false ↦ refl ])
no-column g s k test over x y b feed (inr dark) =
    ap (λ t. picked (cond t over (cond (is_blank (flow_byte b)) (when test x y) y)) g s k) (no-line-feed b feed) ∙ ap (λ t. picked (cond t (when test x y) y) g s k) (blank-is b ∙ dark)

module _ (g : Given) (t : Text) (f : Fence) where
  -- so many columns were read
  abbrev Counted : ℕ → (before after : Local Unit Unit) → Type 0
  Counted n before after = KeepsFence before after × (after.tokenize_state.space_or_tab_size ≡ n)

  counted-on : (n : ℕ) (a b c : Local Unit Unit) → Counted n a b → KeepsFence b c → KeepsFence a c
  counted-on n a b c h k = fence_kept.on a b c h.0 k

  chunk-reads : (l rest : List Seat) → IsInLine l → LineEnds rest → (k : Configuration Unit Unit) (p : Point) → IsAt t k p (l ++ rest) → IsRead g t k RawFlowContentChunk l rest (goes g t CodeFlowChunk (end_after p l)) RawFlowAtNonLazyBreak
  chunk-reads l rest all ends = run-ends g t fence_kept RawFlowContentChunk (CodeFlowChunk ∷ []) RawFlowAtNonLazyBreak is_in_line chunk_goes l rest (all-in-line l all) (fails-line is_in_line refl [] rest tt ends)

  -- whether columns are left, or not, by what comes
  column-left : (n : ℕ) (s : Seat) (c : List Seat) (local : Local Unit Unit) → IsOfFence f local → IsCode f n (s ∷ c) → (nat_lt n local.tokenize_state.size_c ≡ false) ⊎ (is_white s.byte ≡ false)
  column-left n s c local fenced (inl is) = let e = fenced.2 in inl (le-ltb n local.tokenize_state.size_c (omega (arith, e, is)))
  column-left n s c local fenced (inr dark) = inr dark

  abbrev inside_marks : Point → (u c : List Seat) → List Mark
  inside_marks p u c = goes g t SpaceOrTab (end_after p u) ++ leaf_marks g.bytes CodeFlowChunk c

  inside-reads : (u c rest : List Seat) (n : ℕ) → AllByRecursion (λ (s : Seat). is_white s.byte ≡ true) u → IsInLine c → LineEnds rest → IsCode f (n + length u) c → n + length u ≤ f.indent → f.indent < 2 ^ 64 - 1
      → (k : Configuration Unit Unit) (p : Point) → k.local.tokenize_state.space_or_tab_size ≡ n → IsOfFence f k.local → IsAt t k p ((u ++ c) ++ rest)
      → IsRead g t k RawFlowBeforeContentChunk (u ++ c) rest (inside_marks p u c) RawFlowAtNonLazyBreak
  inside-reads [] [] rest n all in_line ends code fits room k p count fenced at = line-over g t fence_kept RawFlowBeforeContentChunk (SpaceOrTab ∷ []) RawFlowAtNonLazyBreak (λ b. refl) (λ b. refl) k p rest ends at
  inside-reads [] (s ∷ c) rest n all in_line ends code fits room k p count fenced at =
      let e : n + 0 ≡ k.local.tokenize_state.space_or_tab_size = omega (arith, count) in
      byte-then g t fence_kept k p RawFlowBeforeContentChunk RawFlowContentChunk RawFlowAtNonLazyBreak s c rest (goes g t SpaceOrTab p ++ comes g t CodeFlowChunk s) (goes g t CodeFlowChunk (end_after s.end c)) at
      (row-takes-on g t KeepsFence k RawFlowBeforeContentChunk p s (c ++ rest) (flow_byte s.byte) (exit SpaceOrTab ∷ enter CodeFlowChunk ∷ consume ∷ []) RawFlowContentChunk at refl
      (no-column g (seen g t KeepsFence k RawFlowBeforeContentChunk p (s ∷ (c ++ rest))) (counted k) _ _ _ (row (exit SpaceOrTab ∷ enter CodeFlowChunk ∷ consume ∷ []) (Next RawFlowContentChunk)) s.byte in_line.0
      (column-left k.local.tokenize_state.space_or_tab_size s c k.local fenced (subst (λ n. IsCode f n (s ∷ c)) e code))) tt refl (fence_kept.same k.local))
      (λ k' at' kept. chunk-reads c rest in_line.1 ends k' s.end at')
  inside-reads (s ∷ u) c rest n all in_line ends code fits room k p count fenced at =
      let less : nat_lt k.local.tokenize_state.space_or_tab_size k.local.tokenize_state.size_c ≡ true =
      (let e = fenced.2 in lt-ltb k.local.tokenize_state.space_or_tab_size k.local.tokenize_state.size_c (omega (arith, e, count, fits))) in
      let grown : one_more k.local.tokenize_state.space_or_tab_size ≡ n + 1 = ap one_more count ∙ (omega (arith, fits, room)) in
      let e : n + suc (length u) ≡ (n + 1) + length u = omega arith in
      reads-on g t (Counted (n + 1)) KeepsFence KeepsFence (counted-on (n + 1)) k p RawFlowBeforeContentChunk RawFlowBeforeContentChunk (s ∷ []) (u ++ c) rest [] (inside_marks s.end u c) (Retry RawFlowAtNonLazyBreak) at
      (row-takes-on g t (Counted (n + 1)) k RawFlowBeforeContentChunk p s ((u ++ c) ++ rest) blank (write count_grows ∷ consume ∷ []) RawFlowBeforeContentChunk at (white-is-blank s.byte all.0) (rw less refl) tt refl ((refl, refl, refl, refl, refl), grown))
      (λ k' at' kept. inside-reads u c rest (n + 1) all.1 in_line ends (subst (λ n. IsCode f n c) e code) (omega (arith, fits)) room k' s.end kept.1 (of-fence-kept f k.local k'.local kept.0 fenced) at')

  -- A line of code: so much white space as the fence is indented by, at most, and the rest
  pub code-reads : (u c rest : List Seat) → AllByRecursion (λ (s : Seat). is_white s.byte ≡ true) u → IsInLine c → LineEnds rest → IsCode f (length u) c → length u ≤ f.indent → f.indent < 2 ^ 64 - 1
      → (k : Configuration Unit Unit) (p : Point) → IsOfFence f k.local → IsAt t k p ((u ++ c) ++ rest)
      → IsRead g t k RawFlowContentStart (u ++ c) rest (white g.bytes u ++ leaf_marks g.bytes CodeFlowChunk c) RawFlowAtNonLazyBreak
  code-reads [] [] rest all in_line ends code fits room k p fenced at = line-over g t fence_kept RawFlowContentStart [] RawFlowAtNonLazyBreak (λ b. refl) (λ b. refl) k p rest ends at
  code-reads [] (s ∷ c) rest all in_line ends code fits room k p fenced at =
      byte-then g t fence_kept k p RawFlowContentStart RawFlowContentChunk RawFlowAtNonLazyBreak s c rest (comes g t CodeFlowChunk s) (goes g t CodeFlowChunk (end_after s.end c)) at
      (row-takes-on g t KeepsFence k RawFlowContentStart p s (c ++ rest) (flow_byte s.byte) (enter CodeFlowChunk ∷ consume ∷ []) RawFlowContentChunk at refl
      (no-column g (seen g t KeepsFence k RawFlowContentStart p (s ∷ (c ++ rest))) (counted k) _ _ _ (row (enter CodeFlowChunk ∷ consume ∷ []) (Next RawFlowContentChunk)) s.byte in_line.0 (column-left 0 s c k.local fenced code)) tt refl (fence_kept.same k.local))
      (λ k' at' kept. chunk-reads c rest in_line.1 ends k' s.end at')
  code-reads (s ∷ u) c rest all in_line ends code fits room k p fenced at =
      let some : nat_lt 0 k.local.tokenize_state.size_c ≡ true = (let e = fenced.2 in lt-ltb 0 k.local.tokenize_state.size_c (omega (arith, e, fits))) in
      let e : suc (length u) ≡ 1 + length u = omega arith in
      reads-on g t (Counted 1) KeepsFence KeepsFence (counted-on 1) k p RawFlowContentStart RawFlowBeforeContentChunk (s ∷ []) (u ++ c) rest (comes g t SpaceOrTab s) (inside_marks s.end u c) (Retry RawFlowAtNonLazyBreak) at
      (row-takes-on g t (Counted 1) k RawFlowContentStart p s ((u ++ c) ++ rest) blank (enter SpaceOrTab ∷ write (count_becomes 1) ∷ consume ∷ []) RawFlowBeforeContentChunk at (white-is-blank s.byte all.0) (rw some refl) tt refl ((refl, refl, refl, refl, refl), refl))
      (λ k' at' kept. inside-reads u c rest 1 all.1 in_line ends (subst (λ n. IsCode f n c) e code) (omega (arith, fits)) room k' s.end kept.1 (of-fence-kept f k.local k'.local kept.0 fenced) at')
