-- The info string of an opening fence is read: its first word, and the others.
use Rattle.mdblock_leaf_blocks.proofs.Prelude.{is_line_feed, List, Some, [], ap, append_assoc, cond, refl, subst, sym, true, ℕ, ◌++◌, ◌∙◌, ◌∷◌, ◌≡◌, AllByRecursion, Seat, end_after, Enter, CodeFencedFence, CodeFencedFenceInfo, CodeFencedFenceMeta, Data, SpaceOrTab, Point, Next, Retry, RawFlowAtNonLazyBreak, RawFlowInfo, RawFlowInfoBefore, RawFlowMeta, RawFlowMetaBefore, Configuration, Given, Text, blank, flow_byte, is_blank, string_link, RawFlowInfoAfter, Mark, alone, chunk_span, span_marks, white, IsInLine, LineEnds, is_white, event, Rows, consume, enter, enter_link, exit, picked, row}
use Rattle.markdown_base.specs.declared.event.Content.TheVariants as content
use Rattle.mdblock_leaf_blocks.proofs.Fenced.Steps.{IsRead, KeepsFence, class-of-word, fence_kept, is_word}
use Rattle.mdblock_leaf_blocks.proofs.Lines.{Fails, Goes, IsAt, Runs, all-in-line, comes, counted, fails-line, goes, goes-by, goes-line, is_in_line, leaves, line-over, none-then, row-stays, row-takes-on, run-ends, run-from, run-on, seen, then, white-is-blank}
use Rattle.mdblock_leaf_blocks.proofs.Looks.ByteClasses.{blank-is, feed-is}

nothing-in-front : (a b : List Seat) → a ++ b ≡ [] → a ≡ []
nothing-in-front [] b h = refl
nothing-in-front (s ∷ a) b h = absurd (cc)

white_goes : Goes RawFlowInfoAfter is_white (SpaceOrTab ∷ []) RawFlowMetaBefore
white_goes = goes-by RawFlowInfoAfter (SpaceOrTab ∷ []) RawFlowMetaBefore (λ b. refl) is_blank is_white (λ b c. refl) blank-is

meta_goes : Goes RawFlowMeta is_in_line (Data ∷ CodeFencedFenceMeta ∷ CodeFencedFence ∷ []) RawFlowAtNonLazyBreak
meta_goes = goes-line RawFlowMeta (Data ∷ CodeFencedFenceMeta ∷ CodeFencedFence ∷ []) RawFlowAtNonLazyBreak (λ b. refl) (λ b c. refl)

-- at a byte of a word the rest of the rows is meant
by-word : (b : ℕ) (x y z : Rows Unit Unit) → is_word b ≡ true → cond (is_line_feed (flow_byte b)) x (cond (is_blank (flow_byte b)) y z) ≡ z
by-word b x y z h = let (no_feed, no_blank) = class-of-word b h in ap (λ t. cond t x (cond (is_blank (flow_byte b)) y z)) no_feed ∙ ap (λ t. cond t y z) no_blank

word_runs : Runs RawFlowInfo is_word
word_runs b c word = by-word c _ _ (row (consume ∷ []) (Next RawFlowInfo)) word

module _ (g : Given) (t : Text) where
  -- the further words
  abbrev pub meta_marks : List Seat → List Mark
  meta_marks l = span_marks g.bytes CodeFencedFenceMeta l (chunk_span g.bytes (alone content.String) Data l [])

  -- a chunk begins
  abbrev into_data : Seat → List Mark
  into_data s = (event g.bytes Enter Data s.point, alone content.String) ∷ []

  abbrev fence_ends : Point → List Mark
  fence_ends p = goes g t CodeFencedFence p

  meta-reads : (l rest : List Seat) → IsInLine l → LineEnds rest → (k : Configuration Unit Unit) (p : Point) → IsAt t k p (l ++ rest)
      → IsRead g t k RawFlowMetaBefore l rest (meta_marks l ++ fence_ends (end_after p l)) RawFlowAtNonLazyBreak
  meta-reads [] rest all ends k p at = line-over g t fence_kept RawFlowMetaBefore (CodeFencedFence ∷ []) RawFlowAtNonLazyBreak (λ b. refl) (λ b. refl) k p rest ends at
  meta-reads (s ∷ ss) rest all ends k p at =
      let begins : Rows Unit Unit = row (enter CodeFencedFenceMeta ∷ enter_link Data string_link ∷ []) (Retry RawFlowMeta) in
      let over : Rows Unit Unit = row (exit CodeFencedFence ∷ []) (Retry RawFlowAtNonLazyBreak) in
      none-then g t fence_kept k p RawFlowMetaBefore RawFlowMeta RawFlowAtNonLazyBreak (s ∷ ss) rest (comes g t CodeFencedFenceMeta s ++ into_data s) (leaves g (Data ∷ CodeFencedFenceMeta ∷ CodeFencedFence ∷ []) (end_after s.end ss)) at
      (row-stays g t KeepsFence k RawFlowMetaBefore p (s ∷ (ss ++ rest)) (Some (flow_byte s.byte)) (enter CodeFencedFenceMeta ∷ enter_link Data string_link ∷ []) (Retry RawFlowMeta) at refl
      (ap (λ b. picked (cond b over begins) g (seen g t KeepsFence k RawFlowMetaBefore p (s ∷ (ss ++ rest))) (counted k)) (feed-is s.byte ∙ all.0)) (refl, tt) refl refl (fence_kept.same k.local))
      (λ k' at' kept. run-ends g t fence_kept RawFlowMeta (Data ∷ CodeFencedFenceMeta ∷ CodeFencedFence ∷ []) RawFlowAtNonLazyBreak is_in_line meta_goes (s ∷ ss) rest (all-in-line (s ∷ ss) all) (fails-line is_in_line refl [] rest tt ends) k' p at')

  -- behind the first word: white space, and the further words
  abbrev word_ends : Point → List Mark
  word_ends p = leaves g (Data ∷ CodeFencedFenceInfo ∷ []) p

  behind-word : (w m rest : List Seat) → AllByRecursion (λ (s : Seat). is_white s.byte ≡ true) w → IsInLine m → LineEnds rest → Fails is_white (m ++ rest) → (w ≡ [] → m ≡ []) → (k : Configuration Unit Unit) (p : Point)
      → IsAt t k p ((w ++ m) ++ rest) → IsRead g t k RawFlowInfo (w ++ m) rest (word_ends p ++ (white g.bytes w ++ (meta_marks m ++ fence_ends (end_after p (w ++ m))))) RawFlowAtNonLazyBreak
  behind-word [] m rest all in_line ends stops none k p at =
      subst (λ m. IsAt t k p (m ++ rest) → IsRead g t k RawFlowInfo m rest (word_ends p ++ (meta_marks m ++ fence_ends (end_after p m))) RawFlowAtNonLazyBreak) (sym (none refl))
      (line-over g t fence_kept RawFlowInfo (Data ∷ CodeFencedFenceInfo ∷ CodeFencedFence ∷ []) RawFlowAtNonLazyBreak (λ b. refl) (λ b. refl) k p rest ends) at
  behind-word (s ∷ w) m rest all in_line ends stops none k p at =
      then g t fence_kept k p RawFlowInfo RawFlowMetaBefore RawFlowAtNonLazyBreak (s ∷ w) m ((s ∷ w) ++ m) rest refl (word_ends p ++ white g.bytes (s ∷ w)) (λ q. meta_marks m ++ fence_ends q) at
      (λ at'. run-from g t fence_kept RawFlowInfoAfter (SpaceOrTab ∷ []) RawFlowMetaBefore is_white white_goes RawFlowInfo (word_ends p ++ comes g t SpaceOrTab s) s w (m ++ rest) all.1 stops k p at'
      (row-takes-on g t KeepsFence k RawFlowInfo p s (w ++ (m ++ rest)) blank (exit Data ∷ exit CodeFencedFenceInfo ∷ enter SpaceOrTab ∷ consume ∷ []) RawFlowInfoAfter at' (white-is-blank s.byte all.0) refl tt refl (fence_kept.same k.local)))
      (λ k' at' kept. meta-reads m rest in_line ends k' (end_after p (s ∷ w)) at')

  abbrev pub info_marks : (i w m : List Seat) → List Mark
  info_marks i w m = span_marks g.bytes CodeFencedFenceInfo i (chunk_span g.bytes (alone content.String) Data i []) ++ (white g.bytes w ++ meta_marks m)

  pub info-reads : (i w m rest : List Seat) → AllByRecursion (λ (s : Seat). is_word s.byte ≡ true) i → AllByRecursion (λ (s : Seat). is_white s.byte ≡ true) w → IsInLine m → LineEnds rest → Fails is_white (m ++ rest) → (w ≡ [] → m ≡ [])
      → (i ≡ [] → w ++ m ≡ []) → (k : Configuration Unit Unit) (p : Point) → IsAt t k p ((i ++ (w ++ m)) ++ rest)
      → IsRead g t k RawFlowInfoBefore (i ++ (w ++ m)) rest (info_marks i w m ++ fence_ends (end_after p (i ++ (w ++ m)))) RawFlowAtNonLazyBreak
  info-reads [] w m rest words all in_line ends stops none nothing k p at =
      let w_none : w ≡ [] = nothing-in-front w m (nothing refl) in
      subst (λ w. IsAt t k p ((w ++ m) ++ rest) → IsRead g t k RawFlowInfoBefore (w ++ m) rest ((white g.bytes w ++ meta_marks m) ++ fence_ends (end_after p (w ++ m))) RawFlowAtNonLazyBreak) (sym w_none)
      (subst (λ m. IsAt t k p (m ++ rest) → IsRead g t k RawFlowInfoBefore m rest (meta_marks m ++ fence_ends (end_after p m)) RawFlowAtNonLazyBreak) (sym (none w_none))
      (line-over g t fence_kept RawFlowInfoBefore (CodeFencedFence ∷ []) RawFlowAtNonLazyBreak (λ b. refl) (λ b. refl) k p rest ends)) at
  info-reads (s ∷ i) w m rest words all in_line ends stops none nothing k p at =
      let l = (s ∷ i) ++ (w ++ m) in
      let q = end_after s.end i in
      let first = comes g t CodeFencedFenceInfo s ++ into_data s in
      let last = λ (z : Point). word_ends q ++ (white g.bytes w ++ (meta_marks m ++ fence_ends z)) in
      subst (λ ms. IsRead g t k RawFlowInfoBefore l rest (first ++ (word_ends q ++ ms)) RawFlowAtNonLazyBreak) (sym (append_assoc (white g.bytes w) (meta_marks m) (fence_ends (end_after p l))))
      (none-then g t fence_kept k p RawFlowInfoBefore RawFlowInfo RawFlowAtNonLazyBreak l rest first (last (end_after p l)) at
      (row-stays g t KeepsFence k RawFlowInfoBefore p (l ++ rest) (Some (flow_byte s.byte)) (enter CodeFencedFenceInfo ∷ enter_link Data string_link ∷ []) (Retry RawFlowInfo) at refl
      (ap (λ r. picked r g (seen g t KeepsFence k RawFlowInfoBefore p (l ++ rest)) (counted k)) (by-word s.byte _ _ (row (enter CodeFencedFenceInfo ∷ enter_link Data string_link ∷ []) (Retry RawFlowInfo)) words.0)) (refl, tt) refl refl (fence_kept.same k.local))
      (λ k' at' kept. then g t fence_kept k' p RawFlowInfo RawFlowInfo RawFlowAtNonLazyBreak (s ∷ i) (w ++ m) l rest refl [] last at'
      (λ at''. run-on g t fence_kept RawFlowInfo is_word word_runs (s ∷ i) ((w ++ m) ++ rest) words k' p at'')
      (λ k'' at'' kept'. behind-word w m rest all in_line ends stops none k'' q at'')))
