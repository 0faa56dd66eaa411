-- ATX headings are read as their definition says.
use Rattle.mdblock_leaf_blocks.proofs.Prelude.{List, [], ap, append-nil, append_assoc, arith, drop, false, length, length-append, nat_le, refl, subst, suc, sym, take, true, ℕ, ◌++◌, ◌+◌, ◌-◌, ◌<◌, ◌^◌, ◌∙◌, ◌∷◌, ◌≡◌, ◌≤◌, and_parts, eqb-true, leb-true, length-drop, length-take-le, take-append-drop, AllByRecursion, end-after-append, Seat, end_after, Enter, Data, HeadingAtx, HeadingAtxSequence, HeadingAtxText, SpaceOrTab, Point, Name, Retry, FlowAfter, FlowBlankLineAfter, HeadingAtxAtBreak, HeadingAtxBefore, HeadingAtxData, HeadingAtxSequenceOpen, HeadingAtxStart, Configuration, Local, end_place, Given, Text, HeadingsAreRead, IsReadAs, KeepsEdits, bytes_of, text_of, Mark, alone, heading_marks, leaf_marks, span_marks, white, heading_text, is_atx_heading, run, unindented, IsInLine, LineEnds, text_behind_signs, is_white, all_of, ending_of, line_text, event}
use Rattle.markdown_base.specs.declared.event.Content.TheVariants as content
use Rattle.mdblock_leaf_blocks.proofs.Lines.{Fails, IsAt, IsUnwritten, IsWhite, Keeping, Reads, all-back, all_kept, at-first, back, back-fails, byte-then, comes, drop-bytes, edits_kept, fails-line, first-parts, front, front-all, front-back, goes, in-line-behind, in-line-front, keeps-on, length-back, line-over, prefix-front, reads-end, reads-keeping, reads-nothing, reads-on, reads-parts, run-from, run-on, run-piece, says, then, then-ends, unwritten-keeps, white-piece, white-runs}
use Rattle.mdblock_leaf_blocks.proofs.Blocks.HeadingCalls.{BehindText, InText, begins-sign, begins-white, signs-begin, signs_go, start-sign, text-begins, text-ends, text-on, white_goes}
use Rattle.mdblock_leaf_blocks.proofs.Blocks.HeadingParts.{IsSign, heading-parts, sequence-fronts, signs_behind, text-is, text_span}
use Rattle.mdblock_leaf_blocks.proofs.Looks.HeadingTexts.{is_sign}

module _ (g : Given) (t : Text) where
  abbrev IsRead : Configuration Unit Unit → Name → (line rest : List Seat) → List Mark → Name → Type 0
  IsRead = Reads g t all_kept

  white-space : (run rest : List Seat) → AllByRecursion IsWhite run → Fails is_white rest → (k : Configuration Unit Unit) (p : Point) → IsAt t k p (run ++ rest) → IsRead k HeadingAtxAtBreak run rest (white g.bytes run) HeadingAtxAtBreak
  white-space = white-piece g t all_kept HeadingAtxAtBreak HeadingAtxBefore white_goes (λ b. refl)

  -- ---- the opening sequence
  abbrev first_mark : List Seat → List Mark
  first_mark [] = []
  first_mark (s ∷ ss) = comes g t HeadingAtx s

  opening : (a b : List Seat) → AllByRecursion IsWhite a → AllByRecursion IsSign b → 1 ≤ length b → (k : Configuration Unit Unit) (p : Point) (rest : List Seat) → k.local.tokenize_state.token_1 ≡ HeadingAtx → Fails is_sign rest
      → IsAt t k p ((a ++ b) ++ rest) → IsRead k FlowBlankLineAfter (a ++ b) rest (first_mark (a ++ b) ++ (white g.bytes a ++ leaf_marks g.bytes HeadingAtxSequence b)) HeadingAtxAtBreak
  opening a [] a_white b_signs long k p rest kind none at = absurd (omega arith)
  opening [] (s ∷ ss) a_white b_signs long k p rest kind none at =
      run-from g t all_kept HeadingAtxSequenceOpen (HeadingAtxSequence ∷ []) HeadingAtxAtBreak is_sign signs_go FlowBlankLineAfter (comes g t HeadingAtx s ++ comes g t HeadingAtxSequence s) s ss rest b_signs.1 none k p at
      (begins-sign g t k p s (ss ++ rest) b_signs.0 at)
  opening (f ∷ fs) (s ∷ ss) a_white b_signs long k p rest kind none at =
      let first = comes g t HeadingAtx f ++ comes g t SpaceOrTab f in
      let q = end_after f.end fs in
      then g t all_kept k p FlowBlankLineAfter HeadingAtxStart HeadingAtxAtBreak (f ∷ fs) (s ∷ ss) ((f ∷ fs) ++ (s ∷ ss)) rest refl first (λ _. (goes g t SpaceOrTab q ++ comes g t HeadingAtxSequence s) ++ goes g t HeadingAtxSequence (end_after s.end ss)) at
      (λ at'. byte-then g t all_kept k p FlowBlankLineAfter HeadingAtxStart HeadingAtxStart f fs ((s ∷ ss) ++ rest) first [] at' (begins-white g t k p f (fs ++ ((s ∷ ss) ++ rest)) kind a_white.0 at')
      (λ k' at'' kept. run-on g t all_kept HeadingAtxStart is_white (white-runs HeadingAtxStart (λ b. refl)) fs ((s ∷ ss) ++ rest) a_white.1 k' f.end at''))
      (λ k' at' kept. run-from g t all_kept HeadingAtxSequenceOpen (HeadingAtxSequence ∷ []) HeadingAtxAtBreak is_sign signs_go HeadingAtxStart (goes g t SpaceOrTab q ++ comes g t HeadingAtxSequence s) s ss rest b_signs.1 none k' q at'
      (start-sign g t k' q s (ss ++ rest) b_signs.0 at'))

  -- ---- behind the text
  abbrev tail_marks : List Seat → List Mark
  tail_marks l = white g.bytes (front is_white l) ++ (leaf_marks g.bytes HeadingAtxSequence (front is_sign (back is_white l)) ++ white g.bytes (back is_sign (back is_white l)))

  unwritten-size : (before after : Local Unit Unit) → IsUnwritten before after → after.tokenize_state.size_b ≡ before.tokenize_state.size_b
  unwritten-size before after kept = ap (λ l. l.tokenize_state.size_b) kept.is

  tail : (l : List Seat) → AllByRecursion IsWhite (back is_sign (back is_white l)) → (k : Configuration Unit Unit) (p : Point) (rest : List Seat) → k.local.tokenize_state.size_b ≡ 0 → LineEnds rest → IsAt t k p (l ++ rest)
      → IsRead k HeadingAtxAtBreak l rest (tail_marks l) HeadingAtxAtBreak
  tail l last k p rest size ends at =
      let a = front is_white l in
      let r = back is_white l in
      let b = front is_sign r in
      let c = back is_sign r in
      let break = HeadingAtxAtBreak in
      then g t all_kept k p break break break a r l rest (front-back is_white l) (white g.bytes a) (λ _. leaf_marks g.bytes HeadingAtxSequence b ++ white g.bytes c) at
      (λ at'. white-space a (r ++ rest) (front-all is_white l) (fails-line is_white refl r rest (back-fails is_white l) ends) k p at')
      (λ k' at' kept. then g t all_kept k' (end_after p a) break break break b c r rest (front-back is_sign r) (leaf_marks g.bytes HeadingAtxSequence b) (λ _. white g.bytes c) at'
      (λ at''. run-piece g t all_kept HeadingAtxSequence break HeadingAtxSequenceOpen is_sign signs_go b (c ++ rest) (front-all is_sign r) (fails-line is_sign refl c rest (back-fails is_sign r) ends) k' (end_after p a) at''
      (λ s rest. signs-begin g t k' (end_after p a) s rest (unwritten-size k.local k'.local kept ∙ size)))
      (λ k'' at'' kept'. white-space c rest last (fails-line is_white refl [] rest tt ends) k'' (end_after (end_after p a) b) at''))

  -- ---- the text
  in-text-on : (n i j : ℕ) (a b c : Local Unit Unit) → InText n i a b → InText n j b c → InText n j a c
  in-text-on n i j a b c one two = record { keeps = keeps-on a b c one.keeps two.keeps; size_is = two.size_is; count_is = two.count_is }

  text-run : (ss : List Seat) (n j : ℕ) → j + length ss ≡ n → n < 2 ^ 64 - 1 → IsInLine ss → (k : Configuration Unit Unit) (p : Point) (rest : List Seat) → k.local.tokenize_state.size_b ≡ n → k.local.tokenize_state.space_or_tab_size ≡ j
      → IsAt t k p (ss ++ rest) → IsReadAs g t (InText n n) k HeadingAtxData ss rest [] (Retry HeadingAtxData)
  text-run [] n j whole room in_line k p rest size count at =
      let all : j ≡ n = omega (arith, whole) in
      reads-nothing g t (InText n n) k HeadingAtxData rest at.waits (record { keeps = record { edits = refl; resolvers = refl }; size_is = size; count_is = count ∙ all })
  text-run (s ∷ ss) n j whole room in_line k p rest size count at =
      reads-on g t (InText n (j + 1)) (InText n n) (InText n n) (in-text-on n (j + 1) n) k p HeadingAtxData HeadingAtxData (s ∷ []) ss rest [] [] (Retry HeadingAtxData) at
      (text-on g t k p s (ss ++ rest) n j size count (omega (arith, whole)) room in_line.0 at)
      (λ k' at' kept. text-run ss n (j + 1) (omega (arith, whole)) room in_line.1 k' s.end rest kept.size_is kept.count_is at')

  -- its bytes, of which there is one at least
  text-bytes : (s : Seat) (ss : List Seat) → suc (length ss) < 2 ^ 64 - 1 → IsInLine (s ∷ ss) → is_white s.byte ≡ false → (k : Configuration Unit Unit) (p : Point) (rest : List Seat) → k.local.tokenize_state.size_b ≡ suc (length ss)
      → IsAt t k p ((s ∷ ss) ++ rest)
      → IsReadAs g t (InText (suc (length ss)) (suc (length ss))) k HeadingAtxAtBreak (s ∷ ss) rest (comes g t HeadingAtxText s ++ (event g.bytes Enter Data s.point, alone content.Text) ∷ []) (Retry HeadingAtxData)
  text-bytes s ss room in_line dark k p rest size at =
      let n = suc (length ss) in
      reads-on g t (InText n 1) (InText n n) (InText n n) (in-text-on n 1 n) k p HeadingAtxAtBreak HeadingAtxData (s ∷ []) ss rest (comes g t HeadingAtxText s ++ (event g.bytes Enter Data s.point, alone content.Text) ∷ []) [] (Retry HeadingAtxData) at
      (text-begins g t k p s (ss ++ rest) (length ss) size in_line.0 dark at)
      (λ k' at' kept. text-run ss n 1 (omega arith) room in_line.1 k' s.end rest kept.size_is kept.count_is at')

  abbrev closing_marks : (text rest : List Seat) → Point → List Mark
  closing_marks text rest p = (text_span g.bytes text ++ tail_marks rest) ++ goes g t HeadingAtx p

  line-ends : (K : Keeping) (k : Configuration Unit Unit) (p : Point) (rest : List Seat) → LineEnds rest → IsAt t k p rest → Reads g t K k HeadingAtxAtBreak [] rest (goes g t HeadingAtx p) FlowAfter
  line-ends K = line-over g t K HeadingAtxAtBreak (HeadingAtx ∷ []) FlowAfter (λ b. refl) (λ b. refl)

  -- text up to the end of the line
  closing-line : (s : Seat) (ss : List Seat) → suc (length ss) < 2 ^ 64 - 1 → IsInLine (s ∷ ss) → is_white s.byte ≡ false → (k : Configuration Unit Unit) (p : Point) (rest : List Seat) → k.local.tokenize_state.size_b ≡ suc (length ss)
      → LineEnds rest → IsAt t k p ((s ∷ ss) ++ rest) → IsReadAs g t KeepsEdits k HeadingAtxAtBreak (s ∷ ss) rest (closing_marks (s ∷ ss) [] (end_after s.end ss)) (Retry FlowAfter)
  closing-line s ss room in_line dark k p rest size ends at =
      let n = suc (length ss) in
      let q = end_after s.end ss in
      let ending : List Mark = goes g t Data q ++ (goes g t HeadingAtxText q ++ goes g t HeadingAtx q) in
      reads-end g t (InText n n) KeepsEdits KeepsEdits (λ a b c one two. keeps-on a b c one.keeps two) k p HeadingAtxAtBreak HeadingAtxData (s ∷ ss) rest
      (comes g t HeadingAtxText s ++ (event g.bytes Enter Data s.point, alone content.Text) ∷ []) ending (Retry FlowAfter) at
      (text-bytes s ss room in_line dark k p rest size at)
      (λ k' at' kept. line-over g t edits_kept HeadingAtxData (Data ∷ HeadingAtxText ∷ HeadingAtx ∷ []) FlowAfter (λ b. refl) (λ b. refl) k' q rest ends at')

  -- text before other bytes
  closing-before : (s r : Seat) (ss rs : List Seat) → suc (length ss) < 2 ^ 64 - 1 → IsInLine ((s ∷ ss) ++ (r ∷ rs)) → is_white s.byte ≡ false → AllByRecursion IsWhite (back is_sign (back is_white (r ∷ rs)))
      → (k : Configuration Unit Unit) (p : Point) (rest : List Seat) → k.local.tokenize_state.size_b ≡ suc (length ss) → LineEnds rest → IsAt t k p (((s ∷ ss) ++ (r ∷ rs)) ++ rest)
      → IsReadAs g t KeepsEdits k HeadingAtxAtBreak ((s ∷ ss) ++ (r ∷ rs)) rest (closing_marks (s ∷ ss) (r ∷ rs) (end_after p ((s ∷ ss) ++ (r ∷ rs)))) (Retry FlowAfter)
  closing-before s r ss rs room in_line dark last k p rest size ends at =
      let n = suc (length ss) in
      let q = end_after s.end ss in
      let l = (s ∷ ss) ++ (r ∷ rs) in
      let starting : List Mark = comes g t HeadingAtxText s ++ (event g.bytes Enter Data s.point, alone content.Text) ∷ [] in
      let ending : List Mark = goes g t Data q ++ goes g t HeadingAtxText q in
      let all : IsReadAs g t KeepsEdits k HeadingAtxAtBreak l rest (starting ++ (ending ++ tail_marks (r ∷ rs))) (Retry HeadingAtxAtBreak) =
      reads-parts g t (InText n n) KeepsEdits KeepsEdits (λ a b c one two. keeps-on a b c one.keeps two) k p HeadingAtxAtBreak HeadingAtxData (s ∷ ss) (r ∷ rs) rest starting (ending ++ tail_marks (r ∷ rs)) (Retry HeadingAtxAtBreak) at
      (λ at'. text-bytes s ss room (in-line-front (s ∷ ss) (r ∷ rs) in_line) dark k p ((r ∷ rs) ++ rest) size at')
      (λ k' at' kept.
      reads-on g t BehindText KeepsEdits KeepsEdits (λ a b c one two. keeps-on a b c one.keeps two) k' q HeadingAtxData HeadingAtxAtBreak [] (r ∷ rs) rest ending (tail_marks (r ∷ rs)) (Retry HeadingAtxAtBreak) at'
      (text-ends g t k' q r (rs ++ rest) n kept.size_is kept.count_is (in-line-behind (s ∷ ss) (r ∷ rs) in_line).0 at')
      (λ k'' at'' kept'. reads-keeping g t IsUnwritten KeepsEdits unwritten-keeps k'' HeadingAtxAtBreak (r ∷ rs) rest (tail_marks (r ∷ rs)) (Retry HeadingAtxAtBreak) (tail (r ∷ rs) last k'' q rest kept'.size_is ends at''))) in
      then-ends g t edits_kept k p HeadingAtxAtBreak HeadingAtxAtBreak FlowAfter l rest (starting ++ (ending ++ tail_marks (r ∷ rs))) (goes g t HeadingAtx (end_after p l)) at all (λ k' at' kept. line-ends edits_kept k' (end_after p l) rest ends at')

  -- the text, and what is behind it, up to the end of the line
  closing : (text behind l : List Seat) → text ++ behind ≡ l → length text < 2 ^ 64 - 1 → IsInLine l → Fails is_white l → AllByRecursion IsWhite (back is_sign (back is_white behind))
      → (k : Configuration Unit Unit) (p : Point) (rest : List Seat) → k.local.tokenize_state.size_b ≡ length text → LineEnds rest → IsAt t k p (l ++ rest)
      → IsReadAs g t KeepsEdits k HeadingAtxAtBreak l rest (closing_marks text behind (end_after p l)) (Retry FlowAfter)
  closing [] behind l is room in_line dark last k p rest size ends at =
      reads-keeping g t IsUnwritten KeepsEdits unwritten-keeps k HeadingAtxAtBreak l rest (closing_marks [] behind (end_after p l)) (Retry FlowAfter)
      (then-ends g t all_kept k p HeadingAtxAtBreak HeadingAtxAtBreak FlowAfter l rest (tail_marks behind) (goes g t HeadingAtx (end_after p l)) at
      (subst (λ x. IsRead k HeadingAtxAtBreak x rest (tail_marks behind) HeadingAtxAtBreak) is (tail behind last k p rest size ends (subst (λ x. IsAt t k p (x ++ rest)) (sym is) at)))
      (λ k' at' kept. line-ends all_kept k' (end_after p l) rest ends at'))
  closing (s ∷ ss) [] l is room in_line dark last k p rest size ends at =
      let same : s ∷ ss ≡ l = sym (append-nil (s ∷ ss)) ∙ is in
      subst (λ x. IsReadAs g t KeepsEdits k HeadingAtxAtBreak x rest (closing_marks (s ∷ ss) [] (end_after p x)) (Retry FlowAfter)) same
      (closing-line s ss room (subst IsInLine (sym same) in_line) (subst (Fails is_white) (sym same) dark) k p rest size ends (subst (λ x. IsAt t k p (x ++ rest)) (sym same) at))
  closing (s ∷ ss) (r ∷ rs) l is room in_line dark last k p rest size ends at =
      subst (λ x. IsReadAs g t KeepsEdits k HeadingAtxAtBreak x rest (closing_marks (s ∷ ss) (r ∷ rs) (end_after p x)) (Retry FlowAfter)) is
      (closing-before s r ss rs room (subst IsInLine (sym is) in_line) (subst (Fails is_white) (sym is) dark) last k p rest size ends (subst (λ x. IsAt t k p (x ++ rest)) (sym is) at))

  -- ---- the line
  sign-dark : (b more : List Seat) → AllByRecursion IsSign b → 1 ≤ length b → Fails is_white (b ++ more)
  sign-dark [] more all long = absurd (omega arith)
  sign-dark (s ∷ ss) more all long = ap is_white (eqb-true s.byte 35 all.0)

  first-append : (l more : List Seat) → 1 ≤ length l → first_mark (l ++ more) ≡ first_mark l
  first-append [] more long = absurd (omega arith)
  first-append (s ∷ ss) more long = refl

  span-is : (p : Point) (l : List Seat) (inside : List Mark) → 1 ≤ length l → span_marks g.bytes HeadingAtx l inside ≡ first_mark l ++ (inside ++ goes g t HeadingAtx (end_after p l))
  span-is p [] inside long = absurd (omega arith)
  span-is p (s ∷ ss) inside long = refl

  six : (f a b c d e h : List Mark) → (f ++ (a ++ b)) ++ (c ++ ((d ++ e) ++ h)) ≡ f ++ (((a ++ (b ++ c)) ++ (d ++ e)) ++ h)
  six f a b c d e h = simp append_assoc

  -- where the line is a heading: its parts
  module _ (l : List Seat) where
    abbrev before_signs : List Seat
    before_signs = front is_white l

    abbrev from_signs : List Seat
    from_signs = back is_white l

    abbrev the_signs : List Seat
    the_signs = front is_sign from_signs

    abbrev behind_signs : List Seat
    behind_signs = back is_sign from_signs

    abbrev the_white : List Seat
    the_white = front is_white behind_signs

    abbrev from_text : List Seat
    from_text = back is_white behind_signs

    abbrev size : ℕ
    size = length (heading_text (bytes_of from_text))

    whole : l ≡ before_signs ++ (the_signs ++ (the_white ++ from_text))
    whole =
        sym (front-back is_white l) ∙ ap (λ x. before_signs ++ x) (sym (front-back is_sign from_signs)) ∙ ap (λ x. before_signs ++ (the_signs ++ x)) (sym (front-back is_white behind_signs))

    halves : (before_signs ++ the_signs) ++ (the_white ++ from_text) ≡ l
    halves = append_assoc before_signs the_signs (the_white ++ from_text) ∙ sym whole

    size-is : length (text_behind_signs (unindented (bytes_of l))) ≡ size
    size-is =
        ap (λ r. length (text_behind_signs r)) (drop-bytes is_white l)
        ∙ ap (λ u. length (heading_text (unindented u))) (drop-bytes is_sign from_signs) ∙ ap (λ u. length (heading_text u)) (drop-bytes is_white behind_signs)

    signs-long : is_atx_heading (unindented (bytes_of l)) ≡ true → 1 ≤ length the_signs
    signs-long h =
        let some = leb-true 1 (run 35 (unindented (bytes_of l))) (and_parts (nat_le 1 (run 35 (unindented (bytes_of l)))) _ h).0 in
        let count : run 35 (unindented (bytes_of l)) ≡ length the_signs = ap (run 35) (drop-bytes is_white l) ∙ prefix-front is_sign from_signs in
        omega (arith, some, count)

    marks-are : (p : Point) → 1 ≤ length the_signs
        → (first_mark (before_signs ++ the_signs) ++ (white g.bytes before_signs ++ leaf_marks g.bytes HeadingAtxSequence the_signs))
        ++ (white g.bytes the_white ++ closing_marks (take size from_text) (drop size from_text) (end_after (end_after (end_after p (before_signs ++ the_signs)) the_white) from_text))
        ≡ span_marks g.bytes HeadingAtx l (heading_marks g.bytes l)
    marks-are p long =
        let a = white g.bytes before_signs in
        let b = leaf_marks g.bytes HeadingAtxSequence the_signs in
        let c = white g.bytes the_white in
        let d = text_span g.bytes (take size from_text) in
        let e = tail_marks (drop size from_text) in
        let both = before_signs ++ the_signs in
        let long_both : 1 ≤ length both = let n = length-append before_signs the_signs in omega (arith, n, long) in
        let long_all : 1 ≤ length l = let n = ap length (sym halves) ∙ length-append both (the_white ++ from_text) in omega (arith, n, long_both) in
        let end : end_after (end_after (end_after p both) the_white) from_text ≡ end_after p l =
        sym (end-after-append (end_after p both) the_white from_text) ∙ sym (end-after-append p both (the_white ++ from_text)) ∙ ap (end_after p) halves in
        let first : first_mark both ≡ first_mark l = sym (first-append both (the_white ++ from_text) long_both) ∙ ap first_mark halves in
        let behind : signs_behind g.bytes (drop size from_text) ≡ e = sequence-fronts g.bytes HeadingAtxSequence is_sign (drop size from_text) in
        let inside : heading_marks g.bytes l ≡ (a ++ (b ++ c)) ++ (d ++ e) =
        ap (heading_marks g.bytes) whole
        ∙ heading-parts g.bytes before_signs the_signs the_white from_text (front-all is_white l) (front-all is_sign from_signs) (sign-dark the_signs (the_white ++ from_text) (front-all is_sign from_signs) long)
        (sign-dark the_signs the_white (front-all is_sign from_signs) long) (front-all is_white behind_signs) (subst (Fails is_sign) (sym (front-back is_white behind_signs)) (back-fails is_sign from_signs)) (back-fails is_white behind_signs)
        ∙ ap (λ m. (a ++ (b ++ c)) ++ (d ++ m)) behind in
        ap (λ q. (first_mark both ++ (a ++ b)) ++ (c ++ ((d ++ e) ++ goes g t HeadingAtx q))) end
        ∙ six (first_mark both) a b c d e (goes g t HeadingAtx (end_after p l))
        ∙ ap (λ m. m ++ (((a ++ (b ++ c)) ++ (d ++ e)) ++ goes g t HeadingAtx (end_after p l))) first
        ∙ ap (λ m. first_mark l ++ (m ++ goes g t HeadingAtx (end_after p l))) (sym inside)
        ∙ sym (span-is p l (heading_marks g.bytes l) long_all)

    line-read : (k : Configuration Unit Unit) (p : Point) (rest : List Seat) → length t.seats < 2 ^ 64 - 1 → IsInLine l → is_atx_heading (unindented (bytes_of l)) ≡ true → k.local.tokenize_state.token_1 ≡ HeadingAtx
        → k.local.tokenize_state.size_b ≡ length (text_behind_signs (unindented (bytes_of l))) → LineEnds rest → IsAt t k p (l ++ rest)
        → IsReadAs g t KeepsEdits k FlowBlankLineAfter l rest (span_marks g.bytes HeadingAtx l (heading_marks g.bytes l)) (Retry FlowAfter)
    line-read k p rest room in_line is kind counted ends at =
        let both = before_signs ++ the_signs in
        let others = the_white ++ from_text in
        let long = signs-long is in
        let text = text-is from_text in
        let taken : length (take size from_text) ≡ size = length-take-le size from_text text.short in
        let q = end_after p both in
        let first_marks : List Mark = first_mark both ++ (white g.bytes before_signs ++ leaf_marks g.bytes HeadingAtxSequence the_signs) in
        let text_marks : List Mark = closing_marks (take size from_text) (drop size from_text) (end_after (end_after q the_white) from_text) in
        let fits : size < 2 ^ 64 - 1 =
        let left = ap length at.left ∙ length-append l rest in let dropped = length-drop k.position t.seats in
        let one = length-back is_white behind_signs in let two = length-back is_sign from_signs in let three = length-back is_white l in let short = text.short in omega (arith, left, dropped, one, two, three, short, room) in
        subst (λ m. IsReadAs g t KeepsEdits k FlowBlankLineAfter l rest m (Retry FlowAfter)) (marks-are p long)
        (subst (λ x. IsReadAs g t KeepsEdits k FlowBlankLineAfter x rest (first_marks ++ (white g.bytes the_white ++ text_marks)) (Retry FlowAfter)) halves
        (reads-parts g t IsUnwritten KeepsEdits KeepsEdits (λ a b c one two. keeps-on a b c (unwritten-keeps a b one) two) k p FlowBlankLineAfter HeadingAtxAtBreak both others rest first_marks (white g.bytes the_white ++ text_marks) (Retry FlowAfter)
        (subst (λ x. IsAt t k p (x ++ rest)) (sym halves) at)
        (λ at'. opening before_signs the_signs (front-all is_white l) (front-all is_sign from_signs) long k p (others ++ rest) kind
        (subst (λ x. Fails is_sign (x ++ rest)) (sym (front-back is_white behind_signs)) (fails-line is_sign refl behind_signs rest (back-fails is_sign from_signs) ends)) at')
        (λ k' at' kept.
        reads-parts g t IsUnwritten KeepsEdits KeepsEdits (λ a b c one two. keeps-on a b c (unwritten-keeps a b one) two) k' q HeadingAtxAtBreak HeadingAtxAtBreak the_white from_text rest (white g.bytes the_white) text_marks (Retry FlowAfter) at'
        (λ at''. white-space the_white (from_text ++ rest) (front-all is_white behind_signs) (fails-line is_white refl from_text rest (back-fails is_white behind_signs) ends) k' q at'')
        (λ k'' at'' kept'.
        closing (take size from_text) (drop size from_text) from_text (take-append-drop size from_text) (omega (arith, taken, fits))
        (all-back is_white _ behind_signs (all-back is_sign _ from_signs (all-back is_white _ l in_line))) (back-fails is_white behind_signs) text.closing k'' (end_after q the_white) rest
        (unwritten-size k'.local k''.local kept' ∙ unwritten-size k.local k'.local kept ∙ counted ∙ size-is ∙ sym taken) ends at''))))

pub headings-read : HeadingsAreRead
headings-read g t k line more found =
    let parts = first-parts line more found.here.are_lines in
    line-read g t (line_text line) k (end_place t k.position) (ending_of line ++ all_of more) found.here.room parts.in_line (says g.options.constructs (text_of line) found.is_kind).1
    found.found.1 found.found.2 parts.ends (at-first t k line more found.here)
