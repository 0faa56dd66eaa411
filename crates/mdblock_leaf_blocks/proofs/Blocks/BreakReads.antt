-- Thematic breaks are read as their definition says.
use Rattle.mdblock_leaf_blocks.proofs.Prelude.{List, Option, Some, [], ap, arith, cond, drop, false, inl, inr, length, length-append, nat_le, not, refl, subst, suc, sym, take, true, zero, ℕ, ◌&&◌, ◌++◌, ◌+◌, ◌-◌, ◌==◌, ◌||◌, ◌∙◌, ◌∷◌, ◌≡◌, ◌≤◌, ◌⊎◌, and_parts, eqb-true, not-false, not-true, drop-drop, AllByRecursion, list_all, prefix_len, Seat, end_after, HeadingSetextUnderline, SpaceOrTab, ThematicBreak, Marks, Point, Name, Next, Retry, FlowAfter, FlowBlankLineAfter, ThematicBreakAtBreak, ThematicBreakBefore, ThematicBreakSequence, Configuration, end_place, Given, Text, flow_blank_line_after_rows, mark_begins_line, FlowByte, blank, cased, dash, flow_byte, is_blank, is_rule, star, underscore, thematic_break_at_break_rows, BreaksAreRead, IsAtLines, IsBlockRead, IsReadAs, KeepsEdits, Line, bytes_of, text_of, Mark, break_marks, leaf_marks, span_marks, white, begins_with, is_break_of_marks, is_thematic_break, unindented, LineEnds, is_white, all_of, ending_of, line_text, Rows, class_of, consume, enter, picked, row}
use Rattle.mdblock_leaf_blocks.proofs.Looks.BreakLooks.{is_break_mark, white-no-mark}
use Rattle.mdblock_leaf_blocks.proofs.Looks.ByteClasses.{blank-is, rule-is}
use Rattle.mdblock_leaf_blocks.proofs.Lines.{Fails, Goes, IsAt, IsUnwritten, Reads, all-back, all-front, all-with-front, all_kept, at-first, back, back-fails, comes, counted, drop-back, drop-bytes, fails-line, first-parts, front, front-all, front-back, goes, goes-by, is_dark, length-back, line-over, reads-keeping, reads-nothing, row-takes-on, run-from, run-piece, says, seen, take-front, then, then-ends, unwritten, unwritten-keeps, white-is-blank, white-piece}

-- ---- the definition, by what comes in front

module _ (bytes : List ℕ) where
  abbrev white_front : List Seat → List Seat
  white_front l = front is_white l

  abbrev dark_front : List Seat → List Seat
  dark_front l = front is_dark (back is_white l)

  abbrev behind_both : List Seat → List Seat
  behind_both l = back is_dark (back is_white l)

  -- the marks of a line begin with those of its first pieces
  break-pieces : (bound : ℕ) (l : List Seat) → break_marks bytes (suc bound) l ≡ white bytes (white_front l) ++ (leaf_marks bytes Marks (dark_front l) ++ break_marks bytes bound (behind_both l))
  break-pieces bound l =
      let n = prefix_len is_white (bytes_of l) in
      let m = prefix_len is_dark (drop n (bytes_of l)) in
      let m_is : m ≡ prefix_len is_dark (bytes_of (back is_white l)) = ap (prefix_len is_dark) (drop-bytes is_white l) in
      let less : (n + m) - n ≡ m = omega arith in
      let both : drop (n + m) l ≡ drop m (drop n l) = sym (drop-drop m n l) in
      ap (λ w. white bytes w ++ (leaf_marks bytes Marks (take ((n + m) - n) (drop n l)) ++ break_marks bytes bound (drop (n + m) l))) (take-front is_white l)
      ∙ ap (λ d. white bytes (white_front l) ++ (leaf_marks bytes Marks d ++ break_marks bytes bound (drop (n + m) l)))
      (ap (λ i. take i (drop n l)) (less ∙ m_is) ∙ ap (λ r. take (prefix_len is_dark (bytes_of (back is_white l))) r) (drop-back is_white l) ∙ take-front is_dark (back is_white l))
      ∙ ap (λ r. white bytes (white_front l) ++ (leaf_marks bytes Marks (dark_front l) ++ break_marks bytes bound r))
      (both ∙ ap (λ r. drop m r) (drop-back is_white l) ∙ ap (λ i. drop i (back is_white l)) m_is ∙ drop-back is_dark (back is_white l))

  behind-both-shorter : (s : Seat) (ss : List Seat) → length (behind_both (s ∷ ss)) ≤ length ss
  behind-both-shorter s ss = elim (is_white s.byte) as (λ w. is_white s.byte ≡ w → length (back is_dark (cond w (back is_white ss) (s ∷ ss))) ≤ length ss) [
    | true ↦ λ e. let one = length-back is_dark (back is_white ss) in let two = length-back is_white ss in omega (arith, one, two)
    | false ↦ λ e. rw e (length-back is_dark ss)
  ] refl

  both-shorter : (bound : ℕ) (l : List Seat) → length l ≤ suc bound → length (behind_both l) ≤ bound
  both-shorter bound [] h = omega arith
  both-shorter bound (s ∷ ss) h = let shorter = behind-both-shorter s ss in omega (arith, shorter, h)

-- a byte of a break
abbrev IsOfBreak : Seat → Type 0
IsOfBreak s = (is_white s.byte || is_break_mark s.byte) ≡ true

abbrev IsRule : Seat → Type 0
IsRule s = is_break_mark s.byte ≡ true

rules : (l : List Seat) → AllByRecursion IsOfBreak l → AllByRecursion (λ (s : Seat). is_dark s.byte ≡ true) l → AllByRecursion IsRule l
rules [] h dark = tt
rules (s ∷ ss) h dark =
    let is_not : is_white s.byte ≡ false = not-true (is_white s.byte) dark.0 in
    (rw is_not at h.0, rules ss h.1 dark.1)

-- behind marks comes white space
no-rule : (l : List Seat) → Fails is_dark l → Fails is_break_mark l
no-rule [] h = tt
no-rule (s ∷ ss) h = white-no-mark s.byte (not-false (is_white s.byte) h)

-- rows at a mark
mark-rows : (previous : Option FlowByte) (c : FlowByte) → is_rule c ≡ true
    → (◌≡◌ {A = Rows Unit Unit} (cased thematic_break_at_break_rows previous (Some c)) (row (enter Marks ∷ consume ∷ []) (Next ThematicBreakSequence))) × (◌≡◌ {A = Rows Unit Unit} (cased flow_blank_line_after_rows previous (Some c)) mark_begins_line)
mark-rows previous star h = (refl, refl)
mark-rows previous underscore h = (refl, refl)
mark-rows previous dash h = (refl, refl)
mark-rows previous c h = absurd (cc)

white_goes : Goes ThematicBreakBefore is_white (SpaceOrTab ∷ []) ThematicBreakAtBreak
white_goes = goes-by ThematicBreakBefore (SpaceOrTab ∷ []) ThematicBreakAtBreak (λ b. refl) is_blank is_white (λ b c. refl) blank-is

marks_go : Goes ThematicBreakSequence is_break_mark (Marks ∷ []) ThematicBreakAtBreak
marks_go = goes-by ThematicBreakSequence (Marks ∷ []) ThematicBreakAtBreak (λ b. refl) is_rule is_break_mark (λ b c. refl) rule-is

module _ (g : Given) (t : Text) where
  abbrev IsRead : Configuration Unit Unit → Name → (line rest : List Seat) → List Mark → Name → Type 0
  IsRead = Reads g t all_kept

  module _ (k : Configuration Unit Unit) (p : Point) where
    marks-begin : (s : Seat) (rest : List Seat) → IsRule s → IsAt t k p (s ∷ rest) → IsRead k ThematicBreakAtBreak (s ∷ []) rest (comes g t Marks s) ThematicBreakSequence
    marks-begin s rest mark at =
        let sight = seen g t IsUnwritten k ThematicBreakAtBreak p (s ∷ rest) in
        row-takes-on g t IsUnwritten k ThematicBreakAtBreak p s rest (flow_byte s.byte) (enter Marks ∷ consume ∷ []) ThematicBreakSequence at refl
        (ap (λ r. picked r g sight (counted k)) (mark-rows (class_of flow_byte sight.previous) (flow_byte s.byte) (rule-is s.byte ∙ mark)).0) tt refl (unwritten k.local)

    -- the first byte of the line, whose kind is known
    abbrev IsBreakHere : Type 0
    IsBreakHere =
        let state = k.local.tokenize_state in
        (state.token_1 ≡ ThematicBreak) ⊎ ((state.token_1 ≡ HeadingSetextUnderline) × (g.options.constructs.thematic_break ≡ true) × (((state.marker == 45) && nat_le 3 state.size_b) ≡ true))

    line-begins-white : (s : Seat) (rest : List Seat) → IsBreakHere → is_white s.byte ≡ true → IsAt t k p (s ∷ rest) → IsRead k FlowBlankLineAfter (s ∷ []) rest (comes g t ThematicBreak s ++ comes g t SpaceOrTab s) ThematicBreakBefore
    line-begins-white s rest (inl kind) white at =
        row-takes-on g t IsUnwritten k FlowBlankLineAfter p s rest blank (enter ThematicBreak ∷ enter SpaceOrTab ∷ consume ∷ []) ThematicBreakBefore at (white-is-blank s.byte white) (rw kind refl) tt refl (unwritten k.local)
    line-begins-white s rest (inr (kind, on, three)) white at =
        row-takes-on g t IsUnwritten k FlowBlankLineAfter p s rest blank (enter ThematicBreak ∷ enter SpaceOrTab ∷ consume ∷ []) ThematicBreakBefore at (white-is-blank s.byte white) (rw (kind, on, three) refl) tt refl (unwritten k.local)

    line-begins-marks : (s : Seat) (rest : List Seat) → IsBreakHere → IsRule s → IsAt t k p (s ∷ rest) → IsRead k FlowBlankLineAfter (s ∷ []) rest (comes g t ThematicBreak s ++ comes g t Marks s) ThematicBreakSequence
    line-begins-marks s rest (inl kind) mark at =
        let sight = seen g t IsUnwritten k FlowBlankLineAfter p (s ∷ rest) in
        row-takes-on g t IsUnwritten k FlowBlankLineAfter p s rest (flow_byte s.byte) (enter ThematicBreak ∷ enter Marks ∷ consume ∷ []) ThematicBreakSequence at refl
        (ap (λ r. picked r g sight (counted k)) (mark-rows (class_of flow_byte sight.previous) (flow_byte s.byte) (rule-is s.byte ∙ mark)).1 ∙ rw kind refl) tt refl (unwritten k.local)
    line-begins-marks s rest (inr (kind, on, three)) mark at =
        let sight = seen g t IsUnwritten k FlowBlankLineAfter p (s ∷ rest) in
        row-takes-on g t IsUnwritten k FlowBlankLineAfter p s rest (flow_byte s.byte) (enter ThematicBreak ∷ enter Marks ∷ consume ∷ []) ThematicBreakSequence at refl
        (ap (λ r. picked r g sight (counted k)) (mark-rows (class_of flow_byte sight.previous) (flow_byte s.byte) (rule-is s.byte ∙ mark)).1 ∙ rw (kind, on, three) refl) tt refl (unwritten k.local)

  -- ---- pieces, from behind white space on
  abbrev behind_white : (bound : ℕ) → List Seat → List Mark
  behind_white bound l = leaf_marks g.bytes Marks (front is_dark l) ++ break_marks g.bytes bound (back is_dark l)

  darks : (bound : ℕ) (l : List Seat) → AllByRecursion IsOfBreak l → (k : Configuration Unit Unit) (p : Point) (rest : List Seat) → LineEnds rest → IsAt t k p (l ++ rest)
      → ((k' : Configuration Unit Unit) (q : Point) → IsAt t k' q (back is_dark l ++ rest) → IsRead k' ThematicBreakAtBreak (back is_dark l) rest (break_marks g.bytes bound (back is_dark l)) ThematicBreakAtBreak)
      → IsRead k ThematicBreakAtBreak l rest (behind_white bound l) ThematicBreakAtBreak
  darks bound l all k p rest ends at further =
      let d = front is_dark l in
      let b = back is_dark l in
      then g t all_kept k p ThematicBreakAtBreak ThematicBreakAtBreak ThematicBreakAtBreak d b l rest (front-back is_dark l) (leaf_marks g.bytes Marks d) (λ _. break_marks g.bytes bound b) at
      (λ at'. run-piece g t all_kept Marks ThematicBreakAtBreak ThematicBreakSequence is_break_mark marks_go d (b ++ rest) (rules d (all-front is_dark IsOfBreak l all) (front-all is_dark l))
      (fails-line is_break_mark refl b rest (no-rule b (back-fails is_dark l)) ends) k p at' (marks-begin k p))
      (λ k' at' kept. further k' (end_after p d) at')

  inside : (bound : ℕ) (l : List Seat) → length l ≤ bound → AllByRecursion IsOfBreak l → (k : Configuration Unit Unit) (p : Point) (rest : List Seat) → LineEnds rest → IsAt t k p (l ++ rest)
      → IsRead k ThematicBreakAtBreak l rest (break_marks g.bytes bound l) ThematicBreakAtBreak
  inside zero [] short all k p rest ends at = reads-nothing g t IsUnwritten k ThematicBreakAtBreak rest at.waits (unwritten k.local)
  inside zero (s ∷ ss) short all k p rest ends at = absurd (omega arith)
  inside (suc bound) l short all k p rest ends at =
      let w = front is_white l in
      let r = back is_white l in
      subst (λ m. IsRead k ThematicBreakAtBreak l rest m ThematicBreakAtBreak) (sym (break-pieces g.bytes bound l))
      (then g t all_kept k p ThematicBreakAtBreak ThematicBreakAtBreak ThematicBreakAtBreak w r l rest (front-back is_white l) (white g.bytes w) (λ _. behind_white bound r) at
      (λ at'. white-piece g t all_kept ThematicBreakAtBreak ThematicBreakBefore white_goes (λ b. refl) w (r ++ rest) (front-all is_white l) (fails-line is_white refl r rest (back-fails is_white l) ends) k p at')
      (λ k' at' kept. darks bound r (all-back is_white IsOfBreak l all) k' (end_after p w) rest ends at'
      (λ k'' q at''. inside bound (back is_dark r) (both-shorter g.bytes bound l short) (all-back is_dark IsOfBreak r (all-back is_white IsOfBreak l all)) k'' q rest ends at'')))

  -- ---- the line
  white-first : (bound : ℕ) (s : Seat) (ss : List Seat) → is_white s.byte ≡ true → break_marks g.bytes (suc bound) (s ∷ ss) ≡ white g.bytes (s ∷ front is_white ss) ++ behind_white bound (back is_white ss)
  white-first bound s ss e = break-pieces g.bytes bound (s ∷ ss) ∙ ap (λ c. white g.bytes (cond c (s ∷ front is_white ss) []) ++ behind_white bound (cond c (back is_white ss) (s ∷ ss))) e

  dark-first : (bound : ℕ) (s : Seat) (ss : List Seat) → is_white s.byte ≡ false → break_marks g.bytes (suc bound) (s ∷ ss) ≡ leaf_marks g.bytes Marks (s ∷ front is_dark ss) ++ break_marks g.bytes bound (back is_dark ss)
  dark-first bound s ss e =
      break-pieces g.bytes bound (s ∷ ss) ∙ ap (λ c. white g.bytes (cond c (s ∷ front is_white ss) []) ++ behind_white bound (cond c (back is_white ss) (s ∷ ss))) e
      ∙ ap (λ c. leaf_marks g.bytes Marks (cond (not c) (s ∷ front is_dark ss) []) ++ break_marks g.bytes bound (cond (not c) (back is_dark ss) (s ∷ ss))) e

  abbrev all_marks : (bound : ℕ) → Seat → List Seat → List Mark
  all_marks bound s ss = comes g t ThematicBreak s ++ break_marks g.bytes (suc bound) (s ∷ ss)

  from-white : (bound : ℕ) (s : Seat) (ss : List Seat) → length ss ≤ bound → is_white s.byte ≡ true → AllByRecursion IsOfBreak ss → (k : Configuration Unit Unit) (p : Point) (rest : List Seat) → LineEnds rest
      → IsBreakHere k p → IsAt t k p ((s ∷ ss) ++ rest) → IsRead k FlowBlankLineAfter (s ∷ ss) rest (all_marks bound s ss) ThematicBreakAtBreak
  from-white bound s ss short e all k p rest ends here at =
      let w = front is_white ss in
      let r = back is_white ss in
      let first = comes g t ThematicBreak s in
      subst (λ m. IsRead k FlowBlankLineAfter (s ∷ ss) rest (first ++ m) ThematicBreakAtBreak) (sym (white-first bound s ss e))
      (then g t all_kept k p FlowBlankLineAfter ThematicBreakAtBreak ThematicBreakAtBreak (s ∷ w) r (s ∷ ss) rest (ap (λ l. s ∷ l) (front-back is_white ss)) (first ++ white g.bytes (s ∷ w)) (λ _. behind_white bound r) at
      (λ at'. run-from g t all_kept ThematicBreakBefore (SpaceOrTab ∷ []) ThematicBreakAtBreak is_white white_goes FlowBlankLineAfter (first ++ comes g t SpaceOrTab s) s w (r ++ rest) (front-all is_white ss)
      (fails-line is_white refl r rest (back-fails is_white ss) ends) k p at' (line-begins-white k p s (w ++ (r ++ rest)) here e at'))
      (λ k' at' kept. darks bound r (all-back is_white IsOfBreak ss all) k' (end_after p (s ∷ w)) rest ends at'
      (λ k'' q at''. inside bound (back is_dark r) (let one = length-back is_dark r in let two = length-back is_white ss in omega (arith, one, two, short))
      (all-back is_dark IsOfBreak r (all-back is_white IsOfBreak ss all)) k'' q rest ends at'')))

  from-marks : (bound : ℕ) (s : Seat) (ss : List Seat) → length ss ≤ bound → is_white s.byte ≡ false → IsRule s → AllByRecursion IsOfBreak ss → (k : Configuration Unit Unit) (p : Point) (rest : List Seat) → LineEnds rest
      → IsBreakHere k p → IsAt t k p ((s ∷ ss) ++ rest) → IsRead k FlowBlankLineAfter (s ∷ ss) rest (all_marks bound s ss) ThematicBreakAtBreak
  from-marks bound s ss short e mark all k p rest ends here at =
      let d = front is_dark ss in
      let b = back is_dark ss in
      let first = comes g t ThematicBreak s in
      subst (λ m. IsRead k FlowBlankLineAfter (s ∷ ss) rest (first ++ m) ThematicBreakAtBreak) (sym (dark-first bound s ss e))
      (then g t all_kept k p FlowBlankLineAfter ThematicBreakAtBreak ThematicBreakAtBreak (s ∷ d) b (s ∷ ss) rest (ap (λ l. s ∷ l) (front-back is_dark ss)) (first ++ leaf_marks g.bytes Marks (s ∷ d)) (λ _. break_marks g.bytes bound b) at
      (λ at'. run-from g t all_kept ThematicBreakSequence (Marks ∷ []) ThematicBreakAtBreak is_break_mark marks_go FlowBlankLineAfter (first ++ comes g t Marks s) s d (b ++ rest)
      (rules d (all-front is_dark IsOfBreak ss all) (front-all is_dark ss)) (fails-line is_break_mark refl b rest (no-rule b (back-fails is_dark ss)) ends) k p at' (line-begins-marks k p s (d ++ (b ++ rest)) here mark at'))
      (λ k' at' kept. inside bound b (let one = length-back is_dark ss in omega (arith, one, short)) (all-back is_dark IsOfBreak ss all) k' (end_after p (s ∷ d)) rest ends at'))

  line-read : (bound : ℕ) (s : Seat) (ss : List Seat) → length ss ≤ bound → AllByRecursion IsOfBreak (s ∷ ss) → (k : Configuration Unit Unit) (p : Point) (rest : List Seat) → LineEnds rest
      → IsBreakHere k p → IsAt t k p ((s ∷ ss) ++ rest) → IsReadAs g t KeepsEdits k FlowBlankLineAfter (s ∷ ss) rest (span_marks g.bytes ThematicBreak (s ∷ ss) (break_marks g.bytes (suc bound) (s ∷ ss))) (Retry FlowAfter)
  line-read bound s ss short all k p rest ends here at =
      let inside : IsRead k FlowBlankLineAfter (s ∷ ss) rest (all_marks bound s ss) ThematicBreakAtBreak =
      elim (is_white s.byte) as (λ w. is_white s.byte ≡ w → IsRead k FlowBlankLineAfter (s ∷ ss) rest (all_marks bound s ss) ThematicBreakAtBreak) [
        | true ↦ λ e. from-white bound s ss short e all.1 k p rest ends here at
        | false ↦ λ e. from-marks bound s ss short e (rules (s ∷ []) (all.0, tt) (ap not e, tt)).0 all.1 k p rest ends here at
      ] refl in
      reads-keeping g t IsUnwritten KeepsEdits unwritten-keeps k FlowBlankLineAfter (s ∷ ss) rest _ (Retry FlowAfter)
      (then-ends g t all_kept k p FlowBlankLineAfter ThematicBreakAtBreak FlowAfter (s ∷ ss) rest (all_marks bound s ss) (goes g t ThematicBreak (end_after s.end ss)) at inside
      (λ k' at' kept. line-over g t all_kept ThematicBreakAtBreak (ThematicBreak ∷ []) FlowAfter (λ b. refl) (λ b. refl) k' (end_after s.end ss) rest ends at'))

-- ---- what the kind says of the bytes
one-mark : (m : ℕ) → (is_white m || ((m == 42) || ((m == 95) || (m == 45)))) ≡ true → (s : Seat) → ((s.byte == m) || is_white s.byte) ≡ true → IsOfBreak s
one-mark m rule s h = elim (s.byte == m) as (λ e. (s.byte == m) ≡ e → (e || is_white s.byte) ≡ true → IsOfBreak s) [
  | true ↦ λ e h. subst (λ b. (is_white b || ((b == 42) || ((b == 95) || (b == 45)))) ≡ true) (sym (eqb-true s.byte m e)) rule
  | false ↦ λ e h. ap (λ w. w || ((s.byte == 42) || ((s.byte == 95) || (s.byte == 45)))) h
] refl h

all-marks : (m : ℕ) → (is_white m || ((m == 42) || ((m == 95) || (m == 45)))) ≡ true → (l : List Seat) → list_all (λ b. (b == m) || is_white b) (bytes_of l) ≡ true → AllByRecursion IsOfBreak l
all-marks m rule [] h = tt
all-marks m rule (s ∷ ss) h = let (one, more) = and_parts ((s.byte == m) || is_white s.byte) (list_all (λ b. (b == m) || is_white b) (bytes_of ss)) h in (one-mark m rule s one, all-marks m rule ss more)

of-marks : (m : ℕ) → (is_white m || ((m == 42) || ((m == 95) || (m == 45)))) ≡ true → (l : List Seat) → is_break_of_marks m (bytes_of l) ≡ true → AllByRecursion IsOfBreak l
of-marks m rule l h = all-marks m rule l (and_parts (list_all (λ b. (b == m) || is_white b) (bytes_of l)) _ (and_parts (begins_with m (bytes_of l)) _ h).1).0

of-break : (l : List Seat) → is_thematic_break (bytes_of l) ≡ true → AllByRecursion IsOfBreak l
of-break l h = elim (is_break_of_marks 42 (bytes_of l)) as (λ x. is_break_of_marks 42 (bytes_of l) ≡ x → (x || (is_break_of_marks 45 (bytes_of l) || is_break_of_marks 95 (bytes_of l))) ≡ true → AllByRecursion IsOfBreak l) [
  | true ↦ λ e h. of-marks 42 refl l e
  | false ↦ λ e h. elim (is_break_of_marks 45 (bytes_of l)) as (λ x. is_break_of_marks 45 (bytes_of l) ≡ x → (x || is_break_of_marks 95 (bytes_of l)) ≡ true → AllByRecursion IsOfBreak l) [
    | true ↦ λ e h. of-marks 45 refl l e
    | false ↦ λ e h. of-marks 95 refl l h
  ] refl h
] refl h

of-line : (l : List Seat) → is_thematic_break (unindented (bytes_of l)) ≡ true → AllByRecursion IsOfBreak l
of-line l h =
    all-with-front is_white IsOfBreak (λ s e. ap (λ w. w || ((s.byte == 42) || ((s.byte == 95) || (s.byte == 45)))) e) l
    (of-break (back is_white l) (ap is_thematic_break (sym (drop-bytes is_white l)) ∙ h))

module _ (g : Given) (t : Text) (k : Configuration Unit Unit) where
  -- so the first of lines is read, as its bytes come before its line ending
  text-read : (p : Point) (l rest : List Seat) (bound : ℕ) → length l ≤ bound → is_thematic_break (unindented (bytes_of l)) ≡ true → LineEnds rest → IsBreakHere g t k p → IsAt t k p (l ++ rest)
      → IsReadAs g t KeepsEdits k FlowBlankLineAfter l rest (span_marks g.bytes ThematicBreak l (break_marks g.bytes bound l)) (Retry FlowAfter)
  text-read p [] rest bound short is ends here at = absurd (let wrong : false ≡ true = is in cc)
  text-read p (s ∷ ss) rest zero short is ends here at = absurd (omega arith)
  text-read p (s ∷ ss) rest (suc bound) short is ends here at = line-read g t bound s ss (omega (arith, short)) (of-line (s ∷ ss) is) k p rest ends here at

  break-read : (line : Line) (more : List Line) → IsAtLines t k (line ∷ more) → is_thematic_break (unindented (text_of line)) ≡ true → IsBreakHere g t k (end_place t k.position)
      → IsBlockRead g t k FlowBlankLineAfter (line ∷ []) more ThematicBreak false (break_marks g.bytes (length line) (line_text line))
  break-read line more here is kind =
      let parts = first-parts line more here.are_lines in
      let counts : length line ≡ length (line_text line) + length (ending_of line) = ap length parts.is ∙ length-append (line_text line) (ending_of line) in
      text-read (end_place t k.position) (line_text line) (ending_of line ++ all_of more) (length line) (omega (arith, counts)) is parts.ends kind (at-first t k line more here)

pub breaks-read : BreaksAreRead
breaks-read g t k line more (inl found) = break-read g t k line more found.here (says g.options.constructs (text_of line) found.is_kind).1 (inl found.found.1)
breaks-read g t k line more (inr (found, on, is)) = break-read g t k line more found.here is (inr (found.found.1, on, found.found.2 ∙ is))
