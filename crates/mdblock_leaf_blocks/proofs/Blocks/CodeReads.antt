-- Indented code is read as its definition says.
use Rattle.mdblock_leaf_blocks.proofs.Prelude.{List, None, Some, [], ap, append-nil, append_assoc, arith, cond, drop, false, inl, inr, length, min, nat_le, refl, subst, suc, sym, take, true, zero, ℕ, ◌&&◌, ◌++◌, ◌+◌, ◌-◌, ◌<◌, ◌^◌, ◌∙◌, ◌∷◌, ◌≡◌, ◌≤◌, ◌⊎◌, and_parts, le-leb, leb-true, length-drop, AllByRecursion, end-after-append, Seat, end_after, CodeFlowChunk, CodeIndented, LineEnding, SpaceOrTab, Point, Name, Retry, CodeIndentedAfter, CodeIndentedAtBreak, CodeIndentedFurtherAfter, CodeIndentedFurtherBegin, CodeIndentedFurtherStart, CodeIndentedInside, CodeIndentedStart, FlowAfter, FlowBlankLineAfter, with_local, Configuration, Local, byte_of, end_place, seat_before, Given, Text, code_indented_inside, flow_byte, line_feed, unchanged, CodeIndentedLineAfter, AreLines, IndentedCodeIsRead, IsLine, IsReadAs, KeepsEdits, last_ending, Line, bytes_of, further_code, text_of, Mark, body, code_marks, leaf_marks, lines_marks, span_marks, white, indent, is_blank_line, IsInLine, LineEnds, is_white, all_of, ending_of, line_text}
use Rattle.mdblock_leaf_blocks.proofs.Blocks.CodeCalls.{Counted, IsRead, begins, chunk-begins, chunk-feed, chunk-other, feed-read, feeds, further-white, inside_runs, start-ends, start-on, white_runs}
use Rattle.mdblock_leaf_blocks.proofs.Blocks.CodeLooks.{ahead-is, code_ahead, further-is, further_by, look-from-feed}
use Rattle.mdblock_leaf_blocks.proofs.Lines.{AreRead, EndsWithIt, EndsWithout, Fails, IsAt, IsWhite, all-in-line, all-white, back_upto, byte-then, comes, cut-line, edits_kept, fails-line, first-parts, front_upto, goes, is_in_line, keeps-on, line-ending-is, line-text-is, lines-behind, none-then, one-more, prefix-grows, read-checked, reads-on, row-ends, run-on, says, seats-split, take-upto, then, then-ends, upto-all, upto-blank, upto-in-line, upto-short, upto-stops, upto-white, upto-whole, whole-before}
use Rattle.mdblock_leaf_blocks.proofs.Looks.ByteClasses.{white-no-feed}

module _ (g : Given) (t : Text) where
  -- the marks of a line of code that begins with white space
  code-marks : (s : Seat) (ss : List Seat) → IsWhite s → code_marks g.bytes 4 (s ∷ ss) ≡ white g.bytes (s ∷ front_upto 3 ss) ++ leaf_marks g.bytes CodeFlowChunk (back_upto 3 ss)
  code-marks s ss is =
      let (taken, left) = take-upto 4 (s ∷ ss) in
      let n = min 4 (indent (bytes_of (s ∷ ss))) in
      ap (λ w. white g.bytes w ++ leaf_marks g.bytes CodeFlowChunk (drop n (s ∷ ss))) (taken ∙ ap (λ w. cond w (s ∷ front_upto 3 ss) []) is)
      ∙ ap (λ b. white g.bytes (s ∷ front_upto 3 ss) ++ leaf_marks g.bytes CodeFlowChunk b) (left ∙ ap (λ w. cond w (back_upto 3 ss) (s ∷ ss)) is)

  -- ---- along a line
  start-run : (w : List Seat) (j : ℕ) → AllByRecursion IsWhite w → j + length w ≤ 4 → (k : Configuration Unit Unit) (p : Point) (rest : List Seat) → (j + length w ≡ 4) ⊎ Fails is_white rest → k.local.tokenize_state.space_or_tab_size ≡ j
      → IsAt t k p (w ++ rest) → IsRead g t k CodeIndentedStart w rest (goes g t SpaceOrTab (end_after p w)) CodeIndentedAtBreak
  start-run [] j all short k p rest (inl four) count at = let is_four : j ≡ 4 = omega (arith, four) in start-ends g t k p rest (inl (count ∙ is_four)) at
  start-run [] j all short k p rest (inr none) count at = start-ends g t k p rest (inr none) at
  start-run (s ∷ ss) j all short k p rest stop count at =
      let less : j < 4 = omega (arith, short) in
      let next : (suc j + length ss ≡ 4) ⊎ Fails is_white rest = elim stop as (λ h. (suc j + length ss ≡ 4) ⊎ Fails is_white rest) [ inl h ↦ inl (omega (arith, h)) | inr h ↦ inr h ] in
      reads-on g t (Counted (suc j)) KeepsEdits KeepsEdits (λ a b c one two. keeps-on a b c one.keeps two) k p CodeIndentedStart CodeIndentedStart (s ∷ []) ss rest [] (goes g t SpaceOrTab (end_after s.end ss)) (Retry CodeIndentedAtBreak) at
      (start-on g t k p s (ss ++ rest) j all.0 count less at)
      (λ k' at' kept. start-run ss (suc j) all.1 (omega (arith, short)) k' s.end rest next kept.count_is at')

  -- the indentation, whose first byte is read
  indent-read : (X : Name) (M : List Mark) (k : Configuration Unit Unit) (p : Point) (s : Seat) (w rest : List Seat) → IsReadAs g t (Counted 1) k X (s ∷ []) (w ++ rest) (M ++ comes g t SpaceOrTab s) (Retry CodeIndentedStart)
      → AllByRecursion IsWhite w → length w ≤ 3 → (length w ≡ 3) ⊎ Fails is_white rest → IsAt t k p ((s ∷ w) ++ rest) → IsRead g t k X (s ∷ w) rest (M ++ white g.bytes (s ∷ w)) CodeIndentedAtBreak
  indent-read X M k p s w rest first all short stop at =
      let stop' : (1 + length w ≡ 4) ⊎ Fails is_white rest = elim stop as (λ h. (1 + length w ≡ 4) ⊎ Fails is_white rest) [ inl h ↦ inl (omega (arith, h)) | inr h ↦ inr h ] in
      subst (λ m. IsRead g t k X (s ∷ w) rest m CodeIndentedAtBreak) (append_assoc M (comes g t SpaceOrTab s) (goes g t SpaceOrTab (end_after s.end w)))
      (reads-on g t (Counted 1) KeepsEdits KeepsEdits (λ a b c one two. keeps-on a b c one.keeps two) k p X CodeIndentedStart (s ∷ []) w rest (M ++ comes g t SpaceOrTab s) (goes g t SpaceOrTab (end_after s.end w)) (Retry CodeIndentedAtBreak) at first
      (λ k' at' kept. start-run w 1 all (omega (arith, short)) k' s.end rest stop' kept.count_is at'))

  -- a chunk, up to the end of its line
  chunk-run : (l : List Seat) → IsInLine l → is_blank_line (bytes_of l) ≡ false → (k : Configuration Unit Unit) (p : Point) (rest : List Seat) → IsAt t k p (l ++ rest) → IsRead g t k CodeIndentedFurtherAfter l rest [] CodeIndentedInside
  chunk-run [] h dark k p rest at = absurd (cc)
  chunk-run (s ∷ ss) h dark k p rest at =
      elim (is_white s.byte) as (λ w. is_white s.byte ≡ w → (w && is_blank_line (bytes_of ss)) ≡ false → IsRead g t k CodeIndentedFurtherAfter (s ∷ ss) rest [] CodeIndentedInside) [
        | true ↦ λ e d. byte-then g t edits_kept k p CodeIndentedFurtherAfter CodeIndentedFurtherAfter CodeIndentedInside s ss rest [] [] at
            (run-on g t edits_kept CodeIndentedFurtherAfter is_white white_runs (s ∷ []) (ss ++ rest) (e, tt) k p at) (λ k' at' kept. chunk-run ss h.1 d k' s.end rest at')
        | false ↦ λ e d. byte-then g t edits_kept k p CodeIndentedFurtherAfter CodeIndentedInside CodeIndentedInside s ss rest [] [] at
            (chunk-other g t k p s (ss ++ rest) h.0 e at) (λ k' at' kept. run-on g t edits_kept CodeIndentedInside is_in_line inside_runs ss rest (all-in-line ss h.1) k' s.end at')
      ] refl dark

  -- ---- at the end of a line of code
  module _ (room : length t.seats < 2 ^ 64 - 1) (k : Configuration Unit Unit) (p : Point) (e : Seat) (rest : List Seat) (feed : e.byte ≡ 10) (at : IsAt t k p (e ∷ rest)) where
    less : length rest < 2 ^ 64 - 1
    less = let left = ap length at.left in let dropped = length-drop k.position t.seats in omega (arith, left, dropped, room)

    there : (local : Local Unit Unit) → IsAt t (with_local k local) p (e ∷ rest)
    there local = record { behind = at.behind; left = at.left; waits = at.waits }

    ahead-read : (line rest' : List Seat) (marks : List Mark) (to : Name) → ((local : Local Unit Unit) → IsRead g t (with_local k local) (cond (code_ahead 0 rest) CodeIndentedLineAfter CodeIndentedAfter) line rest' marks to)
        → IsRead g t k CodeIndentedInside line rest' marks to
    ahead-read line rest' marks to read =
        let h = look-from-feed g t k.stack k.events e rest feed (byte_of (seat_before t k.position)) k.position k.ended (unchanged k.local) less in
        read-checked g t k e rest at.left at.waits CodeIndentedInside CodeIndentedFurtherStart CodeIndentedLineAfter CodeIndentedAfter code_indented_inside refl line_feed (ap flow_byte feed) [] (λ previous. refl)
        (code_ahead 0 rest) h.answer KeepsEdits (λ after kept. record { edits = kept.edits ∙ h.keeps.edits; resolvers = kept.resolvers ∙ h.keeps.resolvers }) line rest' marks (Retry to) (read _)

    further : code_ahead 0 rest ≡ true → IsRead g t k CodeIndentedInside (e ∷ []) rest (goes g t CodeFlowChunk p ++ feeds g t e) CodeIndentedFurtherBegin
    further ahead = ahead-read (e ∷ []) rest (goes g t CodeFlowChunk p ++ feeds g t e) CodeIndentedFurtherBegin
        (λ local. rw ahead (chunk-feed g t _ p CodeIndentedLineAfter (λ b. refl) e rest feed (there local)))

    last : code_ahead 0 rest ≡ false → IsRead g t k CodeIndentedInside [] (e ∷ rest) (goes g t CodeFlowChunk p ++ goes g t CodeIndented p) FlowAfter
    last ahead = ahead-read [] (e ∷ rest) (goes g t CodeFlowChunk p ++ goes g t CodeIndented p) FlowAfter
        (λ local. rw ahead (row-ends g t edits_kept CodeIndentedAfter (CodeFlowChunk ∷ CodeIndented ∷ []) FlowAfter _ p (e ∷ rest) (Some line_feed) (there local) (ap (λ b. Some (flow_byte b)) feed) (λ b. refl)))

-- one further line at least: how many are behind it
more-further : (f n : ℕ) → cond (nat_le 1 f) (suc f) 0 ≡ suc n → (n ≡ f) × (1 ≤ f)
more-further f n h = elim (nat_le 1 f) as (λ b. nat_le 1 f ≡ b → cond b (suc f) 0 ≡ suc n → (n ≡ f) × (1 ≤ f)) [
  | true ↦ λ e h. (omega (arith, h), leb-true 1 f e)
  | false ↦ λ e h. absurd (cc)
] refl h

module _ (g : Given) (t : Text) where
  -- ---- lines
  blank-chunk : (b : List Seat) (e : Seat) (rest : List Seat) → AllByRecursion IsWhite b → e.byte ≡ 10 → (k : Configuration Unit Unit) (p : Point) → IsAt t k p ((b ++ e ∷ []) ++ rest)
      → IsRead g t k CodeIndentedAtBreak (b ++ e ∷ []) rest (leaf_marks g.bytes CodeFlowChunk b ++ feeds g t e) CodeIndentedFurtherBegin
  blank-chunk [] e rest all feed k p at = feed-read g t k p CodeIndentedAtBreak (λ b. refl) e rest feed at
  blank-chunk (c ∷ cs) e rest all feed k p at =
      let q = end_after c.end cs in
      none-then g t edits_kept k p CodeIndentedAtBreak CodeIndentedFurtherAfter CodeIndentedFurtherBegin ((c ∷ cs) ++ e ∷ []) rest (comes g t CodeFlowChunk c) (goes g t CodeFlowChunk q ++ feeds g t e) at
      (chunk-begins g t k p c ((cs ++ e ∷ []) ++ rest) (white-no-feed c.byte all.0) at)
      (λ k' at' kept. then g t edits_kept k' p CodeIndentedFurtherAfter CodeIndentedFurtherAfter CodeIndentedFurtherBegin (c ∷ cs) (e ∷ []) ((c ∷ cs) ++ e ∷ []) rest refl [] (λ _. goes g t CodeFlowChunk q ++ feeds g t e) at'
      (λ at''. run-on g t edits_kept CodeIndentedFurtherAfter is_white white_runs (c ∷ cs) (e ∷ rest) all k' p at'') (λ k'' at'' kept'. chunk-feed g t k'' q CodeIndentedFurtherAfter (λ b. refl) e rest feed at''))

  -- a blank line between lines of code
  blank-line : (text : List Seat) (e : Seat) (rest : List Seat) → AllByRecursion IsWhite text → e.byte ≡ 10 → (k : Configuration Unit Unit) (p : Point) → IsAt t k p ((text ++ e ∷ []) ++ rest)
      → IsRead g t k CodeIndentedFurtherBegin (text ++ e ∷ []) rest (code_marks g.bytes 4 text ++ feeds g t e) CodeIndentedFurtherBegin
  blank-line [] e rest all feed k p at = feed-read g t k p CodeIndentedFurtherBegin (λ b. refl) e rest feed at
  blank-line (s ∷ ss) e rest all feed k p at =
      let w = front_upto 3 ss in
      let b = back_upto 3 ss in
      let whole : (s ∷ w) ++ (b ++ e ∷ []) ≡ (s ∷ ss) ++ e ∷ [] = ap (λ l. s ∷ l) (sym (append_assoc w b (e ∷ [])) ∙ ap (λ l. l ++ e ∷ []) (upto-whole 3 ss)) in
      let marks : code_marks g.bytes 4 (s ∷ ss) ++ feeds g t e ≡ white g.bytes (s ∷ w) ++ (leaf_marks g.bytes CodeFlowChunk b ++ feeds g t e) =
      ap (λ m. m ++ feeds g t e) (code-marks g t s ss all.0) ∙ append_assoc (white g.bytes (s ∷ w)) (leaf_marks g.bytes CodeFlowChunk b) (feeds g t e) in
      let stop : (length w ≡ 3) ⊎ Fails is_white ((b ++ e ∷ []) ++ rest) = elim (upto-stops 3 ss) as (λ h. (length w ≡ 3) ⊎ Fails is_white ((b ++ e ∷ []) ++ rest)) [
        | inl h ↦ inl h
        | inr h ↦ inr (subst (Fails is_white) (sym (append_assoc b (e ∷ []) rest)) (fails-line is_white refl b (e ∷ rest) h feed))
      ] in
      subst (λ m. IsRead g t k CodeIndentedFurtherBegin ((s ∷ ss) ++ e ∷ []) rest m CodeIndentedFurtherBegin) (sym marks)
      (then g t edits_kept k p CodeIndentedFurtherBegin CodeIndentedAtBreak CodeIndentedFurtherBegin (s ∷ w) (b ++ e ∷ []) ((s ∷ ss) ++ e ∷ []) rest whole (white g.bytes (s ∷ w)) (λ _. leaf_marks g.bytes CodeFlowChunk b ++ feeds g t e) at
      (λ at'. indent-read g t CodeIndentedFurtherBegin [] k p s w ((b ++ e ∷ []) ++ rest) (further-white g t k p s (w ++ ((b ++ e ∷ []) ++ rest)) all.0 at') (upto-white 3 ss) (upto-short 3 ss) stop at')
      (λ k' at' kept. blank-chunk b e rest (upto-all IsWhite 3 ss all.1) feed k' (end_after p (s ∷ w)) at'))

  -- the text of a line of code
  code-text : (X : Name) (M : List Mark) (s c : Seat) (ss cs rest : List Seat) → IsWhite s → back_upto 3 ss ≡ c ∷ cs → IsInLine ss → is_blank_line (bytes_of ss) ≡ false → LineEnds rest → (k : Configuration Unit Unit) (p : Point)
      → ((rest' : List Seat) → IsAt t k p (s ∷ rest') → IsReadAs g t (Counted 1) k X (s ∷ []) rest' (M ++ comes g t SpaceOrTab s) (Retry CodeIndentedStart))
      → IsAt t k p ((s ∷ ss) ++ rest) → IsRead g t k X (s ∷ ss) rest (M ++ (white g.bytes (s ∷ front_upto 3 ss) ++ comes g t CodeFlowChunk c)) CodeIndentedInside
  code-text X M s c ss cs rest is split in_line dark ends k p first at =
      let w = front_upto 3 ss in
      let b = c ∷ cs in
      let q = end_after p (s ∷ w) in
      let whole : (s ∷ w) ++ b ≡ s ∷ ss = ap (λ l. s ∷ l) (ap (λ l. w ++ l) (sym split) ∙ upto-whole 3 ss) in
      let b_in_line : IsInLine b = subst IsInLine split (upto-in-line 3 ss in_line) in
      let b_dark : is_blank_line (bytes_of b) ≡ false = ap (λ l. is_blank_line (bytes_of l)) (sym split) ∙ upto-blank 3 ss ∙ dark in
      let stop : (length w ≡ 3) ⊎ Fails is_white (b ++ rest) = elim (upto-stops 3 ss) as (λ h. (length w ≡ 3) ⊎ Fails is_white (b ++ rest)) [ inl h ↦ inl h | inr h ↦ inr (subst (Fails is_white) split h) ] in
      subst (λ m. IsRead g t k X (s ∷ ss) rest m CodeIndentedInside) (append_assoc M (white g.bytes (s ∷ w)) (comes g t CodeFlowChunk c))
      (then g t edits_kept k p X CodeIndentedAtBreak CodeIndentedInside (s ∷ w) b (s ∷ ss) rest whole (M ++ white g.bytes (s ∷ w)) (λ _. comes g t CodeFlowChunk c) at
      (λ at'. indent-read g t X M k p s w (b ++ rest) (first (w ++ (b ++ rest)) at') (upto-white 3 ss) (upto-short 3 ss) stop at')
      (λ k' at' kept. none-then g t edits_kept k' q CodeIndentedAtBreak CodeIndentedFurtherAfter CodeIndentedInside b rest (comes g t CodeFlowChunk c) [] at' (chunk-begins g t k' q c (cs ++ rest) b_in_line.0 at')
      (λ k'' at'' kept'. chunk-run g t b b_in_line b_dark k'' q rest at'')))

-- The text of a line of code: white space comes first, and a chunk behind four columns of it
record CodeText (l : List Seat) : Type 0 where
  s : Seat
  ss : List Seat
  c : Seat
  cs : List Seat
  is : l ≡ s ∷ ss
  white_first : IsWhite s
  split : back_upto 3 ss ≡ c ∷ cs
  in_line : IsInLine ss
  dark : is_blank_line (bytes_of ss) ≡ false

code-text-is : (l : List Seat) → is_blank_line (bytes_of l) ≡ false → nat_le 4 (indent (bytes_of l)) ≡ true → IsInLine l → CodeText l
code-text-is [] dark far in_line = absurd (cc)
code-text-is (s ∷ ss) dark far in_line =
    let first : IsWhite s =
    elim (is_white s.byte) as (λ w. nat_le 4 (cond w (suc (indent (bytes_of ss))) 0) ≡ true → w ≡ true) [ true ↦ λ h. refl | false ↦ λ h. absurd (let wrong : false ≡ true = h in cc) ]
    (ap (nat_le 4) (sym (prefix-grows is_white s.byte (bytes_of ss))) ∙ far) in
    let more : is_blank_line (bytes_of ss) ≡ false = ap (λ w. w && is_blank_line (bytes_of ss)) (sym first) ∙ dark in
    let b_dark : is_blank_line (bytes_of (back_upto 3 ss)) ≡ false = upto-blank 3 ss ∙ more in
    elim (back_upto 3 ss) as (λ b. back_upto 3 ss ≡ b → is_blank_line (bytes_of b) ≡ false → CodeText (s ∷ ss)) [
      | [] ↦ λ e d. absurd (let wrong : true ≡ false = d in cc)
      | c ∷ cs ↦ λ e d. record { s = s; ss = ss; c = c; cs = cs; is = refl; white_first = first; split = e; in_line = in_line.1; dark = more }
    ] refl b_dark

module _ (g : Given) (t : Text) (is_on : g.options.constructs.code_indented ≡ true) (room : length t.seats < 2 ^ 64 - 1) where
  abbrev count : List Line → ℕ
  count lines = further_code g.options.constructs lines

  -- lines are read, up to the end of the block
  abbrev LinesRead : (X : Name) (M : List Mark) → Configuration Unit Unit → Point → (lines behind : List Line) → Type 0
  LinesRead X M k p lines behind = AreRead g t edits_kept (code_marks g.bytes 4) (goes g t CodeIndented) k X p M false lines behind

  -- the last line's end
  code-ends : (line : Line) (more : List Line) → AreLines (line ∷ more) → EndsWithIt line ⊎ EndsWithout line more → count more ≡ 0 → (k : Configuration Unit Unit) (p : Point) → IsAt t k p (ending_of line ++ all_of more)
      → IsRead g t k CodeIndentedInside [] (ending_of line ++ all_of more) (goes g t CodeFlowChunk p ++ goes g t CodeIndented p) FlowAfter
  code-ends line more are (inl with) none k p at =
      let rest : ending_of line ++ all_of more ≡ with.ending ∷ all_of more = ap (λ e. e ++ all_of more) with.is in
      let ahead : code_ahead 0 (all_of more) ≡ false = ahead-is g.options.constructs is_on more (lines-behind line more are) ∙ ap (nat_le 1) none in
      subst (λ r. IsRead g t k CodeIndentedInside [] r (goes g t CodeFlowChunk p ++ goes g t CodeIndented p) FlowAfter) (sym rest)
      (last g t room k p with.ending (all_of more) with.feed (subst (λ r. IsAt t k p r) rest at) ahead)
  code-ends line more are (inr without) none k p at =
      let rest : ending_of line ++ all_of more ≡ [] = ap (λ e. e ++ all_of more) without.is ∙ ap all_of without.last in
      subst (λ r. IsRead g t k CodeIndentedInside [] r (goes g t CodeFlowChunk p ++ goes g t CodeIndented p) FlowAfter) (sym rest) (row-ends g t edits_kept CodeIndentedInside (CodeFlowChunk ∷ CodeIndented ∷ []) FlowAfter k p [] None (subst (λ r. IsAt t k p r) rest at) refl (λ b. refl))

  -- the marks of a line's text
  text-marks : (l : List Seat) (h : CodeText l) (p : Point) → code_marks g.bytes 4 l ≡ white g.bytes (h.s ∷ front_upto 3 h.ss) ++ (comes g t CodeFlowChunk h.c ++ goes g t CodeFlowChunk (end_after p l))
  text-marks l h p =
      let w = front_upto 3 h.ss in
      let q = end_after h.c.end h.cs in
      let end : q ≡ end_after p l =
      sym (end-after-append h.s.end w (h.c ∷ h.cs)) ∙ ap (end_after h.s.end) (ap (λ b. w ++ b) (sym h.split) ∙ upto-whole 3 h.ss) ∙ ap (end_after p) (sym h.is) in
      ap (code_marks g.bytes 4) h.is ∙ code-marks g t h.s h.ss h.white_first ∙ ap (λ b. white g.bytes (h.s ∷ w) ++ leaf_marks g.bytes CodeFlowChunk b) h.split
      ∙ ap (λ q. white g.bytes (h.s ∷ w) ++ (comes g t CodeFlowChunk h.c ++ goes g t CodeFlowChunk q)) end

  five : (m a b c d : List Mark) → (m ++ (a ++ b)) ++ (c ++ d) ≡ m ++ (((a ++ (b ++ c)) ++ []) ++ d)
  five m a b c d = simp (append_assoc, append-nil)

  four : (m a b c d : List Mark) → (m ++ (a ++ b)) ++ (c ++ d) ≡ m ++ ((a ++ (b ++ c)) ++ d)
  four m a b c d = simp append_assoc

  abbrev First : (X : Name) (M : List Mark) → Configuration Unit Unit → Point → Seat → Type 0
  First X M k p s = (rest : List Seat) → IsAt t k p (s ∷ rest) → IsReadAs g t (Counted 1) k X (s ∷ []) rest (M ++ comes g t SpaceOrTab s) (Retry CodeIndentedStart)

  -- a line's text, before its ending
  text-read : (X : Name) (M : List Mark) (line : Line) (more : List Line) → AreLines (line ∷ more) → (h : CodeText (line_text line)) → (k : Configuration Unit Unit) (p : Point) → First X M k p h.s
      → IsAt t k p (line_text line ++ (ending_of line ++ all_of more))
      → IsRead g t k X (line_text line) (ending_of line ++ all_of more) (M ++ (white g.bytes (h.s ∷ front_upto 3 h.ss) ++ comes g t CodeFlowChunk h.c)) CodeIndentedInside
  text-read X M line more are h k p first at =
      let rest = ending_of line ++ all_of more in
      subst (λ l. IsRead g t k X l rest (M ++ (white g.bytes (h.s ∷ front_upto 3 h.ss) ++ comes g t CodeFlowChunk h.c)) CodeIndentedInside) (sym h.is)
      (code-text g t X M h.s h.c h.ss h.cs rest h.white_first h.split h.in_line h.dark (first-parts line more are).ends k p first (subst (λ l. IsAt t k p (l ++ rest)) h.is at))

  -- where a line of code is the last one
  last-line : (X : Name) (M : List Mark) (line : Line) (more : List Line) → count more ≡ 0 → AreLines (line ∷ more) → (h : CodeText (line_text line)) → (k : Configuration Unit Unit) (p : Point) → First X M k p h.s
      → IsAt t k p (line_text line ++ (ending_of line ++ all_of more)) → LinesRead X M k p (line ∷ []) more
  last-line X M line more none are h k p first at =
      let text = line_text line in
      let rest = ending_of line ++ all_of more in
      let q = end_after p text in
      let lw = white g.bytes (h.s ∷ front_upto 3 h.ss) in
      let x = comes g t CodeFlowChunk h.c in
      let y = goes g t CodeFlowChunk q in
      let z = goes g t CodeIndented q in
      subst (λ m. IsRead g t k X text rest m FlowAfter) (five M lw x y z ∙ ap (λ m. M ++ ((m ++ []) ++ z)) (sym (text-marks text h p)))
      (then-ends g t edits_kept k p X CodeIndentedInside FlowAfter text rest (M ++ (lw ++ x)) (y ++ z) at
      (text-read X M line more are h k p first at)
      (λ k' at' kept. code-ends line more are (cut-line line more are).ends none k' q at'))

  -- or others follow
  line-before : (X : Name) (M : List Mark) (line next : Line) (lines behind more : List Line) → 1 ≤ count more → body (next ∷ lines) ++ (last_ending (next ∷ lines) ++ all_of behind) ≡ all_of more → AreLines more → IsLine line
      → (h : CodeText (line_text line)) → (k : Configuration Unit Unit) (p : Point) → First X M k p h.s
      → ((k' : Configuration Unit Unit) (q : Point) → IsAt t k' q (all_of more) → LinesRead CodeIndentedFurtherBegin [] k' q (next ∷ lines) behind)
      → IsAt t k p (line ++ all_of more) → LinesRead X M k p (line ∷ next ∷ lines) behind
  line-before X M line next lines behind more some split are is h k p first further_are at =
      let ending_is = line-ending-is line is in
      let e = is.ending in
      let text = line_text line in
      let q = end_after p text in
      let lw = white g.bytes (h.s ∷ front_upto 3 h.ss) in
      let x = comes g t CodeFlowChunk h.c in
      let y = goes g t CodeFlowChunk q in
      let whole : text ++ e ∷ [] ≡ line = ap (λ l. l ++ e ∷ []) (line-text-is line is) ∙ sym is.is in
      let ahead : code_ahead 0 (all_of more) ≡ true = ahead-is g.options.constructs is_on more are ∙ le-leb 1 (count more) some in
      let rest_is : ending_of line ++ all_of more ≡ e ∷ all_of more = ap (λ c. c ++ all_of more) ending_is in
      one-more g t edits_kept (code_marks g.bytes 4) (goes g t CodeIndented) k X CodeIndentedFurtherBegin p M false line (next ∷ lines) behind (all_of more) tt split at
      (λ at. subst (λ m. IsRead g t k X line (all_of more) m CodeIndentedFurtherBegin)
      (four M lw x y (feeds g t e) ∙ ap (λ m. M ++ (m ++ feeds g t e)) (sym (text-marks text h p)) ∙ ap (λ c. M ++ (code_marks g.bytes 4 text ++ leaf_marks g.bytes LineEnding c)) (sym ending_is))
      (then g t edits_kept k p X CodeIndentedInside CodeIndentedFurtherBegin text (e ∷ []) line (all_of more) whole (M ++ (lw ++ x)) (λ _. y ++ feeds g t e) at
      (λ at'. subst (λ r. IsRead g t k X text r (M ++ (lw ++ x)) CodeIndentedInside) rest_is (text-read X M line more (whole-before line more is are) h k p first (subst (λ r. IsAt t k p (text ++ r)) (sym rest_is) at')))
      (λ k' at' kept. further g t room k' q e (all_of more) is.ends at' ahead)))
      (λ k' q at' kept. further_are k' q at')

  -- what is behind a line
  abbrev Then : List Line → Type 0
  Then more = (m : ℕ) → suc m ≡ count more → (k : Configuration Unit Unit) (q : Point) → IsAt t k q (all_of more) → LinesRead CodeIndentedFurtherBegin [] k q (take (suc m) more) (drop (suc m) more)

  -- from a line of code on
  from-line : (X : Name) (M : List Mark) (line : Line) (more : List Line) (n : ℕ) → n ≡ count more → AreLines (line ∷ more) → (h : CodeText (line_text line)) → (k : Configuration Unit Unit) (p : Point) → First X M k p h.s → Then more
      → IsAt t k p (all_of (line ∷ more)) → LinesRead X M k p (take (suc n) (line ∷ more)) (drop (suc n) (line ∷ more))
  from-line X M line more zero e are h k p first behind_it at =
      let split : line ++ all_of more ≡ line_text line ++ (ending_of line ++ all_of more) = ap (λ l. l ++ all_of more) (first-parts line more are).is ∙ append_assoc (line_text line) (ending_of line) (all_of more) in
      last-line X M line more (sym e) are h k p first (subst (λ l. IsAt t k p l) split at)
  from-line X M line [] (suc n) e are h k p first behind_it at = absurd (cc)
  from-line X M line (next ∷ more) (suc n) e are h k p first behind_it at =
      line-before X M line next (take n more) (drop n more) (next ∷ more) (omega (arith, e)) (seats-split false (suc n) (next ∷ more) are.1) are.1 are.0 h k p first (λ k' q at'. behind_it n e k' q at') at

  -- from a blank line on
  from-blank : (line : Line) (more : List Line) (n : ℕ) → n ≡ count more → 1 ≤ count more → AreLines (line ∷ more) → is_blank_line (text_of line) ≡ true → (k : Configuration Unit Unit) (p : Point) → Then more
      → IsAt t k p (all_of (line ∷ more)) → LinesRead CodeIndentedFurtherBegin [] k p (take (suc n) (line ∷ more)) (drop (suc n) (line ∷ more))
  from-blank line more zero e some are is k p behind_it at = absurd (omega (arith, e, some))
  from-blank line [] (suc n) e some are is k p behind_it at = absurd (cc)
  from-blank line (next ∷ more) (suc n) e some are is k p behind_it at =
      let whole_line = are.0 in
      let text = line_text line in
      let feed = whole_line.ending in
      let whole : text ++ feed ∷ [] ≡ line = ap (λ l. l ++ feed ∷ []) (line-text-is line whole_line) ∙ sym whole_line.is in
      let rest = all_of (next ∷ more) in
      one-more g t edits_kept (code_marks g.bytes 4) (goes g t CodeIndented) k CodeIndentedFurtherBegin CodeIndentedFurtherBegin p [] false line (next ∷ take n more) (drop n more) rest tt (seats-split false (suc n) (next ∷ more) are.1) at
      (λ at. subst (λ m. IsRead g t k CodeIndentedFurtherBegin line rest m CodeIndentedFurtherBegin) (ap (λ c. code_marks g.bytes 4 text ++ leaf_marks g.bytes LineEnding c) (sym (line-ending-is line whole_line)))
      (subst (λ l. IsAt t k p (l ++ rest) → IsRead g t k CodeIndentedFurtherBegin l rest (code_marks g.bytes 4 text ++ feeds g t feed) CodeIndentedFurtherBegin) whole (λ at. blank-line g t text feed rest (all-white text is) whole_line.ends k p at) at))
      (λ k' q at' kept. behind_it n e k' q at')

  -- further lines
  tail : (lines : List Line) → AreLines lines → Then lines
  tail [] are n e k p at = absurd (cc)
  tail (line ∷ more) are n e k p at =
      let b = is_blank_line (text_of line) in
      let far = nat_le 4 (indent (text_of line)) in
      let by : further_by g.options.constructs is_on b far (count more) ≡ suc n = sym (further-is g.options.constructs is_on line more) ∙ sym e in
      let behind_it : Then more = λ m e' k' q at'. tail more (lines-behind line more are) m e' k' q at' in
      let Goal : Type 0 = LinesRead CodeIndentedFurtherBegin [] k p (take (suc n) (line ∷ more)) (drop (suc n) (line ∷ more)) in
      elim b as (λ x. b ≡ x → further_by g.options.constructs is_on x far (count more) ≡ suc n → Goal) [
        | true ↦ λ is h. let (same, some) = more-further (count more) n h in from-blank line more n same some are is k p behind_it at
        | false ↦ λ is. elim far as (λ f. far ≡ f → further_by g.options.constructs is_on false f (count more) ≡ suc n → Goal) [
          | true ↦ λ four h.
              let text = code-text-is (line_text line) is four (first-parts line more are).in_line in
              let same : n ≡ count more = omega (arith, h) in
              from-line CodeIndentedFurtherBegin [] line more n same are text k p (λ rest at'. further-white g t k p text.s rest text.white_first at') behind_it at
          | false ↦ λ four h. absurd (cc)
        ] refl
      ] refl by

-- the first byte of lines
record Begins (s : Seat) (l : List Seat) : Type 0 where
  others : List Seat
  is : l ≡ s ∷ others

begins-body : (line : Line) (lines : List Line) (s : Seat) (ss : List Seat) → line_text line ≡ s ∷ ss → line ≡ line_text line ++ ending_of line → Begins s (body (line ∷ lines))
begins-body line [] s ss text whole = record { others = ss; is = text }
begins-body line (next ∷ lines) s ss text whole = record { others = (ss ++ ending_of line) ++ body (next ∷ lines); is = ap (λ l. l ++ body (next ∷ lines)) (whole ∙ ap (λ l. l ++ ending_of line) text) }

span-is : (g : Given) (t : Text) (p : Point) (l : List Seat) (s : Seat) (inside : List Mark) → Begins s l → span_marks g.bytes CodeIndented l inside ≡ comes g t CodeIndented s ++ (inside ++ goes g t CodeIndented (end_after p l))
span-is g t p l s inside h = subst (λ l. span_marks g.bytes CodeIndented l inside ≡ comes g t CodeIndented s ++ (inside ++ goes g t CodeIndented (end_after p l))) (sym h.is) refl

pub indented-code-read : IndentedCodeIsRead
indented-code-read g t k line more found =
    let on = g.options.constructs in
    let n = further_code on more in
    let (dark, far) = says on (text_of line) found.is_kind in
    let (is_on, four) = and_parts on.code_indented (nat_le 4 (indent (text_of line))) far in
    let are = found.here.are_lines in
    let parts = first-parts line more are in
    let h = code-text-is (line_text line) dark four parts.in_line in
    let p = end_place t k.position in
    let lines = line ∷ take n more in
    let inside = lines_marks g.bytes (code_marks g.bytes 4) false lines in
    subst (λ m. IsRead g t k FlowBlankLineAfter (body lines) (last_ending lines ++ all_of (drop n more)) m FlowAfter) (sym (span-is g t p (body lines) h.s inside (begins-body line (take n more) h.s h.ss h.is parts.is)))
    (from-line g t is_on found.here.room FlowBlankLineAfter (comes g t CodeIndented h.s) line more n refl are h k p (λ rest at. begins g t k p h.s rest found.found.1 h.white_first at)
    (tail g t is_on found.here.room more (lines-behind line more are)) (record { behind = refl; left = found.here.at; waits = found.here.waits }))
