-- Blank lines are read as their definition says.
use Rattle.mdblock_leaf_blocks.proofs.Prelude.{List, None, [], ap, append-nil, arith, length, refl, subst, sym, ◌++◌, ◌∙◌, ◌∷◌, ◌≡◌, ◌≤◌, AllByRecursion, Seat, end_after, Enter, Exit, BlankLineEnding, SpaceOrTab, Point, Next, Ok, BlankLineStart, FlowBlankLineAfter, FlowStart, Configuration, end_place, Given, Text, blank, flow_byte, line_feed, BlankLinesAreRead, IsReadAs, KeepsEdits, bytes_of, text_of, Mark, leaf_marks, white, is_blank_line, is_white, all_of, line_text, event, consume, enter, exit}
use Rattle.mdblock_leaf_blocks.proofs.Lines.{byte-then, edits_kept, run-on, white-runs, IsAt, IsWhite, all-white, at-first, in-line-ending, in-line-text, keeps-on, line-ending-is, line-text-is, reads-on, row-stays, row-takes, row-takes-on, says, white-is-blank}

module _ (g : Given) (t : Text) where
  -- the line ending, or the end of the text
  abbrev closing : Point → Seat → List Mark
  closing p e = (event g.bytes Exit SpaceOrTab p, None) ∷ (event g.bytes Enter BlankLineEnding e.point, None) ∷ (event g.bytes Exit BlankLineEnding e.end, None) ∷ []

  ends-line : (k : Configuration Unit Unit) (p : Point) (e : Seat) (rest : List Seat) → e.byte ≡ 10 → IsAt t k p (e ∷ rest) → IsReadAs g t KeepsEdits k BlankLineStart (e ∷ []) rest (closing p e) (Next FlowStart)
  ends-line k p e rest feed at =
      row-takes g t KeepsEdits k BlankLineStart p e rest line_feed (exit SpaceOrTab ∷ enter BlankLineEnding ∷ consume ∷ exit BlankLineEnding ∷ []) FlowStart at (ap flow_byte feed) refl tt refl (record { edits = refl; resolvers = refl })

  ends-text : (k : Configuration Unit Unit) (p : Point) → IsAt t k p [] → IsReadAs g t KeepsEdits k BlankLineStart [] [] ((event g.bytes Exit SpaceOrTab p, None) ∷ []) Ok
  ends-text k p at = row-stays g t KeepsEdits k BlankLineStart p [] None (exit SpaceOrTab ∷ []) Ok at refl refl tt refl refl (record { edits = refl; resolvers = refl })

  -- white space, and what is read behind it
  white-read : (k : Configuration Unit Unit) (p : Point) (s : Seat) (ss more rest : List Seat) (marks : List Mark) (to : _) → AllByRecursion IsWhite (s ∷ ss) → k.local.tokenize_state.token_1 ≡ BlankLineEnding
      → IsAt t k p (s ∷ (ss ++ (more ++ rest)))
      → ((k' : Configuration Unit Unit) → IsAt t k' (end_after s.end ss) (more ++ rest) → IsReadAs g t KeepsEdits k' BlankLineStart more rest marks to)
      → IsReadAs g t KeepsEdits k FlowBlankLineAfter (s ∷ (ss ++ more)) rest ((event g.bytes Enter SpaceOrTab s.point, None) ∷ marks) to
  white-read k p s ss more rest marks to all kind at behind =
      reads-on g t KeepsEdits KeepsEdits KeepsEdits keeps-on k p FlowBlankLineAfter BlankLineStart (s ∷ ss) more rest ((event g.bytes Enter SpaceOrTab s.point, None) ∷ []) marks to at
      (byte-then g t edits_kept k p FlowBlankLineAfter BlankLineStart BlankLineStart s ss (more ++ rest) ((event g.bytes Enter SpaceOrTab s.point, None) ∷ []) [] at
      (row-takes-on g t KeepsEdits k FlowBlankLineAfter p s (ss ++ (more ++ rest)) blank (enter SpaceOrTab ∷ consume ∷ []) BlankLineStart at (white-is-blank s.byte all.0) (rw kind refl) tt refl (edits_kept.same k.local))
      (λ k' at' kept. run-on g t edits_kept BlankLineStart is_white (white-runs BlankLineStart (λ b. refl)) ss (more ++ rest) all.1 k' s.end at'))
      (λ k' at' kept. behind k' at')

  with-ending : (k : Configuration Unit Unit) (p : Point) (text : List Seat) (e : Seat) (rest : List Seat) → 1 ≤ length text → AllByRecursion IsWhite text → e.byte ≡ 10 → k.local.tokenize_state.token_1 ≡ BlankLineEnding
      → IsAt t k p (text ++ (e ∷ rest)) → IsReadAs g t KeepsEdits k FlowBlankLineAfter (text ++ e ∷ []) rest (white g.bytes text ++ leaf_marks g.bytes BlankLineEnding (e ∷ [])) (Next FlowStart)
  with-ending k p [] e rest long all feed kind at = absurd (omega arith)
  with-ending k p (s ∷ ss) e rest long all feed kind at =
      white-read k p s ss (e ∷ []) rest (closing (end_after s.end ss) e) (Next FlowStart) all kind at (λ k' at'. ends-line k' (end_after s.end ss) e rest feed at')

  at-end : (k : Configuration Unit Unit) (p : Point) (text : List Seat) → 1 ≤ length text → AllByRecursion IsWhite text → k.local.tokenize_state.token_1 ≡ BlankLineEnding → IsAt t k p (text ++ [])
      → IsReadAs g t KeepsEdits k FlowBlankLineAfter (text ++ []) [] (white g.bytes text) Ok
  at-end k p [] long all kind at = absurd (omega arith)
  at-end k p (s ∷ ss) long all kind at =
      white-read k p s ss [] [] ((event g.bytes Exit SpaceOrTab (end_after s.end ss), None) ∷ []) Ok all kind at (λ k' at'. ends-text k' (end_after s.end ss) at')

pub blank-lines-read : BlankLinesAreRead
blank-lines-read = record {
  with_ending = λ g t k line more found h long.
      let text_is = line-text-is line h in
      let ending_is = line-ending-is line h in
      let all = all-white (line_text line) (says g.options.constructs (text_of line) found.is_kind) in
      let p = end_place t k.position in
      let Read : List Seat → List Seat → List Seat → Type 0 = λ line text ending.
      IsReadAs g t KeepsEdits k FlowBlankLineAfter line (all_of more) (white g.bytes text ++ leaf_marks g.bytes BlankLineEnding ending) (Next FlowStart) in
      let base : Read (line_text line ++ h.ending ∷ []) (line_text line) (h.ending ∷ []) =
      with-ending g t k p (line_text line) h.ending (all_of more) long all h.ends found.found.1 (subst (λ e. IsAt t k p (line_text line ++ (e ++ all_of more))) ending_is (at-first t k line more found.here)) in
      subst (λ e. Read line (line_text line) e) (sym ending_is) (subst (λ l. Read l (line_text line) (h.ending ∷ [])) (ap (λ l. l ++ h.ending ∷ []) text_is ∙ sym h.is) base);
  at_end = λ g t k line found in_line long.
      let text_is = in-line-text line in_line in
      let ending_is = in-line-ending line in_line in
      let all = all-white line (ap is_blank_line (ap bytes_of (sym text_is)) ∙ says g.options.constructs (text_of line) found.is_kind) in
      let p = end_place t k.position in
      let here : IsAt t k p (line ++ []) =
      subst (λ l. IsAt t k p (l ++ [])) text_is (subst (λ e. IsAt t k p (line_text line ++ (e ++ []))) ending_is (at-first t k line [] found.here)) in
      subst (λ l. IsReadAs g t KeepsEdits k FlowBlankLineAfter l [] (white g.bytes line) Ok) (append-nil line) (at-end g t k p line long all found.found.1 here);
}
