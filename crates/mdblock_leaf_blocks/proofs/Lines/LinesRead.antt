-- The lines of a block are read, one after another: a line with its line ending, and those behind it.
use Rattle.mdblock_leaf_blocks.proofs.Prelude.{Bool, List, [], ap, append-nil, append_assoc, false, refl, subst, sym, true, ℕ, ◌++◌, ◌∙◌, ◌∷◌, ◌≡◌, Seat, end_after, Point, Name, FlowAfter, Configuration, Given, Text, behind_block, block_seats, Line, Mark, line_end, lines_marks, line_text}
use Rattle.mdblock_leaf_blocks.proofs.Lines.LineReads.{IsAt}
use Rattle.mdblock_leaf_blocks.proofs.Lines.RunReads.{Keeping, Reads, then}

-- a block that is closed has a line
abbrev pub Fits : (is_open : Bool) → List Line → Type 0
Fits true lines = Unit {0}
Fits false [] = ⊥
Fits false (line ∷ lines) = Unit {0}

-- one line more in front
module _ (marks : List Seat → List Mark) (bytes : List ℕ) where
  seats-more : (is_open : Bool) (line : Line) (lines : List Line) → Fits is_open lines → block_seats is_open (line ∷ lines) ≡ line ++ block_seats is_open lines
  seats-more true line lines fits = refl
  seats-more false line [] fits = absurd fits
  seats-more false line (next ∷ lines) fits = refl

  behind-more : (is_open : Bool) (line : Line) (lines more : List Line) → Fits is_open lines → behind_block is_open (line ∷ lines) more ≡ behind_block is_open lines more
  behind-more true line lines more fits = refl
  behind-more false line [] more fits = absurd fits
  behind-more false line (next ∷ lines) more fits = refl

  marks-more : (is_open : Bool) (line : Line) (lines : List Line) → Fits is_open lines
      → lines_marks bytes marks is_open (line ∷ lines) ≡ marks (line_text line) ++ (line_end bytes line ++ lines_marks bytes marks is_open lines)
  marks-more true line [] fits = ap (λ l. marks (line_text line) ++ l) (sym (append-nil (line_end bytes line)))
  marks-more false line [] fits = absurd fits
  marks-more true line (next ∷ lines) fits = refl
  marks-more false line (next ∷ lines) fits = refl

module _ (g : Given) (t : Text) (K : Keeping) (marks : List Seat → List Mark) (leaves : Point → List Mark) where
  abbrev inner : Bool → List Line → List Mark
  inner is_open lines = lines_marks g.bytes marks is_open lines

  -- lines are read as the rest of a block, from a state in which these marks come before theirs
  abbrev pub AreRead : Configuration Unit Unit → Name → Point → List Mark → (is_open : Bool) → (lines more : List Line) → Type 0
  AreRead k name p pre is_open lines more =
      Reads g t K k name (block_seats is_open lines) (behind_block is_open lines more) (pre ++ (inner is_open lines ++ leaves (end_after p (block_seats is_open lines)))) FlowAfter

  -- one line, and those behind it
  pub one-more : (k : Configuration Unit Unit) (name next : Name) (p : Point) (pre : List Mark) (is_open : Bool) (line : Line) (lines more : List Line) (all : List Seat) → Fits is_open lines
      → block_seats is_open lines ++ behind_block is_open lines more ≡ all → IsAt t k p (line ++ all) → (IsAt t k p (line ++ all) → Reads g t K k name line all (pre ++ (marks (line_text line) ++ line_end g.bytes line)) next)
      → ((k' : Configuration Unit Unit) (q : Point) → IsAt t k' q all → K.kept k.local k'.local → AreRead k' next q [] is_open lines more) → AreRead k name p pre is_open (line ∷ lines) more
  one-more k name next p pre is_open line lines more all fits split at first behind =
      let seats = block_seats is_open lines in
      let rest = behind_block is_open lines more in
      let m = marks (line_text line) in
      let e = line_end g.bytes line in
      let marks_are = λ (z : Point). append_assoc pre (m ++ e) (inner is_open lines ++ leaves z)
      ∙ ap (λ x. pre ++ x) (sym (append_assoc (m ++ e) (inner is_open lines) (leaves z)) ∙ ap (λ x. x ++ leaves z) (append_assoc m e (inner is_open lines) ∙ sym (marks-more marks g.bytes is_open line lines fits))) in
      subst (λ r. Reads g t K k name (block_seats is_open (line ∷ lines)) r (pre ++ (inner is_open (line ∷ lines) ++ leaves (end_after p (block_seats is_open (line ∷ lines))))) FlowAfter) (sym (behind-more marks g.bytes is_open line lines more fits))
      (subst (λ x. Reads g t K k name x rest (pre ++ (inner is_open (line ∷ lines) ++ leaves (end_after p x))) FlowAfter) (sym (seats-more marks g.bytes is_open line lines fits))
      (subst (λ ms. Reads g t K k name (line ++ seats) rest ms FlowAfter) (marks_are (end_after p (line ++ seats)))
      (then g t K k p name next FlowAfter line seats (line ++ seats) rest refl (pre ++ (m ++ e)) (λ z. inner is_open lines ++ leaves z) (subst (IsAt t k p) (ap (λ a. line ++ a) (sym split) ∙ sym (append_assoc line seats rest)) at)
      (λ at'. subst (λ a. Reads g t K k name line a (pre ++ (m ++ e)) next) (sym split) (first at)) (λ k' at' kept. behind k' (end_after p line) (subst (IsAt t k' (end_after p line)) split at') kept))))
