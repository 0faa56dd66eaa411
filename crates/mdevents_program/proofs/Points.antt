-- The text of a point: the number of its line, and what is behind that.
use Rattle.mdevents_program.proofs.Blocks.{front-stays}
use Rattle.mdevents_program.proofs.Prelude.{◌≡◌, ◌≤◌, length, take, ◌++◌, ◌∷◌, [], List, ℕ, arith, decimal_digit, codes, decimal, ap, ◌∙◌, append_assoc, Point, printed_column, printed_point}

-- what is put behind the line of a point is the text of the point
pub whole-point : (p : Point) (front text : List ℕ) → front ≡ decimal p.line ++ codes ":" → text ≡ front ++ printed_column p ++ codes "\n" → text ≡ printed_point p ++ codes "\n"
whole-point p front text e f = f ∙ ap (λ x. x ++ printed_column p ++ codes "\n") e

-- a point whose virtual byte is the first of its byte
pub column-at-byte : (p : Point) (t a b c d : List ℕ) → p.vs ≡ 0 → a ≡ t ++ decimal p.column → b ≡ a ++ codes " (" → c ≡ b ++ decimal p.index → d ≡ c ++ codes "+0)\n" → d ≡ t ++ printed_column p ++ codes "\n"
column-at-byte p t a b c d z h i j k =
    let is : decimal p.vs ≡ 48 ∷ [] = ap decimal z ∙ decimal_digit 0 (omega arith) in
    rw (k, j, i, h, is) (simp append_assoc)

-- and any point
pub column-is : (p : Point) (t a b c d e f : List ℕ) → a ≡ t ++ decimal p.column → b ≡ a ++ codes " (" → c ≡ b ++ decimal p.index → d ≡ c ++ codes "+" → e ≡ d ++ decimal p.vs → f ≡ e ++ codes ")\n"
    → f ≡ t ++ printed_column p ++ codes "\n"
column-is p t a b c d e f h i j k l m = rw (m, l, k, j, i, h) (simp append_assoc)

-- what is in front of it stays
pub column-front : (p : Point) (old new : List ℕ) (at end : ℕ) → at ≤ length old → at ≤ end → take end new ≡ take at old ++ printed_column p ++ codes "\n" → take at new ≡ take at old
column-front p old new at end inside le is =
    front-stays old new (printed_column p ++ codes "\n") at end inside le (is ∙ append_assoc (take at old) (printed_column p) (codes "\n"))
