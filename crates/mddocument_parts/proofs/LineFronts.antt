-- Where bytes begin a line.
use Rattle.mddocument_parts.proofs.Prelude.{◌≡◌, ℕ, suc, ◌≤◌, ◌==◌, ◌&&◌, ◌||◌, List, [], ◌∷◌, ◌++◌, Bool, true, cond, not, length, refl, arith, lines_in, begins_line, line_endings, begins_with_lf, virtual}
use Rattle.mddocument_parts.proofs.Virtual.{lines-are-counted}

-- bytes that end a line have a line
some-endings : (c : List ℕ) (x : ℕ) (b : List ℕ) → begins_line c (x ∷ b) ≡ true → 1 ≤ line_endings (x ∷ b)
some-endings c x [] h = by (x == 10) (x == 13) (begins_with_lf c) h
  where
    by : (is_lf is_cr lf_comes : Bool) → (is_lf || (is_cr && not lf_comes)) ≡ true → 1 ≤ cond is_lf 1 (cond is_cr 1 0)
    by is_lf is_cr lf_comes h = grind arith
some-endings c x (y ∷ b) h = by (x == 10) (x == 13) (y == 10) (line_endings (y ∷ b)) (some-endings c y b h)
  where
    by : (is_lf is_cr lf_comes : Bool) (more : ℕ) → 1 ≤ more → 1 ≤ cond is_lf (suc more) (cond is_cr (cond lf_comes more (suc more)) more)
    by is_lf is_cr lf_comes more h = grind arith

pub some-line : (t : ℕ) (b c : List ℕ) → 1 ≤ length b → begins_line c b ≡ true → 1 ≤ length (lines_in (virtual t b))
some-line t [] c some h = absurd (omega (arith, some))
some-line t (x ∷ b) c some h = let count = lines-are-counted t (x ∷ b) c h in let many = some-endings c x b h in omega (arith, count, many)

-- it is told by the first byte
pub line-ahead : (a b c : List ℕ) → 1 ≤ length b → begins_line (b ++ c) a ≡ begins_line b a
line-ahead a [] c some = absurd (omega (arith, some))
line-ahead [] (x ∷ b) c some = refl
line-ahead (y ∷ []) (x ∷ b) c some = refl
line-ahead (y ∷ z ∷ a) (x ∷ b) c some = line-ahead (z ∷ a) (x ∷ b) c some

-- and by the last bytes before
pub line-behind : (a b c : List ℕ) → 1 ≤ length b → begins_line c (a ++ b) ≡ begins_line c b
line-behind [] b c some = refl
line-behind (x ∷ []) [] c some = absurd (omega (arith, some))
line-behind (x ∷ []) (y ∷ b) c some = refl
line-behind (x ∷ z ∷ a) b c some = line-behind (z ∷ a) b c some
