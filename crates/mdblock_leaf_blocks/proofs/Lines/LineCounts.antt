-- How many lines come before the first that passes a test, and through it, line by line.
use Rattle.mdblock_leaf_blocks.proofs.Prelude.{◌≡◌, ℕ, suc, ◌+◌, ◌≤◌, List, [], ◌∷◌, Bool, true, false, cond, not, length, min, take, drop, sym, ap, ◌∙◌, subst, arith, nat_lt, lt-ltb, ltb-false, nat_tests, drop_all, Line, has_line, lines_through, lines_until, text_of}

module _ (test : List ℕ → Bool) where
  -- the first line passes
  pub until-there : (line : Line) (more : List Line) → test (text_of line) ≡ true → lines_until (λ l. test (text_of l)) (line ∷ more) ≡ 0
  until-there line more is = ap (λ b. cond (not b) (1 + lines_until (λ l. test (text_of l)) more) 0) is

  pub through-there : (line : Line) (more : List Line) → test (text_of line) ≡ true → lines_through test (line ∷ more) ≡ 1
  through-there line more is = ap (λ n. min (suc (length more)) (suc n)) (until-there line more is) ∙ omega arith

  pub has-there : (line : Line) (more : List Line) → test (text_of line) ≡ true → has_line test (line ∷ more) ≡ true
  has-there line more is = ap (λ n. nat_lt n (suc (length more))) (until-there line more is) ∙ lt-ltb 0 (suc (length more)) (omega arith)

  -- or it fails, and one behind it is meant
  pub until-one-more : (line : Line) (more : List Line) → test (text_of line) ≡ false → lines_until (λ l. test (text_of l)) (line ∷ more) ≡ suc (lines_until (λ l. test (text_of l)) more)
  until-one-more line more is = ap (λ b. cond (not b) (1 + lines_until (λ l. test (text_of l)) more) 0) is ∙ omega arith

  pub through-one-more : (line : Line) (more : List Line) → test (text_of line) ≡ false → lines_through test (line ∷ more) ≡ suc (lines_through test more)
  through-one-more line more is = ap (λ n. min (suc (length more)) (suc n)) (until-one-more line more is) ∙ omega arith

  one-less : (a b : ℕ) → nat_lt (suc a) (suc b) ≡ nat_lt a b
  one-less a b = grind (arith, nat_tests)

  pub has-one-more : (line : Line) (more : List Line) → test (text_of line) ≡ false → has_line test (line ∷ more) ≡ has_line test more
  has-one-more line more is = ap (λ n. nat_lt n (suc (length more))) (until-one-more line more is) ∙ one-less (lines_until (λ l. test (text_of l)) more) (length more)

  -- where one of the lines passes, there is a line; where none does, all are taken
  pub some-through : (lines : List Line) → has_line test lines ≡ true → 1 ≤ length (take (lines_through test lines) lines)
  some-through [] h = absurd (cc)
  some-through (line ∷ more) h =
      let e : lines_through test (line ∷ more) ≡ suc (min (length more) (lines_until (λ l. test (text_of l)) (line ∷ more))) = omega arith in
      subst (λ n. 1 ≤ length (take n (line ∷ more))) (sym e) (omega arith)

  pub none-left : (lines : List Line) → has_line test lines ≡ false → drop (lines_through test lines) lines ≡ []
  none-left lines none = let long = ltb-false (lines_until (λ l. test (text_of l)) lines) (length lines) none in drop_all (lines_through test lines) lines (omega (arith, long))
