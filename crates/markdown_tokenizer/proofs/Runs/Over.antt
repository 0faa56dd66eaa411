-- Bytes that a state reads over, one or two at a time.
use Rattle.markdown_tokenizer.proofs.Prelude.{◌≤◌, arith, Name, Given, TokenizerValue, Rules, HasReadOver, none_over, one_over, two_over}

module _ {M R D : Type 0} (rules : Given → Rules R D) (name : Name) {t : TokenizerValue M R D} where
  -- no call is taken back
  pub over-counts : {u : TokenizerValue M R D} → HasReadOver rules name t u → t.calls ≤ u.calls
  over-counts none_over = omega arith
  over-counts (one_over h over) = let rest = over-counts h in omega (arith, rest)
  over-counts (two_over h pair) = let rest = over-counts h in omega (arith, rest)
