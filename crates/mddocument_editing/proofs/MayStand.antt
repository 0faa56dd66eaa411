-- Labels that may stand behind a `[`.
use Rattle.mddocument_editing.proofs.Prelude.{◌≡◌, eqb-true, ℕ, zero, suc, ◌<◌, ◌&&◌, Bool, true, false, List, [], ◌∷◌, ◌++◌, drop, take, refl, sym, ap, ◌∙◌, subst, arith, append_assoc, and-true, and_parts, or_parts, slice_index, has_no_bracket, hides, is_bracket, is_label, is_in_brackets, is_untold, label_ends, may_ask, may_stand}
use Rattle.std.proofs.Common.{◌==◌, ◌||◌, not, append-nil}
use Rattle.mddocument_editing.specs.InBrackets.{ends_line}

-- bytes in front of those where a label may stand
pub may-behind : (label xs : List ℕ) (n : ℕ) → may_stand label (drop n xs) ≡ true → may_stand (take n xs ++ label) xs ≡ true
may-behind label xs zero h = h
may-behind label [] (suc n) h = absurd (cc)
may-behind label (x ∷ xs) (suc n) h = let more = may-behind label xs n h in grind (arith, more)

-- a line ends among them
pub may-over : (label xs : List ℕ) (n m : ℕ) → m < n → ends_line (slice_index xs m) ≡ true → may_stand (take n xs ++ label) xs ≡ true
may-over label xs zero m lt h = absurd (omega (arith, lt))
may-over label [] (suc n) zero lt h = absurd (cc)
may-over label [] (suc n) (suc m) lt h = absurd (cc)
may-over label (x ∷ xs) (suc n) zero lt h = grind (arith, h)
may-over label (x ∷ xs) (suc n) (suc m) lt h = let more = may-over label xs n m (omega (arith, lt)) h in grind (arith, more)

-- where a byte of a list is
pub drop-index : (xs : List ℕ) (i b : ℕ) → slice_index xs i ≡ b → 0 < b → drop i xs ≡ b ∷ drop (suc i) xs
drop-index [] i b h some = absurd (omega (arith, h, some))
drop-index (x ∷ xs) zero b h some = ap (λ y. y ∷ xs) h
drop-index (x ∷ xs) (suc i) b h some = drop-index xs i b h some

pub brackets-at : (label xs : List ℕ) (i : ℕ) (rest : List ℕ) → drop i xs ≡ 91 ∷ rest → may_stand label rest ≡ true → is_in_brackets label xs ≡ true
brackets-at label [] zero rest h may = absurd (cc)
brackets-at label [] (suc i) rest h may = absurd (cc)
brackets-at label (x ∷ xs) zero rest h may =
    let is : x ≡ 91 = cc in
    let same : xs ≡ rest = cc in
    let here : may_stand label xs ≡ true = ap (may_stand label) same ∙ may in
    (λ j. ((is j == 91) && here j) || is_in_brackets label xs)
brackets-at label (x ∷ xs) (suc i) rest h may = let more = brackets-at label xs i rest h may in grind (arith, more)

-- ---- a label that may stand there is found

module _ (wanted : List ℕ → Bool) where
  -- behind some bytes that were read
  ends-found : (read label bytes : List ℕ) → label_ends wanted read bytes ≡ false → has_no_bracket false label ≡ true → may_stand label bytes ≡ true → wanted (read ++ label) ≡ false
  ends-found read label [] none bare may = absurd (cc)
  ends-found read [] (b ∷ bs) none bare may =
      let there = or_parts (is_untold b) _ none in
      let line = (or_parts (ends_line b) (b == 92) there.0).0 in
      let here = (or_parts ((b == 93) && wanted read) _ there.1).0 in
      let end : (b == 93) ≡ true = grind (arith, may, line) in
      ap wanted (append-nil read) ∙ sym (ap (λ x. x && wanted read) end) ∙ here
  ends-found read (l ∷ ls) (b ∷ bs) none bare may =
      let there = or_parts (is_untold b) _ none in
      let told = or_parts (ends_line b) (b == 92) there.0 in
      let rest = (or_parts ((b == 93) && wanted read) _ there.1).1 in
      let both : ((l == b) && may_stand ls bs) ≡ true = grind (arith, may, told.0) in
      let agree = and_parts (l == b) (may_stand ls bs) both in
      let same = eqb-true l b agree.0 in
      let shut = and_parts (not (is_bracket l && true)) (has_no_bracket (hides false l) ls) bare in
      let first : not (is_bracket b) ≡ true = ap (λ x. not (is_bracket x)) (sym same) ∙ ap not (sym (and-true (is_bracket l))) ∙ shut.0 in
      let plain : hides false l ≡ false = ap (hides false) same ∙ ap (λ x. x && true) told.1 in
      let more : label_ends wanted (read ++ b ∷ []) bs ≡ false = sym (ap (λ x. x && label_ends wanted (read ++ b ∷ []) bs) first) ∙ rest in
      let next = ends-found (read ++ b ∷ []) ls bs more (subst (λ h. has_no_bracket h ls ≡ true) plain shut.1) agree.1 in
      ap wanted (ap (λ x. read ++ x ∷ ls) same ∙ sym (append_assoc read (b ∷ []) ls)) ∙ next

  -- So it is with labels that may be looked up: if none is found, none of them is wanted
  pub none-wanted : (label bytes : List ℕ) → may_ask wanted bytes ≡ false → is_label label ≡ true → is_in_brackets label bytes ≡ true → wanted label ≡ false
  none-wanted label [] none is within = absurd (cc)
  none-wanted label (b ∷ bs) none is within =
      let parts = or_parts ((b == 91) && label_ends wanted [] bs) (may_ask wanted bs) none in
      by (b == 91) parts.0 (λ k. none-wanted label bs parts.1 is k) within
    where
      by : (x : Bool) → (x && label_ends wanted [] bs) ≡ false → (is_in_brackets label bs ≡ true → wanted label ≡ false) → ((x && may_stand label bs) || is_in_brackets label bs) ≡ true → wanted label ≡ false
      by false here more within = more within
      by true here more within = stands (may_stand label bs) refl more within
        where
          stands : (y : Bool) → may_stand label bs ≡ y → (is_in_brackets label bs ≡ true → wanted label ≡ false) → (y || is_in_brackets label bs) ≡ true → wanted label ≡ false
          stands true may more k = ends-found [] label bs here (and_parts (has_no_bracket false label) _ is).0 may
          stands false may more k = more k
