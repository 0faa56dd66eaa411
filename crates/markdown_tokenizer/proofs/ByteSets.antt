-- Sets of bytes: what holds of each byte of a set is tried on each.
use Rattle.markdown_tokenizer.proofs.Prelude.{◌≡◌, ◌+◌, ℕ, zero, suc, Bool, true, false, List, [], ◌∷◌, not, ◌&&◌, ◌||◌, get_or, subst, arith, and_parts}

-- each byte of the set, of which the first has this number, passes a test
abbrev pub pass_all_from : (ℕ → Bool) → ℕ → List Bool → Bool
pass_all_from test n [] = true
pass_all_from test n (b ∷ bs) = (not b || test n) && pass_all_from test (suc n) bs

passed-from : (test : ℕ → Bool) (n : ℕ) (set : List Bool) → pass_all_from test n set ≡ true → (k : ℕ) → get_or set k false ≡ true → test (n + k) ≡ true
passed-from test n [] all k e = absurd cc
passed-from test n (b ∷ bs) all zero e =
    let here = (and_parts (not b || test n) (pass_all_from test (suc n) bs) all).0 in
    let is : n + 0 ≡ n = omega arith in
    rw is (subst (λ (c : Bool). (not c || test n) ≡ true) e here)
passed-from test n (b ∷ bs) all (suc k) e =
    let rest = (and_parts (not b || test n) (pass_all_from test (suc n) bs) all).1 in
    let is : n + suc k ≡ suc n + k = omega arith in
    rw is (passed-from test (suc n) bs rest k e)

-- each byte of the set passes a test
abbrev pub pass_all : (ℕ → Bool) → List Bool → Bool
pass_all test set = pass_all_from test 0 set

pub passed : (test : ℕ → Bool) (set : List Bool) → pass_all test set ≡ true → (byte : ℕ) → get_or set byte false ≡ true → test byte ≡ true
passed test set all byte e =
    let is : 0 + byte ≡ byte = omega arith in
    subst (λ (n : ℕ). test n ≡ true) is (passed-from test 0 set all byte e)
