-- Underscores of domains: seen from the front, and what is known of them one byte on.
use Rattle.std.proofs.Common.{◌≡◌, ℕ, zero, suc, ◌+◌, ◌-◌, Bool, true, false, cond, List, [], ◌∷◌, drop, take, refl, sym, ap, subst, ◌∙◌, arith, eqb-true}
use Rattle.std.proofs.lemmas.List.{drop-drop}
use Rattle.std.proofs.lemmas.Bool.{false≢true}
use Rattle.std.proofs.lemmas.Bool.Decides.{nat_tests}
use Rattle.std.specs.List.{prefix_len}
use Rattle.std.specs.Prelude.{◌==◌, ◌&&◌, nat_le, nat_lt}
use Rattle.mdgfm_literals.specs.Bytes.{count, in_domain}
use Rattle.mdgfm_literals.specs.Grammar.{IsKnown, before_behind, domain_of, last_behind, last_of, near}

-- what is seen from the front, if so many bytes were passed: the end of the last underscore in the segment before the last, and in the last
abbrev pub seen : (before last at : ℕ) → List ℕ → ℕ
seen before last at [] = last_of before last
seen before last at (b ∷ bs) = seen (before_behind before last b) (last_behind last (at + 1) b) (at + 1) bs

-- by what is behind: an underscore that is near is the last; else the segments before count
abbrev pub behind : (near periods before last at : ℕ) → ℕ
behind n c before last at = cond (nat_le 1 n) (at + n) (cond (c == 0) (last_of before last) (cond (c == 1) last 0))

pub seen-behind : (before last at : ℕ) (bs : List ℕ) → seen before last at bs ≡ behind (near bs) (count 46 bs) before last at
seen-behind before last at [] = refl
seen-behind before last at (b ∷ bs) =
    by (b == 46) (b == 95) (λ q. ap (λ x. x == 95) (eqb-true b 46 q)) (near bs) (count 46 bs) (seen-behind (before_behind before last b) (last_behind last (at + 1) b) (at + 1) bs)
  where
    by : (p u : Bool) → (p ≡ true → u ≡ false) → (n c : ℕ)
        → seen (cond p last before) (cond p 0 (cond u (at + 1) last)) (at + 1) bs ≡ behind n c (cond p last before) (cond p 0 (cond u (at + 1) last)) (at + 1)
        → seen (cond p last before) (cond p 0 (cond u (at + 1) last)) (at + 1) bs
        ≡ behind (cond (nat_le 1 n) (n + 1) (cond (u && nat_lt c 2) 1 0)) (cond p (c + 1) c) before last at
    by true true x n c h = absurd (false≢true (sym (x refl)))
    by true false x n c h = h ∙ dot n c
      where
        dot : (n c : ℕ) → behind n c last 0 (at + 1) ≡ behind (cond (nat_le 1 n) (n + 1) 0) (c + 1) before last at
        dot n c = grind (arith, nat_tests)
    by false true x n c h = h ∙ bar n c
      where
        bar : (n c : ℕ) → behind n c before (at + 1) (at + 1) ≡ behind (cond (nat_le 1 n) (n + 1) (cond (nat_lt c 2) 1 0)) c before last at
        bar n c = grind (arith, nat_tests)
    by false false x n c h = h ∙ same n c
      where
        same : (n c : ℕ) → behind n c before last (at + 1) ≡ behind (cond (nat_le 1 n) (n + 1) 0) c before last at
        same n c = grind (arith, nat_tests)

-- seen from the front of a domain
pub seen_all : (bs : List ℕ) → seen 0 0 0 bs ≡ near bs
seen_all bs = seen-behind 0 0 0 bs ∙ by (near bs) (count 46 bs)
  where
    by : (n c : ℕ) → behind n c 0 0 0 ≡ n
    by n c = grind (arith, nat_tests)

-- one byte on, it is one byte nearer
pub near-next : (b : ℕ) (bs : List ℕ) (n : ℕ) → near (domain_of (b ∷ bs)) ≡ suc (suc n) → near (domain_of bs) ≡ suc n
near-next b bs n e = by (in_domain b) e
  where
    one : (m : ℕ) (u : Bool) → cond (nat_le 1 m) (m + 1) (cond u 1 0) ≡ suc (suc n) → m ≡ suc n
    one m u e = grind (arith, nat_tests)

    by : (d : Bool) → near (take (cond d (1 + prefix_len in_domain bs) 0) (b ∷ bs)) ≡ suc (suc n) → near (domain_of bs) ≡ suc n
    by true e =
        let k : 1 + prefix_len in_domain bs ≡ suc (prefix_len in_domain bs) = omega arith in
        one (near (domain_of bs)) ((b == 95) && nat_lt (count 46 (domain_of bs)) 2) (sym (ap (λ m. near (take m (b ∷ bs))) k) ∙ e)
    by false e = absurd (let z : 0 ≡ suc (suc n) = e in omega (arith, z))

-- what is known, so many bytes on
pub known-next : (known : ℕ) (text : List ℕ) → IsKnown known text → IsKnown (known - 1) (drop 1 text)
known-next zero text h = λ some. absurd (omega (arith, some))
known-next (suc zero) text h = λ some. absurd (omega (arith, some))
known-next (suc (suc n)) [] h = absurd (let z : 0 ≡ suc (suc n) = h (omega arith) in omega (arith, z))
known-next (suc (suc n)) (b ∷ bs) h = λ some. let e = near-next b bs n (h (omega arith)) in let z : suc n ≡ suc (suc n) - 1 = omega arith in e ∙ z

pub known-by : (k known : ℕ) (text : List ℕ) → IsKnown known text → IsKnown (known - k) (drop k text)
known-by zero known text h = let z : known ≡ known - 0 = omega arith in subst (λ n. IsKnown n text) z h
known-by (suc k) known text h =
    let fewer : known - 1 - k ≡ known - suc k = omega arith in
    subst (λ n. IsKnown n (drop (suc k) text)) fewer (subst (IsKnown (known - 1 - k)) (drop-drop k 1 text ∙ ap (λ n. drop n text) one) (known-by k (known - 1) (drop 1 text) (known-next known text h)))
  where
    one : 1 + k ≡ suc k
    one = omega arith

pub none-known : (text : List ℕ) → IsKnown 0 text
none-known text = λ some. absurd (omega (arith, some))
