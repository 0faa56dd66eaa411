-- Words at the front of a text, one byte on.
use Rattle.std.proofs.Common.{◌≡◌, ℕ, ◌+◌, ◌<◌, ◌≤◌, Bool, true, false, List, [], ◌∷◌, length, drop, get_or, ap, sym, ◌∙◌, cond, arith, eq-eqb, ne_eqb, refl}
use Rattle.std.proofs.lemmas.List.{drop_more, drop_all}
use Rattle.std.specs.Prelude.{◌==◌, ◌&&◌}
use Rattle.mdgfm_literals.specs.Bytes.{begins_with, lower}
use Rattle.mdgfm_literals.specs.Grammar.{goes_on, host_size}

-- a text that is too short
pub word_short : (word t : List ℕ) → length t < length word → begins_with word t ≡ false
word_short [] t h = absurd (omega arith)
word_short (w ∷ ws) [] h = refl
word_short (w ∷ ws) (b ∷ bs) h = by (lower b == w) (word_short ws bs (omega arith))
  where
    by : (s : Bool) → begins_with ws bs ≡ false → (s && begins_with ws bs) ≡ false
    by true e = e
    by false e = refl

-- all of the word was seen
pub word_end : (word t : List ℕ) (n : ℕ) → length word ≤ n → begins_with (drop n word) (drop n t) ≡ true
word_end word t n h = ap (λ ws. begins_with ws (drop n t)) (drop_all n word h)

-- one byte on
module _ (word t : List ℕ) (n : ℕ) (w : n < length word) (h : n < length t) where
  word_step : begins_with (drop n word) (drop n t) ≡ ((lower (get_or t n 0) == get_or word n 0) && begins_with (drop (n + 1) word) (drop (n + 1) t))
  word_step = λ k. begins_with (drop_more word n 0 w k) (drop_more t n 0 h k)

  pub word_same : lower (get_or t n 0) ≡ get_or word n 0 → begins_with (drop n word) (drop n t) ≡ begins_with (drop (n + 1) word) (drop (n + 1) t)
  word_same e = word_step ∙ ap (λ s. s && begins_with (drop (n + 1) word) (drop (n + 1) t)) (eq-eqb _ _ e)

  pub word_other : (lower (get_or t n 0) ≡ get_or word n 0 → ⊥) → begins_with (drop n word) (drop n t) ≡ false
  word_other e = word_step ∙ ap (λ s. s && begins_with (drop (n + 1) word) (drop (n + 1) t)) (ne_eqb _ _ e)

-- a domain of an address goes on
pub host_next : (text : List ℕ) (n m : ℕ) → n < length text → goes_on (drop n text) ≡ true → n + host_size (drop n text) ≡ m → n + 1 + host_size (drop (n + 1) text) ≡ m
host_next text n m inside goes so_far =
    let here : drop n text ≡ get_or text n 0 ∷ drop (n + 1) text = drop_more text n 0 inside in
    let first : goes_on (get_or text n 0 ∷ drop (n + 1) text) ≡ true = ap (λ ts. goes_on ts) (sym here) ∙ goes in
    let size : host_size (drop n text) ≡ host_size (drop (n + 1) text) + 1 = ap (λ ts. host_size ts) here ∙ ap (λ b. cond b (host_size (drop (n + 1) text) + 1) 0) first in
    omega (arith, size, so_far)
