-- A definition whose title is given back: no definition comes behind it.
use Rattle.mdinline_labels.proofs.Prelude.{◌≡◌, ℕ, ◌+◌, ◌≤◌, Bool, true, false, cond, List, [], ◌∷◌, Some, None, drop, inl, inr, refl, sym, ap, ◌∙◌, subst, arith, false≢true, cases_Bool, eqb-true, drop-drop, cond_some, prefix_len, is_some, ◌==◌, is_white, begins_with, begins_title, line_ends, title_end, gap, definition_at, line_left}

not-bracket : (xs : List ℕ) → begins_title xs ≡ true → begins_with 91 xs ≡ false
not-bracket [] e = refl
not-bracket (b ∷ bs) e = of (b == 91) refl
  where
    of : (t : Bool) → (b == 91) ≡ t → t ≡ false
    of false same = refl
    of true same = let is : b ≡ 91 = eqb-true b 91 same in absurd (false≢true (subst (λ n. is_some (title_end n) ≡ true) is e))

-- without a bracket behind its white space a text begins with no definition
pub no-definition : (zs : List ℕ) → begins_with 91 (drop (prefix_len is_white zs) zs) ≡ false → definition_at zs ≡ None
no-definition zs e = rw e refl

-- by what comes behind the white space
of-line : (ys rest : List ℕ) → drop (prefix_len is_white ys) ys ≡ rest → line_ends rest ≡ true → begins_title (drop (gap ys) ys) ≡ true
    → definition_at (drop (prefix_len is_white ys + 1) ys) ≡ None
of-line ys [] is ends begins =
    let m = prefix_len is_white ys in
    let none : begins_title (drop (gap ys) ys) ≡ false =
    ap (λ zs. begins_title (drop (cond (begins_with 10 zs) (m + 1 + prefix_len is_white (drop (m + 1) ys)) m) ys)) is ∙ ap begins_title is in
    absurd (false≢true (sym none ∙ begins))
of-line ys (b ∷ bs) is ends begins =
    let m = prefix_len is_white ys in
    let zs = drop (m + 1) ys in
    let k = prefix_len is_white zs in
    let place : drop (gap ys) ys ≡ drop k zs =
    ap (λ xs. drop (cond (begins_with 10 xs) (m + 1 + k) m) ys) is ∙ ap (λ t. drop (cond t (m + 1 + k) m) ys) ends ∙ sym (drop-drop k (m + 1) ys) in
    no-definition zs (not-bracket (drop k zs) (subst (λ xs. begins_title xs ≡ true) place begins))

pub given-back : (text : List ℕ) (at n : ℕ) → line_left (drop at text) ≡ Some n → begins_title (drop (at + gap (drop at text)) text) ≡ true
    → definition_at (drop (at + n + 1) text) ≡ None
given-back text at n left begins =
    let ys = drop at text in
    let parts = cond_some (line_ends (drop (prefix_len is_white ys) ys)) (prefix_len is_white ys) n left in
    let place : drop (prefix_len is_white ys + 1) ys ≡ drop (at + n + 1) text = drop-drop (prefix_len is_white ys + 1) at text ∙ ap (λ k. drop k text) (omega (arith, parts.1)) in
    subst (λ xs. definition_at xs ≡ None) place
    (of-line ys (drop (prefix_len is_white ys) ys) refl parts.0 (subst (λ xs. begins_title xs ≡ true) (sym (drop-drop (gap ys) at text)) begins))

-- white space with one line ending at most, by what is left of the line
pub gap-left : (text : List ℕ) (at n : ℕ) → line_left (drop at text) ≡ Some n → gap (drop at text) ≤ n + 1 + prefix_len is_white (drop (at + n + 1) text)
gap-left text at n left =
    let ys = drop at text in
    let m = prefix_len is_white ys in
    let parts = cond_some (line_ends (drop m ys)) m n left in
    let place : drop (m + 1) ys ≡ drop (at + n + 1) text = drop-drop (m + 1) at text ∙ ap (λ k. drop k text) (omega (arith, parts.1)) in
    let same : prefix_len is_white (drop (m + 1) ys) ≡ prefix_len is_white (drop (at + n + 1) text) = ap (λ xs. prefix_len is_white xs) place in
    elim (cases_Bool (begins_with 10 (drop m ys))) [
      | inl t ↦ let is : gap ys ≡ m + 1 + prefix_len is_white (drop (m + 1) ys) = ap (λ t. cond t (m + 1 + prefix_len is_white (drop (m + 1) ys)) m) t in omega (arith, is, same, parts.1)
      | inr t ↦ let is : gap ys ≡ m = ap (λ t. cond t (m + 1 + prefix_len is_white (drop (m + 1) ys)) m) t in omega (arith, is, parts.1)
    ]
