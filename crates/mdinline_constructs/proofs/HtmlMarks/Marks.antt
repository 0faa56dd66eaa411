-- The closing marks of raw HTML, read byte by byte: so many of a byte, and `>`. How many of that byte are directly before is counted.
use Rattle.mdinline_constructs.proofs.HtmlTexts.Walks.{one_further}
use Rattle.mdinline_constructs.proofs.Prelude.{and_before, starts_with, through, Bool, List, None, Option, Some, [], ap, arith, cond, false, inl, inr, length, nat_le, refl, subst, suc, sym, true, zero, ℕ, ◌&&◌, ◌+◌, ◌<◌, ◌==◌, ◌∙◌, ◌∷◌, ◌≡◌, ◌≤◌, and-false, cases_lt, eqb-true, le-leb, lt-leb, codes}

-- bytes with so many of one before them
abbrev pub put : ℕ → ℕ → List ℕ → List ℕ
put zero m text = text
put (suc n) m text = m ∷ put n m text

-- a closing mark
abbrev pub mark : (times byte : ℕ) → List ℕ
mark c m = put c m (62 ∷ [])

-- how many bytes are left up to its end, where so many of its byte are directly before
abbrev pub left_to_mark : (byte times read : ℕ) → List ℕ → Option ℕ
left_to_mark m c n [] = None
left_to_mark m c n (b ∷ bs) = cond ((b == 62) && nat_le c n) (Some 1) (one_further (left_to_mark m c (cond (b == m) (n + 1) 0) bs))

-- so many bytes more
abbrev further : ℕ → Option ℕ → Option ℕ
further zero o = o
further (suc n) o = one_further (further n o)

pub one-before : (o : Option ℕ) → and_before 1 o ≡ one_further o
one-before None = refl
one-before (Some n) = let same : 1 + n ≡ suc n = omega arith in ap Some same

further-more : (n : ℕ) (o : Option ℕ) → further n (one_further o) ≡ one_further (further n o)
further-more zero o = refl
further-more (suc n) o = ap one_further (further-more n o)

further-none : (n : ℕ) → further n None ≡ None
further-none zero = refl
further-none (suc n) = ap one_further (further-none n)

further-some : (n k : ℕ) → further n (Some k) ≡ Some (k + n)
further-some zero k = let same : k ≡ k + 0 = omega arith in ap Some same
further-some (suc n) k = let same : suc (k + n) ≡ k + suc n = omega arith in ap one_further (further-some n k) ∙ ap Some same

put-more : (n m : ℕ) (text : List ℕ) → put n m (m ∷ text) ≡ m ∷ put n m text
put-more zero m text = refl
put-more (suc n) m text = ap (λ l. m ∷ l) (put-more n m text)

put-length : (c m : ℕ) → length (mark c m) ≡ 1 + c
put-length zero m = refl
put-length (suc c) m = let same : suc (1 + c) ≡ 1 + suc c = omega arith in ap suc (put-length c m) ∙ same

module _ (m : ℕ) (other : (m == 62) ≡ false) (self : (m == m) ≡ true) where
  -- where the mark begins, and where it does not
  begins-none : (c k : ℕ) → starts_with (mark c m) (put k m []) ≡ false
  begins-none zero zero = refl
  begins-none zero (suc k) = ap (λ t. t && true) other
  begins-none (suc c) zero = refl
  begins-none (suc c) (suc k) = ap (λ t. (m == m) && t) (begins-none c k) ∙ and-false (m == m)

  begins-over : (c k : ℕ) (text : List ℕ) → c < k → starts_with (mark c m) (put k m text) ≡ false
  begins-over c zero text h = absurd (omega (arith, h))
  begins-over zero (suc k) text h = ap (λ t. t && true) other
  begins-over (suc c) (suc k) text h = ap (λ t. (m == m) && t) (begins-over c k text (omega (arith, h))) ∙ and-false (m == m)

  begins-under : (c k : ℕ) (b : ℕ) (bs : List ℕ) → k < c → (b == m) ≡ false → starts_with (mark c m) (put k m (b ∷ bs)) ≡ false
  begins-under zero k b bs h fails = absurd (omega (arith, h))
  begins-under (suc c) zero b bs h fails = ap (λ t. t && starts_with (mark c m) bs) fails
  begins-under (suc c) (suc k) b bs h fails = ap (λ t. (m == m) && t) (begins-under c k b bs (omega (arith, h)) fails) ∙ and-false (m == m)

  begins-other : (c k : ℕ) (b : ℕ) (bs : List ℕ) → (b == 62) ≡ false → (b == m) ≡ false → starts_with (mark c m) (put k m (b ∷ bs)) ≡ false
  begins-other zero zero b bs last fails = ap (λ t. t && true) last
  begins-other zero (suc k) b bs last fails = ap (λ t. t && true) other
  begins-other (suc c) zero b bs last fails = ap (λ t. t && starts_with (mark c m) bs) fails
  begins-other (suc c) (suc k) b bs last fails = ap (λ t. (m == m) && t) (begins-other c k b bs last fails) ∙ and-false (m == m)

  begins-at : (c : ℕ) (b : ℕ) (bs : List ℕ) → (b == 62) ≡ true → starts_with (mark c m) (put c m (b ∷ bs)) ≡ true
  begins-at zero b bs last = ap (λ t. t && true) last
  begins-at (suc c) b bs last = ap (λ t. (m == m) && t) (begins-at c b bs last) ∙ ap (λ t. t && true) self

  -- one byte further on, if it does not begin
  through-next : (c x : ℕ) (xs : List ℕ) → starts_with (mark c m) (x ∷ xs) ≡ false → through (mark c m) (x ∷ xs) ≡ one_further (through (mark c m) xs)
  through-next c x xs fails = ap (λ t. cond t (Some (length (mark c m))) (and_before 1 (through (mark c m) xs))) fails ∙ one-before (through (mark c m) xs)

  -- no byte is left
  through-none : (c k : ℕ) → through (mark c m) (put k m []) ≡ None
  through-none c zero = refl
  through-none c (suc k) = through-next c m (put k m []) (begins-none c (suc k)) ∙ ap one_further (through-none c k)

  through-here : (c x : ℕ) (xs : List ℕ) → starts_with (mark c m) (x ∷ xs) ≡ true → through (mark c m) (x ∷ xs) ≡ Some (1 + c)
  through-here c x xs is = ap (λ t. cond t (Some (length (mark c m))) (and_before 1 (through (mark c m) xs))) is ∙ ap Some (put-length c m)

  -- `>` ends it, behind enough of the byte
  through-end : (c n b : ℕ) (bs : List ℕ) → (b == 62) ≡ true → c ≤ n → through (mark c m) (put n m (b ∷ bs)) ≡ further n (Some 1)
  through-end zero zero b bs last enough = through-here zero b bs (begins-at zero b bs last)
  through-end (suc c) zero b bs last enough = absurd (omega (arith, enough))
  through-end c (suc n) b bs last enough = elim (cases_lt c (suc n)) [
    | inl over ↦ through-next c m (put n m (b ∷ bs)) (begins-over c (suc n) (b ∷ bs) over) ∙ ap one_further (through-end c n b bs last (omega (arith, over)))
    | inr less ↦
        let same : suc n ≡ c = omega (arith, enough, less) in
        subst (λ k. through (mark k m) (put (suc n) m (b ∷ bs)) ≡ further (suc n) (Some 1)) same
        (through-here (suc n) m (put n m (b ∷ bs)) (begins-at (suc n) b bs last) ∙ sym (further-some (suc n) 1))
  ]

  -- any other byte ends nothing
  through-on : (c n b : ℕ) (bs : List ℕ) → ((k : ℕ) → k ≤ n → starts_with (mark c m) (put k m (b ∷ bs)) ≡ false)
      → through (mark c m) (put n m (b ∷ bs)) ≡ further n (one_further (through (mark c m) bs))
  through-on c zero b bs fails = through-next c b bs (fails zero (omega arith))
  through-on c (suc n) b bs fails = through-next c m (put n m (b ∷ bs)) (fails (suc n) (omega arith)) ∙ ap one_further (through-on c n b bs (λ k h. fails k (omega (arith, h))))

  -- So reading it byte by byte finds it
  pub mark-left : (c : ℕ) (text : List ℕ) (n : ℕ) → through (mark c m) (put n m text) ≡ further n (left_to_mark m c n text)
  mark-left c [] n = through-none c n ∙ sym (further-none n)
  mark-left c (b ∷ bs) n =
      let all = λ (t u : Bool). further n (cond (t && nat_le c n) (Some 1) (one_further (left_to_mark m c (cond u (n + 1) 0) bs))) in
      let goes : (b == m) ≡ false → ((k : ℕ) → k ≤ n → starts_with (mark c m) (put k m (b ∷ bs)) ≡ false) → through (mark c m) (put n m (b ∷ bs)) ≡ further n (one_further (left_to_mark m c 0 bs)) =
      λ fails none. through-on c n b bs none ∙ ap (λ o. further n (one_further o)) (mark-left c bs 0) in
      elim (b == m) as (λ t. (b == m) ≡ t → through (mark c m) (put n m (b ∷ bs)) ≡ all (b == 62) t) [
        | true ↦ λ is.
            let same = eqb-true b m is in
            let last : (b == 62) ≡ false = ap (λ x. x == 62) same ∙ other in
            let grown : n + 1 ≡ suc n = omega arith in
            ap (λ x. through (mark c m) (put n m (x ∷ bs))) same
            ∙ ap (through (mark c m)) (put-more n m bs)
            ∙ mark-left c bs (suc n)
            ∙ ap (λ k. one_further (further n (left_to_mark m c k bs))) (sym grown)
            ∙ sym (further-more n (left_to_mark m c (n + 1) bs))
            ∙ sym (ap (λ t. all t true) last)
        | false ↦ λ fails. elim (b == 62) as (λ t. (b == 62) ≡ t → through (mark c m) (put n m (b ∷ bs)) ≡ all t false) [
          | true ↦ λ last. elim (cases_lt n c) [
            | inl few ↦ goes fails (λ k h. begins-under c k b bs (omega (arith, few, h)) fails) ∙ sym (ap (λ t. further n (cond t (Some 1) (one_further (left_to_mark m c 0 bs)))) (lt-leb c n few))
            | inr enough ↦ through-end c n b bs last enough ∙ sym (ap (λ t. further n (cond t (Some 1) (one_further (left_to_mark m c 0 bs)))) (le-leb c n enough))
          ]
          | false ↦ λ last. goes fails (λ k h. begins-other c k b bs last fails)
        ] refl
      ] refl

-- more of its byte than enough are as good as enough
pub left-enough : (m c : ℕ) (text : List ℕ) (n k : ℕ) → c ≤ n → c ≤ k → left_to_mark m c n text ≡ left_to_mark m c k text
left-enough m c [] n k h i = refl
left-enough m c (b ∷ bs) n k h i =
    let enough : nat_le c n ≡ nat_le c k = le-leb c n h ∙ sym (le-leb c k i) in
    let rest : left_to_mark m c (cond (b == m) (n + 1) 0) bs ≡ left_to_mark m c (cond (b == m) (k + 1) 0) bs =
    elim (b == m) as (λ t. left_to_mark m c (cond t (n + 1) 0) bs ≡ left_to_mark m c (cond t (k + 1) 0) bs) [
      | true ↦ left-enough m c bs (n + 1) (k + 1) (omega (arith, h)) (omega (arith, i))
      | false ↦ refl
    ] in
    λ j. cond ((b == 62) && enough j) (Some 1) (one_further (rest j))

-- a comment may end with `-` of its opening mark
pub comment-left : (text : List ℕ) → left_to_mark 45 2 2 text ≡ cond (starts_with (codes ">") text) (Some 1) (cond (starts_with (codes "->") text) (Some 2) (through (codes "-->") text))
comment-left [] = refl
comment-left (b ∷ bs) =
    let T = through (codes "-->") (b ∷ bs) in
    let first = λ (last dash : Bool). cond (last && true) (Some 1) (one_further (left_to_mark 45 2 (cond dash 3 0) bs)) in
    let said = λ (last dash : Bool). cond (last && true) (Some 1) (cond (dash && starts_with (codes ">") bs) (Some 2) T) in
    elim (b == 62) as (λ t. (b == 62) ≡ t → first t (b == 45) ≡ said t (b == 45)) [
      | true ↦ λ last. refl
      | false ↦ λ last. elim (b == 45) as (λ t. (b == 45) ≡ t → first false t ≡ said false t) [
        | true ↦ λ dash.
            let is = eqb-true b 45 dash in
            elim bs as (λ l. one_further (left_to_mark 45 2 3 l) ≡ cond (starts_with (codes ">") l) (Some 2) (through (codes "-->") (b ∷ l))) [
              | [] ↦ sym (ap (λ x. through (codes "-->") (x ∷ [])) is)
              | d ∷ ds ↦
                  let one = ap (λ x. through (codes "-->") (x ∷ d ∷ ds)) is ∙ mark-left 45 refl refl 2 (d ∷ ds) 1 in
                  elim (d == 62) as (λ t. (d == 62) ≡ t → one_further (cond (t && true) (Some 1) (one_further (left_to_mark 45 2 (cond (d == 45) 4 0) ds))) ≡ cond (t && true) (Some 2) (through (codes "-->") (b ∷ d ∷ ds))) [
                    | true ↦ λ e. refl
                    | false ↦ λ e.
                        sym (one ∙ ap (λ t. one_further (cond (t && false) (Some 1) (one_further (left_to_mark 45 2 (cond (d == 45) 2 0) ds)))) e
                        ∙ elim (d == 45) as (λ t. one_further (one_further (left_to_mark 45 2 (cond t 2 0) ds)) ≡ one_further (one_further (left_to_mark 45 2 (cond t 4 0) ds))) [
                          | true ↦ ap (λ o. one_further (one_further o)) (left-enough 45 2 ds 2 4 (omega arith) (omega arith))
                          | false ↦ refl
                        ])
                  ] refl
            ]
        | false ↦ λ dash.
            sym (mark-left 45 refl refl 2 (b ∷ bs) 0 ∙ (λ i. cond (last i && false) (Some 1) (one_further (left_to_mark 45 2 (cond (dash i) 1 0) bs))))
      ] refl
    ] refl
