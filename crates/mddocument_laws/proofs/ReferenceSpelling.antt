-- What the bytes of a character reference are.
use Rattle.mddocument_laws.proofs.Prelude.{◌≡◌, ℕ, zero, suc, ◌+◌, List, [], ◌∷◌, ◌++◌, Bool, true, false, cond, drop, inl, inr, None, Some, refl, sym, ap, ◌∙◌, subst, take, arith, eqb-true, false≢true, or_cases, same_Some, prefix_len, is_some, ◌&&◌, ◌||◌, codes, has_byte_at, is_ampersand, Kind, body_at, decimal, hexadecimal, is_number_sign, is_semicolon, is_value, is_value_byte, is_x, marks, named, number_at, reference, reference_at, value_at, IsMark, ReferencesAreSpelled, ◌==◌}
use Rattle.mddocument_laws.proofs.ReferenceKinds.{references-are-written}
use Rattle.mddocument_laws.proofs.ReferenceSeats.{same-count, same-kind}

-- bytes begin with one that passes a test
record First (test : ℕ → Bool) (bytes : List ℕ) : Type 0 where
  byte : ℕ
  behind : List ℕ
  is : bytes ≡ byte ∷ behind
  passes : test byte ≡ true

first-of : (test : ℕ → Bool) (bytes : List ℕ) → has_byte_at bytes 0 test ≡ true → First test bytes
first-of test [] h = absurd (false≢true h)
first-of test (b ∷ bs) h = record { byte = b; behind = bs; is = refl; passes = h }

-- a value of a kind is a reference of that kind
value-kind : (a b : Kind) (n : ℕ) (text : List ℕ) → value_at a text ≡ Some (reference b n) → a ≡ b
value-kind a b n text = by (is_value a (take m text) && has_byte_at text m is_semicolon)
  where
    m : ℕ
    m = prefix_len (is_value_byte a) text

    by : (x : Bool) → cond x (Some (reference a (prefix_len (is_value_byte a) text))) None ≡ Some (reference b n) → a ≡ b
    by true h = same-kind a b (prefix_len (is_value_byte a) text) n (same_Some (reference a (prefix_len (is_value_byte a) text)) (reference b n) h)
    by false h = absurd (cc)

module _ (kind : Kind) (n : ℕ) where
  -- behind `&#`
  number-mark : (text : List ℕ) → number_at text ≡ Some (reference kind n) → IsMark kind (take (marks kind) (38 ∷ 35 ∷ text))
  number-mark text h = by (has_byte_at text 0 is_x) refl h
    where
      by : (x : Bool) → has_byte_at text 0 is_x ≡ x → cond x (value_at hexadecimal (drop 1 text)) (value_at decimal text) ≡ Some (reference kind n) → IsMark kind (take (marks kind) (38 ∷ 35 ∷ text))
      by true e k =
          let f = first-of is_x text e in
          let three : (b : ℕ) → text ≡ b ∷ f.behind → take 3 (38 ∷ 35 ∷ text) ≡ 38 ∷ 35 ∷ b ∷ [] = λ b is. ap (λ l. take 3 (38 ∷ 35 ∷ l)) is in
          let mark : IsMark hexadecimal (take 3 (38 ∷ 35 ∷ text)) = elim (or_cases (f.byte == 120) ((f.byte == 88) || false) f.passes) [
            | inl small ↦ inl (three f.byte f.is ∙ ap (λ b. 38 ∷ 35 ∷ b ∷ []) (eqb-true f.byte 120 small))
            | inr more ↦ elim (or_cases (f.byte == 88) false more) [ inl large ↦ inr (three f.byte f.is ∙ ap (λ b. 38 ∷ 35 ∷ b ∷ []) (eqb-true f.byte 88 large)) | inr none ↦ absurd (false≢true none) ]
          ] in
          subst (λ a. IsMark a (take (marks a) (38 ∷ 35 ∷ text))) (value-kind hexadecimal kind n (drop 1 text) k) mark
      by false e k = subst (λ a. IsMark a (take (marks a) (38 ∷ 35 ∷ text))) (value-kind decimal kind n text k) refl

  -- behind `&`
  body-mark : (text : List ℕ) → body_at text ≡ Some (reference kind n) → IsMark kind (take (marks kind) (38 ∷ text))
  body-mark text h = by (has_byte_at text 0 is_number_sign) refl h
    where
      by : (x : Bool) → has_byte_at text 0 is_number_sign ≡ x → cond x (number_at (drop 1 text)) (value_at named text) ≡ Some (reference kind n) → IsMark kind (take (marks kind) (38 ∷ text))
      by true e k =
          let f = first-of is_number_sign text e in
          let is : text ≡ 35 ∷ f.behind = f.is ∙ ap (λ b. b ∷ f.behind) (eqb-true f.byte 35 f.passes) in
          subst (λ l. IsMark kind (take (marks kind) (38 ∷ l))) (sym is) (number-mark f.behind (subst (λ l. number_at (drop 1 l) ≡ Some (reference kind n)) is k))
      by false e k = subst (λ a. IsMark a (take (marks a) (38 ∷ text))) (value-kind named kind n text k) refl

  whole-mark : (bytes : List ℕ) → reference_at bytes ≡ Some (reference kind n) → IsMark kind (take (marks kind) bytes)
  whole-mark bytes h = by (has_byte_at bytes 0 is_ampersand) refl h
    where
      by : (x : Bool) → has_byte_at bytes 0 is_ampersand ≡ x → cond x (body_at (drop 1 bytes)) None ≡ Some (reference kind n) → IsMark kind (take (marks kind) bytes)
      by true e k =
          let f = first-of is_ampersand bytes e in
          let is : bytes ≡ 38 ∷ f.behind = f.is ∙ ap (λ b. b ∷ f.behind) (eqb-true f.byte 38 f.passes) in
          subst (λ l. IsMark kind (take (marks kind) l)) (sym is) (body-mark f.behind (subst (λ l. body_at (drop 1 l) ≡ Some (reference kind n)) is k))
      by false e k = absurd (cc)

-- bytes up to a semicolon, with it
up-to : (a b : ℕ) (bytes : List ℕ) → has_byte_at bytes (a + b) is_semicolon ≡ true → take (a + b + 1) bytes ≡ take a bytes ++ (take b (drop a bytes) ++ codes ";")
up-to a b [] h = absurd (false≢true h)
up-to zero zero (x ∷ xs) h = ap (λ c. c ∷ []) (eqb-true x 59 h)
up-to zero (suc b) (x ∷ xs) h =
    let less : zero + suc b ≡ suc (zero + b) = omega arith in
    let more : zero + suc b + 1 ≡ suc (zero + b + 1) = omega arith in
    ap (λ k. take k (x ∷ xs)) more ∙ ap (λ l. x ∷ l) (up-to zero b xs (subst (λ k. has_byte_at (x ∷ xs) k is_semicolon ≡ true) less h))
up-to (suc a) b (x ∷ xs) h =
    let less : suc a + b ≡ suc (a + b) = omega arith in
    let more : suc a + b + 1 ≡ suc (a + b + 1) = omega arith in
    ap (λ k. take k (x ∷ xs)) more ∙ ap (λ l. x ∷ l) (up-to a b xs (subst (λ k. has_byte_at (x ∷ xs) k is_semicolon ≡ true) less h))

pub references-are-spelled : ReferencesAreSpelled
references-are-spelled bytes kind n h =
    let b = references-are-written bytes (ap is_some h) in
    let same = same_Some (reference b.kind b.count) (reference kind n) (sym b.is ∙ h) in
    let kinds = same-kind b.kind kind b.count n same in
    let counts = same-count b.kind kind b.count n same in
    let place : marks b.kind + b.count ≡ marks kind + n = λ i. marks (kinds i) + counts i in
    record { mark = whole-mark kind n bytes h; whole = up-to (marks kind) n bytes (subst (λ k. has_byte_at bytes k is_semicolon ≡ true) place b.ends) }
