-- The characters with which bytes begin and end are those whose UTF-8 they begin and end with.
use Rattle.mdinline_emphasis.proofs.Prelude.{◌≡◌, ℕ, suc, ◌-◌, ◌≤◌, Bool, true, false, cond, List, [], ◌∷◌, ◌++◌, Option, Some, None, ◌⊎◌, inl, inr, take, drop, length, get_or, refl, sym, ap, ◌∙◌, subst, arith, slice_index, IsUtf8, IsCharBoundary, chars, encode_utf8, IsScalar, option_or, is_some, unwrap_or, is_utf8, encode_utf8_all, all_scalars, cases_Bool, false≢true, and_parts, and_from, cases_lt, append-nil, take-append-drop, drop-append-le, length-append, IsUtf8-from_is_utf8, is_utf8-from_IsUtf8, IsUtf8-encode, IsUtf8-take, IsCharBoundary-start, chars-append, chars-encodes, encodes-chars, scalars-chars, length-encode, drop-append_seam, take-append_seam, only, char_of, first_char, last_bytes, last_char, BeginWith, EndWith, CharsAreUtf8}

-- ---- one character

only-is : (cs : List ℕ) (c : ℕ) → only cs ≡ Some c → cs ≡ c ∷ []
only-is [] c h = absurd (false≢true (ap is_some h))
only-is (d ∷ []) c h = ap (λ o. unwrap_or o 0 ∷ []) h
only-is (d ∷ e ∷ cs) c h = absurd (false≢true (ap is_some h))

one-char : (bs : List ℕ) (c : ℕ) → char_of bs ≡ Some c → IsScalar c × (bs ≡ encode_utf8 c)
one-char bs c h = elim (cases_Bool (is_utf8 bs)) [
  | inl b ↦
      let text = IsUtf8-from_is_utf8 bs b in
      let are : chars bs ≡ c ∷ [] = only-is (chars bs) c (sym (ap (λ t. cond t (only (chars bs)) None) b) ∙ h) in
      ((and_parts _ true (ap all_scalars (sym are) ∙ scalars-chars bs text)).0, sym (encodes-chars bs text) ∙ ap encode_utf8_all are ∙ append-nil (encode_utf8 c))
  | inr b ↦ absurd (false≢true (ap is_some (sym (ap (λ t. cond t (only (chars bs)) None) b) ∙ h)))
]

module _ (c : ℕ) (scalar : IsScalar c) where
  chars-encode : chars (encode_utf8 c) ≡ c ∷ []
  chars-encode = ap chars (sym (append-nil (encode_utf8 c))) ∙ chars-encodes (c ∷ []) (and_from _ true scalar refl)

  of-encoded : char_of (encode_utf8 c) ≡ Some c
  of-encoded = ap (λ t. cond t (only (chars (encode_utf8 c))) None) (is_utf8-from_IsUtf8 (encode_utf8 c) (IsUtf8-encode c scalar)) ∙ ap only chars-encode

  chars-front : (rest : List ℕ) → chars (encode_utf8 c ++ rest) ≡ c ∷ chars rest
  chars-front rest = chars-append (encode_utf8 c) rest (IsUtf8-encode c scalar) ∙ ap (λ cs. cs ++ chars rest) chars-encode

-- ---- one of four

each : (P : ℕ → Type 0) (a b : Option ℕ) → ((c : ℕ) → a ≡ Some c → P c) → ((c : ℕ) → b ≡ Some c → P c) → (c : ℕ) → option_or a b ≡ Some c → P c
each P None b f g c h = g c h
each P (Some x) b f g c h = f c h

abbrev IsThere : Option ℕ → Type 0
IsThere o = (c : ℕ) × (o ≡ Some c)

left : (a b : Option ℕ) → IsThere a → IsThere (option_or a b)
left None b t = absurd (false≢true (ap is_some t.1))
left (Some x) b t = (x, refl)

right : (a b : Option ℕ) → IsThere b → IsThere (option_or a b)
right None b t = t
right (Some x) b t = (x, refl)

abbrev IsSize : ℕ → Type 0
IsSize n = (n ≡ 1) ⊎ ((n ≡ 2) ⊎ ((n ≡ 3) ⊎ (n ≡ 4)))

four-there : (f : ℕ → Option ℕ) (n : ℕ) → IsSize n → IsThere (f n) → IsThere (option_or (f 1) (option_or (f 2) (option_or (f 3) (f 4))))
four-there f n size t = elim size [
  | inl is ↦ left (f 1) _ (subst (λ m. IsThere (f m)) is t)
  | inr more ↦ right (f 1) _ (elim more [
    | inl is ↦ left (f 2) _ (subst (λ m. IsThere (f m)) is t)
    | inr most ↦ right (f 2) _ (elim most [
      | inl is ↦ left (f 3) _ (subst (λ m. IsThere (f m)) is t)
      | inr is ↦ right (f 3) _ (subst (λ m. IsThere (f m)) is t)
    ])
  ])
]

sizes : (x y z : Bool) → IsSize (cond x 1 (cond y 2 (cond z 3 4)))
sizes true y z = inl refl
sizes false true z = inr (inl refl)
sizes false false true = inr (inr (inl refl))
sizes false false false = inr (inr (inr refl))

size-encode : (c : ℕ) → IsSize (length (encode_utf8 c))
size-encode c = subst IsSize (sym (length-encode c)) (sizes _ _ _)

-- ---- the first character

first-sound : (bs : List ℕ) (c : ℕ) → first_char bs ≡ Some c → BeginWith bs c
first-sound bs = each (BeginWith bs) _ _ (at 1) (each (BeginWith bs) _ _ (at 2) (each (BeginWith bs) _ _ (at 3) (at 4)))
  where
    at : (n : ℕ) (c : ℕ) → char_of (take n bs) ≡ Some c → BeginWith bs c
    at n c h = let one = one-char (take n bs) c h in (one.0, drop n bs, sym (take-append-drop n bs) ∙ ap (λ xs. xs ++ drop n bs) one.1)

front-same : (c d : ℕ) (xs ys : List ℕ) → IsScalar c → IsScalar d → encode_utf8 c ++ xs ≡ encode_utf8 d ++ ys → c ≡ d
front-same c d xs ys one other h = ap (λ cs. get_or cs 0 0) (sym (chars-front c one xs) ∙ ap chars h ∙ chars-front d other ys)

first-complete : (bs : List ℕ) (c : ℕ) → BeginWith bs c → first_char bs ≡ Some c
first-complete bs c h =
    let there = four-there (λ n. char_of (take n bs)) (length (encode_utf8 c)) (size-encode c)
    (c, ap (λ xs. char_of (take (length (encode_utf8 c)) xs)) h.2 ∙ ap char_of (take-append_seam (encode_utf8 c) h.1) ∙ of-encoded c h.0) in
    let also = first-sound bs there.0 there.1 in
    there.1 ∙ ap Some (front-same there.0 c also.1 h.1 also.0 h.0 (sym also.2 ∙ h.2))

-- ---- the last character

last-sound : (bs : List ℕ) (c : ℕ) → last_char bs ≡ Some c → EndWith bs c
last-sound bs = each (EndWith bs) _ _ (at 1) (each (EndWith bs) _ _ (at 2) (each (EndWith bs) _ _ (at 3) (at 4)))
  where
    at : (n : ℕ) (c : ℕ) → char_of (last_bytes n bs) ≡ Some c → EndWith bs c
    at n c h = let one = one-char (last_bytes n bs) c h in (one.0, take (length bs - n) bs, sym (take-append-drop (length bs - n) bs) ∙ ap (λ xs. take (length bs - n) bs ++ xs) one.1)

index-seam : (xs ys : List ℕ) → slice_index (xs ++ ys) (length xs) ≡ slice_index ys 0
index-seam [] ys = refl
index-seam (x ∷ xs) ys = index-seam xs ys

sole : (c d : ℕ) (xs : List ℕ) → d ∷ [] ≡ xs ++ c ∷ [] → c ≡ d
sole c d [] h = ap (λ cs. get_or cs 0 0) (sym h)
sole c d (x ∷ xs) h = absurd (let long = ap length h ∙ ap suc (length-append xs (c ∷ [])) in omega (arith, long))

-- no character ends with the bytes of another
back-shorter : (c d : ℕ) (xs : List ℕ) → IsScalar c → IsScalar d → encode_utf8 d ≡ xs ++ encode_utf8 c → c ≡ d
back-shorter c d xs one other h =
    let starts = IsCharBoundary-start (encode_utf8 c) (IsUtf8-encode c one) in
    let long = length-append xs (encode_utf8 c) in
    let boundary : IsCharBoundary (xs ++ encode_utf8 c) (length xs) =
    (omega (arith, long), λ inside high. subst (λ b. 192 ≤ b) (sym (index-seam xs (encode_utf8 c))) (starts.1 (omega (arith, long, inside)) (subst (λ b. 128 ≤ b) (index-seam xs (encode_utf8 c)) high))) in
    let text : IsUtf8 xs = subst IsUtf8 (take-append_seam xs (encode_utf8 c)) (IsUtf8-take (xs ++ encode_utf8 c) (length xs) (subst IsUtf8 h (IsUtf8-encode d other)) boundary) in
    sole c d (chars xs) (sym (chars-encode d other) ∙ ap chars h ∙ chars-append xs (encode_utf8 c) text ∙ ap (λ cs. chars xs ++ cs) (chars-encode c one))

back-part : (c d : ℕ) (xs ys : List ℕ) → length ys ≤ length xs → xs ++ encode_utf8 c ≡ ys ++ encode_utf8 d → encode_utf8 d ≡ drop (length ys) xs ++ encode_utf8 c
back-part c d xs ys le h = sym (drop-append_seam ys (encode_utf8 d)) ∙ ap (drop (length ys)) (sym h) ∙ drop-append-le (length ys) xs (encode_utf8 c) le

back-same : (c d : ℕ) (xs ys : List ℕ) → IsScalar c → IsScalar d → xs ++ encode_utf8 c ≡ ys ++ encode_utf8 d → c ≡ d
back-same c d xs ys one other h = elim (cases_lt (length xs) (length ys)) [
  | inl lt ↦ sym (back-shorter d c (drop (length xs) ys) other one (back-part d c ys xs (omega (arith, lt)) (sym h)))
  | inr le ↦ back-shorter c d (drop (length ys) xs) one other (back-part c d xs ys le h)
]

last-seam : (xs ys : List ℕ) → last_bytes (length ys) (xs ++ ys) ≡ ys
last-seam xs ys = ap (λ n. drop n (xs ++ ys)) (let long = length-append xs ys in let front : length (xs ++ ys) - length ys ≡ length xs = omega (arith, long) in front) ∙ drop-append_seam xs ys

last-complete : (bs : List ℕ) (c : ℕ) → EndWith bs c → last_char bs ≡ Some c
last-complete bs c h =
    let there = four-there (λ n. char_of (last_bytes n bs)) (length (encode_utf8 c)) (size-encode c)
    (c, ap (λ xs. char_of (last_bytes (length (encode_utf8 c)) xs)) h.2 ∙ ap char_of (last-seam h.1 (encode_utf8 c)) ∙ of-encoded c h.0) in
    let also = last-sound bs there.0 there.1 in
    there.1 ∙ ap Some (back-same there.0 c also.1 h.1 also.0 h.0 (sym also.2 ∙ h.2))

pub chars-are-utf8 : CharsAreUtf8
chars-are-utf8 bs c = ((first-sound bs c, first-complete bs c), (last-sound bs c, last-complete bs c))
