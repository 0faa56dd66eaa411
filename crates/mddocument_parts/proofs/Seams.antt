-- Characters beside places of a document whose first part ends a line: they are those in its parts.
use Rattle.std.proofs.Common.{◌≡◌, ℕ, zero, suc, ◌+◌, ◌-◌, ◌==◌, ◌<◌, ◌≤◌, ◌&&◌, ◌||◌, not, Bool, true, false, cond, List, [], ◌∷◌, ◌++◌, ◌⊎◌, inl, inr, length, take, drop, refl, sym, ap, ◌∙◌, subst, Option, Some, None, length-append, length-take, arith}
use Rattle.std.proofs.Math.Seq.{drop-append_seam, drop-append-add, take-append-add, take-append_seam}
use Rattle.std.proofs.lemmas.Bool.{cases_Bool, eqb-true}
use Rattle.std.proofs.lemmas.List.{append-nil, drop-append-le, take-append-le, take_all}
use Rattle.std.proofs.lemmas.Str.{IsCharBoundary-after_ascii, IsUtf8-drop, IsUtf8-from_ascii, IsUtf8-from_is_utf8, IsUtf8-take, chars-IsAscii, chars-append, encodes-chars, is_utf8-from_IsUtf8}
use Rattle.std.proofs.lemmas.Str.Ascii.{IsAscii-cons, IsAscii-nil}
use Rattle.std.specs.Option.{option_or}
use Rattle.std.specs.Prelude.{chars, get_or}
use Rattle.std.specs.Str.{IsUtf8, encode_utf8_all, is_utf8}
use Rattle.markdown_base.specs.Virtual.{begins_with_lf}
use Rattle.markdown_base.specs.declared.util.char.Kind.TheVariants.{Whitespace}
use Rattle.mdinline_emphasis.specs.Classes.{char_of, class_after, class_at_end, class_before, class_of, first_char, last_bytes, last_char, only}
use Rattle.mdinline_emphasis.specs.Unicode.{white_space}
use Rattle.mddocument_parts.specs.Moved.{begins_line}

-- ---- no character goes on behind a byte of ASCII

at-seam : (w : List ℕ) (d : ℕ) (x : List ℕ) → get_or ((w ++ d ∷ []) ++ x) (length w) 0 ≡ d
at-seam [] d x = refl
at-seam (y ∷ w) d x = at-seam w d x

some-char : (x : List ℕ) → IsUtf8 x → 1 ≤ length x → 1 ≤ length (chars x)
some-char x text some = by (chars x) (encodes-chars x text)
  where
    by : (cs : List ℕ) → encode_utf8_all cs ≡ x → 1 ≤ length cs
    by [] e = absurd (let none = ap length e in omega (arith, none, some))
    by (c ∷ cs) e = omega arith

only-none : (cs : List ℕ) → 2 ≤ length cs → only cs ≡ None
only-none [] h = refl
only-none (c ∷ []) h = absurd (omega (arith, h))
only-none (c ∷ d ∷ cs) h = refl

no-char : (w : List ℕ) (d : ℕ) (x : List ℕ) → d < 128 → 1 ≤ length x → char_of ((w ++ d ∷ []) ++ x) ≡ None
no-char w d x low some =
    let first = w ++ d ∷ [] in
    let whole = first ++ x in
    elim (cases_Bool (is_utf8 whole)) [
      | inr b ↦ ap (λ t. cond t (only (chars whole)) None) b
      | inl b ↦
          let text = IsUtf8-from_is_utf8 whole b in
          let long = length-append first x in
          let short = length-append w (d ∷ []) in
          let here : length w + 1 ≡ length first = omega (arith, short) in
          let boundary = IsCharBoundary-after_ascii whole (length w) text (omega (arith, long, short)) (subst (λ b. b < 128) (sym (at-seam w d x)) low) in
          let front : IsUtf8 first = subst IsUtf8 (ap (λ n. take n whole) here ∙ take-append_seam first x) (IsUtf8-take whole (length w + 1) text boundary) in
          let back : IsUtf8 x = subst IsUtf8 (ap (λ n. drop n whole) here ∙ drop-append_seam first x) (IsUtf8-drop whole (length w + 1) text boundary) in
          let count = ap length (chars-append first x front) ∙ length-append (chars first) (chars x) in
          let one = some-char first front (omega (arith, short)) in
          let another = some-char x back some in
          ap (λ t. cond t (only (chars whole)) None) b ∙ only-none (chars whole) (omega (arith, count, one, another))
    ]

-- ---- bytes that end a line

pub record EndsLine (a : List ℕ) : Type 0 where
  pub front : List ℕ
  pub last : ℕ
  pub is : a ≡ front ++ last ∷ []
  pub byte : (last ≡ 10) ⊎ (last ≡ 13)

pub ends-line : (b : List ℕ) (x : ℕ) (a : List ℕ) → begins_line b (x ∷ a) ≡ true → EndsLine (x ∷ a)
ends-line b x [] h = record { front = []; last = x; is = refl; byte = by (x == 10) refl (x == 13) refl (not (begins_with_lf b)) h }
  where
    by : (p : Bool) → (x == 10) ≡ p → (q : Bool) → (x == 13) ≡ q → (r : Bool) → (p || (q && r)) ≡ true → (x ≡ 10) ⊎ (x ≡ 13)
    by true e q f r h = inl (eqb-true x 10 e)
    by false e true f r h = inr (eqb-true x 13 f)
    by false e false f r h = absurd (cc)
ends-line b x (y ∷ a) h = let more = ends-line b y a h in record { front = x ∷ more.front; last = more.last; is = ap (λ bs. x ∷ bs) more.is; byte = more.byte }

low-byte : (d : ℕ) → (d ≡ 10) ⊎ (d ≡ 13) → d < 128
low-byte d h = elim h [ inl e ↦ omega (arith, e) | inr e ↦ omega (arith, e) ]

-- ---- the characters are the same

-- the first of four that is there
abbrev first_of : (ℕ → Option ℕ) → Option ℕ
first_of f = option_or (f 1) (option_or (f 2) (option_or (f 3) (f 4)))

abbrev four : (a b c d : Option ℕ) → Option ℕ
four a b c d = option_or a (option_or b (option_or c d))

-- nothing more is there behind a place, and it would be the same
again-one : (o : Option ℕ) → four o None None None ≡ four o o o o
again-one None = refl
again-one (Some c) = refl

again-two : (a o : Option ℕ) → four a o None None ≡ four a o o o
again-two None None = refl
again-two None (Some c) = refl
again-two (Some c) o = refl

again-three : (a b o : Option ℕ) → four a b o None ≡ four a b o o
again-three None None None = refl
again-three None None (Some c) = refl
again-three None (Some c) o = refl
again-three (Some c) b o = refl

four-same : (f g : ℕ → Option ℕ) (n : ℕ) → 1 ≤ n → ((k : ℕ) → k ≤ n → f k ≡ g k) → ((k : ℕ) → n < k → f k ≡ None) → ((k : ℕ) → n < k → g k ≡ g n) → first_of f ≡ first_of g
four-same f g zero some same none more = absurd (omega (arith, some))
four-same f g (suc zero) some same none more =
    rw (same 1 (omega arith), none 2 (omega arith), none 3 (omega arith), none 4 (omega arith), more 2 (omega arith), more 3 (omega arith), more 4 (omega arith)) (again-one (g 1))
four-same f g (suc (suc zero)) some same none more =
    rw (same 1 (omega arith), same 2 (omega arith), none 3 (omega arith), none 4 (omega arith), more 3 (omega arith), more 4 (omega arith)) (again-two (g 1) (g 2))
four-same f g (suc (suc (suc zero))) some same none more =
    rw (same 1 (omega arith), same 2 (omega arith), same 3 (omega arith), none 4 (omega arith), more 4 (omega arith)) (again-three (g 1) (g 2) (g 3))
four-same f g (suc (suc (suc (suc n)))) some same none more = rw (same 1 (omega arith), same 2 (omega arith), same 3 (omega arith), same 4 (omega arith))

first-same : (y b : List ℕ) → EndsLine y → first_char (y ++ b) ≡ first_char y
first-same y [] ends = ap first_char (append-nil y)
first-same y (z ∷ b) ends =
    let size = ap length ends.is ∙ length-append ends.front (ends.last ∷ []) in
    four-same (λ k. char_of (take k (y ++ z ∷ b))) (λ k. char_of (take k y)) (length y) (omega (arith, size))
    (λ k le. ap char_of (take-append-le k y (z ∷ b) le))
    (λ k lt.
    let j = k - length y in
    let e : k ≡ length y + j = omega (arith, lt) in
    let rest = length-take j (z ∷ b) in
    ap char_of (ap (λ n. take n (y ++ z ∷ b)) e ∙ take-append-add y (z ∷ b) j ∙ ap (λ y. y ++ take j (z ∷ b)) ends.is)
    ∙ no-char ends.front ends.last (take j (z ∷ b)) (low-byte ends.last ends.byte) (some-taken j z b (omega (arith, lt))))
    (λ k lt. ap char_of (take_all k y (omega (arith, lt)) ∙ sym (take_all (length y) y (omega arith))))
  where
    some-taken : (j z : ℕ) (b : List ℕ) → 1 ≤ j → 1 ≤ length (take j (z ∷ b))
    some-taken zero z b h = absurd (omega (arith, h))
    some-taken (suc j) z b h = omega arith

last-same : (a x : List ℕ) → EndsLine a → 1 ≤ length x → last_char (a ++ x) ≡ last_char x
last-same a x ends some =
    let long = length-append a x in
    let size = ap length ends.is ∙ length-append ends.front (ends.last ∷ []) in
    four-same (λ k. char_of (last_bytes k (a ++ x))) (λ k. char_of (last_bytes k x)) (length x) some
    (λ k le.
    let e : length (a ++ x) - k ≡ length a + (length x - k) = omega (arith, long, le) in
    ap char_of (ap (λ n. drop n (a ++ x)) e ∙ drop-append-add a x (length x - k)))
    (λ k lt.
    let j = length (a ++ x) - k in
    let part : drop j a ≡ drop j ends.front ++ ends.last ∷ [] = ap (drop j) ends.is ∙ drop-append-le j ends.front (ends.last ∷ []) (omega (arith, lt, size, long)) in
    ap char_of (drop-append-le j a x (omega (arith, lt, long)) ∙ ap (λ a. a ++ x) part) ∙ no-char (drop j ends.front) ends.last x (low-byte ends.last ends.byte) some)
    (λ k lt. let e : length x - k ≡ length x - length x = omega (arith, lt) in ap (λ n. char_of (drop n x)) e)

-- ---- and their classes

ascii-char : (d : ℕ) → d < 128 → char_of (d ∷ []) ≡ Some d
ascii-char d low =
    let ascii = IsAscii-cons d [] low IsAscii-nil in
    ap (λ t. cond t (only (chars (d ∷ []))) None) (is_utf8-from_IsUtf8 (d ∷ []) (IsUtf8-from_ascii (d ∷ []) ascii)) ∙ ap only (chars-IsAscii (d ∷ []) ascii)

white-ten : class_of 10 ≡ Whitespace
unfolding white_space
white-ten = refl

white-thirteen : class_of 13 ≡ Whitespace
unfolding white_space
white-thirteen = refl

white-end : (a : List ℕ) → EndsLine a → class_at_end a (last_char a) ≡ Whitespace
white-end a ends =
    let long = ap length ends.is ∙ length-append ends.front (ends.last ∷ []) in
    let at : length a - 1 ≡ length ends.front = omega (arith, long) in
    let one : last_bytes 1 a ≡ ends.last ∷ [] = (λ i. drop (at i) (ends.is i)) ∙ drop-append_seam ends.front (ends.last ∷ []) in
    ap (λ bytes. class_at_end a (option_or (char_of bytes) (option_or (char_of (last_bytes 2 a)) (option_or (char_of (last_bytes 3 a)) (char_of (last_bytes 4 a)))))) one
    ∙ by a ends.last ends.byte (omega (arith, long)) (option_or (char_of (last_bytes 2 a)) (option_or (char_of (last_bytes 3 a)) (char_of (last_bytes 4 a))))
  where
    white : (d : ℕ) → (d ≡ 10) ⊎ (d ≡ 13) → class_of d ≡ Whitespace
    white d byte = elim byte [ inl ten ↦ ap class_of ten ∙ white-ten | inr more ↦ ap class_of more ∙ white-thirteen ]

    by : (a : List ℕ) (d : ℕ) → (d ≡ 10) ⊎ (d ≡ 13) → 1 ≤ length a → (o : Option ℕ) → class_at_end a (option_or (char_of (d ∷ [])) o) ≡ Whitespace
    by [] d byte some o = absurd (omega (arith, some))
    by (x ∷ a) d byte some o = ap (λ c. class_at_end (x ∷ a) (option_or c o)) (ascii-char d (low-byte d byte)) ∙ white d byte

class-same : (x : ℕ) (xs : List ℕ) (y : ℕ) (ys : List ℕ) (o p : Option ℕ) → o ≡ p → class_at_end (x ∷ xs) o ≡ class_at_end (y ∷ ys) p
class-same x xs y ys o None e = ap (class_at_end (x ∷ xs)) e
class-same x xs y ys o (Some c) e = ap (class_at_end (x ∷ xs)) e

end-behind : (a x : List ℕ) → EndsLine a → class_at_end (a ++ x) (last_char (a ++ x)) ≡ class_at_end x (last_char x)
end-behind a [] ends = ap (λ bytes. class_at_end bytes (last_char bytes)) (append-nil a) ∙ white-end a ends
end-behind [] (y ∷ x) ends = refl
end-behind (z ∷ a) (y ∷ x) ends = class-same z (a ++ y ∷ x) y x _ _ (last-same (z ∷ a) (y ∷ x) ends (omega arith))

end-front : (y b : List ℕ) → EndsLine y → class_at_end (y ++ b) (first_char (y ++ b)) ≡ class_at_end y (first_char y)
end-front [] b ends = absurd (let long = ap length ends.is ∙ length-append ends.front (ends.last ∷ []) in omega (arith, long))
end-front (z ∷ y) b ends = class-same z (y ++ b) z y _ _ (first-same (z ∷ y) b ends)

ends-behind : (a : List ℕ) (i : ℕ) → EndsLine a → i < length a → EndsLine (drop i a)
ends-behind a i ends lt =
    let size = ap length ends.is ∙ length-append ends.front (ends.last ∷ []) in
    record { front = drop i ends.front; last = ends.last; is = ap (drop i) ends.is ∙ drop-append-le i ends.front (ends.last ∷ []) (omega (arith, lt, size)); byte = ends.byte }

-- the class of the character before a place of the second part, and behind a place of the first
module _ (a b : List ℕ) (h : begins_line b a ≡ true) where
  ends : (a' : List ℕ) → begins_line b a' ≡ true → 1 ≤ length a' → EndsLine a'
  ends [] h some = absurd (omega (arith, some))
  ends (x ∷ a') h some = ends-line b x a' h

  behind-first : (a' x : List ℕ) → begins_line b a' ≡ true → class_at_end (a' ++ x) (last_char (a' ++ x)) ≡ class_at_end x (last_char x)
  behind-first [] x h = refl
  behind-first (z ∷ a') x h = end-behind (z ∷ a') x (ends-line b z a' h)

  pub class-before-behind : (i : ℕ) → class_before (a ++ b) (i + length a) ≡ class_before b i
  class-before-behind i =
      let e : i + length a ≡ length a + i = omega arith in
      ap (λ bytes. class_at_end bytes (last_char bytes)) (ap (λ n. take n (a ++ b)) e ∙ take-append-add a b i) ∙ behind-first a (take i b) h

  pub class-after-front : (i : ℕ) → i < length a → class_after (a ++ b) i ≡ class_after a i
  class-after-front i lt = ap (λ bytes. class_at_end bytes (first_char bytes)) (drop-append-le i a b (omega (arith, lt))) ∙ end-front (drop i a) b (ends-behind a i (ends a h (omega (arith, lt))) lt)
