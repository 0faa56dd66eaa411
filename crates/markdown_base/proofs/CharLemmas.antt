-- Lemmas on the characters of a part of a text, and on how a code point is shown.
use Rattle.markdown_base.proofs.Prelude.{◌≡◌, ℕ, zero, suc, ◌+◌, ◌-◌, ◌<◌, ◌≤◌, ◌^◌, Bool, true, false, List, [], ◌∷◌, ◌++◌, length, take, drop, get_or, refl, sym, ap, ◌∙◌, arith, subst, rules, tests, drop-cons, lt-ltb, Option, Some, None, slice_get, IsUtf8, IsCharBoundary, replicate, codes, String, string_bytes, Result, Ok, Err, IfOk, IfSome, option_map, last_or, digits, format_spec, digits_output, styled_digits_output, option_append, code_point, IsCharBoundary-start, IsUtf8-between, IsUtf8-take, chars-append, chars-nil, encodes-chars, IsCharBoundary-after_ascii, false≢true, encode_utf8_all, take-add, drop-length, unary_clauses, take-append-drop, drop-drop, length-take, length-drop, append-nil, char_before, char_after, IsClassOfOpt, is_ascii_whitespace, is_whitespace, is_ascii_punctuation, Whitespace, Punctuation}
use Rattle.markdown_base.proofs.Common.{get-front}
use Rattle.std.specs.Fmt.{padded_integral, char_count}
use Rattle.std.specs.Str.{chars}

-- a byte that goes on with a character is not the first
pub some_before : (bs : List ℕ) (i : ℕ) → IsUtf8 bs → i < length bs → 128 ≤ get_or bs i 0 → get_or bs i 0 < 192 → 1 ≤ i
some_before bs zero text within low high =
    absurd (omega (arith, ((IsCharBoundary-start bs text).1 within low), high))
some_before bs (suc i) text within low high = omega arith

last_of_both : (o : Option ℕ) (xs ys : List ℕ) → 0 < length ys → last_or o (xs ++ ys) ≡ last_or None ys
last_of_both o [] [] some = absurd (omega arith)
last_of_both o [] (y ∷ ys) some = refl
last_of_both o (x ∷ xs) ys some = last_of_both (Some x) xs ys some

some_char : (bs : List ℕ) → IsUtf8 bs → 0 < length bs → 0 < length (chars bs)
some_char bs text some = go (chars bs) (encodes-chars bs text)
  where
    go : (cs : List ℕ) → encode_utf8_all cs ≡ bs → 0 < length cs
    go [] e = absurd (omega (arith, ap length e))
    go (c ∷ cs) e = omega arith

-- the last character before an index is the last one of any part that ends there
pub char_before_part : (bs : List ℕ) (i j : ℕ) → IsUtf8 bs → i < j → j ≤ length bs → IsCharBoundary bs i → IsCharBoundary bs j
    → char_before bs j ≡ last_or None (chars (take (j - i) (drop i bs)))
char_before_part bs i j text lt within starts ends =
    let long : 0 < length (take (j - i) (drop i bs)) = grind (arith, length-take, length-drop) in
    let e : j ≡ i + (j - i) = omega arith in
    ap (λ xs. last_or None (chars xs)) (ap (λ n. take n bs) e ∙ take-add i (j - i) bs)
    ∙ ap (λ cs. last_or None cs) (chars-append (take i bs) (take (j - i) (drop i bs)) (IsUtf8-take bs i text starts))
    ∙ last_of_both None (chars (take i bs)) (chars (take (j - i) (drop i bs))) (some_char (take (j - i) (drop i bs)) (IsUtf8-between bs i j text (omega arith) starts ends) long)

-- the first character from an index on is the first one of any part that begins there
pub char_after_part : (bs : List ℕ) (i j : ℕ) → IsUtf8 bs → i < j → j ≤ length bs → IsCharBoundary bs i → IsCharBoundary bs j
    → char_after bs i ≡ slice_get (chars (take (j - i) (drop i bs))) 0
char_after_part bs i j text lt within starts ends =
    let part = IsUtf8-between bs i j text (omega arith) starts ends in
    let long : 0 < length (take (j - i) (drop i bs)) = grind (arith, length-take, length-drop) in
    let e : i + (j - i) ≡ j = omega arith in
    let rest : drop (j - i) (drop i bs) ≡ drop j bs = drop-drop (j - i) i bs ∙ ap (λ n. drop n bs) e in
    ap (λ xs. slice_get (chars xs) 0) (sym (take-append-drop (j - i) (drop i bs)) ∙ ap (λ ds. take (j - i) (drop i bs) ++ ds) rest)
    ∙ ap (λ cs. slice_get cs 0) (chars-append (take (j - i) (drop i bs)) (drop j bs) part)
    ∙ get-front (chars (take (j - i) (drop i bs))) (chars (drop j bs)) 0 (some_char (take (j - i) (drop i bs)) part long)

-- what `{n:04X}` writes
pub hexadecimal_is : (n : ℕ) → padded_integral (format_spec 32 0 4 4 (2 ^ 64 - 1)) false [] (digits 16 true n) ≡ replicate (4 - length (digits 16 true n)) 48 ++ digits 16 true n
unfolding padded_integral char_count
hexadecimal_is n = simp (unary_clauses, append-nil)

-- what `format!` makes of `U+{n:04X}`
pub code_point_written : {Z E : Type 0} (made : Result (String Z) E) (d : _) (spec : _) (n : ℕ) → digits_output d ≡ Some (digits 16 true n) → spec ≡ format_spec 32 0 4 4 (2 ^ 64 - 1)
    → IfOk made (λ s. IfSome (option_append (Some (codes "U+")) (styled_digits_output d spec)) (λ bs. string_bytes s ≡ bs)) → IfOk made (λ s. string_bytes s ≡ code_point n)
code_point_written (Err e) d spec n shows plain ok = tt
code_point_written (Ok s) d spec n shows plain ok =
    let written : IfSome (option_append (Some (codes "U+")) (option_map (padded_integral (format_spec 32 0 4 4 (2 ^ 64 - 1)) false []) (Some (digits 16 true n)))) (λ bs. string_bytes s ≡ bs) = rw (shows, plain) at ok in
    written ∙ ap (λ ds. codes "U+" ++ ds) (hexadecimal_is n)

-- there is no character after a text's end
pub none_after : (bs : List ℕ) (i : ℕ) → i ≡ length bs → char_after bs i ≡ None
none_after bs i e = rw (e, drop-length, chars-nil) refl

chars-ascii : (b : ℕ) → b < 128 → chars (b ∷ []) ≡ b ∷ []
unfolding chars
chars-ascii b small =
    rw (lt-ltb b 128 small) refl

visible_is_not_white : (b : ℕ) → 33 ≤ b → b < 128 → is_whitespace b ≡ false
visible_is_not_white b low high = search (rules, tests)

-- the classes that need no predicate
module _ (answers : ℕ → Bool → Type 0) (bs : List ℕ) (i b : ℕ) (text : IsUtf8 bs) (starts : IsCharBoundary bs i) (within : i < length bs) (is : b ≡ get_or bs i 0) where
  -- the character that begins with an ASCII byte is that byte
  ascii_here : b < 128 → char_after bs i ≡ Some b
  ascii_here small =
      let part = char_after_part bs i (i + 1) text (omega arith) (omega arith) starts (IsCharBoundary-after_ascii bs i text within (subst (λ n. n < 128) is small)) in
      let one : i + 1 - i ≡ 1 = omega arith in
      let byte : take 1 (drop i bs) ≡ b ∷ [] = rw (drop-cons bs i 0, ← is) refl in
      part ∙ ap (λ n. slice_get (chars (take n (drop i bs))) 0) one ∙ ap (λ xs. slice_get (chars xs) 0) byte ∙ ap (λ cs. slice_get cs 0) (chars-ascii b small)

  pub class_of_white : is_ascii_whitespace b ≡ true → IsClassOfOpt answers (char_after bs i) Whitespace
  class_of_white white =
      let small : b < 128 = search (rules, tests) in
      let here : is_whitespace b ≡ true = search (rules, tests) in
      rw (ascii_here small) (record {
        white_space = λ w. refl;
        ascii = λ visible. absurd (false≢true (sym visible ∙ here));
        other = λ visible. absurd (false≢true (sym visible ∙ here));
      })

  pub class_of_punctuation : is_ascii_punctuation b ≡ true → IsClassOfOpt answers (char_after bs i) Punctuation
  class_of_punctuation punctuation =
      let visible : (33 ≤ b) × (b < 128) = search (rules, tests) in
      rw (ascii_here visible.1) (record {
        white_space = λ white. absurd (false≢true (sym (visible_is_not_white b visible.0 visible.1) ∙ white));
        ascii = λ w p. refl;
        other = λ w none. absurd (false≢true (sym none ∙ punctuation));
      })
