-- The characters of UTF-8 text, and their units.
use Rattle.mddocument_editing.proofs.Prelude.{◌≡◌, ℕ, ◌+◌, ◌≤◌, true, cond, List, [], ◌∷◌, ◌++◌, length, take, drop, refl, sym, ap, ◌∙◌, arith, zero-add, drop-append_seam, take-append_seam, nat_tests, get_or_append_left, length-append, IsUtf8-encode, chars-encodes, is_utf8-from_IsUtf8, len_utf8_bounds, length-encode, chars, all_scalars, continuation_len, encode_utf8_all, is_utf8, Utf16, CharactersAreUtf8, UnitsAreWritten, first_size, sizes, units, map}
use lib.Utf8.{encode}
use Rattle.std.specs.Char.{IsScalar, len_utf8}
use Rattle.std.specs.Char.Escape.{encode_utf16}
use Rattle.mddocument_editing.proofs.CharPlaces.{sizes-next}
use Rattle.mddocument_editing.proofs.CharSizes.{first-size, led, led_by}

-- the first character of a text
first-of : (c : ℕ) (rest : List ℕ) → IsScalar c → first_size (encode c ++ rest) ≡ length (encode c)
first-of c rest is =
    let long : 1 ≤ length (encode c) = omega (arith, length-encode c, len_utf8_bounds c) in
    let text = encode c ++ rest in
    let size : led_by text ≡ length (encode c) = ap (λ b. continuation_len b + 1) (get_or_append_left (encode c) rest 0 0 long) ∙ led c in
    let front : is_utf8 (take (led_by text) text) ≡ true =
    ap (λ n. is_utf8 (take n text)) size ∙ ap is_utf8 (take-append_seam (encode c) rest) ∙ is_utf8-from_IsUtf8 (encode c) (IsUtf8-encode c is)
    in
    first-size text (omega (arith, length-append (encode c) rest)) ∙ ap (λ b. cond b (led_by text) 1) front ∙ size

sizes-of : (cs : List ℕ) → all_scalars cs ≡ true → sizes (encode_utf8_all cs) ≡ map len_utf8 cs
sizes-of [] all = refl
sizes-of (c ∷ cs) all =
    let is : IsScalar c = grind arith in
    let more : all_scalars cs ≡ true = grind arith in
    let rest = encode_utf8_all cs in
    let long : 1 ≤ length (encode c) = omega (arith, length-encode c, len_utf8_bounds c) in
    let size = first-of c rest is in
    let behind : drop (0 + first_size (encode c ++ rest)) (encode c ++ rest) ≡ rest = ap (λ n. drop n (encode c ++ rest)) (zero-add _ ∙ size) ∙ drop-append_seam (encode c) rest in
    sizes-next (encode c ++ rest) 0 (omega (arith, length-append (encode c) rest))
    ∙ ap (λ n. n ∷ sizes (drop (0 + first_size (encode c ++ rest)) (encode c ++ rest))) (size ∙ length-encode c)
    ∙ ap (λ bs. len_utf8 c ∷ sizes bs) behind
    ∙ ap (λ ns. len_utf8 c ∷ ns) (sizes-of cs more)

pub characters-are-utf8 : CharactersAreUtf8
characters-are-utf8 text (cs, h) =
    ap sizes (sym h.1) ∙ sizes-of cs h.0 ∙ ap (map len_utf8) (sym (ap chars (sym h.1) ∙ chars-encodes cs h.0))

utf16 : (c : ℕ) → units Utf16 (len_utf8 c) ≡ length (encode_utf16 c)
utf16 c = grind (arith, nat_tests)

pub units-are-written : UnitsAreWritten
units-are-written c is = (sym (length-encode c), utf16 c)
