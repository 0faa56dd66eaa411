-- What is written of texts is text.
use Rattle.std.proofs.Common.{◌≡◌, ℕ, ◌≤◌, ◌<◌, List, [], ◌∷◌, ◌++◌, length, ap, sym, refl, subst, ◌∙◌, arith, append_assoc}
use Rattle.std.specs.Char.{is_ascii_digit, is_ascii_whitespace}
use Rattle.std.specs.Fmt.{decimal, digit_glyph, digits, digits_onto}
use Rattle.std.specs.List.{list_all}
use Rattle.std.specs.Prelude.{◌==◌, zero, suc, ◌&&◌, ◌||◌, not, ◌/◌, ◌%◌, Bool, true, false, cond, codes, is_some}
use Rattle.std.proofs.lemmas.Bool.{and_from, and_parts}
use Rattle.std.proofs.lemmas.List.{length-append}
use Rattle.std.proofs.lemmas.List.Folds.{list_all-append}
use Rattle.mdhtml_markup.specs.declared.elements.Element.{Element}
use Rattle.mdhtml_markup.specs.Escapes.{escaped, escaped_byte, replacement}
use Rattle.mdhtml_markup.specs.Laws.{EscapesAreText, EscapesAreShort}
use Rattle.mdhtml_markup.specs.SafeHtml.{IsSafeHtml, entity_at, holds_text, is_text, is_text_byte, text}

-- what is written of a byte, by the six tests; and whether it is text where it is written itself
abbrev picked : (a l g q x z : Bool) → ℕ → List ℕ
picked a l g q x z b =
    cond a (codes "&amp;") (cond l (codes "&lt;") (cond g (codes "&gt;") (cond q (codes "&quot;") (cond x (codes "&#x1B;") (cond z replacement (b ∷ []))))))

abbrev itself : (a l g q x z entity : Bool) → Bool
itself a l g q x z entity = cond a entity (not ((l || (g || (a || (q || false)))) || (z || x)))

text-by : (a l g q x z : Bool) (b : ℕ) (t : List ℕ) → is_text t ≡ true → itself a l g q x z (is_some (entity_at t)) ≡ is_text_byte b t → is_text (picked a l g q x z b ++ t) ≡ true
text-by true l g q x z b t h m = h
text-by false true g q x z b t h m = h
text-by false false true q x z b t h m = h
text-by false false false true x z b t h m = h
text-by false false false false true z b t h m = h
text-by false false false false false true b t h m = h
text-by false false false false false false b t h m = and_from (is_text_byte b t) (is_text t) (sym m) h

pub escaped-text : EscapesAreText
escaped-text [] = refl
escaped-text (b ∷ bs) = text-by (b == 38) (b == 60) (b == 62) (b == 34) (b == 27) (b == 0) b (escaped bs) (escaped-text bs) refl

short-by : (a l g q x z : Bool) (b : ℕ) → length (picked a l g q x z b) ≤ 6
short-by true l g q x z b = omega arith
short-by false true g q x z b = omega arith
short-by false false true q x z b = omega arith
short-by false false false true x z b = omega arith
short-by false false false false true z b = omega arith
short-by false false false false false true b = omega arith
short-by false false false false false false b = omega arith

pub escaped-short : EscapesAreShort
escaped-short [] = omega arith
escaped-short (b ∷ bs) =
    let here : length (escaped_byte b) ≤ 6 = short-by (b == 38) (b == 60) (b == 62) (b == 34) (b == 27) (b == 0) b in
    let more = escaped-short bs in
    let long = length-append (escaped_byte b) (escaped bs) in
    omega (arith, here, more, long)

-- text in front of safe HTML
abbrev says : List ℕ → List ℕ → Bool
says [] h = true
says (b ∷ bs) h = is_text_byte b (bs ++ h) && says bs h

said : (tags : List Element) (w h : List ℕ) → holds_text tags ≡ true → says w h ≡ true → IsSafeHtml tags h → IsSafeHtml tags (w ++ h)
said tags [] h t e s = s
said tags (b ∷ bs) h t e s = text tags b (bs ++ h) refl (ap (λ c. c || (b == 10)) t) (and_parts (is_text_byte b (bs ++ h)) (says bs h) e).0 (said tags bs h t (and_parts (is_text_byte b (bs ++ h)) (says bs h) e).1 s)

says-by : (a l g q x z : Bool) (b : ℕ) (h : List ℕ) → itself a l g q x z (is_some (entity_at h)) ≡ is_text_byte b h → says (picked a l g q x z b) h ≡ true
says-by true l g q x z b h m = refl
says-by false true g q x z b h m = refl
says-by false false true q x z b h m = refl
says-by false false false true x z b h m = refl
says-by false false false false true z b h m = refl
says-by false false false false false true b h m = refl
says-by false false false false false false b h m = and_from (is_text_byte b h) true (sym m) refl

pub escaped-first : (tags : List Element) (t h : List ℕ) → holds_text tags ≡ true → IsSafeHtml tags h → IsSafeHtml tags (escaped t ++ h)
escaped-first tags [] h holds s = s
escaped-first tags (b ∷ bs) h holds s =
    let rest = escaped bs ++ h in
    subst (IsSafeHtml tags) (sym (append_assoc (escaped_byte b) (escaped bs) h))
    (said tags (escaped_byte b) rest holds (says-by (b == 38) (b == 60) (b == 62) (b == 34) (b == 27) (b == 0) b rest refl) (escaped-first tags bs h holds s))

-- what is written of text without white space has none
abbrev solid : ℕ → Bool
solid b = not (is_ascii_whitespace b)

solid-by : (a l g q x z : Bool) (b : ℕ) → solid b ≡ true → list_all solid (picked a l g q x z b) ≡ true
solid-by true l g q x z b h = refl
solid-by false true g q x z b h = refl
solid-by false false true q x z b h = refl
solid-by false false false true x z b h = refl
solid-by false false false false true z b h = refl
solid-by false false false false false true b h = refl
solid-by false false false false false false b h = and_from (solid b) true h refl

pub escaped-solid : (t : List ℕ) → list_all solid t ≡ true → list_all solid (escaped t) ≡ true
escaped-solid [] h = refl
escaped-solid (b ∷ bs) h =
    let here = solid-by (b == 38) (b == 60) (b == 62) (b == 34) (b == 27) (b == 0) b (and_parts (solid b) (list_all solid bs) h).0 in
    list_all-append solid (escaped_byte b) (escaped bs)
    ∙ and_from (list_all solid (escaped_byte b)) (list_all solid (escaped bs)) here (escaped-solid bs (and_parts (solid b) (list_all solid bs) h).1)

-- numbers are digits
glyph-digit : (d : ℕ) → d < 10 → is_ascii_digit (digit_glyph false d) ≡ true
glyph-digit d h = grind (arith, h)

digits-by : (last : Bool) (c : ℕ) (acc more : List ℕ) → is_ascii_digit c ≡ true → list_all is_ascii_digit acc ≡ true → list_all is_ascii_digit more ≡ true
    → list_all is_ascii_digit (cond last (c ∷ acc) more) ≡ true
digits-by true c acc more m h k = and_from (is_ascii_digit c) (list_all is_ascii_digit acc) m h
digits-by false c acc more m h k = k

digits-are : (k n : ℕ) (acc : List ℕ) → list_all is_ascii_digit acc ≡ true → list_all is_ascii_digit (digits_onto k 10 false n acc) ≡ true
digits-are zero n acc h = h
digits-are (suc k) n acc h =
    let c = digit_glyph false (n % 10) in
    let m : is_ascii_digit c ≡ true = glyph-digit (n % 10) (omega arith) in
    digits-by (n / 10 == 0) c acc (digits_onto k 10 false (n / 10) (c ∷ acc)) m h (digits-are k (n / 10) (c ∷ acc) (and_from (is_ascii_digit c) (list_all is_ascii_digit acc) m h))

pub decimal-digits : (n : ℕ) → list_all is_ascii_digit (decimal n) ≡ true
unfolding digits
decimal-digits n = digits-are 64 n [] refl
