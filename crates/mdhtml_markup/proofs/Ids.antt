-- Bytes of ids are written as they are, in texts and in addresses.
use Rattle.std.proofs.Common.{◌≡◌, ℕ, List, [], ◌∷◌, ◌++◌, ap, refl, ◌∙◌}
use Rattle.std.proofs.lemmas.List.Folds.{list_all-append}
use Rattle.std.proofs.lemmas.Bool.{and_from, and_parts, eqb-true}
use Rattle.std.specs.Char.{is_ascii_alphanumeric, is_ascii_digit}
use Rattle.std.specs.Fmt.{decimal}
use Rattle.std.specs.Int.{is_in_range}
use Rattle.std.specs.List.{flat_map, list_all}
use Rattle.std.specs.Prelude.{◌==◌, ◌||◌, ◌/◌, ◌%◌, Bool, true, false, cond, codes}
use Rattle.mdhtml_markup.specs.Addresses.{hex_digit, quoted_byte, written_address, written_byte}
use Rattle.mdhtml_markup.specs.Escapes.{escaped, escaped_byte, replacement}
use Rattle.mdhtml_markup.specs.SafeHtml.{is_address_byte, is_id_byte}
use Rattle.mdhtml_markup.proofs.AddressLemmas.{alnum-has}
use Rattle.mdhtml_markup.proofs.Bools.{is-other}
use Rattle.mdhtml_markup.proofs.Texts.{decimal-digits}

digit-id : (b : ℕ) → is_ascii_digit b ≡ true → is_id_byte b ≡ true
digit-id b h = ap (λ c. ((c || is_in_range 65 90 b) || is_in_range 97 122 b) || (b == 45)) h

digits-ids : (t : List ℕ) → list_all is_ascii_digit t ≡ true → list_all is_id_byte t ≡ true
digits-ids [] h = refl
digits-ids (b ∷ bs) h =
    let parts = and_parts (is_ascii_digit b) (list_all is_ascii_digit bs) h in
    and_from (is_id_byte b) (list_all is_id_byte bs) (digit-id b parts.0) (digits-ids bs parts.1)

pub decimal-ids : (n : ℕ) → list_all is_id_byte (decimal n) ≡ true
decimal-ids n = digits-ids (decimal n) (decimal-digits n)

pub all-ids : (a b : List ℕ) → list_all is_id_byte a ≡ true → list_all is_id_byte b ≡ true → list_all is_id_byte (a ++ b) ≡ true
all-ids a b h k = list_all-append is_id_byte a b ∙ and_from (list_all is_id_byte a) (list_all is_id_byte b) h k

-- a byte that is none of the marks
escaped-by : (a l g q x z : Bool) (b : ℕ) → a ≡ false → l ≡ false → g ≡ false → q ≡ false → x ≡ false → z ≡ false
    → cond a (codes "&amp;") (cond l (codes "&lt;") (cond g (codes "&gt;") (cond q (codes "&quot;") (cond x (codes "&#x1B;") (cond z replacement (b ∷ [])))))) ≡ b ∷ []
escaped-by false false false false false false b h1 h2 h3 h4 h5 h6 = refl
escaped-by true l g q x z b h1 h2 h3 h4 h5 h6 = cc
escaped-by false true g q x z b h1 h2 h3 h4 h5 h6 = cc
escaped-by false false true q x z b h1 h2 h3 h4 h5 h6 = cc
escaped-by false false false true x z b h1 h2 h3 h4 h5 h6 = cc
escaped-by false false false false true z b h1 h2 h3 h4 h5 h6 = cc
escaped-by false false false false false true b h1 h2 h3 h4 h5 h6 = cc

none : (b n : ℕ) → is_id_byte n ≡ false → is_id_byte b ≡ true → (b == n) ≡ false
none b n h k = is-other is_id_byte b n h k

escaped-one : (b : ℕ) → is_id_byte b ≡ true → escaped_byte b ≡ b ∷ []
escaped-one b h =
    escaped-by (b == 38) (b == 60) (b == 62) (b == 34) (b == 27) (b == 0) b (none b 38 refl h) (none b 60 refl h) (none b 62 refl h) (none b 34 refl h) (none b 27 refl h) (none b 0 refl h)

pub escaped-ids : (t : List ℕ) → list_all is_id_byte t ≡ true → escaped t ≡ t
escaped-ids [] h = refl
escaped-ids (b ∷ bs) h =
    let parts = and_parts (is_id_byte b) (list_all is_id_byte bs) h in
    ap (λ (w : List ℕ). w ++ escaped bs) (escaped-one b parts.0) ∙ ap (λ (x : List ℕ). b ∷ x) (escaped-ids bs parts.1)

address-by : (hyphen : Bool) (b : ℕ) → (b == 45) ≡ hyphen → is_ascii_alphanumeric b || hyphen ≡ true → is_address_byte b ≡ true
address-by true b e h = ap is_address_byte (eqb-true b 45 e)
address-by false b e h = alnum-has b (or-false (is_ascii_alphanumeric b) h)
  where
    or-false : (a : Bool) → a || false ≡ true → a ≡ true
    or-false true k = refl
    or-false false k = k

quoted-by : (a q : Bool) (b : ℕ) → a ≡ false → q ≡ false → cond a (codes "&amp;") (cond q (codes "&#x27;") (b ∷ [])) ≡ b ∷ []
quoted-by a q b h k = ap (λ c. cond c (codes "&amp;") (cond q (codes "&#x27;") (b ∷ []))) h ∙ ap (λ c. cond c (codes "&#x27;") (b ∷ [])) k

written-one : (b : ℕ) → is_id_byte b ≡ true → written_byte b ≡ b ∷ []
written-one b h =
    ap (λ c. flat_map quoted_byte (cond c (b ∷ []) (cond (b == 0) (codes "%EF%BF%BD") (37 ∷ hex_digit (b / 16) ∷ hex_digit (b % 16) ∷ [])))) (address-by (b == 45) b refl h)
    ∙ ap (λ (w : List ℕ). w ++ []) (quoted-by (b == 38) (b == 39) b (none b 38 refl h) (none b 39 refl h))

pub address-ids : (t : List ℕ) → list_all is_id_byte t ≡ true → written_address t ≡ t
address-ids [] h = refl
address-ids (b ∷ bs) h =
    let parts = and_parts (is_id_byte b) (list_all is_id_byte bs) h in
    ap (λ (w : List ℕ). w ++ written_address bs) (written-one b parts.0) ∙ ap (λ (x : List ℕ). b ∷ x) (address-ids bs parts.1)
