-- What is written of addresses.
use Rattle.std.proofs.Common.{◌≡◌, ℕ, ◌+◌, ◌≤◌, List, [], ◌∷◌, ◌++◌, map, ap, sym, refl, ◌∙◌, arith, Option, None, Some, ⊎_elim}
use Rattle.std.specs.Char.{is_ascii_alphanumeric, is_ascii_lowercase, to_ascii_lowercase}
use Rattle.std.specs.List.{flat_map, list_all, list_any}
use Rattle.std.specs.Prelude.{zero, suc, ◌==◌, ◌||◌, ◌&&◌, not, nat_lt, Bool, true, false, bytes_eq, cond, codes, option_map, slice_index_or, ◌/◌, ◌%◌, is_some, length}
use Rattle.std.proofs.lemmas.List.{length-append}
use Rattle.std.proofs.lemmas.List.Folds.{list_all-append}
use Rattle.std.specs.Int.{is_in_range}
use Rattle.std.proofs.lemmas.Bool.{and_from, and_parts, false≢true, not-true, or_cases, or_parts, or_right}
use Rattle.std.proofs.lemmas.Grind.{flat_map-append}
use Rattle.std.proofs.lemmas.Bool.Decides.{Decides-eqb}
use Rattle.std.proofs.lemmas.Slice.Eq.{bytes_eq-Decides}
use Rattle.mdhtml_markup.specs.Addresses.{address, address_byte, hex_digit, quoted_byte, written_address, written_byte}
use Rattle.mdhtml_markup.specs.SafeHtml.{is_address_byte, is_allowed, is_known, is_mark, is_plain, is_safe_address, is_text, is_text_byte, scheme_of, schemes, undone, undone_from, entity_at}
use Rattle.mdhtml_markup.proofs.Bools.{is-other}
use Rattle.mdhtml_markup.specs.declared.addresses.Place.{Place}
use Rattle.mdhtml_markup.specs.declared.addresses.Place.TheVariants.{Href, Src}
use Rattle.mdhtml_markup.specs.Laws.{AddressesAreQuoted, AddressesAreShort, AllowedAddressesAreSafe}

pub addresses-quoted : AddressesAreQuoted
addresses-quoted [] = refl
addresses-quoted (b ∷ bs) = ap (λ x. written_byte b ++ x) (addresses-quoted bs) ∙ sym (flat_map-append quoted_byte (address_byte b) (address bs))

-- the bytes of addresses
abbrev has : ℕ → Bool
has b = is_address_byte b

all-append : (xs ys : List ℕ) → list_all has xs ≡ true → list_all has ys ≡ true → list_all has (xs ++ ys) ≡ true
all-append xs ys h k = list_all-append has xs ys ∙ and_from (list_all has xs) (list_all has ys) h k

-- each of these is one
all-of : (p : ℕ → Bool) (xs : List ℕ) (n d : ℕ) → list_all p xs ≡ true → p d ≡ true → p (slice_index_or xs n d) ≡ true
all-of p [] n d h k = k
all-of p (x ∷ xs) zero d h k = (and_parts (p x) (list_all p xs) h).0
all-of p (x ∷ xs) (suc n) d h k = all-of p xs n d (and_parts (p x) (list_all p xs) h).1 k

digit-has : (n : ℕ) → has (hex_digit n) ≡ true
digit-has n = all-of has (codes "0123456789ABCDEF") n 48 refl refl

byte-has : (plain nul : Bool) (b : ℕ) → has b ≡ plain → list_all has (cond plain (b ∷ []) (cond nul (codes "%EF%BF%BD") (37 ∷ hex_digit (b / 16) ∷ hex_digit (b % 16) ∷ []))) ≡ true
byte-has true nul b h = and_from (has b) true h refl
byte-has false true b h = refl
byte-has false false b h = and_from (has (hex_digit (b / 16))) (has (hex_digit (b % 16)) && true) (digit-has (b / 16)) (and_from (has (hex_digit (b % 16))) true (digit-has (b % 16)) refl)

address-has : (url : List ℕ) → list_all has (address url) ≡ true
address-has [] = refl
address-has (b ∷ bs) = all-append (address_byte b) (address bs) (byte-has (has b) (b == 0) b refl) (address-has bs)

-- ---- schemes

abbrev ends : ℕ → Bool
ends b = (b == 47) || ((b == 63) || (b == 35))

-- what comes first is no end of a scheme
abbrev inner : ℕ → Bool
inner b = (b == 58) || ends b

same-scheme : (o : Option (List ℕ)) → o ≡ option_map (λ s. [] ++ s) o
same-scheme None = refl
same-scheme (Some s) = refl

longer-scheme : (w : ℕ) (ws : List ℕ) (o : Option (List ℕ)) → option_map (λ s. w ∷ s) (option_map (λ s. ws ++ s) o) ≡ option_map (λ s. (w ∷ ws) ++ s) o
longer-scheme w ws None = refl
longer-scheme w ws (Some s) = refl

-- a byte of a scheme
abbrev stepped : (colon end : Bool) → ℕ → Option (List ℕ) → Option (List ℕ)
stepped colon end b o = cond colon (Some []) (cond end None (option_map (λ s. b ∷ s) o))

passed : (colon end : Bool) (b : ℕ) (o : Option (List ℕ)) → (colon || end) ≡ false → stepped colon end b o ≡ option_map (λ s. b ∷ s) o
passed true end b o h = absurd (false≢true (sym h))
passed false true b o h = absurd (false≢true (sym h))
passed false false b o h = refl

scheme-behind : (ws rest : List ℕ) → list_any inner ws ≡ false → scheme_of (ws ++ rest) ≡ option_map (λ s. ws ++ s) (scheme_of rest)
scheme-behind [] rest h = same-scheme (scheme_of rest)
scheme-behind (w ∷ ws) rest h =
    let first : inner w ≡ false = (or_parts (inner w) (list_any inner ws) h).0 in
    passed (w == 58) (ends w) w (scheme_of (ws ++ rest)) first
    ∙ ap (option_map (λ s. w ∷ s)) (scheme-behind ws rest (or_parts (inner w) (list_any inner ws) h).1) ∙ longer-scheme w ws (scheme_of rest)

-- a byte that stands for itself
first-same : (b : ℕ) → address_byte b ≡ b ∷ [] → (o : Option (List ℕ)) → option_map (λ s. b ∷ s) (option_map address o) ≡ option_map address (option_map (λ s. b ∷ s) o)
first-same b h None = refl
first-same b h (Some s) = ap (λ (w : List ℕ). Some (w ++ address s)) (sym h)

same-step : (colon end : Bool) (b : ℕ) (o q : Option (List ℕ)) → address_byte b ≡ b ∷ [] → q ≡ option_map address o → stepped colon end b q ≡ option_map address (stepped colon end b o)
same-step true end b o q h e = refl
same-step false true b o q h e = refl
same-step false false b o q h e = ap (option_map (λ s. b ∷ s)) e ∙ first-same b h o

-- a byte that stands for itself no more
first-other : (b : ℕ) (o : Option (List ℕ)) → option_map (λ s. address_byte b ++ s) (option_map address o) ≡ option_map address (option_map (λ s. b ∷ s) o)
first-other b None = refl
first-other b (Some s) = refl

hex-inner : (n : ℕ) → inner (hex_digit n) ≡ false
hex-inner n = not-true (inner (hex_digit n)) (all-of (λ x. not (inner x)) (codes "0123456789ABCDEF") n 48 refl refl)

abbrev encoded : (nul : Bool) → ℕ → List ℕ
encoded nul b = cond nul (codes "%EF%BF%BD") (37 ∷ hex_digit (b / 16) ∷ hex_digit (b % 16) ∷ [])

encoded-inner : (nul : Bool) (b : ℕ) → list_any inner (encoded nul b) ≡ false
encoded-inner true b = refl
encoded-inner false b = ap (λ x. x || (inner (hex_digit (b % 16)) || false)) (hex-inner (b / 16)) ∙ ap (λ x. x || false) (hex-inner (b % 16))

-- what ends schemes stands for itself
is-number : (b n : ℕ) → has n ≡ true → (b == n) ≡ true → has b ≡ true
is-number b n h e = ap has ((Decides-eqb b n).0 e) ∙ h

inner-has : (b : ℕ) → inner b ≡ true → has b ≡ true
inner-has b h =
    ⊎_elim (is-number b 58 refl)
    (λ e. ⊎_elim (is-number b 47 refl) (λ f. ⊎_elim (is-number b 63 refl) (is-number b 35 refl) (or_cases (b == 63) (b == 35) f)) (or_cases (b == 47) ((b == 63) || (b == 35)) e))
    (or_cases (b == 58) (ends b) h)

no-inner : (b : ℕ) (i : Bool) → inner b ≡ i → has b ≡ false → i ≡ false
no-inner b true h k = absurd (false≢true (sym k ∙ inner-has b h))
no-inner b false h k = refl

other-step : (b : ℕ) (bs : List ℕ) → has b ≡ false → address_byte b ≡ encoded (b == 0) b → scheme_of (address bs) ≡ option_map address (scheme_of bs)
    → scheme_of (address_byte b ++ address bs) ≡ option_map address (scheme_of (b ∷ bs))
other-step b bs h k e =
    scheme-behind (address_byte b) (address bs) (ap (list_any inner) k ∙ encoded-inner (b == 0) b)
    ∙ ap (option_map (λ s. address_byte b ++ s)) e ∙ first-other b (scheme_of bs)
    ∙ ap (option_map address) (sym (passed (b == 58) (ends b) b (scheme_of bs) (no-inner b (inner b) refl h)))

byte-written : (b : ℕ) (bs : List ℕ) (plain : Bool) → has b ≡ plain → scheme_of (address bs) ≡ option_map address (scheme_of bs)
    → scheme_of (address_byte b ++ address bs) ≡ option_map address (scheme_of (b ∷ bs))
byte-written b bs true h e =
    let itself : address_byte b ≡ b ∷ [] = ap (λ p. cond p (b ∷ []) (encoded (b == 0) b)) h in
    ap (λ w. scheme_of (w ++ address bs)) itself ∙ same-step (b == 58) (ends b) b (scheme_of bs) (scheme_of (address bs)) itself e
byte-written b bs false h e = other-step b bs h (ap (λ p. cond p (b ∷ []) (encoded (b == 0) b)) h) e

-- the scheme of an address is what is written of its scheme
scheme-written : (url : List ℕ) → scheme_of (address url) ≡ option_map address (scheme_of url)
scheme-written [] = refl
scheme-written (b ∷ bs) = byte-written b bs (has b) refl (scheme-written bs)

-- ---- schemes that are known

pub alnum-has : (b : ℕ) → is_ascii_alphanumeric b ≡ true → has b ≡ true
alnum-has b h =
    let plain : is_plain b ≡ true = ap (λ x. list_any (λ c. c == b) (codes "-_.+!*(),%#@?=;:/$~") || x) h ∙ or_right (list_any (λ c. c == b) (codes "-_.+!*(),%#@?=;:/$~")) true refl in
    ap (λ x. x || ((b == 38) || (b == 39))) plain

capital : (b : ℕ) → nat_lt b 65 ≡ false → nat_lt b 91 ≡ true → is_in_range 65 90 b ≡ true
capital b h k = grind (arith, h, k)

lower-alnum : (b : ℕ) → is_in_range 97 122 b ≡ true → is_ascii_alphanumeric b ≡ true
lower-alnum b h = ap (λ x. (is_in_range 48 57 b || is_in_range 65 90 b) || x) h ∙ or_right (is_in_range 48 57 b || is_in_range 65 90 b) true refl

capital-alnum : (b : ℕ) → is_in_range 65 90 b ≡ true → is_ascii_alphanumeric b ≡ true
capital-alnum b h = ap (λ x. (is_in_range 48 57 b || x) || is_in_range 97 122 b) h ∙ ap (λ x. x || is_in_range 97 122 b) (or_right (is_in_range 48 57 b) true refl)

alnum-by : (b : ℕ) (p q : Bool) → nat_lt b 65 ≡ p → nat_lt b 91 ≡ q → is_in_range 97 122 (to_ascii_lowercase b) ≡ true → is_ascii_alphanumeric b ≡ true
alnum-by b true q h k e = lower-alnum b (ap (λ x. is_in_range 97 122 (cond x b (cond (nat_lt b 91) (b + 32) b))) (sym h) ∙ e)
alnum-by b false true h k e = capital-alnum b (capital b h k)
alnum-by b false false h k e = lower-alnum b (ap (λ x. is_in_range 97 122 (cond x b b)) (sym h) ∙ ap (λ x. is_in_range 97 122 (cond (nat_lt b 65) b (cond x (b + 32) b))) (sym k) ∙ e)

lower-plain : (b : ℕ) → is_ascii_lowercase (to_ascii_lowercase b) ≡ true → has b ≡ true
lower-plain b h = alnum-has b (alnum-by b (nat_lt b 65) (nat_lt b 91) refl refl h)

lower-address : (s : List ℕ) → list_all is_ascii_lowercase (map to_ascii_lowercase s) ≡ true → address s ≡ s
lower-address [] h = refl
lower-address (b ∷ bs) h =
    let low = list_all is_ascii_lowercase (map to_ascii_lowercase bs) in
    let here = lower-plain b (and_parts (is_ascii_lowercase (to_ascii_lowercase b)) low h).0 in
    ap (λ p. cond p (b ∷ []) (encoded (b == 0) b) ++ address bs) here
    ∙ ap (λ (w : List ℕ). b ∷ w) (lower-address bs (and_parts (is_ascii_lowercase (to_ascii_lowercase b)) low h).1)

known-lower : (s : List ℕ) (ks : List (List ℕ)) → list_all (list_all is_ascii_lowercase) ks ≡ true → list_any (λ k. bytes_eq (map to_ascii_lowercase s) k) ks ≡ true
    → list_all is_ascii_lowercase (map to_ascii_lowercase s) ≡ true
known-lower s [] h k = absurd (false≢true k)
known-lower s (l ∷ ls) h k =
    let here = bytes_eq (map to_ascii_lowercase s) l in
    ⊎_elim
    (λ e. ap (list_all is_ascii_lowercase) ((bytes_eq-Decides (map to_ascii_lowercase s) l).0 e) ∙ (and_parts (list_all is_ascii_lowercase l) (list_all (list_all is_ascii_lowercase) ls) h).0)
    (λ e. known-lower s ls (and_parts (list_all is_ascii_lowercase l) (list_all (list_all is_ascii_lowercase) ls) h).1 e)
    (or_cases here (list_any (λ x. bytes_eq (map to_ascii_lowercase s) x) ls) k)

known-address : (at : Place) (s : List ℕ) → is_known at s ≡ true → address s ≡ s
known-address Href s h = lower-address s (known-lower s (schemes Href) refl h)
known-address Src s h = lower-address s (known-lower s (schemes Src) refl h)

-- an address is allowed, by its scheme
abbrev by_scheme : Place → Option (List ℕ) → Bool
by_scheme at scheme = elim scheme [ None ↦ true | Some s ↦ is_known at s ]

by-scheme-written : (at : Place) (scheme : Option (List ℕ)) → by_scheme at scheme ≡ true → by_scheme at (option_map address scheme) ≡ true
by-scheme-written at None h = refl
by-scheme-written at (Some s) h = ap (is_known at) (known-address at s h) ∙ h

allowed-written : (at : Place) (url : List ℕ) → is_allowed at url ≡ true → is_allowed at (address url) ≡ true
allowed-written at url h = ap (by_scheme at) (scheme-written url) ∙ by-scheme-written at (scheme_of url) h

-- ---- addresses in quotes

address-unmarked : (b : ℕ) → has b ≡ true → (b == 38) ≡ false → is_mark b ≡ false
address-unmarked b h k =
    ap (λ x. (x || ((b == 62) || ((b == 38) || ((b == 34) || false)))) || ((b == 0) || (b == 27))) (is-other has b 60 refl h)
    ∙ ap (λ x. (x || ((b == 38) || ((b == 34) || false))) || ((b == 0) || (b == 27))) (is-other has b 62 refl h)
    ∙ ap (λ x. (x || ((b == 34) || false)) || ((b == 0) || (b == 27))) k
    ∙ ap (λ x. (x || false) || ((b == 0) || (b == 27))) (is-other has b 34 refl h)
    ∙ ap (λ x. x || (b == 27)) (is-other has b 0 refl h)
    ∙ is-other has b 27 refl h

-- a byte that is no `&`
text-other : (b : ℕ) (t : List ℕ) → has b ≡ true → (b == 38) ≡ false → is_text_byte b t ≡ true
text-other b t h k = ap (λ x. cond x (is_some (entity_at t)) (not (is_mark b))) k ∙ ap not (address-unmarked b h k)

pub undone-other : (b : ℕ) (t : List ℕ) → (b == 38) ≡ false → undone (b ∷ t) ≡ b ∷ undone t
undone-other b t k =
    ap (λ x. elim x as (λ _. List ℕ) [
      | false ↦ b ∷ undone t
      | true ↦ elim (entity_at t) as (λ _. List ℕ) [ None ↦ b ∷ undone t | Some e ↦ e.1 ∷ undone_from (length e.0) t ]
    ]) k

quoted-text : (a q : Bool) (b : ℕ) (t : List ℕ) → (b == 38) ≡ a → has b ≡ true → is_text t ≡ true → is_text (cond a (codes "&amp;") (cond q (codes "&#x27;") (b ∷ [])) ++ t) ≡ true
quoted-text true q b t k h m = m
quoted-text false true b t k h m = m
quoted-text false false b t k h m = and_from (is_text_byte b t) (is_text t) (text-other b t h k) m

quoted-undone : (a q : Bool) (b : ℕ) (t : List ℕ) → (b == 38) ≡ a → (b == 39) ≡ q → undone (cond a (codes "&amp;") (cond q (codes "&#x27;") (b ∷ [])) ++ t) ≡ b ∷ undone t
quoted-undone true q b t k m = ap (λ (x : ℕ). x ∷ undone t) (sym ((Decides-eqb b 38).0 k))
quoted-undone false true b t k m = ap (λ (x : ℕ). x ∷ undone t) (sym ((Decides-eqb b 39).0 m))
quoted-undone false false b t k m = undone-other b t k

quotes-text : (url : List ℕ) → list_all has url ≡ true → is_text (flat_map quoted_byte url) ≡ true
quotes-text [] h = refl
quotes-text (b ∷ bs) h =
    quoted-text (b == 38) (b == 39) b (flat_map quoted_byte bs) refl (and_parts (has b) (list_all has bs) h).0 (quotes-text bs (and_parts (has b) (list_all has bs) h).1)

quotes-undone : (url : List ℕ) → undone (flat_map quoted_byte url) ≡ url
quotes-undone [] = refl
quotes-undone (b ∷ bs) = quoted-undone (b == 38) (b == 39) b (flat_map quoted_byte bs) refl refl ∙ ap (λ (x : List ℕ). b ∷ x) (quotes-undone bs)

quotes-safe : (at : Place) (url : List ℕ) → list_all has url ≡ true → is_allowed at url ≡ true → is_safe_address at (flat_map quoted_byte url) ≡ true
quotes-safe at url h k =
    let value = flat_map quoted_byte url in
    let read = quotes-undone url in
    and_from (is_text value) (list_all has (undone value) && is_allowed at (undone value)) (quotes-text url h)
    (and_from (list_all has (undone value)) (is_allowed at (undone value)) (ap (list_all has) read ∙ h) (ap (is_allowed at) read ∙ k))

pub addresses-safe : AllowedAddressesAreSafe
addresses-safe at url h = ap (is_safe_address at) (addresses-quoted url) ∙ quotes-safe at (address url) (address-has url) (allowed-written at url h)

-- ---- what is written of a byte

quoted-by : (x : ℕ) (a b : Bool) → a ≡ false → b ≡ false → cond a (codes "&amp;") (cond b (codes "&#x27;") (x ∷ [])) ≡ x ∷ []
quoted-by x a b h k = ap (λ y. cond y (codes "&amp;") (cond b (codes "&#x27;") (x ∷ []))) h ∙ ap (λ y. cond y (codes "&#x27;") (x ∷ [])) k

quoted-hex : (n : ℕ) → quoted_byte (hex_digit n) ≡ hex_digit n ∷ []
quoted-hex n =
    let one = all-of (λ x. not (x == 38)) (codes "0123456789ABCDEF") n 48 refl refl in
    let two = all-of (λ x. not (x == 39)) (codes "0123456789ABCDEF") n 48 refl refl in
    quoted-by (hex_digit n) (hex_digit n == 38) (hex_digit n == 39) (not-true (hex_digit n == 38) one) (not-true (hex_digit n == 39) two)

pub other_written : (b : ℕ) → is_plain b ≡ false → ((b == 38) || ((b == 39) || (b == 0))) ≡ false → written_byte b ≡ 37 ∷ hex_digit (b / 16) ∷ hex_digit (b % 16) ∷ []
other_written b p h =
    let (a, rest) = or_parts (b == 38) ((b == 39) || (b == 0)) h in
    let (q, z) = or_parts (b == 39) (b == 0) rest in
    let no-one : has b ≡ false = ap (λ x. x || ((b == 38) || (b == 39))) p ∙ ap (λ x. x || (b == 39)) a ∙ q in
    let e : address_byte b ≡ 37 ∷ hex_digit (b / 16) ∷ hex_digit (b % 16) ∷ [] = ap (λ x. cond x (b ∷ []) (encoded (b == 0) b)) no-one ∙ ap (λ x. encoded x b) z in
    ap (flat_map quoted_byte) e ∙ ap (λ x. 37 ∷ (x ++ (quoted_byte (hex_digit (b % 16)) ++ []))) (quoted-hex (b / 16)) ∙ ap (λ x. 37 ∷ hex_digit (b / 16) ∷ (x ++ [])) (quoted-hex (b % 16))

-- ---- how long

quoted-short : (ampersand quote : Bool) (b : ℕ) → length (cond ampersand (codes "&amp;") (cond quote (codes "&#x27;") (b ∷ []))) ≤ 6
quoted-short true quote b = omega arith
quoted-short false true b = omega arith
quoted-short false false b = omega arith

written-short : (plain nul : Bool) (b : ℕ) → length (flat_map quoted_byte (cond plain (b ∷ []) (cond nul (codes "%EF%BF%BD") (37 ∷ hex_digit (b / 16) ∷ hex_digit (b % 16) ∷ [])))) ≤ 9
written-short true nul b =
    let short : length (quoted_byte b) ≤ 6 = quoted-short (b == 38) (b == 39) b in
    let long = length-append (quoted_byte b) [] in
    omega (arith, short, long)
written-short false true b = let nine : length (flat_map quoted_byte (codes "%EF%BF%BD")) ≡ 9 = refl in omega (arith, nine)
written-short false false b =
    let high = hex_digit (b / 16) in
    let low = hex_digit (b % 16) in
    let all : flat_map quoted_byte (37 ∷ high ∷ low ∷ []) ≡ 37 ∷ high ∷ low ∷ [] =
    ap (λ x. 37 ∷ (x ++ (quoted_byte low ++ []))) (quoted-hex (b / 16)) ∙ ap (λ x. 37 ∷ high ∷ (x ++ [])) (quoted-hex (b % 16))
    in
    let three = ap length all in
    omega (arith, three)

pub addresses-short : AddressesAreShort
addresses-short [] = omega arith
addresses-short (b ∷ bs) =
    let here : length (written_byte b) ≤ 9 = written-short (is_address_byte b) (b == 0) b in
    let more = addresses-short bs in
    let long = length-append (written_byte b) (written_address bs) in
    omega (arith, here, more, long)
