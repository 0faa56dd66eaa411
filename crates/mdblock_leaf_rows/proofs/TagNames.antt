-- Names of tags are told apart by their numbers.
use Rattle.std.proofs.Common.{◌≡◌, inl, inr, ℕ, ◌+◌, ◌*◌, ◌<◌, ◌≤◌, ◌==◌, ◌||◌, ◌&&◌, ◌++◌, List, [], ◌∷◌, Bool, true, false, cond, refl, sym, ap, ◌∙◌, subst, map, nat_lt, arith}
use Rattle.std.specs.Char.{is_ascii_alphabetic, is_ascii_alphanumeric, to_ascii_lowercase}
use Rattle.std.specs.List.{list_all}
use Rattle.std.specs.Str.{str_to_ascii_lowercase}
use Rattle.std.proofs.lemmas.Bool.{eqb-true, eq-eqb, and_parts, or_right}
use Rattle.std.proofs.lemmas.Bool.Decides.{nat_tests}
use Rattle.markdown_base.specs.Texts.{html_block_names, html_raw_names}
use Rattle.mdblock_leaf_rows.specs.HtmlNames.{digit_of, no_name, one_byte_more, number_behind, number_of, is_number_in, is_tag_name, IsListed, AreToldApart}

-- A number by its digits, the last one first, and a name the other way round
abbrev value : List ℕ → ℕ
value [] = 0
value (byte ∷ bytes) = one_byte_more (value bytes) byte

abbrev onto : List ℕ → List ℕ → List ℕ
onto [] behind = behind
onto (byte ∷ bytes) behind = onto bytes (byte ∷ behind)

value-onto : (bytes behind : List ℕ) → number_behind (value behind) bytes ≡ value (onto bytes behind)
value-onto [] behind = refl
value-onto (byte ∷ bytes) behind = value-onto bytes (byte ∷ behind)

onto-onto : (bytes behind more : List ℕ) → onto (onto bytes behind) more ≡ onto behind (bytes ++ more)
onto-onto [] behind more = refl
onto-onto (byte ∷ bytes) behind more = onto-onto bytes (byte ∷ behind) more

append-nothing : (bytes : List ℕ) → bytes ++ [] ≡ bytes
append-nothing [] = refl
append-nothing (byte ∷ bytes) = ap (λ bs. byte ∷ bs) (append-nothing bytes)

back : (bytes : List ℕ) → onto (onto bytes []) [] ≡ bytes
back bytes = onto-onto bytes [] [] ∙ append-nothing bytes

map-onto : (f : ℕ → ℕ) (bytes behind : List ℕ) → map f (onto bytes behind) ≡ onto (map f bytes) (map f behind)
map-onto f [] behind = refl
map-onto f (byte ∷ bytes) behind = map-onto f bytes (byte ∷ behind)

-- Letters and digits, the first one a letter, the last one first
abbrev IsName : List ℕ → Type 0
IsName [] = Unit {0}
IsName (byte ∷ []) = is_ascii_alphabetic byte ≡ true
IsName (byte ∷ next ∷ bytes) = (is_ascii_alphanumeric byte ≡ true) × IsName (next ∷ bytes)

named-onto : (bytes : List ℕ) (byte : ℕ) (behind : List ℕ) → list_all is_ascii_alphanumeric bytes ≡ true → IsName (byte ∷ behind) → IsName (onto bytes (byte ∷ behind))
named-onto [] byte behind h is = is
named-onto (next ∷ bytes) byte behind h is = let (here, on) = and_parts (is_ascii_alphanumeric next) (list_all is_ascii_alphanumeric bytes) h in named-onto bytes next (byte ∷ behind) on (here, is)

named : (name : List ℕ) → is_tag_name name ≡ true → IsName (onto name [])
named [] h = absurd (cc)
named (byte ∷ bytes) h = let (here, on) = and_parts (is_ascii_alphabetic byte) (list_all is_ascii_alphanumeric bytes) h in named-onto bytes byte [] on here

-- Digits
digit-fits : (byte : ℕ) → is_ascii_alphanumeric byte ≡ true → digit_of byte < 36
digit-fits byte h = grind (arith, nat_tests)

letter-counts : (byte : ℕ) → is_ascii_alphabetic byte ≡ true → 10 ≤ digit_of byte
letter-counts byte h = grind (arith, nat_tests)

-- the lowercase letter of a digit
abbrev letter_of : ℕ → ℕ
letter_of digit = cond (nat_lt digit 10) (digit + 48) (digit + 87)

lower : (byte : ℕ) → is_ascii_alphanumeric byte ≡ true → to_ascii_lowercase byte ≡ letter_of (digit_of byte)
lower byte h = grind (arith, nat_tests)

digit-lower : (byte : ℕ) → is_ascii_alphanumeric byte ≡ true → digit_of (to_ascii_lowercase byte) ≡ digit_of byte
digit-lower byte h = grind (arith, nat_tests)

pub letter-is : (byte : ℕ) → is_ascii_alphabetic byte ≡ true → is_ascii_alphanumeric byte ≡ true
letter-is byte h = grind (arith, nat_tests)

front : (byte : ℕ) (bytes : List ℕ) → IsName (byte ∷ bytes) → is_ascii_alphanumeric byte ≡ true
front byte [] is = letter-is byte is
front byte (next ∷ bytes) is = is.0

rest : (byte : ℕ) (bytes : List ℕ) → IsName (byte ∷ bytes) → IsName bytes
rest byte [] is = tt
rest byte (next ∷ bytes) is = is.1

-- one digit more
abbrev room : ℕ
room = 101559956668416

small : (n byte : ℕ) → one_byte_more n byte < no_name → (n < room) × (one_byte_more n byte ≡ 36 * n + digit_of byte)
small n byte h = elim (nat_lt n room) as (λ t. nat_lt n room ≡ t → cond t (36 * n + digit_of byte) no_name < no_name → (n < room) × (cond t (36 * n + digit_of byte) no_name ≡ 36 * n + digit_of byte)) [
  | true ↦ λ e h. (grind (arith, nat_tests), refl)
  | false ↦ λ e h. absurd (omega arith)
] refl h

more : (n byte : ℕ) → 0 < n → 0 < one_byte_more n byte
more n byte h = elim (nat_lt n room) as (λ t. 0 < cond t (36 * n + digit_of byte) no_name) [
  | true ↦ omega arith
  | false ↦ omega arith
]

positive : (byte : ℕ) (bytes : List ℕ) → IsName (byte ∷ bytes) → 0 < value (byte ∷ bytes)
positive byte [] is = let counts = letter-counts byte is in omega arith
positive byte (next ∷ bytes) is = more (value (next ∷ bytes)) byte (positive next bytes is.1)

digits-apart : (n m d e : ℕ) → d < 36 → e < 36 → 36 * n + d ≡ 36 * m + e → (n ≡ m) × (d ≡ e)
digits-apart n m d e h k same = (omega arith, omega arith)

apart : (xs ys : List ℕ) → IsName xs → IsName ys → value xs ≡ value ys → value ys < no_name → map digit_of xs ≡ map digit_of ys
apart [] [] is is' same below = refl
apart [] (y ∷ ys) is is' same below = absurd (let some = positive y ys is' in omega arith)
apart (x ∷ xs) [] is is' same below = absurd (let some = positive x xs is in omega arith)
apart (x ∷ xs) (y ∷ ys) is is' same below =
    let (fits, is_more) = small (value ys) y below in
    let (fits', is_more') = small (value xs) x (subst (λ v. v < no_name) (sym same) below) in
    let (values, digits) = digits-apart (value xs) (value ys) (digit_of x) (digit_of y) (digit-fits x (front x xs is)) (digit-fits y (front y ys is')) (sym is_more' ∙ same ∙ is_more) in
    let on = apart xs ys (rest x xs is) (rest y ys is') values (omega arith) in ap (λ d. d ∷ map digit_of xs) digits ∙ ap (λ ds. digit_of y ∷ ds) on

letters : (xs : List ℕ) → IsName xs → map to_ascii_lowercase xs ≡ map letter_of (map digit_of xs)
letters [] is = refl
letters (x ∷ xs) is = ap (λ b. b ∷ map to_ascii_lowercase xs) (lower x (front x xs is)) ∙ ap (λ bs. letter_of (digit_of x) ∷ bs) (letters xs (rest x xs is))

-- Names with one number are the same, but for the case of their letters
same-names : (name listed : List ℕ) → is_tag_name name ≡ true → is_tag_name listed ≡ true → number_of name ≡ number_of listed → number_of listed < no_name
    → str_to_ascii_lowercase name ≡ str_to_ascii_lowercase listed
same-names name listed is is' same below =
    let one = onto name [] in
    let other = onto listed [] in
    let number : number_of listed ≡ value other = value-onto listed [] in
    let digits = apart one other (named name is) (named listed is') (sym (value-onto name []) ∙ same ∙ number) (subst (λ v. v < no_name) number below) in
    let lowered : map to_ascii_lowercase one ≡ map to_ascii_lowercase other = letters one (named name is) ∙ ap (λ ds. map letter_of ds) digits ∙ sym (letters other (named listed is')) in
    let turned : onto (map to_ascii_lowercase name) [] ≡ onto (map to_ascii_lowercase listed) [] = sym (map-onto to_ascii_lowercase name []) ∙ lowered ∙ map-onto to_ascii_lowercase listed [] in
    sym (back (map to_ascii_lowercase name)) ∙ ap (λ l. onto l []) turned ∙ back (map to_ascii_lowercase listed)

-- The case of letters does not matter
lower-number : (n : ℕ) (bytes : List ℕ) → list_all is_ascii_alphanumeric bytes ≡ true → number_behind n (map to_ascii_lowercase bytes) ≡ number_behind n bytes
lower-number n [] h = refl
lower-number n (byte ∷ bytes) h =
    let (here, on) = and_parts (is_ascii_alphanumeric byte) (list_all is_ascii_alphanumeric bytes) h in
    ap (λ d. number_behind (cond (nat_lt n room) (36 * n + d) no_name) (map to_ascii_lowercase bytes)) (digit-lower byte here) ∙ lower-number (one_byte_more n byte) bytes on

all-of : (name : List ℕ) → is_tag_name name ≡ true → list_all is_ascii_alphanumeric name ≡ true
all-of [] h = absurd (cc)
all-of (byte ∷ bytes) h =
    let (here, on) = and_parts (is_ascii_alphabetic byte) (list_all is_ascii_alphanumeric bytes) h in ap (λ t. t && list_all is_ascii_alphanumeric bytes) (letter-is byte here) ∙ on

-- Listed names have numbers, and are in lowercase
abbrev is_fine : List ℕ → Bool
is_fine listed = is_tag_name listed && (list_all (λ byte. to_ascii_lowercase byte == byte) listed && nat_lt (number_of listed) no_name)

is-lower : (bytes : List ℕ) → list_all (λ byte. to_ascii_lowercase byte == byte) bytes ≡ true → str_to_ascii_lowercase bytes ≡ bytes
is-lower [] h = refl
is-lower (byte ∷ bytes) h =
    let (here, on) = and_parts (to_ascii_lowercase byte == byte) (list_all (λ byte. to_ascii_lowercase byte == byte) bytes) h in
    ap (λ b. b ∷ map to_ascii_lowercase bytes) (eqb-true (to_ascii_lowercase byte) byte here) ∙ ap (λ bs. byte ∷ bs) (is-lower bytes on)

below : (n : ℕ) → nat_lt n no_name ≡ true → n < no_name
below n h = grind (arith, nat_tests)

told : (names : List (List ℕ)) → list_all is_fine names ≡ true → AreToldApart names
told [] fine name is = ((λ h. absurd (cc)), (λ h. absurd h))
told (listed ∷ names) fine name is =
    let (here, on) = and_parts (is_fine listed) (list_all is_fine names) fine in
    let (tag, others) = and_parts (is_tag_name listed) (list_all (λ byte. to_ascii_lowercase byte == byte) listed && nat_lt (number_of listed) no_name) here in
    let (lowercase, fits) = and_parts (list_all (λ byte. to_ascii_lowercase byte == byte) listed) (nat_lt (number_of listed) no_name) others in
    let further = told names on name is in
    let n = number_of name in
    let m = number_of listed in (
      (λ h. elim (n == m) as (λ t. (n == m) ≡ t → (t || is_number_in names n) ≡ true → IsListed (str_to_ascii_lowercase name) (listed ∷ names)) [
        | true ↦ λ e h. inl (same-names name listed is tag (eqb-true n m e) (below m fits) ∙ is-lower listed lowercase)
        | false ↦ λ e h. inr (further.0 h)
      ] refl h),
      (λ h. elim h as (λ _. ((n == m) || is_number_in names n) ≡ true) [
        | inl same_name ↦
            let numbers : m ≡ n = ap number_of (sym same_name) ∙ lower-number 0 name (all-of name is) in ap (λ t. t || is_number_in names n) (eq-eqb n m (sym numbers))
        | inr behind ↦ or_right (n == m) (is_number_in names n) (further.1 behind)
      ]),
    )

pub block-told : AreToldApart html_block_names
block-told = told html_block_names refl

pub raw-told : AreToldApart html_raw_names
raw-told = told html_raw_names refl
