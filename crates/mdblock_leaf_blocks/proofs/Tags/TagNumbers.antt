-- A tag has a listed name exactly if the number of its name is listed: also with dashes, which no listed name has.
use Rattle.mdblock_leaf_blocks.proofs.Prelude.{◌≡◌, inl, inr, ℕ, ◌==◌, ◌||◌, ◌&&◌, List, [], ◌∷◌, Bool, true, false, cond, length, map, refl, sym, ap, ◌∙◌, subst, arith, is_ascii_alphabetic, is_ascii_alphanumeric, to_ascii_lowercase, list_all, str_to_ascii_lowercase, eqb-true, eq-eqb, or_right, and_parts, nat_tests, length-map, html_block_names, html_raw_names, no_name, one_byte_more, number_behind, number_of, is_number_in, is_tag_name, IsListed, AreToldApart, block-told, raw-told, starts_with, first_passes, lower, is_named}

-- the number behind these bytes, if a dash, or another byte that is no letter and no digit, makes it none
abbrev pub number_with : ℕ → List ℕ → ℕ
number_with n [] = n
number_with n (b ∷ bs) = number_with (cond (is_ascii_alphanumeric b) (one_byte_more n b) no_name) bs

pub agree : (a b : Bool) → (a ≡ true → b ≡ true) → (b ≡ true → a ≡ true) → a ≡ b
agree true b f g = sym (f refl)
agree false true f g = g refl
agree false false f g = refl

-- numbers
plain-number : (n : ℕ) (bs : List ℕ) → list_all is_ascii_alphanumeric bs ≡ true → number_with n bs ≡ number_behind n bs
plain-number n [] h = refl
plain-number n (b ∷ bs) h =
    let (here, on) = and_parts (is_ascii_alphanumeric b) (list_all is_ascii_alphanumeric bs) h in
    ap (λ t. number_with (cond t (one_byte_more n b) no_name) bs) here ∙ plain-number (one_byte_more n b) bs on

pub none-more : (t : Bool) (b : ℕ) → cond t (one_byte_more no_name b) no_name ≡ no_name
none-more true b = refl
none-more false b = refl

none-goes-on : (bs : List ℕ) → number_with no_name bs ≡ no_name
none-goes-on [] = refl
none-goes-on (b ∷ bs) = ap (λ n. number_with n bs) (none-more (is_ascii_alphanumeric b) b) ∙ none-goes-on bs

no-number : (n : ℕ) (bs : List ℕ) → list_all is_ascii_alphanumeric bs ≡ false → number_with n bs ≡ no_name
no-number n [] h = absurd (cc)
no-number n (b ∷ bs) h = elim (is_ascii_alphanumeric b) as (λ t. (t && list_all is_ascii_alphanumeric bs) ≡ false → number_with (cond t (one_byte_more n b) no_name) bs ≡ no_name) [
  | true ↦ λ h. no-number (one_byte_more n b) bs h
  | false ↦ λ h. none-goes-on bs
] h

-- a name in lowercase
lower-is : (b : ℕ) → lower b ≡ to_ascii_lowercase b
lower-is b = grind (arith, nat_tests)

pub lowered : (bs : List ℕ) → map lower bs ≡ str_to_ascii_lowercase bs
lowered [] = refl
lowered (b ∷ bs) = ap (λ c. c ∷ map lower bs) (lower-is b) ∙ ap (λ cs. to_ascii_lowercase b ∷ cs) (lowered bs)

pub lower-alphanumeric : (b : ℕ) → is_ascii_alphanumeric (lower b) ≡ is_ascii_alphanumeric b
lower-alphanumeric b = grind (arith, nat_tests)

pub all-lowered : (bs : List ℕ) → list_all is_ascii_alphanumeric (map lower bs) ≡ list_all is_ascii_alphanumeric bs
all-lowered [] = refl
all-lowered (b ∷ bs) = ap (λ t. t && list_all is_ascii_alphanumeric (map lower bs)) (lower-alphanumeric b) ∙ ap (λ t. is_ascii_alphanumeric b && t) (all-lowered bs)

-- lists of one length are the same if one begins with the other
starts-same : (n m : List ℕ) → starts_with n m ≡ true → length n ≡ length m → n ≡ m
starts-same [] [] h e = refl
starts-same [] (c ∷ cs) h e = absurd (omega (arith, e))
starts-same (b ∷ bs) [] h e = absurd (omega (arith, e))
starts-same (b ∷ bs) (c ∷ cs) h e =
    let (here, on) = and_parts (b == c) (starts_with bs cs) h in
    ap (λ x. x ∷ bs) (eqb-true b c here) ∙ ap (λ xs. c ∷ xs) (starts-same bs cs on (omega (arith, e)))

starts-itself : (n : List ℕ) → starts_with n n ≡ true
starts-itself [] = refl
starts-itself (b ∷ bs) = ap (λ t. t && starts_with bs bs) (eq-eqb b b refl) ∙ starts-itself bs

-- a listed name
is-listed : (names : List (List ℕ)) (name : List ℕ) → is_named names name ≡ true → IsListed (map lower name) names
is-listed [] name h = absurd (cc)
is-listed (n ∷ ns) name h = elim (starts_with n (map lower name) && (length n == length name)) as (λ t. (starts_with n (map lower name) && (length n == length name)) ≡ t → (t || is_named ns name) ≡ true → IsListed (map lower name) (n ∷ ns)) [
  | true ↦ λ e h.
      let (starts, same) = and_parts (starts_with n (map lower name)) (length n == length name) e in
      inl (sym (starts-same n (map lower name) starts (eqb-true (length n) (length name) same ∙ sym (length-map name lower))))
  | false ↦ λ e h. inr (is-listed ns name h)
] refl h

listed-is : (names : List (List ℕ)) (name : List ℕ) → IsListed (map lower name) names → is_named names name ≡ true
listed-is [] name h = absurd h
listed-is (n ∷ ns) name h = elim h as (λ _. ((starts_with n (map lower name) && (length n == length name)) || is_named ns name) ≡ true) [
  | inl same ↦
      let starts : starts_with n (map lower name) ≡ true = ap (starts_with n) same ∙ starts-itself n in
      let long : (length n == length name) ≡ true = eq-eqb (length n) (length name) (sym (ap length same) ∙ length-map name lower) in
      ap (λ t. (t && (length n == length name)) || is_named ns name) starts ∙ ap (λ t. t || is_named ns name) long
  | inr behind ↦ or_right (starts_with n (map lower name) && (length n == length name)) (is_named ns name) (listed-is ns name behind)
]

-- no listed name has a dash
listed-plain : (names : List (List ℕ)) (name : List ℕ) → list_all (list_all is_ascii_alphanumeric) names ≡ true → IsListed name names → list_all is_ascii_alphanumeric name ≡ true
listed-plain [] name h is = absurd is
listed-plain (n ∷ ns) name h is =
    let (here, on) = and_parts (list_all is_ascii_alphanumeric n) (list_all (list_all is_ascii_alphanumeric) ns) h in
    elim is as (λ _. list_all is_ascii_alphanumeric name ≡ true) [
      | inl same ↦ ap (list_all is_ascii_alphanumeric) same ∙ here
      | inr behind ↦ listed-plain ns name on behind
    ]

unnamed : (names : List (List ℕ)) (name : List ℕ) → list_all (list_all is_ascii_alphanumeric) names ≡ true → list_all is_ascii_alphanumeric name ≡ false → is_named names name ≡ false
unnamed names name plain h = elim (is_named names name) as (λ t. is_named names name ≡ t → t ≡ false) [
  | true ↦ λ e. sym (sym (all-lowered name) ∙ listed-plain names (map lower name) plain (is-listed names name e)) ∙ h
  | false ↦ λ e. refl
] refl

tag-name : (name : List ℕ) → first_passes is_ascii_alphabetic name ≡ true → list_all is_ascii_alphanumeric name ≡ true → is_tag_name name ≡ true
tag-name [] letter h = absurd (cc)
tag-name (b ∷ bs) letter h = ap (λ t. t && list_all is_ascii_alphanumeric bs) letter ∙ (and_parts (is_ascii_alphanumeric b) (list_all is_ascii_alphanumeric bs) h).1

numbers-name : (names : List (List ℕ)) → AreToldApart names → list_all (list_all is_ascii_alphanumeric) names ≡ true → is_number_in names no_name ≡ false
    → (name : List ℕ) → first_passes is_ascii_alphabetic name ≡ true → is_number_in names (number_with 0 name) ≡ is_named names name
numbers-name names told plain none name letter =
    elim (list_all is_ascii_alphanumeric name) as (λ t. list_all is_ascii_alphanumeric name ≡ t → is_number_in names (number_with 0 name) ≡ is_named names name) [
      | true ↦ λ e.
          let tells = told name (tag-name name letter e) in
          let number : number_with 0 name ≡ number_of name = plain-number 0 name e in
          ap (is_number_in names) number
          ∙ agree (is_number_in names (number_of name)) (is_named names name)
          (λ h. listed-is names name (subst (λ l. IsListed l names) (sym (lowered name)) (tells.0 h)))
          (λ h. tells.1 (subst (λ l. IsListed l names) (lowered name) (is-listed names name h)))
      | false ↦ λ e. ap (is_number_in names) (no-number 0 name e) ∙ none ∙ sym (unnamed names name plain e)
    ] refl

pub block-names : (name : List ℕ) → first_passes is_ascii_alphabetic name ≡ true → is_number_in html_block_names (number_with 0 name) ≡ is_named html_block_names name
block-names = numbers-name html_block_names block-told refl refl

pub raw-names : (name : List ℕ) → first_passes is_ascii_alphabetic name ≡ true → is_number_in html_raw_names (number_with 0 name) ≡ is_named html_raw_names name
raw-names = numbers-name html_raw_names raw-told refl refl
