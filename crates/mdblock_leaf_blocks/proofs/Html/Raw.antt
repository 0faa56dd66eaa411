-- HTML of kind 1 is behind its end exactly if its line holds the closing tag of a listed name.
use Rattle.mdblock_leaf_blocks.proofs.Prelude.{◌≡◌, inl, inr, ℕ, ◌==◌, ◌||◌, ◌&&◌, List, [], ◌∷◌, ◌++◌, Bool, true, false, cond, map, Some, None, refl, sym, ap, ◌∙◌, subst, arith, is_ascii_alphabetic, is_ascii_alphanumeric, list_all, codes, and_parts, eqb-true, eq-eqb, or_right, nat_tests, html_raw_names, FlowByte, flow_byte, is_less, less, IsListed, is_number_in, is_tag_name, no_name, number_behind, number_of, one_byte_more, raw-told, holds, lower, starts_with, eq-flip, unlike, or-false, and_right}
use Rattle.mdblock_leaf_blocks.proofs.Tags.HtmlNumbers.{ends_html}
use Rattle.mdblock_leaf_blocks.proofs.Looks.ByteClasses.{greater-is, less-is, name-byte-is, slash-is}
use Rattle.mdblock_leaf_blocks.proofs.Html.Places.{Place, inside, opened, named, closed, from_inside, from_name, is_closed, moved, raw_more, stays-closed, through}
use Rattle.mdblock_leaf_blocks.proofs.Tags.TagNumbers.{agree, all-lowered, lower-alphanumeric, lowered, none-more}

-- ---- names before a greater-than sign
abbrev IsWord : List ℕ → Type 0
IsWord l = list_all is_ascii_alphanumeric l ≡ true

-- such bytes follow the name of a tag: none, or one of no name, which is no greater-than sign
abbrev Breaks : List ℕ → Type 0
Breaks [] = Unit {0}
Breaks (b ∷ bs) = (is_ascii_alphanumeric b ≡ false) × ((b == 62) ≡ false)

-- a name and a greater-than sign come, one of these
abbrev ends_name : List (List ℕ) → List ℕ → Bool
ends_name [] l = false
ends_name (n ∷ ns) l = starts_with (n ++ 62 ∷ []) l || ends_name ns l

abbrev AreWords : List (List ℕ) → Type 0
AreWords [] = Unit {0}
AreWords (n ∷ ns) = IsWord n × AreWords ns

same-before : (n x l : List ℕ) → IsWord n → IsWord x → starts_with (n ++ 62 ∷ []) (x ++ 62 ∷ l) ≡ true → n ≡ x
same-before [] [] l w v h = refl
same-before [] (c ∷ cs) l w v h =
    let (here, on) = and_parts (is_ascii_alphanumeric c) (list_all is_ascii_alphanumeric cs) v in
    absurd (let other = eq-flip 62 c ∙ unlike is_ascii_alphanumeric 62 refl c here in let (same, more) = and_parts (62 == c) true h in cc)
same-before (b ∷ bs) [] l w v h =
    let (here, on) = and_parts (is_ascii_alphanumeric b) (list_all is_ascii_alphanumeric bs) w in
    absurd (let other = unlike is_ascii_alphanumeric 62 refl b here in let (same, more) = and_parts (b == 62) (starts_with (bs ++ 62 ∷ []) l) h in cc)
same-before (b ∷ bs) (c ∷ cs) l w v h =
    let (same, more) = and_parts (b == c) (starts_with (bs ++ 62 ∷ []) (cs ++ 62 ∷ l)) h in
    let here = (and_parts (is_ascii_alphanumeric b) (list_all is_ascii_alphanumeric bs) w).1 in
    let there = (and_parts (is_ascii_alphanumeric c) (list_all is_ascii_alphanumeric cs) v).1 in
    ap (λ n. n ∷ bs) (eqb-true b c same) ∙ ap (λ l. c ∷ l) (same-before bs cs l here there more)

starts-so : (x l : List ℕ) → starts_with (x ++ 62 ∷ []) (x ++ 62 ∷ l) ≡ true
starts-so [] l = refl
starts-so (c ∷ cs) l = ap (λ t. t && starts_with (cs ++ 62 ∷ []) (cs ++ 62 ∷ l)) (eq-eqb c c refl) ∙ starts-so cs l

ends-listed : (names : List (List ℕ)) (x l : List ℕ) → AreWords names → IsWord x → ends_name names (x ++ 62 ∷ l) ≡ true → IsListed x names
ends-listed [] x l all word h = absurd (cc)
ends-listed (n ∷ ns) x l all word h =
    let here = starts_with (n ++ 62 ∷ []) (x ++ 62 ∷ l) in
    elim here as (λ t. here ≡ t → (t || ends_name ns (x ++ 62 ∷ l)) ≡ true → IsListed x (n ∷ ns)) [
      | true ↦ λ e h. inl (sym (same-before n x l all.0 word e))
      | false ↦ λ e h. inr (ends-listed ns x l all.1 word h)
    ] refl h

listed-ends : (names : List (List ℕ)) (x l : List ℕ) → IsListed x names → ends_name names (x ++ 62 ∷ l) ≡ true
listed-ends [] x l h = absurd h
listed-ends (n ∷ ns) x l h = elim h as (λ _. (starts_with (n ++ 62 ∷ []) (x ++ 62 ∷ l) || ends_name ns (x ++ 62 ∷ l)) ≡ true) [
  | inl same ↦ ap (λ n. starts_with (n ++ 62 ∷ []) (x ++ 62 ∷ l) || ends_name ns (x ++ 62 ∷ l)) (sym same) ∙ ap (λ t. t || ends_name ns (x ++ 62 ∷ l)) (starts-so x l)
  | inr behind ↦ or_right (starts_with (n ++ 62 ∷ []) (x ++ 62 ∷ l)) (ends_name ns (x ++ 62 ∷ l)) (listed-ends ns x l behind)
]

no-start : (n x r : List ℕ) → IsWord n → IsWord x → Breaks r → starts_with (n ++ 62 ∷ []) (x ++ r) ≡ false
no-start [] [] [] w v breaks = refl
no-start [] [] (b ∷ bs) w v breaks = ap (λ t. t && true) (eq-flip 62 b ∙ breaks.1)
no-start [] (c ∷ cs) r w v breaks =
    ap (λ t. t && true) (eq-flip 62 c ∙ unlike is_ascii_alphanumeric 62 refl c (and_parts (is_ascii_alphanumeric c) (list_all is_ascii_alphanumeric cs) v).0)
no-start (b ∷ bs) [] [] w v breaks = refl
no-start (b ∷ bs) [] (c ∷ cs) w v breaks =
    ap (λ t. t && starts_with (bs ++ 62 ∷ []) cs) (unlike is_ascii_alphanumeric c breaks.0 b (and_parts (is_ascii_alphanumeric b) (list_all is_ascii_alphanumeric bs) w).0)
no-start (b ∷ bs) (c ∷ cs) r w v breaks =
    and_right (b == c) (starts_with (bs ++ 62 ∷ []) (cs ++ r))
    (no-start bs cs r (and_parts (is_ascii_alphanumeric b) (list_all is_ascii_alphanumeric bs) w).1 (and_parts (is_ascii_alphanumeric c) (list_all is_ascii_alphanumeric cs) v).1 breaks)

ends-nowhere : (names : List (List ℕ)) (x r : List ℕ) → AreWords names → IsWord x → Breaks r → ends_name names (x ++ r) ≡ false
ends-nowhere [] x r all word breaks = refl
ends-nowhere (n ∷ ns) x r all word breaks = ap (λ t. t || ends_name ns (x ++ r)) (no-start n x r all.0 word breaks) ∙ ends-nowhere ns x r all.1 word breaks

-- ---- numbers of names
abbrev numbered : ℕ → List ℕ → ℕ
numbered n [] = n
numbered n (b ∷ bs) = numbered (raw_more n b) bs

numbered-append : (n : ℕ) (xs : List ℕ) (b : ℕ) → numbered n (xs ++ b ∷ []) ≡ raw_more (numbered n xs) b
numbered-append n [] b = refl
numbered-append n (x ∷ xs) b = numbered-append (raw_more n x) xs b

letters-numbered : (n : ℕ) (bs : List ℕ) → list_all is_ascii_alphabetic bs ≡ true → numbered n bs ≡ number_behind n bs
letters-numbered n [] h = refl
letters-numbered n (b ∷ bs) h =
    let (here, on) = and_parts (is_ascii_alphabetic b) (list_all is_ascii_alphabetic bs) h in
    ap (λ t. numbered (cond t (one_byte_more n b) no_name) bs) here ∙ letters-numbered (one_byte_more n b) bs on

none-stays : (bs : List ℕ) → numbered no_name bs ≡ no_name
none-stays [] = refl
none-stays (b ∷ bs) = ap (λ n. numbered n bs) (none-more (is_ascii_alphabetic b) b) ∙ none-stays bs

others-numbered : (n : ℕ) (bs : List ℕ) → list_all is_ascii_alphabetic bs ≡ false → numbered n bs ≡ no_name
others-numbered n [] h = absurd (cc)
others-numbered n (b ∷ bs) h = elim (is_ascii_alphabetic b) as (λ t. (t && list_all is_ascii_alphabetic bs) ≡ false → numbered (cond t (one_byte_more n b) no_name) bs ≡ no_name) [
  | true ↦ λ h. others-numbered (one_byte_more n b) bs h
  | false ↦ λ h. none-stays bs
] h

-- in lowercase
abbrev low : List ℕ → List ℕ
low l = map lower l

lower-letter : (b : ℕ) → is_ascii_alphabetic (lower b) ≡ is_ascii_alphabetic b
lower-letter b = grind (arith, nat_tests)

letters-lowered : (bs : List ℕ) → list_all is_ascii_alphabetic (low bs) ≡ list_all is_ascii_alphabetic bs
letters-lowered [] = refl
letters-lowered (b ∷ bs) = ap (λ t. t && list_all is_ascii_alphabetic (low bs)) (lower-letter b) ∙ ap (λ t. is_ascii_alphabetic b && t) (letters-lowered bs)

lower-sign : (b : ℕ) → (lower b == 60) ≡ (b == 60)
lower-sign b = grind (arith, nat_tests)

lower-slash : (b : ℕ) → (lower b == 47) ≡ (b == 47)
lower-slash b = grind (arith, nat_tests)

lower-greater : (b : ℕ) → (lower b == 62) ≡ (b == 62)
lower-greater b = grind (arith, nat_tests)

-- listed names have letters alone
listed-letters : (names : List (List ℕ)) (x : List ℕ) → list_all (list_all is_ascii_alphabetic) names ≡ true → IsListed x names → list_all is_ascii_alphabetic x ≡ true
listed-letters [] x h is = absurd is
listed-letters (n ∷ ns) x h is =
    let (here, on) = and_parts (list_all is_ascii_alphabetic n) (list_all (list_all is_ascii_alphabetic) ns) h in
    elim is as (λ _. list_all is_ascii_alphabetic x ≡ true) [
      | inl same ↦ ap (list_all is_ascii_alphabetic) same ∙ here
      | inr behind ↦ listed-letters ns x on behind
    ]

raw-words : AreWords html_raw_names
raw-words = (refl, (refl, (refl, (refl, tt))))

-- the number of a name is listed exactly if the name is
letters-told : (name l : List ℕ) → IsWord name → list_all is_ascii_alphabetic name ≡ true → is_number_in html_raw_names (numbered 0 name) ≡ ends_name html_raw_names (low name ++ 62 ∷ l)
letters-told [] l word letters = refl
letters-told (b ∷ bs) l word letters =
    let name = b ∷ bs in
    let (letter, more) = and_parts (is_ascii_alphabetic b) (list_all is_ascii_alphabetic bs) letters in
    let tag : is_tag_name name ≡ true = ap (λ t. t && list_all is_ascii_alphanumeric bs) letter ∙ (and_parts (is_ascii_alphanumeric b) (list_all is_ascii_alphanumeric bs) word).1 in
    let told = raw-told name tag in
    ap (is_number_in html_raw_names) (letters-numbered 0 name letters)
    ∙ agree (is_number_in html_raw_names (number_of name)) (ends_name html_raw_names (low name ++ 62 ∷ l))
    (λ h. listed-ends html_raw_names (low name) l (subst (λ x. IsListed x html_raw_names) (sym (lowered name)) (told.0 h)))
    (λ h. told.1 (subst (λ x. IsListed x html_raw_names) (lowered name) (ends-listed html_raw_names (low name) l raw-words (all-lowered name ∙ word) h)))

others-told : (name l : List ℕ) → IsWord name → list_all is_ascii_alphabetic name ≡ false → is_number_in html_raw_names (numbered 0 name) ≡ ends_name html_raw_names (low name ++ 62 ∷ l)
others-told name l word others =
    let ends = ends_name html_raw_names (low name ++ 62 ∷ l) in
    ap (is_number_in html_raw_names) (others-numbered 0 name others)
    ∙ (elim ends as (λ t. ends ≡ t → false ≡ t) [
      | true ↦ λ e. sym others ∙ sym (letters-lowered name) ∙ listed-letters html_raw_names (low name) refl (ends-listed html_raw_names (low name) l raw-words (all-lowered name ∙ word) e)
      | false ↦ λ e. refl
    ] refl)

number-told : (name l : List ℕ) → IsWord name → is_number_in html_raw_names (numbered 0 name) ≡ ends_name html_raw_names (low name ++ 62 ∷ l)
number-told name l word = elim (list_all is_ascii_alphabetic name) as (λ t. list_all is_ascii_alphabetic name ≡ t → is_number_in html_raw_names (numbered 0 name) ≡ ends_name html_raw_names (low name ++ 62 ∷ l)) [
  | true ↦ letters-told name l word
  | false ↦ others-told name l word
] refl

-- ---- the four closing tags
abbrev ends : List ℕ → Bool
ends l = holds (codes "</pre>") l || (holds (codes "</script>") l || (holds (codes "</style>") l || holds (codes "</textarea>") l))

abbrev begins : List ℕ → Bool
begins l = starts_with (codes "</pre>") l || (starts_with (codes "</script>") l || (starts_with (codes "</style>") l || starts_with (codes "</textarea>") l))

swap : (a w p q : Bool) → ((a || w) || (p || q)) ≡ ((a || p) || (w || q))
swap false true true q = refl
swap a w p q = refl

swap-four : (a b c d w x y z : Bool) → ((a || w) || ((b || x) || ((c || y) || (d || z)))) ≡ ((a || (b || (c || d))) || (w || (x || (y || z))))
swap-four a b c d w x y z = ap (λ t. (a || w) || ((b || x) || t)) (swap c y d z) ∙ ap (λ t. (a || w) || t) (swap b x (c || d) (y || z)) ∙ swap a w (b || (c || d)) (x || (y || z))

ends-cons : (c : ℕ) (cs : List ℕ) → ends (c ∷ cs) ≡ (begins (c ∷ cs) || ends cs)
ends-cons c cs = swap-four (starts_with (codes "</pre>") (c ∷ cs)) (starts_with (codes "</script>") (c ∷ cs)) (starts_with (codes "</style>") (c ∷ cs)) (starts_with (codes "</textarea>") (c ∷ cs))
    (holds (codes "</pre>") cs) (holds (codes "</script>") cs) (holds (codes "</style>") cs) (holds (codes "</textarea>") cs)

-- where they don't begin
ends-skips : (c : ℕ) (cs : List ℕ) → (c == 60) ≡ false → ends (c ∷ cs) ≡ ends cs
ends-skips c cs e =
    ends-cons c cs
    ∙ ap (λ t. ((t && starts_with (codes "/pre>") cs) || ((t && starts_with (codes "/script>") cs) || ((t && starts_with (codes "/style>") cs) || (t && starts_with (codes "/textarea>") cs)))) || ends cs) (eq-flip 60 c ∙ e)

ends-skips-sign : (c : ℕ) (cs : List ℕ) → (c == 47) ≡ false → ends (60 ∷ c ∷ cs) ≡ ends (c ∷ cs)
ends-skips-sign c cs e =
    ends-cons 60 (c ∷ cs)
    ∙ ap (λ t. ((t && starts_with (codes "pre>") cs) || ((t && starts_with (codes "script>") cs) || ((t && starts_with (codes "style>") cs) || (t && starts_with (codes "textarea>") cs)))) || ends (c ∷ cs)) (eq-flip 47 c ∙ e)

ends-tag : (l : List ℕ) → ends (60 ∷ 47 ∷ l) ≡ (ends_name html_raw_names l || ends l)
ends-tag l =
    ends-cons 60 (47 ∷ l) ∙ ap (λ t. begins (60 ∷ 47 ∷ l) || t) (ends-skips 47 l refl)
    ∙ ap (λ t. (starts_with (codes "pre>") l || (starts_with (codes "script>") l || (starts_with (codes "style>") l || t))) || ends l) (sym (or-false (starts_with (codes "textarea>") l)))

-- ---- along the line
sign-inside : (c : FlowByte) → moved 1 inside c ≡ cond (is_less c) opened inside
sign-inside less = refl
sign-inside c = refl

inside-by : (b : ℕ) → from_inside 1 (flow_byte b) ≡ cond (b == 60) opened inside
inside-by b = sign-inside (flow_byte b) ∙ ap (λ t. cond t opened inside) (less-is b)

-- a byte that follows a name
lowered-breaks : (b : ℕ) (bs : List ℕ) → is_ascii_alphanumeric b ≡ false → (b == 62) ≡ false → Breaks (low (b ∷ bs))
lowered-breaks b bs word greater = (lower-alphanumeric b ∙ word, lower-greater b ∙ greater)

word-on : (name : List ℕ) (b : ℕ) → IsWord name → is_ascii_alphanumeric b ≡ true → IsWord (name ++ b ∷ [])
word-on [] b word h = ap (λ t. t && true) h
word-on (x ∷ xs) b word h =
    let (here, on) = and_parts (is_ascii_alphanumeric x) (list_all is_ascii_alphanumeric xs) word in ap (λ t. t && list_all is_ascii_alphanumeric (xs ++ b ∷ [])) here ∙ word-on xs b on h

low-on : (name : List ℕ) (b : ℕ) (l : List ℕ) → low (name ++ b ∷ []) ++ l ≡ low name ++ (lower b ∷ l)
low-on [] b l = refl
low-on (x ∷ xs) b l = ap (λ l. lower x ∷ l) (low-on xs b l)

-- what is behind the end from each place
record Reach (bs : List ℕ) : Type 0 where
  within : is_closed (through 1 inside bs) ≡ ends (low bs)
  sign : is_closed (through 1 opened bs) ≡ ends (60 ∷ low bs)
  name : (word : List ℕ) → IsWord word → is_closed (through 1 (named (numbered 0 word)) bs) ≡ (ends_name html_raw_names (low word ++ low bs) || ends (low bs))

abbrev to : List ℕ → Place → Bool
to bs p = is_closed (through 1 p bs)

within-on : (b : ℕ) (bs : List ℕ) → Reach bs → to bs (from_inside 1 (flow_byte b)) ≡ ends (low (b ∷ bs))
within-on b bs r =
    ap (to bs) (inside-by b)
    ∙ (elim (b == 60) as (λ t. (b == 60) ≡ t → to bs (cond t opened inside) ≡ ends (low (b ∷ bs))) [
      | true ↦ λ e. r.sign ∙ ap (λ n. ends (lower n ∷ low bs)) (sym (eqb-true b 60 e))
      | false ↦ λ e. r.within ∙ sym (ends-skips (lower b) (low bs) (lower-sign b ∙ e))
    ] refl)

sign-on : (b : ℕ) (bs : List ℕ) → Reach bs → to bs (moved 1 opened (flow_byte b)) ≡ ends (60 ∷ low (b ∷ bs))
sign-on b bs r =
    ap (λ t. to bs (cond t (named 0) (from_inside 1 (flow_byte b)))) (slash-is b)
    ∙ (elim (b == 47) as (λ t. (b == 47) ≡ t → to bs (cond t (named 0) (from_inside 1 (flow_byte b))) ≡ ends (60 ∷ low (b ∷ bs))) [
      | true ↦ λ e. r.name [] refl ∙ sym (ends-tag (low bs)) ∙ ap (λ n. ends (60 ∷ lower n ∷ low bs)) (sym (eqb-true b 47 e))
      | false ↦ λ e. within-on b bs r ∙ sym (ends-skips-sign (lower b) (low bs) (lower-slash b ∙ e))
    ] refl)

module _ (b : ℕ) (bs : List ℕ) (r : Reach bs) (word : List ℕ) (is : IsWord word) where
  abbrev number : ℕ
  number = numbered 0 word

  abbrev goal : Bool
  goal = ends_name html_raw_names (low word ++ low (b ∷ bs)) || ends (low (b ∷ bs))

  -- the name goes on
  name-grows : is_ascii_alphanumeric b ≡ true → to bs (named (raw_more number b)) ≡ goal
  name-grows h =
      ap (λ n. to bs (named n)) (sym (numbered-append 0 word b)) ∙ r.name (word ++ b ∷ []) (word-on word b is h)
      ∙ ap (λ l. ends_name html_raw_names l || ends (low bs)) (low-on word b (low bs))
      ∙ ap (λ t. ends_name html_raw_names (low word ++ low (b ∷ bs)) || t) (sym (ends-skips (lower b) (low bs) (lower-sign b ∙ unlike is_ascii_alphanumeric 60 refl b h)))

  -- it is over
  name-ends : (b == 62) ≡ true → to bs (cond (is_number_in html_raw_names number) closed (from_inside 1 (flow_byte b))) ≡ goal
  name-ends e =
      let told = number-told word (low bs) is ∙ ap (λ n. ends_name html_raw_names (low word ++ lower n ∷ low bs)) (sym (eqb-true b 62 e)) in
      (elim (is_number_in html_raw_names number) as (λ t. to bs (cond t closed (from_inside 1 (flow_byte b))) ≡ (t || ends (low (b ∷ bs)))) [
        | true ↦ ap is_closed (stays-closed 1 bs)
        | false ↦ within-on b bs r
      ]) ∙ ap (λ t. t || ends (low (b ∷ bs))) told

  name-breaks : is_ascii_alphanumeric b ≡ false → (b == 62) ≡ false → to bs (from_inside 1 (flow_byte b)) ≡ goal
  name-breaks h e =
      within-on b bs r ∙ ap (λ t. t || ends (low (b ∷ bs))) (sym (ends-nowhere html_raw_names (low word) (low (b ∷ bs)) raw-words (all-lowered word ∙ is) (lowered-breaks b bs h e)))

  name-on : to bs (moved 1 (named number) (flow_byte b)) ≡ goal
  name-on =
      ap (λ o. to bs (from_name 1 number (flow_byte b) o)) (name-byte-is b)
      ∙ (elim (is_ascii_alphanumeric b) as (λ t. is_ascii_alphanumeric b ≡ t → to bs (from_name 1 number (flow_byte b) (cond t (Some b) None)) ≡ goal) [
        | true ↦ λ h. name-grows h
        | false ↦ λ h.
            let rest = from_inside 1 (flow_byte b) in
            ap (λ t. to bs (cond t (cond (is_number_in html_raw_names number) closed rest) rest)) (greater-is b)
            ∙ (elim (b == 62) as (λ t. (b == 62) ≡ t → to bs (cond t (cond (is_number_in html_raw_names number) closed rest) rest) ≡ goal) [
              | true ↦ λ e. name-ends e
              | false ↦ λ e. name-breaks h e
            ] refl)
      ] refl)

reaches : (bs : List ℕ) → Reach bs
reaches [] = record {
  within = refl;
  sign = refl;
  name = λ word is. ap (λ t. t || false) (sym (ends-nowhere html_raw_names (low word) [] raw-words (all-lowered word ∙ is) tt));
}
reaches (b ∷ bs) = let r = reaches bs in record { within = within-on b bs r; sign = sign-on b bs r; name = name-on b bs r }

pub raw-ends : (t : List ℕ) → is_closed (through 1 inside t) ≡ ends_html 1 t
raw-ends t = (reaches t).within
