-- What is behind a tag, from place to place: the definition of tags says the same.
use Rattle.markdown_base.proofs.Facts.Lists.{Fits, drop-fits, fits-more, either-fits}
use Rattle.markdown_base.proofs.Facts.Numbers.{unlike}
use Rattle.mdinline_constructs.proofs.Prelude.{◌≡◌, ℕ, zero, suc, ◌+◌, ◌<◌, ◌≤◌, ◌==◌, not, List, [], ◌∷◌, Bool, true, false, cond, Option, Some, None, length, drop, refl, sym, ap, ◌∙◌, arith, one-add, le_trans, is_ascii_alphabetic, prefix_len, option_and_then, eqb-true, nat_tests, has_byte_at, is_greater_than, is_less_than, is_slash, is_equals_sign, is_double_quote, is_single_quote, is_tag_white, is_tag_name_byte, begins_attribute_name, is_attribute_name_byte, is_unquoted, behind, behind_one, past_quote, past_value, past_attribute, behind_attributes, behind_opening, behind_closing, behind_tag, quote_is}
use Rattle.mdinline_constructs.proofs.HtmlTexts.Walks.{Move, refused, done, goes}
use Rattle.mdinline_constructs.proofs.HtmlTags.Places.{Place, opened, closed, closing_name, closing, tag_name, before, name, named, value, double_quoted, single_quoted, after, bare, slashed, next, left_of, left, value-white, before-white}

-- what is behind a run of bytes
drop-run : (p : ℕ → Bool) (b : ℕ) (bs : List ℕ) → behind p (b ∷ bs) ≡ cond (p b) (behind p bs) (b ∷ bs)
drop-run p b bs = elim (p b) as (λ t. drop (cond t (1 + prefix_len p bs) 0) (b ∷ bs) ≡ cond t (behind p bs) (b ∷ bs)) [
  | true ↦ ap (λ n. drop n (b ∷ bs)) (one-add (prefix_len p bs))
  | false ↦ refl
]

-- behind it no such byte is
first-not : (p : ℕ → Bool) (t : List ℕ) → has_byte_at (behind p t) 0 p ≡ false
first-not p [] = refl
first-not p (b ∷ bs) =
    ap (λ l. has_byte_at l 0 p) (drop-run p b bs)
    ∙ elim (p b) as (λ t. p b ≡ t → has_byte_at (cond t (behind p bs) (b ∷ bs)) 0 p ≡ false) [
      | true ↦ λ e. first-not p bs
      | false ↦ λ e. e
    ] refl

-- a run that changes no place is passed
run-skipped : (p : ℕ → Bool) (place : Place) → ((b : ℕ) → p b ≡ true → next place b ≡ goes None place) → (t : List ℕ) → left t place ≡ left (behind p t) place
run-skipped p place h [] = refl
run-skipped p place h (b ∷ bs) =
    elim (p b) as (λ t. p b ≡ t → left (b ∷ bs) place ≡ left (cond t (behind p bs) (b ∷ bs)) place) [
      | true ↦ λ e. ap (left_of (left bs) bs) (h b e) ∙ run-skipped p place h bs
      | false ↦ λ e. refl
    ] refl
    ∙ sym (ap (λ l. left l place) (drop-run p b bs))

-- ---- the end of a tag
slashed-is : (t : List ℕ) → left t slashed ≡ behind_one is_greater_than t
slashed-is [] = refl
slashed-is (b ∷ bs) = elim (b == 62) as (λ t. left_of (left bs) bs (cond t done refused) ≡ cond t (Some bs) None) [ true ↦ refl | false ↦ refl ]

closing-white : (b : ℕ) → is_tag_white b ≡ true → next closing b ≡ goes None closing
closing-white b h = ap (λ t. cond t (goes None closing) (cond (is_greater_than b) done refused)) h

closing-at : (t : List ℕ) → has_byte_at t 0 is_tag_white ≡ false → left t closing ≡ behind_one is_greater_than t
closing-at [] h = refl
closing-at (b ∷ bs) h = ap (λ t. left_of (left bs) bs (cond t (goes None closing) (cond (is_greater_than b) done refused))) h ∙ slashed-is (b ∷ bs)

closing-is : (t : List ℕ) → left t closing ≡ behind_one is_greater_than (behind is_tag_white t)
closing-is t = run-skipped is_tag_white closing closing-white t ∙ closing-at (behind is_tag_white t) (first-not is_tag_white t)

-- ---- values
-- what is behind a value, if there is one
abbrev then_on : Option (List ℕ) → Option (List ℕ)
then_on o = option_and_then (λ rest. left rest after) o

double-is : (t : List ℕ) → left t double_quoted ≡ then_on (past_quote 34 t)
double-is [] = refl
double-is (b ∷ bs) = elim (b == 34) as (λ t. (b == 34) ≡ t → left_of (left bs) bs (cond t (goes None after) (goes None double_quoted)) ≡ then_on (past_quote 34 (b ∷ bs))) [
  | true ↦ λ e. sym (ap (λ l. then_on (behind_one (λ b. b == 34) l)) (drop-run (λ b. not (b == 34)) b bs ∙ ap (λ t. cond (not t) (behind (λ b. not (b == 34)) bs) (b ∷ bs)) e)
      ∙ ap (λ t. then_on (cond t (Some bs) None)) e)
  | false ↦ λ e. double-is bs
      ∙ sym (ap (λ l. then_on (behind_one (λ b. b == 34) l)) (drop-run (λ b. not (b == 34)) b bs ∙ ap (λ t. cond (not t) (behind (λ b. not (b == 34)) bs) (b ∷ bs)) e))
] refl

single-is : (t : List ℕ) → left t single_quoted ≡ then_on (past_quote 39 t)
single-is [] = refl
single-is (b ∷ bs) = elim (b == 39) as (λ t. (b == 39) ≡ t → left_of (left bs) bs (cond t (goes None after) (goes None single_quoted)) ≡ then_on (past_quote 39 (b ∷ bs))) [
  | true ↦ λ e. sym (ap (λ l. then_on (behind_one (λ b. b == 39) l)) (drop-run (λ b. not (b == 39)) b bs ∙ ap (λ t. cond (not t) (behind (λ b. not (b == 39)) bs) (b ∷ bs)) e)
      ∙ ap (λ t. then_on (cond t (Some bs) None)) e)
  | false ↦ λ e. single-is bs
      ∙ sym (ap (λ l. then_on (behind_one (λ b. b == 39) l)) (drop-run (λ b. not (b == 39)) b bs ∙ ap (λ t. cond (not t) (behind (λ b. not (b == 39)) bs) (b ∷ bs)) e))
] refl

bare-goes-on : (b : ℕ) → is_unquoted b ≡ true → next bare b ≡ goes None bare
bare-goes-on b h = ap (λ t. cond t (goes None bare) (cond (is_tag_white b) (goes None before) (cond (is_greater_than b) done refused))) h

no-slash : (b : ℕ) → is_unquoted b ≡ false → is_slash b ≡ false
no-slash b h = elim (b == 47) as (λ t. (b == 47) ≡ t → t ≡ false) [
  | true ↦ λ e. let no : true ≡ false = ap is_unquoted (sym (eqb-true b 47 e)) ∙ h in absurd (cc)
  | false ↦ λ e. refl
] refl

bare-at : (t : List ℕ) → has_byte_at t 0 is_unquoted ≡ false → left t bare ≡ left t after
bare-at [] h = refl
bare-at (b ∷ bs) h =
    ap (λ t. left_of (left bs) bs (cond t (goes None bare) (cond (is_tag_white b) (goes None before) (cond (is_greater_than b) done refused)))) h
    ∙ sym (ap (λ t. left_of (left bs) bs (cond (is_tag_white b) (goes None before) (cond t (goes None slashed) (cond (is_greater_than b) done refused)))) (no-slash b h))

bare-is : (t : List ℕ) → left t bare ≡ left (behind is_unquoted t) after
bare-is t = run-skipped is_unquoted bare bare-goes-on t ∙ bare-at (behind is_unquoted t) (first-not is_unquoted t)

value-at : (t : List ℕ) → has_byte_at t 0 is_tag_white ≡ false → left t value ≡ then_on (past_value t)
value-at [] h = refl
value-at (b ∷ bs) h =
    let out = left_of (left bs) bs in
    let plain = behind is_unquoted (b ∷ bs) in
    ap (λ t. out (cond t (goes None value) (cond (is_double_quote b) (goes (Some (quote_is 34)) double_quoted) (cond (is_single_quote b) (goes (Some (quote_is 39)) single_quoted) (cond (is_unquoted b) (goes None bare) refused))))) h
    ∙ elim (b == 34) as (λ d. out (cond d (goes (Some (quote_is 34)) double_quoted) (cond (is_single_quote b) (goes (Some (quote_is 39)) single_quoted) (cond (is_unquoted b) (goes None bare) refused)))
    ≡ then_on (cond d (past_quote 34 bs) (cond (is_single_quote b) (past_quote 39 bs) (cond (is_unquoted b) (Some plain) None)))) [
      | true ↦ double-is bs
      | false ↦ elim (b == 39) as (λ s. out (cond s (goes (Some (quote_is 39)) single_quoted) (cond (is_unquoted b) (goes None bare) refused)) ≡ then_on (cond s (past_quote 39 bs) (cond (is_unquoted b) (Some plain) None))) [
        | true ↦ single-is bs
        | false ↦ elim (is_unquoted b) as (λ u. is_unquoted b ≡ u → out (cond u (goes None bare) refused) ≡ then_on (cond u (Some plain) None)) [
          | true ↦ λ e. sym (ap out (bare-goes-on b e)) ∙ bare-is (b ∷ bs)
          | false ↦ λ e. refl
        ] refl
      ]
    ]

value-is : (t : List ℕ) → left t value ≡ then_on (past_value (behind is_tag_white t))
value-is t = run-skipped is_tag_white value value-white t ∙ value-at (behind is_tag_white t) (first-not is_tag_white t)

-- ---- attributes
abbrev with_value : (more : List ℕ) → (without : Option (List ℕ)) → Option (List ℕ)
with_value more without = cond (has_byte_at more 0 is_equals_sign) (left (drop 1 more) value) without

-- what ends a tag, or is refused
abbrev end_or : ℕ → Move Place
end_or b = cond (is_slash b) (goes None slashed) (cond (is_greater_than b) done refused)

named-is : (t : List ℕ) → left t named ≡ with_value (behind is_tag_white t) (left t before)
named-is [] = refl
named-is (b ∷ bs) =
    let out = left_of (left bs) bs in
    let first = cond (begins_attribute_name b) (goes None name) (end_or b) in
    elim (is_tag_white b) as (λ w. out (cond w (goes None named) (cond (is_equals_sign b) (goes None value) first)) ≡ with_value (cond w (behind is_tag_white bs) (b ∷ bs)) (out (cond w (goes None before) first))) [
      | true ↦ named-is bs
      | false ↦ elim (b == 61) as (λ e. out (cond e (goes None value) first) ≡ cond e (left bs value) (out first)) [ true ↦ refl | false ↦ refl ]
    ]
    ∙ sym (ap (λ l. with_value l (left (b ∷ bs) before)) (drop-run is_tag_white b bs))

name-ends : (t : List ℕ) → has_byte_at t 0 is_attribute_name_byte ≡ false → left t name ≡ with_value (behind is_tag_white t) (left t after)
name-ends [] h = refl
name-ends (b ∷ bs) h =
    let out = left_of (left bs) bs in
    ap (λ t. out (cond t (goes None name) (cond (is_tag_white b) (goes None named) (cond (is_equals_sign b) (goes None value) (end_or b))))) h
    ∙ elim (is_tag_white b) as (λ w. out (cond w (goes None named) (cond (is_equals_sign b) (goes None value) (end_or b))) ≡ with_value (cond w (behind is_tag_white bs) (b ∷ bs)) (out (cond w (goes None before) (end_or b)))) [
      | true ↦ named-is bs
      | false ↦ elim (b == 61) as (λ e. out (cond e (goes None value) (end_or b)) ≡ cond e (left bs value) (out (end_or b))) [ true ↦ refl | false ↦ refl ]
    ]
    ∙ sym (ap (λ l. with_value l (left (b ∷ bs) after)) (drop-run is_tag_white b bs))

name-goes-on : (b : ℕ) → is_attribute_name_byte b ≡ true → next name b ≡ goes None name
name-goes-on b h = ap (λ t. cond t (goes None name) (cond (is_tag_white b) (goes None named) (cond (is_equals_sign b) (goes None value) (end_or b)))) h

begins-is : (b : ℕ) → begins_attribute_name b ≡ true → is_attribute_name_byte b ≡ true
begins-is b h = grind (arith, nat_tests)

-- what is behind an attribute, by whether its first byte begins one
abbrev behind_name : Bool → List ℕ → Option (List ℕ)
behind_name begins t =
    let rest = behind is_attribute_name_byte t in
    let more = behind is_tag_white rest in
    cond begins (cond (has_byte_at more 0 is_equals_sign) (past_value (behind is_tag_white (drop 1 more))) (Some rest)) None

attribute-is : (b : ℕ) (bs : List ℕ) → begins_attribute_name b ≡ true → left bs name ≡ then_on (past_attribute (b ∷ bs))
attribute-is b bs e =
    let all = b ∷ bs in
    let rest = behind is_attribute_name_byte all in
    let more = behind is_tag_white rest in
    sym (ap (left_of (left bs) bs) (name-goes-on b (begins-is b e)))
    ∙ run-skipped is_attribute_name_byte name name-goes-on all
    ∙ name-ends rest (first-not is_attribute_name_byte all)
    ∙ elim (has_byte_at more 0 is_equals_sign) as (λ t. cond t (left (drop 1 more) value) (left rest after) ≡ then_on (cond t (past_value (behind is_tag_white (drop 1 more))) (Some rest))) [
      | true ↦ value-is (drop 1 more)
      | false ↦ refl
    ]
    ∙ sym (ap (λ t. then_on (behind_name t all)) e)

no-attribute : (b : ℕ) (bs : List ℕ) → begins_attribute_name b ≡ false → then_on (past_attribute (b ∷ bs)) ≡ None
no-attribute b bs e = ap (λ t. then_on (behind_name t (b ∷ bs))) e

-- before an attribute, or before the end of the tag
abbrev ends_or : List ℕ → Option (List ℕ) → Option (List ℕ)
ends_or more other = cond (has_byte_at more 0 is_slash) (behind_one is_greater_than (drop 1 more)) (cond (has_byte_at more 0 is_greater_than) (Some (drop 1 more)) other)

end-at : (b : ℕ) (bs : List ℕ) → left_of (left bs) bs (end_or b) ≡ ends_or (b ∷ bs) None
end-at b bs = elim (b == 47) as (λ s. left_of (left bs) bs (cond s (goes None slashed) (cond (is_greater_than b) done refused)) ≡ cond s (behind_one is_greater_than bs) (cond (is_greater_than b) (Some bs) None)) [
  | true ↦ slashed-is bs
  | false ↦ elim (b == 62) as (λ t. left_of (left bs) bs (cond t done refused) ≡ cond t (Some bs) None) [ true ↦ refl | false ↦ refl ]
]

before-at : (t : List ℕ) → has_byte_at t 0 is_tag_white ≡ false → left t before ≡ ends_or t (then_on (past_attribute t))
before-at [] h = refl
before-at (b ∷ bs) h =
    let out = left_of (left bs) bs in
    ap (λ t. out (cond t (goes None before) (cond (begins_attribute_name b) (goes None name) (end_or b)))) h
    ∙ elim (begins_attribute_name b) as (λ t. begins_attribute_name b ≡ t → out (cond t (goes None name) (end_or b)) ≡ ends_or (b ∷ bs) (then_on (past_attribute (b ∷ bs)))) [
      | true ↦ λ e.
          let all = then_on (past_attribute (b ∷ bs)) in
          attribute-is b bs e
          ∙ sym (ap (λ s. cond s (behind_one is_greater_than bs) (cond (is_greater_than b) (Some bs) all)) (unlike begins_attribute_name 47 refl b e)
          ∙ ap (λ s. cond s (Some bs) all) (unlike begins_attribute_name 62 refl b e))
      | false ↦ λ e.
          end-at b bs ∙ ap (ends_or (b ∷ bs)) (sym (no-attribute b bs e))
    ] refl

before-is : (t : List ℕ) → let more = behind is_tag_white t in left t before ≡ ends_or more (then_on (past_attribute more))
before-is t = run-skipped is_tag_white before before-white t ∙ before-at (behind is_tag_white t) (first-not is_tag_white t)

-- ---- what is behind something is no longer

quote-fits : (m : ℕ) (t : List ℕ) → Fits (length t) (past_quote m t)
quote-fits m t =
    let rest = behind (λ b. not (b == m)) t in
    either-fits (has_byte_at rest 0 (λ b. b == m)) (length t) (Some (drop 1 rest)) None (le_trans (drop-fits 1 rest) (drop-fits (prefix_len (λ b. not (b == m)) t) t)) tt

value-fits : (t : List ℕ) → Fits (length t) (past_value t)
value-fits t =
    let fewer = drop-fits 1 t in
    let rest = drop 1 t in
    let bare_part = cond (has_byte_at t 0 is_unquoted) (Some (behind is_unquoted t)) None in
    let single_part = cond (has_byte_at t 0 is_single_quote) (past_quote 39 rest) bare_part in
    either-fits (has_byte_at t 0 is_double_quote) (length t) (past_quote 34 rest) single_part (fits-more (past_quote 34 rest) (length rest) (length t) fewer (quote-fits 34 rest))
    (either-fits (has_byte_at t 0 is_single_quote) (length t) (past_quote 39 rest) bare_part (fits-more (past_quote 39 rest) (length rest) (length t) fewer (quote-fits 39 rest))
    (either-fits (has_byte_at t 0 is_unquoted) (length t) (Some (behind is_unquoted t)) None (drop-fits (prefix_len is_unquoted t) t) tt))

attribute-fits : (t : List ℕ) → Fits (length t) (past_attribute t)
attribute-fits t =
    let rest = behind is_attribute_name_byte t in
    let more = behind is_tag_white rest in
    let at = behind is_tag_white (drop 1 more) in
    let shorter : length at ≤ length t = le_trans (drop-fits (prefix_len is_tag_white (drop 1 more)) (drop 1 more)) (le_trans (drop-fits 1 more) (le_trans (drop-fits (prefix_len is_tag_white rest) rest) (drop-fits (prefix_len is_attribute_name_byte t) t))) in
    let with = cond (has_byte_at more 0 is_equals_sign) (past_value at) (Some rest) in
    either-fits (has_byte_at t 0 begins_attribute_name) (length t) with None
    (either-fits (has_byte_at more 0 is_equals_sign) (length t) (past_value at) (Some rest) (fits-more (past_value at) (length at) (length t) shorter (value-fits at)) (drop-fits (prefix_len is_attribute_name_byte t) t)) tt

-- what is behind the name of an opening tag
attributes-are : (n : ℕ) (t : List ℕ) → length t < n → behind_attributes n t ≡ left t after
attributes-are zero t low = absurd (omega arith)
attributes-are (suc n) [] low = refl
attributes-are (suc n) (b ∷ bs) low =
    let out = left_of (left bs) bs in
    let more = behind is_tag_white bs in
    let on : option_and_then (behind_attributes n) (past_attribute more) ≡ then_on (past_attribute more) =
    elim (past_attribute more) as (λ o. Fits (length bs) o → option_and_then (behind_attributes n) o ≡ then_on o) [
      | None ↦ λ fits. refl
      | Some rest ↦ λ fits. attributes-are n rest (omega (arith, fits, low))
    ] (fits-more (past_attribute more) (length more) (length bs) (drop-fits (prefix_len is_tag_white bs) bs) (attribute-fits more)) in
    let at = λ (l : List ℕ) (w : Bool). ends_or l (cond w (option_and_then (behind_attributes n) (past_attribute l)) None) in
    ap (λ l. at l (is_tag_white b)) (drop-run is_tag_white b bs)
    ∙ elim (is_tag_white b) as (λ w. at (cond w more (b ∷ bs)) w ≡ out (cond w (goes None before) (end_or b))) [
      | true ↦ ap (ends_or more) on ∙ sym (before-is bs)
      | false ↦ sym (end-at b bs)
    ]

-- ---- tags
tag-name-goes-on : (b : ℕ) → is_tag_name_byte b ≡ true → next tag_name b ≡ goes None tag_name
tag-name-goes-on b h = ap (λ t. cond t (goes None tag_name) (cond (is_tag_white b) (goes None before) (end_or b))) h

tag-name-at : (t : List ℕ) → has_byte_at t 0 is_tag_name_byte ≡ false → left t tag_name ≡ left t after
tag-name-at [] h = refl
tag-name-at (b ∷ bs) h = ap (λ t. left_of (left bs) bs (cond t (goes None tag_name) (cond (is_tag_white b) (goes None before) (end_or b)))) h

closing-name-goes-on : (b : ℕ) → is_tag_name_byte b ≡ true → next closing_name b ≡ goes None closing_name
closing-name-goes-on b h = ap (λ t. cond t (goes None closing_name) (cond (is_tag_white b) (goes None closing) (cond (is_greater_than b) done refused))) h

closing-name-at : (t : List ℕ) → has_byte_at t 0 is_tag_name_byte ≡ false → left t closing_name ≡ left t closing
closing-name-at [] h = refl
closing-name-at (b ∷ bs) h = ap (λ t. left_of (left bs) bs (cond t (goes None closing_name) (cond (is_tag_white b) (goes None closing) (cond (is_greater_than b) done refused)))) h

letter-is : (b : ℕ) → is_ascii_alphabetic b ≡ true → is_tag_name_byte b ≡ true
letter-is b h = grind (arith, nat_tests)

-- a tag name that begins with a letter
abbrev behind_letter : Bool → List ℕ → Option (List ℕ)
behind_letter t all = cond t (Some (behind is_tag_name_byte all)) None

opening-is : (b : ℕ) (bs : List ℕ) → behind_opening (b ∷ bs) ≡ left_of (left bs) bs (cond (is_ascii_alphabetic b) (goes None tag_name) refused)
opening-is b bs =
    let all = b ∷ bs in
    let rest = behind is_tag_name_byte all in
    let out = left_of (left bs) bs in
    elim (is_ascii_alphabetic b) as (λ t. is_ascii_alphabetic b ≡ t → option_and_then (λ rest. behind_attributes (suc (length rest)) rest) (behind_letter t all) ≡ out (cond t (goes None tag_name) refused)) [
      | true ↦ λ e.
          attributes-are (suc (length rest)) rest (omega arith) ∙ sym (tag-name-at rest (first-not is_tag_name_byte all)) ∙ sym (run-skipped is_tag_name_byte tag_name tag-name-goes-on all)
          ∙ ap out (tag-name-goes-on b (letter-is b e))
      | false ↦ λ e. refl
    ] refl

closing-tag-is : (t : List ℕ) → behind_closing t ≡ left t closed
closing-tag-is [] = refl
closing-tag-is (b ∷ bs) =
    let all = b ∷ bs in
    let rest = behind is_tag_name_byte all in
    let out = left_of (left bs) bs in
    elim (is_ascii_alphabetic b) as (λ t. is_ascii_alphabetic b ≡ t → option_and_then (λ rest. behind_one is_greater_than (behind is_tag_white rest)) (behind_letter t all) ≡ out (cond t (goes None closing_name) refused)) [
      | true ↦ λ e.
          sym (closing-is rest) ∙ sym (closing-name-at rest (first-not is_tag_name_byte all)) ∙ sym (run-skipped is_tag_name_byte closing_name closing-name-goes-on all)
          ∙ ap out (closing-name-goes-on b (letter-is b e))
      | false ↦ λ e. refl
    ] refl

-- What is behind a tag, from behind its `<` on
pub tag-is : (b : ℕ) (bs : List ℕ) → is_less_than b ≡ true → behind_tag (b ∷ bs) ≡ left bs opened
tag-is b [] h = ap (λ t. cond t None None) h
tag-is b (c ∷ cs) h =
    ap (λ t. cond t (cond (is_slash c) (behind_closing cs) (behind_opening (c ∷ cs))) None) h
    ∙ elim (c == 47) as (λ t. cond t (behind_closing cs) (behind_opening (c ∷ cs)) ≡ left_of (left cs) cs (cond t (goes None closed) (cond (is_ascii_alphabetic c) (goes None tag_name) refused))) [
      | true ↦ closing-tag-is cs
      | false ↦ opening-is c cs
    ]
