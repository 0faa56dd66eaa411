-- The tests of the classes of bytes are tests of bytes.
use Rattle.mdblock_leaf_blocks.proofs.Prelude.{◌≡◌, ℕ, zero, suc, ◌<◌, ◌≤◌, ◌==◌, ◌||◌, ◌&&◌, not, Bool, true, false, cond, Option, Some, None, refl, sym, ap, ◌∙◌, subst, nat_lt, arith, is_ascii_alphabetic, is_ascii_alphanumeric, is_ascii_digit, eqb-true, and_parts, or_from, nat_tests, is_white, FlowByte, other, flow_byte, is_line_feed, is_blank, is_sign, is_star, is_underscore, is_tick, is_tilde, is_less, is_rule, is_fence, is_letter, is_slash, is_bang, is_question, is_dash, is_opening, is_closing, is_greater, is_equals, is_double, is_single, is_quote, begins_name, is_in_name, begins_no_value, is_in_no_value, name_byte, line_feed, blank, word_byte, begins_attribute, goes_on_attribute, word-is-word, word-no-feed, unlike}
use Rattle.mdblock_leaf_rows.specs.FlowBytes.{is_underline}

-- what holds of each byte below a bound
abbrev all_below : (ℕ → Bool) → ℕ → Bool
all_below p zero = true
all_below p (suc n) = p n && all_below p n

below-has : (p : ℕ → Bool) (n : ℕ) → all_below p n ≡ true → (b : ℕ) → b < n → p b ≡ true
below-has p zero h b low = absurd (omega arith)
below-has p (suc n) h b low =
    let (here, on) = and_parts (p n) (all_below p n) h in
    elim (b == n) as (λ t. (b == n) ≡ t → p b ≡ true) [
      | true ↦ λ e. subst (λ m. p m ≡ true) (sym (eqb-true b n e)) here
      | false ↦ λ e. below-has p n on b (grind (arith, nat_tests))
    ] refl

-- a property of bytes that is tested below 128, and known from there on
pub by-table : (p : ℕ → Bool) → all_below p 128 ≡ true → ((b : ℕ) → 128 ≤ b → p b ≡ true) → (b : ℕ) → p b ≡ true
by-table p low high b = elim (nat_lt b 128) as (λ t. nat_lt b 128 ≡ t → p b ≡ true) [
  | true ↦ λ e. below-has p 128 low b (grind (arith, nat_tests))
  | false ↦ λ e. high b (grind (arith, nat_tests))
] refl

-- bytes from 128 on are of no class
not-low : (b k : ℕ) → 128 ≤ b → nat_lt k 128 ≡ true → (b == k) ≡ false
not-low b k h low = grind (arith, nat_tests)

no-letter : (b : ℕ) → 128 ≤ b → is_ascii_alphabetic b ≡ false
no-letter b h = grind (arith, nat_tests)

no-digit : (b : ℕ) → 128 ≤ b → is_ascii_digit b ≡ false
no-digit b h = grind (arith, nat_tests)

no-alphanumeric : (b : ℕ) → 128 ≤ b → is_ascii_alphanumeric b ≡ false
no-alphanumeric b h = grind (arith, nat_tests)

no-white : (b : ℕ) → 128 ≤ b → is_white b ≡ false
no-white b h = or_from (b == 32) (b == 9) (not-low b 32 h refl) (not-low b 9 h refl)

skip : {X : Type 0} (t : Bool) (x y z : X) → t ≡ false → y ≡ z → cond t x y ≡ z
skip t x y z h k = rw (h) k

high-is-other : (b : ℕ) → 128 ≤ b → flow_byte b ≡ other
high-is-other b h =
    let no : (k : ℕ) → nat_lt k 128 ≡ true → (b == k) ≡ false = λ k. not-low b k h in
    skip (b == 10) _ _ other (no 10 refl) (skip (is_white b) _ _ other (no-white b h) (skip (b == 35) _ _ other (no 35 refl) (skip (b == 42) _ _ other (no 42 refl) (skip (b == 95) _ _ other (no 95 refl)
    (skip (b == 45) _ _ other (no 45 refl) (skip (b == 61) _ _ other (no 61 refl) (skip (b == 96) _ _ other (no 96 refl) (skip (b == 126) _ _ other (no 126 refl) (skip (b == 60) _ _ other (no 60 refl)
    (skip (b == 62) _ _ other (no 62 refl) (skip (b == 47) _ _ other (no 47 refl) (skip (b == 33) _ _ other (no 33 refl) (skip (b == 63) _ _ other (no 63 refl) (skip (b == 91) _ _ other (no 91 refl)
    (skip (b == 93) _ _ other (no 93 refl) (skip (b == 34) _ _ other (no 34 refl) (skip (b == 39) _ _ other (no 39 refl) (skip (b == 58) _ _ other (no 58 refl) (skip (b == 46) _ _ other (no 46 refl)
    (skip (is_ascii_alphabetic b) _ _ other (no-letter b h) (skip (is_ascii_digit b) _ _ other (no-digit b h) refl)))))))))))))))))))))

-- a test of classes is a test of bytes
abbrev same : Bool → Bool → Bool
same true b = b
same false b = not b

same-is : (a b : Bool) → same a b ≡ true → a ≡ b
same-is true true h = refl
same-is true false h = absurd (cc)
same-is false true h = absurd (cc)
same-is false false h = refl

is-same : (a b : Bool) → a ≡ b → same a b ≡ true
is-same true b h = sym h
is-same false true h = absurd (cc)
is-same false false h = refl

tells : (test : FlowByte → Bool) (p : ℕ → Bool) → test other ≡ false → all_below (λ b. same (test (flow_byte b)) (p b)) 128 ≡ true
    → ((b : ℕ) → 128 ≤ b → p b ≡ false) → (b : ℕ) → test (flow_byte b) ≡ p b
tells test p none low high b =
    same-is (test (flow_byte b)) (p b)
    (by-table (λ b. same (test (flow_byte b)) (p b)) low (λ b h. is-same (test (flow_byte b)) (p b) (ap test (high-is-other b h) ∙ none ∙ sym (high b h))) b)

is-byte : (test : FlowByte → Bool) (k : ℕ) → test other ≡ false → nat_lt k 128 ≡ true → all_below (λ b. same (test (flow_byte b)) (b == k)) 128 ≡ true → (b : ℕ) → test (flow_byte b) ≡ (b == k)
is-byte test k none fits low = tells test (λ b. b == k) none low (λ b h. not-low b k h fits)

pub feed-is : (b : ℕ) → is_line_feed (flow_byte b) ≡ (b == 10)
feed-is = is-byte is_line_feed 10 refl refl refl

pub sign-is : (b : ℕ) → is_sign (flow_byte b) ≡ (b == 35)
sign-is = is-byte is_sign 35 refl refl refl

pub star-is : (b : ℕ) → is_star (flow_byte b) ≡ (b == 42)
star-is = is-byte is_star 42 refl refl refl

pub underscore-is : (b : ℕ) → is_underscore (flow_byte b) ≡ (b == 95)
underscore-is = is-byte is_underscore 95 refl refl refl

pub tick-is : (b : ℕ) → is_tick (flow_byte b) ≡ (b == 96)
tick-is = is-byte is_tick 96 refl refl refl

pub tilde-is : (b : ℕ) → is_tilde (flow_byte b) ≡ (b == 126)
tilde-is = is-byte is_tilde 126 refl refl refl

pub less-is : (b : ℕ) → is_less (flow_byte b) ≡ (b == 60)
less-is = is-byte is_less 60 refl refl refl

pub slash-is : (b : ℕ) → is_slash (flow_byte b) ≡ (b == 47)
slash-is = is-byte is_slash 47 refl refl refl

pub bang-is : (b : ℕ) → is_bang (flow_byte b) ≡ (b == 33)
bang-is = is-byte is_bang 33 refl refl refl

pub question-is : (b : ℕ) → is_question (flow_byte b) ≡ (b == 63)
question-is = is-byte is_question 63 refl refl refl

pub dash-is : (b : ℕ) → is_dash (flow_byte b) ≡ (b == 45)
dash-is = is-byte is_dash 45 refl refl refl

pub opening-is : (b : ℕ) → is_opening (flow_byte b) ≡ (b == 91)
opening-is = is-byte is_opening 91 refl refl refl

pub closing-is : (b : ℕ) → is_closing (flow_byte b) ≡ (b == 93)
closing-is = is-byte is_closing 93 refl refl refl

pub greater-is : (b : ℕ) → is_greater (flow_byte b) ≡ (b == 62)
greater-is = is-byte is_greater 62 refl refl refl

pub equals-is : (b : ℕ) → is_equals (flow_byte b) ≡ (b == 61)
equals-is = is-byte is_equals 61 refl refl refl

pub double-is : (b : ℕ) → is_double (flow_byte b) ≡ (b == 34)
double-is = is-byte is_double 34 refl refl refl

pub single-is : (b : ℕ) → is_single (flow_byte b) ≡ (b == 39)
single-is = is-byte is_single 39 refl refl refl

pub blank-is : (b : ℕ) → is_blank (flow_byte b) ≡ is_white b
blank-is = tells is_blank is_white refl refl no-white

-- white space is no line ending
pub no-line-feed : (b : ℕ) → (b == 10) ≡ false → is_line_feed (flow_byte b) ≡ false
no-line-feed b is =
    ap (λ f. is_line_feed (cond f line_feed (cond (is_white b) blank (word_byte b)))) is
    ∙ elim (is_white b) as (λ w. is_line_feed (cond w blank (word_byte b)) ≡ false) [ true ↦ refl | false ↦ (word-no-feed (word_byte b) (word-is-word b)).0 ]

pub white-no-feed : (b : ℕ) → is_white b ≡ true → (b == 10) ≡ false
white-no-feed b w = unlike is_white 10 refl b w

pub letter-is : (b : ℕ) → is_letter (flow_byte b) ≡ is_ascii_alphabetic b
letter-is = tells is_letter is_ascii_alphabetic refl refl no-letter

-- classes that are two bytes, or three
is-either : (test : FlowByte → Bool) (k m : ℕ) → test other ≡ false → nat_lt k 128 ≡ true → nat_lt m 128 ≡ true → all_below (λ b. same (test (flow_byte b)) ((b == k) || (b == m))) 128 ≡ true
    → (b : ℕ) → test (flow_byte b) ≡ ((b == k) || (b == m))
is-either test k m none fits fits' low = tells test (λ b. (b == k) || (b == m)) none low (λ b h. or_from (b == k) (b == m) (not-low b k h fits) (not-low b m h fits'))

pub quote-is : (b : ℕ) → is_quote (flow_byte b) ≡ ((b == 34) || (b == 39))
quote-is = is-either is_quote 34 39 refl refl refl refl

pub underline-is : (b : ℕ) → is_underline (flow_byte b) ≡ ((b == 45) || (b == 61))
underline-is = is-either is_underline 45 61 refl refl refl refl

pub fence-is : (b : ℕ) → is_fence (flow_byte b) ≡ ((b == 96) || (b == 126))
fence-is = is-either is_fence 96 126 refl refl refl refl

pub rule-is : (b : ℕ) → is_rule (flow_byte b) ≡ ((b == 42) || ((b == 95) || (b == 45)))
rule-is = tells is_rule (λ b. (b == 42) || ((b == 95) || (b == 45))) refl refl
    (λ b h. or_from (b == 42) ((b == 95) || (b == 45)) (not-low b 42 h refl) (or_from (b == 95) (b == 45) (not-low b 95 h refl) (not-low b 45 h refl)))

pub begins-is : (b : ℕ) → begins_name (flow_byte b) ≡ begins_attribute b
begins-is = tells begins_name begins_attribute refl refl
    (λ b h. or_from (is_ascii_alphabetic b) ((b == 95) || (b == 58)) (no-letter b h) (or_from (b == 95) (b == 58) (not-low b 95 h refl) (not-low b 58 h refl)))

pub goes-on-is : (b : ℕ) → is_in_name (flow_byte b) ≡ goes_on_attribute b
goes-on-is = tells is_in_name goes_on_attribute refl refl
    (λ b h. or_from (is_ascii_alphanumeric b) _ (no-alphanumeric b h) (or_from (b == 95) _ (not-low b 95 h refl) (or_from (b == 46) _ (not-low b 46 h refl) (or_from (b == 58) (b == 45) (not-low b 58 h refl) (not-low b 45 h refl)))))

-- a byte that begins the name of an attribute may also go on with it
pub begins-goes-on : (b : ℕ) → begins_attribute b ≡ true → goes_on_attribute b ≡ true
begins-goes-on b e =
    let either : (not (begins_attribute b) || goes_on_attribute b) ≡ true =
    by-table (λ b. not (begins_attribute b) || goes_on_attribute b) refl
    (λ b h. ap (λ t. not t || goes_on_attribute b) (or_from (is_ascii_alphabetic b) ((b == 95) || (b == 58)) (no-letter b h) (or_from (b == 95) (b == 58) (not-low b 95 h refl) (not-low b 58 h refl)))) b in
    sym (ap (λ t. not t || goes_on_attribute b) e) ∙ either

-- a value without quotes may not begin so, and may not go on so
abbrev pub no_value : ℕ → Bool
no_value b = (b == 60) || ((b == 61) || ((b == 62) || (b == 96)))

abbrev pub no_bare : ℕ → Bool
no_bare b = (b == 60) || ((b == 61) || ((b == 96) || ((b == 34) || (b == 39))))

pub no-value-is : (b : ℕ) → begins_no_value (flow_byte b) ≡ no_value b
no-value-is = tells begins_no_value no_value refl refl
    (λ b h. or_from (b == 60) _ (not-low b 60 h refl) (or_from (b == 61) _ (not-low b 61 h refl) (or_from (b == 62) (b == 96) (not-low b 62 h refl) (not-low b 96 h refl))))

pub no-bare-is : (b : ℕ) → is_in_no_value (flow_byte b) ≡ no_bare b
no-bare-is = tells is_in_no_value no_bare refl refl
    (λ b h. or_from (b == 60) _ (not-low b 60 h refl) (or_from (b == 61) _ (not-low b 61 h refl) (or_from (b == 96) _ (not-low b 96 h refl) (or_from (b == 34) (b == 39) (not-low b 34 h refl) (not-low b 39 h refl)))))

-- the byte of a letter or a digit
abbrev same_byte : Option ℕ → Option ℕ → Bool
same_byte None None = true
same_byte (Some n) (Some m) = n == m
same_byte _ _ = false

same-byte-is : (o p : Option ℕ) → same_byte o p ≡ true → o ≡ p
same-byte-is None None h = refl
same-byte-is (Some n) (Some m) h = ap Some (eqb-true n m h)
same-byte-is None (Some m) h = absurd (cc)
same-byte-is (Some n) None h = absurd (cc)

abbrev byte_in_name : ℕ → Option ℕ
byte_in_name b = cond (is_ascii_alphanumeric b) (Some b) None

pub name-byte-is : (b : ℕ) → name_byte (flow_byte b) ≡ cond (is_ascii_alphanumeric b) (Some b) None
name-byte-is b =
    same-byte-is (name_byte (flow_byte b)) (byte_in_name b)
    (by-table (λ b. same_byte (name_byte (flow_byte b)) (byte_in_name b)) refl
    (λ b h. ap (λ c. same_byte (name_byte c) (byte_in_name b)) (high-is-other b h) ∙ ap (λ t. same_byte None (cond t (Some b) None)) (no-alphanumeric b h)) b)
