-- References and data at the front of a text, by their bytes.
use Rattle.std.proofs.Common.{◌≡◌, ◌∙◌, ◌+◌, ◌≤◌, ◌==◌, ◌&&◌, ℕ, zero, suc, List, [], ◌∷◌, Bool, true, false, cond, ap, arith, drop, length, ne_eqb, not, refl, sym, take, Some, None}
use Rattle.std.proofs.lemmas.Bool.{eqb-true, false≢true}
use Rattle.std.specs.List.{position_or_len, prefix_len}
use Rattle.mdinline_constructs.specs.Reference.{Kind, named, decimal, hexadecimal, body_at, is_number_sign, is_semicolon, is_value, is_value_byte, is_x, number_at, reference, reference_at, value_at}
use Rattle.mdinline_link_strings.specs.Laid.{BeginsReference, plain_ahead}
use Rattle.mdinline_constructs.specs.StringItems.{is_string_special}
use Rattle.mdinline_text_machine.specs.Bytes.{has_byte_at, is_ampersand}

-- a number that fails a test is none that passes it
other-number : (p : ℕ → Bool) (n b : ℕ) → p n ≡ false → p b ≡ true → (b == n) ≡ false
other-number p n b fails passes = ne_eqb b n (λ e. false≢true (sym fails ∙ ap p (sym e) ∙ passes))

-- a byte that passes a test which no special byte passes is not special
pub not-special : (p : ℕ → Bool) → p 10 ≡ false → p 92 ≡ false → p 38 ≡ false → (b : ℕ) → p b ≡ true → is_string_special b ≡ false
not-special p one two three b h =
    let x = other-number p 10 b one h in
    let y = other-number p 92 b two h in
    let z = other-number p 38 b three h in
    rw (x, y, z) refl

pub value-plain : (kind : Kind) (b : ℕ) → is_value_byte kind b ≡ true → is_string_special b ≡ false
value-plain named = not-special (is_value_byte named) refl refl refl
value-plain decimal = not-special (is_value_byte decimal) refl refl refl
value-plain hexadecimal = not-special (is_value_byte hexadecimal) refl refl refl

-- what passes one test and so fails another comes before what passes the other
pub prefix-before : (p q : ℕ → Bool) → ((b : ℕ) → p b ≡ true → q b ≡ false) → (xs : List ℕ) → prefix_len p xs ≤ position_or_len q xs
prefix-before p q h [] = omega arith
prefix-before p q h (b ∷ bs) = by (p b) refl (prefix-before p q h bs)
  where
    by : (x : Bool) → p b ≡ x → prefix_len p bs ≤ position_or_len q bs → cond x (1 + prefix_len p bs) 0 ≤ cond (not (q b)) (1 + position_or_len q bs) 0
    by true e more = let n = h b e in rw n (omega (arith, more))
    by false e more = omega arith

pub value_before : (kind : Kind) (text : List ℕ) → prefix_len (is_value_byte kind) text ≤ position_or_len is_string_special text
value_before kind text = prefix-before (is_value_byte kind) is_string_special (value-plain kind) text

-- a value is there, or not
pub value_there : (kind : Kind) (text : List ℕ) (n : ℕ) (t : Bool) → n ≡ prefix_len (is_value_byte kind) text → t ≡ (is_value kind (take n text) && has_byte_at text n is_semicolon)
    → value_at kind text ≡ cond t (Some (reference kind n)) None
value_there kind text n t e h =
    ap (λ k. cond (is_value kind (take k text) && has_byte_at text k is_semicolon) (Some (reference kind k)) None) (sym e)
    ∙ ap (λ u. cond u (Some (reference kind n)) None) (sym h)

-- a byte that the text has is before its end
pub byte-within : (text : List ℕ) (n : ℕ) (p : ℕ → Bool) → has_byte_at text n p ≡ true → suc n ≤ length text
byte-within [] n p h = absurd (false≢true h)
byte-within (b ∷ bs) zero p h = omega arith
byte-within (b ∷ bs) (suc n) p h = let more = byte-within bs n p h in omega (arith, more)

-- ---- the marks of a reference

abbrev is_hash : List ℕ → Bool
is_hash text = has_byte_at text 1 is_number_sign

at-ampersand : (a : ℕ) (rest : List ℕ) → (a == 38) ≡ true → plain_ahead (a ∷ rest) ≡ position_or_len is_string_special rest
at-ampersand a rest h = let e = eqb-true a 38 h in rw e refl

pub no_reference : (text : List ℕ) → has_byte_at text 0 is_ampersand ≡ false → reference_at text ≡ None
no_reference text h = ap (λ t. cond t (body_at (drop 1 text)) None) h

pub begins_named : (text : List ℕ) → has_byte_at text 0 is_ampersand ≡ true → is_hash text ≡ false → BeginsReference text named
begins_named [] h k = absurd (false≢true h)
begins_named (a ∷ rest) h k =
    let ahead = at-ampersand a rest h in
    record {
      is = ap (λ t. cond t (body_at rest) None) h ∙ ap (λ t. cond t (number_at (drop 1 rest)) (value_at named rest)) k;
      long = omega arith;
      ahead = omega (arith, ahead);
    }

module _ (a b : ℕ) (rest : List ℕ) (h : (a == 38) ≡ true) (k : (b == 35) ≡ true) where
  at-number : reference_at (a ∷ b ∷ rest) ≡ number_at rest
  at-number = ap (λ t. cond t (body_at (b ∷ rest)) None) h ∙ ap (λ t. cond t (number_at rest) (value_at named (b ∷ rest))) k

  number-ahead : plain_ahead (a ∷ b ∷ rest) ≡ 1 + position_or_len is_string_special rest
  number-ahead = at-ampersand a (b ∷ rest) h ∙ (let e = eqb-true b 35 k in rw e refl)

pub begins_decimal : (text : List ℕ) → has_byte_at text 0 is_ampersand ≡ true → is_hash text ≡ true → has_byte_at text 2 is_x ≡ false → BeginsReference text decimal
begins_decimal [] h k x = absurd (false≢true h)
begins_decimal (a ∷ []) h k x = absurd (false≢true k)
begins_decimal (a ∷ b ∷ rest) h k x =
    let ahead = number-ahead a b rest h k in
    record {
      is = at-number a b rest h k ∙ ap (λ t. cond t (value_at hexadecimal (drop 1 rest)) (value_at decimal rest)) x;
      long = omega arith;
      ahead = omega (arith, ahead);
    }

pub begins_hexadecimal : (text : List ℕ) → has_byte_at text 0 is_ampersand ≡ true → is_hash text ≡ true → has_byte_at text 2 is_x ≡ true → BeginsReference text hexadecimal
begins_hexadecimal [] h k x = absurd (false≢true h)
begins_hexadecimal (a ∷ []) h k x = absurd (false≢true k)
begins_hexadecimal (a ∷ b ∷ []) h k x = absurd (false≢true x)
begins_hexadecimal (a ∷ b ∷ c ∷ rest) h k x =
    let ahead = number-ahead a b (c ∷ rest) h k in
    let plain = not-special is_x refl refl refl c x in
    let more : position_or_len is_string_special (c ∷ rest) ≡ 1 + position_or_len is_string_special rest = ap (λ t. cond (not t) (1 + position_or_len is_string_special rest) 0) plain in
    record {
      is = at-number a b (c ∷ rest) h k ∙ ap (λ t. cond t (value_at hexadecimal rest) (value_at decimal (c ∷ rest))) x;
      long = omega arith;
      ahead = omega (arith, ahead, more);
    }
