-- The text of an ATX heading, as it is read: how long it is behind each byte.
use Rattle.mdblock_leaf_blocks.proofs.Prelude.{◌≡◌, ℕ, suc, ◌+◌, ◌==◌, List, [], ◌∷◌, ◌++◌, Bool, true, false, cond, take, drop, length, reverse, refl, sym, ap, ◌∙◌, append_assoc, append-nil, arith, eqb-true, prefix_len, reverse_onto, reverse-reverse, length-reverse, is_white, is_blank_line, trimmed, heading_text}

-- without the bytes at the front that pass a test
abbrev pub behind : (ℕ → Bool) → List ℕ → List ℕ
behind test t = drop (prefix_len test t) t

pub stops : (test : ℕ → Bool) (b : ℕ) (q : List ℕ) → test b ≡ false → behind test (b ∷ q) ≡ b ∷ q
stops test b q e = rw e refl

pub goes : (test : ℕ → Bool) (b : ℕ) (q : List ℕ) → test b ≡ true → behind test (b ∷ q) ≡ behind test q
goes test b q e = let one : 1 + prefix_len test q ≡ suc (prefix_len test q) = omega arith in rw (e, one) refl

abbrev pub is_sign : ℕ → Bool
is_sign b = b == 35

-- the text of a heading whose bytes come last first
abbrev pub text_back : List ℕ → List ℕ
text_back q =
    let all = behind is_white q in
    let before = behind is_sign all in
    cond (is_blank_line (take 1 before)) (behind is_white before) all

trim-back : (test : ℕ → Bool) (q : List ℕ) → trimmed test (reverse q) ≡ reverse (behind test q)
trim-back test q = ap (λ r. reverse (behind test r)) (reverse-reverse q)

cond-length : (t : Bool) (x y : List ℕ) → length (cond t (reverse x) (reverse y)) ≡ length (cond t x y)
cond-length true x y = length-reverse x
cond-length false x y = length-reverse y

abbrev text_of_trimmed : (all before : List ℕ) → ℕ
text_of_trimmed all before = length (cond (is_blank_line (take 1 (reverse before))) (trimmed is_white before) all)

pub text-length : (q : List ℕ) → length (heading_text (reverse q)) ≡ length (text_back q)
text-length q =
    let all = behind is_white q in
    let before = behind is_sign all in
    ap (λ a. text_of_trimmed a (trimmed is_sign a)) (trim-back is_white q)
    ∙ ap (text_of_trimmed (reverse all)) (trim-back is_sign all)
    ∙ ap (λ r. length (cond (is_blank_line (take 1 r)) (trimmed is_white (reverse before)) (reverse all))) (reverse-reverse before)
    ∙ ap (λ r. length (cond (is_blank_line (take 1 before)) r (reverse all))) (trim-back is_white before)
    ∙ cond-length (is_blank_line (take 1 before)) (behind is_white before) all

-- bytes, last first, before others
abbrev pub turned : List ℕ → List ℕ → List ℕ
turned [] q = q
turned (b ∷ bs) q = turned bs (b ∷ q)

turned-is : (t q : List ℕ) → turned t q ≡ reverse t ++ q
turned-is [] q = refl
turned-is (b ∷ bs) q = turned-is bs (b ∷ q) ∙ sym (append_assoc (reverse bs) (b ∷ []) q) ∙ sym (ap (λ r. r ++ q) (reverse_onto bs b []))

pub text-turned : (t : List ℕ) → length (heading_text t) ≡ length (text_back (turned t []))
text-turned t = sym (ap (λ r. length (heading_text r)) (reverse-reverse t)) ∙ text-length (reverse t) ∙ sym (ap (λ r. length (text_back r)) (turned-is t [] ∙ append-nil (reverse t)))

-- Behind these bytes, which come last first, the text has so many bytes. There may be a closing sequence with white space before it; the last
-- byte is a word's or not; and up to the last byte of a word there are so many bytes, if that is one of a closing sequence
pub record Counted (closing word : Bool) (q : List ℕ) (size saved : ℕ) : Type 0 where
  pub size_is : size ≡ length (text_back q)
  pub is_closing : is_blank_line (take 1 (behind is_sign (behind is_white q))) ≡ closing
  pub is_word : word ≡ true → behind is_white q ≡ q
  pub is_blank : word ≡ false → is_blank_line (take 1 q) ≡ true
  pub saved_is : closing ≡ true → word ≡ false → saved ≡ length (behind is_white q)

blank-one : (b : ℕ) (q : List ℕ) → is_white b ≡ true → is_blank_line (take 1 (b ∷ q)) ≡ true
blank-one b q e = rw e refl

word-one : (b : ℕ) (q : List ℕ) → is_white b ≡ false → is_blank_line (take 1 (b ∷ q)) ≡ false
word-one b q e = rw e refl

-- white space is read
pub white-read : (closing word : Bool) (b : ℕ) (q : List ℕ) (size saved more : ℕ) → is_white b ≡ true → Counted closing word q size saved → (closing ≡ true → more ≡ length (behind is_white q)) → Counted closing false (b ∷ q) size more
white-read closing word b q size saved more e h s =
    let on : behind is_white (b ∷ q) ≡ behind is_white q = goes is_white b q e in
    record {
      size_is = h.size_is ∙ sym (ap (λ all. length (cond (is_blank_line (take 1 (behind is_sign all))) (behind is_white (behind is_sign all)) all)) on);
      is_closing = ap (λ all. is_blank_line (take 1 (behind is_sign all))) on ∙ h.is_closing;
      is_word = λ no. absurd (cc);
      is_blank = λ yes. blank-one b q e;
      saved_is = λ yes no. s yes ∙ sym (ap length on);
    }

-- a byte of a word is read that is no number sign
pub other-read : (b : ℕ) (q : List ℕ) (saved : ℕ) → is_white b ≡ false → is_sign b ≡ false → Counted false true (b ∷ q) (suc (length q)) saved
other-read b q saved e n =
    let on : behind is_white (b ∷ q) ≡ b ∷ q = stops is_white b q e in
    let none : behind is_sign (b ∷ q) ≡ b ∷ q = stops is_sign b q n in
    let test : is_blank_line (take 1 (behind is_sign (behind is_white (b ∷ q)))) ≡ false = ap (λ all. is_blank_line (take 1 (behind is_sign all))) on ∙ ap (λ r. is_blank_line (take 1 r)) none ∙ word-one b q e in
    record {
      size_is = sym (ap (λ t. length (cond t (behind is_white (behind is_sign (behind is_white (b ∷ q)))) (behind is_white (b ∷ q)))) test ∙ ap length on);
      is_closing = test;
      is_word = λ yes. on;
      is_blank = λ no. absurd (cc);
      saved_is = λ no. absurd (cc);
    }

-- with a number sign before them
sign-test : (q : List ℕ) → behind is_sign (behind is_white (35 ∷ q)) ≡ behind is_sign q
sign-test q = ap (behind is_sign) (stops is_white 35 q refl) ∙ goes is_sign 35 q refl

-- what the text is, if there is a closing sequence or none
closed : (q : List ℕ) → is_blank_line (take 1 (behind is_sign (behind is_white q))) ≡ true → length (text_back q) ≡ length (behind is_white (behind is_sign (behind is_white q)))
closed q e = ap (λ t. length (cond t (behind is_white (behind is_sign (behind is_white q))) (behind is_white q))) e

unclosed : (q : List ℕ) → is_blank_line (take 1 (behind is_sign (behind is_white q))) ≡ false → length (text_back q) ≡ length (behind is_white q)
unclosed q e = ap (λ t. length (cond t (behind is_white (behind is_sign (behind is_white q))) (behind is_white q))) e

sign-closing : (closing : Bool) (q : List ℕ) (size saved : ℕ) → Counted closing true q size saved → is_blank_line (take 1 (behind is_sign (behind is_white (35 ∷ q)))) ≡ closing
sign-closing closing q size saved h =
    ap (λ r. is_blank_line (take 1 r)) (sign-test q) ∙ sym (ap (λ all. is_blank_line (take 1 (behind is_sign all))) (h.is_word refl)) ∙ h.is_closing

-- a number sign is read in a word of the text
pub sign-in-text : (q : List ℕ) (size saved more : ℕ) → Counted false true q size saved → Counted false true (35 ∷ q) (suc (length q)) more
sign-in-text q size saved more h =
    let test = sign-closing false q size saved h in
    record {
      size_is = sym (unclosed (35 ∷ q) test);
      is_closing = test;
      is_word = λ yes. refl;
      is_blank = λ no. absurd (cc);
      saved_is = λ no. absurd (cc);
    }

-- a number sign is read in a closing sequence
pub sign-in-closing : (q : List ℕ) (size saved more : ℕ) → Counted true true q size saved → Counted true true (35 ∷ q) size more
sign-in-closing q size saved more h =
    let test = sign-closing true q size saved h in
    let same : length (text_back q) ≡ length (behind is_white (behind is_sign q)) = closed q h.is_closing ∙ ap (λ all. length (behind is_white (behind is_sign all))) (h.is_word refl) in
    let grown : length (text_back (35 ∷ q)) ≡ length (behind is_white (behind is_sign q)) = closed (35 ∷ q) test ∙ ap (λ r. length (behind is_white r)) (sign-test q) in
    record {
      size_is = h.size_is ∙ same ∙ sym grown;
      is_closing = test;
      is_word = λ yes. refl;
      is_blank = λ no. absurd (cc);
      saved_is = λ yes no. absurd (cc);
    }

no-sign : (b : ℕ) → is_white b ≡ true → is_sign b ≡ false
no-sign b w = elim (b == 35) as (λ t. (b == 35) ≡ t → t ≡ false) [
  | true ↦ λ e. absurd (let no : is_white b ≡ false = ap is_white (eqb-true b 35 e) in let wrong : true ≡ false = sym w ∙ no in cc)
  | false ↦ λ e. refl
] refl

white-front : (q : List ℕ) → is_blank_line (take 1 q) ≡ true → behind is_sign q ≡ q
white-front [] h = refl
white-front (b ∷ q) h = elim (is_white b) as (λ t. is_white b ≡ t → behind is_sign (b ∷ q) ≡ b ∷ q) [
  | true ↦ λ w. stops is_sign b q (no-sign b w)
  | false ↦ λ w. absurd (let no : is_blank_line (take 1 (b ∷ q)) ≡ false = word-one b q w in let wrong : true ≡ false = sym h ∙ no in cc)
] refl

-- a number sign is read behind white space, or as the first byte
pub sign-behind-white : (closing : Bool) (q : List ℕ) (size saved more grown : ℕ) → Counted closing false q size saved → grown ≡ length (behind is_white q) → Counted true true (35 ∷ q) grown more
sign-behind-white closing q size saved more grown h e =
    let front : behind is_sign q ≡ q = white-front q (h.is_blank refl) in
    let test : is_blank_line (take 1 (behind is_sign (behind is_white (35 ∷ q)))) ≡ true = ap (λ r. is_blank_line (take 1 r)) (sign-test q ∙ front) ∙ h.is_blank refl in
    record {
      size_is = e ∙ sym (closed (35 ∷ q) test ∙ ap (λ r. length (behind is_white r)) (sign-test q ∙ front));
      is_closing = test;
      is_word = λ yes. refl;
      is_blank = λ no. absurd (cc);
      saved_is = λ yes no. absurd (cc);
    }

-- behind white space that follows the text, its size is up to there
pub text-before-white : (word : Bool) (q : List ℕ) (size saved : ℕ) → Counted false word q size saved → size ≡ length (behind is_white q)
text-before-white word q size saved h = h.size_is ∙ unclosed q h.is_closing

pub nothing-counted : (saved : ℕ) → saved ≡ 0 → Counted true false [] 0 saved
nothing-counted saved e = record { size_is = refl; is_closing = refl; is_word = λ no. absurd (cc); is_blank = λ yes. refl; saved_is = λ yes no. e }
