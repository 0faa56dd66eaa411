-- How far a line reaches, at each class of byte, and what follows for the costs.
use Rattle.std.proofs.Common.{◌≡◌, ℕ, suc, ◌+◌, ◌-◌, ◌<◌, ◌≤◌, ◌==◌, not, List, [], ◌∷◌, Bool, true, false, cond, Some, None, length, drop, refl, sym, ap, ◌∙◌, arith, inl, inr, length-drop, add-one, subst}
use Rattle.std.specs.Char.{is_ascii_alphabetic, is_ascii_digit}
use Rattle.std.specs.Prelude.{slice_get}
use Rattle.std.proofs.lemmas.Option.{slice_get_cases}
use Rattle.markdown_base.specs.Virtual.{Seat}
use Rattle.markdown_base.proofs.Common.{drop-at}
use Rattle.markdown_tokenizer.specs.Text.{Text}
use Rattle.markdown_tokenizer.specs.Sight.{byte_of}
use Rattle.mdconstructs_tables.specs.Rows.{class_of}
use Rattle.mdconstructs_tables.specs.RowInvariant.{class_in}
use Rattle.mdconstructs_tables.specs.RowTest.{is_some}
use Rattle.mdconstructs_tables.specs.Breaks.{is_white}
use Rattle.mdblock_leaf_rows.specs.FlowBytes.{FlowByte, line_feed, blank, sign, star, underscore, dash, equals, tick, tilde, less, greater, slash, bang, question, opening, closing, double, single, colon, dot, letter, digit, other, flow_byte, html_byte, word_byte, name_byte, is_line_feed, is_blank, is_word, is_sign, is_star, is_underscore, is_dash, is_equals, is_tick, is_tilde, is_rule, is_underline, is_fence}
use Rattle.mdblock_leaf_rows.specs.FlowCosts.{line, run, run_after}

-- What holds of any bytes: a line and the run behind it are no longer than what is left
pub record AreBounded (ss : List Seat) (n : ℕ) : Type 0 where
  pub line_fits : line ss ≤ n
  pub run_fits : run ss ≤ n
  pub both_fit : line ss + run_after ss ≤ n
  pub run_is_within : run ss ≤ line ss + 1 + run_after ss

bounds-of : (feed white : Bool) (l r a n : ℕ) → l ≤ n → r ≤ n → l + a ≤ n → r ≤ l + 1 + a
    → (cond feed 0 (suc l) ≤ suc n) × (cond feed (suc r) (cond white (suc r) 0) ≤ suc n) × (cond feed 0 (suc l) + cond feed r (cond white a 0) ≤ suc n)
    × (cond feed (suc r) (cond white (suc r) 0) ≤ cond feed 0 (suc l) + 1 + cond feed r (cond white a 0))
bounds-of true white l r a n h1 h2 h3 h4 = (omega arith, omega arith, omega arith, omega arith)
bounds-of false true l r a n h1 h2 h3 h4 = (omega arith, omega arith, omega arith, omega arith)
bounds-of false false l r a n h1 h2 h3 h4 = (omega arith, omega arith, omega arith, omega arith)

bounds : (ss : List Seat) → AreBounded ss (length ss)
bounds [] = record { line_fits = omega arith; run_fits = omega arith; both_fit = omega arith; run_is_within = omega arith }
bounds (s ∷ ss) =
    let b = bounds ss in
    let (l, r, both, within) = bounds-of (s.byte == 10) (is_white s.byte) (line ss) (run ss) (run_after ss) (length ss) b.line_fits b.run_fits b.both_fit b.run_is_within in
    record { line_fits = l; run_fits = r; both_fit = both; run_is_within = within }

pub bounds-at : (text : Text) (p : ℕ) → AreBounded (drop p text.seats) (length text.seats - p)
bounds-at text p = subst (AreBounded (drop p text.seats)) (length-drop p text.seats) (bounds (drop p text.seats))

-- What is known at a place where a byte waits, by whether it is a line ending, and whether it is white
pub record Measured (feed white : Bool) (text : Text) (p : ℕ) : Type 0 where
  pub line_is : line (drop p text.seats) ≡ cond feed 0 (suc (line (drop (p + 1) text.seats)))
  pub run_is : run (drop p text.seats) ≡ cond feed (suc (run (drop (p + 1) text.seats))) (cond white (suc (run (drop (p + 1) text.seats))) 0)
  pub after_is : run_after (drop p text.seats) ≡ cond feed (run (drop (p + 1) text.seats)) (cond white (run_after (drop (p + 1) text.seats)) 0)

-- Bytes and their classes
either-word : (t : Bool) (x y : FlowByte) → is_word x ≡ true → is_word y ≡ true → is_word (cond t x y) ≡ true
either-word true x y h k = h
either-word false x y h k = k

html-is-word : (b : ℕ) → is_word (html_byte b) ≡ true
html-is-word b =
    either-word (b == 60) _ _ refl (either-word (b == 62) _ _ refl (either-word (b == 47) _ _ refl (either-word (b == 33) _ _ refl (either-word (b == 63) _ _ refl
    (either-word (b == 91) _ _ refl (either-word (b == 93) _ _ refl (either-word (b == 34) _ _ refl (either-word (b == 39) _ _ refl (either-word (b == 58) _ _ refl
    (either-word (b == 46) _ _ refl (either-word (is_ascii_alphabetic b) _ _ refl (either-word (is_ascii_digit b) _ _ refl refl))))))))))))

pub word-is-word : (b : ℕ) → is_word (word_byte b) ≡ true
word-is-word b =
    either-word (b == 35) _ _ refl (either-word (b == 42) _ _ refl (either-word (b == 95) _ _ refl (either-word (b == 45) _ _ refl
    (either-word (b == 61) _ _ refl (either-word (b == 96) _ _ refl (either-word (b == 126) _ _ refl (html-is-word b)))))))

-- no such byte is a line ending, or white space
pub word-no-feed : (x : FlowByte) → is_word x ≡ true → (is_line_feed x ≡ false) × (is_blank x ≡ false)
word-no-feed line_feed h = absurd (cc)
word-no-feed blank h = absurd (cc)
word-no-feed sign h = (refl, refl)
word-no-feed star h = (refl, refl)
word-no-feed underscore h = (refl, refl)
word-no-feed dash h = (refl, refl)
word-no-feed equals h = (refl, refl)
word-no-feed tick h = (refl, refl)
word-no-feed tilde h = (refl, refl)
word-no-feed less h = (refl, refl)
word-no-feed greater h = (refl, refl)
word-no-feed slash h = (refl, refl)
word-no-feed bang h = (refl, refl)
word-no-feed question h = (refl, refl)
word-no-feed opening h = (refl, refl)
word-no-feed closing h = (refl, refl)
word-no-feed double h = (refl, refl)
word-no-feed single h = (refl, refl)
word-no-feed colon h = (refl, refl)
word-no-feed dot h = (refl, refl)
word-no-feed (letter byte) h = (refl, refl)
word-no-feed (digit byte) h = (refl, refl)
word-no-feed other h = (refl, refl)

-- the tests of a class say whether the byte is a line ending, white space, or another
abbrev AreTests : (feed white : Bool) → FlowByte → Type 0
AreTests feed white w = (is_line_feed w ≡ feed) × (is_blank w ≡ cond feed false white) × (is_word w ≡ cond feed false (not white))

are-tests : (feed white : Bool) (x : FlowByte) → is_word x ≡ true → AreTests feed white (cond feed line_feed (cond white blank x))
are-tests true white x h = (refl, refl, refl)
are-tests false true x h = (refl, refl, refl)
are-tests false false x h = let (feed, white) = word-no-feed x h in (feed, white, h)

measured-at : (text : Text) (p : ℕ) (s : Seat) → slice_get text.seats p ≡ Some s → Measured (s.byte == 10) (is_white s.byte) text p
measured-at text p s h = record {
  line_is = rw (add-one, drop-at text.seats p s h) refl;
  run_is = rw (add-one, drop-at text.seats p s h) refl;
  after_is = rw (add-one, drop-at text.seats p s h) refl;
}

-- What is known at a byte of a class
pub record IsMeasured (w : FlowByte) (text : Text) (p : ℕ) : Type 0 where
  pub here : AreBounded (drop p text.seats) (length text.seats - p)
  pub later : AreBounded (drop (p + 1) text.seats) (length text.seats - (p + 1))
  pub left : p < length text.seats
  pub feed : Bool
  pub white : Bool
  pub tests : AreTests feed white w
  pub is : Measured feed white text p

pub measured : (text : Text) (p : ℕ) (w : FlowByte) → p < length text.seats → class_in flow_byte text p ≡ Some w → IsMeasured w text p
measured text p w left h = elim (slice_get_cases text.seats p).1 [
  | inl there ↦
      let same : Some (flow_byte there.0.byte) ≡ Some w = sym (ap (λ o. class_of flow_byte (byte_of o)) there.2) ∙ h in
      let class : flow_byte there.0.byte ≡ w = cc in
      record {
        here = bounds-at text p;
        later = bounds-at text (p + 1);
        left = left;
        feed = there.0.byte == 10;
        white = is_white there.0.byte;
        tests = subst (AreTests (there.0.byte == 10) (is_white there.0.byte)) class (are-tests (there.0.byte == 10) (is_white there.0.byte) (word_byte there.0.byte) (word-is-word there.0.byte));
        is = measured-at text p there.0 there.2;
      }
  | inr past ↦ let none : None ≡ Some w = sym (ap (λ o. class_of flow_byte (byte_of o)) past.1) ∙ h in absurd (cc)
]

-- at a line ending, whether it is white does not matter
feeds : (white : Bool) (text : Text) (p : ℕ) → Measured true white text p → Measured true true text p
feeds white text p m = record { line_is = m.line_is; run_is = m.run_is; after_is = m.after_is }

-- at a line ending, at white space, and at another byte
pub at-feed : (text : Text) (p : ℕ) (w : FlowByte) → IsMeasured w text p → is_line_feed w ≡ true → Measured true true text p
at-feed text p w m is = feeds m.white text p (subst (λ f. Measured f m.white text p) (sym m.tests.0 ∙ is) m.is)

white-parts : (feed white : Bool) → cond feed false white ≡ true → (feed ≡ false) × (white ≡ true)
white-parts true white h = absurd (cc)
white-parts false true h = (refl, refl)
white-parts false false h = absurd (cc)

word-parts : (feed white : Bool) → cond feed false (not white) ≡ true → (feed ≡ false) × (white ≡ false)
word-parts true white h = absurd (cc)
word-parts false true h = absurd (cc)
word-parts false false h = (refl, refl)

pub at-blank : (text : Text) (p : ℕ) (w : FlowByte) → IsMeasured w text p → is_blank w ≡ true → Measured false true text p
at-blank text p w m is =
    let (feed, white) = white-parts m.feed m.white (sym m.tests.1 ∙ is) in
    subst (λ f. Measured f true text p) feed (subst (λ t. Measured m.feed t text p) white m.is)

pub at-word : (text : Text) (p : ℕ) (w : FlowByte) → IsMeasured w text p → is_word w ≡ true → Measured false false text p
at-word text p w m is =
    let (feed, white) = word-parts m.feed m.white (sym m.tests.2 ∙ is) in
    subst (λ f. Measured f false text p) feed (subst (λ t. Measured m.feed t text p) white m.is)

-- the same, once line endings and white space are set apart
pub at-other : (text : Text) (p : ℕ) (w : FlowByte) → IsMeasured w text p → is_line_feed w ≡ false → is_blank w ≡ false → Measured false false text p
at-other text p w m feed white =
    let no_feed : m.feed ≡ false = sym m.tests.0 ∙ feed in
    let no_white : m.white ≡ false = sym (ap (λ f. cond f false m.white) no_feed) ∙ sym m.tests.1 ∙ white in
    subst (λ f. Measured f false text p) no_feed (subst (λ t. Measured m.feed t text p) no_white m.is)

-- What is known at any byte of a line
pub record InLine (text : Text) (p : ℕ) : Type 0 where
  pub line_is : line (drop p text.seats) ≡ suc (line (drop (p + 1) text.seats))
  pub run_is : run (drop p text.seats) ≤ suc (run (drop (p + 1) text.seats))
  pub after_is : run_after (drop p text.seats) ≤ run_after (drop (p + 1) text.seats)

in-line : (white : Bool) (text : Text) (p : ℕ) → Measured false white text p → InLine text p
in-line true text p m = record { line_is = m.line_is; run_is = omega (arith, m.run_is); after_is = omega (arith, m.after_is) }
in-line false text p m = record { line_is = m.line_is; run_is = omega (arith, m.run_is); after_is = omega (arith, m.after_is) }

pub at-in-line : (text : Text) (p : ℕ) (w : FlowByte) → IsMeasured w text p → is_line_feed w ≡ false → InLine text p
at-in-line text p w m feed = in-line m.white text p (subst (λ f. Measured f m.white text p) (sym m.tests.0 ∙ feed) m.is)

-- a test that no line ending and no white space passes is passed by other bytes alone
pub word-of : (test : FlowByte → Bool) → test line_feed ≡ false → test blank ≡ false → (w : FlowByte) → test w ≡ true → is_word w ≡ true
word-of test feed white line_feed h = absurd (let e : true ≡ false = sym h ∙ feed in cc)
word-of test feed white blank h = absurd (let e : true ≡ false = sym h ∙ white in cc)
word-of test feed white sign h = refl
word-of test feed white star h = refl
word-of test feed white underscore h = refl
word-of test feed white dash h = refl
word-of test feed white equals h = refl
word-of test feed white tick h = refl
word-of test feed white tilde h = refl
word-of test feed white less h = refl
word-of test feed white greater h = refl
word-of test feed white slash h = refl
word-of test feed white bang h = refl
word-of test feed white question h = refl
word-of test feed white opening h = refl
word-of test feed white closing h = refl
word-of test feed white double h = refl
word-of test feed white single h = refl
word-of test feed white colon h = refl
word-of test feed white dot h = refl
word-of test feed white (letter byte) h = refl
word-of test feed white (digit byte) h = refl
word-of test feed white other h = refl

-- the marks and number signs are such tests
pub rule-word : (w : FlowByte) → is_rule w ≡ true → is_word w ≡ true
rule-word = word-of is_rule refl refl

pub sign-word : (w : FlowByte) → is_sign w ≡ true → is_word w ≡ true
sign-word = word-of is_sign refl refl

pub star-word : (w : FlowByte) → is_star w ≡ true → is_word w ≡ true
star-word = word-of is_star refl refl

pub underscore-word : (w : FlowByte) → is_underscore w ≡ true → is_word w ≡ true
underscore-word = word-of is_underscore refl refl

pub dash-word : (w : FlowByte) → is_dash w ≡ true → is_word w ≡ true
dash-word = word-of is_dash refl refl

pub equals-word : (w : FlowByte) → is_equals w ≡ true → is_word w ≡ true
equals-word = word-of is_equals refl refl

pub tick-word : (w : FlowByte) → is_tick w ≡ true → is_word w ≡ true
tick-word = word-of is_tick refl refl

pub tilde-word : (w : FlowByte) → is_tilde w ≡ true → is_word w ≡ true
tilde-word = word-of is_tilde refl refl

pub underline-word : (w : FlowByte) → is_underline w ≡ true → is_word w ≡ true
underline-word = word-of is_underline refl refl

pub fence-word : (w : FlowByte) → is_fence w ≡ true → is_word w ≡ true
fence-word = word-of is_fence refl refl

-- and so is that of letters and digits
pub name-word : (w : FlowByte) (byte : ℕ) → name_byte w ≡ Some byte → is_word w ≡ true
name-word w byte is = word-of (λ w. is_some (name_byte w)) refl refl w (ap is_some is)
