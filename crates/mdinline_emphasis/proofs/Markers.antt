-- What is so of each marker, and of each style. One more marker, or one more style, adds its case here, and to no other proof of this crate.
use Rattle.mdinline_emphasis.proofs.Prelude.{◌≡◌, ℕ, zero, suc, ◌<◌, Bool, ◌≤◌, ◌==◌, true, false, cond, List, [], ◌∷◌, Some, refl, sym, ap, ◌∙◌, arith, inl, inr, cases_Bool, eqb-true, Name, Point, Run, have_two, markers_of, closings, openings, inner_name, outer_name, same, marker_byte, marker_from, marker_number, names_after_all, Marker, Style, OfEmphasis, OfStrong, Struck, StruckTwice, is_tilde, style_of}
use Rattle.std.proofs.lemmas.Bool.Decides.{nat_tests}
use Rattle.markdown_base.specs.Events.{is_void}
use Rattle.mdinline_emphasis.specs.Runs.{is_marker}
use Rattle.mdinline_emphasis.specs.declared.pairs.Marker.TheVariants.{Asterisk, Underscore, Tilde}

-- ---- markers

-- a marker is known by its byte
from-byte : (m : Marker) → marker_from (Some (marker_byte m)) ≡ m
from-byte Asterisk = refl
from-byte Underscore = refl
from-byte Tilde = refl

pub same-is : (m n : Marker) → same m n ≡ true → m ≡ n
same-is m n e = sym (from-byte m) ∙ ap (λ b. marker_from (Some b)) (eqb-true (marker_byte m) (marker_byte n) e) ∙ from-byte n

pub byte-from : (x : ℕ) → is_marker x ≡ true → marker_byte (marker_from (Some x)) ≡ x
byte-from x h =
    elim (cases_Bool (x == 42)) [
      | inl one ↦ ap (λ b. marker_byte (cond b Asterisk (cond (x == 126) Tilde Underscore))) one ∙ sym (eqb-true x 42 one)
      | inr none ↦
          ap (λ b. marker_byte (cond b Asterisk (cond (x == 126) Tilde Underscore))) none ∙ elim (cases_Bool (x == 126)) [
            | inl one ↦ ap (λ b. marker_byte (cond b Tilde Underscore)) one ∙ sym (eqb-true x 126 one)
            | inr no_tilde ↦ (let other : x ≡ 95 = grind (arith, nat_tests, h, none, no_tilde) in ap (λ b. marker_byte (cond b Tilde Underscore)) no_tilde ∙ sym other)
          ]
    ]

-- and by its number
abbrev marker_numbered : ℕ → Marker
marker_numbered zero = Underscore
marker_numbered (suc zero) = Asterisk
marker_numbered _ = Tilde

numbered : (m : Marker) → marker_numbered (marker_number m) ≡ m
numbered Asterisk = refl
numbered Tilde = refl
numbered Underscore = refl

pub number-is : (m n : Marker) → marker_number m ≡ marker_number n → m ≡ n
number-is m n e = sym (numbered m) ∙ ap marker_numbered e ∙ numbered n

-- ---- styles

-- a pair has markers at each end
pub takes-some : (s : Style) → 0 < markers_of s
takes-some OfEmphasis = omega arith
takes-some OfStrong = omega arith
takes-some Struck = omega arith
takes-some StruckTwice = omega arith

-- it has two only if both runs have two
style-has : (tilde both : Bool) (n : ℕ) → 0 < n → (both ≡ true → 2 ≤ n) → markers_of (cond tilde (cond both StruckTwice Struck) (cond both OfStrong OfEmphasis)) ≤ n
style-has true true n some two = two refl
style-has true false n some two = some
style-has false true n some two = two refl
style-has false false n some two = some

pub pair-has : (o r : Run) (n : ℕ) → 0 < n → (have_two o r ≡ true → 2 ≤ n) → markers_of (style_of o r) ≤ n
pair-has o r n some two = style-has (is_tilde r.marker) (have_two o r) n some two

-- its names are open between its runs, and closed behind them
pub names-between : (s : Style) (p : Point) (st : List Name)
    → (names_after_all (Some st) (openings p (s ∷ [])) ≡ Some (inner_name s ∷ outer_name s ∷ st)) × (names_after_all (Some (inner_name s ∷ outer_name s ∷ st)) (closings p (s ∷ [])) ≡ Some st)
names-between OfEmphasis p st = (refl, refl)
names-between OfStrong p st = (refl, refl)
names-between Struck p st = (refl, refl)
names-between StruckTwice p st = (refl, refl)

-- its span, and its text, are not void
pub outer-holds : (s : Style) → is_void (outer_name s) ≡ false
outer-holds OfEmphasis = refl
outer-holds OfStrong = refl
outer-holds Struck = refl
outer-holds StruckTwice = refl

pub inner-holds : (s : Style) → is_void (inner_name s) ≡ false
inner-holds OfEmphasis = refl
inner-holds OfStrong = refl
inner-holds Struck = refl
inner-holds StruckTwice = refl
