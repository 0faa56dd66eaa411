-- The names that stand around leaf blocks, and in their texts before emphasis is made: there is no emphasis yet.
use Rattle.std.proofs.Common.{◌≡◌, Bool, true, false, not, inl, inr, subst, sym}
use Rattle.std.proofs.lemmas.Bool.{and_parts, not-true, or_cases}
use Rattle.std.specs.Prelude.{◌&&◌, ◌||◌}
use Rattle.markdown_base.specs.declared.configuration.Constructs.{Constructs}
use Rattle.markdown_base.specs.declared.event.Name.{Name}
use Rattle.markdown_base.specs.declared.event.Name.TheVariants as name
use Rattle.markdown_base.specs.Events.{same_name}
use Rattle.markdown_base.proofs.Balanced.{same_name-true}
use Rattle.mddocument_laws.specs.EmphasisSpans.{is_emphasis}
use Rattle.mddocument_laws.specs.Names.{may_be_named}
use Rattle.mddocument_laws.proofs.Inside.{inside-may, stands_around, stands_inside}

-- what holds of each name of emphasis
pub by-emphasis : (P : Name → Type 0) → P name.Emphasis → P name.Strong → P name.GfmStrikethrough → (n : Name) → is_emphasis n ≡ true → P n
by-emphasis P emphasis strong strikethrough n h = elim (or_cases (same_name n name.Emphasis) (same_name n name.Strong || same_name n name.GfmStrikethrough) h) [
  | inl a ↦ subst P (sym (same_name-true n name.Emphasis a)) emphasis
  | inr more ↦ elim (or_cases (same_name n name.Strong) (same_name n name.GfmStrikethrough) more) [
    | inl b ↦ subst P (sym (same_name-true n name.Strong b)) strong
    | inr c ↦ subst P (sym (same_name-true n name.GfmStrikethrough c)) strikethrough
  ]
]

abbrev pub stands_plain : Constructs → Name → Bool
stands_plain on n = not (is_emphasis n) && stands_inside on n

pub plain-inside : (on : Constructs) (n : Name) → stands_plain on n ≡ true → stands_inside on n ≡ true
plain-inside on n h = (and_parts (not (is_emphasis n)) (stands_inside on n) h).1

pub plain-may : (on : Constructs) (n : Name) → stands_plain on n ≡ true → may_be_named on n ≡ true
plain-may on n h = inside-may on n (plain-inside on n h)

pub plain-other : (on : Constructs) (n : Name) → stands_plain on n ≡ true → is_emphasis n ≡ false
plain-other on n h = not-true (is_emphasis n) (and_parts (not (is_emphasis n)) (stands_inside on n) h).0

-- around leaf blocks stands no character reference either
abbrev pub stands_bare : Constructs → Name → Bool
stands_bare on n = not (same_name n name.CharacterReference) && stands_plain on n

pub bare-plain : (on : Constructs) (n : Name) → stands_bare on n ≡ true → stands_plain on n ≡ true
bare-plain on n h = (and_parts (not (same_name n name.CharacterReference)) (stands_plain on n) h).1

pub bare-around : (on : Constructs) (n : Name) → stands_bare on n ≡ true → stands_around on n ≡ true
bare-around on n h =
    let parts = and_parts (not (same_name n name.CharacterReference)) (stands_plain on n) h in
    (λ j. parts.0 j && plain-inside on n parts.1 j)
