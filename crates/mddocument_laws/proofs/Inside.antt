-- The names that stand around leaf blocks and in their texts: those that a document may have, but for those that tell of headings.
use Rattle.mddocument_laws.proofs.Prelude.{◌≡◌, Bool, true, false, not, and_parts, not-true, ◌&&◌, ◌||◌, Constructs, Name, same_name, may_be_named}
use Rattle.markdown_base.specs.declared.event.Name.TheVariants as name

-- the names of headings, and of the sequences that tell their ranks
abbrev pub is_of_heading : Name → Bool
is_of_heading n = same_name n name.HeadingAtx || (same_name n name.HeadingSetext || (same_name n name.HeadingAtxSequence || same_name n name.HeadingSetextUnderlineSequence))

-- a document may have the name, and it is none of these
abbrev pub stands_inside : Constructs → Name → Bool
stands_inside on n = not (is_of_heading n) && may_be_named on n

abbrev pub StandsInside : Constructs → Name → Type 0
StandsInside on n = stands_inside on n ≡ true

pub inside-may : (on : Constructs) (n : Name) → stands_inside on n ≡ true → may_be_named on n ≡ true
inside-may on n h = (and_parts (not (is_of_heading n)) (may_be_named on n) h).1

pub inside-other : (on : Constructs) (n : Name) → stands_inside on n ≡ true → is_of_heading n ≡ false
inside-other on n h = not-true (is_of_heading n) (and_parts (not (is_of_heading n)) (may_be_named on n) h).0

-- around leaf blocks stands no character reference either
abbrev pub stands_around : Constructs → Name → Bool
stands_around on n = not (same_name n name.CharacterReference) && stands_inside on n

abbrev pub StandsAround : Constructs → Name → Type 0
StandsAround on n = stands_around on n ≡ true

pub around-inside : (on : Constructs) (n : Name) → stands_around on n ≡ true → stands_inside on n ≡ true
around-inside on n h = (and_parts (not (same_name n name.CharacterReference)) (stands_inside on n) h).1

pub around-other : (on : Constructs) (n : Name) → stands_around on n ≡ true → same_name n name.CharacterReference ≡ false
around-other on n h = not-true (same_name n name.CharacterReference) (and_parts (not (same_name n name.CharacterReference)) (stands_inside on n) h).0
