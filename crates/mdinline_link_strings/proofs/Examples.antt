-- Examples of strings, computed from the definitions.
use Rattle.std.proofs.Common.{◌≡◌, ◌+◌, ◌++◌, ℕ, List, [], ◌∷◌, refl}
use Rattle.std.specs.Prelude.{codes}
use Rattle.markdown_base.specs.declared.event.Event.{Event}
use Rattle.markdown_base.specs.declared.event.Kind.TheVariants.{Enter, Exit}
use Rattle.markdown_base.specs.declared.event.Name.{Name}
use Rattle.markdown_base.specs.declared.event.Name.TheVariants.{CharacterEscape, CharacterEscapeMarker, CharacterEscapeValue, CharacterReference, CharacterReferenceMarker, CharacterReferenceMarkerHexadecimal, CharacterReferenceMarkerNumeric, CharacterReferenceMarkerSemi, CharacterReferenceValue, Data, ResourceTitleString}
use Rattle.markdown_base.specs.declared.event.Point.{Point}
use Rattle.markdown_base.specs.Presets.{default_constructs}
use Rattle.markdown_base.specs.Virtual.{point}
use Rattle.mdinline_link_strings.specs.Laid.{bare}
use Rattle.mdinline_link_strings.specs.Strings.{line_as_string, with_strings}

abbrev at : ℕ → Point
at i = point 1 (i + 1) i 0

abbrev leaf_at : Name → (p q : Point) → List Event
leaf_at name p q = bare Enter name p ∷ bare Exit name q ∷ []

abbrev span_at : Name → (p q : Point) → List Event → List Event
span_at name p q es = bare Enter name p ∷ (es ++ bare Exit name q ∷ [])

abbrev leaf : Name → ℕ → ℕ → List Event
leaf name i j = leaf_at name (at i) (at j)

abbrev span : Name → ℕ → ℕ → List Event → List Event
span name i j es = span_at name (at i) (at j) es

abbrev line : List ℕ → ℕ → ℕ → List Event
line bytes i j = line_as_string default_constructs 4 bytes (at i) (at j)

-- `a\*b`
escaped : line (codes "a\\*b") 0 4 ≡ leaf Data 0 1 ++ (span CharacterEscape 1 3 (leaf CharacterEscapeMarker 1 2 ++ leaf CharacterEscapeValue 2 3) ++ leaf Data 3 4)
escaped = refl

-- `\a`: no escape
no_escape : line (codes "\\a") 0 2 ≡ leaf Data 0 2
no_escape = refl

-- `&#35;`
decimal : line (codes "&#35;") 0 5
    ≡ span CharacterReference 0 5 (leaf CharacterReferenceMarker 0 1 ++ (leaf CharacterReferenceMarkerNumeric 1 2 ++ (leaf CharacterReferenceValue 2 4 ++ leaf CharacterReferenceMarkerSemi 4 5)))
decimal = refl

-- `&#x1F;`
hexadecimal : line (codes "&#x1F;") 0 6
    ≡ span CharacterReference 0 6 (leaf CharacterReferenceMarker 0 1 ++ (leaf CharacterReferenceMarkerNumeric 1 2 ++ (leaf CharacterReferenceMarkerHexadecimal 2 3 ++ (leaf CharacterReferenceValue 3 5 ++ leaf CharacterReferenceMarkerSemi 5 6))))
hexadecimal = refl

-- `&#12345678;`: a number that is too long is data
too_long : line (codes "&#12345678;") 0 11 ≡ leaf Data 0 11
too_long = refl

-- only what is between the places counts: of `\*\*` the last two bytes
between : line (codes "\\*\\*") 2 4 ≡ span CharacterEscape 2 4 (leaf CharacterEscapeMarker 2 3 ++ leaf CharacterEscapeValue 3 4)
between = refl

-- a tab and `\*`, from the second column of the tab on: the escape begins at the tab stop
tab : line_as_string default_constructs 4 (codes "\t\\*") (point 1 2 0 1) (point 1 7 3 0)
    ≡ leaf_at Data (point 1 2 0 1) (point 1 5 1 0)
    ++ span_at CharacterEscape (point 1 5 1 0) (point 1 7 3 0) (leaf_at CharacterEscapeMarker (point 1 5 1 0) (point 1 6 2 0) ++ leaf_at CharacterEscapeValue (point 1 6 2 0) (point 1 7 3 0))
tab = refl

-- `\*`, as the string of a title, and as data that stands in none
in_title : with_strings default_constructs 4 (codes "\\*") (span ResourceTitleString 0 2 (leaf Data 0 2))
    ≡ span ResourceTitleString 0 2 (span CharacterEscape 0 2 (leaf CharacterEscapeMarker 0 1 ++ leaf CharacterEscapeValue 1 2))
in_title = refl

outside : with_strings default_constructs 4 (codes "\\*") (span ResourceTitleString 0 0 [] ++ leaf Data 0 2) ≡ span ResourceTitleString 0 0 [] ++ leaf Data 0 2
outside = refl
