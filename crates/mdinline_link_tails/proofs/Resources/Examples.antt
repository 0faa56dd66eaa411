-- Examples of resources (CommonMark 0.31, 6.3): how many bytes they have, and their events by name.
use Rattle.mdinline_link_tails.proofs.Prelude.{◌≡◌, ℕ, List, [], ◌∷◌, Option, Some, None, refl, codes, virtual, Data, Resource, ResourceDestination, ResourceDestinationLiteral, ResourceDestinationLiteralMarker, ResourceDestinationRaw, ResourceDestinationString, ResourceMarker, ResourceTitle, ResourceTitleMarker, ResourceTitleString, LineEnding, SpaceOrTab, Found}
use Rattle.std.specs.Prelude.{map, option_map}
use Rattle.markdown_base.specs.declared.event.Event.{Event}
use Rattle.markdown_base.specs.declared.event.Name.{Name}
use Rattle.mdinline_link_tails.specs.Resource.{resource_grammar}

abbrev size_of : List ℕ → Option ℕ
size_of text = option_map (λ (r : Found). r.size) (resource_grammar.front text)

example_1 : size_of (codes "(/uri \"title\")a") ≡ Some 14
example_1 = refl

example_2 : size_of (codes "()") ≡ Some 2
example_2 = refl

example_3 : size_of (codes "(foo(and(bar)))") ≡ Some 15
example_3 = refl

example_4 : size_of (codes "(</uri>\"title\")") ≡ None
example_4 = refl

example_5 : size_of (codes "(a (b(c))") ≡ None
example_5 = refl

-- the names of the events, each where its span begins or ends, with the byte index
abbrev shown_event : Event → Name × ℕ
shown_event e = (e.name, e.point.index)

abbrev events_in : List ℕ → Option (List (Name × ℕ))
events_in text = option_map (λ (r : Found). map shown_event (r.events text (virtual 4 text))) (resource_grammar.front text)

marks-only : events_in (codes "()") ≡ Some ((Resource, 0) ∷ (ResourceMarker, 0) ∷ (ResourceMarker, 1) ∷ (ResourceMarker, 1) ∷ (ResourceMarker, 2) ∷ (Resource, 2) ∷ [])
marks-only = refl

-- a destination without marks
raw : events_in (codes "(a)")
    ≡ Some
    ((Resource, 0) ∷ (ResourceMarker, 0) ∷ (ResourceMarker, 1) ∷ (ResourceDestination, 1) ∷ (ResourceDestinationRaw, 1) ∷ (ResourceDestinationString, 1) ∷ (Data, 1) ∷ (Data, 2)
    ∷ (ResourceDestinationString, 2) ∷ (ResourceDestinationRaw, 2) ∷ (ResourceDestination, 2) ∷ (ResourceMarker, 2) ∷ (ResourceMarker, 3) ∷ (Resource, 3) ∷ [])
raw = refl

-- a destination with nothing between its marks, and a title with nothing in it
empty : events_in (codes "(<> '')")
    ≡ Some
    ((Resource, 0) ∷ (ResourceMarker, 0) ∷ (ResourceMarker, 1) ∷ (ResourceDestination, 1) ∷ (ResourceDestinationLiteral, 1) ∷ (ResourceDestinationLiteralMarker, 1)
    ∷ (ResourceDestinationLiteralMarker, 2) ∷ (ResourceDestinationLiteralMarker, 2) ∷ (ResourceDestinationLiteralMarker, 3) ∷ (ResourceDestinationLiteral, 3) ∷ (ResourceDestination, 3)
    ∷ (SpaceOrTab, 3) ∷ (SpaceOrTab, 4) ∷ (ResourceTitle, 4) ∷ (ResourceTitleMarker, 4) ∷ (ResourceTitleMarker, 5) ∷ (ResourceTitleMarker, 5) ∷ (ResourceTitleMarker, 6) ∷ (ResourceTitle, 6)
    ∷ (ResourceMarker, 6) ∷ (ResourceMarker, 7) ∷ (Resource, 7) ∷ [])
empty = refl

-- a title of two lines, of which the second begins with white space, and white space with a line ending before it
lines : events_in (codes "(<a>\n 'b\n c')")
    ≡ Some
    ((Resource, 0) ∷ (ResourceMarker, 0) ∷ (ResourceMarker, 1) ∷ (ResourceDestination, 1) ∷ (ResourceDestinationLiteral, 1) ∷ (ResourceDestinationLiteralMarker, 1)
    ∷ (ResourceDestinationLiteralMarker, 2) ∷ (ResourceDestinationString, 2) ∷ (Data, 2) ∷ (Data, 3) ∷ (ResourceDestinationString, 3) ∷ (ResourceDestinationLiteralMarker, 3)
    ∷ (ResourceDestinationLiteralMarker, 4) ∷ (ResourceDestinationLiteral, 4) ∷ (ResourceDestination, 4) ∷ (LineEnding, 4) ∷ (LineEnding, 5) ∷ (SpaceOrTab, 5) ∷ (SpaceOrTab, 6) ∷ (ResourceTitle, 6)
    ∷ (ResourceTitleMarker, 6) ∷ (ResourceTitleMarker, 7) ∷ (ResourceTitleString, 7) ∷ (Data, 7) ∷ (Data, 8) ∷ (LineEnding, 8) ∷ (LineEnding, 9) ∷ (SpaceOrTab, 9) ∷ (SpaceOrTab, 10) ∷ (Data, 10) ∷ (Data, 11) ∷ (ResourceTitleString, 11)
    ∷ (ResourceTitleMarker, 11) ∷ (ResourceTitleMarker, 12) ∷ (ResourceTitle, 12) ∷ (ResourceMarker, 12) ∷ (ResourceMarker, 13) ∷ (Resource, 13) ∷ [])
lines = refl

-- a title whose last line is white space alone
white : events_in (codes "(a '\n ')")
    ≡ Some
    ((Resource, 0) ∷ (ResourceMarker, 0) ∷ (ResourceMarker, 1) ∷ (ResourceDestination, 1) ∷ (ResourceDestinationRaw, 1) ∷ (ResourceDestinationString, 1) ∷ (Data, 1) ∷ (Data, 2)
    ∷ (ResourceDestinationString, 2) ∷ (ResourceDestinationRaw, 2) ∷ (ResourceDestination, 2) ∷ (SpaceOrTab, 2) ∷ (SpaceOrTab, 3) ∷ (ResourceTitle, 3) ∷ (ResourceTitleMarker, 3)
    ∷ (ResourceTitleMarker, 4) ∷ (ResourceTitleString, 4) ∷ (LineEnding, 4) ∷ (LineEnding, 5) ∷ (SpaceOrTab, 5) ∷ (SpaceOrTab, 6) ∷ (ResourceTitleString, 6) ∷ (ResourceTitleMarker, 6)
    ∷ (ResourceTitleMarker, 7) ∷ (ResourceTitle, 7) ∷ (ResourceMarker, 7) ∷ (ResourceMarker, 8) ∷ (Resource, 8) ∷ [])
white = refl
