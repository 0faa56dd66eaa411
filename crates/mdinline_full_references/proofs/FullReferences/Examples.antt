-- Examples of full references (CommonMark 0.31, 6.3): how many bytes their labels have, which are taken, and their events by name.
use Rattle.std.proofs.Common.{◌≡◌, ℕ, List, [], ◌∷◌, ◌++◌, Bool, true, false, Option, Some, None, refl}
use Rattle.std.specs.Prelude.{codes, map, option_map, replicate}
use Rattle.markdown_base.specs.declared.event.Event.{Event}
use Rattle.markdown_base.specs.declared.event.Name.{Name}
use Rattle.markdown_base.specs.declared.event.Name.TheVariants.{Data, LineEnding, Reference, ReferenceMarker, ReferenceString, SpaceOrTab}
use Rattle.markdown_base.specs.Virtual.{virtual}
use Rattle.mdinline_text_machine.specs.Construct.{Found}
use Rattle.mdinline_full_references.specs.FullReference.{full_reference_grammar, label_length}

-- any label is wanted
abbrev any : List ℕ → Bool
any label = true

abbrev size_of : List ℕ → Option ℕ
size_of text = option_map (λ (r : Found). r.size) ((full_reference_grammar any).front text)

a-reference : size_of (codes "[bar]") ≡ Some 5
a-reference = refl

-- one that is not wanted is a label all the same
not-wanted : (full_reference_grammar (λ label. false)).front (codes "[bar]") ≡ None
not-wanted = refl

a-label : label_length (codes "[bar]") ≡ Some 3
a-label = refl

-- brackets behind backslashes
escaped : size_of (codes "[ref\\[]") ≡ Some 7
escaped = refl

-- others
bracket : label_length (codes "[ref[]") ≡ None
bracket = refl

-- nothing in it, or white space alone
empty : label_length (codes "[]") ≡ None
empty = refl

white : label_length (codes "[\n ]") ≡ None
white = refl

-- white space may not come before it
apart : label_length (codes " [bar]") ≡ None
apart = refl

blank-line : label_length (codes "[a\n \nb]") ≡ None
blank-line = refl

-- as many characters as there may be, and one more
most : label_length (91 ∷ (replicate 999 97 ++ 93 ∷ [])) ≡ Some 999
most = refl

too-many : label_length (91 ∷ (replicate 1000 97 ++ 93 ∷ [])) ≡ None
too-many = refl

-- the names of the events, each where its span begins or ends, with the byte index
abbrev shown_event : Event → Name × ℕ
shown_event e = (e.name, e.point.index)

abbrev events_in : List ℕ → Option (List (Name × ℕ))
events_in text = option_map (λ (r : Found). map shown_event (r.events text (virtual 4 text))) ((full_reference_grammar any).front text)

one-line : events_in (codes "[a]")
    ≡ Some
    ((Reference, 0) ∷ (ReferenceMarker, 0) ∷ (ReferenceMarker, 1) ∷ (ReferenceString, 1) ∷ (Data, 1) ∷ (Data, 2) ∷ (ReferenceString, 2) ∷ (ReferenceMarker, 2) ∷ (ReferenceMarker, 3)
    ∷ (Reference, 3) ∷ [])
one-line = refl

-- a line ending stands between lines, and a further line may begin with white space
lines : events_in (codes "[\na\n b]")
    ≡ Some
    ((Reference, 0) ∷ (ReferenceMarker, 0) ∷ (ReferenceMarker, 1) ∷ (ReferenceString, 1) ∷ (LineEnding, 1) ∷ (LineEnding, 2) ∷ (Data, 2) ∷ (Data, 3) ∷ (LineEnding, 3) ∷ (LineEnding, 4)
    ∷ (SpaceOrTab, 4) ∷ (SpaceOrTab, 5) ∷ (Data, 5) ∷ (Data, 6) ∷ (ReferenceString, 6) ∷ (ReferenceMarker, 6) ∷ (ReferenceMarker, 7) ∷ (Reference, 7) ∷ [])
lines = refl

-- the last line may be white space alone
last-white : events_in (codes "[a\n ]")
    ≡ Some
    ((Reference, 0) ∷ (ReferenceMarker, 0) ∷ (ReferenceMarker, 1) ∷ (ReferenceString, 1) ∷ (Data, 1) ∷ (Data, 2) ∷ (LineEnding, 2) ∷ (LineEnding, 3) ∷ (SpaceOrTab, 3) ∷ (SpaceOrTab, 4)
    ∷ (ReferenceString, 4) ∷ (ReferenceMarker, 4) ∷ (ReferenceMarker, 5) ∷ (Reference, 5) ∷ [])
last-white = refl
