-- Examples of links and images among events, computed from the definition.
use Rattle.std.proofs.Common.{◌≡◌, ◌+◌, ℕ, List, [], ◌∷◌, ◌++◌, Bool, true, false, refl}
use Rattle.markdown_base.specs.declared.event.Event.{Event}
use Rattle.markdown_base.specs.declared.event.Kind.TheVariants.{Enter, Exit}
use Rattle.markdown_base.specs.declared.event.Name.{Name}
use Rattle.markdown_base.specs.declared.event.Name.TheVariants.{AttentionSequence, Data, Emphasis, EmphasisSequence, EmphasisText, Image, Label, LabelEnd, LabelImage, LabelImageMarker, LabelLink, LabelMarker, LabelText, Link, Resource}
use Rattle.markdown_base.specs.declared.event.Point.{Point}
use Rattle.mdinline_emphasis.specs.declared.pairs.Marker.TheVariants.{Asterisk}
use Rattle.mdinline_emphasis.specs.Emphasis.{Run, unlinked_event}
use Rattle.mdinline_links.specs.Linked.{emphasised_parts, linked_parts, with_links}

abbrev at : ℕ → Point
at i = record { line = 1; column = i + 1; index = i; vs = 0 }

abbrev leaf : Name → ℕ → ℕ → List Event
leaf name i j = unlinked_event Enter name (at i) ∷ unlinked_event Exit name (at j) ∷ []

abbrev span : Name → ℕ → ℕ → List Event → List Event
span name i j es = unlinked_event Enter name (at i) ∷ (es ++ unlinked_event Exit name (at j) ∷ [])

abbrev bracket : ℕ → List Event
bracket i = span LabelLink i (i + 1) (leaf LabelMarker i (i + 1))

abbrev image_bracket : ℕ → List Event
image_bracket i = span LabelImage i (i + 2) (leaf LabelImageMarker i (i + 1) ++ leaf LabelMarker (i + 1) (i + 2))

abbrev end : ℕ → List Event
end i = span LabelEnd i (i + 1) (leaf LabelMarker i (i + 1))

-- `[a](u)`, with the resource as one span
link : with_links true (91 ∷ 97 ∷ 93 ∷ 40 ∷ 117 ∷ 41 ∷ []) (bracket 0 ++ (leaf Data 1 2 ++ (end 2 ++ leaf Resource 3 6)))
    ≡ span Link 0 6 (span Label 0 3 (bracket 0 ++ (span LabelText 1 2 (leaf Data 1 2) ++ end 2)) ++ leaf Resource 3 6)
link = refl

-- `![a](u)`
image : with_links true (33 ∷ 91 ∷ 97 ∷ 93 ∷ 40 ∷ 117 ∷ 41 ∷ []) (image_bracket 0 ++ (leaf Data 2 3 ++ (end 3 ++ leaf Resource 4 7)))
    ≡ span Image 0 7 (span Label 0 4 (image_bracket 0 ++ (span LabelText 2 3 (leaf Data 2 3) ++ end 3)) ++ leaf Resource 4 7)
image = refl

-- `[](u)`: no text
empty : with_links true (91 ∷ 93 ∷ 40 ∷ 117 ∷ 41 ∷ []) (bracket 0 ++ (end 1 ++ leaf Resource 2 5)) ≡ span Link 0 5 (span Label 0 2 (bracket 0 ++ end 1) ++ leaf Resource 2 5)
empty = refl

-- `[[a]`, with `a` defined: the first bracket is data
waits : with_links true (91 ∷ 91 ∷ 97 ∷ 93 ∷ []) (bracket 0 ++ (bracket 1 ++ (leaf Data 2 3 ++ end 3))) ≡ leaf Data 0 1 ++ span Link 1 4 (span Label 1 4 (bracket 1 ++ (span LabelText 2 3 (leaf Data 2 3) ++ end 3)))
waits = refl

-- `[a]`, with no `a` defined: a `]` that makes nothing
fails : with_links true (91 ∷ 97 ∷ 93 ∷ []) (bracket 0 ++ (leaf Data 1 2 ++ leaf LabelMarker 2 3)) ≡ leaf Data 0 1 ++ (leaf Data 1 2 ++ leaf Data 2 3)
fails = refl

-- a run of one asterisk, and the events of a text with these runs
abbrev star : (index place : ℕ) → (opens closes : Bool) → Run
star index place opens closes = record { index = index; start = at place; marker = Asterisk; rest = 1; opens = opens; closes = closes; closed = []; left = 1; opened = [] }

abbrev with_links_of : List Run → List Event → List Event
with_links_of rs es = emphasised_parts (linked_parts rs es)

-- `*[a*](u)`: the run in the link pairs with none outside
apart : with_links_of (star 0 0 true false ∷ star 8 3 false true ∷ []) (leaf AttentionSequence 0 1 ++ (bracket 1 ++ (leaf Data 2 3 ++ (leaf AttentionSequence 3 4 ++ (end 4 ++ leaf Resource 5 8)))))
    ≡ leaf Data 0 1 ++ span Link 1 8 (span Label 1 5 (bracket 1 ++ (span LabelText 2 4 (leaf Data 2 3 ++ leaf Data 3 4) ++ end 4)) ++ leaf Resource 5 8)
apart = refl

-- `*[a*]`, with no `a*` defined: the runs pair over a bracket that is data
over : with_links_of (star 0 0 true false ∷ star 8 3 false true ∷ []) (leaf AttentionSequence 0 1 ++ (bracket 1 ++ (leaf Data 2 3 ++ (leaf AttentionSequence 3 4 ++ leaf LabelMarker 4 5))))
    ≡ span Emphasis 0 4 (leaf EmphasisSequence 0 1 ++ (span EmphasisText 1 3 (leaf Data 1 2 ++ leaf Data 2 3) ++ leaf EmphasisSequence 3 4)) ++ leaf Data 4 5
over = refl
