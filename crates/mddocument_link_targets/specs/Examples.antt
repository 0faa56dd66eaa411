-- What links, images and definitions of some documents say, with their events.
use Rattle.std.specs.Prelude.{ℕ, ◌+◌, ◌-◌, List, [], ◌∷◌, ◌++◌, Option, None, Some, codes, map, option_and_then}
use Rattle.markdown_base.specs.declared.event.Event.{Event}
use Rattle.markdown_base.specs.declared.event.Kind.{Kind}
use Rattle.markdown_base.specs.declared.event.Kind.TheVariants.{Enter, Exit}
use Rattle.markdown_base.specs.declared.event.Name.{Name}
use Rattle.markdown_base.specs.declared.event.Name.TheVariants.{BlockQuoteMarker, BlockQuotePrefix, CharacterEscape, CharacterEscapeMarker, CharacterEscapeValue, CharacterReference, CharacterReferenceMarker, CharacterReferenceMarkerHexadecimal, CharacterReferenceMarkerNumeric, CharacterReferenceMarkerSemi, CharacterReferenceValue, Data, Definition, DefinitionDestination, DefinitionDestinationRaw, DefinitionDestinationString, DefinitionLabel, DefinitionLabelMarker, DefinitionLabelString, DefinitionMarker, DefinitionTitle, DefinitionTitleMarker, DefinitionTitleString, Emphasis, EmphasisSequence, EmphasisText, Image, Label, LabelEnd, LabelImage, LabelImageMarker, LabelLink, LabelMarker, LabelText, LineEnding, Link, Reference, ReferenceMarker, ReferenceString, Resource, ResourceDestination, ResourceDestinationLiteral, ResourceDestinationLiteralMarker, ResourceDestinationRaw, ResourceDestinationString, ResourceMarker, ResourceTitle, ResourceTitleMarker, ResourceTitleString, SpaceOrTab}
use Rattle.mddocument_link_targets.specs.declared.targets.Parts.{Parts}
use Rattle.mddocument_link_targets.specs.declared.targets.Target.{Target}
use Rattle.mddocument_link_targets.specs.declared.targets.Target.TheVariants as target
use Rattle.mddocument_link_targets.specs.Targets.{definition_of, parts_of, target_of}

-- ---- events, by the indices of bytes

abbrev pub event : Kind → Name → ℕ → Event
event kind name i = record { kind = kind; name = name; point = record { line = 1; column = i + 1; index = i; vs = 0 }; link = None }

abbrev pub leaf : Name → (from to : ℕ) → List Event
leaf name i j = event Enter name i ∷ event Exit name j ∷ []

abbrev pub span : Name → (from to : ℕ) → List Event → List Event
span name i j es = event Enter name i ∷ (es ++ event Exit name j ∷ [])

-- `[`, `![` and `]`
abbrev pub bracket : ℕ → List Event
bracket i = span LabelLink i (i + 1) (leaf LabelMarker i (i + 1))

abbrev pub image_bracket : ℕ → List Event
image_bracket i = span LabelImage i (i + 2) (leaf LabelImageMarker i (i + 1) ++ leaf LabelMarker (i + 1) (i + 2))

-- the label of a link, and of an image, around a text
abbrev pub link_label : (from to : ℕ) → List Event → List Event
link_label i j es = span Label i j (bracket i ++ (span LabelText (i + 1) (j - 1) es ++ span LabelEnd (j - 1) j (leaf LabelMarker (j - 1) j)))

abbrev pub image_label : (from to : ℕ) → List Event → List Event
image_label i j es = span Label i j (image_bracket i ++ (span LabelText (i + 2) (j - 1) es ++ span LabelEnd (j - 1) j (leaf LabelMarker (j - 1) j)))

-- a span between two marks of a byte each
abbrev pub in_marks : (name mark : Name) → (from to : ℕ) → List Event → List Event
in_marks name mark i j es = span name i j (leaf mark i (i + 1) ++ (es ++ leaf mark (j - 1) j))

abbrev pub raw : (from to : ℕ) → List Event → List Event
raw i j es = span ResourceDestination i j (span ResourceDestinationRaw i j (span ResourceDestinationString i j es))

abbrev pub title : (from to : ℕ) → List Event → List Event
title i j es = in_marks ResourceTitle ResourceTitleMarker i j (span ResourceTitleString (i + 1) (j - 1) es)

abbrev pub escape : ℕ → List Event
escape i = span CharacterEscape i (i + 2) (leaf CharacterEscapeMarker i (i + 1) ++ leaf CharacterEscapeValue (i + 1) (i + 2))

-- `&name;`, `&#number;` and `&#xnumber;`
abbrev pub named_reference : (from to : ℕ) → List Event
named_reference i j =
    span CharacterReference i j (leaf CharacterReferenceMarker i (i + 1) ++ (leaf CharacterReferenceValue (i + 1) (j - 1) ++ leaf CharacterReferenceMarkerSemi (j - 1) j))

abbrev pub decimal_reference : (from to : ℕ) → List Event
decimal_reference i j =
    span CharacterReference i j
    (leaf CharacterReferenceMarker i (i + 1)
    ++ (leaf CharacterReferenceMarkerNumeric (i + 1) (i + 2) ++ (leaf CharacterReferenceValue (i + 2) (j - 1) ++ leaf CharacterReferenceMarkerSemi (j - 1) j)))

abbrev pub hexadecimal_reference : (from to : ℕ) → List Event
hexadecimal_reference i j =
    span CharacterReference i j
    (leaf CharacterReferenceMarker i (i + 1)
    ++ (leaf CharacterReferenceMarkerNumeric (i + 1) (i + 2)
    ++ (leaf CharacterReferenceMarkerHexadecimal (i + 2) (i + 3) ++ (leaf CharacterReferenceValue (i + 3) (j - 1) ++ leaf CharacterReferenceMarkerSemi (j - 1) j))))

-- ---- links and images

-- A document, its events, the index of an enter among them, and what the link leads to that is entered there
pub record LinkExample : Type 0 where
  pub document : List ℕ
  pub events : List Event
  pub at : ℕ
  pub target : Option Target

abbrev pub targets : List LinkExample → List (Option Target)
targets links = map (λ l. target_of l.document l.events l.at) links

abbrev pub told_targets : List LinkExample → List (Option Target)
told_targets links = map (λ l. l.target) links

abbrev pub parts : (destination : List ℕ) → (title : Option (List ℕ)) → Option Target
parts destination title = Some (target.Parts (record { destination = destination; title = title }))

abbrev pub label : List ℕ → Option Target
label text = Some (target.Label text)

-- an image in the text of a link: the link's resource is the one behind its label
abbrev pub image_in_link : List Event
image_in_link =
    span Link 0 12
    (link_label 0 9 (span Image 1 8 (image_label 1 5 (leaf Data 3 4) ++ in_marks Resource ResourceMarker 5 8 (raw 6 7 (leaf Data 6 7))))
    ++ in_marks Resource ResourceMarker 9 12 (raw 10 11 (leaf Data 10 11)))

-- inline links and images: what their resources say
abbrev pub inline_links : List LinkExample
inline_links =
    record {
      document = codes "[a](/u \"t\")";
      events =
          span Link 0 11 (link_label 0 3 (leaf Data 1 2) ++ in_marks Resource ResourceMarker 3 11 (raw 4 6 (leaf Data 4 6) ++ (leaf SpaceOrTab 6 7 ++ title 7 10 (leaf Data 8 9))));
      at = 0;
      target = parts (codes "/u") (Some (codes "t"));
    } ∷
    record {
      document = codes "![a](<b c>)";
      events =
          span Image 0 11
          (image_label 0 4 (leaf Data 2 3)
          ++ in_marks Resource ResourceMarker 4 11
          (span ResourceDestination 5 10 (in_marks ResourceDestinationLiteral ResourceDestinationLiteralMarker 5 10 (span ResourceDestinationString 6 9 (leaf Data 6 9)))));
      at = 0;
      target = parts (codes "b c") None;
    } ∷
    record {
      document = codes "[a]()";
      events = span Link 0 5 (link_label 0 3 (leaf Data 1 2) ++ in_marks Resource ResourceMarker 3 5 []);
      at = 0;
      target = parts [] None;
    } ∷
    record { document = codes "[![a](u)](v)"; events = image_in_link; at = 0; target = parts (codes "v") None } ∷
    record { document = codes "[![a](u)](v)"; events = image_in_link; at = 7; target = parts (codes "u") None } ∷
    record { document = codes "[![a](u)](v)"; events = image_in_link; at = 8; target = None } ∷
    []

-- references: the labels that they are looked up by. An escape stands for itself, and the prefix of a line is no part of a label
abbrev pub references : List LinkExample
references =
    record {
      document = codes "[a][ B  c]";
      events = span Link 0 10 (link_label 0 3 (leaf Data 1 2) ++ in_marks Reference ReferenceMarker 3 10 (span ReferenceString 4 9 (leaf Data 4 9)));
      at = 0;
      target = label (codes "B C");
    } ∷
    record {
      document = codes "![a][]";
      events = span Image 0 6 (image_label 0 4 (leaf Data 2 3) ++ in_marks Reference ReferenceMarker 4 6 []);
      at = 0;
      target = label (codes "A");
    } ∷
    record {
      document = codes "[*a* \\!]";
      events =
          span Link 0 8
          (link_label 0 8
          (span Emphasis 1 4 (leaf EmphasisSequence 1 2 ++ (span EmphasisText 2 3 (leaf Data 2 3) ++ leaf EmphasisSequence 3 4)) ++ (leaf Data 4 5 ++ escape 5)));
      at = 0;
      target = label (codes "*A* \\!");
    } ∷
    record {
      document = codes "> [a\n> b]";
      events =
          span Link 2 9 (link_label 2 9 (leaf Data 3 4 ++ (leaf LineEnding 4 5 ++ (span BlockQuotePrefix 5 7 (leaf BlockQuoteMarker 5 6 ++ leaf SpaceOrTab 6 7) ++ leaf Data 7 8))));
      at = 0;
      target = label (codes "A B");
    } ∷
    []

-- destinations and titles with escapes and references, and a title over two lines, of which the second begins with white space
abbrev pub decoded_strings : List LinkExample
decoded_strings =
    record {
      document = codes "[a](/\\)&amp;&#35; '&#x22;&auml;')";
      events =
          span Link 0 33
          (link_label 0 3 (leaf Data 1 2)
          ++ in_marks Resource ResourceMarker 3 33
          (raw 4 17 (leaf Data 4 5 ++ (escape 5 ++ (named_reference 7 12 ++ decimal_reference 12 17)))
          ++ (leaf SpaceOrTab 17 18 ++ title 18 32 (hexadecimal_reference 19 25 ++ named_reference 25 31))));
      at = 0;
      target = parts (codes "/)&#") (Some (34 ∷ 195 ∷ 164 ∷ []));
    } ∷
    record {
      document = codes "[a](u 't" ++ 13 ∷ 10 ∷ codes "  v')";
      events =
          span Link 0 15
          (link_label 0 3 (leaf Data 1 2)
          ++ in_marks Resource ResourceMarker 3 15 (raw 4 5 (leaf Data 4 5) ++ (leaf SpaceOrTab 5 6 ++ title 6 14 (leaf Data 7 8 ++ (leaf LineEnding 8 10 ++ (leaf SpaceOrTab 10 12 ++ leaf Data 12 13))))));
      at = 0;
      target = parts (codes "u") (Some (codes "t\nv"));
    } ∷
    []

-- ---- definitions

-- A document, its events, a label, the index at which it is defined, and what is said there
pub record DefinitionExample : Type 0 where
  pub document : List ℕ
  pub events : List Event
  pub label : List ℕ
  pub at : Option ℕ
  pub parts : Option Parts

abbrev pub read_of : DefinitionExample → DefinitionExample
read_of e =
    let at = definition_of e.document e.events e.label in
    record e { at = at; parts = option_and_then (λ i. parts_of e.document e.events i) at }

abbrev pub defined_label : (from to : ℕ) → List Event
defined_label i j = in_marks DefinitionLabel DefinitionLabelMarker i j (span DefinitionLabelString (i + 1) (j - 1) (leaf Data (i + 1) (j - 1)))

abbrev pub defined_raw : (from to : ℕ) → List Event
defined_raw i j = span DefinitionDestination i j (span DefinitionDestinationRaw i j (span DefinitionDestinationString i j (leaf Data i j)))

-- a title, and white space in front of it
abbrev pub defined_title : (from to : ℕ) → List Event → List Event
defined_title i j es = leaf SpaceOrTab (i - 1) i ++ in_marks DefinitionTitle DefinitionTitleMarker i j (span DefinitionTitleString (i + 1) (j - 1) es)

abbrev pub two_definitions : List Event
two_definitions =
    span Definition 0 7 (defined_label 0 3 ++ (leaf DefinitionMarker 3 4 ++ (leaf SpaceOrTab 4 5 ++ defined_raw 5 7)))
    ++ (leaf LineEnding 7 8
    ++ span Definition 8 20 (defined_label 8 11 ++ (leaf DefinitionMarker 11 12 ++ (leaf SpaceOrTab 12 13 ++ (defined_raw 13 15 ++ defined_title 16 19 (leaf Data 17 18))))))

-- the first of two definitions of a label; one of another label; a title over two lines of a block quote
abbrev pub definitions : List DefinitionExample
definitions =
    record { document = codes "[a]: /u\n[A]: /v 't'"; events = two_definitions; label = codes "A"; at = Some 0; parts = Some (record { destination = codes "/u"; title = None }) } ∷
    record {
      document = codes "[a]: /u\n[B]: /v 't'";
      events = two_definitions;
      label = codes "B";
      at = Some 26;
      parts = Some (record { destination = codes "/v"; title = Some (codes "t") });
    } ∷
    record { document = codes "[a]: /u\n[A]: /v 't'"; events = two_definitions; label = codes "B"; at = None; parts = None } ∷
    record {
      document = codes "> [a]: u 't\n> v'";
      events =
          span Definition 2 16
          (defined_label 2 5
          ++ (leaf DefinitionMarker 5 6
          ++ (leaf SpaceOrTab 6 7
          ++ (defined_raw 7 8
          ++ defined_title 9 16
          (leaf Data 10 11 ++ (leaf LineEnding 11 12 ++ (span BlockQuotePrefix 12 14 (leaf BlockQuoteMarker 12 13 ++ leaf SpaceOrTab 13 14) ++ leaf Data 14 15)))))));
      label = codes "A";
      at = Some 0;
      parts = Some (record { destination = codes "u"; title = Some (codes "t\nv") });
    } ∷
    []
