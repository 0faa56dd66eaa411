-- What the definition makes of some documents.
use Rattle.std.specs.Prelude.{ℕ, suc, List, [], ◌∷◌, codes, map, Some, None}
use Rattle.markdown_base.specs.declared.event.Content.TheVariants as content
use Rattle.markdown_base.specs.declared.event.Event.{Event}
use Rattle.markdown_base.specs.declared.event.Link.{Link}
use Rattle.markdown_base.specs.declared.event.Name.{Name}
use Rattle.markdown_base.specs.declared.event.Name.TheVariants.{BlankLineEnding, BlockQuote, BlockQuoteMarker, BlockQuotePrefix, Data, Definition, DefinitionDestination, DefinitionDestinationLiteral, DefinitionDestinationLiteralMarker, DefinitionDestinationRaw, DefinitionDestinationString, DefinitionLabel, DefinitionLabelMarker, DefinitionLabelString, DefinitionMarker, DefinitionTitle, DefinitionTitleMarker, DefinitionTitleString, LineEnding, ListItem, ListItemMarker, ListItemPrefix, ListItemValue, ListOrdered, ListUnordered, SpaceOrTab}
use Rattle.markdown_base.specs.Presets.{default_constructs}
use Rattle.markdown_base.specs.Virtual.{virtual}
use Rattle.mdblock_definitions.specs.Skeleton.{labels, letters, skeleton, written_labels}

-- A document; the events of its skeleton with tab stops at every four columns: the name, the index and the number in a tab of each; the labels of its
-- definitions, as they are written; and the indices of bytes that are shown as letters
pub record Example : Type 0 where
  pub document : List ℕ
  pub events : List (Name × ℕ × ℕ)
  pub labels : List (List ℕ)
  pub letters : List ℕ

abbrev pub read_of : List ℕ → Example
read_of document = record {
  document = document;
  events = map (λ v. (v.name, v.point.index, v.point.vs)) (skeleton default_constructs document (virtual 4 document));
  labels = written_labels default_constructs (virtual 4 document);
  letters = letters default_constructs (virtual 4 document);
}

-- What a definition is, part by part, and what none is
abbrev pub parts_of_definitions : List Example
parts_of_definitions =
    (record {
      document = codes "[kea]: /bird \"green\"\n";
      events = (Definition, 0, 0) ∷ (DefinitionLabel, 0, 0) ∷ (DefinitionLabelMarker, 0, 0) ∷ (DefinitionLabelMarker, 1, 0) ∷
          (DefinitionLabelString, 1, 0) ∷ (Data, 1, 0) ∷ (Data, 4, 0) ∷ (DefinitionLabelString, 4, 0) ∷ (DefinitionLabelMarker, 4, 0) ∷
          (DefinitionLabelMarker, 5, 0) ∷ (DefinitionLabel, 5, 0) ∷ (DefinitionMarker, 5, 0) ∷ (DefinitionMarker, 6, 0) ∷ (SpaceOrTab, 6, 0) ∷
          (SpaceOrTab, 7, 0) ∷ (DefinitionDestination, 7, 0) ∷ (DefinitionDestinationRaw, 7, 0) ∷ (DefinitionDestinationString, 7, 0) ∷
          (Data, 7, 0) ∷ (Data, 12, 0) ∷ (DefinitionDestinationString, 12, 0) ∷ (DefinitionDestinationRaw, 12, 0) ∷
          (DefinitionDestination, 12, 0) ∷ (SpaceOrTab, 12, 0) ∷ (SpaceOrTab, 13, 0) ∷ (DefinitionTitle, 13, 0) ∷ (DefinitionTitleMarker, 13, 0) ∷
          (DefinitionTitleMarker, 14, 0) ∷ (DefinitionTitleString, 14, 0) ∷ (Data, 14, 0) ∷ (Data, 19, 0) ∷ (DefinitionTitleString, 19, 0) ∷
          (DefinitionTitleMarker, 19, 0) ∷ (DefinitionTitleMarker, 20, 0) ∷ (DefinitionTitle, 20, 0) ∷ (Definition, 20, 0) ∷ (LineEnding, 20, 0) ∷
          (LineEnding, 21, 0) ∷ [];
      labels = codes "kea" ∷ [];
      letters = [];
    }) ∷
    (record {
      document = codes "   [kea]:\n  /bird\n\t'green' \n";
      events = (Definition, 0, 0) ∷ (SpaceOrTab, 0, 0) ∷ (SpaceOrTab, 3, 0) ∷ (DefinitionLabel, 3, 0) ∷ (DefinitionLabelMarker, 3, 0) ∷
          (DefinitionLabelMarker, 4, 0) ∷ (DefinitionLabelString, 4, 0) ∷ (Data, 4, 0) ∷ (Data, 7, 0) ∷ (DefinitionLabelString, 7, 0) ∷
          (DefinitionLabelMarker, 7, 0) ∷ (DefinitionLabelMarker, 8, 0) ∷ (DefinitionLabel, 8, 0) ∷ (DefinitionMarker, 8, 0) ∷
          (DefinitionMarker, 9, 0) ∷ (LineEnding, 9, 0) ∷ (LineEnding, 10, 0) ∷ (SpaceOrTab, 10, 0) ∷ (SpaceOrTab, 12, 0) ∷
          (DefinitionDestination, 12, 0) ∷ (DefinitionDestinationRaw, 12, 0) ∷ (DefinitionDestinationString, 12, 0) ∷ (Data, 12, 0) ∷
          (Data, 17, 0) ∷ (DefinitionDestinationString, 17, 0) ∷ (DefinitionDestinationRaw, 17, 0) ∷ (DefinitionDestination, 17, 0) ∷
          (LineEnding, 17, 0) ∷ (LineEnding, 18, 0) ∷ (SpaceOrTab, 18, 0) ∷ (SpaceOrTab, 19, 0) ∷ (DefinitionTitle, 19, 0) ∷
          (DefinitionTitleMarker, 19, 0) ∷ (DefinitionTitleMarker, 20, 0) ∷ (DefinitionTitleString, 20, 0) ∷ (Data, 20, 0) ∷ (Data, 25, 0) ∷
          (DefinitionTitleString, 25, 0) ∷ (DefinitionTitleMarker, 25, 0) ∷ (DefinitionTitleMarker, 26, 0) ∷ (DefinitionTitle, 26, 0) ∷
          (SpaceOrTab, 26, 0) ∷ (SpaceOrTab, 27, 0) ∷ (Definition, 27, 0) ∷ (LineEnding, 27, 0) ∷ (LineEnding, 28, 0) ∷ [];
      labels = codes "kea" ∷ [];
      letters = [];
    }) ∷
    (record {
      document = codes "    [kea]: /bird\n";
      events = (Data, 0, 0) ∷ (Data, 16, 0) ∷ (LineEnding, 16, 0) ∷ (LineEnding, 17, 0) ∷ [];
      labels = [];
      letters = [];
    }) ∷
    (record {
      document = codes "[kea] : /bird\n";
      events = (Data, 0, 0) ∷ (Data, 13, 0) ∷ (LineEnding, 13, 0) ∷ (LineEnding, 14, 0) ∷ [];
      labels = [];
      letters = [];
    }) ∷
    (record {
      document = codes "[kea]: <a b> (c)\n";
      events = (Definition, 0, 0) ∷ (DefinitionLabel, 0, 0) ∷ (DefinitionLabelMarker, 0, 0) ∷ (DefinitionLabelMarker, 1, 0) ∷
          (DefinitionLabelString, 1, 0) ∷ (Data, 1, 0) ∷ (Data, 4, 0) ∷ (DefinitionLabelString, 4, 0) ∷ (DefinitionLabelMarker, 4, 0) ∷
          (DefinitionLabelMarker, 5, 0) ∷ (DefinitionLabel, 5, 0) ∷ (DefinitionMarker, 5, 0) ∷ (DefinitionMarker, 6, 0) ∷ (SpaceOrTab, 6, 0) ∷
          (SpaceOrTab, 7, 0) ∷ (DefinitionDestination, 7, 0) ∷ (DefinitionDestinationLiteral, 7, 0) ∷ (DefinitionDestinationLiteralMarker, 7, 0) ∷
          (DefinitionDestinationLiteralMarker, 8, 0) ∷ (DefinitionDestinationString, 8, 0) ∷ (Data, 8, 0) ∷ (Data, 11, 0) ∷
          (DefinitionDestinationString, 11, 0) ∷ (DefinitionDestinationLiteralMarker, 11, 0) ∷ (DefinitionDestinationLiteralMarker, 12, 0) ∷
          (DefinitionDestinationLiteral, 12, 0) ∷ (DefinitionDestination, 12, 0) ∷ (SpaceOrTab, 12, 0) ∷ (SpaceOrTab, 13, 0) ∷
          (DefinitionTitle, 13, 0) ∷ (DefinitionTitleMarker, 13, 0) ∷ (DefinitionTitleMarker, 14, 0) ∷ (DefinitionTitleString, 14, 0) ∷
          (Data, 14, 0) ∷ (Data, 15, 0) ∷ (DefinitionTitleString, 15, 0) ∷ (DefinitionTitleMarker, 15, 0) ∷ (DefinitionTitleMarker, 16, 0) ∷
          (DefinitionTitle, 16, 0) ∷ (Definition, 16, 0) ∷ (LineEnding, 16, 0) ∷ (LineEnding, 17, 0) ∷ [];
      labels = codes "kea" ∷ [];
      letters = [];
    }) ∷
    (record {
      document = codes "[kea]: <>\n";
      events = (Definition, 0, 0) ∷ (DefinitionLabel, 0, 0) ∷ (DefinitionLabelMarker, 0, 0) ∷ (DefinitionLabelMarker, 1, 0) ∷
          (DefinitionLabelString, 1, 0) ∷ (Data, 1, 0) ∷ (Data, 4, 0) ∷ (DefinitionLabelString, 4, 0) ∷ (DefinitionLabelMarker, 4, 0) ∷
          (DefinitionLabelMarker, 5, 0) ∷ (DefinitionLabel, 5, 0) ∷ (DefinitionMarker, 5, 0) ∷ (DefinitionMarker, 6, 0) ∷ (SpaceOrTab, 6, 0) ∷
          (SpaceOrTab, 7, 0) ∷ (DefinitionDestination, 7, 0) ∷ (DefinitionDestinationLiteral, 7, 0) ∷ (DefinitionDestinationLiteralMarker, 7, 0) ∷
          (DefinitionDestinationLiteralMarker, 8, 0) ∷ (DefinitionDestinationLiteralMarker, 8, 0) ∷ (DefinitionDestinationLiteralMarker, 9, 0) ∷
          (DefinitionDestinationLiteral, 9, 0) ∷ (DefinitionDestination, 9, 0) ∷ (Definition, 9, 0) ∷ (LineEnding, 9, 0) ∷ (LineEnding, 10, 0) ∷
          [];
      labels = codes "kea" ∷ [];
      letters = [];
    }) ∷
    (record {
      document = codes "[kea]:\n";
      events = (Data, 0, 0) ∷ (Data, 6, 0) ∷ (LineEnding, 6, 0) ∷ (LineEnding, 7, 0) ∷ [];
      labels = [];
      letters = [];
    }) ∷
    (record {
      document = codes "[kea]:\n\n/bird\n";
      events = (Data, 0, 0) ∷ (Data, 13, 0) ∷ (LineEnding, 13, 0) ∷ (LineEnding, 14, 0) ∷ [];
      labels = [];
      letters = [];
    }) ∷
    (record {
      document = codes "[kea]: <a>(c)\n";
      events = (Data, 0, 0) ∷ (Data, 13, 0) ∷ (LineEnding, 13, 0) ∷ (LineEnding, 14, 0) ∷ [];
      labels = [];
      letters = [];
    }) ∷
    (record {
      document = codes "[kea]: /bird \"green\" x\n";
      events = (Data, 0, 0) ∷ (Data, 22, 0) ∷ (LineEnding, 22, 0) ∷ (LineEnding, 23, 0) ∷ [];
      labels = [];
      letters = [];
    }) ∷
    (record {
      document = codes "[kea]: /bird\n\"green\" x\n";
      events = (Definition, 0, 0) ∷ (DefinitionLabel, 0, 0) ∷ (DefinitionLabelMarker, 0, 0) ∷ (DefinitionLabelMarker, 1, 0) ∷
          (DefinitionLabelString, 1, 0) ∷ (Data, 1, 0) ∷ (Data, 4, 0) ∷ (DefinitionLabelString, 4, 0) ∷ (DefinitionLabelMarker, 4, 0) ∷
          (DefinitionLabelMarker, 5, 0) ∷ (DefinitionLabel, 5, 0) ∷ (DefinitionMarker, 5, 0) ∷ (DefinitionMarker, 6, 0) ∷ (SpaceOrTab, 6, 0) ∷
          (SpaceOrTab, 7, 0) ∷ (DefinitionDestination, 7, 0) ∷ (DefinitionDestinationRaw, 7, 0) ∷ (DefinitionDestinationString, 7, 0) ∷
          (Data, 7, 0) ∷ (Data, 12, 0) ∷ (DefinitionDestinationString, 12, 0) ∷ (DefinitionDestinationRaw, 12, 0) ∷
          (DefinitionDestination, 12, 0) ∷ (Definition, 12, 0) ∷ (LineEnding, 12, 0) ∷ (LineEnding, 13, 0) ∷ (Data, 13, 0) ∷ (Data, 22, 0) ∷
          (LineEnding, 22, 0) ∷ (LineEnding, 23, 0) ∷ [];
      labels = codes "kea" ∷ [];
      letters = 13 ∷ [];
    }) ∷
    (record {
      document = codes "[kea]: /bird\n\n\"green\"\n";
      events = (Definition, 0, 0) ∷ (DefinitionLabel, 0, 0) ∷ (DefinitionLabelMarker, 0, 0) ∷ (DefinitionLabelMarker, 1, 0) ∷
          (DefinitionLabelString, 1, 0) ∷ (Data, 1, 0) ∷ (Data, 4, 0) ∷ (DefinitionLabelString, 4, 0) ∷ (DefinitionLabelMarker, 4, 0) ∷
          (DefinitionLabelMarker, 5, 0) ∷ (DefinitionLabel, 5, 0) ∷ (DefinitionMarker, 5, 0) ∷ (DefinitionMarker, 6, 0) ∷ (SpaceOrTab, 6, 0) ∷
          (SpaceOrTab, 7, 0) ∷ (DefinitionDestination, 7, 0) ∷ (DefinitionDestinationRaw, 7, 0) ∷ (DefinitionDestinationString, 7, 0) ∷
          (Data, 7, 0) ∷ (Data, 12, 0) ∷ (DefinitionDestinationString, 12, 0) ∷ (DefinitionDestinationRaw, 12, 0) ∷
          (DefinitionDestination, 12, 0) ∷ (Definition, 12, 0) ∷ (LineEnding, 12, 0) ∷ (LineEnding, 13, 0) ∷ (BlankLineEnding, 13, 0) ∷
          (BlankLineEnding, 14, 0) ∷ (Data, 14, 0) ∷ (Data, 21, 0) ∷ (LineEnding, 21, 0) ∷ (LineEnding, 22, 0) ∷ [];
      labels = codes "kea" ∷ [];
      letters = [];
    }) ∷
    (record {
      document = codes "[kea]: /bird \"gr\neen\"\nb\n";
      events = (Definition, 0, 0) ∷ (DefinitionLabel, 0, 0) ∷ (DefinitionLabelMarker, 0, 0) ∷ (DefinitionLabelMarker, 1, 0) ∷
          (DefinitionLabelString, 1, 0) ∷ (Data, 1, 0) ∷ (Data, 4, 0) ∷ (DefinitionLabelString, 4, 0) ∷ (DefinitionLabelMarker, 4, 0) ∷
          (DefinitionLabelMarker, 5, 0) ∷ (DefinitionLabel, 5, 0) ∷ (DefinitionMarker, 5, 0) ∷ (DefinitionMarker, 6, 0) ∷ (SpaceOrTab, 6, 0) ∷
          (SpaceOrTab, 7, 0) ∷ (DefinitionDestination, 7, 0) ∷ (DefinitionDestinationRaw, 7, 0) ∷ (DefinitionDestinationString, 7, 0) ∷
          (Data, 7, 0) ∷ (Data, 12, 0) ∷ (DefinitionDestinationString, 12, 0) ∷ (DefinitionDestinationRaw, 12, 0) ∷
          (DefinitionDestination, 12, 0) ∷ (SpaceOrTab, 12, 0) ∷ (SpaceOrTab, 13, 0) ∷ (DefinitionTitle, 13, 0) ∷ (DefinitionTitleMarker, 13, 0) ∷
          (DefinitionTitleMarker, 14, 0) ∷ (DefinitionTitleString, 14, 0) ∷ (Data, 14, 0) ∷ (Data, 16, 0) ∷ (LineEnding, 16, 0) ∷
          (LineEnding, 17, 0) ∷ (Data, 17, 0) ∷ (Data, 20, 0) ∷ (DefinitionTitleString, 20, 0) ∷ (DefinitionTitleMarker, 20, 0) ∷ (DefinitionTitleMarker, 21, 0) ∷ (DefinitionTitle, 21, 0) ∷
          (Definition, 21, 0) ∷ (LineEnding, 21, 0) ∷ (LineEnding, 22, 0) ∷ (Data, 22, 0) ∷ (Data, 23, 0) ∷ (LineEnding, 23, 0) ∷
          (LineEnding, 24, 0) ∷ [];
      labels = codes "kea" ∷ [];
      letters = 22 ∷ [];
    }) ∷
    (record {
      document = codes "[kea]: /bird \"gr\n\neen\"\n";
      events = (Data, 0, 0) ∷ (Data, 22, 0) ∷ (LineEnding, 22, 0) ∷ (LineEnding, 23, 0) ∷ [];
      labels = [];
      letters = [];
    }) ∷
    (record {
      document = codes "[k\\]a]: a\\b 'c\\'d'\n";
      events = (Definition, 0, 0) ∷ (DefinitionLabel, 0, 0) ∷ (DefinitionLabelMarker, 0, 0) ∷ (DefinitionLabelMarker, 1, 0) ∷
          (DefinitionLabelString, 1, 0) ∷ (Data, 1, 0) ∷ (Data, 5, 0) ∷ (DefinitionLabelString, 5, 0) ∷ (DefinitionLabelMarker, 5, 0) ∷
          (DefinitionLabelMarker, 6, 0) ∷ (DefinitionLabel, 6, 0) ∷ (DefinitionMarker, 6, 0) ∷ (DefinitionMarker, 7, 0) ∷ (SpaceOrTab, 7, 0) ∷
          (SpaceOrTab, 8, 0) ∷ (DefinitionDestination, 8, 0) ∷ (DefinitionDestinationRaw, 8, 0) ∷ (DefinitionDestinationString, 8, 0) ∷
          (Data, 8, 0) ∷ (Data, 11, 0) ∷ (DefinitionDestinationString, 11, 0) ∷ (DefinitionDestinationRaw, 11, 0) ∷
          (DefinitionDestination, 11, 0) ∷ (SpaceOrTab, 11, 0) ∷ (SpaceOrTab, 12, 0) ∷ (DefinitionTitle, 12, 0) ∷ (DefinitionTitleMarker, 12, 0) ∷
          (DefinitionTitleMarker, 13, 0) ∷ (DefinitionTitleString, 13, 0) ∷ (Data, 13, 0) ∷ (Data, 17, 0) ∷ (DefinitionTitleString, 17, 0) ∷
          (DefinitionTitleMarker, 17, 0) ∷ (DefinitionTitleMarker, 18, 0) ∷ (DefinitionTitle, 18, 0) ∷ (Definition, 18, 0) ∷ (LineEnding, 18, 0) ∷
          (LineEnding, 19, 0) ∷ [];
      labels = codes "k\\]a" ∷ [];
      letters = [];
    }) ∷
    (record {
      document = codes "[\nkea\n]: /bird\nb\n";
      events = (Definition, 0, 0) ∷ (DefinitionLabel, 0, 0) ∷ (DefinitionLabelMarker, 0, 0) ∷ (DefinitionLabelMarker, 1, 0) ∷
          (DefinitionLabelString, 1, 0) ∷ (LineEnding, 1, 0) ∷ (LineEnding, 2, 0) ∷ (Data, 2, 0) ∷ (Data, 5, 0) ∷ (LineEnding, 5, 0) ∷
          (LineEnding, 6, 0) ∷ (DefinitionLabelString, 6, 0) ∷
          (DefinitionLabelMarker, 6, 0) ∷ (DefinitionLabelMarker, 7, 0) ∷ (DefinitionLabel, 7, 0) ∷ (DefinitionMarker, 7, 0) ∷
          (DefinitionMarker, 8, 0) ∷ (SpaceOrTab, 8, 0) ∷ (SpaceOrTab, 9, 0) ∷ (DefinitionDestination, 9, 0) ∷ (DefinitionDestinationRaw, 9, 0) ∷
          (DefinitionDestinationString, 9, 0) ∷ (Data, 9, 0) ∷ (Data, 14, 0) ∷ (DefinitionDestinationString, 14, 0) ∷
          (DefinitionDestinationRaw, 14, 0) ∷ (DefinitionDestination, 14, 0) ∷ (Definition, 14, 0) ∷ (LineEnding, 14, 0) ∷ (LineEnding, 15, 0) ∷
          (Data, 15, 0) ∷ (Data, 16, 0) ∷ (LineEnding, 16, 0) ∷ (LineEnding, 17, 0) ∷ [];
      labels = codes "\nkea\n" ∷ [];
      letters = 15 ∷ [];
    }) ∷
    (record {
      document = codes "[k\n\nea]: /bird\n";
      events = (Data, 0, 0) ∷ (Data, 14, 0) ∷ (LineEnding, 14, 0) ∷ (LineEnding, 15, 0) ∷ [];
      labels = [];
      letters = [];
    }) ∷
    (record {
      document = codes "[]: /bird\n";
      events = (Data, 0, 0) ∷ (Data, 9, 0) ∷ (LineEnding, 9, 0) ∷ (LineEnding, 10, 0) ∷ [];
      labels = [];
      letters = [];
    }) ∷
    (record {
      document = codes "[k[ea]: /bird\n";
      events = (Data, 0, 0) ∷ (Data, 13, 0) ∷ (LineEnding, 13, 0) ∷ (LineEnding, 14, 0) ∷ [];
      labels = [];
      letters = [];
    }) ∷
    (record {
      document = codes "[a]:\r\n/b\r\nc\r\n";
      events = (Definition, 0, 0) ∷ (DefinitionLabel, 0, 0) ∷ (DefinitionLabelMarker, 0, 0) ∷ (DefinitionLabelMarker, 1, 0) ∷
          (DefinitionLabelString, 1, 0) ∷ (Data, 1, 0) ∷ (Data, 2, 0) ∷ (DefinitionLabelString, 2, 0) ∷ (DefinitionLabelMarker, 2, 0) ∷
          (DefinitionLabelMarker, 3, 0) ∷ (DefinitionLabel, 3, 0) ∷ (DefinitionMarker, 3, 0) ∷ (DefinitionMarker, 4, 0) ∷ (LineEnding, 4, 0) ∷
          (LineEnding, 6, 0) ∷ (DefinitionDestination, 6, 0) ∷ (DefinitionDestinationRaw, 6, 0) ∷ (DefinitionDestinationString, 6, 0) ∷
          (Data, 6, 0) ∷ (Data, 8, 0) ∷ (DefinitionDestinationString, 8, 0) ∷ (DefinitionDestinationRaw, 8, 0) ∷ (DefinitionDestination, 8, 0) ∷
          (Definition, 8, 0) ∷ (LineEnding, 8, 0) ∷ (LineEnding, 10, 0) ∷ (Data, 10, 0) ∷ (Data, 11, 0) ∷ (LineEnding, 11, 0) ∷
          (LineEnding, 13, 0) ∷ [];
      labels = codes "a" ∷ [];
      letters = 10 ∷ [];
    }) ∷
    []

-- Where a definition can stand: at the front of a paragraph, and behind other definitions
abbrev pub where_definitions_stand : List Example
where_definitions_stand =
    (record {
      document = codes "a\n[kea]: /bird\n";
      events = (Data, 0, 0) ∷ (Data, 14, 0) ∷ (LineEnding, 14, 0) ∷ (LineEnding, 15, 0) ∷ [];
      labels = [];
      letters = [];
    }) ∷
    (record {
      document = codes "# a\n[kea]: /bird\nb\n";
      events = (Data, 0, 0) ∷ (Data, 3, 0) ∷ (LineEnding, 3, 0) ∷ (LineEnding, 4, 0) ∷ (Definition, 4, 0) ∷ (DefinitionLabel, 4, 0) ∷
          (DefinitionLabelMarker, 4, 0) ∷ (DefinitionLabelMarker, 5, 0) ∷ (DefinitionLabelString, 5, 0) ∷ (Data, 5, 0) ∷ (Data, 8, 0) ∷
          (DefinitionLabelString, 8, 0) ∷ (DefinitionLabelMarker, 8, 0) ∷ (DefinitionLabelMarker, 9, 0) ∷ (DefinitionLabel, 9, 0) ∷
          (DefinitionMarker, 9, 0) ∷ (DefinitionMarker, 10, 0) ∷ (SpaceOrTab, 10, 0) ∷ (SpaceOrTab, 11, 0) ∷ (DefinitionDestination, 11, 0) ∷
          (DefinitionDestinationRaw, 11, 0) ∷ (DefinitionDestinationString, 11, 0) ∷ (Data, 11, 0) ∷ (Data, 16, 0) ∷
          (DefinitionDestinationString, 16, 0) ∷ (DefinitionDestinationRaw, 16, 0) ∷ (DefinitionDestination, 16, 0) ∷ (Definition, 16, 0) ∷
          (LineEnding, 16, 0) ∷ (LineEnding, 17, 0) ∷ (Data, 17, 0) ∷ (Data, 18, 0) ∷ (LineEnding, 18, 0) ∷ (LineEnding, 19, 0) ∷ [];
      labels = codes "kea" ∷ [];
      letters = 17 ∷ [];
    }) ∷
    (record {
      document = codes "***\n[kea]: /bird\n***\n";
      events = (Data, 0, 0) ∷ (Data, 3, 0) ∷ (LineEnding, 3, 0) ∷ (LineEnding, 4, 0) ∷ (Definition, 4, 0) ∷ (DefinitionLabel, 4, 0) ∷
          (DefinitionLabelMarker, 4, 0) ∷ (DefinitionLabelMarker, 5, 0) ∷ (DefinitionLabelString, 5, 0) ∷ (Data, 5, 0) ∷ (Data, 8, 0) ∷
          (DefinitionLabelString, 8, 0) ∷ (DefinitionLabelMarker, 8, 0) ∷ (DefinitionLabelMarker, 9, 0) ∷ (DefinitionLabel, 9, 0) ∷
          (DefinitionMarker, 9, 0) ∷ (DefinitionMarker, 10, 0) ∷ (SpaceOrTab, 10, 0) ∷ (SpaceOrTab, 11, 0) ∷ (DefinitionDestination, 11, 0) ∷
          (DefinitionDestinationRaw, 11, 0) ∷ (DefinitionDestinationString, 11, 0) ∷ (Data, 11, 0) ∷ (Data, 16, 0) ∷
          (DefinitionDestinationString, 16, 0) ∷ (DefinitionDestinationRaw, 16, 0) ∷ (DefinitionDestination, 16, 0) ∷ (Definition, 16, 0) ∷
          (LineEnding, 16, 0) ∷ (LineEnding, 17, 0) ∷ (Data, 17, 0) ∷ (Data, 20, 0) ∷ (LineEnding, 20, 0) ∷ (LineEnding, 21, 0) ∷ [];
      labels = codes "kea" ∷ [];
      letters = [];
    }) ∷
    (record {
      document = codes "[a]: /b\n  [c]: /d 'e'\n[f]:\n  <g>\n[h]\n";
      events = (Definition, 0, 0) ∷ (DefinitionLabel, 0, 0) ∷ (DefinitionLabelMarker, 0, 0) ∷ (DefinitionLabelMarker, 1, 0) ∷
          (DefinitionLabelString, 1, 0) ∷ (Data, 1, 0) ∷ (Data, 2, 0) ∷ (DefinitionLabelString, 2, 0) ∷ (DefinitionLabelMarker, 2, 0) ∷
          (DefinitionLabelMarker, 3, 0) ∷ (DefinitionLabel, 3, 0) ∷ (DefinitionMarker, 3, 0) ∷ (DefinitionMarker, 4, 0) ∷ (SpaceOrTab, 4, 0) ∷
          (SpaceOrTab, 5, 0) ∷ (DefinitionDestination, 5, 0) ∷ (DefinitionDestinationRaw, 5, 0) ∷ (DefinitionDestinationString, 5, 0) ∷
          (Data, 5, 0) ∷ (Data, 7, 0) ∷ (DefinitionDestinationString, 7, 0) ∷ (DefinitionDestinationRaw, 7, 0) ∷ (DefinitionDestination, 7, 0) ∷
          (Definition, 7, 0) ∷ (LineEnding, 7, 0) ∷ (LineEnding, 8, 0) ∷ (Definition, 8, 0) ∷ (SpaceOrTab, 8, 0) ∷ (SpaceOrTab, 10, 0) ∷
          (DefinitionLabel, 10, 0) ∷ (DefinitionLabelMarker, 10, 0) ∷ (DefinitionLabelMarker, 11, 0) ∷ (DefinitionLabelString, 11, 0) ∷
          (Data, 11, 0) ∷ (Data, 12, 0) ∷ (DefinitionLabelString, 12, 0) ∷ (DefinitionLabelMarker, 12, 0) ∷ (DefinitionLabelMarker, 13, 0) ∷
          (DefinitionLabel, 13, 0) ∷ (DefinitionMarker, 13, 0) ∷ (DefinitionMarker, 14, 0) ∷ (SpaceOrTab, 14, 0) ∷ (SpaceOrTab, 15, 0) ∷
          (DefinitionDestination, 15, 0) ∷ (DefinitionDestinationRaw, 15, 0) ∷ (DefinitionDestinationString, 15, 0) ∷ (Data, 15, 0) ∷
          (Data, 17, 0) ∷ (DefinitionDestinationString, 17, 0) ∷ (DefinitionDestinationRaw, 17, 0) ∷ (DefinitionDestination, 17, 0) ∷
          (SpaceOrTab, 17, 0) ∷ (SpaceOrTab, 18, 0) ∷ (DefinitionTitle, 18, 0) ∷ (DefinitionTitleMarker, 18, 0) ∷ (DefinitionTitleMarker, 19, 0) ∷
          (DefinitionTitleString, 19, 0) ∷ (Data, 19, 0) ∷ (Data, 20, 0) ∷ (DefinitionTitleString, 20, 0) ∷ (DefinitionTitleMarker, 20, 0) ∷
          (DefinitionTitleMarker, 21, 0) ∷ (DefinitionTitle, 21, 0) ∷ (Definition, 21, 0) ∷ (LineEnding, 21, 0) ∷ (LineEnding, 22, 0) ∷
          (Definition, 22, 0) ∷ (DefinitionLabel, 22, 0) ∷ (DefinitionLabelMarker, 22, 0) ∷ (DefinitionLabelMarker, 23, 0) ∷
          (DefinitionLabelString, 23, 0) ∷ (Data, 23, 0) ∷ (Data, 24, 0) ∷ (DefinitionLabelString, 24, 0) ∷ (DefinitionLabelMarker, 24, 0) ∷
          (DefinitionLabelMarker, 25, 0) ∷ (DefinitionLabel, 25, 0) ∷ (DefinitionMarker, 25, 0) ∷ (DefinitionMarker, 26, 0) ∷ (LineEnding, 26, 0) ∷
          (LineEnding, 27, 0) ∷ (SpaceOrTab, 27, 0) ∷ (SpaceOrTab, 29, 0) ∷ (DefinitionDestination, 29, 0) ∷
          (DefinitionDestinationLiteral, 29, 0) ∷ (DefinitionDestinationLiteralMarker, 29, 0) ∷ (DefinitionDestinationLiteralMarker, 30, 0) ∷
          (DefinitionDestinationString, 30, 0) ∷ (Data, 30, 0) ∷ (Data, 31, 0) ∷ (DefinitionDestinationString, 31, 0) ∷
          (DefinitionDestinationLiteralMarker, 31, 0) ∷ (DefinitionDestinationLiteralMarker, 32, 0) ∷ (DefinitionDestinationLiteral, 32, 0) ∷
          (DefinitionDestination, 32, 0) ∷ (Definition, 32, 0) ∷ (LineEnding, 32, 0) ∷ (LineEnding, 33, 0) ∷ (Data, 33, 0) ∷ (Data, 36, 0) ∷
          (LineEnding, 36, 0) ∷ (LineEnding, 37, 0) ∷ [];
      labels = codes "a" ∷ codes "c" ∷ codes "f" ∷ [];
      letters = 33 ∷ [];
    }) ∷
    (record {
      document = codes "```\n[kea]: /bird\n```\n";
      events = (Data, 0, 0) ∷ (Data, 20, 0) ∷ (LineEnding, 20, 0) ∷ (LineEnding, 21, 0) ∷ [];
      labels = [];
      letters = [];
    }) ∷
    (record {
      document = codes "<div>\n[kea]: /bird\n";
      events = (Data, 0, 0) ∷ (Data, 18, 0) ∷ (LineEnding, 18, 0) ∷ (LineEnding, 19, 0) ∷ [];
      labels = [];
      letters = [];
    }) ∷
    (record {
      document = codes "    a\n[kea]: /bird\n";
      events = (Data, 0, 0) ∷ (Data, 5, 0) ∷ (LineEnding, 5, 0) ∷ (LineEnding, 6, 0) ∷ (Definition, 6, 0) ∷ (DefinitionLabel, 6, 0) ∷
          (DefinitionLabelMarker, 6, 0) ∷ (DefinitionLabelMarker, 7, 0) ∷ (DefinitionLabelString, 7, 0) ∷ (Data, 7, 0) ∷ (Data, 10, 0) ∷
          (DefinitionLabelString, 10, 0) ∷ (DefinitionLabelMarker, 10, 0) ∷ (DefinitionLabelMarker, 11, 0) ∷ (DefinitionLabel, 11, 0) ∷
          (DefinitionMarker, 11, 0) ∷ (DefinitionMarker, 12, 0) ∷ (SpaceOrTab, 12, 0) ∷ (SpaceOrTab, 13, 0) ∷ (DefinitionDestination, 13, 0) ∷
          (DefinitionDestinationRaw, 13, 0) ∷ (DefinitionDestinationString, 13, 0) ∷ (Data, 13, 0) ∷ (Data, 18, 0) ∷
          (DefinitionDestinationString, 18, 0) ∷ (DefinitionDestinationRaw, 18, 0) ∷ (DefinitionDestination, 18, 0) ∷ (Definition, 18, 0) ∷
          (LineEnding, 18, 0) ∷ (LineEnding, 19, 0) ∷ [];
      labels = codes "kea" ∷ [];
      letters = [];
    }) ∷
    (record {
      document = codes "a\n\n[kea]: /bird\n";
      events = (Data, 0, 0) ∷ (Data, 1, 0) ∷ (LineEnding, 1, 0) ∷ (LineEnding, 2, 0) ∷ (BlankLineEnding, 2, 0) ∷ (BlankLineEnding, 3, 0) ∷
          (Definition, 3, 0) ∷ (DefinitionLabel, 3, 0) ∷ (DefinitionLabelMarker, 3, 0) ∷ (DefinitionLabelMarker, 4, 0) ∷
          (DefinitionLabelString, 4, 0) ∷ (Data, 4, 0) ∷ (Data, 7, 0) ∷ (DefinitionLabelString, 7, 0) ∷ (DefinitionLabelMarker, 7, 0) ∷
          (DefinitionLabelMarker, 8, 0) ∷ (DefinitionLabel, 8, 0) ∷ (DefinitionMarker, 8, 0) ∷ (DefinitionMarker, 9, 0) ∷ (SpaceOrTab, 9, 0) ∷
          (SpaceOrTab, 10, 0) ∷ (DefinitionDestination, 10, 0) ∷ (DefinitionDestinationRaw, 10, 0) ∷ (DefinitionDestinationString, 10, 0) ∷
          (Data, 10, 0) ∷ (Data, 15, 0) ∷ (DefinitionDestinationString, 15, 0) ∷ (DefinitionDestinationRaw, 15, 0) ∷
          (DefinitionDestination, 15, 0) ∷ (Definition, 15, 0) ∷ (LineEnding, 15, 0) ∷ (LineEnding, 16, 0) ∷ [];
      labels = codes "kea" ∷ [];
      letters = [];
    }) ∷
    (record {
      document = codes "[kea]: /bird\n\n    b\n";
      events = (Definition, 0, 0) ∷ (DefinitionLabel, 0, 0) ∷ (DefinitionLabelMarker, 0, 0) ∷ (DefinitionLabelMarker, 1, 0) ∷
          (DefinitionLabelString, 1, 0) ∷ (Data, 1, 0) ∷ (Data, 4, 0) ∷ (DefinitionLabelString, 4, 0) ∷ (DefinitionLabelMarker, 4, 0) ∷
          (DefinitionLabelMarker, 5, 0) ∷ (DefinitionLabel, 5, 0) ∷ (DefinitionMarker, 5, 0) ∷ (DefinitionMarker, 6, 0) ∷ (SpaceOrTab, 6, 0) ∷
          (SpaceOrTab, 7, 0) ∷ (DefinitionDestination, 7, 0) ∷ (DefinitionDestinationRaw, 7, 0) ∷ (DefinitionDestinationString, 7, 0) ∷
          (Data, 7, 0) ∷ (Data, 12, 0) ∷ (DefinitionDestinationString, 12, 0) ∷ (DefinitionDestinationRaw, 12, 0) ∷
          (DefinitionDestination, 12, 0) ∷ (Definition, 12, 0) ∷ (LineEnding, 12, 0) ∷ (LineEnding, 13, 0) ∷ (BlankLineEnding, 13, 0) ∷
          (BlankLineEnding, 14, 0) ∷ (Data, 14, 0) ∷ (Data, 19, 0) ∷ (LineEnding, 19, 0) ∷ (LineEnding, 20, 0) ∷ [];
      labels = codes "kea" ∷ [];
      letters = [];
    }) ∷
    []

-- A line directly behind definitions is text, if it goes on with their paragraph; what interrupts a paragraph is not
abbrev pub text_behind_definitions : List Example
text_behind_definitions =
    (record {
      document = codes "[kea]: /bird\n    b\n";
      events = (Definition, 0, 0) ∷ (DefinitionLabel, 0, 0) ∷ (DefinitionLabelMarker, 0, 0) ∷ (DefinitionLabelMarker, 1, 0) ∷
          (DefinitionLabelString, 1, 0) ∷ (Data, 1, 0) ∷ (Data, 4, 0) ∷ (DefinitionLabelString, 4, 0) ∷ (DefinitionLabelMarker, 4, 0) ∷
          (DefinitionLabelMarker, 5, 0) ∷ (DefinitionLabel, 5, 0) ∷ (DefinitionMarker, 5, 0) ∷ (DefinitionMarker, 6, 0) ∷ (SpaceOrTab, 6, 0) ∷
          (SpaceOrTab, 7, 0) ∷ (DefinitionDestination, 7, 0) ∷ (DefinitionDestinationRaw, 7, 0) ∷ (DefinitionDestinationString, 7, 0) ∷
          (Data, 7, 0) ∷ (Data, 12, 0) ∷ (DefinitionDestinationString, 12, 0) ∷ (DefinitionDestinationRaw, 12, 0) ∷
          (DefinitionDestination, 12, 0) ∷ (Definition, 12, 0) ∷ (LineEnding, 12, 0) ∷ (LineEnding, 13, 0) ∷ (SpaceOrTab, 13, 0) ∷
          (SpaceOrTab, 17, 0) ∷ (Data, 17, 0) ∷ (Data, 18, 0) ∷ (LineEnding, 18, 0) ∷ (LineEnding, 19, 0) ∷ [];
      labels = codes "kea" ∷ [];
      letters = 17 ∷ [];
    }) ∷
    (record {
      document = codes "[kea]: /bird\n\tb\nc\n\nd\n";
      events = (Definition, 0, 0) ∷ (DefinitionLabel, 0, 0) ∷ (DefinitionLabelMarker, 0, 0) ∷ (DefinitionLabelMarker, 1, 0) ∷
          (DefinitionLabelString, 1, 0) ∷ (Data, 1, 0) ∷ (Data, 4, 0) ∷ (DefinitionLabelString, 4, 0) ∷ (DefinitionLabelMarker, 4, 0) ∷
          (DefinitionLabelMarker, 5, 0) ∷ (DefinitionLabel, 5, 0) ∷ (DefinitionMarker, 5, 0) ∷ (DefinitionMarker, 6, 0) ∷ (SpaceOrTab, 6, 0) ∷
          (SpaceOrTab, 7, 0) ∷ (DefinitionDestination, 7, 0) ∷ (DefinitionDestinationRaw, 7, 0) ∷ (DefinitionDestinationString, 7, 0) ∷
          (Data, 7, 0) ∷ (Data, 12, 0) ∷ (DefinitionDestinationString, 12, 0) ∷ (DefinitionDestinationRaw, 12, 0) ∷
          (DefinitionDestination, 12, 0) ∷ (Definition, 12, 0) ∷ (LineEnding, 12, 0) ∷ (LineEnding, 13, 0) ∷ (SpaceOrTab, 13, 0) ∷
          (SpaceOrTab, 14, 0) ∷ (Data, 14, 0) ∷ (Data, 20, 0) ∷ (LineEnding, 20, 0) ∷ (LineEnding, 21, 0) ∷ [];
      labels = codes "kea" ∷ [];
      letters = 14 ∷ [];
    }) ∷
    (record {
      document = codes "[kea]: /bird\nb\n===\n";
      events = (Definition, 0, 0) ∷ (DefinitionLabel, 0, 0) ∷ (DefinitionLabelMarker, 0, 0) ∷ (DefinitionLabelMarker, 1, 0) ∷
          (DefinitionLabelString, 1, 0) ∷ (Data, 1, 0) ∷ (Data, 4, 0) ∷ (DefinitionLabelString, 4, 0) ∷ (DefinitionLabelMarker, 4, 0) ∷
          (DefinitionLabelMarker, 5, 0) ∷ (DefinitionLabel, 5, 0) ∷ (DefinitionMarker, 5, 0) ∷ (DefinitionMarker, 6, 0) ∷ (SpaceOrTab, 6, 0) ∷
          (SpaceOrTab, 7, 0) ∷ (DefinitionDestination, 7, 0) ∷ (DefinitionDestinationRaw, 7, 0) ∷ (DefinitionDestinationString, 7, 0) ∷
          (Data, 7, 0) ∷ (Data, 12, 0) ∷ (DefinitionDestinationString, 12, 0) ∷ (DefinitionDestinationRaw, 12, 0) ∷
          (DefinitionDestination, 12, 0) ∷ (Definition, 12, 0) ∷ (LineEnding, 12, 0) ∷ (LineEnding, 13, 0) ∷ (Data, 13, 0) ∷ (Data, 18, 0) ∷
          (LineEnding, 18, 0) ∷ (LineEnding, 19, 0) ∷ [];
      labels = codes "kea" ∷ [];
      letters = 13 ∷ [];
    }) ∷
    (record {
      document = codes "[kea]: /bird\n===\nb\n";
      events = (Definition, 0, 0) ∷ (DefinitionLabel, 0, 0) ∷ (DefinitionLabelMarker, 0, 0) ∷ (DefinitionLabelMarker, 1, 0) ∷
          (DefinitionLabelString, 1, 0) ∷ (Data, 1, 0) ∷ (Data, 4, 0) ∷ (DefinitionLabelString, 4, 0) ∷ (DefinitionLabelMarker, 4, 0) ∷
          (DefinitionLabelMarker, 5, 0) ∷ (DefinitionLabel, 5, 0) ∷ (DefinitionMarker, 5, 0) ∷ (DefinitionMarker, 6, 0) ∷ (SpaceOrTab, 6, 0) ∷
          (SpaceOrTab, 7, 0) ∷ (DefinitionDestination, 7, 0) ∷ (DefinitionDestinationRaw, 7, 0) ∷ (DefinitionDestinationString, 7, 0) ∷
          (Data, 7, 0) ∷ (Data, 12, 0) ∷ (DefinitionDestinationString, 12, 0) ∷ (DefinitionDestinationRaw, 12, 0) ∷
          (DefinitionDestination, 12, 0) ∷ (Definition, 12, 0) ∷ (LineEnding, 12, 0) ∷ (LineEnding, 13, 0) ∷ (Data, 13, 0) ∷ (Data, 18, 0) ∷
          (LineEnding, 18, 0) ∷ (LineEnding, 19, 0) ∷ [];
      labels = codes "kea" ∷ [];
      letters = 13 ∷ [];
    }) ∷
    (record {
      document = codes "[kea]: /bird\n  ---\nb\n===\n";
      events = (Definition, 0, 0) ∷ (DefinitionLabel, 0, 0) ∷ (DefinitionLabelMarker, 0, 0) ∷ (DefinitionLabelMarker, 1, 0) ∷
          (DefinitionLabelString, 1, 0) ∷ (Data, 1, 0) ∷ (Data, 4, 0) ∷ (DefinitionLabelString, 4, 0) ∷ (DefinitionLabelMarker, 4, 0) ∷
          (DefinitionLabelMarker, 5, 0) ∷ (DefinitionLabel, 5, 0) ∷ (DefinitionMarker, 5, 0) ∷ (DefinitionMarker, 6, 0) ∷ (SpaceOrTab, 6, 0) ∷
          (SpaceOrTab, 7, 0) ∷ (DefinitionDestination, 7, 0) ∷ (DefinitionDestinationRaw, 7, 0) ∷ (DefinitionDestinationString, 7, 0) ∷
          (Data, 7, 0) ∷ (Data, 12, 0) ∷ (DefinitionDestinationString, 12, 0) ∷ (DefinitionDestinationRaw, 12, 0) ∷
          (DefinitionDestination, 12, 0) ∷ (Definition, 12, 0) ∷ (LineEnding, 12, 0) ∷ (LineEnding, 13, 0) ∷ (SpaceOrTab, 13, 0) ∷
          (SpaceOrTab, 15, 0) ∷ (Data, 15, 0) ∷ (Data, 24, 0) ∷ (LineEnding, 24, 0) ∷ (LineEnding, 25, 0) ∷ [];
      labels = codes "kea" ∷ [];
      letters = 15 ∷ [];
    }) ∷
    (record {
      document = codes "[kea] x\n===\n";
      events = (Data, 0, 0) ∷ (Data, 11, 0) ∷ (LineEnding, 11, 0) ∷ (LineEnding, 12, 0) ∷ [];
      labels = [];
      letters = [];
    }) ∷
    (record {
      document = codes "[kea]: /bird\n<b>\n";
      events = (Definition, 0, 0) ∷ (DefinitionLabel, 0, 0) ∷ (DefinitionLabelMarker, 0, 0) ∷ (DefinitionLabelMarker, 1, 0) ∷
          (DefinitionLabelString, 1, 0) ∷ (Data, 1, 0) ∷ (Data, 4, 0) ∷ (DefinitionLabelString, 4, 0) ∷ (DefinitionLabelMarker, 4, 0) ∷
          (DefinitionLabelMarker, 5, 0) ∷ (DefinitionLabel, 5, 0) ∷ (DefinitionMarker, 5, 0) ∷ (DefinitionMarker, 6, 0) ∷ (SpaceOrTab, 6, 0) ∷
          (SpaceOrTab, 7, 0) ∷ (DefinitionDestination, 7, 0) ∷ (DefinitionDestinationRaw, 7, 0) ∷ (DefinitionDestinationString, 7, 0) ∷
          (Data, 7, 0) ∷ (Data, 12, 0) ∷ (DefinitionDestinationString, 12, 0) ∷ (DefinitionDestinationRaw, 12, 0) ∷
          (DefinitionDestination, 12, 0) ∷ (Definition, 12, 0) ∷ (LineEnding, 12, 0) ∷ (LineEnding, 13, 0) ∷ (Data, 13, 0) ∷ (Data, 16, 0) ∷
          (LineEnding, 16, 0) ∷ (LineEnding, 17, 0) ∷ [];
      labels = codes "kea" ∷ [];
      letters = 13 ∷ [];
    }) ∷
    (record {
      document = codes "[kea]: /bird\n<div>\n";
      events = (Definition, 0, 0) ∷ (DefinitionLabel, 0, 0) ∷ (DefinitionLabelMarker, 0, 0) ∷ (DefinitionLabelMarker, 1, 0) ∷
          (DefinitionLabelString, 1, 0) ∷ (Data, 1, 0) ∷ (Data, 4, 0) ∷ (DefinitionLabelString, 4, 0) ∷ (DefinitionLabelMarker, 4, 0) ∷
          (DefinitionLabelMarker, 5, 0) ∷ (DefinitionLabel, 5, 0) ∷ (DefinitionMarker, 5, 0) ∷ (DefinitionMarker, 6, 0) ∷ (SpaceOrTab, 6, 0) ∷
          (SpaceOrTab, 7, 0) ∷ (DefinitionDestination, 7, 0) ∷ (DefinitionDestinationRaw, 7, 0) ∷ (DefinitionDestinationString, 7, 0) ∷
          (Data, 7, 0) ∷ (Data, 12, 0) ∷ (DefinitionDestinationString, 12, 0) ∷ (DefinitionDestinationRaw, 12, 0) ∷
          (DefinitionDestination, 12, 0) ∷ (Definition, 12, 0) ∷ (LineEnding, 12, 0) ∷ (LineEnding, 13, 0) ∷ (Data, 13, 0) ∷ (Data, 18, 0) ∷
          (LineEnding, 18, 0) ∷ (LineEnding, 19, 0) ∷ [];
      labels = codes "kea" ∷ [];
      letters = [];
    }) ∷
    (record {
      document = codes "[kea]: /bird\n# a\n";
      events = (Definition, 0, 0) ∷ (DefinitionLabel, 0, 0) ∷ (DefinitionLabelMarker, 0, 0) ∷ (DefinitionLabelMarker, 1, 0) ∷
          (DefinitionLabelString, 1, 0) ∷ (Data, 1, 0) ∷ (Data, 4, 0) ∷ (DefinitionLabelString, 4, 0) ∷ (DefinitionLabelMarker, 4, 0) ∷
          (DefinitionLabelMarker, 5, 0) ∷ (DefinitionLabel, 5, 0) ∷ (DefinitionMarker, 5, 0) ∷ (DefinitionMarker, 6, 0) ∷ (SpaceOrTab, 6, 0) ∷
          (SpaceOrTab, 7, 0) ∷ (DefinitionDestination, 7, 0) ∷ (DefinitionDestinationRaw, 7, 0) ∷ (DefinitionDestinationString, 7, 0) ∷
          (Data, 7, 0) ∷ (Data, 12, 0) ∷ (DefinitionDestinationString, 12, 0) ∷ (DefinitionDestinationRaw, 12, 0) ∷
          (DefinitionDestination, 12, 0) ∷ (Definition, 12, 0) ∷ (LineEnding, 12, 0) ∷ (LineEnding, 13, 0) ∷ (Data, 13, 0) ∷ (Data, 16, 0) ∷
          (LineEnding, 16, 0) ∷ (LineEnding, 17, 0) ∷ [];
      labels = codes "kea" ∷ [];
      letters = [];
    }) ∷
    []

-- In quotes and items; prefixes stand between the lines of a definition, and lazy lines go on with it
abbrev pub definitions_in_containers : List Example
definitions_in_containers =
    (record {
      document = codes "> [kea]:\n> /bird\n> b\n";
      events = (BlockQuote, 0, 0) ∷ (BlockQuotePrefix, 0, 0) ∷ (BlockQuoteMarker, 0, 0) ∷ (BlockQuoteMarker, 1, 0) ∷ (SpaceOrTab, 1, 0) ∷
          (SpaceOrTab, 2, 0) ∷ (BlockQuotePrefix, 2, 0) ∷ (Definition, 2, 0) ∷ (DefinitionLabel, 2, 0) ∷ (DefinitionLabelMarker, 2, 0) ∷
          (DefinitionLabelMarker, 3, 0) ∷ (DefinitionLabelString, 3, 0) ∷ (Data, 3, 0) ∷ (Data, 6, 0) ∷ (DefinitionLabelString, 6, 0) ∷
          (DefinitionLabelMarker, 6, 0) ∷ (DefinitionLabelMarker, 7, 0) ∷ (DefinitionLabel, 7, 0) ∷ (DefinitionMarker, 7, 0) ∷
          (DefinitionMarker, 8, 0) ∷ (LineEnding, 8, 0) ∷ (LineEnding, 9, 0) ∷ (BlockQuotePrefix, 9, 0) ∷ (BlockQuoteMarker, 9, 0) ∷
          (BlockQuoteMarker, 10, 0) ∷ (SpaceOrTab, 10, 0) ∷ (SpaceOrTab, 11, 0) ∷ (BlockQuotePrefix, 11, 0) ∷ (DefinitionDestination, 11, 0) ∷
          (DefinitionDestinationRaw, 11, 0) ∷ (DefinitionDestinationString, 11, 0) ∷ (Data, 11, 0) ∷ (Data, 16, 0) ∷
          (DefinitionDestinationString, 16, 0) ∷ (DefinitionDestinationRaw, 16, 0) ∷ (DefinitionDestination, 16, 0) ∷ (Definition, 16, 0) ∷
          (LineEnding, 16, 0) ∷ (LineEnding, 17, 0) ∷ (BlockQuotePrefix, 17, 0) ∷ (BlockQuoteMarker, 17, 0) ∷ (BlockQuoteMarker, 18, 0) ∷
          (SpaceOrTab, 18, 0) ∷ (SpaceOrTab, 19, 0) ∷ (BlockQuotePrefix, 19, 0) ∷ (Data, 19, 0) ∷ (Data, 20, 0) ∷ (BlockQuote, 20, 0) ∷
          (LineEnding, 20, 0) ∷ (LineEnding, 21, 0) ∷ [];
      labels = codes "kea" ∷ [];
      letters = 19 ∷ [];
    }) ∷
    (record {
      document = codes "> [kea]: /bird\nb\n";
      events = (BlockQuote, 0, 0) ∷ (BlockQuotePrefix, 0, 0) ∷ (BlockQuoteMarker, 0, 0) ∷ (BlockQuoteMarker, 1, 0) ∷ (SpaceOrTab, 1, 0) ∷
          (SpaceOrTab, 2, 0) ∷ (BlockQuotePrefix, 2, 0) ∷ (Definition, 2, 0) ∷ (DefinitionLabel, 2, 0) ∷ (DefinitionLabelMarker, 2, 0) ∷
          (DefinitionLabelMarker, 3, 0) ∷ (DefinitionLabelString, 3, 0) ∷ (Data, 3, 0) ∷ (Data, 6, 0) ∷ (DefinitionLabelString, 6, 0) ∷
          (DefinitionLabelMarker, 6, 0) ∷ (DefinitionLabelMarker, 7, 0) ∷ (DefinitionLabel, 7, 0) ∷ (DefinitionMarker, 7, 0) ∷
          (DefinitionMarker, 8, 0) ∷ (SpaceOrTab, 8, 0) ∷ (SpaceOrTab, 9, 0) ∷ (DefinitionDestination, 9, 0) ∷ (DefinitionDestinationRaw, 9, 0) ∷
          (DefinitionDestinationString, 9, 0) ∷ (Data, 9, 0) ∷ (Data, 14, 0) ∷ (DefinitionDestinationString, 14, 0) ∷
          (DefinitionDestinationRaw, 14, 0) ∷ (DefinitionDestination, 14, 0) ∷ (Definition, 14, 0) ∷ (LineEnding, 14, 0) ∷ (LineEnding, 15, 0) ∷
          (Data, 15, 0) ∷ (Data, 16, 0) ∷ (BlockQuote, 16, 0) ∷ (LineEnding, 16, 0) ∷ (LineEnding, 17, 0) ∷ [];
      labels = codes "kea" ∷ [];
      letters = 15 ∷ [];
    }) ∷
    (record {
      document = codes "> [kea]:\n/bird 'a\n> b'\n";
      events = (BlockQuote, 0, 0) ∷ (BlockQuotePrefix, 0, 0) ∷ (BlockQuoteMarker, 0, 0) ∷ (BlockQuoteMarker, 1, 0) ∷ (SpaceOrTab, 1, 0) ∷
          (SpaceOrTab, 2, 0) ∷ (BlockQuotePrefix, 2, 0) ∷ (Definition, 2, 0) ∷ (DefinitionLabel, 2, 0) ∷ (DefinitionLabelMarker, 2, 0) ∷
          (DefinitionLabelMarker, 3, 0) ∷ (DefinitionLabelString, 3, 0) ∷ (Data, 3, 0) ∷ (Data, 6, 0) ∷ (DefinitionLabelString, 6, 0) ∷
          (DefinitionLabelMarker, 6, 0) ∷ (DefinitionLabelMarker, 7, 0) ∷ (DefinitionLabel, 7, 0) ∷ (DefinitionMarker, 7, 0) ∷
          (DefinitionMarker, 8, 0) ∷ (LineEnding, 8, 0) ∷ (LineEnding, 9, 0) ∷ (DefinitionDestination, 9, 0) ∷ (DefinitionDestinationRaw, 9, 0) ∷
          (DefinitionDestinationString, 9, 0) ∷ (Data, 9, 0) ∷ (Data, 14, 0) ∷ (DefinitionDestinationString, 14, 0) ∷
          (DefinitionDestinationRaw, 14, 0) ∷ (DefinitionDestination, 14, 0) ∷ (SpaceOrTab, 14, 0) ∷ (SpaceOrTab, 15, 0) ∷
          (DefinitionTitle, 15, 0) ∷ (DefinitionTitleMarker, 15, 0) ∷ (DefinitionTitleMarker, 16, 0) ∷ (DefinitionTitleString, 16, 0) ∷
          (Data, 16, 0) ∷ (Data, 17, 0) ∷ (LineEnding, 17, 0) ∷ (LineEnding, 18, 0) ∷ (BlockQuotePrefix, 18, 0) ∷ (BlockQuoteMarker, 18, 0) ∷ (BlockQuoteMarker, 19, 0) ∷ (SpaceOrTab, 19, 0) ∷
          (SpaceOrTab, 20, 0) ∷ (BlockQuotePrefix, 20, 0) ∷ (Data, 20, 0) ∷ (Data, 21, 0) ∷ (DefinitionTitleString, 21, 0) ∷
          (DefinitionTitleMarker, 21, 0) ∷ (DefinitionTitleMarker, 22, 0) ∷ (DefinitionTitle, 22, 0) ∷ (Definition, 22, 0) ∷ (BlockQuote, 22, 0) ∷
          (LineEnding, 22, 0) ∷ (LineEnding, 23, 0) ∷ [];
      labels = codes "kea" ∷ [];
      letters = [];
    }) ∷
    (record {
      document = codes "> [kea]: /bird\n===\nb\n";
      events = (BlockQuote, 0, 0) ∷ (BlockQuotePrefix, 0, 0) ∷ (BlockQuoteMarker, 0, 0) ∷ (BlockQuoteMarker, 1, 0) ∷ (SpaceOrTab, 1, 0) ∷
          (SpaceOrTab, 2, 0) ∷ (BlockQuotePrefix, 2, 0) ∷ (Definition, 2, 0) ∷ (DefinitionLabel, 2, 0) ∷ (DefinitionLabelMarker, 2, 0) ∷
          (DefinitionLabelMarker, 3, 0) ∷ (DefinitionLabelString, 3, 0) ∷ (Data, 3, 0) ∷ (Data, 6, 0) ∷ (DefinitionLabelString, 6, 0) ∷
          (DefinitionLabelMarker, 6, 0) ∷ (DefinitionLabelMarker, 7, 0) ∷ (DefinitionLabel, 7, 0) ∷ (DefinitionMarker, 7, 0) ∷
          (DefinitionMarker, 8, 0) ∷ (SpaceOrTab, 8, 0) ∷ (SpaceOrTab, 9, 0) ∷ (DefinitionDestination, 9, 0) ∷ (DefinitionDestinationRaw, 9, 0) ∷
          (DefinitionDestinationString, 9, 0) ∷ (Data, 9, 0) ∷ (Data, 14, 0) ∷ (DefinitionDestinationString, 14, 0) ∷
          (DefinitionDestinationRaw, 14, 0) ∷ (DefinitionDestination, 14, 0) ∷ (Definition, 14, 0) ∷ (LineEnding, 14, 0) ∷ (LineEnding, 15, 0) ∷
          (Data, 15, 0) ∷ (Data, 20, 0) ∷ (BlockQuote, 20, 0) ∷ (LineEnding, 20, 0) ∷ (LineEnding, 21, 0) ∷ [];
      labels = codes "kea" ∷ [];
      letters = 15 ∷ [];
    }) ∷
    (record {
      document = codes "> [a]: /u\n> ===\nb\n";
      events = (BlockQuote, 0, 0) ∷ (BlockQuotePrefix, 0, 0) ∷ (BlockQuoteMarker, 0, 0) ∷ (BlockQuoteMarker, 1, 0) ∷ (SpaceOrTab, 1, 0) ∷
          (SpaceOrTab, 2, 0) ∷ (BlockQuotePrefix, 2, 0) ∷ (Definition, 2, 0) ∷ (DefinitionLabel, 2, 0) ∷ (DefinitionLabelMarker, 2, 0) ∷
          (DefinitionLabelMarker, 3, 0) ∷ (DefinitionLabelString, 3, 0) ∷ (Data, 3, 0) ∷ (Data, 4, 0) ∷ (DefinitionLabelString, 4, 0) ∷
          (DefinitionLabelMarker, 4, 0) ∷ (DefinitionLabelMarker, 5, 0) ∷ (DefinitionLabel, 5, 0) ∷ (DefinitionMarker, 5, 0) ∷
          (DefinitionMarker, 6, 0) ∷ (SpaceOrTab, 6, 0) ∷ (SpaceOrTab, 7, 0) ∷ (DefinitionDestination, 7, 0) ∷ (DefinitionDestinationRaw, 7, 0) ∷
          (DefinitionDestinationString, 7, 0) ∷ (Data, 7, 0) ∷ (Data, 9, 0) ∷ (DefinitionDestinationString, 9, 0) ∷
          (DefinitionDestinationRaw, 9, 0) ∷ (DefinitionDestination, 9, 0) ∷ (Definition, 9, 0) ∷ (LineEnding, 9, 0) ∷ (LineEnding, 10, 0) ∷
          (BlockQuotePrefix, 10, 0) ∷ (BlockQuoteMarker, 10, 0) ∷ (BlockQuoteMarker, 11, 0) ∷ (SpaceOrTab, 11, 0) ∷ (SpaceOrTab, 12, 0) ∷
          (BlockQuotePrefix, 12, 0) ∷ (Data, 12, 0) ∷ (Data, 17, 0) ∷ (BlockQuote, 17, 0) ∷ (LineEnding, 17, 0) ∷ (LineEnding, 18, 0) ∷ [];
      labels = codes "a" ∷ [];
      letters = 12 ∷ [];
    }) ∷
    (record {
      document = codes "> [a]: /u\n> ===\n===\n";
      events = (BlockQuote, 0, 0) ∷ (BlockQuotePrefix, 0, 0) ∷ (BlockQuoteMarker, 0, 0) ∷ (BlockQuoteMarker, 1, 0) ∷ (SpaceOrTab, 1, 0) ∷
          (SpaceOrTab, 2, 0) ∷ (BlockQuotePrefix, 2, 0) ∷ (Definition, 2, 0) ∷ (DefinitionLabel, 2, 0) ∷ (DefinitionLabelMarker, 2, 0) ∷
          (DefinitionLabelMarker, 3, 0) ∷ (DefinitionLabelString, 3, 0) ∷ (Data, 3, 0) ∷ (Data, 4, 0) ∷ (DefinitionLabelString, 4, 0) ∷
          (DefinitionLabelMarker, 4, 0) ∷ (DefinitionLabelMarker, 5, 0) ∷ (DefinitionLabel, 5, 0) ∷ (DefinitionMarker, 5, 0) ∷
          (DefinitionMarker, 6, 0) ∷ (SpaceOrTab, 6, 0) ∷ (SpaceOrTab, 7, 0) ∷ (DefinitionDestination, 7, 0) ∷ (DefinitionDestinationRaw, 7, 0) ∷
          (DefinitionDestinationString, 7, 0) ∷ (Data, 7, 0) ∷ (Data, 9, 0) ∷ (DefinitionDestinationString, 9, 0) ∷
          (DefinitionDestinationRaw, 9, 0) ∷ (DefinitionDestination, 9, 0) ∷ (Definition, 9, 0) ∷ (LineEnding, 9, 0) ∷ (LineEnding, 10, 0) ∷
          (BlockQuotePrefix, 10, 0) ∷ (BlockQuoteMarker, 10, 0) ∷ (BlockQuoteMarker, 11, 0) ∷ (SpaceOrTab, 11, 0) ∷ (SpaceOrTab, 12, 0) ∷
          (BlockQuotePrefix, 12, 0) ∷ (Data, 12, 0) ∷ (Data, 19, 0) ∷ (BlockQuote, 19, 0) ∷ (LineEnding, 19, 0) ∷ (LineEnding, 20, 0) ∷ [];
      labels = codes "a" ∷ [];
      letters = 12 ∷ 16 ∷ [];
    }) ∷
    (record {
      document = codes "> [kea]: /bird 'x\n===\ny'\n";
      events = (BlockQuote, 0, 0) ∷ (BlockQuotePrefix, 0, 0) ∷ (BlockQuoteMarker, 0, 0) ∷ (BlockQuoteMarker, 1, 0) ∷ (SpaceOrTab, 1, 0) ∷
          (SpaceOrTab, 2, 0) ∷ (BlockQuotePrefix, 2, 0) ∷ (Definition, 2, 0) ∷ (DefinitionLabel, 2, 0) ∷ (DefinitionLabelMarker, 2, 0) ∷
          (DefinitionLabelMarker, 3, 0) ∷ (DefinitionLabelString, 3, 0) ∷ (Data, 3, 0) ∷ (Data, 6, 0) ∷ (DefinitionLabelString, 6, 0) ∷
          (DefinitionLabelMarker, 6, 0) ∷ (DefinitionLabelMarker, 7, 0) ∷ (DefinitionLabel, 7, 0) ∷ (DefinitionMarker, 7, 0) ∷
          (DefinitionMarker, 8, 0) ∷ (SpaceOrTab, 8, 0) ∷ (SpaceOrTab, 9, 0) ∷ (DefinitionDestination, 9, 0) ∷ (DefinitionDestinationRaw, 9, 0) ∷
          (DefinitionDestinationString, 9, 0) ∷ (Data, 9, 0) ∷ (Data, 14, 0) ∷ (DefinitionDestinationString, 14, 0) ∷
          (DefinitionDestinationRaw, 14, 0) ∷ (DefinitionDestination, 14, 0) ∷ (SpaceOrTab, 14, 0) ∷ (SpaceOrTab, 15, 0) ∷
          (DefinitionTitle, 15, 0) ∷ (DefinitionTitleMarker, 15, 0) ∷ (DefinitionTitleMarker, 16, 0) ∷ (DefinitionTitleString, 16, 0) ∷
          (Data, 16, 0) ∷ (Data, 17, 0) ∷ (LineEnding, 17, 0) ∷ (LineEnding, 18, 0) ∷ (Data, 18, 0) ∷ (Data, 21, 0) ∷ (LineEnding, 21, 0) ∷
          (LineEnding, 22, 0) ∷ (Data, 22, 0) ∷ (Data, 23, 0) ∷ (DefinitionTitleString, 23, 0) ∷
          (DefinitionTitleMarker, 23, 0) ∷ (DefinitionTitleMarker, 24, 0) ∷ (DefinitionTitle, 24, 0) ∷ (Definition, 24, 0) ∷ (BlockQuote, 24, 0) ∷
          (LineEnding, 24, 0) ∷ (LineEnding, 25, 0) ∷ [];
      labels = codes "kea" ∷ [];
      letters = [];
    }) ∷
    (record {
      document = codes "- [kea]: /bird\n\n  b\n";
      events = (ListUnordered, 0, 0) ∷ (ListItem, 0, 0) ∷ (ListItemPrefix, 0, 0) ∷ (ListItemMarker, 0, 0) ∷ (ListItemMarker, 1, 0) ∷
          (SpaceOrTab, 1, 0) ∷ (SpaceOrTab, 2, 0) ∷ (ListItemPrefix, 2, 0) ∷ (Definition, 2, 0) ∷ (DefinitionLabel, 2, 0) ∷
          (DefinitionLabelMarker, 2, 0) ∷ (DefinitionLabelMarker, 3, 0) ∷ (DefinitionLabelString, 3, 0) ∷ (Data, 3, 0) ∷ (Data, 6, 0) ∷
          (DefinitionLabelString, 6, 0) ∷ (DefinitionLabelMarker, 6, 0) ∷ (DefinitionLabelMarker, 7, 0) ∷ (DefinitionLabel, 7, 0) ∷
          (DefinitionMarker, 7, 0) ∷ (DefinitionMarker, 8, 0) ∷ (SpaceOrTab, 8, 0) ∷ (SpaceOrTab, 9, 0) ∷ (DefinitionDestination, 9, 0) ∷
          (DefinitionDestinationRaw, 9, 0) ∷ (DefinitionDestinationString, 9, 0) ∷ (Data, 9, 0) ∷ (Data, 14, 0) ∷
          (DefinitionDestinationString, 14, 0) ∷ (DefinitionDestinationRaw, 14, 0) ∷ (DefinitionDestination, 14, 0) ∷ (Definition, 14, 0) ∷
          (LineEnding, 14, 0) ∷ (LineEnding, 15, 0) ∷ (BlankLineEnding, 15, 0) ∷ (BlankLineEnding, 16, 0) ∷ (SpaceOrTab, 16, 0) ∷
          (SpaceOrTab, 18, 0) ∷ (Data, 18, 0) ∷ (Data, 19, 0) ∷ (ListItem, 19, 0) ∷ (ListUnordered, 19, 0) ∷ (LineEnding, 19, 0) ∷
          (LineEnding, 20, 0) ∷ [];
      labels = codes "kea" ∷ [];
      letters = [];
    }) ∷
    (record {
      document = codes "- [a]: /b\n- [c]: /d\n";
      events = (ListUnordered, 0, 0) ∷ (ListItem, 0, 0) ∷ (ListItemPrefix, 0, 0) ∷ (ListItemMarker, 0, 0) ∷ (ListItemMarker, 1, 0) ∷
          (SpaceOrTab, 1, 0) ∷ (SpaceOrTab, 2, 0) ∷ (ListItemPrefix, 2, 0) ∷ (Definition, 2, 0) ∷ (DefinitionLabel, 2, 0) ∷
          (DefinitionLabelMarker, 2, 0) ∷ (DefinitionLabelMarker, 3, 0) ∷ (DefinitionLabelString, 3, 0) ∷ (Data, 3, 0) ∷ (Data, 4, 0) ∷
          (DefinitionLabelString, 4, 0) ∷ (DefinitionLabelMarker, 4, 0) ∷ (DefinitionLabelMarker, 5, 0) ∷ (DefinitionLabel, 5, 0) ∷
          (DefinitionMarker, 5, 0) ∷ (DefinitionMarker, 6, 0) ∷ (SpaceOrTab, 6, 0) ∷ (SpaceOrTab, 7, 0) ∷ (DefinitionDestination, 7, 0) ∷
          (DefinitionDestinationRaw, 7, 0) ∷ (DefinitionDestinationString, 7, 0) ∷ (Data, 7, 0) ∷ (Data, 9, 0) ∷
          (DefinitionDestinationString, 9, 0) ∷ (DefinitionDestinationRaw, 9, 0) ∷ (DefinitionDestination, 9, 0) ∷ (Definition, 9, 0) ∷
          (ListItem, 9, 0) ∷ (LineEnding, 9, 0) ∷ (LineEnding, 10, 0) ∷ (ListItem, 10, 0) ∷ (ListItemPrefix, 10, 0) ∷ (ListItemMarker, 10, 0) ∷
          (ListItemMarker, 11, 0) ∷ (SpaceOrTab, 11, 0) ∷ (SpaceOrTab, 12, 0) ∷ (ListItemPrefix, 12, 0) ∷ (Definition, 12, 0) ∷
          (DefinitionLabel, 12, 0) ∷ (DefinitionLabelMarker, 12, 0) ∷ (DefinitionLabelMarker, 13, 0) ∷ (DefinitionLabelString, 13, 0) ∷
          (Data, 13, 0) ∷ (Data, 14, 0) ∷ (DefinitionLabelString, 14, 0) ∷ (DefinitionLabelMarker, 14, 0) ∷ (DefinitionLabelMarker, 15, 0) ∷
          (DefinitionLabel, 15, 0) ∷ (DefinitionMarker, 15, 0) ∷ (DefinitionMarker, 16, 0) ∷ (SpaceOrTab, 16, 0) ∷ (SpaceOrTab, 17, 0) ∷
          (DefinitionDestination, 17, 0) ∷ (DefinitionDestinationRaw, 17, 0) ∷ (DefinitionDestinationString, 17, 0) ∷ (Data, 17, 0) ∷
          (Data, 19, 0) ∷ (DefinitionDestinationString, 19, 0) ∷ (DefinitionDestinationRaw, 19, 0) ∷ (DefinitionDestination, 19, 0) ∷
          (Definition, 19, 0) ∷ (ListItem, 19, 0) ∷ (ListUnordered, 19, 0) ∷ (LineEnding, 19, 0) ∷ (LineEnding, 20, 0) ∷ [];
      labels = codes "a" ∷ codes "c" ∷ [];
      letters = [];
    }) ∷
    (record {
      document = codes "- a\n\n  [kea]: /bird\n";
      events = (ListUnordered, 0, 0) ∷ (ListItem, 0, 0) ∷ (ListItemPrefix, 0, 0) ∷ (ListItemMarker, 0, 0) ∷ (ListItemMarker, 1, 0) ∷
          (SpaceOrTab, 1, 0) ∷ (SpaceOrTab, 2, 0) ∷ (ListItemPrefix, 2, 0) ∷ (Data, 2, 0) ∷ (Data, 3, 0) ∷ (LineEnding, 3, 0) ∷
          (LineEnding, 4, 0) ∷ (BlankLineEnding, 4, 0) ∷ (BlankLineEnding, 5, 0) ∷ (SpaceOrTab, 5, 0) ∷ (SpaceOrTab, 7, 0) ∷ (Definition, 7, 0) ∷
          (DefinitionLabel, 7, 0) ∷ (DefinitionLabelMarker, 7, 0) ∷ (DefinitionLabelMarker, 8, 0) ∷ (DefinitionLabelString, 8, 0) ∷ (Data, 8, 0) ∷
          (Data, 11, 0) ∷ (DefinitionLabelString, 11, 0) ∷ (DefinitionLabelMarker, 11, 0) ∷ (DefinitionLabelMarker, 12, 0) ∷
          (DefinitionLabel, 12, 0) ∷ (DefinitionMarker, 12, 0) ∷ (DefinitionMarker, 13, 0) ∷ (SpaceOrTab, 13, 0) ∷ (SpaceOrTab, 14, 0) ∷
          (DefinitionDestination, 14, 0) ∷ (DefinitionDestinationRaw, 14, 0) ∷ (DefinitionDestinationString, 14, 0) ∷ (Data, 14, 0) ∷
          (Data, 19, 0) ∷ (DefinitionDestinationString, 19, 0) ∷ (DefinitionDestinationRaw, 19, 0) ∷ (DefinitionDestination, 19, 0) ∷
          (Definition, 19, 0) ∷ (ListItem, 19, 0) ∷ (ListUnordered, 19, 0) ∷ (LineEnding, 19, 0) ∷ (LineEnding, 20, 0) ∷ [];
      labels = codes "kea" ∷ [];
      letters = [];
    }) ∷
    (record {
      document = codes "1. [a]:\n   /b\n";
      events = (ListOrdered, 0, 0) ∷ (ListItem, 0, 0) ∷ (ListItemPrefix, 0, 0) ∷ (ListItemValue, 0, 0) ∷ (ListItemValue, 1, 0) ∷
          (ListItemMarker, 1, 0) ∷ (ListItemMarker, 2, 0) ∷ (SpaceOrTab, 2, 0) ∷ (SpaceOrTab, 3, 0) ∷ (ListItemPrefix, 3, 0) ∷ (Definition, 3, 0) ∷
          (DefinitionLabel, 3, 0) ∷ (DefinitionLabelMarker, 3, 0) ∷ (DefinitionLabelMarker, 4, 0) ∷ (DefinitionLabelString, 4, 0) ∷ (Data, 4, 0) ∷
          (Data, 5, 0) ∷ (DefinitionLabelString, 5, 0) ∷ (DefinitionLabelMarker, 5, 0) ∷ (DefinitionLabelMarker, 6, 0) ∷ (DefinitionLabel, 6, 0) ∷
          (DefinitionMarker, 6, 0) ∷ (DefinitionMarker, 7, 0) ∷ (LineEnding, 7, 0) ∷ (LineEnding, 8, 0) ∷ (SpaceOrTab, 8, 0) ∷
          (SpaceOrTab, 11, 0) ∷ (DefinitionDestination, 11, 0) ∷ (DefinitionDestinationRaw, 11, 0) ∷ (DefinitionDestinationString, 11, 0) ∷
          (Data, 11, 0) ∷ (Data, 13, 0) ∷ (DefinitionDestinationString, 13, 0) ∷ (DefinitionDestinationRaw, 13, 0) ∷
          (DefinitionDestination, 13, 0) ∷ (Definition, 13, 0) ∷ (ListItem, 13, 0) ∷ (ListOrdered, 13, 0) ∷ (LineEnding, 13, 0) ∷
          (LineEnding, 14, 0) ∷ [];
      labels = codes "a" ∷ [];
      letters = [];
    }) ∷
    (record {
      document = codes "> - [a]: /b\n>   c\n";
      events = (BlockQuote, 0, 0) ∷ (BlockQuotePrefix, 0, 0) ∷ (BlockQuoteMarker, 0, 0) ∷ (BlockQuoteMarker, 1, 0) ∷ (SpaceOrTab, 1, 0) ∷
          (SpaceOrTab, 2, 0) ∷ (BlockQuotePrefix, 2, 0) ∷ (ListUnordered, 2, 0) ∷ (ListItem, 2, 0) ∷ (ListItemPrefix, 2, 0) ∷
          (ListItemMarker, 2, 0) ∷ (ListItemMarker, 3, 0) ∷ (SpaceOrTab, 3, 0) ∷ (SpaceOrTab, 4, 0) ∷ (ListItemPrefix, 4, 0) ∷ (Definition, 4, 0) ∷
          (DefinitionLabel, 4, 0) ∷ (DefinitionLabelMarker, 4, 0) ∷ (DefinitionLabelMarker, 5, 0) ∷ (DefinitionLabelString, 5, 0) ∷ (Data, 5, 0) ∷
          (Data, 6, 0) ∷ (DefinitionLabelString, 6, 0) ∷ (DefinitionLabelMarker, 6, 0) ∷ (DefinitionLabelMarker, 7, 0) ∷ (DefinitionLabel, 7, 0) ∷
          (DefinitionMarker, 7, 0) ∷ (DefinitionMarker, 8, 0) ∷ (SpaceOrTab, 8, 0) ∷ (SpaceOrTab, 9, 0) ∷ (DefinitionDestination, 9, 0) ∷
          (DefinitionDestinationRaw, 9, 0) ∷ (DefinitionDestinationString, 9, 0) ∷ (Data, 9, 0) ∷ (Data, 11, 0) ∷
          (DefinitionDestinationString, 11, 0) ∷ (DefinitionDestinationRaw, 11, 0) ∷ (DefinitionDestination, 11, 0) ∷ (Definition, 11, 0) ∷
          (LineEnding, 11, 0) ∷ (LineEnding, 12, 0) ∷ (BlockQuotePrefix, 12, 0) ∷ (BlockQuoteMarker, 12, 0) ∷ (BlockQuoteMarker, 13, 0) ∷
          (SpaceOrTab, 13, 0) ∷ (SpaceOrTab, 14, 0) ∷ (BlockQuotePrefix, 14, 0) ∷ (SpaceOrTab, 14, 0) ∷ (SpaceOrTab, 16, 0) ∷ (Data, 16, 0) ∷
          (Data, 17, 0) ∷ (ListItem, 17, 0) ∷ (ListUnordered, 17, 0) ∷ (BlockQuote, 17, 0) ∷ (LineEnding, 17, 0) ∷ (LineEnding, 18, 0) ∷ [];
      labels = codes "a" ∷ [];
      letters = 16 ∷ [];
    }) ∷
    (record {
      document = codes "> [a\n> ]: /b\n";
      events = (BlockQuote, 0, 0) ∷ (BlockQuotePrefix, 0, 0) ∷ (BlockQuoteMarker, 0, 0) ∷ (BlockQuoteMarker, 1, 0) ∷ (SpaceOrTab, 1, 0) ∷
          (SpaceOrTab, 2, 0) ∷ (BlockQuotePrefix, 2, 0) ∷ (Definition, 2, 0) ∷ (DefinitionLabel, 2, 0) ∷ (DefinitionLabelMarker, 2, 0) ∷
          (DefinitionLabelMarker, 3, 0) ∷ (DefinitionLabelString, 3, 0) ∷ (Data, 3, 0) ∷ (Data, 4, 0) ∷ (LineEnding, 4, 0) ∷ (LineEnding, 5, 0) ∷
          (DefinitionLabelString, 5, 0) ∷ (BlockQuotePrefix, 5, 0) ∷ (BlockQuoteMarker, 5, 0) ∷ (BlockQuoteMarker, 6, 0) ∷ (SpaceOrTab, 6, 0) ∷
          (SpaceOrTab, 7, 0) ∷ (BlockQuotePrefix, 7, 0) ∷ (DefinitionLabelMarker, 7, 0) ∷ (DefinitionLabelMarker, 8, 0) ∷ (DefinitionLabel, 8, 0) ∷
          (DefinitionMarker, 8, 0) ∷ (DefinitionMarker, 9, 0) ∷ (SpaceOrTab, 9, 0) ∷ (SpaceOrTab, 10, 0) ∷ (DefinitionDestination, 10, 0) ∷
          (DefinitionDestinationRaw, 10, 0) ∷ (DefinitionDestinationString, 10, 0) ∷ (Data, 10, 0) ∷ (Data, 12, 0) ∷
          (DefinitionDestinationString, 12, 0) ∷ (DefinitionDestinationRaw, 12, 0) ∷ (DefinitionDestination, 12, 0) ∷ (Definition, 12, 0) ∷
          (BlockQuote, 12, 0) ∷ (LineEnding, 12, 0) ∷ (LineEnding, 13, 0) ∷ [];
      labels = codes "a\n" ∷ [];
      letters = [];
    }) ∷
    []

-- "Matching of labels is case-insensitive", and "consecutive internal spaces, tabs, and line endings" are one space
abbrev pub labels_of_document : List ℕ → List (List ℕ)
labels_of_document document = labels default_constructs (virtual 4 document)

-- The events of a skeleton that begin a chunk, by their indices, with their links
abbrev pub links_from : (index : ℕ) → List Event → List (ℕ × Link)
links_from i [] = []
links_from i (e ∷ es) = elim e.link [ None ↦ links_from (suc i) es | Some l ↦ (i, l) ∷ links_from (suc i) es ]

abbrev pub links_of_document : List ℕ → List (ℕ × Link)
links_of_document document = links_from 0 (skeleton default_constructs document (virtual 4 document))

-- Definitions with a label and a title of two lines each, and text behind them: the text is one chunk, and strings have none
abbrev pub with_strings : List ℕ
with_strings = codes "> [a\n> b]: <> 'x\n> y'\n> c\nd\n"

abbrev pub links_of_stretches : List (ℕ × Link)
links_of_stretches = (71, record { previous = None; next = None; content = content.Content }) ∷ []

-- White space in front of a further line of a string is no data, as in a paragraph
abbrev pub white_in_string : Example
white_in_string = record {
  document = codes "[kea]: /b 'x \n\ty'\n";
  events = (Definition, 0, 0) ∷ (DefinitionLabel, 0, 0) ∷ (DefinitionLabelMarker, 0, 0) ∷ (DefinitionLabelMarker, 1, 0) ∷
      (DefinitionLabelString, 1, 0) ∷ (Data, 1, 0) ∷ (Data, 4, 0) ∷ (DefinitionLabelString, 4, 0) ∷ (DefinitionLabelMarker, 4, 0) ∷
      (DefinitionLabelMarker, 5, 0) ∷ (DefinitionLabel, 5, 0) ∷ (DefinitionMarker, 5, 0) ∷ (DefinitionMarker, 6, 0) ∷ (SpaceOrTab, 6, 0) ∷
      (SpaceOrTab, 7, 0) ∷ (DefinitionDestination, 7, 0) ∷ (DefinitionDestinationRaw, 7, 0) ∷ (DefinitionDestinationString, 7, 0) ∷
      (Data, 7, 0) ∷ (Data, 9, 0) ∷ (DefinitionDestinationString, 9, 0) ∷ (DefinitionDestinationRaw, 9, 0) ∷ (DefinitionDestination, 9, 0) ∷
      (SpaceOrTab, 9, 0) ∷ (SpaceOrTab, 10, 0) ∷ (DefinitionTitle, 10, 0) ∷ (DefinitionTitleMarker, 10, 0) ∷ (DefinitionTitleMarker, 11, 0) ∷
      (DefinitionTitleString, 11, 0) ∷ (Data, 11, 0) ∷ (Data, 13, 0) ∷ (LineEnding, 13, 0) ∷ (LineEnding, 14, 0) ∷ (SpaceOrTab, 14, 0) ∷
      (SpaceOrTab, 15, 0) ∷ (Data, 15, 0) ∷ (Data, 16, 0) ∷ (DefinitionTitleString, 16, 0) ∷ (DefinitionTitleMarker, 16, 0) ∷
      (DefinitionTitleMarker, 17, 0) ∷ (DefinitionTitle, 17, 0) ∷ (Definition, 17, 0) ∷ (LineEnding, 17, 0) ∷ (LineEnding, 18, 0) ∷ [];
  labels = codes "kea" ∷ [];
  letters = [];
}
