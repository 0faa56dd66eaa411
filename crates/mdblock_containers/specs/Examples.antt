-- What the definition makes of some documents.
use Rattle.std.specs.Prelude.{ℕ, List, [], ◌∷◌, codes, map}
use Rattle.markdown_base.specs.declared.event.Name.{Name}
use Rattle.markdown_base.specs.declared.event.Name.TheVariants.{BlankLineEnding, BlockQuote, BlockQuoteMarker, BlockQuotePrefix, Data, LineEnding, ListItem, ListItemMarker, ListItemPrefix, ListItemValue, ListOrdered, ListUnordered, SpaceOrTab}
use Rattle.markdown_base.specs.Presets.{default_constructs}
use Rattle.markdown_base.specs.Virtual.{virtual}
use Rattle.mdblock_containers.specs.Skeleton.{skeleton}

-- a document, and the events of its skeleton with tab stops at every four columns: the name, the index and the number in a tab of each
pub record Example : Type 0 where
  pub document : List ℕ
  pub events : List (Name × ℕ × ℕ)

abbrev pub skeletons_of : List Example → List (List (Name × ℕ × ℕ))
skeletons_of es = map (λ e. map (λ v. (v.name, v.point.index, v.point.vs)) (skeleton default_constructs e.document (virtual 4 e.document))) es

abbrev pub given_for : List Example → List (List (Name × ℕ × ℕ))
given_for es = map (λ e. e.events) es

-- Quotes, items, lists, lazy lines, blank lines, code and HTML in them
abbrev pub a_few : List Example
a_few =
    (record {
      document = codes "> a\nb\n";
      events = (BlockQuote, 0, 0) ∷ (BlockQuotePrefix, 0, 0) ∷ (BlockQuoteMarker, 0, 0) ∷
          (BlockQuoteMarker, 1, 0) ∷ (SpaceOrTab, 1, 0) ∷ (SpaceOrTab, 2, 0) ∷ (BlockQuotePrefix, 2, 0) ∷ (Data, 2, 0) ∷ (Data, 5, 0) ∷
          (BlockQuote, 5, 0) ∷ (LineEnding, 5, 0) ∷ (LineEnding, 6, 0) ∷ [];
    }) ∷
    (record {
      document = codes "- a\n\n- b\n\n  c\n";
      events = (ListUnordered, 0, 0) ∷ (ListItem, 0, 0) ∷ (ListItemPrefix, 0, 0) ∷
          (ListItemMarker, 0, 0) ∷ (ListItemMarker, 1, 0) ∷ (SpaceOrTab, 1, 0) ∷ (SpaceOrTab, 2, 0) ∷ (ListItemPrefix, 2, 0) ∷ (Data, 2, 0) ∷
          (Data, 3, 0) ∷ (ListItem, 3, 0) ∷ (LineEnding, 3, 0) ∷ (LineEnding, 4, 0) ∷ (BlankLineEnding, 4, 0) ∷ (BlankLineEnding, 5, 0) ∷
          (ListItem, 5, 0) ∷ (ListItemPrefix, 5, 0) ∷ (ListItemMarker, 5, 0) ∷ (ListItemMarker, 6, 0) ∷ (SpaceOrTab, 6, 0) ∷ (SpaceOrTab, 7, 0) ∷
          (ListItemPrefix, 7, 0) ∷ (Data, 7, 0) ∷ (Data, 10, 0) ∷ (SpaceOrTab, 10, 0) ∷ (SpaceOrTab, 12, 0) ∷ (Data, 12, 0) ∷ (Data, 13, 0) ∷
          (ListItem, 13, 0) ∷ (ListUnordered, 13, 0) ∷ (LineEnding, 13, 0) ∷ (LineEnding, 14, 0) ∷ [];
    }) ∷
    (record {
      document = codes "-\n\n- b";
      events = (ListUnordered, 0, 0) ∷ (ListItem, 0, 0) ∷ (ListItemPrefix, 0, 0) ∷ (ListItemMarker, 0, 0) ∷
          (ListItemMarker, 1, 0) ∷ (ListItemPrefix, 1, 0) ∷ (ListItem, 1, 0) ∷ (BlankLineEnding, 1, 0) ∷ (BlankLineEnding, 2, 0) ∷
          (BlankLineEnding, 2, 0) ∷ (BlankLineEnding, 3, 0) ∷ (ListItem, 3, 0) ∷ (ListItemPrefix, 3, 0) ∷ (ListItemMarker, 3, 0) ∷
          (ListItemMarker, 4, 0) ∷ (SpaceOrTab, 4, 0) ∷ (SpaceOrTab, 5, 0) ∷ (ListItemPrefix, 5, 0) ∷ (Data, 5, 0) ∷ (Data, 6, 0) ∷ (ListItem, 6, 0) ∷
          (ListUnordered, 6, 0) ∷ [];
    }) ∷
    (record {
      document = codes "> ```\n> a\n\nb";
      events = (BlockQuote, 0, 0) ∷ (BlockQuotePrefix, 0, 0) ∷ (BlockQuoteMarker, 0, 0) ∷
          (BlockQuoteMarker, 1, 0) ∷ (SpaceOrTab, 1, 0) ∷ (SpaceOrTab, 2, 0) ∷ (BlockQuotePrefix, 2, 0) ∷ (Data, 2, 0) ∷ (Data, 6, 0) ∷
          (BlockQuotePrefix, 6, 0) ∷ (BlockQuoteMarker, 6, 0) ∷ (BlockQuoteMarker, 7, 0) ∷ (SpaceOrTab, 7, 0) ∷ (SpaceOrTab, 8, 0) ∷
          (BlockQuotePrefix, 8, 0) ∷ (Data, 8, 0) ∷ (Data, 10, 0) ∷ (BlockQuote, 10, 0) ∷ (BlankLineEnding, 10, 0) ∷ (BlankLineEnding, 11, 0) ∷
          (Data, 11, 0) ∷ (Data, 12, 0) ∷ [];
    }) ∷
    (record {
      document = codes "- - a\n\n\n  b\n";
      events = (ListUnordered, 0, 0) ∷ (ListItem, 0, 0) ∷ (ListItemPrefix, 0, 0) ∷
          (ListItemMarker, 0, 0) ∷ (ListItemMarker, 1, 0) ∷ (SpaceOrTab, 1, 0) ∷ (SpaceOrTab, 2, 0) ∷ (ListItemPrefix, 2, 0) ∷ (ListUnordered, 2, 0) ∷
          (ListItem, 2, 0) ∷ (ListItemPrefix, 2, 0) ∷ (ListItemMarker, 2, 0) ∷ (ListItemMarker, 3, 0) ∷ (SpaceOrTab, 3, 0) ∷ (SpaceOrTab, 4, 0) ∷
          (ListItemPrefix, 4, 0) ∷ (Data, 4, 0) ∷ (Data, 5, 0) ∷ (ListItem, 5, 0) ∷ (ListUnordered, 5, 0) ∷ (LineEnding, 5, 0) ∷ (LineEnding, 6, 0) ∷
          (BlankLineEnding, 6, 0) ∷ (BlankLineEnding, 7, 0) ∷ (BlankLineEnding, 7, 0) ∷ (BlankLineEnding, 8, 0) ∷ (SpaceOrTab, 8, 0) ∷
          (SpaceOrTab, 10, 0) ∷ (Data, 10, 0) ∷ (Data, 11, 0) ∷ (ListItem, 11, 0) ∷ (ListUnordered, 11, 0) ∷ (LineEnding, 11, 0) ∷
          (LineEnding, 12, 0) ∷ [];
    }) ∷
    (record {
      document = codes "> a\n===\n> ===\n";
      events = (BlockQuote, 0, 0) ∷ (BlockQuotePrefix, 0, 0) ∷ (BlockQuoteMarker, 0, 0) ∷
          (BlockQuoteMarker, 1, 0) ∷ (SpaceOrTab, 1, 0) ∷ (SpaceOrTab, 2, 0) ∷ (BlockQuotePrefix, 2, 0) ∷ (Data, 2, 0) ∷ (Data, 8, 0) ∷
          (BlockQuotePrefix, 8, 0) ∷ (BlockQuoteMarker, 8, 0) ∷ (BlockQuoteMarker, 9, 0) ∷ (SpaceOrTab, 9, 0) ∷ (SpaceOrTab, 10, 0) ∷
          (BlockQuotePrefix, 10, 0) ∷ (Data, 10, 0) ∷ (Data, 13, 0) ∷ (BlockQuote, 13, 0) ∷ (LineEnding, 13, 0) ∷ (LineEnding, 14, 0) ∷ [];
    }) ∷
    (record {
      document = codes "1. a\n2) b";
      events = (ListOrdered, 0, 0) ∷ (ListItem, 0, 0) ∷ (ListItemPrefix, 0, 0) ∷ (ListItemValue, 0, 0) ∷
          (ListItemValue, 1, 0) ∷ (ListItemMarker, 1, 0) ∷ (ListItemMarker, 2, 0) ∷ (SpaceOrTab, 2, 0) ∷ (SpaceOrTab, 3, 0) ∷ (ListItemPrefix, 3, 0) ∷
          (Data, 3, 0) ∷ (Data, 4, 0) ∷ (ListItem, 4, 0) ∷ (ListOrdered, 4, 0) ∷ (LineEnding, 4, 0) ∷ (LineEnding, 5, 0) ∷ (ListOrdered, 5, 0) ∷
          (ListItem, 5, 0) ∷ (ListItemPrefix, 5, 0) ∷ (ListItemValue, 5, 0) ∷ (ListItemValue, 6, 0) ∷ (ListItemMarker, 6, 0) ∷ (ListItemMarker, 7, 0) ∷
          (SpaceOrTab, 7, 0) ∷ (SpaceOrTab, 8, 0) ∷ (ListItemPrefix, 8, 0) ∷ (Data, 8, 0) ∷ (Data, 9, 0) ∷ (ListItem, 9, 0) ∷ (ListOrdered, 9, 0) ∷ [];
    }) ∷
    (record {
      document = codes "- a\n\n\n- b\nc\n+ d";
      events = (ListUnordered, 0, 0) ∷ (ListItem, 0, 0) ∷ (ListItemPrefix, 0, 0) ∷
          (ListItemMarker, 0, 0) ∷ (ListItemMarker, 1, 0) ∷ (SpaceOrTab, 1, 0) ∷ (SpaceOrTab, 2, 0) ∷ (ListItemPrefix, 2, 0) ∷ (Data, 2, 0) ∷
          (Data, 3, 0) ∷ (ListItem, 3, 0) ∷ (LineEnding, 3, 0) ∷ (LineEnding, 4, 0) ∷ (BlankLineEnding, 4, 0) ∷ (BlankLineEnding, 5, 0) ∷
          (BlankLineEnding, 5, 0) ∷ (BlankLineEnding, 6, 0) ∷ (ListItem, 6, 0) ∷ (ListItemPrefix, 6, 0) ∷ (ListItemMarker, 6, 0) ∷
          (ListItemMarker, 7, 0) ∷ (SpaceOrTab, 7, 0) ∷ (SpaceOrTab, 8, 0) ∷ (ListItemPrefix, 8, 0) ∷ (Data, 8, 0) ∷ (Data, 11, 0) ∷ (ListItem, 11, 0) ∷
          (ListUnordered, 11, 0) ∷ (LineEnding, 11, 0) ∷ (LineEnding, 12, 0) ∷ (ListUnordered, 12, 0) ∷ (ListItem, 12, 0) ∷ (ListItemPrefix, 12, 0) ∷
          (ListItemMarker, 12, 0) ∷ (ListItemMarker, 13, 0) ∷ (SpaceOrTab, 13, 0) ∷ (SpaceOrTab, 14, 0) ∷ (ListItemPrefix, 14, 0) ∷ (Data, 14, 0) ∷
          (Data, 15, 0) ∷ (ListItem, 15, 0) ∷ (ListUnordered, 15, 0) ∷ [];
    }) ∷
    (record {
      document = codes "> - a\n>\n> b\n";
      events = (BlockQuote, 0, 0) ∷ (BlockQuotePrefix, 0, 0) ∷ (BlockQuoteMarker, 0, 0) ∷
          (BlockQuoteMarker, 1, 0) ∷ (SpaceOrTab, 1, 0) ∷ (SpaceOrTab, 2, 0) ∷ (BlockQuotePrefix, 2, 0) ∷ (ListUnordered, 2, 0) ∷ (ListItem, 2, 0) ∷
          (ListItemPrefix, 2, 0) ∷ (ListItemMarker, 2, 0) ∷ (ListItemMarker, 3, 0) ∷ (SpaceOrTab, 3, 0) ∷ (SpaceOrTab, 4, 0) ∷ (ListItemPrefix, 4, 0) ∷
          (Data, 4, 0) ∷ (Data, 5, 0) ∷ (ListItem, 5, 0) ∷ (ListUnordered, 5, 0) ∷ (LineEnding, 5, 0) ∷ (LineEnding, 6, 0) ∷ (BlockQuotePrefix, 6, 0) ∷
          (BlockQuoteMarker, 6, 0) ∷ (BlockQuoteMarker, 7, 0) ∷ (BlockQuotePrefix, 7, 0) ∷ (BlankLineEnding, 7, 0) ∷ (BlankLineEnding, 8, 0) ∷
          (BlockQuotePrefix, 8, 0) ∷ (BlockQuoteMarker, 8, 0) ∷ (BlockQuoteMarker, 9, 0) ∷ (SpaceOrTab, 9, 0) ∷ (SpaceOrTab, 10, 0) ∷
          (BlockQuotePrefix, 10, 0) ∷ (Data, 10, 0) ∷ (Data, 11, 0) ∷ (BlockQuote, 11, 0) ∷ (LineEnding, 11, 0) ∷ (LineEnding, 12, 0) ∷ [];
    }) ∷
    (record {
      document = codes "-\ta\n\n\tb\n";
      events = (ListUnordered, 0, 0) ∷ (ListItem, 0, 0) ∷ (ListItemPrefix, 0, 0) ∷ (ListItemMarker, 0, 0) ∷
          (ListItemMarker, 1, 0) ∷ (SpaceOrTab, 1, 0) ∷ (SpaceOrTab, 2, 0) ∷ (ListItemPrefix, 2, 0) ∷ (Data, 2, 0) ∷ (Data, 5, 0) ∷ (SpaceOrTab, 5, 0) ∷
          (SpaceOrTab, 6, 0) ∷ (Data, 6, 0) ∷ (Data, 7, 0) ∷ (ListItem, 7, 0) ∷ (ListUnordered, 7, 0) ∷ (LineEnding, 7, 0) ∷ (LineEnding, 8, 0) ∷ [];
    }) ∷
    (record {
      document = codes "- <!--\n  a\n";
      events = (ListUnordered, 0, 0) ∷ (ListItem, 0, 0) ∷ (ListItemPrefix, 0, 0) ∷ (ListItemMarker, 0, 0) ∷
          (ListItemMarker, 1, 0) ∷ (SpaceOrTab, 1, 0) ∷ (SpaceOrTab, 2, 0) ∷ (ListItemPrefix, 2, 0) ∷ (Data, 2, 0) ∷ (Data, 7, 0) ∷ (SpaceOrTab, 7, 0) ∷
          (SpaceOrTab, 9, 0) ∷ (Data, 9, 0) ∷ (Data, 11, 0) ∷ (ListItem, 11, 0) ∷ (ListUnordered, 11, 0) ∷ [];
    }) ∷
    (record {
      document = codes " * * * a\n";
      events = (ListUnordered, 0, 0) ∷ (ListItem, 0, 0) ∷ (SpaceOrTab, 0, 0) ∷ (SpaceOrTab, 1, 0) ∷
          (ListItemPrefix, 1, 0) ∷ (ListItemMarker, 1, 0) ∷ (ListItemMarker, 2, 0) ∷ (SpaceOrTab, 2, 0) ∷ (SpaceOrTab, 3, 0) ∷ (ListItemPrefix, 3, 0) ∷
          (ListUnordered, 3, 0) ∷ (ListItem, 3, 0) ∷ (ListItemPrefix, 3, 0) ∷ (ListItemMarker, 3, 0) ∷ (ListItemMarker, 4, 0) ∷ (SpaceOrTab, 4, 0) ∷
          (SpaceOrTab, 5, 0) ∷ (ListItemPrefix, 5, 0) ∷ (ListUnordered, 5, 0) ∷ (ListItem, 5, 0) ∷ (ListItemPrefix, 5, 0) ∷ (ListItemMarker, 5, 0) ∷
          (ListItemMarker, 6, 0) ∷ (SpaceOrTab, 6, 0) ∷ (SpaceOrTab, 7, 0) ∷ (ListItemPrefix, 7, 0) ∷ (Data, 7, 0) ∷ (Data, 8, 0) ∷ (ListItem, 8, 0) ∷
          (ListUnordered, 8, 0) ∷ (ListItem, 8, 0) ∷ (ListUnordered, 8, 0) ∷ (ListItem, 8, 0) ∷ (ListUnordered, 8, 0) ∷ (LineEnding, 8, 0) ∷
          (LineEnding, 9, 0) ∷ [];
    }) ∷
    []

-- No container begins, though marks stand there
abbrev pub without_containers : List Example
without_containers =
    (record { document = codes "1.-===<!--a"; events = (Data, 0, 0) ∷ (Data, 11, 0) ∷ [] }) ∷
    (record { document = codes "1.1.* * *\t"; events = (Data, 0, 0) ∷ (Data, 10, 0) ∷ [] }) ∷
    (record { document = codes "# 2)     "; events = (Data, 0, 0) ∷ (Data, 9, 0) ∷ [] }) ∷
    (record { document = codes "-->\n \n<!--\n\n- <div>"; events = (Data, 0, 0) ∷ (Data, 19, 0) ∷ [] }) ∷
    (record { document = codes "------# 1.---"; events = (Data, 0, 0) ∷ (Data, 13, 0) ∷ [] }) ∷
    (record { document = codes "--><div>* * *<!--  2) "; events = (Data, 0, 0) ∷ (Data, 22, 0) ∷ [] }) ∷
    (record {
      document = codes "    \n- ---";
      events = (SpaceOrTab, 0, 0) ∷ (SpaceOrTab, 4, 0) ∷ (BlankLineEnding, 4, 0) ∷ (BlankLineEnding, 5, 0) ∷
          (Data, 5, 0) ∷ (Data, 10, 0) ∷ [];
    }) ∷
    (record { document = codes "\r\n# \n-2)  "; events = (BlankLineEnding, 0, 0) ∷ (BlankLineEnding, 2, 0) ∷ (Data, 2, 0) ∷ (Data, 10, 0) ∷ [] }) ∷
    (record { document = codes "```\n> >\t  - "; events = (Data, 0, 0) ∷ (Data, 12, 0) ∷ [] }) ∷
    (record { document = codes "    2) > 2) 1.2) "; events = (Data, 0, 0) ∷ (Data, 17, 0) ∷ [] }) ∷
    (record { document = codes "1.# \n"; events = (Data, 0, 0) ∷ (Data, 4, 0) ∷ (LineEnding, 4, 0) ∷ (LineEnding, 5, 0) ∷ [] }) ∷
    (record { document = codes "```\n\n---"; events = (Data, 0, 0) ∷ (Data, 8, 0) ∷ [] }) ∷
    (record { document = codes "->>> "; events = (Data, 0, 0) ∷ (Data, 5, 0) ∷ [] }) ∷
    (record { document = codes "1.---* * *\n<!--\n\n```\n---<!--"; events = (Data, 0, 0) ∷ (Data, 28, 0) ∷ [] }) ∷
    (record { document = codes "\n---"; events = (BlankLineEnding, 0, 0) ∷ (BlankLineEnding, 1, 0) ∷ (Data, 1, 0) ∷ (Data, 4, 0) ∷ [] }) ∷
    (record {
      document = codes "\n-->\n\n---\n\n";
      events = (BlankLineEnding, 0, 0) ∷ (BlankLineEnding, 1, 0) ∷ (Data, 1, 0) ∷ (Data, 9, 0) ∷
          (LineEnding, 9, 0) ∷ (LineEnding, 10, 0) ∷ (BlankLineEnding, 10, 0) ∷ (BlankLineEnding, 11, 0) ∷ [];
    }) ∷
    (record { document = codes "\r\n===* * *"; events = (BlankLineEnding, 0, 0) ∷ (BlankLineEnding, 2, 0) ∷ (Data, 2, 0) ∷ (Data, 10, 0) ∷ [] }) ∷
    (record { document = codes "<!--- \n\n* * *    \n>==="; events = (Data, 0, 0) ∷ (Data, 22, 0) ∷ [] }) ∷
    (record { document = codes "a\n\n    >   * * *```\n\r\n<!--==="; events = (Data, 0, 0) ∷ (Data, 29, 0) ∷ [] }) ∷
    (record { document = codes "===\n<div>>\n     # "; events = (Data, 0, 0) ∷ (Data, 18, 0) ∷ [] }) ∷
    (record { document = codes "<div><!---->```\n> - >"; events = (Data, 0, 0) ∷ (Data, 21, 0) ∷ [] }) ∷
    (record { document = codes "# -<!--<div>\n\n# a>\t- -->> 1."; events = (Data, 0, 0) ∷ (Data, 28, 0) ∷ [] }) ∷
    (record { document = codes "\n<!--===-- -# \t"; events = (BlankLineEnding, 0, 0) ∷ (BlankLineEnding, 1, 0) ∷ (Data, 1, 0) ∷ (Data, 15, 0) ∷ [] }) ∷
    (record { document = codes "-<div> \t    a"; events = (Data, 0, 0) ∷ (Data, 13, 0) ∷ [] }) ∷
    (record { document = codes "<!--2) \n\n<div>>    "; events = (Data, 0, 0) ∷ (Data, 19, 0) ∷ [] }) ∷
    (record { document = codes "<div>-<!--"; events = (Data, 0, 0) ∷ (Data, 10, 0) ∷ [] }) ∷
    (record { document = codes "a\n\n# \t    2) a---"; events = (Data, 0, 0) ∷ (Data, 17, 0) ∷ [] }) ∷
    (record { document = codes "# a    "; events = (Data, 0, 0) ∷ (Data, 7, 0) ∷ [] }) ∷
    (record {
      document = codes "    \n#     1.  ===# \n";
      events = (SpaceOrTab, 0, 0) ∷ (SpaceOrTab, 4, 0) ∷ (BlankLineEnding, 4, 0) ∷
          (BlankLineEnding, 5, 0) ∷ (Data, 5, 0) ∷ (Data, 20, 0) ∷ (LineEnding, 20, 0) ∷ (LineEnding, 21, 0) ∷ [];
    }) ∷
    (record { document = codes " <div>```\n  <div># "; events = (Data, 0, 0) ∷ (Data, 19, 0) ∷ [] }) ∷
    (record { document = codes "======# > a-->- "; events = (Data, 0, 0) ∷ (Data, 16, 0) ∷ [] }) ∷
    []

-- Block quotes
abbrev pub quotes : List Example
quotes =
    (record {
      document = codes "> * * *\n\n\n\n\n";
      events = (BlockQuote, 0, 0) ∷ (BlockQuotePrefix, 0, 0) ∷ (BlockQuoteMarker, 0, 0) ∷
          (BlockQuoteMarker, 1, 0) ∷ (SpaceOrTab, 1, 0) ∷ (SpaceOrTab, 2, 0) ∷ (BlockQuotePrefix, 2, 0) ∷ (Data, 2, 0) ∷ (Data, 7, 0) ∷
          (BlockQuote, 7, 0) ∷ (LineEnding, 7, 0) ∷ (LineEnding, 8, 0) ∷ (BlankLineEnding, 8, 0) ∷ (BlankLineEnding, 9, 0) ∷ (BlankLineEnding, 9, 0) ∷
          (BlankLineEnding, 10, 0) ∷ (BlankLineEnding, 10, 0) ∷ (BlankLineEnding, 11, 0) ∷ (BlankLineEnding, 11, 0) ∷ (BlankLineEnding, 12, 0) ∷ [];
    }) ∷
    (record {
      document = codes ">  \n";
      events = (BlockQuote, 0, 0) ∷ (BlockQuotePrefix, 0, 0) ∷ (BlockQuoteMarker, 0, 0) ∷ (BlockQuoteMarker, 1, 0) ∷
          (SpaceOrTab, 1, 0) ∷ (SpaceOrTab, 2, 0) ∷ (BlockQuotePrefix, 2, 0) ∷ (SpaceOrTab, 2, 0) ∷ (SpaceOrTab, 3, 0) ∷ (BlockQuote, 3, 0) ∷
          (BlankLineEnding, 3, 0) ∷ (BlankLineEnding, 4, 0) ∷ [];
    }) ∷
    (record {
      document = codes "1.a\n\n===#  2) \r\n> ";
      events = (Data, 0, 0) ∷ (Data, 14, 0) ∷ (LineEnding, 14, 0) ∷ (LineEnding, 16, 0) ∷
          (BlockQuote, 16, 0) ∷ (BlockQuotePrefix, 16, 0) ∷ (BlockQuoteMarker, 16, 0) ∷ (BlockQuoteMarker, 17, 0) ∷ (SpaceOrTab, 17, 0) ∷
          (SpaceOrTab, 18, 0) ∷ (BlockQuotePrefix, 18, 0) ∷ (BlockQuote, 18, 0) ∷ [];
    }) ∷
    (record {
      document = codes ">```\n \t\t1.\r\n";
      events = (BlockQuote, 0, 0) ∷ (BlockQuotePrefix, 0, 0) ∷ (BlockQuoteMarker, 0, 0) ∷
          (BlockQuoteMarker, 1, 0) ∷ (BlockQuotePrefix, 1, 0) ∷ (Data, 1, 0) ∷ (Data, 5, 0) ∷ (BlockQuote, 5, 0) ∷ (Data, 5, 0) ∷ (Data, 10, 0) ∷
          (LineEnding, 10, 0) ∷ (LineEnding, 12, 0) ∷ [];
    }) ∷
    (record {
      document = codes "===-->===2) 1.```\n---\r\n> ";
      events = (Data, 0, 0) ∷ (Data, 21, 0) ∷ (LineEnding, 21, 0) ∷ (LineEnding, 23, 0) ∷
          (BlockQuote, 23, 0) ∷ (BlockQuotePrefix, 23, 0) ∷ (BlockQuoteMarker, 23, 0) ∷ (BlockQuoteMarker, 24, 0) ∷ (SpaceOrTab, 24, 0) ∷
          (SpaceOrTab, 25, 0) ∷ (BlockQuotePrefix, 25, 0) ∷ (BlockQuote, 25, 0) ∷ [];
    }) ∷
    []

-- Items and lists
abbrev pub items : List Example
items =
    (record {
      document = codes "1.>\n--><div>\t\n\n -\n\n";
      events = (Data, 0, 0) ∷ (Data, 13, 0) ∷ (LineEnding, 13, 0) ∷ (LineEnding, 14, 0) ∷
          (BlankLineEnding, 14, 0) ∷ (BlankLineEnding, 15, 0) ∷ (ListUnordered, 15, 0) ∷ (ListItem, 15, 0) ∷ (SpaceOrTab, 15, 0) ∷ (SpaceOrTab, 16, 0) ∷
          (ListItemPrefix, 16, 0) ∷ (ListItemMarker, 16, 0) ∷ (ListItemMarker, 17, 0) ∷ (ListItemPrefix, 17, 0) ∷ (ListItem, 17, 0) ∷
          (ListUnordered, 17, 0) ∷ (BlankLineEnding, 17, 0) ∷ (BlankLineEnding, 18, 0) ∷ (BlankLineEnding, 18, 0) ∷ (BlankLineEnding, 19, 0) ∷ [];
    }) ∷
    (record {
      document = codes "* * ** * *```\n\n\n ";
      events = (ListUnordered, 0, 0) ∷ (ListItem, 0, 0) ∷ (ListItemPrefix, 0, 0) ∷
          (ListItemMarker, 0, 0) ∷ (ListItemMarker, 1, 0) ∷ (SpaceOrTab, 1, 0) ∷ (SpaceOrTab, 2, 0) ∷ (ListItemPrefix, 2, 0) ∷ (ListUnordered, 2, 0) ∷
          (ListItem, 2, 0) ∷ (ListItemPrefix, 2, 0) ∷ (ListItemMarker, 2, 0) ∷ (ListItemMarker, 3, 0) ∷ (SpaceOrTab, 3, 0) ∷ (SpaceOrTab, 4, 0) ∷
          (ListItemPrefix, 4, 0) ∷ (Data, 4, 0) ∷ (Data, 13, 0) ∷ (ListItem, 13, 0) ∷ (ListUnordered, 13, 0) ∷ (ListItem, 13, 0) ∷
          (ListUnordered, 13, 0) ∷ (LineEnding, 13, 0) ∷ (LineEnding, 14, 0) ∷ (BlankLineEnding, 14, 0) ∷ (BlankLineEnding, 15, 0) ∷
          (BlankLineEnding, 15, 0) ∷ (BlankLineEnding, 16, 0) ∷ (SpaceOrTab, 16, 0) ∷ (SpaceOrTab, 17, 0) ∷ [];
    }) ∷
    (record {
      document = codes "---\r\n2) * * *<div>\n2) ";
      events = (Data, 0, 0) ∷ (Data, 3, 0) ∷ (LineEnding, 3, 0) ∷ (LineEnding, 5, 0) ∷
          (ListOrdered, 5, 0) ∷ (ListItem, 5, 0) ∷ (ListItemPrefix, 5, 0) ∷ (ListItemValue, 5, 0) ∷ (ListItemValue, 6, 0) ∷ (ListItemMarker, 6, 0) ∷
          (ListItemMarker, 7, 0) ∷ (SpaceOrTab, 7, 0) ∷ (SpaceOrTab, 8, 0) ∷ (ListItemPrefix, 8, 0) ∷ (ListUnordered, 8, 0) ∷ (ListItem, 8, 0) ∷
          (ListItemPrefix, 8, 0) ∷ (ListItemMarker, 8, 0) ∷ (ListItemMarker, 9, 0) ∷ (SpaceOrTab, 9, 0) ∷ (SpaceOrTab, 10, 0) ∷ (ListItemPrefix, 10, 0) ∷
          (ListUnordered, 10, 0) ∷ (ListItem, 10, 0) ∷ (ListItemPrefix, 10, 0) ∷ (ListItemMarker, 10, 0) ∷ (ListItemMarker, 11, 0) ∷ (SpaceOrTab, 11, 0) ∷
          (SpaceOrTab, 12, 0) ∷ (ListItemPrefix, 12, 0) ∷ (Data, 12, 0) ∷ (Data, 18, 0) ∷ (ListItem, 18, 0) ∷ (ListUnordered, 18, 0) ∷ (ListItem, 18, 0) ∷
          (ListUnordered, 18, 0) ∷ (ListItem, 18, 0) ∷ (LineEnding, 18, 0) ∷ (LineEnding, 19, 0) ∷ (ListItem, 19, 0) ∷ (ListItemPrefix, 19, 0) ∷
          (ListItemValue, 19, 0) ∷ (ListItemValue, 20, 0) ∷ (ListItemMarker, 20, 0) ∷ (ListItemMarker, 21, 0) ∷ (ListItemPrefix, 21, 0) ∷
          (SpaceOrTab, 21, 0) ∷ (SpaceOrTab, 22, 0) ∷ (ListItem, 22, 0) ∷ (ListOrdered, 22, 0) ∷ [];
    }) ∷
    (record {
      document = codes "* * *---#     ";
      events = (ListUnordered, 0, 0) ∷ (ListItem, 0, 0) ∷ (ListItemPrefix, 0, 0) ∷ (ListItemMarker, 0, 0) ∷
          (ListItemMarker, 1, 0) ∷ (SpaceOrTab, 1, 0) ∷ (SpaceOrTab, 2, 0) ∷ (ListItemPrefix, 2, 0) ∷ (ListUnordered, 2, 0) ∷ (ListItem, 2, 0) ∷
          (ListItemPrefix, 2, 0) ∷ (ListItemMarker, 2, 0) ∷ (ListItemMarker, 3, 0) ∷ (SpaceOrTab, 3, 0) ∷ (SpaceOrTab, 4, 0) ∷ (ListItemPrefix, 4, 0) ∷
          (Data, 4, 0) ∷ (Data, 14, 0) ∷ (ListItem, 14, 0) ∷ (ListUnordered, 14, 0) ∷ (ListItem, 14, 0) ∷ (ListUnordered, 14, 0) ∷ [];
    }) ∷
    (record {
      document = codes "\n* * *---\n<!--\n>>\n\n";
      events = (BlankLineEnding, 0, 0) ∷ (BlankLineEnding, 1, 0) ∷ (ListUnordered, 1, 0) ∷
          (ListItem, 1, 0) ∷ (ListItemPrefix, 1, 0) ∷ (ListItemMarker, 1, 0) ∷ (ListItemMarker, 2, 0) ∷ (SpaceOrTab, 2, 0) ∷ (SpaceOrTab, 3, 0) ∷
          (ListItemPrefix, 3, 0) ∷ (ListUnordered, 3, 0) ∷ (ListItem, 3, 0) ∷ (ListItemPrefix, 3, 0) ∷ (ListItemMarker, 3, 0) ∷ (ListItemMarker, 4, 0) ∷
          (SpaceOrTab, 4, 0) ∷ (SpaceOrTab, 5, 0) ∷ (ListItemPrefix, 5, 0) ∷ (Data, 5, 0) ∷ (Data, 9, 0) ∷ (ListItem, 9, 0) ∷ (ListUnordered, 9, 0) ∷
          (ListItem, 9, 0) ∷ (ListUnordered, 9, 0) ∷ (LineEnding, 9, 0) ∷ (LineEnding, 10, 0) ∷ (Data, 10, 0) ∷ (Data, 19, 0) ∷ [];
    }) ∷
    (record {
      document = codes "* * *2) ----->\n* * *    \n\n2) ";
      events = (ListUnordered, 0, 0) ∷ (ListItem, 0, 0) ∷ (ListItemPrefix, 0, 0) ∷
          (ListItemMarker, 0, 0) ∷ (ListItemMarker, 1, 0) ∷ (SpaceOrTab, 1, 0) ∷ (SpaceOrTab, 2, 0) ∷ (ListItemPrefix, 2, 0) ∷ (ListUnordered, 2, 0) ∷
          (ListItem, 2, 0) ∷ (ListItemPrefix, 2, 0) ∷ (ListItemMarker, 2, 0) ∷ (ListItemMarker, 3, 0) ∷ (SpaceOrTab, 3, 0) ∷ (SpaceOrTab, 4, 0) ∷
          (ListItemPrefix, 4, 0) ∷ (Data, 4, 0) ∷ (Data, 14, 0) ∷ (ListItem, 14, 0) ∷ (ListUnordered, 14, 0) ∷ (ListItem, 14, 0) ∷
          (ListUnordered, 14, 0) ∷ (LineEnding, 14, 0) ∷ (LineEnding, 15, 0) ∷ (Data, 15, 0) ∷ (Data, 24, 0) ∷ (LineEnding, 24, 0) ∷ (LineEnding, 25, 0) ∷
          (BlankLineEnding, 25, 0) ∷ (BlankLineEnding, 26, 0) ∷ (ListOrdered, 26, 0) ∷ (ListItem, 26, 0) ∷ (ListItemPrefix, 26, 0) ∷
          (ListItemValue, 26, 0) ∷ (ListItemValue, 27, 0) ∷ (ListItemMarker, 27, 0) ∷ (ListItemMarker, 28, 0) ∷ (ListItemPrefix, 28, 0) ∷
          (SpaceOrTab, 28, 0) ∷ (SpaceOrTab, 29, 0) ∷ (ListItem, 29, 0) ∷ (ListOrdered, 29, 0) ∷ [];
    }) ∷
    (record {
      document = codes "- - <div>```\n===\n1.";
      events = (ListUnordered, 0, 0) ∷ (ListItem, 0, 0) ∷ (ListItemPrefix, 0, 0) ∷
          (ListItemMarker, 0, 0) ∷ (ListItemMarker, 1, 0) ∷ (SpaceOrTab, 1, 0) ∷ (SpaceOrTab, 2, 0) ∷ (ListItemPrefix, 2, 0) ∷ (ListUnordered, 2, 0) ∷
          (ListItem, 2, 0) ∷ (ListItemPrefix, 2, 0) ∷ (ListItemMarker, 2, 0) ∷ (ListItemMarker, 3, 0) ∷ (SpaceOrTab, 3, 0) ∷ (SpaceOrTab, 4, 0) ∷
          (ListItemPrefix, 4, 0) ∷ (Data, 4, 0) ∷ (Data, 12, 0) ∷ (ListItem, 12, 0) ∷ (ListUnordered, 12, 0) ∷ (ListItem, 12, 0) ∷
          (ListUnordered, 12, 0) ∷ (LineEnding, 12, 0) ∷ (LineEnding, 13, 0) ∷ (Data, 13, 0) ∷ (Data, 19, 0) ∷ [];
    }) ∷
    (record {
      document = codes "------  ```\n- * * *\n* * *1.<!--";
      events = (Data, 0, 0) ∷ (Data, 11, 0) ∷ (LineEnding, 11, 0) ∷
          (LineEnding, 12, 0) ∷ (ListUnordered, 12, 0) ∷ (ListItem, 12, 0) ∷ (ListItemPrefix, 12, 0) ∷ (ListItemMarker, 12, 0) ∷ (ListItemMarker, 13, 0) ∷
          (SpaceOrTab, 13, 0) ∷ (SpaceOrTab, 14, 0) ∷ (ListItemPrefix, 14, 0) ∷ (Data, 14, 0) ∷ (Data, 19, 0) ∷ (ListItem, 19, 0) ∷
          (ListUnordered, 19, 0) ∷ (LineEnding, 19, 0) ∷ (LineEnding, 20, 0) ∷ (ListUnordered, 20, 0) ∷ (ListItem, 20, 0) ∷ (ListItemPrefix, 20, 0) ∷
          (ListItemMarker, 20, 0) ∷ (ListItemMarker, 21, 0) ∷ (SpaceOrTab, 21, 0) ∷ (SpaceOrTab, 22, 0) ∷ (ListItemPrefix, 22, 0) ∷
          (ListUnordered, 22, 0) ∷ (ListItem, 22, 0) ∷ (ListItemPrefix, 22, 0) ∷ (ListItemMarker, 22, 0) ∷ (ListItemMarker, 23, 0) ∷ (SpaceOrTab, 23, 0) ∷
          (SpaceOrTab, 24, 0) ∷ (ListItemPrefix, 24, 0) ∷ (Data, 24, 0) ∷ (Data, 31, 0) ∷ (ListItem, 31, 0) ∷ (ListUnordered, 31, 0) ∷ (ListItem, 31, 0) ∷
          (ListUnordered, 31, 0) ∷ [];
    }) ∷
    (record {
      document = codes "* * *1.";
      events = (ListUnordered, 0, 0) ∷ (ListItem, 0, 0) ∷ (ListItemPrefix, 0, 0) ∷ (ListItemMarker, 0, 0) ∷
          (ListItemMarker, 1, 0) ∷ (SpaceOrTab, 1, 0) ∷ (SpaceOrTab, 2, 0) ∷ (ListItemPrefix, 2, 0) ∷ (ListUnordered, 2, 0) ∷ (ListItem, 2, 0) ∷
          (ListItemPrefix, 2, 0) ∷ (ListItemMarker, 2, 0) ∷ (ListItemMarker, 3, 0) ∷ (SpaceOrTab, 3, 0) ∷ (SpaceOrTab, 4, 0) ∷ (ListItemPrefix, 4, 0) ∷
          (Data, 4, 0) ∷ (Data, 7, 0) ∷ (ListItem, 7, 0) ∷ (ListUnordered, 7, 0) ∷ (ListItem, 7, 0) ∷ (ListUnordered, 7, 0) ∷ [];
    }) ∷
    (record {
      document = codes "# <!---->- -->\n---1.\t\n * * *> ";
      events = (Data, 0, 0) ∷ (Data, 21, 0) ∷ (LineEnding, 21, 0) ∷
          (LineEnding, 22, 0) ∷ (ListUnordered, 22, 0) ∷ (ListItem, 22, 0) ∷ (SpaceOrTab, 22, 0) ∷ (SpaceOrTab, 23, 0) ∷ (ListItemPrefix, 23, 0) ∷
          (ListItemMarker, 23, 0) ∷ (ListItemMarker, 24, 0) ∷ (SpaceOrTab, 24, 0) ∷ (SpaceOrTab, 25, 0) ∷ (ListItemPrefix, 25, 0) ∷
          (ListUnordered, 25, 0) ∷ (ListItem, 25, 0) ∷ (ListItemPrefix, 25, 0) ∷ (ListItemMarker, 25, 0) ∷ (ListItemMarker, 26, 0) ∷ (SpaceOrTab, 26, 0) ∷
          (SpaceOrTab, 27, 0) ∷ (ListItemPrefix, 27, 0) ∷ (Data, 27, 0) ∷ (Data, 30, 0) ∷ (ListItem, 30, 0) ∷ (ListUnordered, 30, 0) ∷ (ListItem, 30, 0) ∷
          (ListUnordered, 30, 0) ∷ [];
    }) ∷
    (record {
      document = codes " 1.\t\n\r\n\t    # - - ===";
      events = (ListOrdered, 0, 0) ∷ (ListItem, 0, 0) ∷ (SpaceOrTab, 0, 0) ∷
          (SpaceOrTab, 1, 0) ∷ (ListItemPrefix, 1, 0) ∷ (ListItemValue, 1, 0) ∷ (ListItemValue, 2, 0) ∷ (ListItemMarker, 2, 0) ∷ (ListItemMarker, 3, 0) ∷
          (ListItemPrefix, 3, 0) ∷ (SpaceOrTab, 3, 0) ∷ (SpaceOrTab, 4, 0) ∷ (ListItem, 4, 0) ∷ (ListOrdered, 4, 0) ∷ (BlankLineEnding, 4, 0) ∷
          (BlankLineEnding, 5, 0) ∷ (BlankLineEnding, 5, 0) ∷ (BlankLineEnding, 7, 0) ∷ (Data, 7, 0) ∷ (Data, 21, 0) ∷ [];
    }) ∷
    (record {
      document = codes " 2) * * *\t2)  1.> # > -->- ";
      events = (ListOrdered, 0, 0) ∷ (ListItem, 0, 0) ∷ (SpaceOrTab, 0, 0) ∷
          (SpaceOrTab, 1, 0) ∷ (ListItemPrefix, 1, 0) ∷ (ListItemValue, 1, 0) ∷ (ListItemValue, 2, 0) ∷ (ListItemMarker, 2, 0) ∷ (ListItemMarker, 3, 0) ∷
          (SpaceOrTab, 3, 0) ∷ (SpaceOrTab, 4, 0) ∷ (ListItemPrefix, 4, 0) ∷ (ListUnordered, 4, 0) ∷ (ListItem, 4, 0) ∷ (ListItemPrefix, 4, 0) ∷
          (ListItemMarker, 4, 0) ∷ (ListItemMarker, 5, 0) ∷ (SpaceOrTab, 5, 0) ∷ (SpaceOrTab, 6, 0) ∷ (ListItemPrefix, 6, 0) ∷ (ListUnordered, 6, 0) ∷
          (ListItem, 6, 0) ∷ (ListItemPrefix, 6, 0) ∷ (ListItemMarker, 6, 0) ∷ (ListItemMarker, 7, 0) ∷ (SpaceOrTab, 7, 0) ∷ (SpaceOrTab, 8, 0) ∷
          (ListItemPrefix, 8, 0) ∷ (ListUnordered, 8, 0) ∷ (ListItem, 8, 0) ∷ (ListItemPrefix, 8, 0) ∷ (ListItemMarker, 8, 0) ∷ (ListItemMarker, 9, 0) ∷
          (SpaceOrTab, 9, 0) ∷ (SpaceOrTab, 10, 0) ∷ (ListItemPrefix, 10, 0) ∷ (ListOrdered, 10, 0) ∷ (ListItem, 10, 0) ∷ (ListItemPrefix, 10, 0) ∷
          (ListItemValue, 10, 0) ∷ (ListItemValue, 11, 0) ∷ (ListItemMarker, 11, 0) ∷ (ListItemMarker, 12, 0) ∷ (SpaceOrTab, 12, 0) ∷
          (SpaceOrTab, 14, 0) ∷ (ListItemPrefix, 14, 0) ∷ (Data, 14, 0) ∷ (Data, 27, 0) ∷ (ListItem, 27, 0) ∷ (ListOrdered, 27, 0) ∷ (ListItem, 27, 0) ∷
          (ListUnordered, 27, 0) ∷ (ListItem, 27, 0) ∷ (ListUnordered, 27, 0) ∷ (ListItem, 27, 0) ∷ (ListUnordered, 27, 0) ∷ (ListItem, 27, 0) ∷
          (ListOrdered, 27, 0) ∷ [];
    }) ∷
    (record {
      document = codes "-  \r\n<!--    \r\n";
      events = (ListUnordered, 0, 0) ∷ (ListItem, 0, 0) ∷ (ListItemPrefix, 0, 0) ∷
          (ListItemMarker, 0, 0) ∷ (ListItemMarker, 1, 0) ∷ (ListItemPrefix, 1, 0) ∷ (SpaceOrTab, 1, 0) ∷ (SpaceOrTab, 3, 0) ∷ (ListItem, 3, 0) ∷
          (ListUnordered, 3, 0) ∷ (BlankLineEnding, 3, 0) ∷ (BlankLineEnding, 5, 0) ∷ (Data, 5, 0) ∷ (Data, 15, 0) ∷ [];
    }) ∷
    (record {
      document = codes "- * * *";
      events = (ListUnordered, 0, 0) ∷ (ListItem, 0, 0) ∷ (ListItemPrefix, 0, 0) ∷ (ListItemMarker, 0, 0) ∷
          (ListItemMarker, 1, 0) ∷ (SpaceOrTab, 1, 0) ∷ (SpaceOrTab, 2, 0) ∷ (ListItemPrefix, 2, 0) ∷ (Data, 2, 0) ∷ (Data, 7, 0) ∷ (ListItem, 7, 0) ∷
          (ListUnordered, 7, 0) ∷ [];
    }) ∷
    (record {
      document = codes "  \n1.\t\n2) <div>* * *-->";
      events = (SpaceOrTab, 0, 0) ∷ (SpaceOrTab, 2, 0) ∷ (BlankLineEnding, 2, 0) ∷
          (BlankLineEnding, 3, 0) ∷ (ListOrdered, 3, 0) ∷ (ListItem, 3, 0) ∷ (ListItemPrefix, 3, 0) ∷ (ListItemValue, 3, 0) ∷ (ListItemValue, 4, 0) ∷
          (ListItemMarker, 4, 0) ∷ (ListItemMarker, 5, 0) ∷ (ListItemPrefix, 5, 0) ∷ (SpaceOrTab, 5, 0) ∷ (SpaceOrTab, 6, 0) ∷ (ListItem, 6, 0) ∷
          (ListOrdered, 6, 0) ∷ (BlankLineEnding, 6, 0) ∷ (BlankLineEnding, 7, 0) ∷ (ListOrdered, 7, 0) ∷ (ListItem, 7, 0) ∷ (ListItemPrefix, 7, 0) ∷
          (ListItemValue, 7, 0) ∷ (ListItemValue, 8, 0) ∷ (ListItemMarker, 8, 0) ∷ (ListItemMarker, 9, 0) ∷ (SpaceOrTab, 9, 0) ∷ (SpaceOrTab, 10, 0) ∷
          (ListItemPrefix, 10, 0) ∷ (Data, 10, 0) ∷ (Data, 23, 0) ∷ (ListItem, 23, 0) ∷ (ListOrdered, 23, 0) ∷ [];
    }) ∷
    []

-- Both, in one another
abbrev pub quotes_and_items : List Example
quotes_and_items =
    (record {
      document = codes "- > ===";
      events = (ListUnordered, 0, 0) ∷ (ListItem, 0, 0) ∷ (ListItemPrefix, 0, 0) ∷ (ListItemMarker, 0, 0) ∷
          (ListItemMarker, 1, 0) ∷ (SpaceOrTab, 1, 0) ∷ (SpaceOrTab, 2, 0) ∷ (ListItemPrefix, 2, 0) ∷ (BlockQuote, 2, 0) ∷ (BlockQuotePrefix, 2, 0) ∷
          (BlockQuoteMarker, 2, 0) ∷ (BlockQuoteMarker, 3, 0) ∷ (SpaceOrTab, 3, 0) ∷ (SpaceOrTab, 4, 0) ∷ (BlockQuotePrefix, 4, 0) ∷ (Data, 4, 0) ∷
          (Data, 7, 0) ∷ (BlockQuote, 7, 0) ∷ (ListItem, 7, 0) ∷ (ListUnordered, 7, 0) ∷ [];
    }) ∷
    (record {
      document = codes "> 1.\r\n  1.-->";
      events = (BlockQuote, 0, 0) ∷ (BlockQuotePrefix, 0, 0) ∷ (BlockQuoteMarker, 0, 0) ∷
          (BlockQuoteMarker, 1, 0) ∷ (SpaceOrTab, 1, 0) ∷ (SpaceOrTab, 2, 0) ∷ (BlockQuotePrefix, 2, 0) ∷ (ListOrdered, 2, 0) ∷ (ListItem, 2, 0) ∷
          (ListItemPrefix, 2, 0) ∷ (ListItemValue, 2, 0) ∷ (ListItemValue, 3, 0) ∷ (ListItemMarker, 3, 0) ∷ (ListItemMarker, 4, 0) ∷
          (ListItemPrefix, 4, 0) ∷ (ListItem, 4, 0) ∷ (ListOrdered, 4, 0) ∷ (BlockQuote, 4, 0) ∷ (BlankLineEnding, 4, 0) ∷ (BlankLineEnding, 6, 0) ∷
          (Data, 6, 0) ∷ (Data, 13, 0) ∷ [];
    }) ∷
    (record {
      document = codes " \n1.\n\n>- >```\n* * *";
      events = (SpaceOrTab, 0, 0) ∷ (SpaceOrTab, 1, 0) ∷ (BlankLineEnding, 1, 0) ∷
          (BlankLineEnding, 2, 0) ∷ (ListOrdered, 2, 0) ∷ (ListItem, 2, 0) ∷ (ListItemPrefix, 2, 0) ∷ (ListItemValue, 2, 0) ∷ (ListItemValue, 3, 0) ∷
          (ListItemMarker, 3, 0) ∷ (ListItemMarker, 4, 0) ∷ (ListItemPrefix, 4, 0) ∷ (ListItem, 4, 0) ∷ (ListOrdered, 4, 0) ∷ (BlankLineEnding, 4, 0) ∷
          (BlankLineEnding, 5, 0) ∷ (BlankLineEnding, 5, 0) ∷ (BlankLineEnding, 6, 0) ∷ (BlockQuote, 6, 0) ∷ (BlockQuotePrefix, 6, 0) ∷
          (BlockQuoteMarker, 6, 0) ∷ (BlockQuoteMarker, 7, 0) ∷ (BlockQuotePrefix, 7, 0) ∷ (ListUnordered, 7, 0) ∷ (ListItem, 7, 0) ∷
          (ListItemPrefix, 7, 0) ∷ (ListItemMarker, 7, 0) ∷ (ListItemMarker, 8, 0) ∷ (SpaceOrTab, 8, 0) ∷ (SpaceOrTab, 9, 0) ∷ (ListItemPrefix, 9, 0) ∷
          (BlockQuote, 9, 0) ∷ (BlockQuotePrefix, 9, 0) ∷ (BlockQuoteMarker, 9, 0) ∷ (BlockQuoteMarker, 10, 0) ∷ (BlockQuotePrefix, 10, 0) ∷
          (Data, 10, 0) ∷ (Data, 14, 0) ∷ (BlockQuote, 14, 0) ∷ (ListItem, 14, 0) ∷ (ListUnordered, 14, 0) ∷ (BlockQuote, 14, 0) ∷ (Data, 14, 0) ∷
          (Data, 19, 0) ∷ [];
    }) ∷
    (record {
      document = codes "    a# ><div><!--\r\n\n2) >-";
      events = (Data, 0, 0) ∷ (Data, 17, 0) ∷ (LineEnding, 17, 0) ∷ (LineEnding, 19, 0) ∷
          (BlankLineEnding, 19, 0) ∷ (BlankLineEnding, 20, 0) ∷ (ListOrdered, 20, 0) ∷ (ListItem, 20, 0) ∷ (ListItemPrefix, 20, 0) ∷
          (ListItemValue, 20, 0) ∷ (ListItemValue, 21, 0) ∷ (ListItemMarker, 21, 0) ∷ (ListItemMarker, 22, 0) ∷ (SpaceOrTab, 22, 0) ∷
          (SpaceOrTab, 23, 0) ∷ (ListItemPrefix, 23, 0) ∷ (BlockQuote, 23, 0) ∷ (BlockQuotePrefix, 23, 0) ∷ (BlockQuoteMarker, 23, 0) ∷
          (BlockQuoteMarker, 24, 0) ∷ (BlockQuotePrefix, 24, 0) ∷ (ListUnordered, 24, 0) ∷ (ListItem, 24, 0) ∷ (ListItemPrefix, 24, 0) ∷
          (ListItemMarker, 24, 0) ∷ (ListItemMarker, 25, 0) ∷ (ListItemPrefix, 25, 0) ∷ (ListItem, 25, 0) ∷ (ListUnordered, 25, 0) ∷ (BlockQuote, 25, 0) ∷
          (ListItem, 25, 0) ∷ (ListOrdered, 25, 0) ∷ [];
    }) ∷
    (record {
      document = codes "2) >2) \r\n";
      events = (ListOrdered, 0, 0) ∷ (ListItem, 0, 0) ∷ (ListItemPrefix, 0, 0) ∷ (ListItemValue, 0, 0) ∷
          (ListItemValue, 1, 0) ∷ (ListItemMarker, 1, 0) ∷ (ListItemMarker, 2, 0) ∷ (SpaceOrTab, 2, 0) ∷ (SpaceOrTab, 3, 0) ∷ (ListItemPrefix, 3, 0) ∷
          (BlockQuote, 3, 0) ∷ (BlockQuotePrefix, 3, 0) ∷ (BlockQuoteMarker, 3, 0) ∷ (BlockQuoteMarker, 4, 0) ∷ (BlockQuotePrefix, 4, 0) ∷
          (ListOrdered, 4, 0) ∷ (ListItem, 4, 0) ∷ (ListItemPrefix, 4, 0) ∷ (ListItemValue, 4, 0) ∷ (ListItemValue, 5, 0) ∷ (ListItemMarker, 5, 0) ∷
          (ListItemMarker, 6, 0) ∷ (ListItemPrefix, 6, 0) ∷ (SpaceOrTab, 6, 0) ∷ (SpaceOrTab, 7, 0) ∷ (ListItem, 7, 0) ∷ (ListOrdered, 7, 0) ∷
          (BlockQuote, 7, 0) ∷ (ListItem, 7, 0) ∷ (ListOrdered, 7, 0) ∷ (BlankLineEnding, 7, 0) ∷ (BlankLineEnding, 9, 0) ∷ [];
    }) ∷
    (record {
      document = codes "  ><!--===- ---\n\r\n 2) 1.    ";
      events = (BlockQuote, 0, 0) ∷ (SpaceOrTab, 0, 0) ∷ (SpaceOrTab, 2, 0) ∷
          (BlockQuotePrefix, 2, 0) ∷ (BlockQuoteMarker, 2, 0) ∷ (BlockQuoteMarker, 3, 0) ∷ (BlockQuotePrefix, 3, 0) ∷ (Data, 3, 0) ∷ (Data, 16, 0) ∷
          (BlockQuote, 16, 0) ∷ (BlankLineEnding, 16, 0) ∷ (BlankLineEnding, 18, 0) ∷ (ListOrdered, 18, 0) ∷ (ListItem, 18, 0) ∷ (SpaceOrTab, 18, 0) ∷
          (SpaceOrTab, 19, 0) ∷ (ListItemPrefix, 19, 0) ∷ (ListItemValue, 19, 0) ∷ (ListItemValue, 20, 0) ∷ (ListItemMarker, 20, 0) ∷
          (ListItemMarker, 21, 0) ∷ (SpaceOrTab, 21, 0) ∷ (SpaceOrTab, 22, 0) ∷ (ListItemPrefix, 22, 0) ∷ (ListOrdered, 22, 0) ∷ (ListItem, 22, 0) ∷
          (ListItemPrefix, 22, 0) ∷ (ListItemValue, 22, 0) ∷ (ListItemValue, 23, 0) ∷ (ListItemMarker, 23, 0) ∷ (ListItemMarker, 24, 0) ∷
          (ListItemPrefix, 24, 0) ∷ (SpaceOrTab, 24, 0) ∷ (SpaceOrTab, 28, 0) ∷ (ListItem, 28, 0) ∷ (ListOrdered, 28, 0) ∷ (ListItem, 28, 0) ∷
          (ListOrdered, 28, 0) ∷ [];
    }) ∷
    (record {
      document = codes "\n> \n > # \n\n-";
      events = (BlankLineEnding, 0, 0) ∷ (BlankLineEnding, 1, 0) ∷ (BlockQuote, 1, 0) ∷
          (BlockQuotePrefix, 1, 0) ∷ (BlockQuoteMarker, 1, 0) ∷ (BlockQuoteMarker, 2, 0) ∷ (SpaceOrTab, 2, 0) ∷ (SpaceOrTab, 3, 0) ∷
          (BlockQuotePrefix, 3, 0) ∷ (BlankLineEnding, 3, 0) ∷ (BlankLineEnding, 4, 0) ∷ (SpaceOrTab, 4, 0) ∷ (SpaceOrTab, 5, 0) ∷
          (BlockQuotePrefix, 5, 0) ∷ (BlockQuoteMarker, 5, 0) ∷ (BlockQuoteMarker, 6, 0) ∷ (SpaceOrTab, 6, 0) ∷ (SpaceOrTab, 7, 0) ∷
          (BlockQuotePrefix, 7, 0) ∷ (Data, 7, 0) ∷ (Data, 9, 0) ∷ (BlockQuote, 9, 0) ∷ (LineEnding, 9, 0) ∷ (LineEnding, 10, 0) ∷
          (BlankLineEnding, 10, 0) ∷ (BlankLineEnding, 11, 0) ∷ (ListUnordered, 11, 0) ∷ (ListItem, 11, 0) ∷ (ListItemPrefix, 11, 0) ∷
          (ListItemMarker, 11, 0) ∷ (ListItemMarker, 12, 0) ∷ (ListItemPrefix, 12, 0) ∷ (ListItem, 12, 0) ∷ (ListUnordered, 12, 0) ∷ [];
    }) ∷
    []
