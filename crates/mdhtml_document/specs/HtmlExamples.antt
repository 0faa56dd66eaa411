-- HTML of some documents, with their events.
use Rattle.std.specs.Prelude.{ℕ, suc, ◌+◌, ◌-◌, List, [], ◌∷◌, ◌++◌, None, codes}
use Rattle.markdown_base.specs.declared.event.Event.{Event}
use Rattle.markdown_base.specs.declared.event.Kind.{Kind}
use Rattle.markdown_base.specs.declared.event.Kind.TheVariants.{Enter, Exit}
use Rattle.markdown_base.specs.declared.event.Name.{Name}
use Rattle.markdown_base.specs.declared.event.Name.TheVariants as name
use Rattle.markdown_base.specs.Presets.{default_compile_options}
use Rattle.mdhtml_document.specs.Html.{html_of_events}

abbrev pub event : Kind → Name → (line column index : ℕ) → Event
event kind n line column index = record { kind = kind; name = n; point = record { line = line; column = column; index = index; vs = 0 }; link = None }

-- an innermost span of a line that starts at an index; and a span with others in it
abbrev pub leaf : Name → (line start from to : ℕ) → List Event
leaf n line start i j = event Enter n line (suc (i - start)) i ∷ event Exit n line (suc (j - start)) j ∷ []

abbrev pub around : Name → (line start from to : ℕ) → List Event → List Event
around n line start i j es = event Enter n line (suc (i - start)) i ∷ (es ++ event Exit n line (suc (j - start)) j ∷ [])

-- the prefix of an item with a bullet, and the check of a task
abbrev pub bullet : (line start : ℕ) → List Event
bullet line i = around name.ListItemPrefix line i i (i + 2) (leaf name.ListItemMarker line i i (i + 1) ++ leaf name.SpaceOrTab line i (i + 1) (i + 2))

abbrev pub check : Name → (line start from : ℕ) → List Event
check value line start i =
    around name.GfmTaskListItemCheck line start i (i + 3)
    (leaf name.GfmTaskListItemMarker line start i (i + 1) ++ (leaf value line start (i + 1) (i + 2) ++ leaf name.GfmTaskListItemMarker line start (i + 2) (i + 3)))

-- a cell of a byte between spaces, behind a divider, and at the end of its row; and a delimiter cell
abbrev pub text_cell : (line start from : ℕ) → List Event
text_cell line start i =
    leaf name.GfmTableCellDivider line start i (i + 1)
    ++ (leaf name.SpaceOrTab line start (i + 1) (i + 2)
    ++ (around name.GfmTableCellText line start (i + 2) (i + 3) (leaf name.Data line start (i + 2) (i + 3)) ++ leaf name.SpaceOrTab line start (i + 3) (i + 4)))

abbrev pub first_cell : (line start from : ℕ) → List Event
first_cell line start i = around name.GfmTableCell line start i (i + 4) (text_cell line start i)

abbrev pub last_cell : (line start from : ℕ) → List Event
last_cell line start i = around name.GfmTableCell line start i (i + 5) (text_cell line start i ++ leaf name.GfmTableCellDivider line start (i + 4) (i + 5))

-- A document, its events, and its HTML with the default options
pub record HtmlExample : Type 0 where
  pub document : List ℕ
  pub events : List Event
  pub html : List ℕ

abbrev pub html_of : HtmlExample → HtmlExample
html_of e = record e { html = html_of_events default_compile_options e.document 4 e.events }

-- A heading; a list with HTML, which is shown, and a quote; an address that is not allowed, with a title, and an image; fenced code. And of GFM: text
-- that is struck through, and literals; an image that such text describes; tasks; a table with a
-- pipe in a cell, and rows of fewer and of more cells; and one with a head alone, in a list
abbrev pub html_examples : List HtmlExample
html_examples =
    record {
      document = codes "# a *b*";
      events =
          event Enter name.HeadingAtx 1 1 0
          ∷ event Enter name.HeadingAtxSequence 1 1 0
          ∷ event Exit name.HeadingAtxSequence 1 2 1
          ∷ event Enter name.SpaceOrTab 1 2 1
          ∷ event Exit name.SpaceOrTab 1 3 2
          ∷ event Enter name.HeadingAtxText 1 3 2
          ∷ event Enter name.Data 1 3 2
          ∷ event Exit name.Data 1 5 4
          ∷ event Enter name.Emphasis 1 5 4
          ∷ event Enter name.EmphasisSequence 1 5 4
          ∷ event Exit name.EmphasisSequence 1 6 5
          ∷ event Enter name.EmphasisText 1 6 5
          ∷ event Enter name.Data 1 6 5
          ∷ event Exit name.Data 1 7 6
          ∷ event Exit name.EmphasisText 1 7 6
          ∷ event Enter name.EmphasisSequence 1 7 6
          ∷ event Exit name.EmphasisSequence 1 8 7
          ∷ event Exit name.Emphasis 1 8 7
          ∷ event Exit name.HeadingAtxText 1 8 7
          ∷ event Exit name.HeadingAtx 1 8 7
          ∷ [];
      html = codes "<h1>a <em>b</em></h1>\n";
    } ∷
    record {
      document = codes "- <b>\n- c\n\n> d";
      events =
          event Enter name.ListUnordered 1 1 0
          ∷ event Enter name.ListItem 1 1 0
          ∷ event Enter name.ListItemPrefix 1 1 0
          ∷ event Enter name.ListItemMarker 1 1 0
          ∷ event Exit name.ListItemMarker 1 2 1
          ∷ event Enter name.SpaceOrTab 1 2 1
          ∷ event Exit name.SpaceOrTab 1 3 2
          ∷ event Exit name.ListItemPrefix 1 3 2
          ∷ event Enter name.HtmlFlow 1 3 2
          ∷ event Enter name.HtmlFlowData 1 3 2
          ∷ event Exit name.HtmlFlowData 1 6 5
          ∷ event Exit name.HtmlFlow 1 6 5
          ∷ event Exit name.ListItem 1 6 5
          ∷ event Enter name.LineEnding 1 6 5
          ∷ event Exit name.LineEnding 2 1 6
          ∷ event Enter name.ListItem 2 1 6
          ∷ event Enter name.ListItemPrefix 2 1 6
          ∷ event Enter name.ListItemMarker 2 1 6
          ∷ event Exit name.ListItemMarker 2 2 7
          ∷ event Enter name.SpaceOrTab 2 2 7
          ∷ event Exit name.SpaceOrTab 2 3 8
          ∷ event Exit name.ListItemPrefix 2 3 8
          ∷ event Enter name.Paragraph 2 3 8
          ∷ event Enter name.Data 2 3 8
          ∷ event Exit name.Data 2 4 9
          ∷ event Exit name.Paragraph 2 4 9
          ∷ event Exit name.ListItem 2 4 9
          ∷ event Exit name.ListUnordered 2 4 9
          ∷ event Enter name.LineEnding 2 4 9
          ∷ event Exit name.LineEnding 3 1 10
          ∷ event Enter name.BlankLineEnding 3 1 10
          ∷ event Exit name.BlankLineEnding 4 1 11
          ∷ event Enter name.BlockQuote 4 1 11
          ∷ event Enter name.BlockQuotePrefix 4 1 11
          ∷ event Enter name.BlockQuoteMarker 4 1 11
          ∷ event Exit name.BlockQuoteMarker 4 2 12
          ∷ event Enter name.SpaceOrTab 4 2 12
          ∷ event Exit name.SpaceOrTab 4 3 13
          ∷ event Exit name.BlockQuotePrefix 4 3 13
          ∷ event Enter name.Paragraph 4 3 13
          ∷ event Enter name.Data 4 3 13
          ∷ event Exit name.Data 4 4 14
          ∷ event Exit name.Paragraph 4 4 14
          ∷ event Exit name.BlockQuote 4 4 14
          ∷ [];
      html = codes "<ul>\n<li>\n&lt;b&gt;\n</li>\n<li>c</li>\n</ul>\n<blockquote>\n<p>d</p>\n</blockquote>\n";
    } ∷
    record {
      document = codes "[a](JAVASCRIPT:x 'q\"') ![*b*](/u?v&w)";
      events =
          event Enter name.Paragraph 1 1 0
          ∷ event Enter name.Link 1 1 0
          ∷ event Enter name.Label 1 1 0
          ∷ event Enter name.LabelLink 1 1 0
          ∷ event Enter name.LabelMarker 1 1 0
          ∷ event Exit name.LabelMarker 1 2 1
          ∷ event Exit name.LabelLink 1 2 1
          ∷ event Enter name.LabelText 1 2 1
          ∷ event Enter name.Data 1 2 1
          ∷ event Exit name.Data 1 3 2
          ∷ event Exit name.LabelText 1 3 2
          ∷ event Enter name.LabelEnd 1 3 2
          ∷ event Enter name.LabelMarker 1 3 2
          ∷ event Exit name.LabelMarker 1 4 3
          ∷ event Exit name.LabelEnd 1 4 3
          ∷ event Exit name.Label 1 4 3
          ∷ event Enter name.Resource 1 4 3
          ∷ event Enter name.ResourceMarker 1 4 3
          ∷ event Exit name.ResourceMarker 1 5 4
          ∷ event Enter name.ResourceDestination 1 5 4
          ∷ event Enter name.ResourceDestinationRaw 1 5 4
          ∷ event Enter name.ResourceDestinationString 1 5 4
          ∷ event Enter name.Data 1 5 4
          ∷ event Exit name.Data 1 17 16
          ∷ event Exit name.ResourceDestinationString 1 17 16
          ∷ event Exit name.ResourceDestinationRaw 1 17 16
          ∷ event Exit name.ResourceDestination 1 17 16
          ∷ event Enter name.SpaceOrTab 1 17 16
          ∷ event Exit name.SpaceOrTab 1 18 17
          ∷ event Enter name.ResourceTitle 1 18 17
          ∷ event Enter name.ResourceTitleMarker 1 18 17
          ∷ event Exit name.ResourceTitleMarker 1 19 18
          ∷ event Enter name.ResourceTitleString 1 19 18
          ∷ event Enter name.Data 1 19 18
          ∷ event Exit name.Data 1 21 20
          ∷ event Exit name.ResourceTitleString 1 21 20
          ∷ event Enter name.ResourceTitleMarker 1 21 20
          ∷ event Exit name.ResourceTitleMarker 1 22 21
          ∷ event Exit name.ResourceTitle 1 22 21
          ∷ event Enter name.ResourceMarker 1 22 21
          ∷ event Exit name.ResourceMarker 1 23 22
          ∷ event Exit name.Resource 1 23 22
          ∷ event Exit name.Link 1 23 22
          ∷ event Enter name.Data 1 23 22
          ∷ event Exit name.Data 1 24 23
          ∷ event Enter name.Image 1 24 23
          ∷ event Enter name.Label 1 24 23
          ∷ event Enter name.LabelImage 1 24 23
          ∷ event Enter name.LabelImageMarker 1 24 23
          ∷ event Exit name.LabelImageMarker 1 25 24
          ∷ event Enter name.LabelMarker 1 25 24
          ∷ event Exit name.LabelMarker 1 26 25
          ∷ event Exit name.LabelImage 1 26 25
          ∷ event Enter name.LabelText 1 26 25
          ∷ event Enter name.Emphasis 1 26 25
          ∷ event Enter name.EmphasisSequence 1 26 25
          ∷ event Exit name.EmphasisSequence 1 27 26
          ∷ event Enter name.EmphasisText 1 27 26
          ∷ event Enter name.Data 1 27 26
          ∷ event Exit name.Data 1 28 27
          ∷ event Exit name.EmphasisText 1 28 27
          ∷ event Enter name.EmphasisSequence 1 28 27
          ∷ event Exit name.EmphasisSequence 1 29 28
          ∷ event Exit name.Emphasis 1 29 28
          ∷ event Exit name.LabelText 1 29 28
          ∷ event Enter name.LabelEnd 1 29 28
          ∷ event Enter name.LabelMarker 1 29 28
          ∷ event Exit name.LabelMarker 1 30 29
          ∷ event Exit name.LabelEnd 1 30 29
          ∷ event Exit name.Label 1 30 29
          ∷ event Enter name.Resource 1 30 29
          ∷ event Enter name.ResourceMarker 1 30 29
          ∷ event Exit name.ResourceMarker 1 31 30
          ∷ event Enter name.ResourceDestination 1 31 30
          ∷ event Enter name.ResourceDestinationRaw 1 31 30
          ∷ event Enter name.ResourceDestinationString 1 31 30
          ∷ event Enter name.Data 1 31 30
          ∷ event Exit name.Data 1 35 34
          ∷ event Enter name.Data 1 35 34
          ∷ event Exit name.Data 1 37 36
          ∷ event Exit name.ResourceDestinationString 1 37 36
          ∷ event Exit name.ResourceDestinationRaw 1 37 36
          ∷ event Exit name.ResourceDestination 1 37 36
          ∷ event Enter name.ResourceMarker 1 37 36
          ∷ event Exit name.ResourceMarker 1 38 37
          ∷ event Exit name.Resource 1 38 37
          ∷ event Exit name.Image 1 38 37
          ∷ event Exit name.Paragraph 1 38 37
          ∷ [];
      html = codes "<p><a href=\"\" title=\"q&quot;\">a</a> <img src=\"/u?v&amp;w\" alt=\"b\" /></p>\n";
    } ∷
    record {
      document = codes "~~~ r\n a<\n~~~";
      events =
          event Enter name.CodeFenced 1 1 0
          ∷ event Enter name.CodeFencedFence 1 1 0
          ∷ event Enter name.CodeFencedFenceSequence 1 1 0
          ∷ event Exit name.CodeFencedFenceSequence 1 4 3
          ∷ event Enter name.SpaceOrTab 1 4 3
          ∷ event Exit name.SpaceOrTab 1 5 4
          ∷ event Enter name.CodeFencedFenceInfo 1 5 4
          ∷ event Enter name.Data 1 5 4
          ∷ event Exit name.Data 1 6 5
          ∷ event Exit name.CodeFencedFenceInfo 1 6 5
          ∷ event Exit name.CodeFencedFence 1 6 5
          ∷ event Enter name.LineEnding 1 6 5
          ∷ event Exit name.LineEnding 2 1 6
          ∷ event Enter name.CodeFlowChunk 2 1 6
          ∷ event Exit name.CodeFlowChunk 2 4 9
          ∷ event Enter name.LineEnding 2 4 9
          ∷ event Exit name.LineEnding 3 1 10
          ∷ event Enter name.CodeFencedFence 3 1 10
          ∷ event Enter name.CodeFencedFenceSequence 3 1 10
          ∷ event Exit name.CodeFencedFenceSequence 3 4 13
          ∷ event Exit name.CodeFencedFence 3 4 13
          ∷ event Exit name.CodeFenced 3 4 13
          ∷ [];
      html = codes "<pre><code class=\"language-r\"> a&lt;\n</code></pre>\n";
    } ∷
    record {
      document = codes "~~a~~ www.b.c?d&e f@g.h ftp://i.j https://k.l mailto:m@n.o xmpp:p@q.r";
      events =
          event Enter name.Paragraph 1 1 0
          ∷ event Enter name.GfmStrikethrough 1 1 0
          ∷ event Enter name.GfmStrikethroughSequence 1 1 0
          ∷ event Exit name.GfmStrikethroughSequence 1 3 2
          ∷ event Enter name.GfmStrikethroughText 1 3 2
          ∷ event Enter name.Data 1 3 2
          ∷ event Exit name.Data 1 4 3
          ∷ event Exit name.GfmStrikethroughText 1 4 3
          ∷ event Enter name.GfmStrikethroughSequence 1 4 3
          ∷ event Exit name.GfmStrikethroughSequence 1 6 5
          ∷ event Exit name.GfmStrikethrough 1 6 5
          ∷ event Enter name.Data 1 6 5
          ∷ event Exit name.Data 1 7 6
          ∷ event Enter name.GfmAutolinkLiteralWww 1 7 6
          ∷ event Exit name.GfmAutolinkLiteralWww 1 18 17
          ∷ event Enter name.Data 1 18 17
          ∷ event Exit name.Data 1 19 18
          ∷ event Enter name.GfmAutolinkLiteralEmail 1 19 18
          ∷ event Exit name.GfmAutolinkLiteralEmail 1 24 23
          ∷ event Enter name.Data 1 24 23
          ∷ event Exit name.Data 1 25 24
          ∷ event Enter name.GfmAutolinkLiteralProtocol 1 25 24
          ∷ event Exit name.GfmAutolinkLiteralProtocol 1 34 33
          ∷ event Enter name.Data 1 34 33
          ∷ event Exit name.Data 1 35 34
          ∷ event Enter name.GfmAutolinkLiteralProtocol 1 35 34
          ∷ event Exit name.GfmAutolinkLiteralProtocol 1 46 45
          ∷ event Enter name.Data 1 46 45
          ∷ event Exit name.Data 1 47 46
          ∷ event Enter name.GfmAutolinkLiteralMailto 1 47 46
          ∷ event Exit name.GfmAutolinkLiteralMailto 1 59 58
          ∷ event Enter name.Data 1 59 58
          ∷ event Exit name.Data 1 60 59
          ∷ event Enter name.GfmAutolinkLiteralXmpp 1 60 59
          ∷ event Exit name.GfmAutolinkLiteralXmpp 1 70 69
          ∷ event Exit name.Paragraph 1 70 69
          ∷ [];
      html = codes "<p><del>a</del> <a href=\"http://www.b.c?d&amp;e\">www.b.c?d&amp;e</a> <a href=\"mailto:f@g.h\">f@g.h</a> <a href=\"\">ftp://i.j</a> <a href=\"https://k.l\">https://k.l</a> <a href=\"mailto:m@n.o\">mailto:m@n.o</a> <a href=\"xmpp:p@q.r\">xmpp:p@q.r</a></p>\n";
    } ∷
    record {
      document = codes "![a ~b~](c)";
      events =
          event Enter name.Paragraph 1 1 0
          ∷ event Enter name.Image 1 1 0
          ∷ event Enter name.Label 1 1 0
          ∷ event Enter name.LabelImage 1 1 0
          ∷ event Enter name.LabelImageMarker 1 1 0
          ∷ event Exit name.LabelImageMarker 1 2 1
          ∷ event Enter name.LabelMarker 1 2 1
          ∷ event Exit name.LabelMarker 1 3 2
          ∷ event Exit name.LabelImage 1 3 2
          ∷ event Enter name.LabelText 1 3 2
          ∷ event Enter name.Data 1 3 2
          ∷ event Exit name.Data 1 5 4
          ∷ event Enter name.GfmStrikethrough 1 5 4
          ∷ event Enter name.GfmStrikethroughSequence 1 5 4
          ∷ event Exit name.GfmStrikethroughSequence 1 6 5
          ∷ event Enter name.GfmStrikethroughText 1 6 5
          ∷ event Enter name.Data 1 6 5
          ∷ event Exit name.Data 1 7 6
          ∷ event Exit name.GfmStrikethroughText 1 7 6
          ∷ event Enter name.GfmStrikethroughSequence 1 7 6
          ∷ event Exit name.GfmStrikethroughSequence 1 8 7
          ∷ event Exit name.GfmStrikethrough 1 8 7
          ∷ event Exit name.LabelText 1 8 7
          ∷ event Enter name.LabelEnd 1 8 7
          ∷ event Enter name.LabelMarker 1 8 7
          ∷ event Exit name.LabelMarker 1 9 8
          ∷ event Exit name.LabelEnd 1 9 8
          ∷ event Exit name.Label 1 9 8
          ∷ event Enter name.Resource 1 9 8
          ∷ event Enter name.ResourceMarker 1 9 8
          ∷ event Exit name.ResourceMarker 1 10 9
          ∷ event Enter name.ResourceDestination 1 10 9
          ∷ event Enter name.ResourceDestinationRaw 1 10 9
          ∷ event Enter name.ResourceDestinationString 1 10 9
          ∷ event Enter name.Data 1 10 9
          ∷ event Exit name.Data 1 11 10
          ∷ event Exit name.ResourceDestinationString 1 11 10
          ∷ event Exit name.ResourceDestinationRaw 1 11 10
          ∷ event Exit name.ResourceDestination 1 11 10
          ∷ event Enter name.ResourceMarker 1 11 10
          ∷ event Exit name.ResourceMarker 1 12 11
          ∷ event Exit name.Resource 1 12 11
          ∷ event Exit name.Image 1 12 11
          ∷ event Exit name.Paragraph 1 12 11
          ∷ [];
      html = codes "<p><img src=\"c\" alt=\"a b\" /></p>\n";
    } ∷
    record {
      document = codes "- [x] a\n- [ ] *b*";
      events =
          around name.ListUnordered 1 0 0 17
          (around name.ListItem 1 0 0 7 (bullet 1 0 ++ around name.Paragraph 1 0 2 7 (check name.GfmTaskListItemValueChecked 1 0 2 ++ leaf name.Data 1 0 5 7))
          ++ (leaf name.LineEnding 1 0 7 8
          ++ around name.ListItem 2 8 8 17
          (bullet 2 8
          ++ around name.Paragraph 2 8 10 17
          (check name.GfmTaskListItemValueUnchecked 2 8 10
          ++ (leaf name.Data 2 8 13 14
          ++ around name.Emphasis 2 8 14 17
          (leaf name.EmphasisSequence 2 8 14 15 ++ (around name.EmphasisText 2 8 15 16 (leaf name.Data 2 8 15 16) ++ leaf name.EmphasisSequence 2 8 16 17)))))));
      html = codes "<ul>\n<li><input type=\"checkbox\" checked=\"\" disabled=\"\" /> a</li>\n<li><input type=\"checkbox\" disabled=\"\" /> <em>b</em></li>\n</ul>\n";
    } ∷
    record {
      document = codes "| a | b |\n|:-:|--:|\n| `c\\|d` |\n| e | f | g |";
      events =
          around name.GfmTable 1 0 0 44
          (around name.GfmTableHead 1 0 0 19
          (around name.GfmTableRow 1 0 0 9 (first_cell 1 0 0 ++ last_cell 1 0 4)
          ++ (leaf name.LineEnding 1 0 9 10
          ++ around name.GfmTableDelimiterRow 2 10 10 19
          (around name.GfmTableDelimiterCell 2 10 10 14
          (leaf name.GfmTableCellDivider 2 10 10 11
          ++ around name.GfmTableDelimiterCellValue 2 10 11 14
          (leaf name.GfmTableDelimiterMarker 2 10 11 12 ++ (leaf name.GfmTableDelimiterFiller 2 10 12 13 ++ leaf name.GfmTableDelimiterMarker 2 10 13 14)))
          ++ around name.GfmTableDelimiterCell 2 10 14 19
          (leaf name.GfmTableCellDivider 2 10 14 15
          ++ (around name.GfmTableDelimiterCellValue 2 10 15 18 (leaf name.GfmTableDelimiterFiller 2 10 15 17 ++ leaf name.GfmTableDelimiterMarker 2 10 17 18)
          ++ leaf name.GfmTableCellDivider 2 10 18 19)))))
          ++ (leaf name.LineEnding 2 10 19 20
          ++ around name.GfmTableBody 3 20 20 44
          (around name.GfmTableRow 3 20 20 30
          (around name.GfmTableCell 3 20 20 30
          (leaf name.GfmTableCellDivider 3 20 20 21
          ++ (leaf name.SpaceOrTab 3 20 21 22
          ++ (around name.GfmTableCellText 3 20 22 28
          (around name.CodeText 3 20 22 28
          (leaf name.CodeTextSequence 3 20 22 23 ++ (leaf name.CodeTextData 3 20 23 27 ++ leaf name.CodeTextSequence 3 20 27 28)))
          ++ (leaf name.SpaceOrTab 3 20 28 29 ++ leaf name.GfmTableCellDivider 3 20 29 30)))))
          ++ (leaf name.LineEnding 3 20 30 31 ++ around name.GfmTableRow 4 31 31 44 (first_cell 4 31 31 ++ (first_cell 4 31 35 ++ last_cell 4 31 39))))));
      html = codes "<table>\n<thead>\n<tr>\n<th align=\"center\">a</th>\n<th align=\"right\">b</th>\n</tr>\n</thead>\n<tbody>\n<tr>\n<td align=\"center\"><code>c|d</code></td>\n<td align=\"right\"></td>\n</tr>\n<tr>\n<td align=\"center\">e</td>\n<td align=\"right\">f</td>\n</tr>\n</tbody>\n</table>\n";
    } ∷
    record {
      document = codes "- |a\n  |:-";
      events =
          around name.ListUnordered 1 0 0 10
          (around name.ListItem 1 0 0 10
          (bullet 1 0
          ++ around name.GfmTable 1 0 2 10
          (around name.GfmTableHead 1 0 2 10
          (around name.GfmTableRow 1 0 2 4
          (around name.GfmTableCell 1 0 2 4 (leaf name.GfmTableCellDivider 1 0 2 3 ++ around name.GfmTableCellText 1 0 3 4 (leaf name.Data 1 0 3 4)))
          ++ (leaf name.LineEnding 1 0 4 5
          ++ (leaf name.SpaceOrTab 2 5 5 7
          ++ around name.GfmTableDelimiterRow 2 5 7 10
          (around name.GfmTableDelimiterCell 2 5 7 10
          (leaf name.GfmTableCellDivider 2 5 7 8
          ++ around name.GfmTableDelimiterCellValue 2 5 8 10 (leaf name.GfmTableDelimiterMarker 2 5 8 9 ++ leaf name.GfmTableDelimiterFiller 2 5 9 10)))))))));
      html = codes "<ul>\n<li>\n<table>\n<thead>\n<tr>\n<th align=\"left\">a</th>\n</tr>\n</thead>\n</table>\n</li>\n</ul>\n";
    } ∷
    []
