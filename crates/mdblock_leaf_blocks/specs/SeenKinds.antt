-- What the look at a line finds: its kind, or that it may be an underline. The look does not know whether lines of a paragraph come before.
use Rattle.std.specs.Prelude.{ℕ, nat_le, Bool, true, false, List, None, Some}
use Rattle.markdown_base.specs.declared.configuration.Constructs.{Constructs}
use Rattle.mdblock_leaf_blocks.specs.HtmlLines.{HtmlKind, raw, comment, instruction, declaration, cdata, block_tag, any_tag, html_kind}
use Rattle.mdblock_leaf_blocks.specs.LineKinds.{Fence, LineKind, line_kind, underline_rank}
use Rattle.mdblock_leaf_blocks.specs.LineKinds as line

-- the number that is written down for a kind of HTML
abbrev pub number : HtmlKind → ℕ
number raw = 1
number comment = 2
number instruction = 3
number declaration = 4
number cdata = 5
number block_tag = 6
number any_tag = 7

-- for the HTML that a line begins, or 0
abbrev pub html_number : List ℕ → ℕ
html_number r = elim (html_kind r) [ None ↦ 0 | Some kind ↦ number kind ]

-- what may be found
pub data SeenKind : Type 0 where
  blank : SeenKind
  indented : SeenKind
  heading : SeenKind
  fence : Fence → SeenKind
  html : (number : ℕ) → SeenKind
  underline : SeenKind
  thematic_break : SeenKind
  text : SeenKind

-- the kind of a line, where it is found
abbrev pub as_seen : LineKind → SeenKind
as_seen line.blank = blank
as_seen line.indented = indented
as_seen line.heading = heading
as_seen (line.fence f) = fence f
as_seen (line.html kind) = html (number kind)
as_seen line.thematic_break = thematic_break
as_seen line.text = text

-- What is found. A line that may be an underline and a thematic break is an underline here
abbrev pub seen_kind : Constructs → List ℕ → SeenKind
seen_kind on t = elim (underline_rank on t) [ None ↦ as_seen (line_kind on t) | Some rank ↦ underline ]

abbrev pub is_underline : SeenKind → Bool
is_underline underline = true
is_underline _ = false

-- a line behind lines of a paragraph is none of it: it is an underline, or interrupts it
abbrev pub seen_ends : SeenKind → Bool
seen_ends indented = false
seen_ends (html number) = nat_le number 6
seen_ends text = false
seen_ends _ = true
