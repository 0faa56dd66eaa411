-- What a line begins with, and which of these one line can begin with (CommonMark 0.31, 4 and 5): from its first byte on that is not white space.
use Rattle.std.specs.Prelude.{◌≡◌, ◌⊎◌, ◌&&◌, ℕ, Bool, List, Some, true, false, is_some}
use Rattle.markdown_base.specs.declared.configuration.Constructs.{Constructs}
use Rattle.mdblock_leaf_blocks.specs.HtmlLines.{HtmlKind, any_tag, begins, block_tag, html_kind, raw}
use Rattle.mdblock_leaf_blocks.specs.LineKinds.{begins_with, fence, heading, html, is_atx_heading, is_blank_line, is_fence_of, is_thematic_break, is_underline_of_marks, kind_of_rest, run, thematic_break}
use Rattle.mdblock_lines.specs.Containers.{is_footnote, may_begin_item}

-- What a line may begin with: leaf blocks, setext heading underlines and containers
pub data LineStart : Type 0 where
  atx : LineStart
  ticks : LineStart
  tildes : LineStart
  markup : LineStart
  line_break : LineStart
  equals_signs : LineStart
  dashes : LineStart
  block_quote : LineStart
  list_item : LineStart
  footnote_definition : LineStart

-- A line begins with it: an ATX heading (4.2), a fence of grave accents or of tildes (4.5), HTML (4.6), a thematic break (4.1), an underline (4.3),
-- a block quote marker (5.1), a list marker (5.2), or the label of a footnote definition and its colon, which are in no specification
abbrev pub starts : LineStart → List ℕ → Bool
starts atx r = is_atx_heading r
starts ticks r = is_fence_of 96 r
starts tildes r = is_fence_of 126 r
starts markup r = is_some (html_kind r)
starts line_break r = is_thematic_break r
starts equals_signs r = is_underline_of_marks 61 r
starts dashes r = is_underline_of_marks 45 r
starts block_quote r = begins_with 62 r
starts list_item r = may_begin_item false r
starts footnote_definition r = is_footnote r

-- thematic breaks, underlines of dashes and list items may be of one line, and CommonMark says which comes first: "If a line of dashes that meets the
-- above conditions for being a thematic break could also be interpreted as the underline of a setext heading, the interpretation as a setext heading
-- takes precedence"; "When both a thematic break and a list item are possible interpretations of a line, the thematic break takes precedence" (4.1)
abbrev pub has_precedence : LineStart → Bool
has_precedence line_break = true
has_precedence dashes = true
has_precedence list_item = true
has_precedence _ = false

-- A line begins with one thing at most, but for these three
abbrev pub StartsExclude : Type 0
StartsExclude = (a b : LineStart) (r : List ℕ) → starts a r ≡ true → starts b r ≡ true → (a ≡ b) ⊎ ((has_precedence a ≡ true) × (has_precedence b ≡ true))

-- A blank line begins with none of them
abbrev pub BlankStartsNothing : Type 0
BlankStartsNothing = (a : LineStart) (r : List ℕ) → is_blank_line r ≡ true → starts a r ≡ false

-- a tag of a name that its kind asks for
abbrev pub has_own_name : HtmlKind → Bool
has_own_name raw = true
has_own_name block_tag = true
has_own_name _ = false

-- Of the seven kinds of HTML (4.6) a line begins with one at most, but that a tag with one of the names that kinds 1 and 6 ask for may also be a complete
-- tag with any name, which is kind 7
abbrev pub HtmlExcludes : Type 0
HtmlExcludes = (a b : HtmlKind) (r : List ℕ) → begins a r ≡ true → begins b r ≡ true
    → (a ≡ b) ⊎ (((has_own_name a ≡ true) × (b ≡ any_tag)) ⊎ ((a ≡ any_tag) × (has_own_name b ≡ true)))

-- So it does not matter in which order kinds of lines are asked for: whatever kind is there, and is on, is found
pub record OrderIsFree (on : Constructs) (columns : ℕ) (r : List ℕ) : Type 0 where
  pub headings : (on.heading_atx && is_atx_heading r) ≡ true → kind_of_rest on columns r ≡ heading
  pub ticks : (on.code_fenced && is_fence_of 96 r) ≡ true → kind_of_rest on columns r ≡ fence (record { byte = 96; size = run 96 r; indent = columns })
  pub tildes : (on.code_fenced && is_fence_of 126 r) ≡ true → kind_of_rest on columns r ≡ fence (record { byte = 126; size = run 126 r; indent = columns })
  pub markup : (kind : HtmlKind) → on.html_flow ≡ true → html_kind r ≡ Some kind → kind_of_rest on columns r ≡ html kind
  pub breaks : (on.thematic_break && is_thematic_break r) ≡ true → kind_of_rest on columns r ≡ thematic_break

abbrev pub KindsHaveNoOrder : Type 0
KindsHaveNoOrder = (on : Constructs) (columns : ℕ) (r : List ℕ) → OrderIsFree on columns r
