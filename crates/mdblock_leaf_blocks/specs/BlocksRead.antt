-- What laws say of the reading of blocks, once a look found the kind of the first line.
use Rattle.std.specs.Prelude.{◌≡◌, ◌<◌, ◌≤◌, ◌^◌, ◌⊎◌, ℕ, suc, ◌+◌, ◌-◌, not, ◌||◌, List, [], ◌∷◌, ◌++◌, length, take, drop, Bool, true, false, cond, map, None}
use Rattle.std.specs.List.{AllByRecursion}
use Rattle.markdown_base.specs.declared.event.Kind.TheVariants.{Enter, Exit}
use Rattle.markdown_base.specs.declared.event.Name.{Name as EventName}
use Rattle.markdown_base.specs.declared.event.Name.TheVariants as name
use Rattle.markdown_base.specs.declared.state.Name.{Name}
use Rattle.markdown_base.specs.declared.state.State.{State}
use Rattle.markdown_base.specs.declared.state.State.TheVariants.{Next, Ok, Retry}
use Rattle.markdown_base.specs.declared.state.TheConstants.Name.{FlowAfter, FlowBeforeContent, FlowBlankLineAfter, FlowStart}
use Rattle.markdown_base.specs.Virtual.{Seat, end_after}
use Rattle.markdown_edits.specs.Edits.{Edit}
use Rattle.markdown_tokenizer.specs.declared.waiting.Waits.{Waits}
use Rattle.markdown_tokenizer.specs.declared.waiting.Waits.TheVariants.{Nothing}
use Rattle.markdown_tokenizer.specs.Configuration.{Configuration, Choice, Local}
use Rattle.markdown_tokenizer.specs.Reading.{Reading, EndsIn}
use Rattle.markdown_tokenizer.specs.Text.{Given, Text}
use Rattle.mdconstructs_tables.specs.Looks.{waits_at}
use Rattle.mdconstructs_tables.specs.Rows.{table_step}
use Rattle.mdconstructs_machines.specs.LineEvents.{all_of, ending_of, line_text}
use Rattle.mdconstructs_machines.specs.Spans.{event}
use Rattle.mdblock_leaf_rows.specs.FlowTable.{flow}
use Rattle.mdblock_leaf_blocks.specs.HtmlLines.{HtmlKind, ends, waits_for_blank}
use Rattle.mdblock_leaf_blocks.specs.LeafBlocks.{Line, ends_text, further_code, has_line, lines_through, lines_until, text_of}
use Rattle.mdblock_leaf_blocks.specs.LineKinds.{Fence, closes, is_blank_line, is_thematic_break, unindented}
use Rattle.mdblock_leaf_blocks.specs.SeenKinds.{SeenKind, number, blank, indented, heading, fence, html, underline, thematic_break, is_underline, seen_kind}
use Rattle.mdblock_leaf_blocks.specs.LeafEvents.{Mark, body, break_marks, code_fenced_marks, code_marks, heading_marks, html_marks, last_end, leaf_marks, lines_marks, linked_from, span_marks, text_marks, underline_inside, white}
use Rattle.mdblock_leaf_blocks.specs.LooksFind.{Finds, IsInLine}
use Rattle.mdblock_leaf_blocks.specs.ToldMarks.{ToldMark, as_it_is, under_names, before_edits, told_edits}

-- what waits where this state was returned, before these bytes: nothing before the next byte is fed, or the first of them, or the end
abbrev pub waits_then : State → List Seat → Waits
waits_then (Next name) rest = Nothing
waits_then _ rest = waits_at rest

-- Virtual bytes are read: reading on from a state, with choices that wait, is reading on from another, some calls later, behind those bytes,
-- with the events of these marks behind those that there were, and with what states share as `kept` says
pub record IsReadAs (g : Given) (t : Text) (kept : (before after : Local Unit Unit) → Type 0) (k : Configuration Unit Unit) (name : Name) (line rest : List Seat) (marks : List Mark) (to : State) : Type 0 where
  pub after : Configuration Unit Unit
  pub calls : ℕ
  pub events_are : after.events ≡ k.events ++ linked_from (length k.events) marks
  pub position : after.position ≡ k.position + length line
  pub waiting : after.waiting ≡ waits_then to rest
  pub local : kept k.local after.local
  pub leads : (choices : List Choice) (before : ℕ) (z : Reading Unit Unit) → EndsIn g (table_step flow g) t (before + calls) after choices to z
      → EndsIn g (table_step flow g) t before k choices (Retry name) z

-- the edits that wait, and the resolvers, are as they were; or there are these edits more
pub record KeepsEdits (before after : Local Unit Unit) : Type 0 where
  pub edits : after.map ≡ before.map
  pub resolvers : after.resolvers ≡ before.resolvers

pub record AddsEdits (more : List Edit) (before after : Local Unit Unit) : Type 0 where
  pub edits : after.map ≡ before.map ++ more
  pub resolvers : after.resolvers ≡ before.resolvers

-- A line with its line ending
pub record IsLine (line : Line) : Type 0 where
  pub text : List Seat
  pub ending : Seat
  pub is : line ≡ text ++ ending ∷ []
  pub in_line : IsInLine text
  pub ends : ending.byte ≡ 10

-- Lines of a text: the last one may have no line ending, if it has a byte
abbrev pub AreLines : List Line → Type 0
AreLines [] = Unit {0}
AreLines (line ∷ []) = IsLine line ⊎ (IsInLine line × ¬ (line ≡ []))
AreLines (line ∷ next ∷ lines) = IsLine line × AreLines (next ∷ lines)

-- Where lines come, and the first byte of them waits. Counts have room for every byte
pub record IsAtLines (t : Text) (k : Configuration Unit Unit) (lines : List Line) : Type 0 where
  pub are_lines : AreLines lines
  pub at : drop k.position t.seats ≡ all_of lines
  pub waits : k.waiting ≡ waits_at (all_of lines)
  pub room : length t.seats < 2 ^ 64 - 1

-- the last of the virtual bytes of a block, and those behind it: up to the line ending of its last line, or, if it is open, all
abbrev pub block_seats : (is_open : Bool) → List Line → List Seat
block_seats false lines = body lines
block_seats true lines = all_of lines

abbrev pub last_ending : List Line → List Seat
last_ending [] = []
last_ending (line ∷ []) = ending_of line
last_ending (line ∷ lines) = last_ending lines

abbrev pub behind_block : (is_open : Bool) → List Line → (more : List Line) → List Seat
behind_block false lines more = last_ending lines ++ all_of more
behind_block true lines more = all_of more

-- lines, which more lines follow, are read as one span, from a state up to the one behind a block
abbrev pub IsBlockRead : (g : Given) → Text → Configuration Unit Unit → Name → (lines more : List Line) → EventName → (is_open : Bool) → (inside : List Mark) → Type 0
IsBlockRead g t k from lines more n is_open inside =
    IsReadAs g t KeepsEdits k from (block_seats is_open lines) (behind_block is_open lines more) (span_marks g.bytes n (block_seats is_open lines) inside) (Retry FlowAfter)

-- a look found that the first of these lines is of this kind
pub record IsFound (g : Given) (t : Text) (k : Configuration Unit Unit) (kind : SeenKind) (line : Line) (more : List Line) : Type 0 where
  pub here : IsAtLines t k (line ∷ more)
  pub is_kind : seen_kind g.options.constructs (text_of line) ≡ kind
  pub found : Finds kind (unindented (text_of line)) k.local Ok

-- ATX headings are read
abbrev pub HeadingsAreRead : Type 0
HeadingsAreRead = (g : Given) (t : Text) (k : Configuration Unit Unit) (line : Line) (more : List Line) → IsFound g t k heading line more
    → IsBlockRead g t k FlowBlankLineAfter (line ∷ []) more name.HeadingAtx false (heading_marks g.bytes (line_text line))

-- so are thematic breaks, also where the line could be an underline
abbrev pub BreaksAreRead : Type 0
BreaksAreRead = (g : Given) (t : Text) (k : Configuration Unit Unit) (line : Line) (more : List Line) → IsFound g t k thematic_break line more
    ⊎ (IsFound g t k underline line more × (g.options.constructs.thematic_break ≡ true) × (is_thematic_break (unindented (text_of line)) ≡ true))
    → IsBlockRead g t k FlowBlankLineAfter (line ∷ []) more name.ThematicBreak false (break_marks g.bytes (length line) (line_text line))

-- indented code
abbrev pub IndentedCodeIsRead : Type 0
IndentedCodeIsRead = (g : Given) (t : Text) (k : Configuration Unit Unit) (line : Line) (more : List Line) → IsFound g t k indented line more
    → let n = suc (further_code g.options.constructs more) in
    let lines = take n (line ∷ more) in
    IsBlockRead g t k FlowBlankLineAfter lines (drop n (line ∷ more)) name.CodeIndented false (lines_marks g.bytes (code_marks g.bytes 4) false lines)

-- fenced code, closed or open
abbrev pub FencedCodeIsRead : Type 0
FencedCodeIsRead = (g : Given) (t : Text) (k : Configuration Unit Unit) (f : Fence) (line : Line) (more : List Line) → IsFound g t k (fence f) line more
    → let n = suc (lines_through (closes g.options.constructs f) more) in
    let is_closed = has_line (closes g.options.constructs f) more in
    let lines = take n (line ∷ more) in
    IsBlockRead g t k FlowBlankLineAfter lines (drop n (line ∷ more)) name.CodeFenced (not is_closed) (code_fenced_marks g.bytes f is_closed lines)

-- HTML of each kind, closed or open
abbrev pub HtmlIsRead : Type 0
HtmlIsRead = (g : Given) (t : Text) (k : Configuration Unit Unit) (kind : HtmlKind) (line : Line) (more : List Line) → IsFound g t k (html (number kind)) line more
    → let all = line ∷ more in
    let n = cond (waits_for_blank kind) (lines_until (λ line. is_blank_line (text_of line)) all) (lines_through (ends kind) all) in
    let is_closed = waits_for_blank kind || has_line (ends kind) all in
    IsBlockRead g t k FlowBlankLineAfter (take n all) (drop n all) name.HtmlFlow (not is_closed) (html_marks g.bytes (not is_closed) (take n all))

-- A blank line that has white space, with its line ending or at the end of the text
pub record BlankLinesAreRead : Type 0 where
  pub with_ending : (g : Given) (t : Text) (k : Configuration Unit Unit) (line : Line) (more : List Line) → IsFound g t k blank line more → IsLine line → 1 ≤ length (line_text line)
      → IsReadAs g t KeepsEdits k FlowBlankLineAfter line (all_of more) (white g.bytes (line_text line) ++ leaf_marks g.bytes name.BlankLineEnding (ending_of line)) (Next FlowStart)
  pub at_end : (g : Given) (t : Text) (k : Configuration Unit Unit) (line : Line) → IsFound g t k blank line [] → IsInLine line → 1 ≤ length line
      → IsReadAs g t KeepsEdits k FlowBlankLineAfter line [] (white g.bytes line) Ok

-- the lines of a paragraph that begins with the first of these
abbrev pub text_lines : Given → List Line → ℕ
text_lines g [] = 0
text_lines g (line ∷ more) = suc (lines_until (ends_text g.options.constructs) more)

-- the line behind a paragraph is an underline
abbrev pub is_underlined : Given → List Line → Bool
is_underlined g [] = false
is_underlined g (next ∷ behind) = is_underline (seen_kind g.options.constructs (text_of next))

-- a setext heading as it is read: a paragraph, a line ending, and the underline; three events get other names
module _ (bytes : List ℕ) where
  abbrev pub paragraph_told : List Seat → List ToldMark → List ToldMark
  paragraph_told [] inside = inside
  paragraph_told (s ∷ ss) inside =
      under_names (event bytes Enter name.Paragraph s.point) (name.HeadingSetext ∷ name.HeadingSetextText ∷ [])
      ∷ (inside ++ under_names (event bytes Exit name.Paragraph (end_after s.end ss)) (name.HeadingSetextText ∷ []) ∷ [])

  abbrev pub underline_told : List Seat → List Mark → List ToldMark
  underline_told [] inside = map as_it_is inside
  underline_told (s ∷ ss) inside =
      as_it_is (event bytes Enter name.HeadingSetextUnderline s.point, None)
      ∷ (map as_it_is inside ++ under_names (event bytes Exit name.HeadingSetextUnderline (end_after s.end ss)) (name.HeadingSetextUnderline ∷ name.HeadingSetext ∷ []) ∷ [])

  abbrev pub heading_told : (lines : List Line) → (under : Line) → List ToldMark
  heading_told lines under =
      paragraph_told (body lines) (map as_it_is (text_marks bytes false lines))
      ++ (map as_it_is (last_end bytes lines) ++ underline_told (line_text under) (underline_inside bytes (line_text under)))

-- Paragraphs are read. The first line has a byte before its line ending
abbrev pub ParagraphsAreRead : Type 0
ParagraphsAreRead = (g : Given) (t : Text) (k : Configuration Unit Unit) (line : Line) (more : List Line) → let lines = line ∷ more in IsAtLines t k lines → 1 ≤ length (line_text line)
    → is_underlined g (drop (text_lines g lines) lines) ≡ false
    → let ours = take (text_lines g lines) lines in
    IsBlockRead g t k FlowBeforeContent ours (drop (text_lines g lines) lines) name.Paragraph false (text_marks g.bytes false ours)

-- and so are setext headings, with the edits that name them
abbrev pub SetextHeadingsAreRead : Type 0
SetextHeadingsAreRead = (g : Given) (t : Text) (k : Configuration Unit Unit) (line : Line) (behind : List Line) (next : Line) (more : List Line) → let lines = line ∷ behind in IsAtLines t k lines → 1 ≤ length (line_text line)
    → is_underlined g (drop (text_lines g lines) lines) ≡ true → drop (text_lines g lines) lines ≡ next ∷ more
    → AllByRecursion (λ (e : Edit). e.index < length k.events) k.local.map
    → let ours = take (text_lines g lines) lines in
    let told = heading_told g.bytes ours next in
    IsReadAs g t (AddsEdits (told_edits (length k.events) told)) k FlowBeforeContent (body (ours ++ next ∷ [])) (ending_of next ++ all_of more) (before_edits told) (Retry FlowAfter)
