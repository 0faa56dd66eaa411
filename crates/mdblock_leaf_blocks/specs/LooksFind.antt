-- What laws say of looks: the look at a line finds what the line is.
use Rattle.std.specs.Prelude.{◌≡◌, ◌<◌, ◌^◌, ◌-◌, ℕ, zero, suc, ◌==◌, ◌&&◌, List, [], ◌∷◌, ◌++◌, Bool, false, nat_le, length, drop, Option}
use Rattle.std.specs.List.{AllByRecursion}
use Rattle.markdown_base.specs.declared.event.Event.{Event}
use Rattle.markdown_base.specs.declared.event.Name.{Name as EventName}
use Rattle.markdown_base.specs.declared.event.Name.TheVariants.{BlankLineEnding, CodeFenced, CodeIndented, HeadingAtx, HeadingSetextUnderline, HtmlFlow, ThematicBreak}
use Rattle.markdown_base.specs.declared.state.State.{State}
use Rattle.markdown_base.specs.declared.state.State.TheVariants.{Ok, Nok}
use Rattle.markdown_base.specs.declared.state.TheConstants.Name.{FlowBlankLineBefore, HtmlFlowOpen}
use Rattle.markdown_base.specs.Virtual.{Seat}
use Rattle.markdown_tokenizer.specs.Configuration.{Local}
use Rattle.markdown_tokenizer.specs.Text.{Given, Text}
use Rattle.mdconstructs_tables.specs.Looks.{scan}
use Rattle.mdblock_leaf_rows.specs.FlowTable.{flow}
use Rattle.mdblock_leaf_blocks.specs.LeafBlocks.{bytes_of}
use Rattle.mdblock_leaf_blocks.specs.LineKinds.{heading_text, is_thematic_break, run, unindented}
use Rattle.mdblock_leaf_blocks.specs.SeenKinds.{SeenKind, html_number, blank, indented, heading, fence, html, underline, thematic_break, text, seen_kind}

-- virtual bytes of a line, without a line ending
abbrev pub IsInLine : List Seat → Type 0
IsInLine line = AllByRecursion (λ (s : Seat). (s.byte == 10) ≡ false) line

-- a line ends before these bytes: none is left, or a line ending comes
abbrev pub LineEnds : List Seat → Type 0
LineEnds [] = Unit {0}
LineEnds (s ∷ ss) = s.byte ≡ 10

-- the text of an ATX heading, from its first number sign on
abbrev pub text_behind_signs : List ℕ → List ℕ
text_behind_signs r = heading_text (unindented (drop (run 35 r) r))

-- What a look leaves as it was: edits and resolvers, and what is noted of the paragraph in which it is made
pub record LeavesAll (before after : Local Unit Unit) : Type 0 where
  pub edits : after.map ≡ before.map
  pub resolvers : after.resolvers ≡ before.resolvers
  pub start : after.tokenize_state.start ≡ before.tokenize_state.start
  pub end : after.tokenize_state.end ≡ before.tokenize_state.end
  pub connect : after.tokenize_state.connect ≡ before.tokenize_state.connect

-- A look at a line found what it is: the answer, and what is written of it. A line of text fails
abbrev pub Finds : SeenKind → (rest : List ℕ) → Local Unit Unit → State → Type 0
Finds blank r l answer = (answer ≡ Ok) × (l.tokenize_state.token_1 ≡ BlankLineEnding)
Finds indented r l answer = (answer ≡ Ok) × (l.tokenize_state.token_1 ≡ CodeIndented)
Finds heading r l answer = (answer ≡ Ok) × (l.tokenize_state.token_1 ≡ HeadingAtx) × (l.tokenize_state.size_b ≡ length (text_behind_signs r))
Finds (fence f) r l answer = (answer ≡ Ok) × (l.tokenize_state.token_1 ≡ CodeFenced) × (l.tokenize_state.marker ≡ f.byte) × (l.tokenize_state.size_b ≡ f.size) × (l.tokenize_state.size_c ≡ f.indent)
Finds (html number) r l answer = (answer ≡ Ok) × (l.tokenize_state.token_1 ≡ HtmlFlow) × (l.tokenize_state.marker_b ≡ number)
Finds underline r l answer =
    (answer ≡ Ok) × (l.tokenize_state.token_1 ≡ HeadingSetextUnderline) × (((l.tokenize_state.marker == 45) && nat_le 3 l.tokenize_state.size_b) ≡ is_thematic_break r)
Finds thematic_break r l answer = (answer ≡ Ok) × (l.tokenize_state.token_1 ≡ ThematicBreak)
Finds text r l answer = answer ≡ Nok

-- The look at a line, of any bytes, finds its kind. No columns were counted yet
abbrev pub LinesAreSeen : Type 0
LinesAreSeen = (g : Given) (t : Text) (stack : List EventName) (events : List Event) (line rest : List Seat) (previous : Option ℕ) (position : ℕ) (mark : Bool) (local : Local Unit Unit)
    → drop position t.seats ≡ line ++ rest → IsInLine line → LineEnds rest → length line < 2 ^ 64 - 1 → local.tokenize_state.size_c ≡ 0
    → let r = scan flow g t stack events 2 (line ++ rest) previous position mark local FlowBlankLineBefore in
    LeavesAll local r.local × Finds (seen_kind g.options.constructs (bytes_of line)) (unindented (bytes_of line)) r.local r.answer

-- the look at HTML found this kind, behind a less-than sign; 0 is none
abbrev pub FindsHtml : (kind : ℕ) → Local Unit Unit → State → Type 0
FindsHtml zero l answer = answer ≡ Nok
FindsHtml (suc kind) l answer = (answer ≡ Ok) × (l.tokenize_state.token_1 ≡ HtmlFlow) × (l.tokenize_state.marker_b ≡ suc kind)

-- The look behind a less-than sign finds the kind of HTML that the sign begins
abbrev pub HtmlIsSeen : Type 0
HtmlIsSeen = (g : Given) (t : Text) (stack : List EventName) (events : List Event) (line rest : List Seat) (previous : Option ℕ) (position : ℕ) (mark : Bool) (local : Local Unit Unit)
    → drop position t.seats ≡ line ++ rest → IsInLine line → LineEnds rest
    → let r = scan flow g t stack events 2 (line ++ rest) previous position mark local HtmlFlowOpen in
    LeavesAll local r.local × FindsHtml (html_number (60 ∷ bytes_of line)) r.local r.answer
