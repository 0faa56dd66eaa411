-- Rows that kinds of raw HTML have in common.
use Rattle.std.specs.Prelude.{◌≡◌, ℕ, ◌==◌, not, Bool, List, [], ◌∷◌, ◌++◌, Option, Some, None}
use Rattle.markdown_base.specs.declared.event.Name.TheVariants.{HtmlText, HtmlTextData, LineEnding, SpaceOrTab}
use Rattle.markdown_base.specs.declared.state.Name.{Name}
use Rattle.markdown_base.specs.declared.state.State.TheVariants.{Next, Retry, Ok, Nok}
use Rattle.markdown_base.specs.declared.state.TheConstants.Name.{HtmlTextTagCloseBetween, HtmlTextTagOpenBetween, HtmlTextTagOpenAttributeNameAfter, HtmlTextTagOpenAttributeValueBefore, HtmlTextTagOpenAttributeValueQuoted, HtmlTextLineEndingAfter, HtmlTextLineEndingAfterPrefix}
use Rattle.markdown_tokenizer.specs.Text.{Given}
use Rattle.markdown_tokenizer.specs.Calls.{exited, CanExit}
use Rattle.markdown_tokenizer.specs.Configuration.{Configuration, Local, TokenizerValue, at_configuration}
use Rattle.markdown_tokenizer.specs.Sight.{Sight, sight_of}
use Rattle.markdown_tokenizer.specs.declared.waiting.Waits.TheVariants.{Byte}
use Rattle.mdconstructs_tables.specs.Breaks.{is_white}
use Rattle.mdconstructs_tables.specs.Markers.{IsMarkable}
use Rattle.mdconstructs_tables.specs.RowInvariant.{CanEnd, once_read}
use Rattle.mdconstructs_tables.specs.Rows.{Act, enter, exit, consume, write, Rows, row, when, at_byte, StateRows, state}
use Rattle.mdconstructs_tables.specs.Numbers.{by_left}
use Rattle.mdinline_text_machine.specs.Bytes.{passes}
use Rattle.mdinline_text_machine.specs.Construct.{tried}
use Rattle.mdinline_text_machine.specs.TextBytes.{TextByte, line_feed, is_line_feed_class}
use Rattle.mdinline_text_machine.specs.TextCosts.{text_cost}

-- the options have raw HTML on
abbrev pub html_is_on : {R D : Type 0} → Given → Sight → Configuration R D → Bool
html_is_on g s k = g.options.constructs.html_text

-- a byte waits, and passes the test
abbrev pub sees : {R D : Type 0} → (test : ℕ → Bool) → Given → Sight → Configuration R D → Bool
sees test g s k = passes test s.current

-- what a state of raw HTML does: at a line ending, and at any other byte. Raw HTML has no end of the text in it
abbrev pub html_rows : {R D : Type 0} → (ending others : Rows R D) → (previous current : Option TextByte) → Rows R D
html_rows ending others _ None = row [] Nok
html_rows ending others _ (Some line_feed) = ending
html_rows ending others _ (Some _) = others

-- raw HTML is not there
abbrev pub no_html : {R D : Type 0} → Rows R D
no_html = row [] Nok

-- a byte of it is read
abbrev pub html_goes_on : {R D : Type 0} → Name → Rows R D
html_goes_on name = row (consume ∷ []) (Next name)

-- its last byte is read
abbrev pub html_ends : {R D : Type 0} → Rows R D
html_ends = row (consume ∷ exit HtmlTextData ∷ exit HtmlText ∷ []) Ok

-- a state follows a line ending: its number is kept
abbrev pub follows_line_ending : {R D : Type 0} → (number : ℕ) → Configuration R D → Local R D
follows_line_ending number k = record k.local { tokenize_state = record k.local.tokenize_state { marker_b = number } }

-- the number of this state was kept
abbrev pub is_following : {R D : Type 0} → Name → Given → Sight → Configuration R D → Bool
is_following name g s k = k.local.tokenize_state.marker_b == name.number

-- a line ending is read: the state of this number follows it
abbrev pub html_line_ends : {R D : Type 0} → (number : ℕ) → Rows R D
html_line_ends number = row (exit HtmlTextData ∷ enter LineEnding ∷ consume ∷ exit LineEnding ∷ write (follows_line_ending number) ∷ []) (Next HtmlTextLineEndingAfter)

-- data begins in the next line, with the one of these states that follows
abbrev pub html_line_begins : {R D : Type 0} → List (Act R D) → List Name → Rows R D
html_line_begins acts [] = row [] Nok
html_line_begins acts (name ∷ names) = when (is_following name) (row (acts ++ enter HtmlTextData ∷ []) (Retry name)) (html_line_begins acts names)

-- the states that may follow a line ending
abbrev pub html_following : List Name
html_following =
    HtmlTextTagCloseBetween ∷ HtmlTextTagOpenBetween ∷ HtmlTextTagOpenAttributeNameAfter ∷ HtmlTextTagOpenAttributeValueBefore ∷ HtmlTextTagOpenAttributeValueQuoted ∷ []

-- the classes of the bytes of data
abbrev pub is_html_data : TextByte → Bool
is_html_data w = not (is_line_feed_class w)

-- Behind a line ending: white space or data begins. A line ending would make a blank line
abbrev pub html_line_ending_after_rows : {R D : Type 0} → (previous current : Option TextByte) → Rows R D
html_line_ending_after_rows =
    html_rows no_html (when (sees is_white) (row (enter SpaceOrTab ∷ consume ∷ []) (Next HtmlTextLineEndingAfterPrefix)) (html_line_begins [] html_following))

-- its state: raw HTML is open
abbrev pub html_line_ending_after : {R D : Type 0} → StateRows TextByte R D
html_line_ending_after =
    tried (state HtmlTextLineEndingAfter html_line_ending_after_rows (HtmlText ∷ []) (text_cost (by_left 0 2 2)))

-- In white space behind a line ending
abbrev pub html_line_ending_after_prefix_rows : {R D : Type 0} → (previous current : Option TextByte) → Rows R D
html_line_ending_after_prefix_rows =
    html_rows no_html (when (sees is_white) (html_goes_on HtmlTextLineEndingAfterPrefix) (html_line_begins (exit SpaceOrTab ∷ []) html_following))

-- its state: raw HTML and white space are open
abbrev pub html_line_ending_after_prefix : {R D : Type 0} → StateRows TextByte R D
html_line_ending_after_prefix =
    tried (state HtmlTextLineEndingAfterPrefix html_line_ending_after_prefix_rows (HtmlText ∷ SpaceOrTab ∷ []) (text_cost (by_left 0 2 2)))

-- a state in data of raw HTML, which may begin at any byte but a line feed
abbrev pub html_state : {R D : Type 0} → Name → ((previous current : Option TextByte) → Rows R D) → StateRows TextByte R D
html_state name rows =
    tried (record (state name rows (HtmlText ∷ HtmlTextData ∷ []) (text_cost (by_left 0 2 1))) { begun = at_byte is_html_data })

-- What code of states in data needs: the byte that waits may be read as the last one, and both spans may end behind it
pub record CanEndHtml {M R D : Type 0} (t : TokenizerValue M R D) : Type 0 where
  pub waits : t.configuration.waiting ≡ Byte
  pub stands : (sight_of (once_read t)).exit_place ≡ (sight_of t).next
  pub ends : CanEnd (HtmlTextData ∷ HtmlText ∷ []) (once_read t)

-- data may end, and then the byte that waits may be a span of its own
pub record CanEndHtmlLine {M R D : Type 0} (t : TokenizerValue M R D) : Type 0 where
  pub waits : t.configuration.waiting ≡ Byte
  pub ends : CanExit HtmlTextData t
  pub marks : IsMarkable (at_configuration t (exited HtmlTextData (sight_of t).exit_place t.configuration))
