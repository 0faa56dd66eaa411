-- The table of the machine of inline text: a list of constructs, and brackets, delimiter runs, line endings and data between them.
use Rattle.std.specs.Prelude.{ℕ, ◌||◌, ◌==◌, Bool, true, cond, List, [], ◌∷◌, ◌++◌, Option, Some, None}
use Rattle.markdown_base.specs.declared.event.Name.{Name as EventName}
use Rattle.markdown_base.specs.declared.event.Name.TheVariants.{Data, HardBreakTrailing, LineEnding, SpaceOrTab}
use Rattle.markdown_base.specs.declared.state.Name.{Name}
use Rattle.markdown_base.specs.declared.state.State.TheVariants.{Next, Retry, Ok}
use Rattle.markdown_base.specs.declared.state.TheConstants.Name.{AttentionStart, DataInside, LabelEndOk, LabelEndReferenceCollapsed, LabelEndStart, LabelStartImageStart, StringBefore, StringStart, TextBefore, TextBeforeHardBreakEscape, TextBeforeHtml, TextStart}
use Rattle.mdinline_machine.specs.declared.names.TheConstants.{DataSpace, DataSpaces, DataWhite, LabelEndReferenceStart, TextBeforeEmail, TextBeforeTag, TextLineStart, TextLineWhite, TextSpace, TextSpaces, TextWhite}
use Rattle.markdown_tokenizer.specs.Configuration.{Configuration, Step, TokenizerValue}
use Rattle.markdown_tokenizer.specs.Sight.{Sight, sight_of}
use Rattle.markdown_tokenizer.specs.Text.{Given}
use Rattle.mdconstructs_tables.specs.Rows.{enter, exit, consume, write, note, exit_noted, enter_noted, Rows, row, when, picked, step_of, at_bytes, StateRows, state, Table}
use Rattle.mdconstructs_tables.specs.RowInvariant.{CanEndNoted}
use Rattle.mdconstructs_tables.specs.Over.{unchanged}
use Rattle.mdconstructs_tables.specs.Numbers.{Price, by_left, by_class, numbers}
use Rattle.mdinline_text_machine.specs.Bytes.{is_space, passes}
use Rattle.mdinline_text_machine.specs.AutolinkRows.{autolinks, autolink_prices}
use Rattle.mdinline_text_machine.specs.Construct.{Construct, Found, between_texts, data_rows, some_begins, some_begun, some_follows, states_of, tried_at}
use Rattle.mdinline_text_machine.specs.EscapeRows.{escapes, escape_prices}
use Rattle.mdinline_text_machine.specs.TextBytes.{TextByte, backslash, less, line_feed, punctuation, white, text_byte, is_backslash_class, is_backtick_class, is_less_class, is_line_feed_class}
use Rattle.mdinline_text_machine.specs.TextCosts.{text_cost}
use Rattle.mdinline_text_machine.specs.TextTable.{text_before_data, data_at_break}
use Rattle.mdinline_constructs.specs.EmailRows.{emails, email_prices}
use Rattle.mdinline_constructs.specs.HardBreakRows.{break_escapes, break_escape_prices, trailing_breaks_are_on}
use Rattle.mdinline_constructs.specs.ReferenceRows.{references, reference_prices}
use Rattle.mdinline_constructs.specs.RememberedCode.{remembered_code_prices, remembered_code_spans}
use Rattle.mdinline_constructs.specs.HtmlMarkedRows.{html_marks, html_mark_prices}
use Rattle.mdinline_constructs.specs.HtmlTagRows.{html_tags, html_tag_prices}
use Rattle.mdinline_machine.specs.BracketRows.{bracket_prices, bracket_rows, bracket_states, mark_begins}
use Rattle.mdinline_machine.specs.RunRows.{run_begins, run_prices, run_states}
use Rattle.mdinline_machine.specs.StringTable.{registers, string_prices, string_states}

-- ---- the constructs
-- those that follow backslash escapes
abbrev pub behind_escapes : List (Construct Found TextByte Unit Unit)
behind_escapes = break_escapes ∷ references ∷ []

-- those that follow raw HTML between marks
abbrev pub behind_marks : List (Construct Found TextByte Unit Unit)
behind_marks = html_tags ∷ record escapes { otherwise = TextBeforeHardBreakEscape } ∷ behind_escapes

-- those that follow email autolinks
abbrev pub behind_emails : List (Construct Found TextByte Unit Unit)
behind_emails = record html_marks { otherwise = TextBeforeTag } ∷ behind_marks

-- those that follow autolinks
abbrev pub behind_autolinks : List (Construct Found TextByte Unit Unit)
behind_autolinks = record emails { otherwise = TextBeforeHtml } ∷ behind_emails

-- The constructs of inline text that are tried, and at which byte. What begins with white space is read without a try.
abbrev pub inline_constructs : List (Construct Found TextByte Unit Unit)
inline_constructs = remembered_code_spans ∷ record autolinks { otherwise = TextBeforeEmail } ∷ behind_autolinks

-- If a construct is not there, the others are tried that begin with bytes of its class
abbrev pub others_rows : List (Construct Found TextByte Unit Unit) → TextByte → (previous current : Option TextByte) → Rows Unit Unit
others_rows cs w _ _ = tried_at between_texts cs w

-- the state that does so: no span is open, and it is called at these bytes only
abbrev pub others_state : Name → List (Construct Found TextByte Unit Unit) → TextByte → (TextByte → Bool) → Price TextByte → StateRows TextByte Unit Unit
others_state name cs w is_class price =
    record (state name (others_rows cs w) [] (text_cost price)) { called = at_bytes is_class }

-- behind a backslash escape that is none
abbrev pub before_hard_break_escape : StateRows TextByte Unit Unit
before_hard_break_escape = others_state TextBeforeHardBreakEscape behind_escapes backslash is_backslash_class (by_left 4 18 0)

-- behind an autolink that is none
abbrev pub before_email : StateRows TextByte Unit Unit
before_email = others_state TextBeforeEmail behind_autolinks less is_less_class (by_left 4 18 6)

-- behind an email autolink that is none
abbrev pub before_html : StateRows TextByte Unit Unit
before_html = others_state TextBeforeHtml behind_emails less is_less_class (by_left 4 17 4)

-- behind raw HTML between marks that is none
abbrev pub before_tag : StateRows TextByte Unit Unit
before_tag = others_state TextBeforeTag behind_marks less is_less_class (by_left 4 15 2)

-- ---- between constructs
-- a space waits, and no tab
abbrev pub space_waits : Given → Sight → Configuration Unit Unit → Bool
space_waits g s k = passes is_space s.current

-- at white space the place is noted, and a space or a tab is read
abbrev pub notes_white : (space tabbed : Name) → Rows Unit Unit
notes_white space tabbed = when space_waits (row (note ∷ consume ∷ []) (Next space)) (row (note ∷ consume ∷ []) (Next tabbed))

-- behind white space a space or a tab is read
abbrev pub reads_white : (spaces tabbed : Name) → Rows Unit Unit
reads_white spaces tabbed = when space_waits (row (consume ∷ []) (Next spaces)) (row (consume ∷ []) (Next tabbed))

-- Before a text
abbrev pub inline_start_rows : (previous current : Option TextByte) → Rows Unit Unit
inline_start_rows _ _ = row (write registers ∷ []) (Retry TextLineStart)

-- its state: no span is open
abbrev pub inline_start : StateRows TextByte Unit Unit
inline_start =
    state TextStart inline_start_rows [] (text_cost (by_left 4 20 9))

-- White space at the beginning of a line
abbrev pub line_start_rows : (previous current : Option TextByte) → Rows Unit Unit
line_start_rows _ (Some white) = row (enter SpaceOrTab ∷ consume ∷ []) (Next TextLineWhite)
line_start_rows _ _ = row [] (Retry TextBefore)

-- its state: no span is open
abbrev pub line_start : StateRows TextByte Unit Unit
line_start =
    state TextLineStart line_start_rows [] (text_cost (by_left 4 20 8))

-- all of it is read
abbrev pub line_white_rows : (previous current : Option TextByte) → Rows Unit Unit
line_white_rows _ (Some white) = row (consume ∷ []) (Next TextLineWhite)
line_white_rows _ _ = row (exit SpaceOrTab ∷ []) (Retry TextBefore)

-- its state: white space is open
abbrev pub line_white : StateRows TextByte Unit Unit
line_white =
    state TextLineWhite line_white_rows (SpaceOrTab ∷ []) (text_cost (by_left 4 20 8))

-- Between constructs: a line ending is read, a run begins, a bracket or an end of a label is read, white space is read, a construct is tried, or data is
-- read
abbrev pub inline_before_rows : (previous current : Option TextByte) → Rows Unit Unit
inline_before_rows _ None = row [] Ok
inline_before_rows _ (Some line_feed) = row (enter LineEnding ∷ consume ∷ exit LineEnding ∷ []) (Next TextLineStart)
inline_before_rows _ (Some punctuation) = when run_begins (row [] (Retry AttentionStart)) bracket_rows
inline_before_rows _ (Some white) = notes_white TextSpace TextWhite
inline_before_rows _ (Some w) = tried_at between_texts inline_constructs w

-- their state: no span is open
abbrev pub inline_before : StateRows TextByte Unit Unit
inline_before =
    state TextBefore inline_before_rows [] (text_cost (by_left 4 20 7))

-- ---- data
-- In data. At white space the place is noted: it shows behind it whether it is data
abbrev pub inline_data_rows : (previous current : Option TextByte) → Rows Unit Unit
inline_data_rows _ (Some punctuation) = when mark_begins (row (exit Data ∷ []) (Retry TextBefore)) (row (consume ∷ []) (Next DataInside))
inline_data_rows _ (Some white) = notes_white DataSpace DataWhite
inline_data_rows previous current = data_rows between_texts is_line_feed_class inline_constructs previous current

-- its state: a data span is open
abbrev pub inline_data : StateRows TextByte Unit Unit
inline_data =
    state DataInside inline_data_rows (Data ∷ []) (text_cost (by_left 4 21 10))

-- ---- white space
-- The white space that was read is a span of this name, from the noted place on
abbrev pub white_over : EventName → Rows Unit Unit
white_over name = row (enter_noted name ∷ exit name ∷ []) (Retry TextBefore)

-- the same where data was open before it: data ends there
abbrev pub data_over : EventName → Rows Unit Unit
data_over name = row (exit_noted Data ∷ enter_noted name ∷ exit name ∷ []) (Retry TextBefore)

-- spaces before a line ending are a hard break, if those are on
abbrev pub break_or_white : (EventName → Rows Unit Unit) → Rows Unit Unit
break_or_white over = when trailing_breaks_are_on (over HardBreakTrailing) (over SpaceOrTab)

-- the white space was data, which begins at the noted place
abbrev pub white_is_data : Rows Unit Unit
white_is_data = row (enter_noted Data ∷ []) (Retry DataInside)

-- it was data, and so is the byte behind it, unless something else may begin with that
abbrev pub data_goes_on : TextByte → Rows Unit Unit
data_goes_on punctuation = when mark_begins (row [] (Retry DataInside)) (row (consume ∷ []) (Next DataInside))
data_goes_on w = cond (some_begins inline_constructs w) (row [] (Retry DataInside)) (row (consume ∷ []) (Next DataInside))

-- the step of these rows in a tokenizer
abbrev pub step_by : {M : Type 0} → Rows Unit Unit → TokenizerValue M Unit Unit → Step Unit Unit
step_by rows t = step_of (picked rows t.given (sight_of t) t.configuration) (sight_of t) t.configuration

-- data can end at the noted place, and white space begin there
abbrev pub CanEndData : {M : Type 0} → TokenizerValue M Unit Unit → Type 0
CanEndData t = CanEndNoted (Data ∷ []) t

-- Behind one space
abbrev pub text_space_rows : (previous current : Option TextByte) → Rows Unit Unit
text_space_rows _ None = white_over SpaceOrTab
text_space_rows _ (Some line_feed) = white_over SpaceOrTab
text_space_rows _ (Some white) = reads_white TextSpaces TextWhite
text_space_rows _ (Some _) = white_is_data

-- behind two spaces or more
abbrev pub text_spaces_rows : (previous current : Option TextByte) → Rows Unit Unit
text_spaces_rows _ None = white_over SpaceOrTab
text_spaces_rows _ (Some line_feed) = break_or_white white_over
text_spaces_rows _ (Some white) = reads_white TextSpaces TextWhite
text_spaces_rows _ (Some _) = white_is_data

-- behind white space with a tab
abbrev pub text_white_rows : (previous current : Option TextByte) → Rows Unit Unit
text_white_rows _ None = white_over SpaceOrTab
text_white_rows _ (Some line_feed) = white_over SpaceOrTab
text_white_rows _ (Some white) = row (consume ∷ []) (Next TextWhite)
text_white_rows _ (Some _) = white_is_data

-- their states: no span is open, and the place where the white space begins is noted
abbrev pub text_space : StateRows TextByte Unit Unit
text_space =
    record (state TextSpace text_space_rows [] (text_cost (by_left 4 21 11))) { noted = true }

abbrev pub text_spaces : StateRows TextByte Unit Unit
text_spaces =
    record (state TextSpaces text_spaces_rows [] (text_cost (by_left 4 21 11))) { noted = true }

abbrev pub text_white : StateRows TextByte Unit Unit
text_white =
    record (state TextWhite text_white_rows [] (text_cost (by_left 4 21 11))) { noted = true }

-- In data, behind one space
abbrev pub data_space_rows : (previous current : Option TextByte) → Rows Unit Unit
data_space_rows _ None = data_over SpaceOrTab
data_space_rows _ (Some line_feed) = data_over SpaceOrTab
data_space_rows _ (Some white) = reads_white DataSpaces DataWhite
data_space_rows _ (Some w) = data_goes_on w

-- behind two spaces or more
abbrev pub data_spaces_rows : (previous current : Option TextByte) → Rows Unit Unit
data_spaces_rows _ None = data_over SpaceOrTab
data_spaces_rows _ (Some line_feed) = break_or_white data_over
data_spaces_rows _ (Some white) = reads_white DataSpaces DataWhite
data_spaces_rows _ (Some w) = data_goes_on w

-- behind white space with a tab
abbrev pub data_white_rows : (previous current : Option TextByte) → Rows Unit Unit
data_white_rows _ None = data_over SpaceOrTab
data_white_rows _ (Some line_feed) = data_over SpaceOrTab
data_white_rows _ (Some white) = row (consume ∷ []) (Next DataWhite)
data_white_rows _ (Some w) = data_goes_on w

-- their states: a data span is open, and the place where the white space begins is noted
abbrev pub data_space : StateRows TextByte Unit Unit
data_space =
    record (state DataSpace data_space_rows (Data ∷ []) (text_cost (by_left 4 21 11))) { noted = true }

abbrev pub data_spaces : StateRows TextByte Unit Unit
data_spaces =
    record (state DataSpaces data_spaces_rows (Data ∷ []) (text_cost (by_left 4 21 11))) { noted = true }

abbrev pub data_white : StateRows TextByte Unit Unit
data_white =
    record (state DataWhite data_white_rows (Data ∷ []) (text_cost (by_left 4 21 11))) { noted = true }

-- the states in white space
abbrev pub white_states : List (StateRows TextByte Unit Unit)
white_states = text_space ∷ text_spaces ∷ text_white ∷ data_space ∷ data_spaces ∷ data_white ∷ []

-- a backtick string that begins data costs less at a backtick, too
abbrev pub at_data_break : Price TextByte
at_data_break = by_class (numbers 4 21 21 11) (λ w. cond (is_backtick_class w) (numbers 4 21 21 12) (numbers 4 29 29 36))

-- the states in which data begins, as in texts
abbrev pub data_states : List (StateRows TextByte Unit Unit)
data_states = record text_before_data { cost = text_cost (by_left 4 13 0) } ∷ record data_at_break { cost = text_cost at_data_break } ∷ []

-- ---- the table
-- What the states cost. Between constructs each byte may begin one that is read to the end and fails
abbrev pub inline_prices : List (Price TextByte)
inline_prices =
    string_prices
    ++ (run_prices
    ++ (by_left 4 20 9 ∷ by_left 4 20 8 ∷ by_left 4 20 8 ∷ by_left 4 20 7 ∷ by_left 4 18 0 ∷ by_left 4 18 6 ∷ by_left 4 17 4 ∷ by_left 4 15 2 ∷ by_left 4 13 0 ∷ at_data_break ∷ by_left 4 21 10
    ∷ by_left 4 21 11 ∷ by_left 4 21 11 ∷ by_left 4 21 11 ∷ by_left 4 21 11 ∷ by_left 4 21 11 ∷ by_left 4 21 11
    ∷ (remembered_code_prices ++ (autolink_prices ++ (email_prices ++ (html_mark_prices ++ (html_tag_prices ++ (escape_prices ++ (break_escape_prices ++ (reference_prices ++ bracket_prices))))))))))

-- the states between constructs, but the first
abbrev pub own_states : List (StateRows TextByte Unit Unit)
own_states =
    line_start ∷ line_white ∷ inline_before ∷ before_hard_break_escape ∷ before_email ∷ before_html ∷ before_tag ∷ (data_states ++ (inline_data ∷ white_states))

-- which labels are defined
module _ (defined : List ℕ → Bool) where
  -- the states of inline text but the first
  abbrev pub later_states : List (StateRows TextByte Unit Unit)
  later_states = own_states ++ (states_of inline_constructs ++ bracket_states defined)

  -- all states, of inline text and of strings
  abbrev pub inline_states : List (StateRows TextByte Unit Unit)
  inline_states = string_states ++ (run_states ++ inline_start ∷ later_states)

-- a reading starts before a text, or before a string
abbrev pub inline_starts : List Name
inline_starts = TextStart ∷ StringStart ∷ []

-- their table, by which labels are defined
abbrev pub inlines : (defined : List ℕ → Bool) → Table TextByte Unit Unit
inlines defined = record { class = text_byte; first = unchanged; states = inline_states defined; starts = inline_starts }

-- the states that begin a construct: they are called only if the construct is tried; and so are those of brackets of images and of ends, and of references
abbrev pub begins_inline : Name → Option TextByte → Bool
begins_inline name w =
    (name.number == LabelStartImageStart.number) || ((name.number == LabelEndStart.number)
    || ((name.number == LabelEndReferenceStart.number) || ((name.number == LabelEndReferenceCollapsed.number) || some_begun inline_constructs name w)))

-- the states that come next if a construct was there
abbrev pub follows_inline : Name → Bool
follows_inline name = (name.number == TextBefore.number) || ((name.number == StringBefore.number) || ((name.number == LabelEndOk.number) || some_follows inline_constructs name))
