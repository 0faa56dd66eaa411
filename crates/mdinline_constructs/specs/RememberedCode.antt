-- Code spans as a machine reads them that remembers backtick strings: what it reads is as without that, but no backtick string is looked for once it
-- is known that there is none.
use Rattle.std.specs.Prelude.{ℕ, zero, suc, ◌&&◌, nat_le, not, Bool, true, false, cond, List, [], ◌∷◌, Option, Some, None}
use Rattle.std.specs.List.{last_or}
use Rattle.markdown_base.specs.declared.event.Event.{Event}
use Rattle.markdown_base.specs.declared.event.Name.TheVariants.{CodeText, CodeTextData, CodeTextSequence, LineEnding, SpaceOrTab}
use Rattle.markdown_base.specs.declared.state.State.TheVariants.{Next, Retry, Nok}
use Rattle.markdown_base.specs.declared.state.TheConstants.Name.{RawTextBetween, RawTextSequenceOpen}
use Rattle.mdinline_text_machine.specs.declared.names.TheConstants.{RawTextBackticksInside}
use Rattle.markdown_tokenizer.specs.Configuration.{Configuration, Local}
use Rattle.markdown_tokenizer.specs.Sight.{Sight}
use Rattle.markdown_tokenizer.specs.Text.{Given}
use Rattle.markdown_tokenizer.specs.declared.tokenizer.state.Container.TheVariants.{BlockQuote}
use Rattle.markdown_tokenizer.specs.declared.tokenizer.state.ContainerState.{ContainerState}
use Rattle.mdconstructs_tables.specs.Rows.{enter, exit, consume, write, Rows, row, when, StateRows, state}
use Rattle.mdinline_text_machine.specs.CodeSpanRows.{code_spans, in_code_data, line_ending_then, raw_text_after, raw_text_backticks_start, raw_text_backticks_inside, raw_text_between, raw_text_between_rows, raw_text_data, raw_text_sequence_close, raw_text_sequence_open, raw_text_start}
use Rattle.mdinline_constructs.specs.LinedCode.{lined_code_grammar}
use Rattle.mdinline_constructs.specs.declared.names.TheConstants.{RawTextLineStart, RawTextLineWhite}
use Rattle.mdconstructs_tables.specs.Numbers.{Price, by_left, by_run, numbers}
use Rattle.mdinline_text_machine.specs.Construct.{Construct, Found, if_option, tried}
use Rattle.mdinline_text_machine.specs.TextCosts.{text_cost}
use Rattle.mdinline_text_machine.specs.TextBytes.{TextByte, backtick, line_feed, white}
use Rattle.mdinline_text_machine.specs.TextSizes.{size_b_grows}

-- ---- what is remembered: for each length whether backtick strings of it were seen, and where the last of them begins
-- none was seen
abbrev pub unseen : ContainerState
unseen = record { kind = BlockQuote; blank_initial = false; size = 0 }

-- one was seen, which begins at this index of the document
abbrev pub seen_at : ℕ → ContainerState
seen_at index = record { kind = BlockQuote; blank_initial = true; size = index }

-- one was seen that does not begin before this index
abbrev pub is_seen_from : ContainerState → ℕ → Bool
is_seen_from last index = last.blank_initial && nat_le index last.size

-- the last of those that were seen and of this one
abbrev pub later_of : ContainerState → ℕ → ContainerState
later_of last index = cond (is_seen_from last index) last (seen_at index)

-- entry k is of backtick strings of length k: one of this length was seen, which begins at this index
abbrev pub with_run : (runs : List ContainerState) → (k index : ℕ) → List ContainerState
with_run [] zero index = seen_at index ∷ []
with_run [] (suc k) index = unseen ∷ with_run [] k index
with_run (last ∷ runs) zero index = later_of last index ∷ runs
with_run (last ∷ runs) (suc k) index = last ∷ with_run runs k index

-- one of this length was seen that does not begin before this index
abbrev pub is_ahead : (runs : List ContainerState) → (k index : ℕ) → Bool
is_ahead [] k index = false
is_ahead (last ∷ runs) zero index = is_seen_from last index
is_ahead (last ∷ runs) (suc k) index = is_ahead runs k index

-- the index of an event
abbrev pub index_of : Option Event → ℕ
index_of None = 0
index_of (Some e) = e.point.index

-- ---- what states test and write
module _ {R D : Type 0} where
  abbrev pub runs_of : Local R D → List ContainerState
  runs_of local = local.tokenize_state.document_container_stack

  -- all backtick strings further on were seen, and none that is as long as the opening one is ahead of this index
  abbrev pub is_hopeless_at : ℕ → Local R D → Bool
  is_hopeless_at index local = local.tokenize_state.seen && not (is_ahead (runs_of local) local.tokenize_state.size_b index)

  -- a backtick string of the length that was read begins at this index
  abbrev pub with_run_at : ℕ → Local R D → Local R D
  with_run_at index local =
      record local { tokenize_state = record local.tokenize_state { document_container_stack = with_run (runs_of local) local.tokenize_state.size_c index } }

  -- all were seen
  abbrev pub all_runs_seen : Local R D → Local R D
  all_runs_seen local = record local { tokenize_state = record local.tokenize_state { seen = true } }

  -- behind the opening backtick string: nothing that closes the code span is ahead
  abbrev pub is_hopeless : Given → Sight → Configuration R D → Bool
  is_hopeless g s k = is_hopeless_at s.point.index k.local

  -- a backtick string that closes nothing begins where the last event is
  abbrev pub run_is_noted : Configuration R D → Local R D
  run_is_noted k = with_run_at (index_of (last_or None k.events)) k.local

  -- at the end of the text all were seen
  abbrev pub runs_are_seen : Configuration R D → Local R D
  runs_are_seen k = all_runs_seen k.local

-- ---- the rows that differ
-- behind the opening backtick string nothing is looked for if nothing that closes the code span is ahead
abbrev pub remembered_open_rows : {R D : Type 0} → (previous current : Option TextByte) → Rows R D
remembered_open_rows _ None = row (exit CodeTextSequence ∷ []) (Retry RawTextBetween)
remembered_open_rows _ (Some backtick) = row (write size_b_grows ∷ consume ∷ []) (Next RawTextSequenceOpen)
remembered_open_rows _ (Some _) = when is_hopeless (row [] Nok) (row (exit CodeTextSequence ∷ []) (Retry RawTextBetween))

-- its state
abbrev pub remembered_open : {R D : Type 0} → StateRows TextByte R D
remembered_open = record raw_text_sequence_open { rows = remembered_open_rows }

-- in it, at the end of the text
abbrev pub remembered_between_rows : {R D : Type 0} → (previous current : Option TextByte) → Rows R D
remembered_between_rows _ None = row (write runs_are_seen ∷ []) Nok
remembered_between_rows previous (Some line_feed) = line_ending_then RawTextLineStart
remembered_between_rows previous (Some w) = raw_text_between_rows previous (Some w)

-- its state
abbrev pub remembered_between : {R D : Type 0} → StateRows TextByte R D
remembered_between = record raw_text_between { rows = remembered_between_rows }

-- Behind a line ending in it: white space of the next line may begin
abbrev pub code_line_rows : {R D : Type 0} → (previous current : Option TextByte) → Rows R D
code_line_rows _ (Some white) = row (enter SpaceOrTab ∷ consume ∷ []) (Next RawTextLineWhite)
code_line_rows _ _ = row [] (Retry RawTextBetween)

-- its state: a code span is open
abbrev pub code_line : {R D : Type 0} → StateRows TextByte R D
code_line = tried (state RawTextLineStart code_line_rows (CodeText ∷ []) (text_cost (by_left 0 7 2)))

-- in that white space
abbrev pub code_white_rows : {R D : Type 0} → (previous current : Option TextByte) → Rows R D
code_white_rows _ (Some white) = row (consume ∷ []) (Next RawTextLineWhite)
code_white_rows _ _ = row (exit SpaceOrTab ∷ []) (Retry RawTextBetween)

-- its state: white space is open, too
abbrev pub code_white : {R D : Type 0} → StateRows TextByte R D
code_white = tried (state RawTextLineWhite code_white_rows (CodeText ∷ SpaceOrTab ∷ []) (text_cost (by_left 0 7 2)))

-- a backtick string of another length is data, and is noted
abbrev pub remembered_chunk_rows : {R D : Type 0} → (previous current : Option TextByte) → Rows R D
remembered_chunk_rows _ _ = row (enter CodeTextData ∷ write run_is_noted ∷ []) (Retry RawTextBackticksInside)

-- its state
abbrev pub remembered_chunk : {R D : Type 0} → StateRows TextByte R D
remembered_chunk = record raw_text_backticks_start { rows = remembered_chunk_rows }

-- What its states cost
abbrev pub remembered_code_prices : List (Price TextByte)
remembered_code_prices =
    by_left 0 7 0 ∷ by_run (numbers 0 1 7 2) ∷ by_left 0 7 1 ∷ by_left 0 7 2 ∷ by_left 0 7 2 ∷ in_code_data ∷ by_run (numbers 0 1 0 1) ∷ by_left 0 0 1 ∷ by_run (numbers 0 1 7 4)
    ∷ by_run (numbers 0 1 7 3) ∷ []

-- How code spans are read by a machine that remembers
abbrev pub remembered_code_spans : {R D : Type 0} → Construct Found TextByte R D
remembered_code_spans = record code_spans {
  grammar = lined_code_grammar;
  allowed = if_option lined_code_grammar;
  states = raw_text_start ∷ remembered_open ∷ remembered_between ∷ code_line ∷ code_white ∷ raw_text_data ∷ raw_text_sequence_close ∷ raw_text_after ∷ remembered_chunk ∷ raw_text_backticks_inside ∷ [];
}
