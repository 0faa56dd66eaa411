-- What a machine that reads code spans does at the names of their states: as their rows say, and beside that it may remember backtick strings.
use Rattle.mdinline_text_machine.proofs.Prelude.{◌≡◌, ◌∷◌, [], List, Bool, false, Option, Some, None, refl, Event, CodeTextSequence, CodeTextData, Name, Next, Retry, Nok, RawTextStart, RawTextSequenceOpen, RawTextBetween, RawTextData, RawTextSequenceClose, RawTextAfter, RawTextBackticksStart, RawTextBackticksInside, Point, Given, Text, Configuration, Local, Rows, TextByte, backtick, is_tick, row, when, enter, exit, consume, row_step, line_feed, is_backtick_or_line_feed, by-class, text_byte, ℕ, arith, nat_tests, raw_text_start_rows, raw_text_sequence_open_rows, raw_text_between_rows, raw_text_data_rows, raw_text_sequence_close_rows, raw_text_backticks_inside_rows}
use Rattle.mdconstructs_tables.specs.Rows.{write}
use Rattle.mdinline_text_machine.specs.CodeSpanRows.{line_ending_then, raw_text_after_rows}
use Rattle.mdinline_text_machine.specs.TextSizes.{size_b_grows}
use Rattle.mdinline_text_machine.proofs.Texts.Steps.{HasRows, Plays}

-- what is written beside events
abbrev pub Notes : Type 0
Notes = List Event → Local Unit Unit → Local Unit Unit

abbrev pub Writes : Type 0
Writes = Local Unit Unit → Local Unit Unit

-- What a machine remembers of backtick strings: by the place behind one that opens, whether none can close it; what is written where one that
-- closes nothing was entered as data; and what is written at the end. And the state behind a line ending
pub record Remembering : Type 0 where
  pub hopeless : Point → Local Unit Unit → Bool
  pub noted : Notes
  pub all_noted : Writes
  pub behind_line : Name

-- nothing is remembered
abbrev pub forgetful : Remembering
forgetful = record { hopeless = λ p local. false; noted = λ events local. local; all_noted = λ local. local; behind_line = RawTextBetween }

module _ (r : Remembering) where
  -- behind the opening backtick string there is a test
  abbrev pub opening_rows : (previous current : Option TextByte) → Rows Unit Unit
  opening_rows _ None = row (exit CodeTextSequence ∷ []) (Retry RawTextBetween)
  opening_rows _ (Some backtick) = row (write size_b_grows ∷ consume ∷ []) (Next RawTextSequenceOpen)
  opening_rows _ (Some _) = when (λ g s k. r.hopeless s.point k.local) (row [] Nok) (row (exit CodeTextSequence ∷ []) (Retry RawTextBetween))

  -- at the end all were seen
  abbrev pub between_rows : (previous current : Option TextByte) → Rows Unit Unit
  between_rows _ None = row (write (λ k. r.all_noted k.local) ∷ []) Nok
  between_rows _ (Some line_feed) = line_ending_then r.behind_line
  between_rows b (Some w) = raw_text_between_rows b (Some w)

  -- a backtick string that is data is noted
  abbrev pub before_chunk_rows : (previous current : Option TextByte) → Rows Unit Unit
  before_chunk_rows _ _ = row (enter CodeTextData ∷ write (λ k. r.noted k.events k.local) ∷ []) (Retry RawTextBackticksInside)

  -- where no backtick waits
  pub opening-ended : (before : Option TextByte) (w : TextByte) → is_tick (Some w) ≡ false
      → opening_rows before (Some w) ≡ when (λ g s k. r.hopeless s.point k.local) (row [] Nok) (row (exit CodeTextSequence ∷ []) (Retry RawTextBetween))
  opening-ended before backtick h = absurd (cc)
  opening-ended before _ h = refl

  -- at each byte of data
  pub between-data : (before : Option TextByte) (b : ℕ) → is_backtick_or_line_feed b ≡ false → between_rows before (Some (text_byte b)) ≡ row (enter CodeTextData ∷ []) (Retry RawTextData)
  between-data before b h =
      by-class (λ w. between_rows before (Some w) ≡ row (enter CodeTextData ∷ []) (Retry RawTextData)) b
      (λ e. absurd (grind (arith, nat_tests))) (λ e. absurd (grind (arith, nat_tests))) (λ e. refl) (λ e. refl) (λ e. refl) (λ e. refl) (λ e. refl) (λ e f. refl) (λ e. refl) (λ e. refl) (λ e. refl)
      (λ o e. refl) (λ o e. refl) (λ o n e. refl)

-- A machine that reads code spans
pub record PlaysCodeSpans (g : Given) (text : Text) (m : Plays g text) (r : Remembering) : Type 0 where
  pub raw_text_start : HasRows g text m.step RawTextStart raw_text_start_rows
  pub raw_text_sequence_open : HasRows g text m.step RawTextSequenceOpen (opening_rows r)
  pub raw_text_between : HasRows g text m.step RawTextBetween (between_rows r)
  pub raw_text_data : HasRows g text m.step RawTextData raw_text_data_rows
  pub raw_text_sequence_close : HasRows g text m.step RawTextSequenceClose raw_text_sequence_close_rows
  pub raw_text_after : HasRows g text m.step RawTextAfter raw_text_after_rows
  pub raw_text_backticks_start : HasRows g text m.step RawTextBackticksStart (before_chunk_rows r)
  pub raw_text_backticks_inside : HasRows g text m.step RawTextBackticksInside raw_text_backticks_inside_rows
  pub keeps : (events : List Event) (local : Local Unit Unit) → (r.noted events local).tokenize_state.size_b ≡ local.tokenize_state.size_b

-- the rows of code spans are those of a machine that remembers nothing
module _ (g : Given) (text : Text) (k : Configuration Unit Unit) where
  pub opening-plain : (before waits : Option TextByte) → row_step g text k (raw_text_sequence_open_rows before waits) ≡ row_step g text k (opening_rows forgetful before waits)
  opening-plain before None = refl
  opening-plain before (Some backtick) = refl
  opening-plain before (Some _) = refl

  pub between-plain : (before waits : Option TextByte) → row_step g text k (raw_text_between_rows before waits) ≡ row_step g text k (between_rows forgetful before waits)
  between-plain before None = refl
  between-plain before (Some line_feed) = refl
  between-plain before (Some w) = refl
