-- Delimiter runs (CommonMark, "Emphasis and strong emphasis"; GFM, "Strikethrough"): the part of a table that reads them. A run is one or more
-- bytes `*`, or one or more bytes `_`, or one or more bytes `~`.
use Rattle.std.specs.Prelude.{ℕ, ◌==◌, ◌&&◌, Bool, true, false, cond, List, [], ◌∷◌, Option, Some, None}
use Rattle.markdown_base.specs.declared.configuration.Constructs.{Constructs}
use Rattle.markdown_base.specs.declared.event.Name.TheVariants.{AttentionSequence}
use Rattle.markdown_base.specs.declared.state.State.TheVariants.{Next, Retry}
use Rattle.markdown_base.specs.declared.state.TheConstants.Name.{AttentionStart, AttentionInside, TextBefore}
use Rattle.markdown_tokenizer.specs.Text.{Given}
use Rattle.markdown_tokenizer.specs.Configuration.{Configuration}
use Rattle.markdown_tokenizer.specs.Sight.{Sight}
use Rattle.mdconstructs_tables.specs.Rows.{enter, exit, consume, Rows, row, when, at_bytes, StateRows, state}
use Rattle.mdconstructs_tables.specs.Numbers.{Price, by_left}
use Rattle.mdinline_emphasis.specs.declared.pairs.Marker.{Marker}
use Rattle.mdinline_emphasis.specs.Emphasis.{is_tilde}
use Rattle.mdinline_emphasis.specs.Runs.{is_marker, marker_from}
use Rattle.mdinline_text_machine.specs.Bytes.{passes}
use Rattle.mdinline_text_machine.specs.TextBytes.{TextByte, punctuation}
use Rattle.mdinline_text_machine.specs.TextCosts.{text_cost}

-- a marker: `*`, `_` or `~`
abbrev pub is_delimiter : ℕ → Bool
is_delimiter byte = is_marker byte

-- runs of a marker are on: strikethrough for tildes, else attention
abbrev pub marker_is_on : Marker → Constructs → Bool
marker_is_on marker on = cond (is_tilde marker) on.gfm_strikethrough on.attention

-- a byte begins a run: it is a marker, and runs of it are on
abbrev pub begins_run : Constructs → ℕ → Bool
begins_run on byte = is_delimiter byte && marker_is_on (marker_from (Some byte)) on

-- the class of all three
abbrev pub is_punctuation_class : TextByte → Bool
is_punctuation_class punctuation = true
is_punctuation_class _ = false

-- there is a byte, and it is this one
abbrev pub is_byte : ℕ → Option ℕ → Bool
is_byte byte waits = passes (λ b. b == byte) waits

module _ {R D : Type 0} where
  -- a run begins
  abbrev pub run_begins : Given → Sight → Configuration R D → Bool
  run_begins g s k = passes (begins_run g.options.constructs) s.current

  -- it goes on while the byte before it waits once more
  abbrev pub run_goes_on : Given → Sight → Configuration R D → Bool
  run_goes_on g s k = passes (λ byte. is_byte byte s.current) s.previous

  -- a run begins with a byte
  abbrev pub attention_start_rows : (previous current : Option TextByte) → Rows R D
  attention_start_rows _ _ = row (enter AttentionSequence ∷ consume ∷ []) (Next AttentionInside)

  -- its state: it is called only at punctuation, and no span is open yet
  abbrev pub attention_start : StateRows TextByte R D
  attention_start =
      record (state AttentionStart attention_start_rows [] (text_cost (by_left 4 12 0))) { called = at_bytes is_punctuation_class }

  -- the run ends
  abbrev pub run_ends : Rows R D
  run_ends = row (exit AttentionSequence ∷ []) (Retry TextBefore)

  -- in a run
  abbrev pub attention_inside_rows : (previous current : Option TextByte) → Rows R D
  attention_inside_rows _ None = run_ends
  attention_inside_rows _ (Some _) = when run_goes_on (row (consume ∷ []) (Next AttentionInside)) run_ends

  -- its state: the run is open
  abbrev pub attention_inside : StateRows TextByte R D
  attention_inside =
      state AttentionInside attention_inside_rows (AttentionSequence ∷ []) (text_cost (by_left 4 20 8))

  -- the states that read runs
  abbrev pub run_states : List (StateRows TextByte R D)
  run_states = attention_start ∷ attention_inside ∷ []

-- What they cost: behind each byte another construct may begin that is read to the end and fails
abbrev pub run_prices : List (Price TextByte)
run_prices = by_left 4 12 0 ∷ by_left 4 20 8 ∷ []
