-- Rows that read full references. Whether a label is wanted is a test of what a row sees, which the machine gives.
use Rattle.std.specs.Prelude.{ℕ, ◌+◌, ◌==◌, ◌&&◌, not, nat_le, Bool, false, cond, List, [], ◌∷◌, ◌++◌, Option, Some, None}
use Rattle.std.specs.List.{list_any}
use Rattle.markdown_base.specs.declared.event.Event.{Event}
use Rattle.markdown_base.specs.declared.event.Name.{Name as EventName}
use Rattle.markdown_base.specs.declared.event.Name.TheVariants.{Data, LineEnding, Reference, ReferenceMarker, ReferenceString, SpaceOrTab}
use Rattle.markdown_base.specs.declared.state.Name.{Name}
use Rattle.markdown_base.specs.declared.state.State.TheVariants.{Next, Retry, Ok, Nok}
use Rattle.markdown_base.specs.declared.state.TheConstants.Name.{TextBeforeData, LabelEndReferenceFull, LabelStart, LabelInside, LabelEscape, LabelEolAfter}
use Rattle.markdown_base.specs.Events.{is_enter, same_name}
use Rattle.markdown_tokenizer.specs.Text.{Given}
use Rattle.markdown_tokenizer.specs.Configuration.{Configuration, Local}
use Rattle.markdown_tokenizer.specs.Sight.{Sight}
use Rattle.mdinline_labels.specs.Labels.{begins_character, is_bracket, is_label_white}
use Rattle.mdinline_labels.specs.Tails.{is_white}
use Rattle.mdconstructs_tables.specs.Numbers.{Price, by_left}
use Rattle.mdconstructs_tables.specs.Rows.{Act, enter, exit, consume, write, writes, Rows, row, when, StateRows, state}
use Rattle.mdinline_text_machine.specs.Construct.{Found, Construct, if_option, tried}
use Rattle.mdinline_text_machine.specs.TextBytes.{TextByte}
use Rattle.mdinline_text_machine.specs.TextCosts.{text_cost}
use Rattle.mdinline_link_tails.specs.ResourceRows.{at_bytes_only, is_punctuation_class, shows, waits}
use Rattle.mdinline_full_references.specs.FullReference.{full_reference_grammar}
use Rattle.mdinline_full_references.specs.declared.names.TheConstants.{LabelLineWhite, LabelEndReferenceFullEnd}

-- ---- what is counted of a label
-- how many characters were read of it: one more, and never more than 1,000 are counted
abbrev pub one_more : ℕ → ℕ
one_more n = cond (nat_le n 999) (n + 1) n

-- a byte is read: a character more, if it begins one
abbrev pub with_byte : ℕ → (count : ℕ) → ℕ
with_byte b count = cond (begins_character b) (one_more count) count

-- 1 if one of its bytes is no white space, and else 0
abbrev pub filled_by : ℕ → (filled : ℕ) → ℕ
filled_by b filled = cond (is_label_white b) filled 1

-- the same of what waits: if nothing does, nothing is read
abbrev pub counted : Option ℕ → (count : ℕ) → ℕ
counted None count = count
counted (Some b) count = with_byte b count

abbrev pub filled : Option ℕ → (was : ℕ) → ℕ
filled None was = was
filled (Some b) was = filled_by b was

-- ---- where the last label stands among events
-- this enters the string of a label
abbrev pub begins_label : Event → Bool
begins_label e = is_enter e.kind && same_name e.name ReferenceString

-- what stands behind the last event that does; nothing, if none does
abbrev pub label_behind : List Event → List Event
label_behind [] = []
label_behind (e ∷ es) = cond (begins_label e && not (list_any begins_label es)) es (label_behind es)

module _ {R D : Type 0} where
  -- nothing of a label was read, and none is noted
  abbrev pub label_begins : Configuration R D → Local R D
  label_begins k = record k.local { tokenize_state = record k.local.tokenize_state { size_b = 0; marker = 0; marker_b = 0 } }

  -- a byte is read
  abbrev pub read_of_label : Option ℕ → Local R D → Local R D
  read_of_label current local =
      record local { tokenize_state = record local.tokenize_state { size_b = counted current local.tokenize_state.size_b; marker = filled current local.tokenize_state.marker } }

  -- the byte that waits is read
  abbrev pub counts_byte : Sight → Configuration R D → Local R D
  counts_byte s k = read_of_label s.current k.local

  -- it is noted whether a label is there: 1 if so, and else 0
  abbrev pub label_noted : ℕ → Configuration R D → Local R D
  label_noted n k = record k.local { tokenize_state = record k.local.tokenize_state { marker_b = n } }

  -- it was noted that a label is there. A machine asks so once no full reference is there
  abbrev pub label_is_there : Given → Sight → Configuration R D → Bool
  label_is_there g s k = k.local.tokenize_state.marker_b == 1

  -- what was read is a label: no more than 999 characters, and some other byte than white space
  abbrev pub is_label_read : Given → Sight → Configuration R D → Bool
  is_label_read g s k = nat_le k.local.tokenize_state.size_b 999 && (k.local.tokenize_state.marker == 1)

  -- ---- the rows
  -- no label is there
  abbrev pub no_label : Rows R D
  no_label = row [] Nok

  -- a byte of a label is read, and counted
  abbrev pub reads_on : List (Act R D) → Name → Rows R D
  reads_on begun name = row (writes counts_byte ∷ (begun ++ consume ∷ [])) (Next name)

  -- a backslash hides the next one
  abbrev pub reads_line : List (Act R D) → Rows R D
  reads_line begun = when (waits 92) (reads_on begun LabelEscape) (reads_on begun LabelInside)

  -- a line ending is read, and counted
  abbrev pub ends_line : List (Act R D) → Rows R D
  ends_line ended = row (writes counts_byte ∷ (ended ++ enter LineEnding ∷ consume ∷ exit LineEnding ∷ [])) (Next LabelEolAfter)

  -- the label ends
  abbrev pub ends_label : List (Act R D) → Rows R D
  ends_label ended = row (ended ++ exit ReferenceString ∷ []) (Retry LabelEndReferenceFullEnd)

  -- Full reference: it begins with `[`. If it does not, it is noted that no label is there
  abbrev pub reference_start_rows : (previous current : Option TextByte) → Rows R D
  reference_start_rows _ None = row (write (label_noted 0) ∷ []) Nok
  reference_start_rows _ (Some _) =
      when (waits 91) (row (write label_begins ∷ enter Reference ∷ enter ReferenceMarker ∷ consume ∷ exit ReferenceMarker ∷ []) (Next LabelStart)) (row (write (label_noted 0) ∷ []) Nok)

  -- Behind its `[`
  abbrev pub label_start_rows : Rows R D
  label_start_rows = when (shows is_bracket) no_label (when (waits 10) (ends_line (enter ReferenceString ∷ [])) (reads_line (enter ReferenceString ∷ enter Data ∷ [])))

  -- In a line of its label
  abbrev pub label_inside_rows : Rows R D
  label_inside_rows = when (waits 93) (ends_label (exit Data ∷ [])) (when (waits 91) no_label (when (waits 10) (ends_line (exit Data ∷ [])) (reads_line [])))

  -- Behind a backslash in it
  abbrev pub label_escape_rows : Rows R D
  label_escape_rows = when (waits 10) (ends_line (exit Data ∷ [])) (reads_on [] LabelInside)

  -- Behind a line ending in it: a blank line may not follow
  abbrev pub label_line_rows : Rows R D
  label_line_rows =
      when (waits 93) (ends_label [])
      (when (waits 91) no_label (when (waits 10) no_label (when (shows is_white) (reads_on (enter SpaceOrTab ∷ []) LabelLineWhite) (reads_line (enter Data ∷ [])))))

  -- In white space behind it
  abbrev pub label_white_rows : Rows R D
  label_white_rows =
      when (waits 93) (ends_label (exit SpaceOrTab ∷ []))
      (when (waits 91) no_label (when (waits 10) no_label (when (shows is_white) (reads_on [] LabelLineWhite) (reads_line (exit SpaceOrTab ∷ enter Data ∷ [])))))

  -- At its `]`: what was read has to be a label, and one that is wanted. If it is not wanted, it is noted that one is there
  abbrev pub label_end_rows : (wanted : Given → Sight → Configuration R D → Bool) → Rows R D
  label_end_rows wanted =
      when is_label_read (when wanted (row (enter ReferenceMarker ∷ consume ∷ exit ReferenceMarker ∷ exit Reference ∷ []) Ok) (row (write (label_noted 1) ∷ []) Nok)) no_label

  -- a state of a full reference, with the spans that are open, and the number of calls that it takes more than two for each byte
  abbrev pub reference_state : Name → ((previous current : Option TextByte) → Rows R D) → List EventName → (more : ℕ) → StateRows TextByte R D
  reference_state name rows spans more = tried (state name rows spans (text_cost (by_left 0 2 more)))

  abbrev pub reference_start : StateRows TextByte R D
  reference_start = reference_state LabelEndReferenceFull reference_start_rows [] 1

  abbrev pub label_start : StateRows TextByte R D
  label_start = reference_state LabelStart (at_bytes_only label_start_rows) (Reference ∷ []) 2

  abbrev pub label_inside : StateRows TextByte R D
  label_inside = reference_state LabelInside (at_bytes_only label_inside_rows) (Reference ∷ ReferenceString ∷ Data ∷ []) 2

  abbrev pub label_escape : StateRows TextByte R D
  label_escape = reference_state LabelEscape (at_bytes_only label_escape_rows) (Reference ∷ ReferenceString ∷ Data ∷ []) 2

  abbrev pub label_line : StateRows TextByte R D
  label_line = reference_state LabelEolAfter (at_bytes_only label_line_rows) (Reference ∷ ReferenceString ∷ []) 2

  abbrev pub label_white : StateRows TextByte R D
  label_white = reference_state LabelLineWhite (at_bytes_only label_white_rows) (Reference ∷ ReferenceString ∷ SpaceOrTab ∷ []) 2

  abbrev pub label_end : (wanted : Given → Sight → Configuration R D → Bool) → StateRows TextByte R D
  label_end wanted = reference_state LabelEndReferenceFullEnd (at_bytes_only (label_end_rows wanted)) (Reference ∷ []) 1

  -- a test that does not look: the answer is known
  abbrev pub known : Bool → Given → Sight → Configuration R D → Bool
  known answer g s k = answer

-- What its states cost: no more than two calls for each byte that is left, and a few more
abbrev pub reference_prices : List (Price TextByte)
reference_prices = by_left 0 2 1 ∷ by_left 0 2 2 ∷ by_left 0 2 2 ∷ by_left 0 2 2 ∷ by_left 0 2 2 ∷ by_left 0 2 2 ∷ by_left 0 2 1 ∷ []

-- How full references are read, by which labels are wanted, and a test that says so once a label was read
abbrev pub full_references : {R D : Type 0} → (List ℕ → Bool) → (wanted : Given → Sight → Configuration R D → Bool) → Construct Found TextByte R D
full_references is_wanted wanted = record {
  grammar = full_reference_grammar is_wanted;
  begins = is_punctuation_class;
  allowed = if_option (full_reference_grammar is_wanted);
  start = LabelEndReferenceFull;
  otherwise = TextBeforeData;
  states = reference_start ∷ label_start ∷ label_inside ∷ label_escape ∷ label_line ∷ label_white ∷ label_end wanted ∷ [];
  begun = λ name w. false;
  follows = λ name. false;
}
