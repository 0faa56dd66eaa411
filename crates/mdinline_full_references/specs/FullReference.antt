-- Full references (CommonMark 0.31, 6.3 "full reference link"): the label that stands behind the text of a link, with no states. What a label is is the
-- definition of `mdinline_labels`; here is what events it has, and which labels are taken.
use Rattle.std.specs.Prelude.{ℕ, ◌+◌, ◌==◌, Bool, cond, List, take, drop, Option, Some, None}
use Rattle.std.specs.Option.{option_and_then}
use Rattle.markdown_base.specs.declared.event.Event.{Event}
use Rattle.markdown_base.specs.declared.event.Name.TheVariants.{Reference, ReferenceMarker, ReferenceString}
use Rattle.markdown_base.specs.Virtual.{Seat}
use Rattle.mdinline_labels.specs.Labels.{is_label}
use Rattle.mdinline_labels.specs.Tails.{begins_with, label_size}
use Rattle.mdinline_text_machine.specs.Construct.{Found, Grammar, plain}
use Rattle.mdinline_text_machine.specs.Parts.{span}
use Rattle.mdinline_link_tails.specs.Resource.{in_marks, string_events, unmarked}

-- `[`
abbrev pub is_open_bracket : ℕ → Bool
is_open_bracket b = b == 91

-- the label that a text begins with, by how many bytes stand between its brackets: what is behind the first one may be a label up to the next
abbrev pub label_length : List ℕ → Option ℕ
label_length text = cond (begins_with 91 text) (option_and_then (λ n. cond (is_label (take n (drop 1 text))) (Some n) None) (label_size (drop 1 text))) None

-- its text
abbrev pub label_text : (size : ℕ) → List ℕ → List ℕ
label_text size text = take size (drop 1 text)

-- the string of a label, line by line. Its lines are read as data, so no event has a link
abbrev pub label_string : List ℕ → List Seat → List Event
label_string bytes seats = span bytes ReferenceString seats (string_events bytes seats)

-- A full reference, by the size of its label. Its events: its brackets, and the label between them
abbrev pub full_reference : ℕ → Found
full_reference n = record {
  size = n + 2;
  mark = plain;
  events = λ bytes seats. in_marks bytes Reference ReferenceMarker (label_string bytes (unmarked bytes seats)) seats;
}

-- What full references are: a label is behind the text of a link, and is wanted, as its text is the label of a definition
abbrev pub full_reference_grammar : (wanted : List ℕ → Bool) → Grammar Found
full_reference_grammar wanted = record {
  first = is_open_bracket;
  on = λ on. on.label_end;
  front = λ text. option_and_then (λ n. cond (wanted (label_text n text)) (Some (full_reference n)) None) (label_length text);
}
