-- The labels that are looked up while inline text is read: which labels are defined matters for these alone.
use Rattle.std.specs.Prelude.{◌≡◌, ℕ, zero, suc, Bool, true, cond, List, [], ◌∷◌, ◌++◌, map, take, drop, length, Option, None, Some}
use Rattle.std.specs.List.{AllByRecursion, prefix_len}
use Rattle.markdown_base.specs.declared.configuration.Constructs.{Constructs}
use Rattle.markdown_base.specs.declared.configuration.ParseOptions.{ParseOptions}
use Rattle.markdown_base.specs.Virtual.{Seat}
use Rattle.mddocument.specs.FlowTexts.{inline_seat_events}
use Rattle.mddocument_parts.specs.Moved.{begins_line, moved_seat}
use Rattle.mddocument_parts.specs.ReadTexts.{StandsBefore}
use Rattle.mdinline_labels.specs.Labels.{is_label}
use Rattle.mdconstructs_tables.specs.Breaks.{is_white}
use Rattle.mdinline_full_references.specs.FullReference.{label_length, label_text}
use Rattle.mdinline_constructs.specs.WhiteSpace.{white_space}
use Rattle.mdinline_machine.specs.Brackets.{Bracket, Memory, after_item, begins_end, bytes_before, nothing_read, spanned_bytes}
use Rattle.mdinline_machine.specs.InlineEvents.{inline_item_at}
use Rattle.mdinline_link_tails.specs.Resource.{string_events}
use Rattle.mdinline_text_machine.specs.Bytes.{has_byte_at}
use Rattle.mdinline_text_machine.specs.Parts.{bytes_of}

-- what is looked up, if it is a label at all
abbrev pub if_label : List ℕ → List (List ℕ)
if_label label = cond (is_label label) (label ∷ []) []

-- the bytes of a document
module _ (bytes : List ℕ) where
  -- the label whose text is behind the two bytes `][` at the front of these virtual bytes
  abbrev pub label_ahead : List Seat → (label : List ℕ) → List ℕ
  label_ahead ahead label = let text = drop 2 ahead in spanned_bytes (bytes_before bytes (drop (length label) text)) (string_events bytes (take (length label) text))

  -- a bracket's own label, at a `]` before which that was read
  abbrev pub own_label : Bracket → Memory → List ℕ
  own_label b m = spanned_bytes (bytes_before bytes m.ahead) (drop b.count m.events)

  -- the label of a full reference, if one of this length is there
  abbrev pub label_behind : List Seat → (behind : List ℕ) → Option ℕ → List (List ℕ)
  label_behind ahead behind None = []
  label_behind ahead behind (Some n) = if_label (label_ahead ahead (label_text n behind))

  -- those that are looked up at a `]` with this text behind it: the own label of the last bracket that waits, and the label of a full reference
  abbrev pub labels_at : List Bracket → Memory → (behind : List ℕ) → List (List ℕ)
  labels_at [] m behind = []
  labels_at (b ∷ bs) m behind = if_label (own_label b m) ++ label_behind m.ahead behind (label_length behind)

  module _ (on : Constructs) where
    -- those that are looked up at the front of a text, by what is remembered
    abbrev pub looked_up : Memory → List ℕ → List (List ℕ)
    looked_up m text = cond (has_byte_at text 0 (begins_end on)) (labels_at m.waiting m (drop 1 text)) []

    module _ (defined : List ℕ → Bool) where
      -- item by item, so many at most
      abbrev pub asked_from : (bound : ℕ) → Memory → List Seat → List (List ℕ)
      asked_from zero m seats = []
      asked_from (suc bound) m [] = []
      asked_from (suc bound) m (s ∷ ss) =
          let item = inline_item_at on defined bytes m (bytes_of (s ∷ ss)) in
          looked_up m (bytes_of (s ∷ ss)) ++ asked_from bound (after_item bytes m item) (drop item.size (s ∷ ss))

      -- The labels that are looked up in virtual bytes of the document, read as inline text by which labels are defined
      abbrev pub asked_labels : List Seat → List (List ℕ)
      asked_labels seats =
          let n = prefix_len is_white (bytes_of seats) in
          asked_from (length seats) (after_item bytes (nothing_read seats) (white_space n)) (drop n seats)

-- Two sets of labels agree on some labels
abbrev pub Agree : (defined others : List ℕ → Bool) → List (List ℕ) → Type 0
Agree defined others labels = AllByRecursion (λ label. others label ≡ defined label) labels

-- If they agree on the labels that are looked up, virtual bytes are read as the same inline text by both, and the same labels are looked up
abbrev pub LabelsDecide : Type 0
LabelsDecide = (defined others : List ℕ → Bool) (options : ParseOptions) (bytes : List ℕ) (seats : List Seat) → let on = options.constructs in Agree defined others (asked_labels bytes on defined seats)
    → (inline_seat_events others options bytes seats ≡ inline_seat_events defined options bytes seats) × (asked_labels bytes on others seats ≡ asked_labels bytes on defined seats)

-- The labels that are looked up in a part of a document are those in the part alone
abbrev pub AskedLabelsMove : Type 0
AskedLabelsMove = (defined : List ℕ → Bool) (on : Constructs) (a b : List ℕ) → begins_line b a ≡ true
    → ((seats : List Seat) → AllByRecursion (StandsBefore (length a)) seats → asked_labels (a ++ b) on defined seats ≡ asked_labels a on defined seats)
    × ((lines : ℕ) (seats : List Seat) → asked_labels (a ++ b) on defined (map (moved_seat lines (length a)) seats) ≡ asked_labels b on defined seats)
