-- Parts of a text, or of a code span, that are no construct: line endings, and plain text.
use Rattle.std.specs.Prelude.{ℕ, zero, suc, ◌+◌, max, Bool, cond, List, [], ◌∷◌, map, take, drop}
use Rattle.std.specs.List.{position_or_len}
use Rattle.markdown_base.specs.declared.event.Event.{Event}
use Rattle.markdown_base.specs.declared.event.Name.{Name}
use Rattle.markdown_base.specs.declared.event.Name.TheVariants.{Data, LineEnding}
use Rattle.markdown_base.specs.Virtual.{Seat}
pub use Rattle.mdconstructs_machines.specs.Spans.{event, span, leaf}
use Rattle.mdinline_text_machine.specs.Bytes.{has_byte_at, is_line_feed, backticks}
use Rattle.mdinline_text_machine.specs.Construct.{Found, plain}

-- the bytes of seats
abbrev pub bytes_of : List Seat → List ℕ
bytes_of seats = map (λ s. s.byte) seats

-- Virtual bytes, cut from the front: each time the element at the front, with its virtual bytes. The bound is their number.
abbrev pub cut : {A : Type 0} → (front : List ℕ → A) → (size : A → ℕ) → ℕ → List Seat → List (A × List Seat)
cut front size zero seats = []
cut front size (suc bound) [] = []
cut front size (suc bound) (s ∷ ss) =
    let a = front (bytes_of (s ∷ ss)) in
    (a, take (size a) (s ∷ ss)) ∷ cut front size bound (drop (size a) (s ∷ ss))

-- Virtual bytes, cut from the front with a memory of what was cut before: the element at the front depends on it, and behind each element it is
-- another
abbrev pub cut_remembering : {A M : Type 0} → (after : M → A → M) → (front : M → List ℕ → A) → (size : A → ℕ) → ℕ → M → List Seat → List (A × List Seat)
cut_remembering after front size zero m seats = []
cut_remembering after front size (suc bound) m [] = []
cut_remembering after front size (suc bound) m (s ∷ ss) =
    let a = front m (bytes_of (s ∷ ss)) in
    (a, take (size a) (s ∷ ss)) ∷ cut_remembering after front size bound (after m a) (drop (size a) (s ∷ ss))

-- A part: a line ending, or a run of this many other bytes
pub data Part : Type 0 where
  line_ending : Part
  plain_run : ℕ → Part

-- how many bytes a part has
abbrev pub part_length : Part → ℕ
part_length line_ending = 1
part_length (plain_run n) = n

-- how many bytes at the front are plain in any case: a whole backtick string, or else one byte
abbrev pub first_plain : List ℕ → ℕ
first_plain text = max 1 (backticks text)

-- the length of plain text: these bytes, and all up to the next byte that ends it
abbrev pub plain_length : (ends : ℕ → Bool) → List ℕ → ℕ
plain_length ends text = first_plain text + position_or_len ends (drop (first_plain text) text)

-- a line feed, or plain text
abbrev pub part_at : (ends : ℕ → Bool) → List ℕ → Part
part_at ends text = cond (has_byte_at text 0 is_line_feed) line_ending (plain_run (plain_length ends text))

module _ (bytes : List ℕ) where
  -- a line ending, or a span of this name over plain text
  abbrev pub part_events : (plain_name : Name) → (Part × List Seat) → List Event
  part_events plain_name (line_ending, seats) = leaf bytes LineEnding seats
  part_events plain_name (plain_run n, seats) = leaf bytes plain_name seats

-- what is found where no construct is there: a line ending, or data
abbrev pub part : Part → Found
part p = record { size = part_length p; mark = plain; events = λ bytes seats. part_events bytes Data (p, seats) }
