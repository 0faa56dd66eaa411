-- What holds of no events, of a span with nothing in it, of a span around events of which it holds, and of two lists if of both, holds of what
-- texts and lines are read as.
use Rattle.mdinline_text_machine.proofs.Prelude.{◌≡◌, ◌∷◌, ◌++◌, [], List, ℕ, false, flat_map, Event, Data, LineEnding, is_void, Seat, Found, Part, line_ending, plain_run, line_text, ending_of, lines_in, data_line, data_events, part_events, leaf}
use Rattle.markdown_base.specs.declared.event.Name.{Name}
use Rattle.mdconstructs_machines.specs.Spans.{span}

-- A property of lists that spans keep
pub record IsKeptBySpans (bytes : List ℕ) (P : List Event → Type 0) : Type 0 where
  pub none : P []
  pub both : (xs ys : List Event) → P xs → P ys → P (xs ++ ys)
  pub alone : (name : Name) (seats : List Seat) → P (leaf bytes name seats)
  pub around : (name : Name) (seats : List Seat) (es : List Event) → is_void name ≡ false → P es → P (span bytes name seats es)

module _ (bytes : List ℕ) (P : List Event → Type 0) (kept : IsKeptBySpans bytes P) where
  pub flat-built : {A : Type 0} (f : A → List Event) (xs : List A) → ((x : A) → P (f x)) → P (flat_map f xs)
  flat-built f [] h = kept.none
  flat-built f (x ∷ xs) h = kept.both (f x) (flat_map f xs) (h x) (flat-built f xs h)

  pub part-built : (name : Name) (p : Part × List Seat) → P (part_events bytes name p)
  part-built name (line_ending, seats) = kept.alone LineEnding seats
  part-built name (plain_run n, seats) = kept.alone name seats

  pub three : (a c : Name) (xs zs : List Seat) (inner : List Event) → P inner → P (leaf bytes a xs ++ (inner ++ leaf bytes c zs))
  three a c xs zs inner h = kept.both (leaf bytes a xs) (inner ++ leaf bytes c zs) (kept.alone a xs) (kept.both inner (leaf bytes c zs) h (kept.alone c zs))

  -- of what is found at the front of a text, over any virtual bytes
  abbrev pub IsBuilt : Found → Type 0
  IsBuilt found = (seats : List Seat) → P (found.events bytes seats)

  -- data of a line, and of each line
  pub line-built : (line : List Seat) → P (data_line bytes line)
  line-built line = kept.both (leaf bytes Data (line_text line)) (leaf bytes LineEnding (ending_of line)) (kept.alone Data (line_text line)) (kept.alone LineEnding (ending_of line))

  pub data-built : (seats : List Seat) → P (data_events bytes seats)
  data-built seats = flat-built (data_line bytes) (lines_in seats) line-built
