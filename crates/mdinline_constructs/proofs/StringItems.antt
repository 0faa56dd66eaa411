-- Strings, item by item: an item has a byte, and what holds of each item holds of the string.
use Rattle.mdinline_constructs.proofs.Prelude.{ℕ, zero, suc, ◌<◌, List, [], ◌∷◌, ◌++◌, true, false, cond, take, drop, length, arith, flat_map, Event, LineEnding, Seat, bytes_of, cut, has_byte_at, is_line_feed, item_events, item_length, IsBuilt, IsKeptBySpans}
use Rattle.markdown_base.specs.declared.configuration.Constructs.{Constructs}
use Rattle.markdown_base.specs.declared.event.Name.TheVariants.{Data}
use Rattle.mdinline_text_machine.proofs.Constructs.Apart.{there-holds}
use Rattle.mdinline_text_machine.proofs.Escapes.Cuts.{escape-built}
use Rattle.mdinline_text_machine.specs.Parts.{line_ending, part}
use Rattle.mdinline_constructs.specs.StringItems.{string_data, string_grammars, string_item_at, string_part, string_seat_events}
use Rattle.mdinline_constructs.proofs.References.Cuts.{reference-built}

-- the part that stands there has a byte
pub some-part : (b : ℕ) (bs : List ℕ) → 0 < item_length (string_part (b ∷ bs))
some-part b bs = elim (is_line_feed b) as (λ t. 0 < item_length (cond t (part line_ending) (string_data (b ∷ bs)))) [ true ↦ omega arith | false ↦ omega arith ]

-- What holds of each item of a string holds of its events
module _ (bytes : List ℕ) (P : List Event → Type 0) (none : P []) (both : (xs ys : List Event) → P xs → P ys → P (xs ++ ys)) (on : Constructs)
    (item : (text : List ℕ) (seats : List Seat) → P ((string_item_at on text).events bytes seats)) where
  pub each-item : (n : ℕ) (seats : List Seat) → P (flat_map (item_events bytes) (cut (string_item_at on) item_length n seats))
  each-item zero seats = none
  each-item (suc n) [] = none
  each-item (suc n) (s ∷ ss) =
      let found = string_item_at on (bytes_of (s ∷ ss)) in
      let m = item_length found in
      both (item_events bytes (found, take m (s ∷ ss))) (flat_map (item_events bytes) (cut (string_item_at on) item_length n (drop m (s ∷ ss)))) (item (bytes_of (s ∷ ss)) (take m (s ∷ ss))) (each-item n (drop m (s ∷ ss)))

-- What spans keep holds of a string
module _ (bytes : List ℕ) (P : List Event → Type 0) (kept : IsKeptBySpans bytes P) (on : Constructs) where
  item-built : (text : List ℕ) → IsBuilt bytes P kept (string_item_at on text)
  item-built text =
      there-holds (IsBuilt bytes P kept) string_grammars on text (string_part text) (escape-built bytes P kept text, (reference-built bytes P kept text, tt)) (elim (has_byte_at text 0 is_line_feed) as (λ t. IsBuilt bytes P kept (cond t (part line_ending) (string_data text))) [
        | true ↦ λ seats. kept.alone LineEnding seats
        | false ↦ λ seats. kept.alone Data seats
      ])

  pub string-built : (seats : List Seat) → P (string_seat_events on bytes seats)
  string-built seats = each-item bytes P kept.none kept.both on item-built (length seats) seats
