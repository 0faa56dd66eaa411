-- What spans keep holds of the events of a text, as it holds of those of each item.
use Rattle.mdinline_text_machine.proofs.Prelude.{◌∷◌, [], List, ℕ, zero, suc, take, drop, length, flat_map, Constructs, Event, Data, Seat, Given, Text, bytes_of, cut, item_at, item_length, item_events, is_special, part, part_at, text_events, text_grammars}
use Rattle.mdinline_text_machine.proofs.Autolinks.Cuts.{autolink-built}
use Rattle.mdinline_text_machine.proofs.CodeSpans.Cuts.{code-span-built}
use Rattle.mdinline_text_machine.proofs.Constructs.Apart.{there-holds}
use Rattle.mdinline_text_machine.proofs.Escapes.Cuts.{escape-built}
use Rattle.mdinline_text_machine.proofs.Texts.Built.{IsKeptBySpans, IsBuilt, part-built}

module _ (bytes : List ℕ) (P : List Event → Type 0) (kept : IsKeptBySpans bytes P) where
  -- the item at the front: each construct's is, and so is a line ending or data
  item-built : (on : Constructs) (text : List ℕ) → IsBuilt bytes P kept (item_at on text)
  item-built on text =
      there-holds (IsBuilt bytes P kept) text_grammars on text (part (part_at is_special text)) (code-span-built bytes P kept text, (autolink-built bytes P kept text, (escape-built bytes P kept text, tt)))
      (λ seats. part-built bytes P kept Data (part_at is_special text, seats))

  items-built : (on : Constructs) (n : ℕ) (seats : List Seat) → P (flat_map (item_events bytes) (cut (item_at on) item_length n seats))
  items-built on zero seats = kept.none
  items-built on (suc n) [] = kept.none
  items-built on (suc n) (s ∷ ss) =
      let item = item_at on (bytes_of (s ∷ ss)) in
      let m = item_length item in
      kept.both (item_events bytes (item, take m (s ∷ ss))) (flat_map (item_events bytes) (cut (item_at on) item_length n (drop m (s ∷ ss)))) (item-built on (bytes_of (s ∷ ss)) (take m (s ∷ ss)))
      (items-built on n (drop m (s ∷ ss)))

-- the events of a text
pub text-built : (g : Given) (P : List Event → Type 0) → IsKeptBySpans g.bytes P → (text : Text) → P (text_events g text)
text-built g P kept text = items-built g.bytes P kept g.options.constructs (length text.seats) text.seats
