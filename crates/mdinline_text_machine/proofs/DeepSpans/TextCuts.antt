-- The events of a text can be cut into atoms: no innermost span of an item goes over a line ending.
use Rattle.mdinline_text_machine.proofs.Prelude.{text_grammars, part, ℕ, ◌∷◌, List, refl, arith, length, Constructs, Data, Seat, Given, Text, item_length, is_special, part_at, item_at, bytes_of, item_events, text_events}
use Rattle.mdinline_text_machine.proofs.Autolinks.Cuts.{autolink-cut}
use Rattle.mdinline_text_machine.proofs.CodeSpans.Cuts.{code-span-cut}
use Rattle.mdinline_text_machine.proofs.Constructs.Apart.{there-holds}
use Rattle.mdinline_text_machine.proofs.DeepSpans.Atoms.{IsCut}
use Rattle.mdinline_text_machine.proofs.DeepSpans.Stretches.{cuts, part-cut, ItemCut}
use Rattle.mdinline_text_machine.proofs.Escapes.Cuts.{escape-cut}
use Rattle.mdinline_text_machine.proofs.Texts.Apart.{items-positive}

-- the item at the front of virtual bytes: each construct's can be cut, and so can a line ending or data
item-cut : (bytes : List ℕ) (on : Constructs) (s : Seat) (ss : List Seat) → ItemCut bytes (s ∷ ss) (item_at on (bytes_of (s ∷ ss)))
item-cut bytes on s ss =
    let l = s ∷ ss in
    there-holds (ItemCut bytes l) text_grammars on (bytes_of l) (part (part_at is_special (bytes_of l))) (code-span-cut bytes l, (autolink-cut bytes l, (escape-cut bytes l, tt)))
    (part-cut bytes is_special refl Data s ss)

-- so it is with all items of a text
pub text-cut : (g : Given) (text : Text) → IsCut g.bytes (text_events g text) text.seats
text-cut g text =
    let on = g.options.constructs in
    cuts g.bytes (item_at on) item_length (item_events g.bytes) (items-positive on) (item-cut g.bytes on) (length text.seats) text.seats (omega arith)
