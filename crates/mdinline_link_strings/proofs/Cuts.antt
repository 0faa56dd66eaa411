-- What strings are read as is cut into innermost spans.
use Rattle.std.proofs.Common.{◌≡◌, ℕ, ◌+◌, ◌<◌, ◌==◌, true, false, cond, not, List, ◌∷◌, refl, take, drop, length, arith}
use Rattle.std.specs.List.{position_or_len}
use Rattle.markdown_base.specs.declared.configuration.Constructs.{Constructs}
use Rattle.markdown_base.specs.declared.event.Name.TheVariants.{Data, LineEnding}
use Rattle.markdown_base.specs.Virtual.{Seat}
use Rattle.mdinline_constructs.proofs.References.Bytes.{references-apart}
use Rattle.mdinline_constructs.proofs.References.Cuts.{reference-cut}
use Rattle.mdinline_constructs.proofs.StringItems.{some-part}
use Rattle.mdinline_constructs.specs.StringItems.{is_string_special, string_data, string_grammars, string_item_at, string_part, string_seat_events}
use Rattle.mdinline_text_machine.proofs.Constructs.Apart.{there-holds}
use Rattle.mdinline_text_machine.proofs.DeepSpans.Atoms.{IsCut, cut-leaf}
use Rattle.mdinline_text_machine.proofs.DeepSpans.Stretches.{ItemCut, cuts, one-taken, plain-add, plain-line, run-behind}
use Rattle.mdinline_text_machine.proofs.Escapes.Bytes.{escapes-apart}
use Rattle.mdinline_text_machine.proofs.Escapes.Cuts.{escape-cut}
use Rattle.mdinline_text_machine.specs.Items.{item_length}
use Rattle.mdinline_text_machine.specs.Parts.{bytes_of, line_ending, part}
use Rattle.mdinline_text_machine.specs.TextEvents.{item_events}

-- an item has a byte
some-item : (on : Constructs) (b : ℕ) (bs : List ℕ) → 0 < item_length (string_item_at on (b ∷ bs))
some-item on b bs = there-holds (λ item. 0 < item_length item) string_grammars on (b ∷ bs) (string_part (b ∷ bs)) (escapes-apart.some b bs, (references-apart.some b bs, tt)) (some-part b bs)

-- data is in one line
part-cut : (bytes : List ℕ) (s : Seat) (ss : List Seat) → ItemCut bytes (s ∷ ss) (string_part (bytes_of (s ∷ ss)))
part-cut bytes s ss =
    let l = s ∷ ss in
    let n = position_or_len is_string_special (drop 1 (bytes_of l)) in
    elim (s.byte == 10) as (λ t. (s.byte == 10) ≡ t → ItemCut bytes l (cond t (part line_ending) (string_data (bytes_of l)))) [
      | true ↦ λ e. cut-leaf bytes LineEnding (take 1 l) (one-taken l)
      | false ↦ λ e. cut-leaf bytes Data (take (1 + n) l) (plain-line (take (1 + n) l) (plain-add 1 n l (e, tt) (run-behind (λ b. not (is_string_special b)) refl 1 l)))
    ] refl

item-cut : (bytes : List ℕ) (on : Constructs) (s : Seat) (ss : List Seat) → ItemCut bytes (s ∷ ss) (string_item_at on (bytes_of (s ∷ ss)))
item-cut bytes on s ss = let l = s ∷ ss in there-holds (ItemCut bytes l) string_grammars on (bytes_of l) (string_part (bytes_of l)) (escape-cut bytes l, (reference-cut bytes l, tt)) (part-cut bytes s ss)

pub string-cut : (on : Constructs) (bytes : List ℕ) (seats : List Seat) → IsCut bytes (string_seat_events on bytes seats) seats
string-cut on bytes seats = cuts bytes (string_item_at on) item_length (item_events bytes) (some-item on) (item-cut bytes on) (length seats) seats (omega arith)
