-- Void spans are empty where texts are read as inline text: links, images and emphasis leave each with its exit behind it.
use Rattle.mddocument.proofs.Prelude.{ℕ, Bool, List, ParseOptions, Seat, point, empty_text, AreTight, all-built, read-balanced, read_events, document, inline_seat_events}
use Rattle.mddocument.proofs.FlowTexts.Forms.{tight-kept}
use Rattle.mdinline_links.proofs.LinkTight.{links-tight}

pub inline-tight : (defined : List ℕ → Bool) (options : ParseOptions) (bytes : List ℕ) (seats : List Seat) → AreTight (inline_seat_events defined options bytes seats)
inline-tight defined options bytes seats =
    let g = document options bytes in
    let text = record (empty_text (point 1 1 0 0)) { seats = seats } in
    links-tight options.gfm_strikethrough_single_tilde bytes (read_events defined g text) (read-balanced defined g text) (all-built bytes AreTight (tight-kept bytes) options.constructs defined bytes seats)
