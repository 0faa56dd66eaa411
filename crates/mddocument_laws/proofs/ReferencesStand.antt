-- Each event of strings and of inline text that enters a character reference stands at one.
use Rattle.mddocument_laws.proofs.Prelude.{All-from_recursion, flat_map, Given, Text, item_events, inline_events, inline_items, string_seat_events, ReferencesOfInlinesStand, ReferencesOfStringsStand, ℕ, Bool, List}
use Rattle.mddocument_laws.proofs.LinkEvents.{links-are}
use Rattle.mddocument_laws.proofs.ReferenceItems.{AreGood, IsGood, other-good, read-good, string-good}

pub references-of-strings : ReferencesOfStringsStand
references-of-strings on bytes seats = All-from_recursion (IsGood bytes seats) (string_seat_events on bytes seats) (string-good bytes seats on)

pub inline-good : (defined : List ℕ → Bool) (g : Given) (text : Text) → AreGood g.bytes text.seats (inline_events defined g text)
inline-good defined g text =
    let on = g.options.constructs in
    let seats = text.seats in
    links-are (IsGood g.bytes seats) (other-good g.bytes seats) g.options.gfm_strikethrough_single_tilde g.bytes (flat_map (item_events g.bytes) (inline_items on defined g.bytes seats)) (read-good g.bytes seats on defined)

pub references-of-inlines : ReferencesOfInlinesStand
references-of-inlines defined g text = All-from_recursion (IsGood g.bytes text.seats) (inline_events defined g text) (inline-good defined g text)
