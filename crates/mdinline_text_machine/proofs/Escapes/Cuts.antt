-- The events of a backslash escape: they can be cut into atoms, as none goes over a line ending; and what spans keep holds of them.
use Rattle.mdinline_text_machine.proofs.Prelude.{Seat, Event, take, drop, leaf, refl, escape_at, is_backslash, is_ascii_punctuation, ℕ, ◌&&◌, ◌++◌, List, Some, sym, subst, drop-take, take-append-drop, CharacterEscape, CharacterEscapeMarker, CharacterEscapeValue, escape, has_byte_at, bytes_of}
use Rattle.mdinline_text_machine.proofs.Constructs.Apart.{OfOption, when-there}
use Rattle.mdinline_text_machine.proofs.DeepSpans.Atoms.{OneLine, IsCut, cut-append, cut-leaf, cut-span}
use Rattle.mdinline_text_machine.proofs.Texts.Built.{IsKeptBySpans, IsBuilt}
use Rattle.mdinline_text_machine.proofs.DeepSpans.Stretches.{one-taken, ItemCut}

module _ (bytes : List ℕ) where
  pub escape-cut : (seats : List Seat) → OfOption (ItemCut bytes seats) (escape_at (bytes_of seats))
  escape-cut seats =
      let text = bytes_of seats in
      let l = take 2 seats in
      let es = leaf bytes CharacterEscapeMarker (take 1 l) ++ leaf bytes CharacterEscapeValue (drop 1 l) in
      let value = cut-leaf bytes CharacterEscapeValue (drop 1 l) (subst OneLine (sym (drop-take 1 1 seats)) (one-taken (drop 1 seats))) in
      let escaped = cut-span bytes CharacterEscape l es (subst (IsCut bytes es) (take-append-drop 1 l) (cut-append bytes (cut-leaf bytes CharacterEscapeMarker (take 1 l) (one-taken l)) value)) in
      when-there (ItemCut bytes seats) (has_byte_at text 0 is_backslash && has_byte_at text 1 is_ascii_punctuation) (Some escape) escaped

-- what spans keep
module _ (bytes : List ℕ) (P : List Event → Type 0) (kept : IsKeptBySpans bytes P) where
  pub escape-built : (text : List ℕ) → OfOption (IsBuilt bytes P kept) (escape_at text)
  escape-built text =
      when-there (IsBuilt bytes P kept) (has_byte_at text 0 is_backslash && has_byte_at text 1 is_ascii_punctuation) (Some escape) (λ seats.
      kept.around CharacterEscape seats _ refl
      (kept.both (leaf bytes CharacterEscapeMarker (take 1 seats)) (leaf bytes CharacterEscapeValue (drop 1 seats)) (kept.alone CharacterEscapeMarker (take 1 seats)) (kept.alone CharacterEscapeValue (drop 1 seats))))
