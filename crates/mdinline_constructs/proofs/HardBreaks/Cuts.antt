-- The event of a hard break: it is an atom, as no line ending is in it; and what spans keep holds of it.
use Rattle.mdinline_constructs.proofs.Prelude.{ℕ, ◌&&◌, List, Some, refl, take, prefix_len, nat_le, Event, HardBreakEscape, HardBreakTrailing, Seat, OfOption, when-there, cut-leaf, ItemCut, one-taken, plain-line, run-plain, IsBuilt, IsKeptBySpans, has_byte_at, is_backslash, is_line_feed, is_space, bytes_of, break_escape_at, hard_break_escape, hard_break_trailing, trailing_break_at}

module _ (bytes : List ℕ) where
  pub break-escape-cut : (seats : List Seat) → OfOption (ItemCut bytes seats) (break_escape_at (bytes_of seats))
  break-escape-cut seats =
      let text = bytes_of seats in
      when-there (ItemCut bytes seats) (has_byte_at text 0 is_backslash && has_byte_at text 1 is_line_feed) (Some hard_break_escape) (cut-leaf bytes HardBreakEscape (take 1 seats) (one-taken seats))

  pub trailing-break-cut : (seats : List Seat) → OfOption (ItemCut bytes seats) (trailing_break_at (bytes_of seats))
  trailing-break-cut seats =
      let text = bytes_of seats in
      let n = prefix_len is_space text in
      when-there (ItemCut bytes seats) (nat_le 2 n && has_byte_at text n is_line_feed) (Some (hard_break_trailing n))
      (cut-leaf bytes HardBreakTrailing (take n seats) (plain-line (take n seats) (run-plain is_space refl seats)))

module _ (bytes : List ℕ) (P : List Event → Type 0) (kept : IsKeptBySpans bytes P) where
  pub break-escape-built : (text : List ℕ) → OfOption (IsBuilt bytes P kept) (break_escape_at text)
  break-escape-built text =
      when-there (IsBuilt bytes P kept) (has_byte_at text 0 is_backslash && has_byte_at text 1 is_line_feed) (Some hard_break_escape) (λ seats. kept.alone HardBreakEscape seats)

  pub trailing-break-built : (text : List ℕ) → OfOption (IsBuilt bytes P kept) (trailing_break_at text)
  trailing-break-built text =
      let n = prefix_len is_space text in
      when-there (IsBuilt bytes P kept) (nat_le 2 n && has_byte_at text n is_line_feed) (Some (hard_break_trailing n)) (λ seats. kept.alone HardBreakTrailing seats)
