-- The event of white space at the end of a line: it is an atom, as no line ending is in it; and what spans keep holds of it.
use Rattle.mdinline_constructs.proofs.Prelude.{ℕ, ◌&&◌, List, Some, refl, take, prefix_len, Event, SpaceOrTab, Seat, is_white, OfOption, when-there, IsCut, cut-leaf, ItemCut, plain-line, run-plain, IsBuilt, IsKeptBySpans, has_byte_at, bytes_of, leaf, is_white_left, white_space, white_space_at}

module _ (bytes : List ℕ) where
  -- all white space at the front is in one line
  pub white-run-cut : (seats : List Seat) → let l = take (prefix_len is_white (bytes_of seats)) seats in IsCut bytes (leaf bytes SpaceOrTab l) l
  white-run-cut seats =
      let l = take (prefix_len is_white (bytes_of seats)) seats in cut-leaf bytes SpaceOrTab l (plain-line l (run-plain is_white refl seats))

  pub white-space-cut : (seats : List Seat) → OfOption (ItemCut bytes seats) (white_space_at (bytes_of seats))
  white-space-cut seats =
      let text = bytes_of seats in
      when-there (ItemCut bytes seats) (has_byte_at text 0 is_white && is_white_left text) (Some (white_space (prefix_len is_white text))) (white-run-cut seats)

module _ (bytes : List ℕ) (P : List Event → Type 0) (kept : IsKeptBySpans bytes P) where
  pub white-space-built : (text : List ℕ) → OfOption (IsBuilt bytes P kept) (white_space_at text)
  white-space-built text =
      when-there (IsBuilt bytes P kept) (has_byte_at text 0 is_white && is_white_left text) (Some (white_space (prefix_len is_white text))) (λ seats. kept.alone SpaceOrTab seats)
