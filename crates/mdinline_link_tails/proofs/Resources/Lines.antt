-- The events of a string, line by line: data up to a line ending, a line ending, and the white space behind it.
use Rattle.mdinline_link_tails.proofs.Prelude.{◌≡◌, ℕ, zero, suc, ◌+◌, ◌==◌, not, List, [], ◌∷◌, ◌++◌, true, false, cond, take, drop, length, refl, ap, ◌∙◌, arith, flat_map, prefix_len, append_assoc, take_at, drop_at, Data, Event, LineEnding, SpaceOrTab, Seat, bytes_of, leaf, cut-enough, drop-less}
use Rattle.std.proofs.Common.{one-add}
use Rattle.mdconstructs_tables.specs.Breaks.{is_white}
use Rattle.mdinline_constructs.proofs.HtmlTexts.Pieces.{is_no_line_feed, no-feed, piece-positive}
use Rattle.mdinline_constructs.specs.HtmlText.{Piece, data_run, line_break, piece_at, piece_length}
use Rattle.mdinline_link_tails.specs.Resource.{line_events, string_events}
use Rattle.mdinline_text_machine.proofs.Texts.Passing.{AllPass, StopsAt, run-is}

-- one more is taken
pub take-more : (j : ℕ) (l : List Seat) (s : Seat) (ss : List Seat) → drop j l ≡ s ∷ ss → take (j + 1) l ≡ take j l ++ s ∷ []
take-more zero [] s ss h = absurd (cc)
take-more zero (x ∷ xs) s ss h = let one : zero + 1 ≡ suc zero = omega arith in ap (λ n. take n (x ∷ xs)) one ∙ ap (take 1) h
take-more (suc j) [] s ss h = absurd (cc)
take-more (suc j) (x ∷ xs) s ss h = let more : suc j + 1 ≡ suc (j + 1) = omega arith in ap (λ n. take n (x ∷ xs)) more ∙ ap (λ l. x ∷ l) (take-more j xs s ss h)

module _ (bytes : List ℕ) where
  first-piece : (s : Seat) (ss : List Seat) (p : Piece) → piece_at (bytes_of (s ∷ ss)) ≡ p
      → string_events bytes (s ∷ ss) ≡ line_events bytes (p, take (piece_length p) (s ∷ ss)) ++ string_events bytes (drop (piece_length p) (s ∷ ss))
  first-piece s ss p is =
      let n = piece_length (piece_at (bytes_of (s ∷ ss))) in
      let rest = drop n (s ∷ ss) in
      ap (λ l. line_events bytes (piece_at (bytes_of (s ∷ ss)), take n (s ∷ ss)) ++ flat_map (line_events bytes) l)
      (cut-enough piece_at piece_length piece-positive (length ss) (length rest) rest (drop-less n s ss (piece-positive s.byte (bytes_of ss))) (omega arith))
      ∙ ap (λ p. line_events bytes (p, take (piece_length p) (s ∷ ss)) ++ string_events bytes (drop (piece_length p) (s ∷ ss))) is

  -- the events of a line behind its line ending
  abbrev pub further_line : List Seat → List Event
  further_line l = let n = prefix_len is_white (bytes_of l) in leaf bytes SpaceOrTab (take n l) ++ string_events bytes (drop n l)

  -- data, up to a line ending or the end
  pub line-first : (s : Seat) (ss y : List Seat) → AllPass is_no_line_feed (s ∷ ss) → StopsAt is_no_line_feed y → string_events bytes ((s ∷ ss) ++ y) ≡ leaf bytes Data (s ∷ ss) ++ string_events bytes y
  line-first s ss y all stops =
      let d = s ∷ ss in
      let n = length d in
      let size : prefix_len is_no_line_feed (bytes_of (d ++ y)) ≡ n = run-is is_no_line_feed d y all stops in
      let plain : (s.byte == 10) ≡ false = no-feed s.byte all.0 in
      let is : piece_at (bytes_of (d ++ y)) ≡ data_run n =
      ap (λ t. cond t (line_break (prefix_len is_white (bytes_of (ss ++ y)))) (data_run (prefix_len is_no_line_feed (bytes_of (d ++ y))))) plain ∙ ap data_run size in
      first-piece s (ss ++ y) (data_run n) is
      ∙ ap (λ l. leaf bytes Data l ++ string_events bytes (drop n (d ++ y))) (take_at d y n refl)
      ∙ ap (λ l. leaf bytes Data d ++ string_events bytes l) (drop_at d y n refl)

  -- a line ending
  pub feed-first : (s : Seat) (ss : List Seat) → (s.byte == 10) ≡ true → string_events bytes (s ∷ ss) ≡ leaf bytes LineEnding (s ∷ []) ++ further_line ss
  feed-first s ss feed =
      let n = prefix_len is_white (bytes_of ss) in
      first-piece s ss (line_break n) (ap (λ t. cond t (line_break n) (data_run (prefix_len is_no_line_feed (bytes_of (s ∷ ss))))) feed)
      ∙ ap (λ m. line_events bytes (line_break n, take m (s ∷ ss)) ++ string_events bytes (drop m (s ∷ ss))) (one-add n)
      ∙ append_assoc (leaf bytes LineEnding (s ∷ [])) (leaf bytes SpaceOrTab (take n ss)) (string_events bytes (drop n ss))

  -- white space behind it
  pub white-first : (w y : List Seat) → AllPass is_white w → StopsAt is_white y → further_line (w ++ y) ≡ leaf bytes SpaceOrTab w ++ string_events bytes y
  white-first w y all stops =
      ap (λ n. leaf bytes SpaceOrTab (take n (w ++ y)) ++ string_events bytes (drop n (w ++ y))) (run-is is_white w y all stops)
      ∙ ap (λ l. leaf bytes SpaceOrTab l ++ string_events bytes (drop (length w) (w ++ y))) (take_at w y (length w) refl)
      ∙ ap (λ l. leaf bytes SpaceOrTab w ++ string_events bytes l) (drop_at w y (length w) refl)
