-- The events of raw HTML, piece by piece: data up to a line ending, a line ending, and the white space behind it.
use Rattle.mdinline_constructs.proofs.Prelude.{◌≡◌, ℕ, ◌+◌, ◌<◌, ◌≤◌, ◌==◌, not, List, [], ◌∷◌, ◌++◌, Bool, true, false, cond, length, take, drop, refl, ap, ◌∙◌, arith, one-add, AllByRecursion, flat_map, prefix_len, append_assoc, take_at, drop_at, Event, HtmlTextData, LineEnding, SpaceOrTab, Seat, is_white, has_byte_at, is_line_feed, bytes_of, cut, leaf, cut-enough, drop-less, Piece, line_break, data_run, piece_at, piece_length, piece_events}
pub use Rattle.mdinline_text_machine.proofs.Texts.Passing.{AllPass, StopsAt, one-passes-more, run-is}

-- a byte of data
abbrev pub is_no_line_feed : ℕ → Bool
is_no_line_feed b = not (is_line_feed b)

pub no-feed : (b : ℕ) → is_no_line_feed b ≡ true → (b == 10) ≡ false
no-feed b h = elim (b == 10) as (λ t. not t ≡ true → t ≡ false) [ true ↦ λ i. absurd (cc) | false ↦ λ i. refl ] h

-- each piece is a byte at least
pub piece-positive : (b : ℕ) (bs : List ℕ) → 0 < piece_length (piece_at (b ∷ bs))
piece-positive b bs = elim (b == 10) as (λ t. 0 < piece_length (cond t (line_break (prefix_len is_white bs)) (data_run (cond (not t) (1 + prefix_len is_no_line_feed bs) 0)))) [
  | true ↦ omega arith
  | false ↦ omega arith
]

module _ (bytes : List ℕ) where
  -- the events of all pieces
  abbrev pub pieces_events : List Seat → List Event
  pieces_events l = flat_map (piece_events bytes) (cut piece_at piece_length (length l) l)

  -- the first one comes first
  first-piece : (s : Seat) (ss : List Seat) (p : Piece) → piece_at (bytes_of (s ∷ ss)) ≡ p
      → pieces_events (s ∷ ss) ≡ piece_events bytes (p, take (piece_length p) (s ∷ ss)) ++ pieces_events (drop (piece_length p) (s ∷ ss))
  first-piece s ss p is =
      let n = piece_length (piece_at (bytes_of (s ∷ ss))) in
      let rest = drop n (s ∷ ss) in
      let less : length rest ≤ length ss = drop-less n s ss (piece-positive s.byte (bytes_of ss)) in
      ap (λ l. piece_events bytes (piece_at (bytes_of (s ∷ ss)), take n (s ∷ ss)) ++ flat_map (piece_events bytes) l) (cut-enough piece_at piece_length piece-positive (length ss) (length rest) rest less (omega arith))
      ∙ ap (λ p. piece_events bytes (p, take (piece_length p) (s ∷ ss)) ++ pieces_events (drop (piece_length p) (s ∷ ss))) is

  -- the events of a line behind its line ending
  abbrev pub line_events : List Seat → List Event
  line_events l = let n = prefix_len is_white (bytes_of l) in leaf bytes SpaceOrTab (take n l) ++ pieces_events (drop n l)

  -- Data, up to a line ending or the end
  pub data-piece : (s : Seat) (ss y : List Seat) → AllPass is_no_line_feed (s ∷ ss) → StopsAt is_no_line_feed y
      → pieces_events ((s ∷ ss) ++ y) ≡ leaf bytes HtmlTextData (s ∷ ss) ++ pieces_events y
  data-piece s ss y all stops =
      let d = s ∷ ss in
      let n = length d in
      let size : prefix_len is_no_line_feed (bytes_of (d ++ y)) ≡ n = run-is is_no_line_feed d y all stops in
      let plain : (s.byte == 10) ≡ false = no-feed s.byte all.0 in
      let is : piece_at (bytes_of (d ++ y)) ≡ data_run n =
      ap (λ t. cond t (line_break (prefix_len is_white (bytes_of (ss ++ y)))) (data_run (prefix_len is_no_line_feed (bytes_of (d ++ y))))) plain ∙ ap data_run size in
      first-piece s (ss ++ y) (data_run n) is
      ∙ ap (λ l. leaf bytes HtmlTextData l ++ pieces_events (drop n (d ++ y))) (take_at d y n refl)
      ∙ ap (λ l. leaf bytes HtmlTextData d ++ pieces_events l) (drop_at d y n refl)

  -- a line ending
  pub line-piece : (s : Seat) (ss : List Seat) → (s.byte == 10) ≡ true → pieces_events (s ∷ ss) ≡ leaf bytes LineEnding (s ∷ []) ++ line_events ss
  line-piece s ss feed =
      let n = prefix_len is_white (bytes_of ss) in
      first-piece s ss (line_break n) (ap (λ t. cond t (line_break n) (data_run (prefix_len is_no_line_feed (bytes_of (s ∷ ss))))) feed)
      ∙ ap (λ m. piece_events bytes (line_break n, take m (s ∷ ss)) ++ pieces_events (drop m (s ∷ ss))) (one-add n)
      ∙ append_assoc (leaf bytes LineEnding (s ∷ [])) (leaf bytes SpaceOrTab (take n ss)) (pieces_events (drop n ss))

  -- white space behind it
  pub white-piece : (w y : List Seat) → AllPass is_white w → StopsAt is_white y → line_events (w ++ y) ≡ leaf bytes SpaceOrTab w ++ pieces_events y
  white-piece w y all stops =
      let size = run-is is_white w y all stops in
      ap (λ n. leaf bytes SpaceOrTab (take n (w ++ y)) ++ pieces_events (drop n (w ++ y))) size
      ∙ ap (λ l. leaf bytes SpaceOrTab l ++ pieces_events (drop (length w) (w ++ y))) (take_at w y (length w) refl)
      ∙ ap (λ l. leaf bytes SpaceOrTab w ++ pieces_events l) (drop_at w y (length w) refl)
