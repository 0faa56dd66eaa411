-- How what is between the backtick strings of a code span is cut into pieces.
use Rattle.mdinline_text_machine.proofs.Prelude.{◌≡◌, ℕ, zero, suc, ◌+◌, ◌<◌, ◌≤◌, ◌==◌, ◌∷◌, List, false, refl, sym, ◌∙◌, ap, arith, length, take, drop, drop-take, take-take, take-map, flat_map, Event, CodeTextData, Seat, Part, is_backtick_or_line_feed, backticks, part_length, part_at, part_events, bytes_of, cut}
use Rattle.mdinline_text_machine.proofs.CodeSpans.Found.{Passes, passes-piece}
use Rattle.mdinline_text_machine.proofs.CodeSpans.FoundParts.{piece-positive, piece-within}

-- The piece at the front, its length, and its events. Each is a byte at least, and the same if the text is cut behind it. A look for a backtick string goes
-- over it, unless it begins with that
pub record Cutting : Type 1 where
  pub Piece : Type 0
  pub front : List ℕ → Piece
  pub size : Piece → ℕ
  pub events : List ℕ → (Piece × List Seat) → List Event
  pub positive : (b : ℕ) (bs : List ℕ) → 0 < size (front (b ∷ bs))
  pub within : (b : ℕ) (bs : List ℕ) (n : ℕ) → size (front (b ∷ bs)) ≤ suc n → front (take (suc n) (b ∷ bs)) ≡ front (b ∷ bs)
  pub passes : (k : ℕ) → 0 < k → (b : ℕ) (bs : List ℕ) → (backticks (b ∷ bs) == k) ≡ false → Passes k false false (b ∷ bs) (size (front (b ∷ bs)))

-- line endings, and data
abbrev pub into_parts : Cutting
into_parts = record {
  Piece = Part;
  front = part_at is_backtick_or_line_feed;
  size = part_length;
  events = λ bytes. part_events bytes CodeTextData;
  positive = piece-positive is_backtick_or_line_feed;
  within = piece-within is_backtick_or_line_feed;
  passes = passes-piece;
}

module _ (c : Cutting) where
  -- the pieces, with a bound
  abbrev pub cut_pieces : ℕ → List Seat → List (c.Piece × List Seat)
  cut_pieces bound seats = cut c.front c.size bound seats

  -- the piece at the front
  abbrev pub piece_of : List Seat → c.Piece
  piece_of seats = c.front (bytes_of seats)

  -- the events of all pieces
  abbrev pub events_of : List ℕ → List Seat → List Event
  events_of bytes seats = flat_map (c.events bytes) (cut_pieces (length seats) seats)

  -- The first piece is cut from the front, and from the rest what is left
  pub cut-front : (bound m k : ℕ) (s : Seat) (ss : List Seat) → let a = piece_of (s ∷ ss) in c.size a + m ≡ k
      → cut_pieces (suc bound) (take k (s ∷ ss)) ≡ (a, take (c.size a) (s ∷ ss)) ∷ cut_pieces bound (take m (drop (c.size a) (s ∷ ss)))
  cut-front bound m zero s ss sum = let some = c.positive s.byte (bytes_of ss) in absurd (omega (arith, some, sum))
  cut-front bound m (suc n) s ss sum =
      let l = take (suc n) (s ∷ ss) in
      let a = piece_of (s ∷ ss) in
      let short : c.size a ≤ suc n = omega (arith, sum) in
      let same : piece_of l ≡ a = ap (λ l. c.front (s.byte ∷ l)) (sym (take-map (λ (t : Seat). t.byte) n ss)) ∙ c.within s.byte (bytes_of ss) n short in
      let behind : drop (c.size a) l ≡ take m (drop (c.size a) (s ∷ ss)) = ap (λ k. drop (c.size a) (take k (s ∷ ss))) (sym sum) ∙ drop-take (c.size a) m (s ∷ ss) in
      ap (λ b. (b, take (c.size b) l) ∷ cut_pieces bound (drop (c.size b) l)) same
      ∙ ap (λ k. (a, k) ∷ cut_pieces bound (drop (c.size a) l)) (take-take (c.size a) (suc n) (s ∷ ss) short)
      ∙ ap (λ k. (a, take (c.size a) (s ∷ ss)) ∷ cut_pieces bound k) behind
