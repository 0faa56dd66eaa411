-- What spans, texts and strings keep, the marks of leaf blocks with their texts and strings keep over all virtual bytes.
use Rattle.mddocument.proofs.Prelude.{ℕ, List, arith, flat_map, Constructs, Event, Seat, lines-are-all, lines_in, length, leaf-blocks-full, spans-blocks, spans-of-around, IsKeptBySpans, over, whole-lines, leaf_blocks, Mark, body, block_texts, read_marks}

module _ (on : Constructs) (texts strings : List Seat → List Event) (bytes : List ℕ) (P : List Mark → List Seat → Type 0) (kept : IsKeptBySpans bytes P) (keeps : (seats : List Seat) → P (read_marks texts bytes seats) seats)
    (keeps_string : (seats : List Seat) → P (read_marks strings bytes seats) seats) where
  pub texts-keep : (seats : List Seat) → P (flat_map (block_texts texts strings bytes) (leaf_blocks on (lines_in seats))) seats
  texts-keep seats =
      let lines = lines_in seats in
      over bytes P kept seats (lines-are-all seats)
      (spans-blocks on bytes P kept (block_texts texts strings bytes)
      (spans-of-around bytes P kept (read_marks texts bytes) (λ l w. keeps l) (λ lines. read_marks texts bytes (body lines)) (λ lines h w. keeps (body lines)) (read_marks strings bytes) (λ l w. keeps_string l)) (length lines) lines (omega arith) (leaf-blocks-full on seats) (whole-lines seats))
