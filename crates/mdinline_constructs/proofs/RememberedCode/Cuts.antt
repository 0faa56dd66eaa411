-- The events of a code span whose further lines may begin with white space: they can be cut into atoms, as none goes over a line ending; and what spans
-- keep holds of them.
use Rattle.mdinline_constructs.proofs.Prelude.{ℕ, ◌+◌, ◌==◌, ◌≡◌, List, ◌∷◌, true, false, cond, length, take, drop, refl, sym, subst, arith, prefix_len, drop-take, take-append-drop, Event, CodeTextData, LineEnding, SpaceOrTab, Seat, is_white, bytes_of, cut, OfOption, IsCut, cut-append, cut-leaf, NoEnding, plain-line, run-plain, one-taken, cuts, ItemCut, IsKeptBySpans, IsBuilt, flat-built, Piece, line_break, data_run, piece_length, code_piece_at, code_piece_events, lined_code_at, lined_events}
use Rattle.mdinline_text_machine.proofs.CodeSpans.Cuts.{code-built, code-cut}
use Rattle.mdinline_text_machine.proofs.DeepSpans.Stretches.{text-run}
use Rattle.mdinline_text_machine.specs.CodeSpan.{is_backtick_or_line_feed}
use Rattle.mdinline_text_machine.specs.Parts.{plain_length}
use Rattle.mdinline_constructs.proofs.RememberedCode.Lines.{code-piece-positive}

module _ (bytes : List ℕ) where
  -- a piece
  piece-cut : (s : Seat) (ss : List Seat) → let a = code_piece_at (bytes_of (s ∷ ss)) in IsCut bytes (code_piece_events bytes (a, take (piece_length a) (s ∷ ss))) (take (piece_length a) (s ∷ ss))
  piece-cut s ss =
      let size = plain_length is_backtick_or_line_feed (bytes_of (s ∷ ss)) in
      elim (s.byte == 10) as (λ t. (s.byte == 10) ≡ t → let a = cond t (line_break (prefix_len is_white (bytes_of ss))) (data_run size) in
      IsCut bytes (code_piece_events bytes (a, take (piece_length a) (s ∷ ss))) (take (piece_length a) (s ∷ ss))) [
        | true ↦ λ e.
            let n = prefix_len is_white (bytes_of ss) in
            let l = take (1 + n) (s ∷ ss) in
            let white : NoEnding (drop 1 l) = subst NoEnding (sym (drop-take 1 n (s ∷ ss))) (run-plain is_white refl ss) in
            subst (IsCut bytes (code_piece_events bytes (line_break n, l))) (take-append-drop 1 l)
            (cut-append bytes (cut-leaf bytes LineEnding (take 1 l) (one-taken l)) (cut-leaf bytes SpaceOrTab (drop 1 l) (plain-line (drop 1 l) white)))
        | false ↦ λ e. cut-leaf bytes CodeTextData (take size (s ∷ ss)) (plain-line (take size (s ∷ ss)) (text-run is_backtick_or_line_feed refl s ss e))
      ] refl

  pub lined-code-cut : (seats : List Seat) → OfOption (ItemCut bytes seats) (lined_code_at (bytes_of seats))
  lined-code-cut seats = code-cut bytes lined_events (λ l. cuts bytes code_piece_at piece_length (code_piece_events bytes) code-piece-positive piece-cut (length l) l (omega arith)) seats

-- what spans keep
module _ (bytes : List ℕ) (P : List Event → Type 0) (kept : IsKeptBySpans bytes P) where
  piece-built : (p : Piece × List Seat) → P (code_piece_events bytes p)
  piece-built (line_break n, seats) = kept.both _ _ (kept.alone LineEnding (take 1 seats)) (kept.alone SpaceOrTab (drop 1 seats))
  piece-built (data_run n, seats) = kept.alone CodeTextData seats

  pub lined-code-built : (text : List ℕ) → OfOption (IsBuilt bytes P kept) (lined_code_at text)
  lined-code-built text = code-built bytes P kept lined_events (λ l. flat-built bytes P kept (code_piece_events bytes) (cut code_piece_at piece_length (length l) l) piece-built) text
