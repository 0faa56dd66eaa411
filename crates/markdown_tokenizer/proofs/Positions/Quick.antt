-- The next virtual byte from a place on, if the byte at its index is enough to tell it.
use Rattle.markdown_tokenizer.proofs.Prelude.{◌≡◌, ◌≢◌, ◌+◌, ◌≤◌, ◌<◌, ℕ, List, Bool, false, cond, Some, length, arith, refl, sym, ap, ◌∙◌, ◌⊎◌, inl, inr, slice_index, Point, Seat, point, Moves, Plain, goes_on, moved, IsPlace, IsNextSeat, IsQuick}
use Rattle.markdown_tokenizer.proofs.Positions.Order.{not-number}
use Rattle.markdown_tokenizer.proofs.Positions.Seats.{one-seat, seat-other, seat-in-tab}
use Rattle.markdown_tokenizer.proofs.Positions.Standing.{end-of-other}

module _ (t : ℕ) (bytes : List ℕ) (d : 0 < t) (p : Point) (place : IsPlace t bytes p) (plain_until end : ℕ) where
  module _ (moves : Moves) (w : Bool)
      (moves_so : moved moves p ≡ cond w (point p.line (p.column + 1) p.index (p.vs + 1)) (point p.line (p.column + 1) (p.index + 1) 0)) where
    quick : (byte : ℕ) → IsNextSeat t bytes p (Some (byte, p)) → p.index < end → (p.index < plain_until) ⊎ (p.column ≢ 1) → (moves ≡ Plain → p.vs ≡ 0) → byte ≢ 10 → goes_on t byte p ≡ w
        → IsQuick t bytes p plain_until end byte moves
    quick byte next before there flat no_lf on =
        let seat : Seat = record { byte = byte; point = p; end = next.0 } in
        record {
          seat = seat;
          at = next.1;
          here = refl;
          is = refl;
          before = before;
          there = there;
          over = record {
            ends = λ other n. ap (λ (x : Seat). x.end) (one-seat t bytes p other seat n next.1) ∙ sym (moves_so ∙ end-of-other t bytes d p seat place next.1 no_lf w on);
            flat = flat;
          };
        }

    pub quick-in-tab : moves ≢ Plain → 0 < p.vs → p.index < end → end ≤ length bytes → goes_on t 32 p ≡ w → IsQuick t bytes p plain_until end 32 moves
    quick-in-tab not_plain inside before upto on =
        let beyond = place.bounds.beyond in
        quick 32 (seat-in-tab t bytes p d inside (omega arith)) before (inr (λ k. omega arith)) (λ e. absurd (not_plain e)) (λ k. cc) on

    pub quick-here : p.vs ≡ 0 → p.index < plain_until → plain_until ≤ end → end ≤ length bytes → slice_index bytes p.index ≢ 13 → slice_index bytes p.index ≢ 10 → goes_on t (slice_index bytes p.index) p ≡ w
        → IsQuick t bytes p plain_until end (slice_index bytes p.index) moves
    quick-here flat before upto inside no_cr no_lf on =
        quick (slice_index bytes p.index) (seat-other t bytes p d flat (omega arith) no_cr) (omega arith) (inl before) (λ e. flat) no_lf on

  -- a byte above CR, in no tab
  pub quick-plain : p.vs ≡ 0 → p.index < plain_until → plain_until ≤ end → end ≤ length bytes → 13 < slice_index bytes p.index → IsQuick t bytes p plain_until end (slice_index bytes p.index) Plain
  quick-plain flat before upto inside above =
      let no_tab = not-number (slice_index bytes p.index) 9 (λ e. omega (arith, above, e)) in
      quick-here Plain false refl flat before upto inside (λ e. omega (arith, above, e)) (λ e. omega (arith, above, e)) (rw (no_tab, flat) refl)
