-- Events that account for the virtual bytes of a document have innermost spans that stand end to end.
use Rattle.mddocument.proofs.Prelude.{◌≡◌, ◌<◌, ℕ, List, [], ◌∷◌, ◌++◌, refl, sym, subst, map, flat_map, Event, Point, Seat, shown, point, virtual, document_end, end_after, end-after-append, AccountFor, stretch_bytes, span_over, IsChain, chain-at, chain-split, whole-chain, StandEndToEnd, Tile}

module _ (t : ℕ) (bytes : List ℕ) where
  -- spans over stretches that follow each other
  stand : (stretches : List (Seat × List Seat)) (p : Point) → IsChain t bytes p (flat_map stretch_bytes stretches) → StandEndToEnd p (map (span_over bytes) stretches) (end_after p (flat_map stretch_bytes stretches))
  stand [] p c = refl
  stand (stretch ∷ stretches) p c =
      let rest = flat_map stretch_bytes stretches in
      let ends = end_after stretch.0.end stretch.1 in
      let split : IsChain t bytes ends rest = chain-split t bytes stretch.0.end stretch.1 rest c.2 in
      let is_shown : shown bytes ends ≡ ends = (chain-at t bytes ends rest split).shown in
      let more : StandEndToEnd ends (map (span_over bytes) stretches) (end_after ends rest) = stand stretches ends split in (
        c.1.shown_is,
        subst (λ q. StandEndToEnd q (map (span_over bytes) stretches) (end_after stretch.0.end (stretch.1 ++ rest))) (sym is_shown)
            (subst (StandEndToEnd ends (map (span_over bytes) stretches)) (sym (end-after-append stretch.0.end stretch.1 rest)) more),
      )

  pub tiled : 0 < t → (events : List Event) → AccountFor events bytes (virtual t bytes) → Tile t bytes events
  tiled d events h = record {
    account = h;
    end_to_end =
        let origin = point 1 1 0 0 in
        let spans = stand h.stretches origin (subst (IsChain t bytes origin) (sym h.are_all) (whole-chain t bytes d)) in
        subst (λ ss. StandEndToEnd origin ss (document_end t bytes)) (sym h.are_innermost)
        (subst (λ xs. StandEndToEnd origin (map (span_over bytes) h.stretches) (end_after origin xs)) h.are_all spans);
  }
