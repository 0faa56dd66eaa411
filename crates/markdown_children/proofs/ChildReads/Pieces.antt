-- The chunks of a chain that fits can be read one after another.
use Rattle.markdown_children.proofs.Prelude.{◌≡◌, ℕ, ◌+◌, true, List, [], ◌∷◌, Option, Some, ◌⊎◌, refl, sym, ◌∙◌, ap, subst, inl, inr, ⊎_elim, is_none, ParseOptions, Content, Event, Point, stands_before, denotes_same, next_of, previous_of, Given, Text, pushed, passed, followed_by, empty_text, FitsAfter, CanFollow, upto-order, upto-same, same-self, fits, begins, IsReady, place_at, LeadOnFrom, pieces_behind, pieces_of, CanReadChain, and_parts}
use Rattle.markdown_children.proofs.ChainOrder.Following.{Fits, by_test, fits_next, whole-from}

module _ (tab : ℕ) (bytes : List ℕ) (options : ParseOptions) (wanted : Option Content) (events : List Event) (ready : IsReady tab bytes wanted events) where
  abbrev g : Given
  g = record { bytes = bytes; options = options; tab = tab }

  -- a chunk fits where the text ends at its enter
  chunk-fits : (text : Text) (k : ℕ) → Fits wanted events k → denotes_same tab bytes (place_at events k) text.end ≡ true → FitsAfter g text (pushed (place_at events k) (place_at events (k + 1)))
  chunk-fits text k h same =
      let r = ready.readable k h in
      (r.from.0, r.to.0, same, upto-order tab bytes (place_at events k) (place_at events (k + 1)) r.forward)

  -- a gap is within a line: there is none, or it ends later
  gap-fits : (text : Text) (k d : ℕ) → Fits wanted events k → next_of events k ≡ Some d → text.end ≡ place_at events (k + 1) → FitsAfter g text (passed (place_at events d))
  gap-fits text k d h e at =
      let gap = ready.gaps k d h e in
      let p : Point = place_at events d in
      let q : Point = place_at events (k + 1) in
      let r = ready.readable d (fits_next tab bytes wanted events ready k d h e) in (
        r.from.0,
        subst (λ (q : Point). (denotes_same tab bytes p q ≡ true) ⊎ ((q.column ≡ 1) × (p.line ≡ q.line) × (stands_before q p ≡ true))) (sym at) (⊎_elim
            (λ (s : q ≡ p). inl (ap (denotes_same tab bytes p) s ∙ same-self tab bytes p))
            (λ (s : (q.column ≡ 1) × (p.line ≡ q.line)). by_test (stands_before q p)
            (λ e. inr (s.0, s.1, e))
            (λ e. inl (upto-same tab bytes p q (upto-order tab bytes p q e) (upto-order tab bytes q p gap.forward))))
            gap.in_line),
      )

  behind : (text : Text) (k : ℕ) (ks : List ℕ) → Fits wanted events k → LeadOnFrom events k ks → text.end ≡ place_at events (k + 1) → CanFollow g text (pieces_behind events ks)
  behind text k [] h lead at = tt
  behind text k (d ∷ ks) h lead at =
      let fit = fits_next tab bytes wanted events ready k d h lead.0 in
      let more : Text = followed_by g text (passed (place_at events d)) in (
        gap-fits text k d h lead.0 at,
        (chunk-fits more d fit (by_test (denotes_same tab bytes (place_at events d) text.end) (λ e. rw e e) (λ e. rw e (same-self tab bytes (place_at events d)))), behind (followed_by g more (pushed (place_at events d) (place_at events (d + 1)))) d ks fit lead.2 refl),
      )

  pub chunks_can_be_read : (c : ℕ) → begins wanted events c ≡ true → CanReadChain g events c
  chunks_can_be_read c b =
      let h = (and_parts (fits wanted events c) (is_none (previous_of events c)) b).0 in
      let w = whole-from tab bytes wanted events ready c h in
      let text : Text = empty_text (place_at events c) in
      subst (λ ks. CanFollow g text (pieces_of events ks)) (sym w.1)
      (chunk-fits text c h (same-self tab bytes (place_at events c)), behind (followed_by g text (pushed (place_at events c) (place_at events (c + 1)))) c w.0 h w.2 refl)
