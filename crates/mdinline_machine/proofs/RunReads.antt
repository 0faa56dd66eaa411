-- Delimiter runs, as the machine of inline text reads them between items; and in how many calls.
use Rattle.mdinline_machine.proofs.Prelude.{◌≡◌, ℕ, suc, ◌+◌, ◌≤◌, ◌==◌, List, [], ◌∷◌, ◌++◌, Bool, true, false, cond, Some, refl, sym, ap, ◌∙◌, subst, arith, length, take, drop, eqb-true, append_assoc, length-map, prefix_len-le-length, prefix_len, slice_get, Event, Enter, Exit, EventName, AttentionSequence, Next, Retry, AttentionInside, AttentionStart, TextBefore, Seat, drop-next, Byte, Nothing, Local, byte_of, end_place, point_or, seat_before, sight, Given, Text, row, enter, exit, consume, counts, at-front, passes, between_texts, bytes_of, event, leaf, AddsItemIn, shows, first_byte, goes-back, goes-next, leaf-read, sees, IsAfter, after-call, after-more, after-within, Plays, EndsWith, Leads, between_items, leads-row, leads-tested, begins_run, delimiter_run, run_length, is_byte, attention_inside_rows, run_goes_on}
use Rattle.mdinline_machine.proofs.Playing.{inlines_play, runs-begin}

-- a run is open
abbrev in_run : List EventName
in_run = AttentionSequence ∷ []

module _ (defined : List ℕ → Bool) (g : Given) (text : Text) where
  abbrev m : Plays g text
  m = inlines_play defined g text

  -- the run ends at a place
  abbrev with_end : List Event → ℕ → List Event
  with_end events q = events ++ event g.bytes Exit AttentionSequence (end_place text q) ∷ []

  -- Behind a byte of a run all bytes like it are read, and the run ends, in a call more than they are
  abbrev RunRead : (b : ℕ) (l : List Seat) (q : ℕ) (events : List Event) (local : Local Unit Unit) (n : ℕ) → Type 0
  RunRead b l q events local n =
      (after : Local Unit Unit) × IsAfter (n + 1) local after
      × Leads g text m (shows l in_run q events local) [] (Retry AttentionInside) (between_items (q + n) Nothing false (with_end events (q + n)) after) [] (Next TextBefore)

  -- it ends at once
  ends-here : (b : ℕ) (l : List Seat) (q : ℕ) (events : List Event) (local : Local Unit Unit) → drop q text.seats ≡ l → byte_of (seat_before text q) ≡ Some b → passes (λ c. c == b) (first_byte l) ≡ false
      → RunRead b l q events local 0
  ends-here b [] q events local at before other =
      let same : q ≡ q + 0 = omega arith in (
        counts local,
        after-call local,
        λ es h.
            leads-row g text m (row (exit AttentionSequence ∷ []) (Retry TextBefore)) (shows [] in_run q events local) [] AttentionInside es refl
            (goes-back g text m [] [] q (with_end events q) (counts local) [] TextBefore at es (subst (λ n. EndsWith g text m (between_items n Nothing false (with_end events n) (counts local)) [] (Next TextBefore) es) (sym same) h)),
      )
  ends-here b (c ∷ cs) q events local at before other =
      let same : q ≡ q + 0 = omega arith in
      let here = sees g text m (c ∷ cs) q at in (
        counts local,
        after-call local,
        λ es h.
            leads-tested g text m run_goes_on attention_inside_rows (shows (c ∷ cs) in_run q events local) [] AttentionInside es here refl
            (ap (λ o. passes (λ byte. is_byte byte (sight g text (shows (c ∷ cs) in_run q events local)).current) o) before ∙ ap (is_byte b) here ∙ other) refl
            (goes-back g text m (c ∷ cs) [] q (with_end events q) (counts local) [] TextBefore at es (subst (λ n. EndsWith g text m (between_items n Nothing false (with_end events n) (counts local)) [] (Next TextBefore) es) (sym same) h)),
      )

  run-read : (b : ℕ) (l : List Seat) (q : ℕ) (events : List Event) (local : Local Unit Unit) → drop q text.seats ≡ l → byte_of (seat_before text q) ≡ Some b → RunRead b l q events local (prefix_len (λ c. c == b) (bytes_of l))
  run-read b [] q events local at before = ends-here b [] q events local at before refl
  run-read b (c ∷ cs) q events local at before =
      let rest = prefix_len (λ c. c == b) (bytes_of cs) in
      elim (c.byte == b) as (λ t. (c.byte == b) ≡ t → RunRead b (c ∷ cs) q events local (cond t (1 + rest) 0)) [
        | true ↦ λ like.
            let same : c.byte ≡ b = eqb-true c.byte b like in
            let one : q + 1 ≡ suc q = omega arith in
            let front = at-front text.seats q c cs at in
            let further = run-read b cs (q + 1) events (counts local) (drop-next text.seats q c cs at) (ap (λ n. byte_of (seat_before text n)) one ∙ ap byte_of front ∙ ap Some same) in
            let place : q + 1 + rest ≡ q + (1 + rest) = omega arith in
            let here = sees g text m (c ∷ cs) q at in (
              further.0,
              after-within (1 + (rest + 1)) (1 + rest + 1) local further.0 (omega arith) (after-more 1 (rest + 1) local (counts local) further.0 (after-call local) further.1),
              λ es h.
                  leads-tested g text m run_goes_on attention_inside_rows (shows (c ∷ cs) in_run q events local) [] AttentionInside es here refl
                  (ap (λ o. passes (λ byte. is_byte byte (sight g text (shows (c ∷ cs) in_run q events local)).current) o) before ∙ ap (is_byte b) here ∙ like) refl
                  (goes-next g text m cs in_run (q + 1) events (counts local) [] AttentionInside (drop-next text.seats q c cs at) es
                  (further.2 es (subst (λ n. EndsWith g text m (between_items n Nothing false (with_end events n) further.0) [] (Next TextBefore) es) (sym place) h))),
            )
        | false ↦ λ other. ends-here b (c ∷ cs) q events local at before other
      ] refl

  -- A run is read, with its events, in two calls more than it has bytes
  pub reads-run-in : (p : ℕ) (ended : Bool) (events : List Event) (local : Local Unit Unit) (s : Seat) (ss : List Seat) → drop p text.seats ≡ s ∷ ss → begins_run g.options.constructs s.byte ≡ true
      → AddsItemIn g text m between_texts (run_length (bytes_of (s ∷ ss)) + 2) (between_items p Byte ended events local) (Retry TextBefore) p events (s ∷ ss) (delimiter_run (run_length (bytes_of (s ∷ ss))))
  reads-run-in p ended events local s ss here is =
      let n = run_length (bytes_of (s ∷ ss)) in
      let rest = prefix_len (λ c. c == s.byte) (bytes_of ss) in
      let at = at-front text.seats p s ss here in
      let next = drop-next text.seats p s ss here in
      let one : p + 1 ≡ suc p = omega arith in
      let begun = events ++ event g.bytes Enter AttentionSequence (point_or text.end (slice_get text.seats p)) ∷ [] in
      let read = run-read s.byte ss (p + 1) begun (counts (counts local)) next (ap (λ n. byte_of (seat_before text n)) one ∙ ap byte_of at) in
      let place : p + 1 + rest ≡ p + n = omega arith in
      let inside : n ≤ suc (length ss) = omega (arith, prefix_len-le-length (λ c. c == s.byte) (bytes_of ss), length-map ss (λ x. x.byte)) in
      let made : with_end begun (p + n) ≡ events ++ leaf g.bytes AttentionSequence (take n (s ∷ ss)) =
      append_assoc events _ _ ∙ ap (λ es. events ++ es) (leaf-read text g.bytes AttentionSequence n p s ss here (omega arith) inside) in (
        false,
        read.0,
        after-within (1 + (1 + (rest + 1))) (n + 2) local read.0 (omega arith)
            (after-more 1 (1 + (rest + 1)) local (counts local) read.0 (after-call local) (after-more 1 (rest + 1) (counts local) (counts (counts local)) read.0 (after-call (counts local)) read.1)),
        λ es h.
            leads-row g text m (row [] (Retry AttentionStart)) (between_items p Byte ended events local) [] TextBefore es (runs-begin defined g text (between_items p Byte ended events local) s.byte (ap byte_of at) is)
            (leads-row g text m (row (enter AttentionSequence ∷ consume ∷ []) (Next AttentionInside)) (between_items p Byte ended events (counts local)) [] AttentionStart es refl
            (goes-next g text m ss in_run (p + 1) begun (counts (counts local)) [] AttentionInside next es
            (read.2 es
            (subst (λ q. EndsWith g text m (between_items q Nothing false (with_end begun q) read.0) [] (Next TextBefore) es) (sym place)
            (subst (λ l. EndsWith g text m (between_items (p + n) Nothing false l read.0) [] (Next TextBefore) es) (sym made) h))))),
      )
