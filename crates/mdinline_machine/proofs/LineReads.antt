-- How the machine of inline text reads a line ending with the white space behind it, and the white space that a text begins with; and in how many
-- calls.
use Rattle.mdinline_machine.proofs.Prelude.{◌≡◌, ℕ, suc, ◌+◌, ◌≤◌, List, [], ◌∷◌, ◌++◌, Bool, true, false, cond, Option, Some, None, refl, sym, ap, ◌∙◌, subst, arith, append_assoc, length, take, drop, append-nil, length-map, prefix_len-le-length, prefix_len, slice_get, drop-next, Event, Enter, Exit, LineEnding, SpaceOrTab, Next, Retry, TextBefore, TextLineStart, TextLineWhite, Seat, Byte, Nothing, Local, byte_of, end_place, point_or, Given, Text, class_of, consume, enter, exit, row, line-ending-read, at-front, held, is_white, counts, AddsItemIn, after-passed, first_byte, goes-back, goes-next, leaf-read, loops, past-at, past-stops, passed, sees, shows, IsAfter, after-call, after-more, after-within, EndsWith, Leads, Plays, before_class, between_items, leads-row, leads-seen, passes, between_texts, by-class, bytes_of, event, leaf, TextByte, text_byte, run-some, white-class, line_break, line_start_rows, line_white_rows}
use Rattle.mdinline_text_machine.proofs.Plain.Stretches.{past}
use Rattle.mdinline_machine.proofs.Playing.{inlines_play, line-row}

-- ---- rows
module _ (before : Option TextByte) where
  start-other : (o : Option ℕ) → passes is_white o ≡ false → line_start_rows before (class_of text_byte o) ≡ row [] (Retry TextBefore)
  start-other None h = refl
  start-other (Some b) h =
      by-class (λ w. line_start_rows before (Some w) ≡ row [] (Retry TextBefore)) b
      (λ e. refl) (λ e. refl) (λ e. refl) (λ e. refl) (λ e. refl) (λ e. refl) (λ e. refl) (λ e f. refl) (λ e. refl) (λ e. refl) (λ e. absurd (cc)) (λ o e. refl) (λ o e. refl) (λ o n e. refl)

  pub white-ends : (o : Option ℕ) → passes is_white o ≡ false → line_white_rows before (class_of text_byte o) ≡ row (exit SpaceOrTab ∷ []) (Retry TextBefore)
  white-ends None h = refl
  white-ends (Some b) h =
      by-class (λ w. line_white_rows before (Some w) ≡ row (exit SpaceOrTab ∷ []) (Retry TextBefore)) b
      (λ e. refl) (λ e. refl) (λ e. refl) (λ e. refl) (λ e. refl) (λ e. refl) (λ e. refl) (λ e f. refl) (λ e. refl) (λ e. refl) (λ e. absurd (cc)) (λ o e. refl) (λ o e. refl) (λ o n e. refl)

module _ (defined : List ℕ → Bool) (g : Given) (text : Text) where
  abbrev m : Plays g text
  m = inlines_play defined g text

  -- in a call more than it has bytes
  abbrev pub StartReadIn : List Seat → ℕ → List Event → Local Unit Unit → ℕ → Type 0
  StartReadIn l q events local n =
      (after : Local Unit Unit) × IsAfter (n + 1) local after
      × Leads g text m (shows l [] q events local) [] (Retry TextLineStart) (between_items (q + n) Nothing false (events ++ leaf g.bytes SpaceOrTab (take n l)) after) [] (Next TextBefore)

  -- there is none
  no-white : (l : List Seat) (q : ℕ) (events : List Event) (local : Local Unit Unit) → drop q text.seats ≡ l → passes is_white (first_byte l) ≡ false → StartReadIn l q events local 0
  no-white l q events local at none =
      let same : q ≡ q + 0 = omega arith in (
        counts local,
        after-call local,
        λ es h.
            leads-seen g text m line_start_rows (shows l [] q events local) [] TextLineStart es (sees g text m l q at) (start-other (before_class g text q) (first_byte l) none) refl
            (goes-back g text m l [] q events (counts local) [] TextBefore at es
            (subst (λ n. EndsWith g text m (between_items n Nothing false events (counts local)) [] (Next TextBefore) es) (sym same)
            (subst (λ xs. EndsWith g text m (between_items (q + 0) Nothing false xs (counts local)) [] (Next TextBefore) es) (append-nil events) h))),
      )

  some-white : (s : Seat) (ss : List Seat) (q : ℕ) (events : List Event) (local : Local Unit Unit) → drop q text.seats ≡ s ∷ ss → is_white s.byte ≡ true → StartReadIn (s ∷ ss) q events local (prefix_len is_white (bytes_of (s ∷ ss)))
  some-white s ss q events local at is =
      let l = s ∷ ss in
      let n = prefix_len is_white (bytes_of l) in
      let st = SpaceOrTab ∷ [] in
      let begun = events ++ event g.bytes Enter SpaceOrTab (point_or text.end (slice_get text.seats q)) ∷ [] in
      let next = drop-next text.seats q s ss at in
      let length-is : n ≡ 1 + prefix_len is_white (bytes_of ss) = ap (λ t. cond t (1 + prefix_len is_white (bytes_of ss)) 0) is in
      let place : q + n ≡ q + 1 + prefix_len is_white (bytes_of ss) = omega (arith, length-is) in
      let rest = past is_white ss in
      let there : drop (q + n) text.seats ≡ rest = past-at g text m is_white ss (q + 1) (q + n) next place in
      let read = passed is_white counts ss (counts local) in
      let k = prefix_len is_white (bytes_of ss) in
      let white : IsAfter (1 + k) local read = after-more 1 k local (counts local) read (after-call local) (after-passed counts after-call is_white ss (counts local)) in
      let inside : n ≤ suc (length ss) = omega (arith, prefix_len-le-length is_white (bytes_of l), length-map l (λ x. x.byte)) in
      let made : begun ++ event g.bytes Exit SpaceOrTab (end_place text (q + n)) ∷ [] ≡ events ++ leaf g.bytes SpaceOrTab (take n l) =
      append_assoc events _ _ ∙ ap (λ xs. events ++ xs) (leaf-read text g.bytes SpaceOrTab n q s ss at (run-some s.byte (bytes_of ss) is) inside) in (
        counts read,
        after-within (1 + k + 1) (n + 1) local (counts read) (omega (arith, length-is)) (after-more (1 + k) 1 local read (counts read) white (after-call read)),
        λ es h.
            leads-seen g text m line_start_rows (shows l [] q events local) [] TextLineStart es (ap byte_of (at-front text.seats q s ss at))
            (ap (λ w. line_start_rows (before_class g text q) (Some w)) (white-class s.byte is)) refl
            (goes-next g text m ss st (q + 1) begun (counts local) [] TextLineWhite next es
            (loops g text m st [] TextLineWhite is_white counts
            (λ q ended events local s at is es.
            leads-seen g text m line_white_rows (held st q Byte ended events local) [] TextLineWhite es (ap byte_of at) (ap (λ w. line_white_rows (before_class g text q) (Some w)) (white-class s.byte is)) refl)
            ss (q + 1) (q + n) begun (counts local) next place es
            (leads-seen g text m line_white_rows (shows rest st (q + n) begun read) [] TextLineWhite es (sees g text m rest (q + n) there)
            (white-ends (before_class g text (q + n)) (first_byte rest) (past-stops is_white ss)) refl
            (goes-back g text m rest [] (q + n) (begun ++ event g.bytes Exit SpaceOrTab (end_place text (q + n)) ∷ []) (counts read) [] TextBefore there es
            (subst (λ xs. EndsWith g text m (between_items (q + n) Nothing false xs (counts read)) [] (Next TextBefore) es) (sym made) h))))),
      )

  pub start-read-in : (l : List Seat) (q : ℕ) (events : List Event) (local : Local Unit Unit) → drop q text.seats ≡ l → StartReadIn l q events local (prefix_len is_white (bytes_of l))
  start-read-in [] q events local at = no-white [] q events local at refl
  start-read-in (s ∷ ss) q events local at =
      elim (is_white s.byte) as (λ t. is_white s.byte ≡ t → StartReadIn (s ∷ ss) q events local (cond t (1 + prefix_len is_white (bytes_of ss)) 0)) [
        | true ↦ λ is.
            let length-is : prefix_len is_white (bytes_of (s ∷ ss)) ≡ 1 + prefix_len is_white (bytes_of ss) = ap (λ t. cond t (1 + prefix_len is_white (bytes_of ss)) 0) is in
            subst (StartReadIn (s ∷ ss) q events local) length-is (some-white s ss q events local at is)
        | false ↦ λ other. no-white (s ∷ ss) q events local at other
      ] refl

  -- A line ending is read, with the white space behind it, in a call more than they have bytes
  pub reads-line-break-in : (p : ℕ) (ended : Bool) (events : List Event) (local : Local Unit Unit) (s : Seat) (ss : List Seat) → drop p text.seats ≡ s ∷ ss → s.byte ≡ 10
      → AddsItemIn g text m between_texts (prefix_len is_white (bytes_of ss) + 2) (between_items p Byte ended events local) (Retry TextBefore) p events (s ∷ ss) (line_break (prefix_len is_white (bytes_of ss)))
  reads-line-break-in p ended events local s ss here is =
      let at = at-front text.seats p s ss here in
      let n = prefix_len is_white (bytes_of ss) in
      let ending = events ++ leaf g.bytes LineEnding (s ∷ []) in
      let next = drop-next text.seats p s ss here in
      let read = start-read-in ss (p + 1) ending (counts local) next in
      let place : p + 1 + n ≡ p + (1 + n) = omega arith in
      let one : 1 + n ≡ suc n = omega arith in
      let made : ending ++ leaf g.bytes SpaceOrTab (take n ss) ≡ events ++ (leaf g.bytes LineEnding (take 1 (take (1 + n) (s ∷ ss))) ++ leaf g.bytes SpaceOrTab (drop 1 (take (1 + n) (s ∷ ss)))) =
      append_assoc events (leaf g.bytes LineEnding (s ∷ [])) (leaf g.bytes SpaceOrTab (take n ss))
      ∙ ap (λ k. events ++ (leaf g.bytes LineEnding (take 1 (take k (s ∷ ss))) ++ leaf g.bytes SpaceOrTab (drop 1 (take k (s ∷ ss))))) (sym one) in (
        false,
        read.0,
        after-within (1 + (n + 1)) (n + 2) local read.0 (omega arith) (after-more 1 (n + 1) local (counts local) read.0 (after-call local) read.1),
        λ es h.
            leads-row g text m (row (enter LineEnding ∷ consume ∷ exit LineEnding ∷ []) (Next TextLineStart)) (between_items p Byte ended events local) [] TextBefore es (line-row defined g text (between_items p Byte ended events local) (ap byte_of at ∙ ap Some is))
            (subst (λ l. EndsWith g text m (held [] (p + 1) Nothing false l (counts local)) [] (Next TextLineStart) es) (sym (line-ending-read g text events p s at))
            (goes-next g text m ss [] (p + 1) ending (counts local) [] TextLineStart next es
            (read.2 es
            (subst (λ q. EndsWith g text m (between_items q Nothing false (ending ++ leaf g.bytes SpaceOrTab (take n ss)) read.0) [] (Next TextBefore) es) (sym place)
            (subst (λ l. EndsWith g text m (between_items (p + (1 + n)) Nothing false l read.0) [] (Next TextBefore) es) (sym made) h))))),
      )
