-- The inside of a code span, as the machine of texts reads it: up to the backtick string that closes it, or to the end.
use Rattle.mdinline_text_machine.proofs.Prelude.{◌≡◌, ℕ, zero, suc, ◌+◌, ◌^◌, ◌<◌, ◌≤◌, ◌∷◌, ◌++◌, [], List, true, false, ◌==◌, refl, sym, ◌∙◌, ap, subst, cond, Option, Some, None, arith, length, take, drop, append-nil, append_assoc, drop-drop, flat_map, Event, Retry, Nok, RawTextBetween, Seat, Given, Text, Local, Choice, counts, backticks, bytes_of, drop-map}
use Rattle.mdinline_text_machine.proofs.Texts.Cutting.{drop-less}
use Rattle.mdinline_text_machine.proofs.Texts.Steps.{Plays, EndsWith, Leads, leads-seen}
use Rattle.mdinline_text_machine.proofs.CodeSpans.Found.{first_run, further}
use Rattle.mdinline_text_machine.proofs.CodeSpans.Cutting.{Cutting, cut_pieces, piece_of, cut-front}
use Rattle.mdinline_text_machine.proofs.Plain.Stretches.{shows}
use Rattle.mdinline_text_machine.proofs.CodeSpans.Parts.{Known, ReadsPieces, in_code, size_b}
use Rattle.mdinline_text_machine.proofs.CodeSpans.Plays.{PlaysCodeSpans, Remembering, between_rows}

-- Runs of backticks can be counted: the sizes that the machine compares stop growing at the greatest number there is
abbrev pub RunsAreShort : Text → Type 0
RunsAreShort text = (q : ℕ) → backticks (bytes_of (drop q text.seats)) < 2 ^ 64

module _ (g : Given) (text : Text) (m : Plays g text) (r : Remembering) (c : PlaysCodeSpans g text m r) (known : Known g text m r) (ps : Cutting) (p : ℕ) (from : Local Unit Unit) (k : ℕ) (cs : List Choice) where
  -- From between two pieces: if a backtick string closes the code span, the machine comes to it, with the events of the pieces before it;
  -- if there is none, it comes to the end, and nothing that was there before is lost
  abbrev pub Walks : (bound q : ℕ) (l : List Seat) (events : List Event) (local : Local Unit Unit) → Option ℕ → Type 0
  Walks bound q l events local None =
      (end : ℕ) × (added : List Event) × (last : Local Unit Unit) × (drop end text.seats ≡ []) × known.inside p from end last
      × Leads g text m (shows l in_code q events local) cs (Retry RawTextBetween) (shows [] in_code end (events ++ added) (r.all_noted (counts last))) cs Nok
  Walks bound q l events local (Some n') =
      (after : Local Unit Unit) × (size_b after ≡ k) × known.inside p from (q + n') after
      × Leads g text m (shows l in_code q events local) cs (Retry RawTextBetween)
      (shows (drop n' l) in_code (q + n') (events ++ flat_map (ps.events g.bytes) (cut_pieces ps bound (take n' l))) after) cs (Retry RawTextBetween)

  -- over a piece
  goes-on : (bound q : ℕ) (s : Seat) (ss : List Seat) (events : List Event) (local mid : Local Unit Unit)
      → let a = piece_of ps (s ∷ ss) in let n = ps.size a in let passed = events ++ ps.events g.bytes (a, take n (s ∷ ss)) in
      Leads g text m (shows (s ∷ ss) in_code q events local) cs (Retry RawTextBetween) (shows (drop n (s ∷ ss)) in_code (q + n) passed mid) cs (Retry RawTextBetween)
      → (o : Option ℕ) → Walks bound (q + n) (drop n (s ∷ ss)) passed mid o → Walks (suc bound) q (s ∷ ss) events local (further n o)
  goes-on bound q s ss events local mid piece None rest =
      let made = ps.events g.bytes (piece_of ps (s ∷ ss), take (ps.size (piece_of ps (s ∷ ss))) (s ∷ ss)) in (
        rest.0,
        made ++ rest.1,
        rest.2,
        rest.3,
        rest.4,
        λ es h. piece es (rest.5 es (subst (λ l. EndsWith g text m (shows [] in_code rest.0 l (r.all_noted (counts rest.2))) cs Nok es) (sym (append_assoc events made rest.1)) h)),
      )
  goes-on bound q s ss events local mid piece (Some n') rest =
      let l = s ∷ ss in
      let n = ps.size (piece_of ps l) in
      let made = ps.events g.bytes (piece_of ps l, take n l) in
      let others = flat_map (ps.events g.bytes) (cut_pieces ps bound (take n' (drop n l))) in
      let place : q + n + n' ≡ q + (n + n') = omega arith in
      let same : (events ++ made) ++ others ≡ events ++ flat_map (ps.events g.bytes) (cut_pieces ps (suc bound) (take (n + n') l)) =
      append_assoc events made others ∙ ap (λ c. events ++ flat_map (ps.events g.bytes) c) (sym (cut-front ps bound n' (n + n') s ss refl)) in (
        rest.0,
        rest.1,
        subst (λ q. known.inside p from q rest.0) place rest.2,
        λ es h.
            piece es
            (rest.3 es
            (rw (drop-drop n' n l, place, same) h)),
      )

  -- The walk, by the number of bytes that are left
  pub walks : ReadsPieces g text m r c known p from ps → RunsAreShort text → 0 < k → (bound q : ℕ) (l : List Seat) (events : List Event) (local : Local Unit Unit) → size_b local ≡ k → length l ≤ bound → drop q text.seats ≡ l → known.inside p from q local
      → Walks bound q l events local (first_run k false (bytes_of l))
  walks reads short some bound q [] events local size within at inside = (
    q,
    [],
    local,
    at,
    inside,
    λ es h. leads-seen g text m (between_rows r) (shows [] in_code q events local) cs RawTextBetween es refl refl (c.raw_text_between _) (subst (λ l. EndsWith g text m (shows [] in_code q l (r.all_noted (counts local))) cs Nok es) (append-nil events) h),
  )
  walks reads short some zero q (s ∷ ss) events local size within at inside = absurd (omega (arith, within))
  walks reads short some (suc bound) q (s ∷ ss) events local size within at inside =
      let l = s ∷ ss in
      let n = ps.size (piece_of ps l) in
      elim (backticks (bytes_of l) == k) as (λ t. (backticks (bytes_of l) == k) ≡ t → Walks (suc bound) q l events local (first_run k false (bytes_of l))) [
        | true ↦ λ e.
            let here : q + 0 ≡ q = omega arith in
            subst (Walks (suc bound) q l events local) (sym (ap (λ t. cond t (Some 0) (further 1 (first_run k (s.byte == 96) (bytes_of ss)))) e)) (
              local,
              size,
              subst (λ q. known.inside p from q local) (sym here) inside,
              λ es h.
                  rw (append-nil events, here) at h,
            )
        | false ↦ λ e.
            let it = reads q s ss events local cs at (ap (λ b. backticks (bytes_of l) == b) size ∙ e) (subst (λ c. backticks (bytes_of c) < 2 ^ 64) at (short q)) inside in
            let passed = events ++ ps.events g.bytes (piece_of ps l, take n l) in
            let less : length (drop n l) ≤ length ss = drop-less n s ss (ps.positive s.byte (bytes_of ss)) in
            let behind : drop (q + n) text.seats ≡ drop n l = sym (drop-drop n q text.seats) ∙ ap (drop n) at in
            let rest = walks reads short some bound (q + n) (drop n l) passed it.0 (it.1 ∙ size) (omega (arith, less, within)) behind it.2 in
            let found = ps.passes k some s.byte (bytes_of ss) e ∙ ap (λ b. further n (first_run k false b)) (drop-map (λ (s : Seat). s.byte) n l) in
            subst (Walks (suc bound) q l events local) (sym found) (goes-on bound q s ss events local it.0 it.3 (first_run k false (bytes_of (drop n l))) rest)
      ] refl
