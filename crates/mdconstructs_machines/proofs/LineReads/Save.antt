-- The machine that saves its place passes the first line, goes back to where it ended, and reads data.
use Rattle.mdconstructs_machines.proofs.LineReads.Reads.{joined-first}
use Rattle.mdconstructs_machines.proofs.Prelude.{◌≡◌, ℕ, ◌+◌, ◌∷◌, [], List, Bool, true, false, cond, refl, sym, ◌∙◌, ap, subst, Some, None, drop, flat_map, drop-next, Name, Next, Retry, TextStart, TextBefore, DataStart, Seat, Attempt, Nothing, Byte, End, with_local, Given, Text, Configuration, Local, Step, Sight, whole_text, is_line_ending, joined, lines_in, data_line, data_events, save_events, IsReadAs, save_rules, line_ending, other, counts}
use Rattle.mdconstructs_machines.specs.Save.{text_start_rows, text_before_rows}
use Rattle.mdconstructs_machines.proofs.LineReads.Data.{data-read}
use Rattle.mdconstructs_machines.proofs.LineReads.Steps.{goes-back, shows-events, EndsWith, held, shows, ended, goes-next, reads-from, at-front, has_events}
use Rattle.mdconstructs_machines.proofs.LineReads.Rows.{leads-row, waits_class, is-class}

module _ (g : Given) (text : Text) where
  abbrev step : Sight → Configuration Unit Unit → Name → Step Unit Unit
  step = (save_rules g).step

  -- after the line ending an attempt is made, which fails
  behind-first : (l : List Seat) (p : ℕ) (local : Local Unit Unit) → drop p text.seats ≡ l
      → EndsWith g text step (held [] p Nothing false [] local) (record { kind = Attempt; ok = Next DataStart; nok = Next DataStart; saved = Some (record { position = p; ended = false; events = 0; stack = [] }) } ∷ []) (Next TextBefore) (data_events g.bytes l)
  behind-first l p local here =
      let k = shows l [] p false [] local in
      goes-next has_events g text step l [] p false [] local _ TextBefore here (data_events g.bytes l)
      (leads-row g text step TextBefore text_before_rows (λ k. refl) k _ (waits_class g text k) refl (data_events g.bytes l)
      (goes-back g text step Attempt (Next DataStart) DataStart p false 0 [] [] [] (data_events g.bytes l)
      (λ local. data-read g text step (record { start = λ k. refl; inside = λ k. refl }) l p false [] local here) (with_local k (counts k.local)) (shows-events l [] p false [] local)))

  -- in the first line
  in-first : (l : List Seat) (p : ℕ) (b : Bool) (local : Local Unit Unit) → drop p text.seats ≡ l → EndsWith g text step (shows l [] p b [] local) [] (Retry TextStart) (save_events g.bytes l)
  in-first [] p b local here = leads-row g text step TextStart text_start_rows (λ k. refl) (held [] p End true [] local) [] None refl [] (ended g text step (held [] p End true [] (counts local)))
  in-first (s ∷ ss) p b local here =
      let at = at-front text.seats p s ss here in
      let next = drop-next text.seats p s ss here in
      let k = held [] p Byte b [] local in
      let saved = λ (b : Bool). flat_map (data_line g.bytes) (drop 1 (cond b ((s ∷ []) ∷ lines_in ss) (joined s (lines_in ss)))) in
      elim (is_line_ending s) as (λ t. is_line_ending s ≡ t → EndsWith g text step k [] (Retry TextStart) (save_events g.bytes (s ∷ ss))) [
        | true ↦ λ e.
            subst (EndsWith g text step k [] (Retry TextStart)) (sym (ap saved e))
            (leads-row g text step TextStart text_start_rows (λ k. refl) k [] (Some line_ending) (is-class g text p s true at e) (data_events g.bytes ss) (behind-first ss (p + 1) (counts local) next))
        | false ↦ λ e.
            subst (EndsWith g text step k [] (Retry TextStart)) (sym (ap saved e ∙ ap (flat_map (data_line g.bytes)) (joined-first s (lines_in ss))))
            (leads-row g text step TextStart text_start_rows (λ k. refl) k [] (Some other) (is-class g text p s false at e) (save_events g.bytes ss)
            (goes-next has_events g text step ss [] (p + 1) false [] (counts local) [] TextStart next (save_events g.bytes ss) (in-first ss (p + 1) false (counts local) next)))
      ] refl

pub save-reads : IsReadAs save_rules TextStart save_events
save-reads = reads-from save_rules TextStart save_events (λ g local. in-first g (whole_text g) (whole_text g).seats 0 false local refl)
