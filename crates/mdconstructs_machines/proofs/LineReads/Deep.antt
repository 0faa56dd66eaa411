-- The machine that tries something at every byte fails each time, and then reads data.
use Rattle.mdconstructs_machines.proofs.LineReads.Onward.{leads-step}
use Rattle.mdconstructs_machines.proofs.Prelude.{◌≡◌, ℕ, ◌+◌, ◌∷◌, [], List, Bool, true, false, refl, ◌∙◌, ap, Some, None, drop, drop-next, Event, Name, Next, Retry, StringStart, StringBefore, DataStart, Seat, Attempt, Byte, End, Given, Text, Configuration, Local, Choice, Step, Sight, byte_of, seat_before, whole_text, class_of, deep_rules, data_events, IsReadAs, line_byte, counts}
use Rattle.mdconstructs_machines.specs.Deep.{deep, string_start_rows}
use Rattle.mdconstructs_machines.proofs.LineReads.Data.{data-read}
use Rattle.mdconstructs_machines.proofs.LineReads.Rest.{deep-rest}
use Rattle.mdconstructs_machines.proofs.LineReads.Steps.{FailsTo, goes-back, look-fails, seat-behind, EndsWith, held, shows, ended, goes-next, reads-from, at-front, has_events}
use Rattle.mdconstructs_machines.proofs.LineReads.Rows.{row_step, waits_class, byte-class}

module _ (g : Given) (text : Text) where
  abbrev step : Sight → Configuration Unit Unit → Name → Step Unit Unit
  step = (deep_rules g).step

  -- what is tried fails
  fails : (l : List Seat) (p : ℕ) (b : Bool) (local : Local Unit Unit) → drop p text.seats ≡ l → (cs : List Choice) (all : List Event) → FailsTo g text step cs [] all → EndsWith g text step (shows l [] p b [] local) cs (Retry StringBefore) all
  fails l p b local here = look-fails g text step deep (λ name state is s k. refl) [] [] l p b local StringBefore here (deep-rest g text [] [] l (byte_of (seat_before text p)) p b local).1

  -- from a byte on that is not the first, whatever waits
  tries : (l : List Seat) (p : ℕ) (b : Bool) (local : Local Unit Unit) (r : Seat) → drop p text.seats ≡ l → seat_before text p ≡ Some r
      → (cs : List Choice) (all : List Event) → FailsTo g text step cs [] all → EndsWith g text step (shows l [] p b [] local) cs (Retry StringStart) all
  tries [] p b local r here behind cs all back =
      let k = held [] p End true [] local in
      leads-step has_events g text step k cs StringStart (row_step g text k (string_start_rows (Some (line_byte r.byte)) None))
      (ap (λ c. row_step g text k (string_start_rows c None)) (ap (λ o. class_of line_byte (byte_of o)) behind)) all
      (back (held [] p End true [] (counts local)) refl)
  tries (s ∷ ss) p b local r here behind cs all back =
      let k = held [] p Byte b [] local in
      let at = at-front text.seats p s ss here in
      let next = drop-next text.seats p s ss here in
      leads-step has_events g text step k cs StringStart (row_step g text k (string_start_rows (Some (line_byte r.byte)) (Some (line_byte s.byte))))
      (ap (λ c. row_step g text k (string_start_rows c (waits_class g text k))) (ap (λ o. class_of line_byte (byte_of o)) behind)
      ∙ ap (λ c. row_step g text k (string_start_rows (Some (line_byte r.byte)) c)) (byte-class g text p s at)) all
      (goes-next has_events g text step ss [] (p + 1) false [] (counts local) _ StringStart next all
      (tries ss (p + 1) false (counts local) s next (seat-behind text p s at) _ all
      (goes-back g text step Attempt (Next StringBefore) StringBefore p b 0 [] cs [] all
      (λ local. goes-next has_events g text step (s ∷ ss) [] p b [] local cs StringBefore here all (fails (s ∷ ss) p b local here cs all back)))))

  -- from the start
  from-start : (l : List Seat) (local : Local Unit Unit) → drop 0 text.seats ≡ l → EndsWith g text step (shows l [] 0 false [] local) [] (Retry StringStart) (data_events g.bytes l)
  from-start [] local here =
      let k = held [] 0 End true [] local in
      leads-step has_events g text step k [] StringStart (row_step g text k (string_start_rows None None)) refl [] (ended g text step (held [] 0 End true [] (counts local)))
  from-start (s ∷ ss) local here =
      let k = held [] 0 Byte false [] local in
      let all = data_events g.bytes (s ∷ ss) in
      let at = at-front text.seats 0 s ss here in
      let next = drop-next text.seats 0 s ss here in
      leads-step has_events g text step k [] StringStart (row_step g text k (string_start_rows None (Some (line_byte s.byte))))
      (ap (λ c. row_step g text k (string_start_rows None c)) (byte-class g text 0 s at)) all
      (goes-next has_events g text step ss [] (0 + 1) false [] (counts local) _ StringStart next all
      (tries ss (0 + 1) false (counts local) s next (seat-behind text 0 s at) _ all
      (goes-back g text step Attempt (Next DataStart) DataStart 0 false 0 [] [] [] all
      (λ local. data-read g text step (record { start = λ k. refl; inside = λ k. refl }) (s ∷ ss) 0 false [] local here))))

pub deep-reads : IsReadAs deep_rules StringStart data_events
deep-reads = reads-from deep_rules StringStart data_events (λ g local. from-start g (whole_text g) (whole_text g).seats local refl)
