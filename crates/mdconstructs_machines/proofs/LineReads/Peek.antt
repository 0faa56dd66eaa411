-- The machine that peeks looks over the whole text, fails, and then reads data.
use Rattle.mdconstructs_machines.proofs.Prelude.{◌≡◌, ◌∷◌, [], List, Bool, true, false, refl, drop, Name, Next, Retry, TextStart, TextBefore, DataStart, Seat, Check, Byte, End, Given, Text, Event, Choice, Configuration, Local, Step, Sight, byte_of, seat_before, whole_text, data_events, peek_rules, IsReadAs, counts}
use Rattle.mdconstructs_machines.specs.Peek.{peek, text_start_rows}
use Rattle.mdconstructs_machines.proofs.LineReads.Data.{ReadsData, data-read}
use Rattle.mdconstructs_machines.proofs.LineReads.Rest.{peek-rest}
use Rattle.mdconstructs_machines.proofs.LineReads.Steps.{FailsTo, goes-back, look-fails, EndsWith, held, shows, reads-from}
use Rattle.mdconstructs_machines.proofs.LineReads.Rows.{leads-row, waits_class}

module _ (g : Given) (text : Text) where
  abbrev step : Sight → Configuration Unit Unit → Name → Step Unit Unit
  step = (peek_rules g).step

  reads-data : ReadsData g text step
  reads-data = record { start = λ k. refl; inside = λ k. refl }

  -- the look fails
  fails : (l : List Seat) (b : Bool) (local : Local Unit Unit) → drop 0 text.seats ≡ l → (cs : List Choice) (all : List Event) → FailsTo g text step cs [] all → EndsWith g text step (shows l [] 0 b [] local) cs (Retry TextBefore) all
  fails l b local here = look-fails g text step peek (λ name state is s k. refl) [] [] l 0 b local TextBefore here (peek-rest g text [] [] l (byte_of (seat_before text 0)) 0 b local).1

  -- from the start, with what is left
  from-start : (l : List Seat) (local : Local Unit Unit) → drop 0 text.seats ≡ l → EndsWith g text step (shows l [] 0 false [] local) [] (Retry TextStart) (data_events g.bytes l)
  from-start [] local here =
      let k = held [] 0 End true [] local in
      leads-row g text step TextStart text_start_rows (λ k. refl) k [] (waits_class g text k) refl (data_events g.bytes [])
      (fails [] true (counts local) here _ (data_events g.bytes [])
      (goes-back g text step Check (Next DataStart) DataStart 0 true 0 [] [] [] (data_events g.bytes []) (λ local. data-read g text step reads-data [] 0 true [] local here)))
  from-start (s ∷ ss) local here =
      let k = held [] 0 Byte false [] local in
      leads-row g text step TextStart text_start_rows (λ k. refl) k [] (waits_class g text k) refl (data_events g.bytes (s ∷ ss))
      (fails (s ∷ ss) false (counts local) here _ (data_events g.bytes (s ∷ ss))
      (goes-back g text step Check (Next DataStart) DataStart 0 false 0 [] [] [] (data_events g.bytes (s ∷ ss)) (λ local. data-read g text step reads-data (s ∷ ss) 0 false [] local here)))

pub peek-reads : IsReadAs peek_rules TextStart data_events
peek-reads = reads-from peek_rules TextStart data_events (λ g local. from-start g (whole_text g) (whole_text g).seats local refl)
