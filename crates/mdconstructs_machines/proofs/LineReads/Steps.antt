-- How a machine reads on, in small steps: to come to these events it is enough to come to them from further on. And looks that fail.
pub use Rattle.mdconstructs_machines.proofs.LineReads.Onward.{at-front, goes-next, held, past-end, shows}
use Rattle.mdconstructs_machines.proofs.LineReads.Onward.{Ends, Goes, ended as ended-so, leads-nok}
use Rattle.mdconstructs_tables.specs.Looks.{shows as looked_at}
use Rattle.mdconstructs_machines.proofs.Prelude.{◌≡◌, ℕ, suc, ◌+◌, ◌∷◌, [], List, Bool, false, Some, refl, sym, ◌∙◌, ap, subst, arith, drop, slice_get, Event, Name, State, Next, Retry, Ok, Nok, Seat, virtual, Nothing, Given, Text, Configuration, Local, Choice, Step, start_configuration, Sight, EndsIn, Rules, whole_text, one-end, IsReadAs, EventName, take, AttemptKind, Attempt, Check, Saved, end_place, end_or, byte_of, seat_before, scan-goes, Plays, looked, scan, Table}

-- these events
abbrev pub has_events : List Event → Configuration Unit Unit → Type 0
has_events events k = k.events ≡ events

module _ (g : Given) (text : Text) (step : Sight → Configuration Unit Unit → Name → Step Unit Unit) where
  -- reading on ends in Ok with these events
  abbrev pub EndsWith : Configuration Unit Unit → List Choice → State → List Event → Type 0
  EndsWith k cs s events = Ends has_events g text step k cs s events

  -- what the second ends with the first does too
  abbrev pub Leads : (k : Configuration Unit Unit) (cs : List Choice) (s : State) (k' : Configuration Unit Unit) (cs' : List Choice) (s' : State) → Type 0
  Leads k cs s k' cs' s' = Goes has_events g text step k cs s k' cs' s'

  -- with nothing left to do it ends
  pub ended : (k : Configuration Unit Unit) → EndsWith k [] Ok k.events
  ended k = ended-so has_events g text step k k.events refl

-- A machine whose reading of each whole document ends with these events reads them
pub reads-as : (rules : Given → Rules Unit Unit) (start : Name) (events_of : List ℕ → List Seat → List Event)
    → ((g : Given) → EndsWith g (whole_text g) (rules g).step (start_configuration false) [] (Next start) (events_of g.bytes (virtual g.tab g.bytes)))
    → IsReadAs rules start events_of
reads-as rules start events_of reads g events sub document run =
    let there = reads g 0 in
    let same = one-end g (rules g).step (whole_text g) 0 (start_configuration false) [] (Next start) run.result there.0 run.ends there.1.0 in
    run.events ∙ ap (λ (k : Configuration Unit Unit). k.events) run.resolved.0 ∙ ap (λ r. r.configuration.events) same ∙ there.1.2

-- and so does one whose reading from the first byte on ends with them
pub reads-from : (rules : Given → Rules Unit Unit) (start : Name) (events_of : List ℕ → List Seat → List Event)
    → ((g : Given) (local : Local Unit Unit) → let l = (whole_text g).seats in EndsWith g (whole_text g) (rules g).step (shows l [] 0 false [] local) [] (Retry start) (events_of g.bytes l))
    → IsReadAs rules start events_of
reads-from rules start events_of reads = reads-as rules start events_of (λ g.
    let k : Configuration Unit Unit = start_configuration false in
    let l = (whole_text g).seats in
    goes-next has_events g (whole_text g) (rules g).step l [] 0 false [] k.local [] start refl (events_of g.bytes l) (reads g k.local))

-- one byte on, that byte is the one before
pub seat-behind : (text : Text) (p : ℕ) (s : Seat) → slice_get text.seats p ≡ Some s → seat_before text (p + 1) ≡ Some s
seat-behind text p s at = let one : p + 1 ≡ suc p = omega arith in ap (seat_before text) one ∙ at

pub place-behind : (text : Text) (p : ℕ) (s : Seat) → slice_get text.seats p ≡ Some s → end_place text (p + 1) ≡ s.end
place-behind text p s at = ap (end_or text.start) (seat-behind text p s at)

-- the events are as they were, whatever waits
pub shows-events : (l : List Seat) (stack : List EventName) (p : ℕ) (b : Bool) (events : List Event) (local : Local Unit Unit) → (shows l stack p b events local).events ≡ events
shows-events [] stack p b events local = refl
shows-events (s ∷ ss) stack p b events local = refl

-- what is put back
abbrev pub saved_here : ℕ → Bool → ℕ → List EventName → Saved
saved_here p b n stack = record { position = p; ended = b; events = n; stack = stack }

module _ (g : Given) (text : Text) (step : Sight → Configuration Unit Unit → Name → Step Unit Unit) where
  -- if choices fail with these events, the machine ends with those
  abbrev pub FailsTo : List Choice → (events all : List Event) → Type 0
  FailsTo cs events all = (k : Configuration Unit Unit) → k.events ≡ events → EndsWith g text step k cs Nok all

  -- a choice goes back to what it saved
  pub goes-back : (kind : AttemptKind) (ok : State) (name : Name) (p : ℕ) (b : Bool) (n : ℕ) (stack : List EventName) (cs : List Choice) (events all : List Event)
      → ((local : Local Unit Unit) → EndsWith g text step (held stack p Nothing b (take n events) local) cs (Next name) all)
      → FailsTo (record { kind = kind; ok = ok; nok = Next name; saved = Some (saved_here p b n stack) } ∷ cs) events all
  goes-back Attempt ok name p b n stack cs events all h k same =
      leads-nok has_events g text step k (record { kind = Attempt; ok = ok; nok = Next name; saved = Some (saved_here p b n stack) }) cs all
      (subst (λ es. EndsWith g text step (held stack p Nothing b (take n es) k.local) cs (Next name) all) (sym same) (h k.local))
  goes-back Check ok name p b n stack cs events all h k same =
      leads-nok has_events g text step k (record { kind = Check; ok = ok; nok = Next name; saved = Some (saved_here p b n stack) }) cs all
      (subst (λ es. EndsWith g text step (held stack p Nothing b (take n es) k.local) cs (Next name) all) (sym same) (h k.local))

  -- a look that fails: choices that fail then lead on
  look-leads : {W : Type 0} (table : Table W Unit Unit) → Plays table g step → (stack : List EventName) (events : List Event) (l : List Seat) (p : ℕ) (b : Bool) (local : Local Unit Unit) (name : Name)
      → drop p text.seats ≡ l → (scan table g text stack events 1 l (byte_of (seat_before text p)) p b local name).answer ≡ Nok
      → (cs : List Choice) (all : List Event) → FailsTo cs events all → EndsWith g text step (looked_at stack events l p b local) cs (Retry name) all
  look-leads table plays stack events l p b local name here fails cs all back calls =
      let before = byte_of (seat_before text p) in
      let r = scan table g text stack events 1 l before p b local name in
      let k = looked table g text stack events p r in
      let it = back k refl (calls + r.calls) in (
        it.0,
        (
          (scan-goes table g text step plays stack events 1 l p b before local name here refl).leads cs calls it.0
              (subst (λ a. EndsIn g step text (calls + r.calls) k cs a it.0) (sym fails) it.1.0),
          it.1.1,
          it.1.2,
        ),
      )

  pub look-fails : {W : Type 0} (table : Table W Unit Unit) → Plays table g step → (stack : List EventName) (events : List Event) (l : List Seat) (p : ℕ) (b : Bool) (local : Local Unit Unit) (name : Name)
      → drop p text.seats ≡ l → (scan table g text stack events 1 l (byte_of (seat_before text p)) p b local name).answer ≡ Nok
      → (cs : List Choice) (all : List Event) → FailsTo cs events all → EndsWith g text step (shows l stack p b events local) cs (Retry name) all
  look-fails table plays stack events [] p b local name here fails cs all back = look-leads table plays stack events [] p b local name here fails cs all back
  look-fails table plays stack events (s ∷ ss) p b local name here fails cs all back = look-leads table plays stack events (s ∷ ss) p b local name here fails cs all back
