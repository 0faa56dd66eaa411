-- How a machine reads on, in small steps: to come to an ending of which this is asked it is enough to come to it from further on.
pub use Rattle.mdconstructs_tables.proofs.Looks.Left.{at-front, past-end}
use Rattle.mdconstructs_machines.proofs.Prelude.{◌≡◌, ℕ, ◌+◌, ◌∷◌, ◌++◌, [], List, Bool, true, cond, Some, refl, sym, ap, subst, arith, length, drop, lt-ltb, le-ltb, slice_get_within, Event, Name, State, Next, Retry, Ok, Nok, Seat, Waits, Nothing, Byte, End, Given, Text, Configuration, Local, Choice, Step, Sight, sight, Reading, EndsIn, fed, settled_at, called-ends, fed-ends, settled-nok-ends, EventName, settled-ok-ends}

-- a configuration with these spans open
abbrev pub held : List EventName → ℕ → Waits → Bool → List Event → Local Unit Unit → Configuration Unit Unit
held stack p waits ended events local = record { position = p; waiting = waits; ended = ended; events = events; stack = stack; local = local }

-- one in which the first of the bytes that are left waits, or the end
abbrev pub shows : List Seat → List EventName → ℕ → Bool → List Event → Local Unit Unit → Configuration Unit Unit
shows [] stack p ended events local = held stack p End true events local
shows (s ∷ ss) stack p ended events local = held stack p Byte ended events local

-- what is fed
pub stands : (g : Given) (text : Text) (l : List Seat) (stack : List EventName) (p : ℕ) (ended : Bool) (events : List Event) (local : Local Unit Unit) → drop p text.seats ≡ l
    → fed text (held stack p Nothing ended events local) ≡ shows l stack p ended events local
stands g text [] stack p ended events local at =
    ap (λ t. cond t (held stack p Byte ended events local) (held stack p End true events local)) (le-ltb p (length text.seats) (past-end text.seats p at))
stands g text (s ∷ ss) stack p ended events local at =
    ap (λ t. cond t (held stack p Byte ended events local) (held stack p End true events local)) (lt-ltb p (length text.seats) (slice_get_within text.seats p s (at-front text.seats p s ss at)))

module _ {E : Type 0} (Asked : E → Configuration Unit Unit → Type 0) (g : Given) (text : Text) (step : Sight → Configuration Unit Unit → Name → Step Unit Unit) where
  -- reading on ends in Ok, as is asked
  abbrev pub Ends : Configuration Unit Unit → List Choice → State → E → Type 0
  Ends k cs s e = (calls : ℕ) → (r : Reading Unit Unit) × (EndsIn g step text calls k cs s r × (r.answer ≡ Ok) × Asked e r.configuration)

  -- what the second ends with the first does too
  abbrev pub Goes : (k : Configuration Unit Unit) (cs : List Choice) (s : State) (k' : Configuration Unit Unit) (cs' : List Choice) (s' : State) → Type 0
  Goes k cs s k' cs' s' = (e : E) → Ends k' cs' s' e → Ends k cs s e

module _ {E : Type 0} (Asked : E → Configuration Unit Unit → Type 0) (g : Given) (text : Text) (step : Sight → Configuration Unit Unit → Name → Step Unit Unit) where
  -- with nothing left to do it ends
  pub ended : (k : Configuration Unit Unit) (e : E) → Asked e k → Ends Asked g text step k [] Ok e
  ended k e is calls =
      (record { configuration = k; answer = Ok; calls = calls }, (record { bound = 0; is = ap (λ n. Some (record { configuration = k; answer = Ok; calls = n })) (omega arith) }, refl, is))

  -- a call
  pub leads-called : (k : Configuration Unit Unit) (cs : List Choice) (n : Name)
      → let s = step (sight g text k) k n in Goes Asked g text step k cs (Retry n) s.configuration (s.choices ++ cs) s.answer
  leads-called k cs n e h calls =
      let it = h (calls + 1) in
      (it.0, ((called-ends g step text calls k cs n it.0).0 it.1.0, it.1.1, it.1.2))

  -- one whose step is known
  pub leads-step : (k : Configuration Unit Unit) (cs : List Choice) (n : Name) (q : Step Unit Unit) → step (sight g text k) k n ≡ q
      → Goes Asked g text step k cs (Retry n) q.configuration (q.choices ++ cs) q.answer
  leads-step k cs n q is e h =
      leads-called k cs n e (subst (λ (q : Step Unit Unit). Ends Asked g text step q.configuration (q.choices ++ cs) q.answer e) (sym is) h)

  -- a byte or the end that is fed
  pub leads-fed : (k : Configuration Unit Unit) (cs : List Choice) (n : Name) → Goes Asked g text step k cs (Next n) (fed text k) cs (Retry n)
  leads-fed k cs n e h calls =
      let it = h calls in
      (it.0, ((fed-ends g step text calls k cs n it.0).0 it.1.0, it.1.1, it.1.2))

  -- or fed later
  pub leads-unfed : (k : Configuration Unit Unit) (cs : List Choice) (n : Name) → Goes Asked g text step (fed text k) cs (Retry n) k cs (Next n)
  leads-unfed k cs n e h calls =
      let it = h calls in
      (it.0, ((fed-ends g step text calls k cs n it.0).1 it.1.0, it.1.1, it.1.2))

  -- a choice that ends with Ok, or with Nok
  pub leads-ok : (k : Configuration Unit Unit) (c : Choice) (cs : List Choice) → Goes Asked g text step k (c ∷ cs) Ok (settled_at c.kind c.saved Ok k) cs c.ok
  leads-ok k c cs e h calls =
      let it = h calls in
      (it.0, ((settled-ok-ends g step text calls k c cs it.0).0 it.1.0, it.1.1, it.1.2))

  pub leads-nok : (k : Configuration Unit Unit) (c : Choice) (cs : List Choice) → Goes Asked g text step k (c ∷ cs) Nok (settled_at c.kind c.saved Nok k) cs c.nok
  leads-nok k c cs e h calls =
      let it = h calls in
      (it.0, ((settled-nok-ends g step text calls k c cs it.0).0 it.1.0, it.1.1, it.1.2))

  -- a state that is to come is called with what is fed
  pub goes-next : (l : List Seat) (stack : List EventName) (p : ℕ) (ended : Bool) (events : List Event) (local : Local Unit Unit) (cs : List Choice) (name : Name) → drop p text.seats ≡ l
      → Goes Asked g text step (held stack p Nothing ended events local) cs (Next name) (shows l stack p ended events local) cs (Retry name)
  goes-next l stack p ended events local cs name at e h =
      leads-fed (held stack p Nothing ended events local) cs name e (subst (λ k. Ends Asked g text step k cs (Retry name) e) (sym (stands g text l stack p ended events local at)) h)
