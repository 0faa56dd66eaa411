-- Turns: what one turn does, that they are kept on a longer text, and that they come to one stand.
use Rattle.markdown_tokenizer.proofs.Prelude.{◌≡◌, ◌+◌, ◌≤◌, ◌<◌, ◌↔◌, ◌∙◌, ℕ, nat_lt, List, [], ◌∷◌, ◌++◌, true, false, Option, Some, None, inl, inr, length, refl, sym, ap, arith, subst, ltb-true, lt-ltb, le-ltb, is_some, false≢true, slice_get_cases, slice_get-get_or, Name, State, Next, Retry, Ok, Nok, Error, Seat, Waits, Nothing, Byte, End, Given, Text, Configuration, Choice, Step, TokenizerValue, Sight, sight, byte_of, current_of, fed, settled_at, EndsIn, settled_all, Stops, Stand, stand, turn, Turns, no_turn, one_turn, EndsFrom, AreCalledAlike}
use Rattle.std.proofs.lemmas.Option.{cond_some}
use Rattle.markdown_tokenizer.specs.Reading.{Reading}
use Rattle.markdown_tokenizer.specs.Turns.{TurnsAreKept}
use Rattle.markdown_tokenizer.proofs.Readings.Bounds.{fed-ends, called-ends, settled-ok-ends, settled-nok-ends}

-- a byte is seen exactly if one waits and the text has it
pub seen-waits : (text : Text) (p : ℕ) (waits : Waits) → is_some (current_of text p waits) ≡ true → (waits ≡ Byte) × (p < length text.seats)
seen-waits text p Nothing e = absurd cc
seen-waits text p Byte e = (
  refl,
  elim (slice_get_cases text.seats p).1 [
    | inl found ↦ found.1
    | inr past ↦ absurd (false≢true (subst (λ (o : Option Seat). is_some (byte_of o) ≡ true) past.1 e))
  ],
)
seen-waits text p End e = absurd cc

pub waits-seen : (text : Text) (p : ℕ) (waits : Waits) → waits ≡ Byte → p < length text.seats → is_some (current_of text p waits) ≡ true
waits-seen text p waits e less = rw (e, slice_get-get_or text.seats p (record { byte = 0; point = text.start; end = text.start }) less) refl

-- the next byte is fed
pub turn-feeds : {R D : Type 0} (g : Given) (step : Sight → Configuration R D → Name → Step R D) (text : Text) (k : Configuration R D) (cs : List Choice) (n : Name) (calls : ℕ)
    → k.position < length text.seats → turn g step text k cs (Next n) calls ≡ Some (stand (fed text k) cs (Retry n) calls)
turn-feeds g step text k cs n calls less = rw (lt-ltb k.position (length text.seats) less) refl

-- a state is called
pub turn-calls : {R D : Type 0} (g : Given) (step : Sight → Configuration R D → Name → Step R D) (text : Text) (k : Configuration R D) (cs : List Choice) (n : Name) (calls : ℕ)
    → is_some (sight g text k).current ≡ true
    → (let s = step (sight g text k) k n in turn g step text k cs (Retry n) calls ≡ Some (stand s.configuration (s.choices ++ cs) s.answer (calls + 1)))
turn-calls g step text k cs n calls sees = rw sees refl

module _ {R D : Type 0} (g : Given) (step : Sight → Configuration R D → Name → Step R D) (text : Text) where
  -- turns, and then turns
  pub turns-on : {a b c : Stand R D} → Turns g step text a b → Turns g step text b c → Turns g step text a c
  turns-on no_turn more = more
  turns-on (one_turn e first) more = one_turn e (turns-on first more)

  -- turns, and then one turn
  pub turns-by-one : {a b c : Stand R D} → Turns g step text a b → turn g step text b.configuration b.choices b.state b.calls ≡ Some c → Turns g step text a c
  turns-by-one first e = turns-on first (one_turn e no_turn)

  -- choices end, until one goes on with a state, or none is left
  pub turns-settled : (k : Configuration R D) (cs : List Choice) (s : State) (calls : ℕ)
      → (let e = settled_all k cs s in Turns g step text (stand k cs s calls) (stand e.configuration e.choices e.answer calls))
  turns-settled k cs (Next n) calls = no_turn
  turns-settled k cs (Retry n) calls = no_turn
  turns-settled k cs (Error m) calls = no_turn
  turns-settled k [] Ok calls = no_turn
  turns-settled k [] Nok calls = no_turn
  turns-settled k (c ∷ cs) Ok calls = one_turn refl (turns-settled (settled_at c.kind c.saved Ok k) cs c.ok calls)
  turns-settled k (c ∷ cs) Nok calls = one_turn refl (turns-settled (settled_at c.kind c.saved Nok k) cs c.nok calls)

  -- where the work stops before the end is fed, no turn is left
  pub stops-used-up : {M : Type 0} (t : TokenizerValue M R D) (s : State) → t.text ≡ text → Stops false t s → turn g step text t.configuration t.choices s t.calls ≡ None
  stops-used-up t (Next n) is stops = rw (le-ltb t.configuration.position (length text.seats) (subst (λ (x : Text). length x.seats ≤ t.configuration.position) is stops.1)) refl
  stops-used-up t (Retry n) is stops = absurd stops
  stops-used-up t Ok is stops = rw stops refl
  stops-used-up t Nok is stops = rw stops refl
  stops-used-up t (Error m) is stops = refl

  -- turns come to one stand: two stands to which they lead, and from which no turn is left, are the same
  pub one-stand : {a b c : Stand R D} → Turns g step text a b → turn g step text b.configuration b.choices b.state b.calls ≡ None
      → Turns g step text a c → turn g step text c.configuration c.choices c.state c.calls ≡ None → b ≡ c
  one-stand no_turn last no_turn end = refl
  one-stand no_turn last (one_turn {b = x} e more) end = let f : None ≡ Some x = sym last ∙ e in absurd cc
  one-stand (one_turn {b = x} e more) last no_turn end = let f : None ≡ Some x = sym end ∙ e in absurd cc
  one-stand {c = c} (one_turn {b = x} e more) last (one_turn {b = y} f others) end =
      let both : Some y ≡ Some x = sym f ∙ e in let same : y ≡ x = cc in
      one-stand more last (subst (λ (q : Stand R D). Turns g step text q c) same others) end

-- calls on a longer text are alike
module _ {R D : Type 0} (g h : Given) (one other : Sight → Configuration R D → Name → Step R D) (short long : Text) (alike : AreCalledAlike g h one other short long) where
  turn-kept : (k : Configuration R D) (cs : List Choice) (s : State) (calls : ℕ) (b : Stand R D) → turn g one short k cs s calls ≡ Some b → turn h other long k cs s calls ≡ Some b
  turn-kept k cs (Next n) calls b e =
      let p = cond_some (nat_lt k.position (length short.seats)) (stand (record k { waiting = Byte }) cs (Retry n) calls) b e in
      let less = ltb-true k.position (length short.seats) p.0 in let longer = alike.longer in
      let there = lt-ltb k.position (length long.seats) (omega (arith, less, longer)) in
      rw there (ap Some p.1)
  turn-kept k cs (Retry n) calls b e =
      let s : Step R D = one (sight g short k) k n in
      let p = cond_some (is_some (sight g short k).current) (stand s.configuration (s.choices ++ cs) s.answer (calls + 1)) b e in
      let waits = seen-waits short k.position k.waiting p.0 in let longer = alike.longer in
      let there : is_some (sight h long k).current ≡ true = waits-seen long k.position k.waiting waits.0 (omega (arith, waits.1, longer)) in
      let same : other (sight h long k) k n ≡ s = sym (alike.alike k n p.0) in
      turn-calls h other long k cs n calls there ∙ ap (λ (q : Step R D). Some (stand q.configuration (q.choices ++ cs) q.answer (calls + 1))) same ∙ ap Some p.1
  turn-kept k (c ∷ cs) Ok calls b e = e
  turn-kept k (c ∷ cs) Nok calls b e = e
  turn-kept k [] Ok calls b e = absurd (cc)
  turn-kept k [] Nok calls b e = absurd (cc)
  turn-kept k cs (Error m) calls b e = absurd (cc)

  pub turns-kept : {a b : Stand R D} → Turns g one short a b → Turns h other long a b
  turns-kept no_turn = no_turn
  turns-kept (one_turn {a = a} {b = b} e more) = one_turn (turn-kept a.configuration a.choices a.state a.calls b e) (turns-kept more)

module _ {R D : Type 0} (g : Given) (step : Sight → Configuration R D → Name → Step R D) (text : Text) where
  -- reading on from after a turn ends as reading on from before it
  turn-ends : (k : Configuration R D) (cs : List Choice) (s : State) (calls : ℕ) (b : Stand R D) → turn g step text k cs s calls ≡ Some b
      → (r : Reading R D) → EndsFrom g step text b r ↔ EndsFrom g step text (stand k cs s calls) r
  turn-ends k cs (Next n) calls b e r =
      let p = cond_some (nat_lt k.position (length text.seats)) (stand (record k { waiting = Byte }) cs (Retry n) calls) b e in
      let feeds : fed text k ≡ record k { waiting = Byte } = rw p.0 refl in
      let first = subst (λ (q : Configuration R D). EndsIn g step text calls q cs (Retry n) r ↔ EndsIn g step text calls k cs (Next n) r) feeds (fed-ends g step text calls k cs n r) in
      subst (λ (y : Stand R D). EndsFrom g step text y r ↔ EndsFrom g step text (stand k cs (Next n) calls) r) p.1 first
  turn-ends k cs (Retry n) calls b e r =
      let s : Step R D = step (sight g text k) k n in
      let p = cond_some (is_some (sight g text k).current) (stand s.configuration (s.choices ++ cs) s.answer (calls + 1)) b e in
      subst (λ (y : Stand R D). EndsFrom g step text y r ↔ EndsFrom g step text (stand k cs (Retry n) calls) r) p.1 (called-ends g step text calls k cs n r)
  turn-ends k (c ∷ cs) Ok calls b e r =
      let is : stand (settled_at c.kind c.saved Ok k) cs c.ok calls ≡ b = cc in
      subst (λ (y : Stand R D). EndsFrom g step text y r ↔ EndsFrom g step text (stand k (c ∷ cs) Ok calls) r) is (settled-ok-ends g step text calls k c cs r)
  turn-ends k (c ∷ cs) Nok calls b e r =
      let is : stand (settled_at c.kind c.saved Nok k) cs c.nok calls ≡ b = cc in
      subst (λ (y : Stand R D). EndsFrom g step text y r ↔ EndsFrom g step text (stand k (c ∷ cs) Nok calls) r) is (settled-nok-ends g step text calls k c cs r)
  turn-ends k [] Ok calls b e r = absurd (cc)
  turn-ends k [] Nok calls b e r = absurd (cc)
  turn-ends k cs (Error m) calls b e r = absurd (cc)

  turns-end : {a b : Stand R D} → Turns g step text a b → (r : Reading R D) → EndsFrom g step text b r ↔ EndsFrom g step text a r
  turns-end no_turn r = ((λ x. x), (λ x. x))
  turns-end (one_turn {a = a} {b = b} e more) r =
      let first = turn-ends a.configuration a.choices a.state a.calls b e r in
      let rest = turns-end more r in
      ((λ x. first.0 (rest.0 x)), (λ x. rest.1 (first.1 x)))

pub turns-are-kept : {R D : Type 0} → TurnsAreKept R D
turns-are-kept g h one other short long alike a b turns =
    let there = turns-kept g h one other short long alike turns in (there, turns-end h other long there)
