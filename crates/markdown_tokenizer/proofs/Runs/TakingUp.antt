-- The work from the start to a turn: what holds at a call, and after it.
use Rattle.markdown_tokenizer.proofs.Prelude.{◌≡◌, ◌≢◌, ◌-◌, ◌<◌, List, [], Bool, false, inl, inr, refl, sym, ap, subst, ◌∙◌, arith, Name, State, Next, Retry, Ok, Nok, Error, Nothing, Byte, End, IsSome, lt-ltb, length, Given, IsText, followed_by_all, Configuration, Choice, TokenizerValue, at_configuration, fed, Sight, sight, Rules, stepped, DidStep, IsLawful, LeadsOn, budget, HoldsAll, Stops, settled_all, settled_to, EndsClosed, TakesUp, IsInText, answer_in, Waits, no_turn, ◌≤◌, Step, step_over, step_noted, over_one, noted_one, IsOver, IsPair, HasReadOver, none_over, one_over, two_over}
use Rattle.std.specs.declared.result.Result.TheVariants as result
use Rattle.markdown_tokenizer.proofs.Readings.Bounds.{fed-ends, called-ends}
use Rattle.markdown_tokenizer.proofs.Readings.Turns.{turns-by-one, turns-on, turns-settled, turn-feeds, turn-calls, waits-seen}
use Rattle.markdown_tokenizer.proofs.Runs.Over.{over-counts}
use Rattle.markdown_tokenizer.proofs.Runs.Working.{Kept, fed-agrees, sight-agrees, leads-refl, leads-trans, leads-settled, settled-end, settled-ends, text-on, text-worked}

-- what waits is a byte if it is neither nothing nor the end
waits-byte : (waits : Waits) → waits ≢ Nothing → waits ≢ End → waits ≡ Byte
waits-byte Nothing h e = absurd (h refl)
waits-byte Byte h e = refl
waits-byte End h e = absurd (e refl)

module _ {M R D : Type 0} {rules : M → Given → Rules R D} (laws : (m : M) (given : Given) → IsLawful given (rules m given)) where
  -- what the work kept since its start
  abbrev KeptFrom : Bool → TokenizerValue M R D → State → TokenizerValue M R D → State → Type 0
  KeptFrom flush t a u s = Kept t.given (rules t.machine t.given) flush t a u s

  -- what a call of this state did
  abbrev DidCall : TokenizerValue M R D → TokenizerValue M R D → Name → State → Type 0
  DidCall u v n answer = DidStep u v ((rules u.machine u.given).step (sight u.given u.text u.configuration) u.configuration n) answer

  pub kept-first : (flush : Bool) (t : TokenizerValue M R D) (a : State) → (flush ≡ false → t.configuration.waiting ≢ End) → HoldsAll (rules t.machine t.given) flush t a → KeptFrom flush t a t a
  kept-first flush t a waits h = record {
    same = record { given = refl; machine = refl; text = refl; closed = refl; phase = refl; counted = omega arith };
    message = λ m e. (e, refl);
    waits = waits;
    leads = λ rest can only. leads-refl t.given (rules t.machine t.given) (followed_by_all t.given t.text rest) t a (h rest can only);
    comes = λ f. no_turn;
  }

  -- a state is taken up
  taken : (flush : Bool) (t u v : TokenizerValue M R D) (a s : State) (n : Name) → IsText t.given u.text → TakesUp flush u v s (result.Ok n) → KeptFrom flush t a u s → KeptFrom flush t a v (Retry n)
  taken flush t u v a (Next m) n is h k = rw (h.1, h.0) (record {
    same = record { given = k.same.given; machine = k.same.machine; text = k.same.text; closed = k.same.closed; phase = k.same.phase; counted = k.same.counted };
    message = λ e is_error. let f : Next m ≡ Error e = (k.message e is_error).0 in absurd cc;
    waits = λ f e. let lt = lt-ltb u.configuration.position (length u.text.seats) (h.2 f) in let e' : Byte ≡ End = rw lt at e in absurd cc;
    comes = λ f.
        turns-by-one t.given (rules t.machine t.given).step u.text (k.comes f)
        (turn-feeds t.given (rules t.machine t.given).step u.text u.configuration u.choices m u.calls (h.2 f));
    leads = λ rest can only.
        let law = laws t.machine t.given in let w = followed_by_all t.given u.text rest in
        let first = k.leads rest can only in let on = text-on t.given u.text rest is can in
        let pays = law.cost_pays.for_feeding w u.configuration u.choices m on first.kept in
        leads-trans t.given (rules t.machine t.given) w t u (at_configuration u (fed u.text u.configuration)) a (Next m) (Retry m) first
        (subst (λ (q : Configuration R D). LeadsOn t.given (rules t.machine t.given) w u (Next m) (at_configuration u q) (Retry m)) (fed-agrees t.given u.text rest flush u.configuration only h.2)
        (record {
          kept = law.invariant_kept.by_feeding w u.configuration u.choices m on first.kept;
          same = λ r. fed-ends t.given (rules t.machine t.given).step w u.calls u.configuration u.choices m r;
          paid = omega (arith, pays);
        }));
  })
  taken flush t u v a (Retry m) n is h k = rw (h.1, h.0) k
  taken flush t u v a s n is h k = absurd h

  taken-calls : (flush : Bool) (u v : TokenizerValue M R D) (s : State) (n : Name) → TakesUp flush u v s (result.Ok n) → v.calls ≡ u.calls
  taken-calls flush u v (Next m) n h = ap (λ w. w.calls) h.1
  taken-calls flush u v (Retry m) n h = ap (λ w. w.calls) h.1
  taken-calls flush u v s n h = absurd h

  -- the work ends
  ended : (flush : Bool) (t u v : TokenizerValue M R D) (a s answer : State) → (IsSome (answer_in s) → u.choices ≡ []) → TakesUp flush u v s (result.Err answer) → KeptFrom flush t a u s
      → KeptFrom flush t a v answer × Stops flush v answer
  ended flush t u v a (Next n) answer none h k = rw (h.0, h.1) (k, (h.2, h.3))
  ended flush t u v a (Retry n) answer none h k = absurd h
  ended flush t u v a (Error n) answer none h k = rw (h.0, h.1) (k, tt)
  ended flush t u v a s answer none h k = rw (h.0, h.1) (k, none refl)

  pub holds-there : {flush : Bool} {t u : TokenizerValue M R D} {a s : State} → KeptFrom flush t a u s → (rules u.machine u.given).holds u.text u.configuration u.choices s
  holds-there {flush} {t} {u} {a} {s} k = let machine = k.same.machine in let given = k.same.given in rw (machine, given) ((k.leads [] tt (λ _. refl)).kept)

  -- a state is called, and returned this
  kept-called : {flush : Bool} {t u v : TokenizerValue M R D} {a s answer : State} {n : Name} → IsText t.given t.text → KeptFrom flush t a u (Retry n)
      → u.configuration.position ≤ length u.text.seats → (u.configuration.waiting ≡ Byte → u.configuration.position < length u.text.seats)
      → DidCall u v n answer → answer ≡ s → KeptFrom flush t a v s
  kept-called {flush} {t} {u} {v} {a} {s} {answer} {n} is k within there called e =
      let law = laws t.machine t.given in let is_here = text-worked t.given t u is k.same in
      let st = (rules t.machine t.given).step (sight t.given u.text u.configuration) u.configuration n in
      let did : DidStep u v st s = subst (λ (q : M). DidStep u v ((rules q t.given).step (sight t.given u.text u.configuration) u.configuration n) s) k.same.machine
      (subst (λ (q : Given). DidStep u v ((rules u.machine q).step (sight q u.text u.configuration) u.configuration n) s) k.same.given (subst (λ (x : State). DidCall u v n x) e called)) in
      let now = (k.leads [] tt (λ _. refl)).kept in rw (did.became, did.answered) (record {
        same = record { given = k.same.given; machine = k.same.machine; text = k.same.text; closed = k.same.closed; phase = k.same.phase; counted = omega (arith, k.same.counted) };
        message = λ m is_error. let f : Retry n ≡ Error m = (k.message m is_error).0 in absurd cc;
        waits = λ f ends. k.waits f (elim (law.consumes_once u.text u.configuration u.choices n is_here now) [
          | inl same ↦ sym same.0.1 ∙ ends
          | inr consumed ↦ let g : Nothing ≡ End = sym consumed.1.1 ∙ ends in absurd cc
        ]);
        comes = λ f.
            let byte = waits-byte u.configuration.waiting (law.invariant_kept.waits u.text u.configuration u.choices n is_here now) (k.waits f) in
            turns-by-one t.given (rules t.machine t.given).step u.text (k.comes f)
            (turn-calls t.given (rules t.machine t.given).step u.text u.configuration u.choices n u.calls
            (waits-seen u.text u.configuration.position u.configuration.waiting byte (there byte)));
        leads = λ rest can only.
            let w = followed_by_all t.given u.text rest in
            let first = k.leads rest can only in let on = text-on t.given u.text rest is_here can in
            let pays = law.cost_pays.for_calls w u.configuration u.choices n on first.kept in
            leads-trans t.given (rules t.machine t.given) w t u (stepped u st) a (Retry n) st.answer first
            (subst (λ (q : Sight). let here = (rules t.machine t.given).step q u.configuration n in LeadsOn t.given (rules t.machine t.given) w u (Retry n) (stepped u here) here.answer)
            (sight-agrees t.given u.text rest flush u.configuration.position u.configuration.waiting only within there k.waits)
            (record {
              kept = law.invariant_kept.by_calls w u.configuration u.choices n on first.kept;
              same = λ r. called-ends t.given (rules t.machine t.given).step w u.calls u.configuration u.choices n r;
              paid = omega (arith, pays);
            }));
      })

  pub kept-answer : {flush : Bool} {t u v : TokenizerValue M R D} {a s answer : State} {n : Name} → IsText t.given t.text → KeptFrom flush t a u (Retry n) → IsInText u
      → DidCall u v n answer → answer ≡ s → KeptFrom flush t a v s
  kept-answer is k sound called e = kept-called is k sound.within sound.byte called e

  module _ {flush : Bool} {t u : TokenizerValue M R D} {a s : State} (is : IsText t.given t.text) (k : KeptFrom flush t a u s) where
    is-text : IsText t.given u.text
    is-text = text-worked t.given t u is k.same

    -- choices end
    settled : let e = settled_all u.configuration u.choices s in KeptFrom flush t a (settled_to u e) e.answer
    settled =
        let e = settled_all u.configuration u.choices s in record {
          same = record { given = k.same.given; machine = k.same.machine; text = k.same.text; closed = k.same.closed; phase = k.same.phase; counted = k.same.counted };
          message = λ m is_error. let now = k.message m is_error in let error = now.0 in rw error (refl, now.1);
          waits = λ f ends. k.waits f (settled-end u.configuration u.choices s ends);
          comes = λ f.
              turns-on t.given (rules t.machine t.given).step u.text (k.comes f)
              (turns-settled t.given (rules t.machine t.given).step u.text u.configuration u.choices s u.calls);
          leads = λ rest can only.
              let w = followed_by_all t.given u.text rest in let first = k.leads rest can only in
              leads-trans t.given (rules t.machine t.given) w t u (settled_to u e) a s e.answer first
              (leads-settled t.given (rules t.machine t.given) (laws t.machine t.given) w (text-on t.given u.text rest is-text can) u u.configuration u.choices s first.kept);
        }

    pub kept-next : (v : TokenizerValue M R D) (n : Name) → (let e = settled_all u.configuration u.choices s in TakesUp flush (settled_to u e) v e.answer (result.Ok n))
        → KeptFrom flush t a v (Retry n)
    kept-next v n takes = let e = settled_all u.configuration u.choices s in taken flush t (settled_to u e) v a e.answer n is-text takes settled

    pub kept-last : (v : TokenizerValue M R D) (answer : State) → (let e = settled_all u.configuration u.choices s in TakesUp flush (settled_to u e) v e.answer (result.Err answer))
        → KeptFrom flush t a v answer × Stops flush v answer
    kept-last v answer takes =
        let e = settled_all u.configuration u.choices s in ended flush t (settled_to u e) v a e.answer answer (settled-ends u.configuration u.choices s) takes settled

    -- if the reading ends, no span is open
    pub closes-there : EndsClosed (settled_all u.configuration u.choices s)
    closes-there some =
        let e = settled_all u.configuration u.choices s in
        closed e.answer e.configuration some
        (subst (λ (cs : List Choice). (rules t.machine t.given).holds u.text e.configuration cs e.answer) (settled-ends u.configuration u.choices s some) ((settled.leads [] tt (λ _. refl)).kept))
      where
        closed : (answer : State) (q : Configuration R D) → IsSome (answer_in answer) → (rules t.machine t.given).holds u.text q [] answer → q.stack ≡ []
        closed Ok q some h = ((laws t.machine t.given).ends_when_read.ok u.text q is-text h).1
        closed Nok q some h = absurd ((laws t.machine t.given).ends_when_read.nok u.text q is-text h)
        closed answer q some h = absurd cc

    -- a call, after which a state is taken up, leaves fewer
    pub fewer-left : {before : TokenizerValue M R D} {answer : State} {n : Name} (w : TokenizerValue M R D) (next : Name) → DidCall before u n answer
        → (let e = settled_all u.configuration u.choices s in TakesUp flush (settled_to u e) w e.answer (result.Ok next))
        → let all = budget (rules t.machine t.given) t.text t a in all - w.calls < all - before.calls
    fewer-left w next called takes =
        let e = settled_all u.configuration u.choices s in
        let last = kept-next w next takes in
        let text = last.same.text in let paid = rw text at ((last.leads [] tt (λ _. refl)).paid) in
        let calls = taken-calls flush (settled_to u e) w e.answer next takes ∙ ap (λ q. q.calls) called.became in
        omega (arith, paid, calls)

  -- a call at the next byte has this step
  module _ {flush : Bool} {t u : TokenizerValue M R D} {a : State} {n : Name} (is : IsText t.given t.text) (k : KeptFrom flush t a u (Next n)) (more : u.configuration.position < length u.text.seats) where
    -- the byte is fed
    abbrev once_fed : TokenizerValue M R D
    once_fed = at_configuration u (fed u.text u.configuration)

    text-here : IsText u.given u.text
    text-here = let given = k.same.given in rw given (text-worked t.given t u is k.same)

    kept-fed : KeptFrom flush t a once_fed (Retry n)
    kept-fed = kept-next is k once_fed n (refl, refl, λ _. more)

    kept-step : (s : Step R D) (next : Name) → (rules u.machine u.given).step (sight u.given u.text once_fed.configuration) once_fed.configuration n ≡ s → s.answer ≡ Next next
        → KeptFrom flush t a (stepped once_fed s) (Next next)
    kept-step s next step answer =
        let did : DidCall once_fed (stepped once_fed s) n s.answer = record { answered = ap (λ (q : Step R D). q.answer) (sym step); became = ap (λ (q : Step R D). stepped once_fed q) (sym step) } in
        let seats = lt-ltb u.configuration.position (length u.text.seats) more in
        kept-called is kept-fed (rw seats (omega (arith, more))) (λ _. rw seats more) did answer

  -- a byte is read over: the state would have been called, and done the same
  kept-one : {flush : Bool} {t u : TokenizerValue M R D} {a : State} {n : Name} → IsText t.given t.text → KeptFrom flush t a u (Next n) → IsOver (rules u.machine) n u
      → KeptFrom flush t a (over_one u) (Next n)
  kept-one {flush} {t} {u} {a} {n} is k over =
      let w = fed u.text u.configuration in
      kept-step is k over.0 (step_over w n) n (over.1.2 u.text w u.choices n (text-here is k over.0) (holds-there (kept-fed is k over.0)) refl over.1.1) refl

  -- a byte is noted and read over, and so is the one behind it: two states would have been called
  kept-two : {flush : Bool} {t u : TokenizerValue M R D} {a : State} {n : Name} → IsText t.given t.text → KeptFrom flush t a u (Next n) → IsPair (rules u.machine) n u
      → KeptFrom flush t a (over_one (noted_one u)) (Next n)
  kept-two {flush} {t} {u} {a} {n} is k pair =
      let w = fed u.text u.configuration in
      let first : KeptFrom flush t a (noted_one u) (Next pair.other) =
      kept-step is k pair.more (step_noted (sight u.given u.text w) w pair.other) pair.other (pair.notes u.text w u.choices n (text-here is k pair.more) (holds-there (kept-fed is k pair.more)) refl pair.is) refl in
      let x = fed u.text (noted_one u).configuration in
      kept-step is first pair.more_behind (step_over x n) n (pair.goes_back u.text x u.choices pair.other (text-here is first pair.more_behind) (holds-there (kept-fed is first pair.more_behind)) refl pair.is_behind) refl

  -- the work leads on over all that is read over
  pub kept-over : {flush : Bool} {t u : TokenizerValue M R D} {a : State} {n : Name} {v : TokenizerValue M R D} → IsText t.given t.text → KeptFrom flush t a u (Next n)
      → HasReadOver (rules u.machine) n u v → KeptFrom flush t a v (Next n)
  kept-over is k none_over = k
  kept-over {flush} {t} {u} {a} {n} {v} is k (one_over {new = w} h over) =
      let there = kept-over is k h in let machine : u.machine ≡ w.machine = k.same.machine ∙ sym there.same.machine in
      kept-one is there (subst (λ (m : M). IsOver (rules m) n w) machine over)
  kept-over {flush} {t} {u} {a} {n} {v} is k (two_over {new = w} h pair) =
      let there = kept-over is k h in let machine : u.machine ≡ w.machine = k.same.machine ∙ sym there.same.machine in
      kept-two is there (subst (λ (m : M). IsPair (rules m) n w) machine pair)

  -- a call, after which bytes are read over and a state is taken up, leaves fewer
  pub fewer-over : {flush : Bool} {t before u : TokenizerValue M R D} {a answer : State} {n m : Name} (v : TokenizerValue M R D) → IsText t.given t.text → KeptFrom flush t a u (Next m)
      → DidCall before u n answer → HasReadOver (rules u.machine) m u v → (w : TokenizerValue M R D) (next : Name) → TakesUp flush v w (Next m) (result.Ok next)
      → let all = budget (rules t.machine t.given) t.text t a in all - w.calls < all - before.calls
  fewer-over {flush} {t} {before} {u} {a} {answer} {n} {m} v is k called h w next takes =
      let last = kept-next is (kept-over is k h) w next takes in
      let text = last.same.text in let paid = rw text at ((last.leads [] tt (λ _. refl)).paid) in
      let calls = taken-calls flush v w (Next m) next takes in
      let more = over-counts (rules u.machine) m h in
      let first = ap (λ q. q.calls) called.became in
      omega (arith, paid, calls, more, first)
