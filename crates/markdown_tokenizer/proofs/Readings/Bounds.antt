-- Laws of readings: a larger bound gives the same, and calls add up.
use Rattle.markdown_tokenizer.proofs.Prelude.{◌≡◌, ℕ, zero, suc, ◌+◌, List, [], ◌∷◌, ◌++◌, refl, sym, ◌∙◌, ap, Option, Some, None, arith, add_assoc, zero-add, suc-add, ◌↔◌, Name, State, Next, Retry, Ok, Nok, Given, Text, Configuration, Choice, Step, Sight, sight, fed, settled_at, more_calls, settle, after_choices, read_step, read, outcome, EndsIn}
use Rattle.markdown_tokenizer.specs.Reading.{Reading}

-- what one function reads the other reads, with the same result
abbrev pub Grows : {R D : Type 0} → (Configuration R D → State → Option (Reading R D)) → (Configuration R D → State → Option (Reading R D)) → Type 0
Grows {R} {D} f g = (k : Configuration R D) (s : State) (r : Reading R D) → f k s ≡ Some r → g k s ≡ Some r

abbrev pub Agrees : {A : Type 0} → Option A → Option A → Type 0
Agrees {A} o p = (r : A) → o ≡ Some r → p ≡ Some r

pub more-more : {R D : Type 0} (m n : ℕ) (o : Option (Reading R D)) → more_calls m (more_calls n o) ≡ more_calls (m + n) o
more-more m n None = refl
more-more m n (Some r) = ap (λ (c : ℕ). Some (record { configuration = r.configuration; answer = r.answer; calls = c })) (sym (add_assoc m n r.calls))

pub more-zero : {R D : Type 0} (o : Option (Reading R D)) → more_calls 0 o ≡ o
more-zero None = refl
more-zero (Some r) = ap (λ (c : ℕ). Some (record { configuration = r.configuration; answer = r.answer; calls = c })) (zero-add r.calls)

pub more-agrees : {R D : Type 0} (n : ℕ) (o p : Option (Reading R D)) → Agrees o p → Agrees (more_calls n o) (more_calls n p)
more-agrees n None p h r e = cc
more-agrees n (Some q) p h r e = let f : p ≡ Some q = h q refl in rw f e

module _ {R D : Type 0} (f g : Configuration R D → State → Option (Reading R D)) (grows : Grows f g) where
  settle-agrees : (c : Choice) (k : Configuration R D) (s : State) (n : ℕ) → Agrees (settle f c (record { configuration = k; answer = s; calls = n })) (settle g c (record { configuration = k; answer = s; calls = n }))
  settle-agrees c k Ok n = more-agrees n (f (settled_at c.kind c.saved Ok k) c.ok) (g (settled_at c.kind c.saved Ok k) c.ok) (grows (settled_at c.kind c.saved Ok k) c.ok)
  settle-agrees c k Nok n = more-agrees n (f (settled_at c.kind c.saved Nok k) c.nok) (g (settled_at c.kind c.saved Nok k) c.nok) (grows (settled_at c.kind c.saved Nok k) c.nok)
  settle-agrees c k s n = λ r e. e

  pub after-agrees : (cs : List Choice) (o p : Option (Reading R D)) → Agrees o p → Agrees (after_choices f cs o) (after_choices g cs p)
  after-agrees [] o p h = h
  after-agrees (c ∷ cs) None p h = λ r e. cc
  after-agrees (c ∷ cs) (Some q) p h = λ r e.
      let e' : p ≡ Some q = h q refl in
      rw e' (after-agrees cs (settle f c q) (settle g c q) (settle-agrees c q.configuration q.answer q.calls) r e)

pub after-append : {R D : Type 0} (f : Configuration R D → State → Option (Reading R D)) (xs ys : List Choice) (o : Option (Reading R D))
    → after_choices f (xs ++ ys) o ≡ after_choices f ys (after_choices f xs o)
after-append f [] ys o = refl
after-append f (x ∷ xs) [] None = refl
after-append f (x ∷ xs) (y ∷ ys) None = refl
after-append f (x ∷ xs) ys (Some q) = after-append f xs ys (settle f x q)

settle-more : {R D : Type 0} (f : Configuration R D → State → Option (Reading R D)) (c : Choice) (m : ℕ) (k : Configuration R D) (s : State) (n : ℕ)
    → settle f c (record { configuration = k; answer = s; calls = m + n }) ≡ more_calls m (settle f c (record { configuration = k; answer = s; calls = n }))
settle-more f c m k Ok n = sym (more-more m n (f (settled_at c.kind c.saved Ok k) c.ok))
settle-more f c m k Nok n = sym (more-more m n (f (settled_at c.kind c.saved Nok k) c.nok))
settle-more f c m k s n = refl

pub after-more : {R D : Type 0} (f : Configuration R D → State → Option (Reading R D)) (cs : List Choice) (m : ℕ) (o : Option (Reading R D))
    → after_choices f cs (more_calls m o) ≡ more_calls m (after_choices f cs o)
after-more f (c ∷ cs) m (Some q) =
    ap (after_choices f cs) (settle-more f c m q.configuration q.answer q.calls) ∙ after-more f cs m (settle f c q)
after-more f cs m o = refl

module _ {R D : Type 0} (given : Given) (step : Sight → Configuration R D → Name → Step R D) (text : Text) where
  step-agrees : (f g : Configuration R D → State → Option (Reading R D)) → Grows f g → (s : Step R D) → Agrees (read_step f s) (read_step g s)
  step-agrees f g grows s =
      more-agrees 1 (after_choices f s.choices (f s.configuration s.answer)) (after_choices g s.choices (g s.configuration s.answer))
      (after-agrees f g grows s.choices (f s.configuration s.answer) (g s.configuration s.answer) (grows s.configuration s.answer))

  pub read-grows : (b : ℕ) → Grows (read given step text b) (read given step text (suc b))
  read-grows zero k (Next n) r e = cc
  read-grows zero k (Retry n) r e = cc
  read-grows (suc b) k (Next n) r e = step-agrees (read given step text b) (read given step text (suc b)) (read-grows b) (step (sight given text (fed text k)) (fed text k) n) r e
  read-grows (suc b) k (Retry n) r e = step-agrees (read given step text b) (read given step text (suc b)) (read-grows b) (step (sight given text k) k n) r e
  read-grows b k s r e = e

  -- what has the same outcome within each bound ends in the same
  ends-same : (calls : ℕ) (k l : Configuration R D) (cs ds : List Choice) (s u : State) (r : Reading R D) → ((b : ℕ) → outcome given step text b k cs s ≡ outcome given step text b l ds u)
      → EndsIn given step text calls l ds u r ↔ EndsIn given step text calls k cs s r
  ends-same calls k l cs ds s u r e =
      ((λ h. record { bound = h.bound; is = ap (more_calls calls) (e h.bound) ∙ h.is }), (λ h. record { bound = h.bound; is = ap (more_calls calls) (sym (e h.bound)) ∙ h.is }))

  -- so does a state to be fed, once the byte, or the end, waits
  pub fed-ends : (calls : ℕ) (k : Configuration R D) (cs : List Choice) (n : Name) (r : Reading R D)
      → EndsIn given step text calls (fed text k) cs (Retry n) r ↔ EndsIn given step text calls k cs (Next n) r
  fed-ends calls k cs n r = ends-same calls k (fed text k) cs cs (Next n) (Retry n) r
      (λ b. elim b as (λ (m : ℕ). outcome given step text m k cs (Next n) ≡ outcome given step text m (fed text k) cs (Retry n)) [ zero ↦ refl | suc m ↦ refl ])

  -- a choice that ends
  pub settled-ok-ends : (calls : ℕ) (k : Configuration R D) (c : Choice) (cs : List Choice) (r : Reading R D)
      → EndsIn given step text calls (settled_at c.kind c.saved Ok k) cs c.ok r ↔ EndsIn given step text calls k (c ∷ cs) Ok r
  settled-ok-ends calls k c cs r = let next = settled_at c.kind c.saved Ok k in
      ends-same calls k next (c ∷ cs) cs Ok c.ok r (λ b. ap (after_choices (read given step text b) cs) (more-zero (read given step text b next c.ok)))

  pub settled-nok-ends : (calls : ℕ) (k : Configuration R D) (c : Choice) (cs : List Choice) (r : Reading R D)
      → EndsIn given step text calls (settled_at c.kind c.saved Nok k) cs c.nok r ↔ EndsIn given step text calls k (c ∷ cs) Nok r
  settled-nok-ends calls k c cs r = let next = settled_at c.kind c.saved Nok k in
      ends-same calls k next (c ∷ cs) cs Nok c.nok r (λ b. ap (after_choices (read given step text b) cs) (more-zero (read given step text b next c.nok)))

  -- a call: what is read before it, at one more, is what is read after it, and one call more
  abbrev inner : (b c : ℕ) (cs : List Choice) → Step R D → Option (Reading R D)
  inner b c cs s = after_choices (read given step text c) cs (after_choices (read given step text b) s.choices (read given step text b s.configuration s.answer))

  pub called-ends : (calls : ℕ) (k : Configuration R D) (cs : List Choice) (n : Name) (r : Reading R D)
      → let s = step (sight given text k) k n in
      EndsIn given step text (calls + 1) s.configuration (s.choices ++ cs) s.answer r ↔ EndsIn given step text calls k cs (Retry n) r
  called-ends calls k cs n r =
      let s = step (sight given text k) k n in
      let stepped = λ (b : ℕ). after-more (read given step text (suc b)) cs 1 (after_choices (read given step text b) s.choices (read given step text b s.configuration s.answer)) in (
        (λ h. record {
          bound = suc h.bound;
          is =
              let low = read given step text h.bound in
              let mid = after_choices low s.choices (low s.configuration s.answer) in
              ap (more_calls calls) (stepped h.bound) ∙ more-more calls 1 (inner h.bound (suc h.bound) cs s)
              ∙ more-agrees (calls + 1) (after_choices low (s.choices ++ cs) (low s.configuration s.answer)) (inner h.bound (suc h.bound) cs s)
              (λ q e. after-agrees low (read given step text (suc h.bound)) (read-grows h.bound) cs mid mid (λ u k. k) q (sym (after-append low s.choices cs (low s.configuration s.answer)) ∙ e)) r h.is;
        }),
        (λ h. elim h.bound as (λ b. more_calls calls (outcome given step text b k cs (Retry n)) ≡ Some r → EndsIn given step text (calls + 1) s.configuration (s.choices ++ cs) s.answer r) [
          | zero ↦ λ e.
              let none : after_choices (read given step text zero) cs None ≡ None = elim cs as (λ ds. after_choices (read given step text zero) ds None ≡ None) [ [] ↦ refl | d ∷ ds ↦ refl ] in
              let f : None ≡ Some r = ap (more_calls calls) (sym none) ∙ e in absurd cc
          | suc b ↦ λ e. record {
            bound = suc b;
            is =
                let low = read given step text b in
                let high = read given step text (suc b) in
                let from = low s.configuration s.answer in
                let to = high s.configuration s.answer in
                more-agrees (calls + 1) (inner b (suc b) cs s) (after_choices high (s.choices ++ cs) to)
                (λ q i. after-append high s.choices cs to ∙ after-agrees high high (λ u v w j. j) cs (after_choices low s.choices from) (after_choices high s.choices to)
                (after-agrees low high (read-grows b) s.choices from to (read-grows b s.configuration s.answer)) q i) r
                (sym (more-more calls 1 (inner b (suc b) cs s)) ∙ sym (ap (more_calls calls) (stepped b)) ∙ e);
          }
        ] h.is),
      )

-- A reading has one end at most
module _ {R D : Type 0} (given : Given) (step : Sight → Configuration R D → Name → Step R D) (text : Text) where
  outcome-up : (n b : ℕ) (k : Configuration R D) (cs : List Choice) (s : State) → Agrees (outcome given step text b k cs s) (outcome given step text (n + b) k cs s)
  outcome-up zero b k cs s r e = rw (zero-add b) e
  outcome-up (suc n) b k cs s r e =
      let f = read given step text in
      let grows = read-grows given step text (n + b) in
      rw (suc-add n b) (after-agrees (f (n + b)) (f (suc (n + b))) grows cs (f (n + b) k s) (f (suc (n + b)) k s) (grows k s) r (outcome-up n b k cs s r e))

  pub one-end : (calls : ℕ) (k : Configuration R D) (cs : List Choice) (s : State) (q r : Reading R D) → EndsIn given step text calls k cs s q → EndsIn given step text calls k cs s r → q ≡ r
  one-end calls k cs s q r g h =
      let a = outcome given step text (h.bound + g.bound) k cs s in
      let first : more_calls calls a ≡ Some q = more-agrees calls (outcome given step text g.bound k cs s) a (outcome-up h.bound g.bound k cs s) q g.is in
      let swap : h.bound + g.bound ≡ g.bound + h.bound = omega arith in
      let second : more_calls calls a ≡ Some r = rw swap (more-agrees calls (outcome given step text h.bound k cs s) (outcome given step text (g.bound + h.bound) k cs s) (outcome-up g.bound h.bound k cs s) r h.is) in
      cc
