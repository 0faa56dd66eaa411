-- For a lawful machine each reading has an end, within its cost.
use Rattle.markdown_tokenizer.proofs.Prelude.{◌≡◌, ◌+◌, ◌≤◌, ℕ, zero, suc, List, [], ◌∷◌, ◌++◌, Option, Some, refl, ap, arith, Message, Name, State, Next, Retry, Ok, Nok, Error, Given, Text, IsText, Configuration, Choice, sight, fed, settled_at, more_calls, after_choices, read, EndsIn, Rules, KeepsInvariant, CostPays}
use Rattle.markdown_tokenizer.specs.Reading.{Reading}
use Rattle.markdown_tokenizer.proofs.Readings.Bounds.{fed-ends, called-ends, settled-ok-ends, settled-nok-ends}

pub error-stays : {R D : Type 0} (f : Configuration R D → State → Option (Reading R D)) (cs : List Choice) (k : Configuration R D) (m : Message) (n : ℕ)
    → after_choices f cs (Some (record { configuration = k; answer = Error m; calls = n })) ≡ Some (record { configuration = k; answer = Error m; calls = n })
error-stays f [] k m n = refl
error-stays f (c ∷ cs) k m n = error-stays f cs k m n

module _ {R D : Type 0} (given : Given) (rules : Rules R D)
    (keeps : KeepsInvariant given rules) (pays : CostPays given rules) (w : Text) (is : IsText given w) where
  abbrev Ends : ℕ → Configuration R D → List Choice → State → Type 0
  Ends n k cs s = (r : Reading R D) × EndsIn given rules.step w n k cs s r × (r.calls ≤ n + rules.cost w k cs s)

  abbrev EndsBelow : ℕ → Type 0
  EndsBelow n = (b : ℕ) (k : Configuration R D) (cs : List Choice) (s : State) → rules.holds w k cs s → suc (rules.cost w k cs s) ≤ n → Ends b k cs s

  called-end : (n : ℕ) → EndsBelow n → (b : ℕ) (k : Configuration R D) (cs : List Choice) (name : Name) → rules.holds w k cs (Retry name) → rules.cost w k cs (Retry name) ≤ n → Ends b k cs (Retry name)
  called-end n below b k cs name h l =
      let s = rules.step (sight given w k) k name in
      let paid = pays.for_calls w k cs name is h in
      let e = below (b + 1) s.configuration (s.choices ++ cs) s.answer (keeps.by_calls w k cs name is h) (omega arith) in
      (e.0, (called-ends given rules.step w b k cs name e.0).0 e.1, omega (arith, e.2))

  ends-within : (n : ℕ) → EndsBelow n → (cs : List Choice) (b : ℕ) (k : Configuration R D) (s : State) → rules.holds w k cs s → rules.cost w k cs s ≤ n → Ends b k cs s
  ends-within n below cs b k (Next name) h l =
      let paid = pays.for_feeding w k cs name is h in
      let e = called-end n below b (fed w k) cs name (keeps.by_feeding w k cs name is h) (omega arith) in
      (e.0, (fed-ends given rules.step w b k cs name e.0).0 e.1, omega (arith, e.2))
  ends-within n below cs b k (Retry name) h l = called-end n below b k cs name h l
  ends-within n below (c ∷ cs) b k Ok h l =
      let paid = pays.for_ok w k c cs is h in
      let e = ends-within n below cs b (settled_at c.kind c.saved Ok k) c.ok (keeps.by_ok w k c cs is h) (omega arith) in
      (e.0, (settled-ok-ends given rules.step w b k c cs e.0).0 e.1, omega (arith, e.2))
  ends-within n below (c ∷ cs) b k Nok h l =
      let paid = pays.for_nok w k c cs is h in
      let e = ends-within n below cs b (settled_at c.kind c.saved Nok k) c.nok (keeps.by_nok w k c cs is h) (omega arith) in
      (e.0, (settled-nok-ends given rules.step w b k c cs e.0).0 e.1, omega (arith, e.2))
  ends-within n below cs b k (Error m) h l =
      (record { configuration = k; answer = Error m; calls = b + 0 }, record { bound = zero; is = ap (more_calls b) (error-stays (read given rules.step w zero) cs k m 0) }, omega arith)
  ends-within n below [] b k s h l = (record { configuration = k; answer = s; calls = b + 0 }, record { bound = zero; is = refl }, omega arith)

  ends-by : (n : ℕ) → EndsBelow n
  ends-by zero b k cs s h l = absurd (omega arith)
  ends-by (suc n) b k cs s h l = ends-within n (ends-by n) cs b k s h (omega arith)

  -- each state at which the invariant holds has an end
  pub has-end : (b : ℕ) (k : Configuration R D) (cs : List Choice) (s : State) → rules.holds w k cs s → Ends b k cs s
  has-end b k cs s h = ends-by (suc (rules.cost w k cs s)) b k cs s h (omega arith)
