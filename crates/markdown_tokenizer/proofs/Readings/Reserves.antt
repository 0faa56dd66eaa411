-- A cost of the state and reserves of the choices are one cost.
use Rattle.markdown_tokenizer.proofs.Prelude.{◌≡◌, ◌+◌, ℕ, List, [], ◌∷◌, ◌++◌, sum_by, arith, sum_by-append, sum_by-cons, State, Next, Retry, Ok, Nok, Given, Text, Configuration, Choice, sight, fed, settled_at, Rules, CostPays}
use Rattle.markdown_tokenizer.specs.Reserves.{together, ReservesPay}

module _ {R D : Type 0} (cost : Text → Configuration R D → State → ℕ) (reserve : Text → Choice → ℕ) where
  abbrev all : Text → Configuration R D → List Choice → State → ℕ
  all = together cost reserve

  together-is : (text : Text) (k : Configuration R D) (choices : List Choice) (state : State) → all text k choices state ≡ cost text k state + sum_by (reserve text) choices
  together-is text k [] state = omega arith
  together-is text k (c ∷ choices) state =
      let rest = together-is text k choices state in
      let sums = sum_by-cons (reserve text) c choices in omega (arith, rest, sums)

  module _ (g : Given) (rules : Rules R D) (pays : ReservesPay cost reserve g rules) where
    pub together-pays : CostPays g (record rules { cost = all })
    together-pays = record {
      for_calls = λ text k choices name shown h.
          let s = rules.step (sight g text k) k name in
          let paid = pays.for_calls text k choices name shown h in
          let sums = sum_by-append (reserve text) s.choices choices in
          let before = together-is text k choices (Retry name) in
          let after = together-is text s.configuration (s.choices ++ choices) s.answer in
          omega (arith, paid, sums, before, after);
      for_feeding = λ text k choices name shown h.
          let paid = pays.for_feeding text k choices name shown h in
          let before = together-is text k choices (Next name) in
          let after = together-is text (fed text k) choices (Retry name) in
          omega (arith, paid, before, after);
      for_ok = λ text k c choices shown h.
          let paid = pays.for_ok text k c choices shown h in
          let before = together-is text k choices Ok in
          let after = together-is text (settled_at c.kind c.saved Ok k) choices c.ok in
          omega (arith, paid, before, after);
      for_nok = λ text k c choices shown h.
          let paid = pays.for_nok text k c choices shown h in
          let before = together-is text k choices Nok in
          let after = together-is text (settled_at c.kind c.saved Nok k) choices c.nok in
          omega (arith, paid, before, after);
    }
