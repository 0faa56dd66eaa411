-- A cost for the current state, and a reserve for each waiting choice: one way to state the cost of a machine.
use Rattle.std.specs.Prelude.{◌+◌, ◌≤◌, ℕ, List, [], ◌∷◌, sum_by}
use Rattle.markdown_base.specs.declared.state.Name.{Name}
use Rattle.markdown_base.specs.declared.state.State.{State}
use Rattle.markdown_base.specs.declared.state.State.TheVariants.{Next, Retry, Ok, Nok}
use Rattle.markdown_tokenizer.specs.Text.{Given, Text, IsText}
use Rattle.markdown_tokenizer.specs.Configuration.{Configuration, Choice}
use Rattle.markdown_tokenizer.specs.Reading.{fed, settled_at}
use Rattle.markdown_tokenizer.specs.Rules.{Rules}
use Rattle.markdown_tokenizer.specs.Lawful.{ForEachCall, CostPays}

module _ {R D : Type 0} (cost : Text → Configuration R D → State → ℕ) (reserve : Text → Choice → ℕ) where
  -- the cost of the state, and the reserves of all choices that wait
  abbrev pub together : Text → Configuration R D → List Choice → State → ℕ
  together text k [] state = cost text k state
  together text k (choice ∷ choices) state = reserve text choice + together text k choices state

  module _ (g : Given) (rules : Rules R D) where
    -- The cost before a call is at least one more than the cost of the state that it returns and the reserves of the choices that it pushes;
    -- feeding costs nothing; and what a choice goes on with costs at most its reserve
    pub record ReservesPay : Type 0 where
      pub for_calls : ForEachCall g rules (λ text k choices name s.
          1 + (cost text s.configuration s.answer + sum_by (reserve text) s.choices) ≤ cost text k (Retry name))
      pub for_feeding : (text : Text) (k : Configuration R D) (choices : List Choice) (name : Name) → IsText g text
          → rules.holds text k choices (Next name) → cost text (fed text k) (Retry name) ≤ cost text k (Next name)
      pub for_ok : (text : Text) (k : Configuration R D) (choice : Choice) (choices : List Choice) → IsText g text
          → rules.holds text k (choice ∷ choices) Ok → cost text (settled_at choice.kind choice.saved Ok k) choice.ok ≤ reserve text choice
      pub for_nok : (text : Text) (k : Configuration R D) (choice : Choice) (choices : List Choice) → IsText g text
          → rules.holds text k (choice ∷ choices) Nok → cost text (settled_at choice.kind choice.saved Nok k) choice.nok ≤ reserve text choice

module _ {M R D : Type 0} (rules : M → Given → Rules R D) where
  -- the rules of a machine, with this cost and these reserves
  abbrev pub rules_with : M → Given → (Text → Configuration R D → State → ℕ) → (Text → Choice → ℕ) → Rules R D
  rules_with m g cost reserve = record (rules m g) { cost = together cost reserve }

  -- if a cost and reserves pay, so does the one cost that they make together
  abbrev pub ReservesAreEnough : Type 0
  ReservesAreEnough = (m : M) (g : Given) (cost : Text → Configuration R D → State → ℕ) (reserve : Text → Choice → ℕ)
      → let with_both = rules_with m g cost reserve in ReservesPay cost reserve g with_both → CostPays g with_both
