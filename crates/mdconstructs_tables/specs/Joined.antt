-- Two machines in one. A name decides to which of them its state belongs, and neither goes on with a state of the other.
use Rattle.std.specs.Prelude.{◌≡◌, ℕ, ◌⊎◌, ◌++◌, List, [], Bool, true, false, cond}
use Rattle.markdown_base.specs.declared.state.Name.{Name}
use Rattle.markdown_base.specs.declared.state.State.{State}
use Rattle.markdown_base.specs.declared.state.State.TheVariants.{Next, Retry}
use Rattle.markdown_tokenizer.specs.Text.{Text}
use Rattle.markdown_tokenizer.specs.Configuration.{Configuration, Choice}
use Rattle.markdown_tokenizer.specs.Rules.{Rules}
use Rattle.mdconstructs_tables.specs.Rows.{StateRows, named}
use Rattle.mdconstructs_tables.specs.RowTest.{is_some}

-- one of these states has this name
abbrev pub has_state : {W R D : Type 0} → List (StateRows W R D) → Name → Bool
has_state states name = is_some (named states name)

module _ {R D : Type 0} (is_first : Name → Bool) (first second : Rules R D) where
  -- A state costs what it costs in its machine. Once a reading ended it costs nothing more; the first makes no choice, so choices that
  -- wait are the second's.
  abbrev pub joined_cost : Text → Configuration R D → List Choice → State → ℕ
  joined_cost text k choices (Next name) = cond (is_first name) (first.cost text k choices (Next name)) (second.cost text k choices (Next name))
  joined_cost text k choices (Retry name) = cond (is_first name) (first.cost text k choices (Retry name)) (second.cost text k choices (Retry name))
  joined_cost text k [] state = 0
  joined_cost text k choices state = second.cost text k choices state

  -- The rules of both. Both have the same resolvers. The final events are what one of them promises.
  abbrev pub joined_rules : Rules R D
  joined_rules = record {
    step = λ s k name. cond (is_first name) (first.step s k name) (second.step s k name);
    holds = λ text k choices state. first.holds text k choices state ⊎ second.holds text k choices state;
    cost = joined_cost;
    starts = first.starts ++ second.starts;
    resolver = first.resolver;
    resolves = λ text rs k. first.resolves text rs k ⊎ second.resolves text rs k;
    ends = λ text events. first.ends text events ⊎ second.ends text events;
  }

-- Two machines can be one: they have no names of states in common, the first makes no choice, and they share their resolvers
pub record AreApart {R D : Type 0} (is_first : Name → Bool) (first second : Rules R D) : Type 0 where
  pub first_fed : (text : Text) (k : Configuration R D) (choices : List Choice) (name : Name) → first.holds text k choices (Next name) → is_first name ≡ true
  pub first_called : (text : Text) (k : Configuration R D) (choices : List Choice) (name : Name) → first.holds text k choices (Retry name) → is_first name ≡ true
  pub second_fed : (text : Text) (k : Configuration R D) (choices : List Choice) (name : Name) → second.holds text k choices (Next name) → is_first name ≡ false
  pub second_called : (text : Text) (k : Configuration R D) (choices : List Choice) (name : Name) → second.holds text k choices (Retry name) → is_first name ≡ false
  pub no_choice : (text : Text) (k : Configuration R D) (choices : List Choice) (state : State) → first.holds text k choices state → choices ≡ []
  pub one_resolver : second.resolver ≡ first.resolver
