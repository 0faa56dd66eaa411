-- The rules of a machine on one document, about which its laws are.
use Rattle.std.specs.Prelude.{ℕ, List}
use Rattle.markdown_base.specs.declared.event.Event.{Event}
use Rattle.markdown_base.specs.declared.state.Name.{Name}
use Rattle.markdown_base.specs.declared.state.State.{State}
use Rattle.markdown_tokenizer.specs.Text.{Text}
use Rattle.markdown_tokenizer.specs.Configuration.{Configuration, Choice, Step}
use Rattle.markdown_tokenizer.specs.Sight.{Sight}
use Rattle.markdown_tokenizer.specs.Resolving.{Resolved}

-- `step`: the result of the call of a state, from what it may see. `holds`: the invariant, of a text, a configuration, the waiting choices
-- and the current state. `cost`: how many calls the current state and all waiting choices may still take. `starts`: with which states a
-- reading may start. `resolver`: the result of a resolver. `resolves`: what holds before a list of resolvers runs. `ends`: what the machine
-- promises of the final events of a text, which resolvers and edits leave
pub record Rules (R D : Type 0) : Type 1 where
  pub step : Sight → Configuration R D → Name → Step R D
  pub holds : Text → Configuration R D → List Choice → State → Type 0
  pub cost : Text → Configuration R D → List Choice → State → ℕ
  pub starts : List Name
  pub resolver : Sight → Configuration R D → R → Resolved R D
  pub resolves : Text → List R → Configuration R D → Type 0
  pub ends : Text → List Event → Type 0
