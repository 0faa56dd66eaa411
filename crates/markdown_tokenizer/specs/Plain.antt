-- Machines without resolvers and links: what holds for them, in addition to their own invariant.
use Rattle.std.specs.Prelude.{◌≡◌, List, [], ◌∷◌, None}
use Rattle.markdown_base.specs.declared.event.Event.{Event}
use Rattle.markdown_base.specs.declared.state.Name.{Name}
use Rattle.markdown_base.specs.declared.state.State.TheVariants.{Ok}
use Rattle.markdown_base.specs.Events.{IsBalanced}
use Rattle.markdown_tokenizer.specs.Text.{Given, Text, IsText}
use Rattle.markdown_tokenizer.specs.Configuration.{Configuration, Step}
use Rattle.markdown_tokenizer.specs.Sight.{Sight}
use Rattle.markdown_tokenizer.specs.Resolving.{Resolved, done}
use Rattle.markdown_tokenizer.specs.Rules.{Rules}
use Rattle.markdown_tokenizer.specs.Engine.{IsWellFormed}

-- no event has a link
abbrev pub HaveNoLinks : List Event → Type 0
HaveNoLinks [] = Unit {0}
HaveNoLinks (e ∷ es) = (e.link ≡ None) × HaveNoLinks es

module _ {R D : Type 0} where
  -- no resolver is registered, no edit waits, and no event has a link
  abbrev pub IsPlain : Configuration R D → Type 0
  IsPlain k = (k.local.resolvers ≡ []) × (k.local.map ≡ []) × HaveNoLinks k.events

  -- calls keep `IsPlain`
  abbrev pub KeepsPlain : (Sight → Configuration R D → Name → Step R D) → Type 0
  KeepsPlain step = (s : Sight) (k : Configuration R D) (name : Name) → IsPlain k → IsPlain (step s k name).configuration

  -- a resolver that finds nothing
  abbrev pub finds_nothing : Sight → Configuration R D → R → Resolved R D
  finds_nothing s k r = done k None

  -- there is nothing to resolve, and the events are balanced and as promised
  abbrev pub NothingResolves : (ends : Text → List Event → Type 0) → Text → List R → Configuration R D → Type 0
  NothingResolves ends text rs k = IsPlain k × IsBalanced k.events × ends text k.events

  -- once all was read, well formed events are as the machine promises
  abbrev pub ReadsAsPromised : Given → Rules R D → Type 0
  ReadsAsPromised g rules = (text : Text) (k : Configuration R D) → IsText g text → IsWellFormed g k.events → rules.holds text k [] Ok
      → rules.ends text k.events

  -- the rules of such a machine, from the rules for its states and what it promises
  abbrev pub plain : Rules R D → Rules R D
  plain rules = record rules {
    holds = λ text k choices state. IsPlain k × rules.holds text k choices state;
    resolver = finds_nothing;
    resolves = NothingResolves rules.ends;
  }
