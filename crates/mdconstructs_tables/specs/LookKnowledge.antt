-- What is known in looks, as deep as they are: each choice that waits is a check that saved all events, and what is known is what the outermost
-- goes on with.
use Rattle.std.specs.Prelude.{◌≡◌, List, [], ◌∷◌, Bool, true, IfSome, length}
use Rattle.markdown_base.specs.declared.event.Event.{Event}
use Rattle.markdown_base.specs.declared.state.State.{State}
use Rattle.markdown_base.specs.declared.state.State.TheVariants.{Ok, Nok}
use Rattle.markdown_tokenizer.specs.declared.waiting.AttemptKind.TheVariants.{Check}
use Rattle.markdown_tokenizer.specs.Calls.{check_at}
use Rattle.markdown_tokenizer.specs.Configuration.{Configuration, Local, Choice}
use Rattle.markdown_tokenizer.specs.Reading.{settled_at}

-- a check that saved all events that there are: it takes none away
pub record IsCheckOver (events : List Event) (c : Choice) : Type 0 where
  pub checks : c.kind ≡ Check
  pub saved : IfSome c.saved (λ saved. saved.events ≡ length events)

-- `looking`: a state returned in a look; it is one of its states, or Ok or Nok. `known`: what is known at a state outside of looks.
module _ {R D : Type 0} (looking : State → Bool) (known : State → List Event → Local R D → Type 0) where
  -- all choices that wait are checks over all events: the outermost goes on with what is known, and each other with a state of a look
  abbrev pub AreLooks : List Event → Local R D → List Choice → Type 0
  AreLooks events local [] = Unit {0}
  AreLooks events local (c ∷ []) = IsCheckOver events c × known c.ok events local × known c.nok events local
  AreLooks events local (c ∷ d ∷ cs) = IsCheckOver events c × (looking c.ok ≡ true) × (looking c.nok ≡ true) × AreLooks events local (d ∷ cs)

  -- what is known at a state returned: outside of looks, or in one
  abbrev pub knows_looks : List Event → Local R D → List Choice → State → Type 0
  knows_looks events local [] state = known state events local
  knows_looks events local (c ∷ cs) state = (looking state ≡ true) × AreLooks events local (c ∷ cs)

  -- A check begins a look, outside of looks or in one; a call of a look that makes no event keeps what is known; and the end of a check does
  pub record ChecksAreLooks : Type 0 where
    pub begins : (k : Configuration R D) (ok nok state : State) → looking state ≡ true → known ok k.events k.local → known nok k.events k.local
        → knows_looks k.events k.local (check_at ok nok k ∷ []) state
    pub begins_within : (k : Configuration R D) (ok nok state old : State) (c : Choice) (cs : List Choice) → looking state ≡ true
        → looking ok ≡ true → looking nok ≡ true → knows_looks k.events k.local (c ∷ cs) old
        → knows_looks k.events k.local (check_at ok nok k ∷ c ∷ cs) state
    pub goes_on : (events : List Event) (old new : Local R D) (c : Choice) (cs : List Choice) (state next : State)
        → ((a : State) → known a events old → known a events new) → looking next ≡ true
        → knows_looks events old (c ∷ cs) state → knows_looks events new (c ∷ cs) next
    pub by_ok : (k : Configuration R D) (c : Choice) (cs : List Choice) → knows_looks k.events k.local (c ∷ cs) Ok
        → let k' = settled_at c.kind c.saved Ok k in knows_looks k'.events k'.local cs c.ok
    pub by_nok : (k : Configuration R D) (c : Choice) (cs : List Choice) → knows_looks k.events k.local (c ∷ cs) Nok
        → let k' = settled_at c.kind c.saved Nok k in knows_looks k'.events k'.local cs c.nok
