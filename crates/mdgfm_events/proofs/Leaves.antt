-- A span between two places with nothing in it: it is balanced, and its events have its name.
use Rattle.std.proofs.Common.{◌≡◌, Bool, true, false, cond, [], ◌∷◌, refl}
use Rattle.std.specs.List.{AllByRecursion}
use Rattle.std.specs.Prelude.{nat_lt}
use Rattle.markdown_base.specs.declared.event.Event.{Event}
use Rattle.markdown_base.specs.declared.event.Kind.TheVariants.{Enter, Exit}
use Rattle.markdown_base.specs.declared.event.Name.{Name}
use Rattle.markdown_base.specs.declared.event.Point.{Point}
use Rattle.markdown_base.specs.Events.{IsBalanced, empty}
use Rattle.markdown_base.proofs.Balanced.{IsBalanced-pair}
use Rattle.mdgfm_events.specs.Places.{event, leaf}

pub leaf-balanced : (n : Name) (p q : Point) → IsBalanced (leaf n p q)
leaf-balanced n p q = by (nat_lt p.index q.index)
  where
    by : (b : Bool) → IsBalanced (cond b (event Enter n p ∷ event Exit n q ∷ []) [])
    by true = IsBalanced-pair (event Enter n p) (event Exit n q) refl refl refl
    by false = empty

-- a test of names that its name passes
pub leaf-passes : (test : Name → Bool) (n : Name) (p q : Point) → test n ≡ true → AllByRecursion (λ (e : Event). test e.name ≡ true) (leaf n p q)
leaf-passes test n p q h = by (nat_lt p.index q.index)
  where
    by : (b : Bool) → AllByRecursion (λ (e : Event). test e.name ≡ true) (cond b (event Enter n p ∷ event Exit n q ∷ []) [])
    by true = (h, (h, tt))
    by false = tt
