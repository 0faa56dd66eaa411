use Rattle.std.proofs.Common.{◌≡◌, ◌++◌, ◌∷◌, drop}
use Rattle.mdexamples.specs.Linter.{at_each, link_at}
use Rattle.mdexamples.proofs.linter.links.Given as goal

abbrev pub invariant-loop-at : goal.invariant-loop-at
invariant-loop-at l =
    l.found.items ++ at_each (λ e es. link_at l.bytes l.events (e ∷ es)) (drop l.at l.events) ≡ at_each (λ e es. link_at l.bytes l.events (e ∷ es)) l.events
