use Rattle.mddocument.proofs.Prelude.{[], arith, subst, sym, All-nil, empty, IsWellFormed, Given}
use Rattle.mddocument.proofs.ranges.text_events_in.Goals as goal

-- no events are well formed
none-formed : (g : Given) → IsWellFormed g []
none-formed g = record { balanced = empty; void_tight = λ k e at. absurd (cc); at_places = All-nil _; in_order = ((λ i j d less within. absurd (omega (arith, within))), All-nil _) }

pub returns-in_default-clause-formed : goal.returns-in_default-clause-formed
returns-in_default-clause-formed c = subst (IsWellFormed _) (sym c.new.ensures.items) (none-formed _)
