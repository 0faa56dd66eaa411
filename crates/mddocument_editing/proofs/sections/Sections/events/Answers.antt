use Rattle.mddocument_editing.proofs.Prelude.{◌≡◌, IfOk, subst, Divided, bytes_of, gfm_events}
use Rattle.mddocument_editing.proofs.sections.Sections.events.Goals as goal

pub returns : goal.returns
returns c = subst (λ (d : Divided). IfOk c.all_events.result (λ events. events.items ≡ gfm_events d.options (bytes_of d))) c.self.view_is c.all_events.ensures
