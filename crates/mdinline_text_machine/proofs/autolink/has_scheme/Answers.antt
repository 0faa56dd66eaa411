use Rattle.mdinline_text_machine.proofs.Prelude.{ap, sight_of, has_scheme}
use Rattle.mdinline_text_machine.proofs.autolink.has_scheme.Goals as goal

pub returns : goal.returns
returns g c = ap (λ v. has_scheme v.given (sight_of v) v.configuration) c.t.view_is
