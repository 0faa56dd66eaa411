use Rattle.mdinline_text_machine.proofs.Prelude.{ap, sight_of, sizes_are_equal}
use Rattle.mdinline_text_machine.proofs.code_span.sizes_are_equal.Goals as goal

pub returns : goal.returns
returns g c = ap (λ v. sizes_are_equal v.given (sight_of v) v.configuration) c.t.view_is
