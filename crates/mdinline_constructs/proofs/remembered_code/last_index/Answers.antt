use Rattle.mdinline_constructs.proofs.Prelude.{ap, length, slice_get, sym, ◌-◌, ◌∙◌, index_of}
use Rattle.mdinline_constructs.proofs.RememberedCode.Runs.{last-get}
use Rattle.mdinline_constructs.proofs.remembered_code.last_index.Goals as goal

pub returns-in-Some : goal.returns-in-Some
returns-in-Some g c = ap index_of (c.in-Some.ensures.value ∙ ap (λ xs. slice_get xs (length xs - 1)) c.events.ensures ∙ sym (last-get c.args.t.now.configuration.events))
