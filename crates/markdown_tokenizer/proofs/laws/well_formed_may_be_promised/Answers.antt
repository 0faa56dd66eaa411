use Rattle.markdown_tokenizer.specs.Engine.{EndsWellFormed}
use Rattle.markdown_tokenizer.specs.Promises.{promising}
use Rattle.markdown_tokenizer.proofs.Readings.Plain.{plain-lawful}
use Rattle.markdown_tokenizer.proofs.Readings.Promises.{adds-still, ends-still, kept-still, pays-still}
use Rattle.markdown_tokenizer.proofs.laws.well_formed_may_be_promised.Goals as goal

pub returns : goal.returns
returns g c m given keeps =
    let rules = g.M.Machine.rules m given in let ends = EndsWellFormed given in let law = g.met.M.Machine.lawful m given in
    plain-lawful given (promising rules ends) keeps law.consumes_once (adds-still given rules ends law.only_adds) (ends-still given rules ends law.ends_when_read)
    (kept-still given rules ends law.invariant_kept) (pays-still given rules ends law.cost_pays) (λ text k is formed h. formed)
