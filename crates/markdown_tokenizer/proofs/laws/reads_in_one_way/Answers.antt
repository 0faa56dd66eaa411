use Rattle.markdown_tokenizer.proofs.Readings.Ends.{has-end}
use Rattle.markdown_tokenizer.proofs.Readings.Bounds.{one-end}
use Rattle.markdown_tokenizer.proofs.laws.reads_in_one_way.Goals as goal

pub returns : goal.returns
returns g c m given text calls k choices state is h =
    let i = g.M.Machine in let met = g.met.M.Machine in
    let e = has-end given (i.rules m given) (met.lawful m given).invariant_kept (met.lawful m given).cost_pays text is calls k choices state h in
    (e.0, e.1, λ q f. one-end given (i.rules m given).step text calls k choices state q e.0 f e.1, e.2)
