use Rattle.markdown_tokenizer.proofs.Readings.Promises.{adds-still, ends-still, kept-still, pays-still}
use Rattle.markdown_tokenizer.proofs.laws.less_may_be_promised.Goals as goal

pub returns : goal.returns
returns g c m given less =
    let rules = g.M.Machine.rules m given in let ends = g.P.Promise.ends given in let law = g.met.M.Machine.lawful m given in
    record {
      consumes_once = law.consumes_once;
      only_adds = adds-still given rules ends law.only_adds;
      ends_when_read = ends-still given rules ends law.ends_when_read;
      invariant_kept = kept-still given rules ends law.invariant_kept;
      cost_pays = pays-still given rules ends law.cost_pays;
      resolvers_keep = record {
        at_end = law.resolvers_keep.at_end;
        by_resolvers = law.resolvers_keep.by_resolvers;
        at_last = λ text k is h. let last = law.resolvers_keep.at_last text k is h in (last.0, last.1, less text _ last.2);
      };
    }
