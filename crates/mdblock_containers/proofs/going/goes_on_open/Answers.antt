use Rattle.mdblock_containers.proofs.GoingLemmas.{goes_on_within_size}
use Rattle.mdblock_containers.specs.Views.{open_of}
use Rattle.mdblock_containers.proofs.going.goes_on_open.Goals as goal

pub returns : goal.returns
returns c = record {
  value = c.goes_on.ensures c.args.entry.now.list;
  within = goes_on_within_size (open_of c.args.entry.now) c.args.number c.args.t.now c.goes_on.result (c.goes_on.ensures c.args.entry.now.list);
}
