use Rattle.markdown_tokenizer.proofs.Runs.Pushes.{pushed-one-way}
use Rattle.markdown_tokenizer.proofs.laws.pushes_in_one_way.Goals as goal

pub returns : goal.returns
returns g c old new from to state answer can is = pushed-one-way (g.M.Machine.rules old.machine old.given) old new from to state answer can is
