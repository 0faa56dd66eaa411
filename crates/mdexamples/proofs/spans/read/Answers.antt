use Rattle.markdown.specs.Engine.{given_of}
use Rattle.markdown.proofs.Runs.Whole.{start-is-point}
use Rattle.mdexamples.proofs.spans.read.Goals as goal

pub new-tokenizer-requires : goal.new-tokenizer-requires
new-tokenizer-requires g c = record { place = start-is-point (given_of c.args.document.now) c.args.document.now.tab_size.0 }
