use Rattle.mdevents_program.proofs.Prelude.{length}
use Rattle.mdevents_program.proofs.arguments.+read_options.Given as goal

abbrev pub decreases-read_options : goal.decreases-read_options
decreases-read_options l = length l.words.now
