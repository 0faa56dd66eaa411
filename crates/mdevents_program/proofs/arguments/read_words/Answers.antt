use Rattle.mdevents_program.proofs.Prelude.{None, false, ◌∙◌, map, string_bytes}
use Rattle.mdevents_program.proofs.OptionWords.{after-together}
use Rattle.mdevents_program.proofs.arguments.read_words.Goals as goal

pub returns-clause-chosen : goal.returns-clause-chosen
returns-clause-chosen c = c.read_options.ensures.chosen ∙ after-together None false None None (map string_bytes c.args.words.now)
