use Rattle.mdhtml_program.proofs.Prelude.{map, string_bytes}
use Rattle.mdhtml_program.proofs.Words.{safe-words}
use Rattle.mdhtml_program.proofs.call.answer_words.Goals as goal

pub returns-clause-safe : goal.returns-clause-safe
returns-clause-safe g c = λ done none. c.answer_choice.ensures.safe done (rw c.read_words.ensures (safe-words (map string_bytes c.args.words.now) none))
