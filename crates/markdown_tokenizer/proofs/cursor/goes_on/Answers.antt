-- for wrong bodies: the search finds this, and takes long where it is false
use Rattle.std.proofs.Common.{arith}
use Rattle.std.proofs.lemmas.Grind.{common_steps}
use Rattle.markdown_tokenizer.proofs.cursor.goes_on.Goals as goal

pub returns-then-t-eq4 : goal.returns-then-t-eq4
returns-then-t-eq4 c = grind (arith, common_steps)
