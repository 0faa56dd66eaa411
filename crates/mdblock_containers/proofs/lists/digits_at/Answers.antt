use Rattle.mdblock_containers.proofs.ListNumbers.{first_digits}
use Rattle.mdblock_containers.proofs.lists.digits_at.Goals as goal

pub returns-clause-digits : goal.returns-clause-digits
returns-clause-digits c = rw c.digits_first.ensures.value (first_digits c.behind-rest.result.now)
