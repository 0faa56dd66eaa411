use Rattle.mddocument_parts.proofs.DocumentRests.{stretches-go-on-at-top}
use Rattle.mddocument_parts.proofs.laws.stretches_go_on_at_top.Goals as goal

pub returns : goal.returns
returns c = stretches-go-on-at-top
