use Rattle.mddocument_parts.proofs.Events.{events-of-both}
use Rattle.mddocument_parts.proofs.laws.events_of_both.Goals as goal

pub returns : goal.returns
returns c = events-of-both
