use Rattle.mddocument_parts.proofs.ReadTexts.{read-events-of-both}
use Rattle.mddocument_parts.proofs.laws.read_events_of_both.Goals as goal

pub returns : goal.returns
returns c = read-events-of-both
