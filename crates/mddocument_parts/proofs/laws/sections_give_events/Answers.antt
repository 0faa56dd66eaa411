use Rattle.mddocument_parts.proofs.Sections.{sections-give-events}
use Rattle.mddocument_parts.proofs.laws.sections_give_events.Goals as goal

pub returns : goal.returns
returns c = sections-give-events
