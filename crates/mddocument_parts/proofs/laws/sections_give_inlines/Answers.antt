use Rattle.mddocument_parts.proofs.Sections.{sections-give-inlines}
use Rattle.mddocument_parts.proofs.laws.sections_give_inlines.Goals as goal

pub returns : goal.returns
returns c = sections-give-inlines
