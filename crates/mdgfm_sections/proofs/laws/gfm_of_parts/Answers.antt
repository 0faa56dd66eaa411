use Rattle.mdgfm_sections.proofs.Parts.{gfm-of-parts}
use Rattle.mdgfm_sections.proofs.laws.gfm_of_parts.Goals as goal

pub returns : goal.returns
returns c = gfm-of-parts
