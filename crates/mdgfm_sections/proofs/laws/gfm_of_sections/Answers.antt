use Rattle.mdgfm_sections.proofs.Sections.{gfm-of-sections}
use Rattle.mdgfm_sections.proofs.laws.gfm_of_sections.Goals as goal

pub returns : goal.returns
returns c = gfm-of-sections
