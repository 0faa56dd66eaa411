use Rattle.mdgfm_sections.proofs.Documents.{gfm-of-both}
use Rattle.mdgfm_sections.proofs.laws.gfm_of_both.Goals as goal

pub returns : goal.returns
returns c = gfm-of-both
