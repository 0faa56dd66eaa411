use Rattle.mdinline_links.proofs.Plain.{emphasis-alone}
use Rattle.mdinline_links.proofs.laws.without_brackets_emphasis_alone.Goals as goal

-- src/laws.rt:6:1
pub returns : goal.returns
returns c = emphasis-alone
