use Rattle.mdhtml_markup.proofs.Tested.{safe-html-tested}
use Rattle.mdhtml_markup.proofs.laws.safe_html_is_tested.Goals as goal

pub returns : goal.returns
returns c = safe-html-tested
