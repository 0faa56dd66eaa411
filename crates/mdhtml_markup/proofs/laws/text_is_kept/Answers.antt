use Rattle.mdhtml_markup.proofs.ShownText.{text-kept}
use Rattle.mdhtml_markup.proofs.laws.text_is_kept.Goals as goal

pub returns : goal.returns
returns c = text-kept
