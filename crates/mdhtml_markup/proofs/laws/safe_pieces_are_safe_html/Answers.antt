use Rattle.mdhtml_markup.proofs.SafeLemmas.{pieces-safe}
use Rattle.mdhtml_markup.proofs.laws.safe_pieces_are_safe_html.Goals as goal

pub returns : goal.returns
returns c = pieces-safe
