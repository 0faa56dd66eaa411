use Rattle.mdhtml_markup.proofs.Texts.{escaped-short, escaped-text}
use Rattle.mdhtml_markup.proofs.laws.escapes_are_text.Goals as goal

pub returns : goal.returns
returns c = record { text = escaped-text; short = escaped-short }
