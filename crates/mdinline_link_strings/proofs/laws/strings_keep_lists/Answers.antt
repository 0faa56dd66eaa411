use Rattle.mdinline_link_strings.proofs.Kept.{strings_keep}
use Rattle.mdinline_link_strings.proofs.laws.strings_keep_lists.Goals as goal

pub returns : goal.returns
returns c = strings_keep
