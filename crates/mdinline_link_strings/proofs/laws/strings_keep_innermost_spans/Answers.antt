use Rattle.mdinline_link_strings.proofs.Accounts.{keep_innermost}
use Rattle.mdinline_link_strings.proofs.laws.strings_keep_innermost_spans.Goals as goal

pub returns : goal.returns
returns c = keep_innermost
