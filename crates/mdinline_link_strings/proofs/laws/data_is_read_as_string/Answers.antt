use Rattle.mdinline_link_strings.proofs.Plain.{data_is_read}
use Rattle.mdinline_link_strings.proofs.laws.data_is_read_as_string.Goals as goal

pub returns : goal.returns
returns c = data_is_read
