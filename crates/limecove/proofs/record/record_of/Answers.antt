-- for wrong bodies: the search finds this, and takes long where it is false
use Rattle.std.proofs.Common.{rules}
use Rattle.limecove.proofs.record.record_of.Goals as goal

pub returns : goal.returns
returns c = search rules
