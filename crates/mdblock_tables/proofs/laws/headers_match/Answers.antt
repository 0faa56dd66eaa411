use Rattle.mdblock_tables.proofs.DelimiterLemmas.{headers_match}
use Rattle.mdblock_tables.proofs.laws.headers_match.Goals as goal

pub returns : goal.returns
returns c = headers_match
