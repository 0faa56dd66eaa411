use Rattle.mddocument_link_targets.proofs.SpanEnds.{spans-end}
use Rattle.mddocument_link_targets.proofs.laws.spans_end_at_their_exits.Goals as goal

pub returns : goal.returns
returns c = spans-end
