use Rattle.markdown_tokenizer.proofs.Prelude.{drop, FollowOn}
use Rattle.std.specs.Prelude.{◌↔◌}
use Rattle.markdown_tokenizer.proofs.ranges.follow_on.Given as goal

abbrev pub invariant-loop-range : goal.invariant-loop-range
invariant-loop-range l =
    FollowOn l.tab_size l.bytes l.fn.end l.ranges ↔ FollowOn l.tab_size l.bytes l.place (drop l.range-index l.ranges)
