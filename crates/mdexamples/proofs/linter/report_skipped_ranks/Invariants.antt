use Rattle.std.proofs.Common.{◌≡◌, ◌++◌, ◌-◌, drop}
use Rattle.mdexamples.specs.Linter.{skipped_ranks}
use Rattle.mdexamples.proofs.linter.report_skipped_ranks.Given as goal

abbrev pub invariant-loop-at : goal.invariant-loop-at
invariant-loop-at l = l.found.items ++ skipped_ranks (drop (l.at - 1) l.headings) ≡ l.fn.found.items ++ skipped_ranks l.headings
