use Rattle.std.proofs.Common.{◌≡◌, ◌++◌, drop}
use Rattle.mdexamples.specs.Linter.{missing_destinations}
use Rattle.mdexamples.proofs.linter.report_missing_destinations.Given as goal

abbrev pub invariant-loop-link : goal.invariant-loop-link
invariant-loop-link l = l.found.items ++ missing_destinations (drop l.link-index l.links) ≡ l.fn.found.items ++ missing_destinations l.links
