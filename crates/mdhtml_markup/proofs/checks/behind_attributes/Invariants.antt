use Rattle.std.proofs.Common.{◌≡◌, length}
use Rattle.mdhtml_markup.specs.SafeChecks.{behind_attributes}
use Rattle.mdhtml_markup.proofs.checks.behind_attributes.Given as goal

abbrev pub invariant-names : goal.invariant-names
invariant-names l = record {
  same : behind_attributes l.left l.rest ≡ behind_attributes l.names l.bytes;
}

abbrev pub decreases-names : goal.decreases-names
decreases-names l = length l.left
