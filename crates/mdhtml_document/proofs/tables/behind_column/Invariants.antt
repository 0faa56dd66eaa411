use Rattle.std.proofs.Common.{◌≡◌, length}
use Rattle.mdhtml_document.specs.Html.{behind_column}
use Rattle.mdhtml_document.proofs.tables.behind_column.Given as goal

abbrev pub invariant-events : goal.invariant-events
invariant-events l = behind_column l.rest ≡ behind_column l.columns

abbrev pub decreases-events : goal.decreases-events
decreases-events l = length l.rest
