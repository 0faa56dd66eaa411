use Rattle.std.proofs.Common.{◌≡◌}
use Rattle.mdhtml_document.specs.Html.{empty_cells}
use Rattle.mdhtml_document.specs.Written.{after}
use Rattle.mdhtml_document.proofs.tables.push_empty_cells.Given as goal

abbrev pub invariant-loop-most : goal.invariant-loop-most
invariant-loop-most l = after l.out.items (empty_cells l.most l.is_head l.rest) ≡ after l.fn.out.items (empty_cells 100 l.is_head l.columns)

abbrev pub decreases-loop-most : goal.decreases-loop-most
decreases-loop-most l = l.most
