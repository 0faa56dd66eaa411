use Rattle.mddocument.proofs.InContainers.Skeletons.{skeleton-laws}
use Rattle.mddocument.proofs.Prelude.{◌∙◌, ap, sym, subst, IsWellFormed, document}
use Rattle.mdblock_table_marks.specs.Cells.{with_cells}
use Rattle.mddocument.proofs.InContainers.BlocksFormed.{blocks-well}
use Rattle.mddocument.proofs.nested.read_blocks_and_labels.Goals as goal

pub returns-clause-events : goal.returns-clause-events
returns-clause-events c = c.with_cells.ensures ∙ ap (with_cells c.args.options.now.constructs) c.in_ok-events.ensures.events

pub returns-clause-formed : goal.returns-clause-formed
returns-clause-formed c =
    let g = document c.args.options.now c.args.bytes.now in
    subst (IsWellFormed g) (sym (c.with_cells.ensures ∙ ap (with_cells c.args.options.now.constructs) c.in_ok-events.ensures.events)) (blocks-well skeleton-laws g c.is_document.ensures)
