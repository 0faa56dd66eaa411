use Rattle.mddocument_editing.proofs.Prelude.{arith}
use Rattle.mddocument_editing.proofs.FrontSums.{left-behind, section-behind, section-here}
use Rattle.mddocument_editing.proofs.SectionPlaces.{count-bytes}
use Rattle.mddocument_editing.proofs.lookup.section_and_left_counted.Goals as goal

pub overflow_add-result : goal.overflow_add-result
overflow_add-result g c = omega (arith, c.byte_in_counted-found.ensures.byte.within, count-bytes c.args.kept.now.sections.items, c.are_few.ensures)

pub returns-then-left-size-clause-section : goal.returns-then-left-size-clause-section
returns-then-left-size-clause-section g c =
    let x = c.one.result.now in
    section-here c.args.kept.now.sections.items c.args.byte c.byte_in_counted-found.result x c.byte_in_counted-found.ensures.byte c.one.ensures
    (omega (arith, c.if-left-size.true, c.len-size.ensures, x.part.bytes.ok.0))

pub returns-else-left-size-clause-section : goal.returns-else-left-size-clause-section
returns-else-left-size-clause-section g c =
    let x = c.one.result.now in
    section-behind c.args.kept.now.sections.items c.args.byte c.byte_in_counted-found.result x c.byte_in_counted-found.ensures.byte c.one.ensures
    (omega (arith, c.if-left-size.false, c.len-size.ensures, x.part.bytes.ok.0))

pub returns-else-left-size-clause-left : goal.returns-else-left-size-clause-left
returns-else-left-size-clause-left g c =
    let x = c.one.result.now in
    let behind = left-behind c.args.kept.now.sections.items c.args.byte c.byte_in_counted-found.result x c.byte_in_counted-found.ensures.byte c.one.ensures
    (omega (arith, c.if-left-size.false, c.len-size.ensures, x.part.bytes.ok.0)) in
    omega (arith, behind, c.if-left-size.false, c.len-size.ensures, x.part.bytes.ok.0)
