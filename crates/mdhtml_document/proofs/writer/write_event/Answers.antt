use Rattle.mdhtml_document.specs.Frames.{opens}
use Rattle.mdhtml_document.proofs.Entered.{exit-lists, exit-step}
use Rattle.mdhtml_document.proofs.writer.write_event.Goals as goal

pub returns-in_ok-exit-in-Exit-clause-lists : goal.returns-in_ok-exit-in-Exit-clause-lists
returns-in_ok-exit-in-Exit-clause-lists c = exit-lists c.args.whole.now.bytes.now c.args.lists.now c.args.event.now c.args.behind.now c.in-Exit.is c.requires

pub returns-in_ok-exit-in-Exit-clause-written : goal.returns-in_ok-exit-in-Exit-clause-written
returns-in_ok-exit-in-Exit-clause-written c =
    exit-step c.args.whole.now (opens c.args.levels.now.items) (opens c.exit.new.levels.items) c.args.event.now c.args.behind.now c.args.out.now.items c.exit.new.out.items c.in-Exit.is
    c.in_ok-exit-in-Exit.ensures.written c.in_ok-exit-in-Exit.ensures.others
