use Rattle.std.proofs.Common.{◌∙◌}
use Rattle.mdhtml_document.proofs.NotesWritten.{space-written}
use Rattle.mdhtml_document.proofs.notes.push_space.Goals as goal

pub returns : goal.returns
returns c = c.in_ok-push.ensures.items ∙ space-written c.args.out.now.items c.args.next c.if-next-eq1.false
