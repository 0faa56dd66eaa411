use Rattle.std.proofs.Common.{arith, ◌∙◌}
use Rattle.mdhtml_document.proofs.NotesWritten.{links-step}
use Rattle.mdhtml_document.proofs.notes.push_back_links.Goals as goal

pub loop-next-preserved : goal.loop-next-preserved
loop-next-preserved c = record {
  written = links-step c.loop-next.out.items c.args.number c.loop-next.next c.args.many _ _ c.loop-next-test.true c.in_ok-push_space.ensures c.in_ok-push_back_link.ensures ∙ c.loop-next.invariant.written;
  room = omega (arith, c.loop-next-test.true);
}
