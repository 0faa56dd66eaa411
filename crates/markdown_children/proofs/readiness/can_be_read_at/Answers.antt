use Rattle.markdown_children.proofs.Prelude.{sym, ◌∙◌}
use Rattle.markdown_children.proofs.Ready.Tests.{inside-link, on-to}
use Rattle.markdown_children.proofs.readiness.can_be_read_at.Goals as goal

pub is_gap-requires-clause-end : goal.is_gap-requires-clause-end
is_gap-requires-clause-end c =
    let m = on-to c.args.events.now c.args.index c.in-Some-next.next c.in-Some.link c.requires.sound (sym c.link_at.ensures ∙ c.in-Some.is) c.in-Some-next.is in
    inside-link c.args.events.now c.in-Some-next.next m.1 m.2
