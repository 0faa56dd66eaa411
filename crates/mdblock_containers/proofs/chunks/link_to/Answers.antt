use Rattle.std.proofs.Common.{set, ap, ◌∙◌}
use Rattle.markdown_base.specs.declared.event.Event.{Event}
use Rattle.mdblock_containers.proofs.ChainLemmas.{set_next_at}
use Rattle.mdblock_containers.proofs.chunks.link_to.Goals as goal

pub returns : goal.returns
returns c = ap (λ (e : Event). set c.args.events.now c.args.before e) c.with_next-linked.ensures ∙ set_next_at c.args.events.now c.args.before c.args.next _ c.requires
