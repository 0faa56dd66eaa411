use Rattle.markdown_edits.proofs.Prelude.{◌<◌, length, set, length-set, ap, ◌∙◌, arith, IsLinkedEnter, with_next, with_previous, updated_at}
use Rattle.markdown_edits.proofs.LinkEnds.{set-updated_at, some-within}
use Rattle.markdown_edits.proofs.links.link_to.Goals as goal

pub returns : goal.returns
returns c =
    let events = c.args.events.now in
    let once = set events c.args.previous c.set_next.new.event in
    let second = some-within IsLinkedEnter c.args.next events c.requires.can_link.second in
    let first : c.args.previous < length events = omega (arith, c.requires.can_link.order, second) in
    let inside : c.args.next < length once = rw (length-set events c.args.previous c.set_next.new.event) second in
    let one = ap (set events c.args.previous) c.set_next.ensures ∙ set-updated_at c.args.previous (with_next c.args.next) events _ first in
    ap (set once c.args.next) c.set_previous.ensures ∙ set-updated_at c.args.next (with_previous c.args.previous) once _ inside ∙ ap (updated_at c.args.next (with_previous c.args.previous)) one
