use Rattle.markdown_children.proofs.Prelude.{sym, ap, subst, ◌∙◌, Point, IsPointOf, empty_text, start_seen, given_by}
use Rattle.markdown_children.proofs.ChainOrder.Forward.{begins-fits}
use Rattle.markdown_children.proofs.children.read_again.Goals as goal

pub restart-requires : goal.restart-requires
restart-requires g c =
    let p = c.args.parse_state.now in
    let fit = begins-fits p.options.now.tab_size p.bytes.now c.args.filter c.args.events.now c.requires.ready c.args.index c.requires.begins in
    record { place = subst (IsPointOf p.options.now.tab_size p.bytes.now) (sym c.place_at.ensures) (c.requires.ready.readable c.args.index fit).from.0 }

pub read_chunks-requires-clause-new : goal.read_chunks-requires-clause-new
read_chunks-requires-clause-new g c =
    let p = c.args.parse_state.now in
    c.restart.ensures.start ∙ ap (λ (q : Point). start_seen (given_by p.bytes.now p.options.now) p.machine.now (empty_text q)) c.place_at.ensures
