use Rattle.markdown_edits.proofs.Prelude.{sym, ◌∙◌}
use Rattle.markdown_edits.proofs.Edits.Splices.{edited-none, edited-spliced}
use Rattle.markdown_edits.proofs.edit_map.EditMap.consume.Goals as goal

pub returns-then-is_empty-clause-ok : goal.returns-then-is_empty-clause-ok
returns-then-is_empty-clause-ok c =
    rw (c.is_empty.ensures.0 c.if-is_empty.true) (sym (edited-none c.args.events.now.items c.requires.links))

pub returns-clause-ok : goal.returns-clause-ok
returns-clause-ok c =
    let told = rw (c.in_ok-move_into.ensures.ok.0 ∙ c.self.view_is, c.as_slice.ensures.value) at c.in_ok-spliced.ensures in
    c.put_in.ensures ∙ told ∙ sym (edited-spliced c.args.self.now c.args.events.now.items c.requires.disjoint c.requires.links)
