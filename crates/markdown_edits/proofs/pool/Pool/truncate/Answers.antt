use Rattle.markdown_edits.proofs.Prelude.{take, sym, ap, ◌∙◌, take-map, part_edit, pooled}
use Rattle.markdown_edits.proofs.pool.Pool.truncate.Goals as goal

pub returns : goal.returns
returns c =
    let xs = c.self.inside.additions.items in
    ap (pooled xs) c.truncate.ensures.items ∙ sym (take-map (part_edit xs) c.args.len c.self.inside.entries.items) ∙ ap (take c.args.len) c.self.view_is
