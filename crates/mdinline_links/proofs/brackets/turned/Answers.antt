use Rattle.std.proofs.Common.{sym, ap, ◌∙◌, length}
use Rattle.mdinline_links.proofs.Places.{turned-back}
use Rattle.mdinline_links.proofs.brackets.turned.Goals as goal

pub returns : goal.returns
returns c =
    let was = c.as_mut_slice.ensures.value in
    turned-back c.args.runs.items c.as_mut_slice.result.now c.reverse.new.self c.args.runs.len was (sym c.as_mut_slice.ensures.len ∙ ap length was) c.reverse.ensures.after c.reverse.ensures.len
