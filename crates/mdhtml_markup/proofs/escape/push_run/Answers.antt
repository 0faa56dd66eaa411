use Rattle.std.proofs.Common.{◌++◌, take, drop, ap, ◌∙◌}
use Rattle.mdhtml_markup.specs.Escapes.{escaped}
use Rattle.mdhtml_markup.proofs.Runs.{run}
use Rattle.mdhtml_markup.proofs.escape.push_run.Goals as goal

pub returns-clause-added : goal.returns-clause-added
returns-clause-added c =
    let out = c.args.out.now.items in
    let text = c.args.text.now in
    ap (λ x. x ++ escaped (drop c.plain_len-len.result text)) c.in_ok-extend_from_slice.ensures.items
    ∙ ap (λ n. (out ++ take n text) ++ escaped (drop n text)) c.plain_len-len.ensures.value
    ∙ run out text
