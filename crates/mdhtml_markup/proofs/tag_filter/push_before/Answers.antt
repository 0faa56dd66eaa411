use Rattle.std.proofs.Common.{◌++◌, take, drop, ap, ◌∙◌}
use Rattle.mdhtml_markup.specs.Escapes.{kept}
use Rattle.mdhtml_markup.specs.TagFilter.{filtered}
use Rattle.mdhtml_markup.proofs.Filtered.{run}
use Rattle.mdhtml_markup.proofs.tag_filter.push_before.Goals as goal

pub returns-clause-added : goal.returns-clause-added
returns-clause-added c =
    let out = c.args.out.now.items in
    let html = c.args.html.now in
    ap (λ x. x ++ kept (filtered (drop c.before_tag-len.result html))) c.in_ok-push_kept.ensures
    ∙ ap (λ n. (out ++ kept (take n html)) ++ kept (filtered (drop n html))) c.before_tag-len.ensures.value
    ∙ run out html
