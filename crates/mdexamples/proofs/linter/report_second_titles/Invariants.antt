use Rattle.std.proofs.Common.{◌≡◌, ◌++◌, cond, drop, map}
use Rattle.mdexamples.specs.declared.linter.Rule.TheVariants as rule
use Rattle.mdexamples.specs.Linter.{broken, second_titles, titles}
use Rattle.mdexamples.proofs.linter.report_second_titles.Given as goal

abbrev pub invariant-loop-heading : goal.invariant-loop-heading
invariant-loop-heading l =
    let rest = drop l.heading-index l.headings in
    l.found.items ++ cond l.has_title (map (λ h. broken rule.SecondTitle h.line) (titles rest)) (second_titles rest) ≡ l.fn.found.items ++ second_titles l.headings
