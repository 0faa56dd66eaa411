use Rattle.mdinline_constructs.proofs.Prelude.{arith, false, html_ends, is_greater_than, nat_tests, no_html, passes, refl, rules, sees, sight_of, when, ◌≡◌}
use Rattle.mdinline_constructs.proofs.HtmlTexts.Picked.{does-by}
use Rattle.mdinline_constructs.proofs.HtmlTexts.Refused.{refused-any, test-fails}
use Rattle.mdinline_constructs.proofs.html_tag.html_text_end.Goals as goal

pub returns-in_default : goal.returns-in_default
returns-in_default g c =
    let t = c.args.t.now in
    let e0 : passes is_greater_than (sight_of t).current ≡ false = first_of (search rules, grind (arith, nat_tests)) in
    does-by
    (refused-any t (when (sees is_greater_than) html_ends no_html)
    (test-fails t is_greater_than html_ends no_html e0))
    (record { answered = refl; became = refl })
