use Rattle.mdinline_labels.proofs.Prelude.{sym, ap, ◌∙◌, option_to_list, on_ok_weaker, encode_utf8_all}
use Rattle.mdinline_labels.proofs.CaseSteps.{listed, written, three}
use Rattle.mdinline_labels.proofs.folding.push_all.Goals as goal

pub returns : goal.returns
returns c =
    let one = c.next.ensures.steps in
    let two = c.next-2.ensures.steps in
    let last = c.next-3.ensures.steps in
    let x = option_to_list c.next.result in
    let y = option_to_list c.next-2.result in
    let z = option_to_list c.next-3.result in
    let all = listed c.args.letters c.next.result c.next-2.result c.next-3.result (sym one.0) (sym (two.0 ∙ one.1)) (sym (last.0 ∙ two.1 ∙ one.2)) in
    on_ok_weaker c.push_some-3.result
    (λ more. written _ _ _ _ (encode_utf8_all x) (encode_utf8_all y) (encode_utf8_all z) _ c.in_ok-push_some.ensures c.in_ok-push_some-2.ensures more (ap encode_utf8_all all ∙ three x y z))
    c.push_some-3.ensures
