use Rattle.mdinline_labels.proofs.Prelude.{sym, ap, ◌∙◌, flat_map, option_to_list, on_ok_weaker, encode_utf8_all, to_uppercase}
use Rattle.mdinline_labels.proofs.CaseSteps.{listed, written, three, folded-three}
use Rattle.mdinline_labels.proofs.folding.push_folded.Goals as goal

pub returns : goal.returns
returns c =
    let one = c.next.ensures.steps in
    let two = c.next-2.ensures.steps in
    let last = c.next-3.ensures.steps in
    let x = option_to_list c.next.result in
    let y = option_to_list c.next-2.result in
    let z = option_to_list c.next-3.result in
    let all = listed c.to_lowercase-lower.result c.next.result c.next-2.result c.next-3.result (sym one.0) (sym (two.0 ∙ one.1)) (sym (last.0 ∙ two.1 ∙ one.2)) in
    let is = folded-three c.args.letter x y z c.if-letter-eq305.false (sym c.to_lowercase-lower.ensures.value ∙ all) in
    let a = flat_map to_uppercase x in
    let b = flat_map to_uppercase y in
    let d = flat_map to_uppercase z in
    on_ok_weaker c.push_upper-3.result
    (λ more. written _ _ _ _ (encode_utf8_all a) (encode_utf8_all b) (encode_utf8_all d) _ c.in_ok-push_upper.ensures c.in_ok-push_upper-2.ensures more (ap encode_utf8_all is ∙ three a b d))
    c.push_upper-3.ensures
