use Rattle.mdinline_labels.proofs.Prelude.{◌++◌, sym, ap, ◌∙◌, append-nil, flat_map, option_to_list, on_ok_weaker, encode_utf8_all, string_bytes, to_uppercase}
use Rattle.mdinline_labels.proofs.folding.push_upper.Goals as goal

pub returns-in-Some : goal.returns-in-Some
returns-in-Some c =
    let one = c.to_uppercase.ensures.value ∙ sym (append-nil (to_uppercase c.in-Some.letter)) in
    on_ok_weaker c.push_all.result
    (λ more. more ∙ ap (λ t. string_bytes c.args.out.now ++ encode_utf8_all t) (one ∙ ap (λ o. flat_map to_uppercase (option_to_list o)) (sym c.in-Some.is)))
    c.push_all.ensures
