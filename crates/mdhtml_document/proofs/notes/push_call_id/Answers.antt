use Rattle.std.proofs.Common.{◌++◌, [], ℕ, List, ap, append-nil, append_assoc, sym, ◌∙◌}
use Rattle.std.specs.Fmt.{decimal}
use Rattle.std.specs.Prelude.{◌==◌, codes, cond}
use Rattle.mdhtml_document.proofs.notes.push_call_id.Goals as goal

pub returns-then-repeat-eq1 : goal.returns-then-repeat-eq1
returns-then-repeat-eq1 c =
    let old = c.args.out.now.items in
    let n = decimal c.args.number in
    c.in_ok-push_decimal.ensures ∙ ap (λ (x : List ℕ). x ++ n) c.in_ok-extend_from_slice.ensures.items ∙ append_assoc old (codes "user-content-fnref-") n
    ∙ ap (λ (x : List ℕ). old ++ (codes "user-content-fnref-" ++ x))
    (sym (ap (λ r. n ++ cond (r == 1) [] (codes "-" ++ decimal r)) c.if-repeat-eq1.true ∙ append-nil n))
