use Rattle.mdinline_characters.proofs.Prelude.{◌∙◌, ap, sym, ◌+◌, ◌≡◌, ◌++◌, [], ◌∷◌, arith, length, suc, take, Less, slice_cmp, nat_cmp, ordering_then}
use Rattle.mdinline_characters.proofs.Fronts.{longer-front, shorter-front}
use Rattle.mdinline_characters.proofs.order_of_front.Goals as goal

pub returns-then-name-start : goal.returns-then-name-start
returns-then-name-start c =
    let name = c.args.name.now in
    let start = c.args.start.now in
    let more : suc (length start) ≡ length start + 1 = omega arith in
    let is = longer-front name start c.args.next 0 (omega arith) in
    c.then.ensures ∙ (λ i. ordering_then (c.cmp.ensures i) (c.cmp-then-name-start.ensures i)) ∙ sym is ∙ ap (λ n. slice_cmp nat_cmp (take n name) (start ++ (c.args.next ∷ []))) more

pub returns-else-name-start : goal.returns-else-name-start
returns-else-name-start c =
    let name = c.args.name.now in
    let start = c.args.start.now in
    let more : suc (length start) ≡ length start + 1 = omega arith in
    let is = shorter-front name start c.args.next (omega arith) in
    c.then-else-name-start.ensures ∙ ap (λ o. ordering_then o Less) c.cmp-else-name-start.ensures ∙ sym is ∙ ap (λ n. slice_cmp nat_cmp (take n name) (start ++ (c.args.next ∷ []))) more
