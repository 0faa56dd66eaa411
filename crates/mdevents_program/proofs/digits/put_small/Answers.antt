use Rattle.mdevents_program.proofs.Prelude.{◌-◌, ◌+◌, ◌++◌, ◌≤◌, get_or, take, sym, subst, ap, ◌∙◌, arith}
use Rattle.mdevents_program.proofs.Numbers.{small-at, small-is}
use Rattle.mdevents_program.proofs.digits.put_small.Goals as goal

pub overflow_sub-digits : goal.overflow_sub-digits
overflow_sub-digits c = let n = c.args.number in subst (λ x. 48 ≤ get_or x 3 0) (sym (small-at n _ c.requires.0)) (omega (arith, (small-is n c.requires.0).1))

pub put_block-requires-clause-part : goal.put_block-requires-clause-part
put_block-requires-clause-part c =
    let n = c.args.number in subst (λ x. get_or x 3 0 - 48 ≤ 4) (sym (small-at n _ c.requires.0)) (omega (arith, (small-is n c.requires.0).2))

pub returns-clause-bytes : goal.returns-clause-bytes
returns-clause-bytes c =
    let n = c.args.number in let front = take c.args.at c.args.bytes.now in
    c.put_block.ensures.bytes ∙ ap (λ x. front ++ take (get_or x 3 0 - 48) x) (small-at n _ c.requires.0) ∙ ap (λ x. front ++ x) (small-is n c.requires.0).0

pub returns-clause-len : goal.returns-clause-len
returns-clause-len c =
    let n = c.args.number in
    c.put_block.ensures.behind ∙ ap (λ x. c.args.at + (get_or x 3 0 - 48)) (small-at n _ c.requires.0) ∙ omega (arith, (small-is n c.requires.0).1)
