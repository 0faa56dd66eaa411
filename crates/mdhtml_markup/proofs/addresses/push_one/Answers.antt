use Rattle.std.proofs.Common.{◌++◌, ◌+◌, ◌∙◌, ap, drop, take, refl, slice_index_or}
use Rattle.mdhtml_markup.specs.Addresses.{written_address, written_byte}
use Rattle.mdhtml_markup.proofs.Waits.{sliced, written}
use Rattle.mdhtml_markup.proofs.addresses.push_one.Goals as goal

pub returns-clause-added : goal.returns-clause-added
returns-clause-added c =
    let at = c.args.at in let from = c.args.from in let url = c.args.url.now in let one = written_byte (slice_index_or url at 0) in
    let waiting = ap (λ x. c.args.out.now.items ++ x) (sliced written_byte c.args.out.now.items url from at 0 c.requires.order c.requires.inside) in
    let rest = drop (at + 1) (take (at + 1) url) ++ written_address (drop (at + 1) url) in
    ap (λ x. x ++ rest) (c.in_ok-push_byte.ensures ∙ ap (λ x. x ++ one) (c.in_ok-extend_from_slice.ensures.items ∙ waiting))
    ∙ written written_byte c.args.out.now.items url from at 0 c.requires.order c.requires.inside one refl
