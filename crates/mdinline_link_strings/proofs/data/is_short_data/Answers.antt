use Rattle.std.proofs.Common.{◌-◌, arith, length}
use Rattle.std.proofs.lemmas.Bool.{and_parts}
use Rattle.mdinline_link_strings.proofs.Together.{first-all, front-longer, part-all}
use Rattle.mdinline_link_strings.specs.Reached.{IsDataByte}
use Rattle.mdinline_link_strings.proofs.data.is_short_data.Goals as goal

pub returns : goal.returns
returns c = λ both k less.
    let text = c.args.text.now in
    let short = c.requires.short in
    let parts = and_parts _ _ both in
    front-longer IsDataByte text 0 8 (length text) (first-all IsDataByte text 0 8 c.requires.long (c.are_data-front.ensures parts.0))
    (λ i low high. part-all IsDataByte text 0 (length text - 8) (length text) (omega arith) (omega arith) (c.are_data-back.ensures parts.1) i (omega (arith, short, low)) high) k less
