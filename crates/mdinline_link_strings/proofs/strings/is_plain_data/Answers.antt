use Rattle.mdinline_link_strings.proofs.PlainRanges.{plain-data}
use Rattle.mdinline_link_strings.proofs.strings.is_plain_data.Goals as goal

pub returns-clause-plain : goal.returns-clause-plain
returns-clause-plain g c = λ h on.
    let alone = c.if-not-is_data_alone.false in
    plain-data on c.args.tab c.args.bytes.now c.args.enter.now c.args.exit.now (c.is_data_alone.ensures.data alone) (c.is_data_alone.ensures.enter alone) (c.is_data_alone.ensures.exit alone) (c.are_plain_between.ensures.plain h)
