use Rattle.mdevents_program.proofs.Prelude.{take, arith}
use Rattle.mdevents_program.proofs.Numbers.{at-most-twenty, joined-digits, length-more}
use Rattle.mdevents_program.proofs.digits.+put_large.Goals as goal

pub put_three-requires : goal.put_three-requires
put_three-requires t c =
    let n = c.args.number in let first = c.put_large-behind in let fits = c.ranges.number.fits in
    (omega arith, omega (arith, first.ensures.len, first.auto.bytes, length-more n c.if-number-lt1000.false fits, at-most-twenty n fits, c.requires))

pub returns-clause-bytes : goal.returns-clause-bytes
returns-clause-bytes t c =
    joined-digits c.args.number (take c.args.at c.args.bytes.now) _ _ c.if-number-lt1000.false c.ranges.number.fits c.put_large-behind.ensures.bytes c.put_three.ensures.bytes

pub returns-clause-len : goal.returns-clause-len
returns-clause-len t c = omega (arith, c.put_three.ensures.len, c.put_large-behind.ensures.len, length-more c.args.number c.if-number-lt1000.false c.ranges.number.fits)
