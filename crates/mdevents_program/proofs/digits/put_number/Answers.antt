use Rattle.mdevents_program.proofs.Prelude.{take, arith}
use Rattle.mdevents_program.proofs.Numbers.{at-most-twenty, joined-digits, length-more}
use Rattle.mdevents_program.proofs.digits.put_number.Goals as goal

pub put_three-requires : goal.put_three-requires
put_three-requires c =
    let n = c.args.number in let first = c.put_small-behind in let fits = c.ranges.number.fits in
    (omega arith, omega (arith, first.ensures.len, first.auto.bytes, length-more n c.if-number-lt1000.false fits, at-most-twenty n fits, c.requires))

pub returns-then-number-lt1000000-clause-bytes : goal.returns-then-number-lt1000000-clause-bytes
returns-then-number-lt1000000-clause-bytes c =
    joined-digits c.args.number (take c.args.at c.args.bytes.now) _ _ c.if-number-lt1000.false c.ranges.number.fits c.put_small-behind.ensures.bytes c.put_three.ensures.bytes

pub returns-then-number-lt1000000-clause-len : goal.returns-then-number-lt1000000-clause-len
returns-then-number-lt1000000-clause-len c = omega (arith, c.put_three.ensures.len, c.put_small-behind.ensures.len, length-more c.args.number c.if-number-lt1000.false c.ranges.number.fits)

pub returns-then-number-lt1000-clause-most : goal.returns-then-number-lt1000-clause-most
returns-then-number-lt1000-clause-most c = omega (arith, c.put_small.ensures.len, at-most-twenty c.args.number c.ranges.number.fits)

pub returns-then-number-lt1000000-clause-most : goal.returns-then-number-lt1000000-clause-most
returns-then-number-lt1000000-clause-most c = omega (arith, returns-then-number-lt1000000-clause-len c, at-most-twenty c.args.number c.ranges.number.fits)

pub returns-else-number-lt1000000-clause-most : goal.returns-else-number-lt1000000-clause-most
returns-else-number-lt1000000-clause-most c = omega (arith, c.put_large.ensures.len, at-most-twenty c.args.number c.ranges.number.fits)
