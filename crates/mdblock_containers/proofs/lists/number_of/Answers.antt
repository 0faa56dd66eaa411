use Rattle.std.proofs.Common.{◌<◌, length, slice_index, arith}
use Rattle.mdblock_containers.proofs.ListNumbers.{digits_fit}
use Rattle.mdblock_containers.proofs.lists.number_of.Goals as goal

pub overflow_mul-number : goal.overflow_mul-number
overflow_mul-number c =
    let few : c.loop-digit.digit-index < 9 = omega arith in
    omega (arith, digits_fit c.loop-digit.number c.loop-digit.digit-index 48 c.loop-digit.invariant.small few (omega arith))

pub overflow_add-number : goal.overflow_add-number
overflow_add-number c =
    let few : c.loop-digit.digit-index < 9 = omega arith in
    let inside : c.loop-digit.digit-index < length c.args.digits.now = omega arith in
    let digit = c.requires c.loop-digit.digit-index inside in
    omega (arith, c.from.ensures, digits_fit c.loop-digit.number c.loop-digit.digit-index (slice_index c.args.digits.now c.loop-digit.digit-index) c.loop-digit.invariant.small few digit.1)
