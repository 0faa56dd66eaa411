use Rattle.std.proofs.Common.{arith, reverse, take}
use Rattle.std.proofs.lemmas.List.{length-map, length-reverse, length-take-le}
use Rattle.mdhtml_document.specs.Frames.{as_call, calls_of}
use Rattle.mdhtml_document.proofs.Numbers.{few-known}
use Rattle.mdhtml_document.proofs.notes.numbered_by.Goals as goal

pub add-requires : goal.add-requires
add-requires c =
    let front = take c.loop-at.at c.args.calls.now in
    let turned = length-reverse (calls_of front) in
    let same = length-map front as_call in
    let taken = length-take-le c.loop-at.at c.args.calls.now c.loop-at.invariant.room in
    few-known c.loop-at.all (reverse (calls_of front)) c.index-calls-at.result.label.items c.loop-at.invariant.known
    (omega (arith, turned, same, taken, c.loop-at-test.true))
