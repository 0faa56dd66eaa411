use Rattle.std.proofs.Common.{◌≡◌, ◌+◌, ◌-◌, length, take, drop, ap, sym, ◌∙◌, arith, length-drop}
use Rattle.std.specs.List.{prefix_len}
use Rattle.std.proofs.lemmas.List.{drop-drop, length-take-le}
use Rattle.mdblock_containers.specs.Letters.{is_plain}
use Rattle.mdblock_containers.proofs.PlainBytes.{passed_first}
use Rattle.mdblock_containers.proofs.texts.plain_blocks.Goals as goal

pub loop-next-preserved : goal.loop-next-preserved
loop-next-preserved g c =
    let next = c.loop-next.next in
    let t = c.args.t.now in
    let rest = drop next t in
    let size : next + 16 - next ≡ 16 = omega arith in
    let plain = (λ j. prefix_len is_plain (take (sym size j) rest)) ∙ c.are_plain.ensures c.if-not-are_plain.false ∙ (λ j. length (take (size j) rest)) in
    let long : length (take 16 rest) ≡ 16 = length-take-le 16 rest (omega (arith, c.loop-next-test.true, length-drop next t)) in
    let more = passed_first is_plain 16 rest plain in
    let behind = ap (prefix_len is_plain) (drop-drop 16 next t) in
    (omega (arith, long, more, behind, c.loop-next.invariant.0), omega (arith, c.loop-next-test.true), omega (arith, c.add_one.ensures, c.loop-next.invariant.2))
