use Rattle.std.proofs.Common.{sym, ap, ◌∙◌, arith}
use Rattle.std.specs.List.{prefix_len}
use Rattle.std.proofs.lemmas.Bool.{and_parts, ltb-true}
use Rattle.std.proofs.lemmas.List.{take_all}
use Rattle.mdblock_containers.specs.Letters.{is_plain}
use Rattle.mdblock_containers.proofs.PlainBytes.{one_more_plain}
use Rattle.mdblock_containers.proofs.texts.are_plain.Goals as goal

pub loop-byte-preserved : goal.loop-byte-preserved
loop-byte-preserved c = λ both.
    let parts = and_parts _ _ both in
    one_more_plain c.args.t.now c.loop-byte.byte-index c.loop-byte-test.true (ltb-true _ _ parts.1) (c.loop-byte.invariant parts.0)

pub returns : goal.returns
returns c = λ all.
    let t = c.args.t.now in
    ap (prefix_len is_plain) (sym (take_all c.loop-byte.byte-index t c.loop-byte-test.false)) ∙ c.loop-byte.invariant all ∙ omega arith
