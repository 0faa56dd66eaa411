use Rattle.markdown_tokenizer.proofs.Prelude.{arith, IsByteOver}
use Rattle.markdown_tokenizer.proofs.Blocks.{and_block}
use Rattle.markdown_tokenizer.proofs.tokenizer.running.over_blocks.Goals as goal

pub loop-at-preserved : goal.loop-at-preserved
loop-at-preserved g c =
    let at = c.loop-at.at in
    let inside = c.requires.inside in
    let room = c.if-until-at-ge16.true in
    let here = c.loop-at-test.true in
    let from = c.loop-at.invariant.from in
    record {
      from = omega arith;
      until = λ _. omega arith;
      over = and_block (IsByteOver (g.M.Machine.rules c.args.machine.now) c.args.name) c.args.bytes.now c.args.from at 16 (omega arith) c.loop-at.invariant.over c.if-not-reads_over_all.ensures;
    }
