use Rattle.markdown_tokenizer.proofs.Prelude.{arith, slice_index, one_byte, two_bytes, rules}
use Rattle.markdown_tokenizer.proofs.Inside.Over.{all-upto}
use Rattle.markdown_tokenizer.proofs.tokenizer.running.over_from.Goals as goal

pub loop-at-init : goal.loop-at-init
loop-at-init g c = record {
  from = c.requires.later;
  until = c.requires.before;
  over = all-upto c.args.later c.requires.later c.requires.read;
}

pub loop-at-preserved-then-over-bytes : goal.loop-at-preserved-then-over-bytes
loop-at-preserved-then-over-bytes g c =
    let i = c.loop-at.invariant in let here = c.loop-at-test.true in let from = i.from in
    record {
      from = omega (arith, from);
      until = λ _. omega (arith, here);
      over = one_byte i.over (c.requires.over (slice_index c.args.bytes.now c.loop-at.at) (search (rules, c.if-over-bytes.true)));
    }

pub loop-at-preserved : goal.loop-at-preserved
loop-at-preserved g c =
    let i = c.loop-at.invariant in let here = c.loop-at-test.true in let from = i.from in let two = c.if-until-at-ge2.true in
    record {
      from = omega (arith, from);
      until = λ _. omega (arith, here, two);
      over = two_bytes i.over c.if-is_pair_over.ensures;
    }
