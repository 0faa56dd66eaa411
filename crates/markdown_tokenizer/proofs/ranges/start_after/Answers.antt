use Rattle.markdown_tokenizer.proofs.Prelude.{◌≡◌, true, Point, denotes_same}
use Rattle.std.proofs.lemmas.Bool.{cond_both}
use Rattle.markdown_tokenizer.proofs.Positions.Cursors.{same-self}
use Rattle.markdown_tokenizer.proofs.ranges.start_after.Goals as goal

pub returns-in-None-clause-start : goal.returns-in-None-clause-start
returns-in-None-clause-start c = let e = c.in-None.is in rw e (same-self c.args.tab c.args.bytes.now c.args.end)

-- a gap that ends at the same byte leaves the text's end as it is
pub returns-then-is_gap_from-clause-start : goal.returns-then-is_gap_from-clause-start
returns-then-is_gap_from-clause-start c =
    let t = c.args.tab in let bytes = c.args.bytes.now in let p = c.args.end in let w = c.in-Some.place in
    let e = c.in-Some.is in
    rw e (cond_both (denotes_same t bytes w p) p w (λ (q : Point). denotes_same t bytes w q ≡ true) (λ same. same) (λ other. same-self t bytes w))
