use Rattle.std.proofs.Common.{◌+◌, ◌++◌, ◌∙◌, ap, arith}
use Rattle.mdinline_links.proofs.Costs.{write-more, write-within}
use Rattle.mdinline_links.proofs.Written.{written-more}
use Rattle.mdinline_links.specs.Pieces.{put}
use Rattle.mdinline_links.proofs.pieces.written.Goals as goal

pub loop-next-preserved : goal.loop-next-preserved
loop-next-preserved g c =
    let more = write-more c.args.pieces.now c.loop-next.next c.index-pieces-next.result c.loop-next-test.true c.index-pieces-next.is in
    let one = c.add_one.ensures in
    let so_far = c.loop-next.invariant.turns in
    let pairs = c.push_piece.ensures.turns in
    let inside = c.loop-next-test.true in
    record {
      built = c.in_ok-held.ensures.written ∙ ap (λ xs. xs ++ put c.args.events.now xs c.index-pieces-next.result) c.loop-next.invariant.built
          ∙ written-more c.args.events.now c.args.pieces.now c.loop-next.next c.index-pieces-next.result inside c.index-pieces-next.is;
      order = c.in_ok-held.ensures.order;
      inside = c.in_ok-held.ensures.inside;
      within = omega (arith, inside);
      turns = omega (arith, more, one, so_far, pairs);
    }

pub returns-in_err-held-clause-turns : goal.returns-in_err-held-clause-turns
returns-in_err-held-clause-turns g c =
    let more = write-more c.args.pieces.now c.loop-next.next c.index-pieces-next.result c.loop-next-test.true c.index-pieces-next.is in
    let all = write-within c.args.pieces.now (c.loop-next.next + 1) in
    let one = c.add_one.ensures in
    let so_far = c.loop-next.invariant.turns in
    let pairs = c.push_piece.ensures.turns in
    omega (arith, more, all, one, so_far, pairs)

pub returns-in_err-extend_from_slice-clause-turns : goal.returns-in_err-extend_from_slice-clause-turns
returns-in_err-extend_from_slice-clause-turns g c =
    let so_far = c.loop-next.invariant.turns in
    let all = write-within c.args.pieces.now c.loop-next.next in
    omega (arith, so_far, all)

pub returns-clause-turns : goal.returns-clause-turns
returns-clause-turns g c =
    let so_far = c.loop-next.invariant.turns in
    let all = write-within c.args.pieces.now c.loop-next.next in
    omega (arith, so_far, all)
