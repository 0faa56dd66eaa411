use Rattle.mdinline_emphasis.proofs.Prelude.{◌+◌, map, take, get_or, ap, ◌∙◌, arith, get_or_default, edit_at, put_after, removal_at, in_place, edits_of, as_run}
use Rattle.mdinline_emphasis.proofs.Ends.{ends-more, ends-within}
use Rattle.mdinline_emphasis.proofs.RunPlaces.{fits-behind, one-more, room-at}
use Rattle.mdinline_emphasis.proofs.emphasis.put_edits_counted.Goals as goal

pub in_place_counted-requires : goal.in_place_counted-requires
in_place_counted-requires g c = record { room = room-at c.args.runs.now c.loop-next.next c.index-runs-next.result c.loop-next-test.true c.index-runs-next.is c.requires.room }

pub add-requires : goal.add-requires
add-requires g c =
    let i = c.loop-next.next in
    let run = get_or c.args.runs.now i c.index-runs-next-in-loop-next.result in
    let none = ap (λ es. removal_at es run.index) c.loop-next.invariant.0 ∙ fits-behind c.args.runs.now i run c.loop-next-test.true (get_or_default c.args.runs.now i _ run c.loop-next-test.true) c.requires.apart in
    record { sum_fits = λ h. omega (arith, none) }

pub loop-next-preserved : goal.loop-next-preserved
loop-next-preserved g c =
    let i = c.loop-next.next in
    let run = get_or c.args.runs.now i c.index-runs-next-in-loop-next.result in
    let is = get_or_default c.args.runs.now i c.index-runs-next-in-loop-next.result run c.loop-next-test.true in
    let same = c.index-runs-next.is ∙ get_or_default c.args.runs.now i _ c.index-runs-next-in-loop-next.result c.loop-next-test.true in (
      c.in_ok-add.ensures.ok
          ∙ ap (λ es. put_after es (edit_at run.index 2 c.in_ok-events.events.items)) c.loop-next.invariant.0
          ∙ ap (λ ys. put_after (edits_of (map as_run (take i c.args.runs.now))) (edit_at run.index 2 ys)) (c.in_ok-events.ensures.events ∙ ap (λ d. in_place (as_run d)) same)
          ∙ one-more c.args.runs.now i run c.loop-next-test.true is c.requires.apart,
      omega (arith, c.loop-next-test.true),
      (
          let one = c.add_one.ensures in
          let so_far = c.loop-next.invariant.2 in
          let pairs = c.in_place_counted.ensures.turns in
          let more = ends-more c.args.runs.now i c.index-runs-next.result c.loop-next-test.true c.index-runs-next.is in
          omega (arith, one, so_far, pairs, more)
          ),
    )

pub returns-in_err-events-clause-turns : goal.returns-in_err-events-clause-turns
returns-in_err-events-clause-turns g c =
    let one = c.add_one.ensures in
    let so_far = c.loop-next.invariant.2 in
    let pairs = c.in_place_counted.ensures.turns in
    let more = ends-more c.args.runs.now c.loop-next.next c.index-runs-next.result c.loop-next-test.true c.index-runs-next.is in
    let all = ends-within c.args.runs.now (c.loop-next.next + 1) in
    omega (arith, one, so_far, pairs, more, all)

pub returns-in_err-add-clause-turns : goal.returns-in_err-add-clause-turns
returns-in_err-add-clause-turns g c =
    let one = c.add_one.ensures in
    let so_far = c.loop-next.invariant.2 in
    let pairs = c.in_place_counted.ensures.turns in
    let more = ends-more c.args.runs.now c.loop-next.next c.index-runs-next.result c.loop-next-test.true c.index-runs-next.is in
    let all = ends-within c.args.runs.now (c.loop-next.next + 1) in
    omega (arith, one, so_far, pairs, more, all)
