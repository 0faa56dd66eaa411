use Rattle.std.proofs.lemmas.List.{drop_all}
use Rattle.mdinline_emphasis.proofs.Prelude.{◌≡◌, ◌+◌, ◌-◌, [], ◌++◌, take, take-length, drop, length, length-drop, map, ap, sym, ◌∙◌, arith, as_run, in_place}
use Rattle.mdinline_emphasis.proofs.Ends.{ends-more, ends-within}
use Rattle.mdinline_emphasis.proofs.RunEdits.{edited-placed, placed_from}
use Rattle.mdinline_emphasis.proofs.RunPlaces.{room-at, run-placed, run-within}
use Rattle.mdinline_emphasis.proofs.emphasis.placed_counted.Goals as goal

pub slice_bounds-extend_from_slice-end : goal.slice_bounds-extend_from_slice-end
slice_bounds-extend_from_slice-end g c =
    let within = run-within c.args.runs.now c.loop-run.run-index c.run-item.result c.loop-run-test.true c.run-item.is c.loop-run.from (length c.args.events.now) c.loop-run.invariant.apart in
    omega (arith, within.1)

pub offset_bounds-events-from : goal.offset_bounds-events-from
offset_bounds-events-from g c =
    let within = run-within c.args.runs.now c.loop-run.run-index c.run-item.result c.loop-run-test.true c.run-item.is c.loop-run.from (length c.args.events.now) c.loop-run.invariant.apart in
    omega (arith, within.0, within.1)

pub push_in_place-requires : goal.push_in_place-requires
push_in_place-requires g c = record { room = room-at c.args.runs.now c.loop-run.run-index c.run-item.result c.loop-run-test.true c.run-item.is c.requires.room }

pub overflow_add-from : goal.overflow_add-from
overflow_add-from g c =
    let within = run-within c.args.runs.now c.loop-run.run-index c.run-item.result c.loop-run-test.true c.run-item.is c.loop-run.from (length c.args.events.now) c.loop-run.invariant.apart in
    omega (arith, within.1)

pub loop-run-preserved : goal.loop-run-preserved
loop-run-preserved g c =
    let run = c.run-item.result in
    let i = c.loop-run.run-index in
    let events = c.args.events.now in
    let within = run-within c.args.runs.now i run c.loop-run-test.true c.run-item.is c.loop-run.from (length events) c.loop-run.invariant.apart in
    record {
      built = ap (λ ys. ys ++ placed_from (map as_run (drop (i + 1) c.args.runs.now)) (run.index + 2) (drop (run.index + 2) events)) (c.in_ok-push_in_place.ensures.events ∙ ap (λ ys. ys ++ in_place (as_run run)) c.in_ok-extend_from_slice.ensures.items)
          ∙ run-placed c.args.runs.now i run c.loop-run-test.true c.run-item.is c.loop-run.from c.loop-run.out.items events (placed_from (map as_run c.args.runs.now) 0 events) within.0 c.loop-run.invariant.built;
      apart = within.2;
      turns =
          let one = c.add_one.ensures in
          let so_far = c.loop-run.invariant.turns in
          let pairs = c.push_in_place.ensures.turns in
          let more = ends-more c.args.runs.now i run c.loop-run-test.true c.run-item.is in
          omega (arith, one, so_far, pairs, more);
    }

pub returns-in_err-extend_from_slice-clause-turns : goal.returns-in_err-extend_from_slice-clause-turns
returns-in_err-extend_from_slice-clause-turns g c =
    let one = c.add_one.ensures in
    let so_far = c.loop-run.invariant.turns in
    let all = ends-within c.args.runs.now c.loop-run.run-index in
    let inside = c.loop-run-test.true in
    omega (arith, one, so_far, all, inside)

pub returns-in_err-push_in_place-clause-turns : goal.returns-in_err-push_in_place-clause-turns
returns-in_err-push_in_place-clause-turns g c =
    let one = c.add_one.ensures in
    let so_far = c.loop-run.invariant.turns in
    let pairs = c.push_in_place.ensures.turns in
    let more = ends-more c.args.runs.now c.loop-run.run-index c.run-item.result c.loop-run-test.true c.run-item.is in
    let all = ends-within c.args.runs.now (c.loop-run.run-index + 1) in
    let inside = c.loop-run-test.true in
    omega (arith, one, so_far, pairs, more, all, inside)

pub returns-clause-placed : goal.returns-clause-placed
returns-clause-placed g c =
    let events = c.args.events.now in
    let from = c.loop-run.from in
    let whole = edited-placed (map as_run c.args.runs.now) events c.requires.disjoint c.requires.unlinked in
    let none : map as_run (drop c.loop-run.run-index c.args.runs.now) ≡ [] = ap (map as_run) (drop_all c.loop-run.run-index c.args.runs.now c.loop-run-test.false) in
    let rest : take (length events - from) (drop from events) ≡ drop from events = ap (λ n. take n (drop from events)) (sym (length-drop from events)) ∙ take-length (drop from events) in
    let last : c.extend_from_slice-2.new.self.items ≡ c.loop-run.out.items ++ drop from events = grind (arith, rest, c.in_ok-extend_from_slice-2.ensures.items) in
    last
    ∙ ap (λ rs. c.loop-run.out.items ++ placed_from rs from (drop from events)) (sym none)
    ∙ c.loop-run.invariant.built
    ∙ sym whole
