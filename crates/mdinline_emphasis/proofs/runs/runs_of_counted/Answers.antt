use Rattle.mdinline_emphasis.proofs.Prelude.{◌≡◌, ◌+◌, true, false, ◌++◌, Some, map, drop, sym, ap, ◌∙◌, arith, append-nil, ◌==◌, ◌&&◌, slice_index_or, runs_from, is_sequence, run_at, as_run, and_left, and_right}
use Rattle.mdinline_emphasis.proofs.RunsFrom.{a-run, no-run, no-more, pushed, depth-grows, no_event}
use Rattle.mdinline_emphasis.proofs.runs.runs_of_counted.Goals as goal
use Rattle.mdinline_emphasis.proofs.runs.runs_of_counted.Goals.{else-depth-eq0-via-then-depth-eq0+else-is_sequence, else-depth-eq0-via-else-depth-eq0}

pub loop-index-preserved-then-is_sequence : goal.loop-index-preserved-then-is_sequence
loop-index-preserved-then-is_sequence g c =
    let l = c.loop-index in
    let xs = c.args.events.now in
    let e = slice_index_or xs l.index no_event in
    let f = slice_index_or xs (l.index + 1) no_event in
    let outside : (l.depth == 0) ≡ true = ap (λ n. n == 0) c.if-depth-eq0.true in (
      pushed l.runs.items c.push.new.self.items c.run_at.result _ _ _ _ c.in_ok-push.ensures.items (c.run_at.ensures ∙ ap (λ o. run_at c.args.one_tilde c.args.bytes.now l.index e f l.before o) c.index_of_event-behind.ensures)
          (a-run c.args.one_tilde c.args.bytes.now xs l.index l.depth l.before no_event c.loop-index-test.true outside (sym c.is_sequence.ensures ∙ c.if-is_sequence.true))
          l.invariant.0,
      omega (arith, c.loop-index-test.true),
      omega (arith, l.invariant.2),
      (let one = c.add_one.ensures in let so_far = l.invariant.3 in omega (arith, one, so_far)),
    )

pub loop-index-preserved : goal.loop-index-preserved
loop-index-preserved g c =
    let l = c.loop-index in
    let xs = c.args.events.now in
    let e = slice_index_or xs l.index no_event in
    let f = slice_index_or xs (l.index + 1) no_event in
    let none : (l.depth == 0 && is_sequence e f) ≡ false =
    elim c.else-depth-eq0.branch [
      | else-depth-eq0-via-then-depth-eq0+else-is_sequence w ↦ and_right (l.depth == 0) (is_sequence e f) (sym w.is_sequence.ensures ∙ w.if-is_sequence.false)
      | else-depth-eq0-via-else-depth-eq0 w ↦ and_left (l.depth == 0) (is_sequence e f) (grind (arith, w.if-depth-eq0.false))
    ] in (
      ap (λ d. map as_run l.runs.items ++ runs_from c.args.one_tilde c.args.bytes.now (l.index + 1) d (Some e.point.index) (drop (l.index + 1) xs)) c.depth_after-depth.ensures
          ∙ ap (λ rs. map as_run l.runs.items ++ rs) (sym (no-run c.args.one_tilde c.args.bytes.now xs l.index l.depth l.before no_event c.loop-index-test.true none)) ∙ l.invariant.0,
      omega (arith, c.loop-index-test.true),
      (let grows = depth-grows e.kind l.depth in let is = c.depth_after-depth.ensures in omega (arith, is, grows, l.invariant.2)),
      (let one = c.add_one.ensures in let so_far = l.invariant.3 in omega (arith, one, so_far)),
    )

pub returns-clause-runs : goal.returns-clause-runs
returns-clause-runs g c =
    let l = c.loop-index in
    sym (append-nil (map as_run l.runs.items)) ∙ ap (λ rs. map as_run l.runs.items ++ rs) (sym (no-more c.args.one_tilde c.args.bytes.now c.args.events.now l.index l.depth l.before c.loop-index-test.false)) ∙ l.invariant.0
