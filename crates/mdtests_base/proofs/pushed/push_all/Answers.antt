use Rattle.mdtests_base.proofs.Prelude.{◌∙◌, get_or, None, inl, inr, given_by, ranges-start, ranges-at, ranges-gap, ranges-passed, ranges-range, ranges-holds, ranges-pushed}
use Rattle.mdtests_base.proofs.pushed.push_all.Goals as goal
use Rattle.mdtests_base.proofs.pushed.push_all.Goals.{in-Some+in_ok-define_skip, in_default}

pub loop-gap-init : goal.loop-gap-init
loop-gap-init g c =
    let bytes = c.args.parse_state.now.bytes.now in let options = c.args.parse_state.now.options.now in let m = c.args.parse_state.now.machine.now in
    ranges-start g.M.Machine.rules bytes options m c.requires.document (g.met.M.Machine.lawful m (given_by bytes options)).invariant_kept c.args.start c.requires.start c.args.ranges.now c.requires.ranges
    c.args.tokenizer.now c.requires.fresh

pub define_skip-requires : goal.define_skip-requires
define_skip-requires g c =
    let x = get_or c.args.ranges.now c.loop-gap.gap-index (None, (0, 0), (0, 0)) in
    let r = ranges-at _ _ _ c.args.ranges.now c.loop-gap.gap-index (None, (0, 0), (0, 0)) _ _ c.loop-gap-test.true c.loop-gap.invariant in
    ranges-gap _ _ _ x c.in-Some.place _ _ _ c.in-Some.is r

pub push-requires : goal.push-requires
push-requires g c =
    let x = get_or c.args.ranges.now c.loop-gap.gap-index (None, (0, 0), (0, 0)) in
    let r = ranges-at _ _ _ c.args.ranges.now c.loop-gap.gap-index (None, (0, 0), (0, 0)) _ _ c.loop-gap-test.true c.loop-gap.invariant in
    let passed = ranges-passed _ _ _ x _ _ c.match-gap.tokenizer _ r
    (elim c.match-gap.branch [
      | in-Some+in_ok-define_skip w ↦ inl (w.in-Some.place, w.in-Some.is, w.tokenizer-is ∙ w.in_ok-define_skip.ensures.ok)
      | in_default w ↦ inr (w.in_default.is, w.tokenizer-is)
    ]) in
    record { range = λ _. ranges-range _ _ _ _ _ _ _ _ passed; holds = λ _. ranges-holds _ _ _ _ _ _ passed }

pub loop-gap-preserved : goal.loop-gap-preserved
loop-gap-preserved g c =
    let x = get_or c.args.ranges.now c.loop-gap.gap-index (None, (0, 0), (0, 0)) in
    let r = ranges-at _ _ _ c.args.ranges.now c.loop-gap.gap-index (None, (0, 0), (0, 0)) _ _ c.loop-gap-test.true c.loop-gap.invariant in
    let passed = ranges-passed _ _ _ x _ _ c.match-gap.tokenizer _ r
    (elim c.match-gap.branch [
      | in-Some+in_ok-define_skip w ↦ inl (w.in-Some.place, w.in-Some.is, w.tokenizer-is ∙ w.in_ok-define_skip.ensures.ok)
      | in_default w ↦ inr (w.in_default.is, w.tokenizer-is)
    ]) in
    ranges-pushed _ _ _ _ _ _ _ _ passed c.push.new.self c.in-Ok.next c.in-Ok.ensures.ok

pub flush-requires : goal.flush-requires
flush-requires g c = record { holds = λ _. ranges-holds _ _ _ _ _ _ c.loop-gap.invariant }
