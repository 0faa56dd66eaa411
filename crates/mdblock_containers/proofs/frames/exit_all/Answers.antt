use Rattle.std.proofs.Common.{◌≡◌, ◌+◌, ◌-◌, ◌++◌, List, length, take, sym, ap, ◌∙◌, arith}
use Rattle.std.proofs.lemmas.List.{append-nil, take_all}
use Rattle.mdblock_containers.specs.declared.frames.Frame.{Frame}
use Rattle.mdblock_containers.specs.Frames.{exits_at}
use Rattle.mdblock_containers.proofs.FrameLemmas.{frames_left}
use Rattle.mdblock_containers.proofs.frames.exit_all.Goals as goal

pub loop-left-init : goal.loop-left-init
loop-left-init g c =
    let fs = c.args.frames.now in
    record {
      within = omega arith;
      events = ap (λ (l : List Frame). c.args.events.now.items ++ exits_at c.args.place l) (take_all (length fs) fs (omega arith));
      turns = omega arith;
    }

pub loop-left-preserved : goal.loop-left-preserved
loop-left-preserved g c =
    let i = c.loop-left.invariant in
    let fs = c.args.frames.now in
    let n = c.loop-left.left - 1 in
    let one : n + 1 ≡ c.loop-left.left = omega (arith, c.loop-left-test.true) in
    record {
      within = omega (arith, i.within);
      events = frames_left c.args.place fs n _ c.loop-left.events.items c.exit.new.events.items _ (omega (arith, i.within, c.loop-left-test.true)) c.in_ok-exit.ensures (ap (λ k. c.loop-left.events.items ++ exits_at c.args.place (take k fs)) one ∙ i.events);
      turns = omega (arith, i.turns, c.add_one.ensures, c.loop-left-test.true);
    }

pub returns : goal.returns
returns g c =
    let i = c.loop-left.invariant in
    let none : c.loop-left.left ≡ 0 = omega (arith, c.loop-left-test.false) in
    record {
      events = sym (append-nil c.loop-left.events.items) ∙ ap (λ k. c.loop-left.events.items ++ exits_at c.args.place (take k c.args.frames.now)) (sym none) ∙ i.events;
      turns = omega (arith, i.turns);
    }
