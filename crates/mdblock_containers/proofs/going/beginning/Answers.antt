use Rattle.std.proofs.Common.{◌≡◌, ◌≤◌, ◌-◌, subst, sym, refl, map, drop, length, length-drop, List, arith}
use Rattle.mdconstructs_tables.specs.Breaks.{is_white}
use Rattle.mdblock_leaf_blocks.specs.LineKinds.{indent}
use Rattle.mdblock_lines.specs.declared.containers.Prefix.{Prefix}
use Rattle.mdblock_lines.specs.Views.{prefix_of}
use Rattle.mdblock_containers.proofs.GoingLemmas.{AreBegun, begun_init, begun_push, begun_end, prefix_within}
use Rattle.mdblock_containers.proofs.going.beginning.Goals as goal

pub loop-prefix-init : goal.loop-prefix-init
loop-prefix-init g c = record {
  begun = subst (λ (xs : List Prefix). AreBegun c.args.on.now c.args.number c.args.in_paragraph c.args.t.now (map (prefix_of c.args.number) xs) 0 c.args.in_paragraph) (sym c.clear.ensures.items)
      (begun_init c.args.on.now c.args.number c.args.in_paragraph c.args.t.now);
  turns = omega (arith, c.breaks_in-breaks.ensures.turns);
}

pub begins_at-requires-clause-breaks : goal.begins_at-requires-clause-breaks
begins_at-requires-clause-breaks g c = c.breaks_in-breaks.ensures.value c.loop-prefix.at c.loop-prefix.invariant.begun.within

pub loop-prefix-preserved : goal.loop-prefix-preserved
loop-prefix-preserved g c = record {
  begun = begun_push c.args.on.now c.args.number c.args.in_paragraph c.args.t.now c.loop-prefix.begun.items c.push.new.self.items c.in-Some.prefix c.loop-prefix.at c.loop-prefix.may_go_on (drop c.loop-prefix.at c.args.t.now)
      c.in_ok-push.ensures.items c.loop-prefix.invariant.begun refl c.in-Some.ensures.value;
  turns = omega (arith, c.loop-prefix.invariant.turns, c.add_one.ensures, c.in-Some.ensures.found, c.in-Some.ensures.some);
}

pub returns : goal.returns
returns g c =
    let e = begun_end c.args.on.now c.args.number c.args.in_paragraph c.args.t.now (map (prefix_of c.args.number) c.loop-prefix.begun.items) c.loop-prefix.at c.loop-prefix.may_go_on (drop c.loop-prefix.at c.args.t.now)
    c.loop-prefix.invariant.begun refl c.in_default.ensures.value in
    let left : length (drop c.loop-prefix.at c.args.t.now) ≡ length c.args.t.now - c.loop-prefix.at = length-drop c.loop-prefix.at c.args.t.now in
    let white : indent (drop c.loop-prefix.at c.args.t.now) ≤ length (drop c.loop-prefix.at c.args.t.now) = prefix_within is_white (drop c.loop-prefix.at c.args.t.now) in
    record { begun = e.0; columns = e.1; within = c.loop-prefix.invariant.begun.within; turns = omega (arith, c.loop-prefix.invariant.turns, c.begins_at.ensures.turns, c.loop-prefix.invariant.begun.within, left, white) }
