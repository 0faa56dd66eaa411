use Rattle.std.proofs.Common.{◌≡◌, ◌<◌, ◌≤◌, ◌+◌, ℕ, cond, List, length, ap, drop, refl, sym, subst, ◌∙◌, arith}
use Rattle.std.specs.Prelude.{◌==◌}
use Rattle.mdconstructs_tables.specs.Breaks.{is_white}
use Rattle.mdblock_leaf_blocks.specs.LineKinds.{indent}
use Rattle.mdblock_lines.specs.Containers.{Prefix}
use Rattle.mdblock_containers.specs.Prefixes.{columns_of}
use Rattle.mdblock_containers.proofs.CostLemmas.{going_paid, over_walk, some_size_at}
use Rattle.mdblock_containers.proofs.GoingLemmas.{prefix_within, going_step, going_columns, going_end}
use Rattle.mdblock_containers.specs.Over.{AreOver}
use Rattle.mdblock_containers.proofs.OverLemmas.{at_end, over_all, over_columns, over_many, over_more}
use Rattle.mdblock_containers.proofs.going.going_on.Goals as goal

pub goes_on_open-requires-clause-within : goal.goes_on_open-requires-clause-within
goes_on_open-requires-clause-within g c =
    let w : indent (drop c.loop-entry.at c.args.t.now) ≤ length (drop c.loop-entry.at c.args.t.now) = prefix_within is_white (drop c.loop-entry.at c.args.t.now) in
    let l : length c.behind.result.now ≡ length (drop c.loop-entry.at c.args.t.now) = ap length c.behind.ensures.value in
    omega (arith, c.loop-entry.invariant.first)

pub loop-entry-preserved : goal.loop-entry-preserved
loop-entry-preserved g c =
    let i = c.loop-entry.invariant in
    let h : c.loop-entry.entry-index < length c.args.stack.now = omega arith in
    let s = going_step c.args.stack.now c.args.number c.args.t.now c.behind.result.now c.loop-entry.entry-index c.loop-entry.at _ h c.behind.ensures.value c.in-Some.size c.in-Some.ensures.value in
    let m = going_columns c.args.stack.now c.args.number c.args.t.now c.behind.result.now c.loop-entry.entry-index c.loop-entry.at _ h c.behind.ensures.value c.in-Some.size c.in-Some.ensures.value in
    let n = ap (λ (ps : List Prefix). length ps) s in
    let count : c.loop-entry.many + 1 ≡ c.loop-entry.entry-index + 1 = omega (arith, i.count) in
    let some : c.loop-entry.at < length c.args.t.now → 1 ≤ c.in-Some.size = λ less.
    some_size_at c.args.stack.now c.loop-entry.entry-index _ c.args.number c.behind.result.now c.in-Some.size c.requires.sizes h (omega (arith, less, c.behind.ensures.len)) c.in-Some.ensures.value in
    let walk = over_walk (length c.args.t.now) c.args.over c.loop-entry.at c.loop-entry.from c.loop-entry.many c.in-Some.size _ i.filled i.within i.stopped some (sym c.goes_over.ensures ∙ c.if-goes_over.false) c.over_behind-from.ensures in
    record {
      many = omega (arith, i.many, n);
      columns = omega (arith, i.columns, m);
      count = omega (arith, i.count);
      within = omega (arith, c.in-Some.ensures.within, c.behind.ensures.len, i.within);
      first = c.first_from-first.ensures.value;
      over = λ before.
          subst (λ (f : ℕ). AreOver (c.args.number + 1) f (c.loop-entry.entry-index + 1) c.args.stack.now)
          (sym (c.over_behind-from.ensures ∙ (λ k. cond (c.loop-entry.at == length c.args.t.now) c.loop-entry.from (count k))))
          (over_more c.args.number c.in-Some.size c.loop-entry.from c.loop-entry.entry-index c.args.stack.now _ c.args.t.now c.behind.result.now c.loop-entry.at h before (i.over before) c.behind.ensures.value c.in-Some.ensures.value);
      filled = walk.0;
      stopped = walk.1;
      turns = omega (arith, i.turns, c.add_one.ensures, c.first_from-first.ensures.turns);
    }

pub returns-in_default-clause-many : goal.returns-in_default-clause-many
returns-in_default-clause-many g c =
    let i = c.loop-entry.invariant in
    let h : c.loop-entry.entry-index < length c.args.stack.now = omega arith in
    let s = going_end c.args.stack.now c.args.number c.args.t.now c.behind.result.now c.loop-entry.entry-index c.loop-entry.at _ h c.behind.ensures.value c.in_default.ensures.value in
    let n = ap (λ (ps : List Prefix). length ps) s in
    omega (arith, i.many, n, i.count)

pub returns-in_default-clause-columns : goal.returns-in_default-clause-columns
returns-in_default-clause-columns g c =
    let i = c.loop-entry.invariant in
    let h : c.loop-entry.entry-index < length c.args.stack.now = omega arith in
    let s = going_end c.args.stack.now c.args.number c.args.t.now c.behind.result.now c.loop-entry.entry-index c.loop-entry.at _ h c.behind.ensures.value c.in_default.ensures.value in
    let n = ap columns_of s in
    omega (arith, i.columns, n)

pub returns-in_default-clause-over : goal.returns-in_default-clause-over
returns-in_default-clause-over g c = λ before. subst (λ (n : ℕ). AreOver (c.args.number + 1) c.loop-entry.from n c.args.stack.now) (sym c.loop-entry.invariant.count) (c.loop-entry.invariant.over before)

pub returns-then-goes_over : goal.returns-then-goes_over
returns-then-goes_over g c =
    let i = c.loop-entry.invariant in
    let stack = c.args.stack.now in
    let n = c.loop-entry.entry-index in
    let here : n < length stack = omega arith in
    let is = at_end c.loop-entry.at (length c.args.t.now) c.args.over c.loop-entry.many (sym c.goes_over.ensures ∙ c.if-goes_over.true) in
    let le : c.args.over ≤ n = omega (arith, is.1, i.count) in
    let none : length c.args.t.now ≤ c.loop-entry.at = omega (arith, is.0) in
    let many = over_many stack c.args.number c.args.t.now n c.loop-entry.at c.args.over c.requires.over le none in
    let paid = going_paid c.args.turns.now c.loop-entry.turns c.add_one.new.self c.loop-entry.first c.loop-entry.at c.loop-entry.from c.loop-entry.many c.args.over (length c.args.t.now) c.args.t.now i.filled i.within i.first refl i.stopped i.turns c.add_one.ensures in
    let columns = over_columns stack c.args.number c.args.t.now n c.loop-entry.at c.args.over c.requires.over le none in
    record {
      many = omega (arith, i.many, many, here);
      columns = omega (arith, i.columns, columns);
      few = omega (arith);
      within = i.within;
      over = λ before. (over_all c.args.number c.loop-entry.from n c.args.over stack le c.requires.over (i.over before));
      turns = paid.0;
      full = paid.1;
    }

pub returns-in_default-clause-turns : goal.returns-in_default-clause-turns
returns-in_default-clause-turns g c =
    let i = c.loop-entry.invariant in
    (going_paid c.args.turns.now c.loop-entry.turns c.add_one.new.self c.loop-entry.first c.loop-entry.at c.loop-entry.from c.loop-entry.many c.args.over (length c.args.t.now) c.args.t.now i.filled i.within i.first refl i.stopped i.turns c.add_one.ensures).0

pub returns-in_default-clause-full : goal.returns-in_default-clause-full
returns-in_default-clause-full g c =
    let i = c.loop-entry.invariant in
    (going_paid c.args.turns.now c.loop-entry.turns c.add_one.new.self c.loop-entry.first c.loop-entry.at c.loop-entry.from c.loop-entry.many c.args.over (length c.args.t.now) c.args.t.now i.filled i.within i.first refl i.stopped i.turns c.add_one.ensures).1

pub returns-clause-turns : goal.returns-clause-turns
returns-clause-turns g c =
    let i = c.loop-entry.invariant in
    let p = (going_paid c.args.turns.now c.loop-entry.turns (c.loop-entry.turns + 1) c.loop-entry.first c.loop-entry.at c.loop-entry.from c.loop-entry.many c.args.over (length c.args.t.now) c.args.t.now i.filled i.within i.first refl i.stopped i.turns refl).0 in
    omega (arith, p)

pub returns-clause-full : goal.returns-clause-full
returns-clause-full g c = λ less.
    let i = c.loop-entry.invariant in
    let p = (going_paid c.args.turns.now c.loop-entry.turns (c.loop-entry.turns + 1) c.loop-entry.first c.loop-entry.at c.loop-entry.from c.loop-entry.many c.args.over (length c.args.t.now) c.args.t.now i.filled i.within i.first refl i.stopped i.turns refl).1 less in
    omega (arith, p)
