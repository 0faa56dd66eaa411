use Rattle.std.proofs.Common.{◌≡◌, ◌+◌, ◌∷◌, [], drop, map, refl, sym, ap, ◌∙◌, arith}
use Rattle.std.proofs.lemmas.List.{drop_all}
use Rattle.mdblock_containers.specs.Costs.{columns_in}
use Rattle.mdblock_containers.specs.Views.{open_of}
use Rattle.mdblock_table_marks.specs.Lines.{IsFurther, last_end}
use Rattle.mdblock_table_marks.proofs.LineLemmas.{rows-split}
use Rattle.mdblock_table_marks.proofs.TableWriting.{at-line, left-init, left-next, left-none}
use Rattle.mdblock_table_marks.proofs.tables.write_behind.Goals as goal

pub loop-i-init : goal.loop-i-init
loop-i-init g c = record {
  left = λ r rs are. left-init c.args.tab c.args.bytes.now (map open_of c.args.stack.now) c.args.end c.args.rows.now c.args.events.now.items r rs are;
  end = refl;
  turns = omega arith;
}

pub write_next-requires : goal.write_next-requires
write_next-requires g c =
    let rows = c.args.rows.now in
    let i = c.loop-i.i in
    let x = c.index-rows-i.result in
    record {
      limit = c.requires.limit;
      further = at-line (IsFurther c.args.tab c.args.bytes.now (map open_of c.args.stack.now)) rows i x (rows-split rows i x c.index-rows-i.is c.loop-i-test.true) c.requires.further;
    }

pub loop-i-preserved : goal.loop-i-preserved
loop-i-preserved g c =
    let t = c.args.tab in
    let bytes = c.args.bytes.now in
    let stack = map open_of c.args.stack.now in
    let rows = c.args.rows.now in
    let l = c.loop-i in
    let i = l.i in
    let x = c.index-rows-i.result in
    let split : drop i rows ≡ x ∷ drop (i + 1) rows = rows-split rows i x c.index-rows-i.is c.loop-i-test.true in
    let at = c.in_ok-place.ensures.place in
    let cost = ap columns_in split in
    record {
      left = λ r rs are. left-next t bytes stack l.place c.in_ok-place.place (drop i rows) x (drop (i + 1) rows) l.events.items c.write_next.new.events.items _ split at c.in_ok-place.ensures.events (l.invariant.left r rs are);
      end = ap (λ p. last_end t bytes p (drop (i + 1) rows)) at ∙ sym (ap (last_end t bytes l.place) split) ∙ l.invariant.end;
      turns = omega (arith, l.invariant.turns, c.add_one.ensures, c.write_next.ensures.turns, cost);
    }

pub returns : goal.returns
returns g c =
    let t = c.args.tab in
    let bytes = c.args.bytes.now in
    let stack = map open_of c.args.stack.now in
    let rows = c.args.rows.now in
    let l = c.loop-i in
    let none : drop l.i rows ≡ [] = drop_all l.i rows c.loop-i-test.false in
    record {
      events = λ r rs are. left-none t bytes stack l.place (drop l.i rows) l.events.items _ none (l.invariant.left r rs are);
      end = ap (last_end t bytes l.place) (sym none) ∙ l.invariant.end;
      turns = omega (arith, l.invariant.turns);
    }

pub returns-in_err-place-clause-turns : goal.returns-in_err-place-clause-turns
returns-in_err-place-clause-turns g c =
    let rows = c.args.rows.now in
    let i = c.loop-i.i in
    let x = c.index-rows-i.result in
    let cost = ap columns_in (rows-split rows i x c.index-rows-i.is c.loop-i-test.true) in
    omega (arith, c.loop-i.invariant.turns, c.add_one.ensures, c.write_next.ensures.turns, cost)
