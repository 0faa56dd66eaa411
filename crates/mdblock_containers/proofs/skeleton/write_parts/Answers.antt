use Rattle.std.proofs.Common.{◌≡◌, ℕ, suc, ◌+◌, ◌-◌, ◌*◌, ◌≤◌, false, List, [], ◌∷◌, ◌++◌, length, take, drop, map, refl, sym, ap, ◌∙◌, subst, arith, length-drop}
use Rattle.std.specs.Prelude.{None}
use Rattle.std.proofs.lemmas.List.{drop_all, drop-drop, take_rest}
use Rattle.markdown_base.specs.declared.event.Event.{Event}
use Rattle.mdblock_leaf_blocks.specs.LeafEvents.{Mark}
use Rattle.mdblock_containers.specs.declared.frames.Frame.{Frame}
use Rattle.mdblock_containers.specs.declared.going.Open.{Open}
use Rattle.mdblock_containers.specs.declared.spans.RowAt.{RowAt}
use Rattle.mdblock_containers.specs.Costs.{ArePaid, IsEnough, columns_in}
use Rattle.mdblock_containers.specs.Frames.{frame_of}
use Rattle.mdblock_containers.specs.Over.{AreEarlier}
use Rattle.mdblock_containers.specs.Rest.{AreLeft, ending_to, exits_to, rest_marks}
use Rattle.mdblock_containers.specs.Rows.{Row}
use Rattle.mdblock_containers.specs.SeatPlaces.{events_of}
use Rattle.mdblock_containers.specs.Skeleton.{parts, parts_marks, shared}
use Rattle.mdblock_containers.specs.Views.{open_of}
use Rattle.mdblock_containers.specs.Written.{Written}
use Rattle.mdblock_containers.proofs.AheadLemmas.{ahead_at, line_at_index, number_at}
use Rattle.mdblock_containers.proofs.ColumnLemmas.{columns_add, columns_parts, few_columns}
use Rattle.mdblock_containers.proofs.CostLemmas.{enough_before, next_one, paid_behind}
use Rattle.mdblock_containers.proofs.LineFacts.{outside_zero}
use Rattle.mdblock_containers.proofs.PartCosts.{asked_all}
use Rattle.mdblock_containers.proofs.PartLemmas.{earlier_later}
use Rattle.mdblock_containers.proofs.RestLemmas.{next_of, no_end, none_left, rest_init, write_last}
use Rattle.mdblock_containers.proofs.WrittenLemmas.{write_init}
use Rattle.mdblock_containers.proofs.skeleton.write_parts.Goals as goal

pub loop-i-init : goal.loop-i-init
loop-i-init g c =
    let bytes = c.args.bytes.now in
    record {
      within = omega arith;
      enough = let frames = ap (λ (l : List Frame). length l) c.new-frames.ensures.items in let stack = ap (λ (l : List Open). length l) c.new-stack.ensures.items in record { asked = 0; are = asked_all g.all 0 0 0 _ c.requires.1.1.1.1.1.0 (omega (arith, stack)); enough = let none : c.args.turns.now + (length c.new-frames.result.items + (0 + (0 + 4 * (0 - 0)))) ≤ c.args.turns.now + 19 * 0 = omega (arith, frames) in none };
      left = subst (λ (l : List Open). AreLeft bytes c.args.tab (map open_of l) c.args.rows.now g.all) (sym c.new-stack.ensures.items) (record { number = 1; start = 0; are = c.requires.1.1.0; outside = outside_zero bytes; few = omega arith });
      passed = λ k d a b. absurd (omega (arith, b));
      stood = record { few = omega arith; spans = refl };
      spans = refl;
      written = subst (λ (l : List Frame). Written c.new-events.result.items None false (rest_marks bytes (map frame_of l) no_end (parts g.all)) (parts_marks bytes (parts g.all))) (sym c.new-frames.ensures.items)
          (subst (λ (es : List Event). Written es None false (rest_marks bytes [] no_end (parts g.all)) (parts_marks bytes (parts g.all))) (sym c.new-events.ensures.items)
          (subst (λ (m : List Mark). Written [] None false m (parts_marks bytes (parts g.all))) (sym (rest_init bytes (parts g.all) no_end refl)) (write_init (parts_marks bytes (parts g.all)))));
    }

pub write_part-requires : goal.write_part-requires
write_part-requires g c =
    let i = c.loop-i.i in
    let rows = c.args.rows.now in
    let split = line_at_index rows i c.index-rows-i.result _ c.loop-i-test.true c.index-rows-i.is in
    let next = next_of c.args.tab c.args.bytes.now (map open_of c.loop-i.stack.items) g.all c.index-rows-i.result (take (length rows - (i + 1)) (drop (i + 1) rows)) (drop i rows) i split c.loop-i.invariant.left in
    record { limit = c.requires.1.0; part = record { row = next.row; rows = drop (i + 1) g.all; left = next.left; ahead_is = ahead_at c.args.aheads.now g.all (length rows) i c.loop-i-test.true c.requires.1.1.1.1.0 }; passed = subst (λ (n : ℕ). AreEarlier n c.loop-i.passed.from c.loop-i.passed.to (map open_of c.loop-i.stack.items)) (sym (number_at c.args.tab c.args.bytes.now rows g.all i c.index-rows-i.result c.loop-i-test.true c.index-rows-i.is c.requires.1.1.0)) c.loop-i.invariant.passed; stood = c.loop-i.invariant.stood; spans = c.loop-i.invariant.spans }

pub loop-i-preserved : goal.loop-i-preserved
loop-i-preserved g c =
    let i = c.loop-i.i in
    let rows = c.args.rows.now in
    let bytes = c.args.bytes.now in
    let lines = c.in_ok-part.part.lines in
    let slice = take (length rows - (i + 1)) (drop (i + 1) rows) in
    let split = line_at_index rows i c.index-rows-i.result _ c.loop-i-test.true c.index-rows-i.is in
    let next = next_of c.args.tab bytes (map open_of c.loop-i.stack.items) g.all c.index-rows-i.result slice (drop i rows) i split c.loop-i.invariant.left in
    let ahead = ahead_at c.args.aheads.now g.all (length rows) i c.loop-i-test.true c.requires.1.1.1.1.0 in
    let on : (i + 1) + lines ≡ i + (1 + lines) = omega arith in
    let rest : slice ≡ drop (i + 1) rows = take_rest rows (i + 1) in
    let rows_is : drop lines slice ≡ drop (i + (1 + lines)) rows = ap (drop lines) rest ∙ drop-drop lines (i + 1) rows ∙ ap (λ k. drop k rows) on in
    let all_is : drop lines (drop (i + 1) g.all) ≡ drop (i + (1 + lines)) g.all = drop-drop lines (i + 1) g.all ∙ ap (λ k. drop k g.all) on in
    record {
      within = omega (arith, c.in_ok-part.ensures.few, ap (λ (l : List RowAt). length l) rest, length-drop (i + 1) rows, c.loop-i-test.true);
      left = subst (λ (l : List Row). AreLeft bytes c.args.tab (map open_of c.write_part.new.stack.items) (drop (i + (1 + lines)) rows) l) all_is
          (subst (λ (l : List RowAt). AreLeft bytes c.args.tab (map open_of c.write_part.new.stack.items) l (drop lines (drop (i + 1) g.all))) rows_is (c.in_ok-part.ensures.left next.row (drop (i + 1) g.all) next.left ahead));
      passed = earlier_later c.index-rows-i.result.span.number (i + (1 + lines) + 1) c.in_ok-part.part.passed.from c.in_ok-part.part.passed.to (map open_of c.write_part.new.stack.items)
          (omega (arith, number_at c.args.tab bytes rows g.all i c.index-rows-i.result c.loop-i-test.true c.index-rows-i.is c.requires.1.1.0)) c.in_ok-part.ensures.passed;
      enough =
          let x = c.index-rows-i.result in
          let before = enough_before c.loop-i.turns c.add_one.new.self (c.args.turns.now + 19 * columns_in (take i rows)) (length c.loop-i.frames.items) c.loop-i.stood.containers c.loop-i.passed.from c.loop-i.passed.to (length c.loop-i.stack.items) (drop i g.all) (next.row ∷ drop (i + 1) g.all) c.add_one.ensures next.is c.loop-i.invariant.enough in
          let behind = c.in_ok-part.ensures.paid next.row (drop (i + 1) g.all) (c.args.turns.now + 19 * columns_in (take i rows) + 1) next.left ahead (subst ArePaid next.is (paid_behind i g.all c.requires.1.1.1.1.1.1)) before in
          let size = columns_add rows i (1 + lines) in
          let one : columns_in (take (1 + lines) (drop i rows)) ≡ suc x.span.size + columns_in (take lines slice) = (λ k. columns_in (take (next_one lines k) (split k))) in
          subst (λ (l : List Row). IsEnough c.write_part.new.turns (c.args.turns.now + 19 * columns_in (take (i + (1 + lines)) rows)) (length c.write_part.new.frames.items) c.in_ok-part.part.stood.containers c.in_ok-part.part.passed.from c.in_ok-part.part.passed.to (length c.write_part.new.stack.items) l) all_is
          (record { asked = behind.asked; are = behind.are; enough = omega (arith, behind.enough, size, one) });
      stood = c.in_ok-part.ensures.stood;
      spans = c.in_ok-part.ensures.spans;
      written = subst (λ (l : List Row). Written c.write_part.new.events.items None false (rest_marks bytes (map frame_of c.write_part.new.frames.items) c.in_ok-part.part.end (parts l)) (parts_marks bytes (parts g.all))) all_is
          (c.in_ok-part.ensures.written next.row (drop (i + 1) g.all) (parts_marks bytes (parts g.all)) next.left ahead
          (subst (λ (l : List Row). Written c.loop-i.events.items None false (rest_marks bytes (map frame_of c.loop-i.frames.items) c.loop-i.end (parts l)) (parts_marks bytes (parts g.all))) next.is c.loop-i.invariant.written));
    }

pub returns-in_err-part-clause-turns : goal.returns-in_err-part-clause-turns
returns-in_err-part-clause-turns g c =
    let i = c.loop-i.i in
    let rows = c.args.rows.now in
    let bytes = c.args.bytes.now in
    let slice = take (length rows - (i + 1)) (drop (i + 1) rows) in
    let split = line_at_index rows i c.index-rows-i.result _ c.loop-i-test.true c.index-rows-i.is in
    let next = next_of c.args.tab bytes (map open_of c.loop-i.stack.items) g.all c.index-rows-i.result slice (drop i rows) i split c.loop-i.invariant.left in
    let ahead = ahead_at c.args.aheads.now g.all (length rows) i c.loop-i-test.true c.requires.1.1.1.1.0 in
    let before = enough_before c.loop-i.turns c.add_one.new.self (c.args.turns.now + 19 * columns_in (take i rows)) (length c.loop-i.frames.items) c.loop-i.stood.containers c.loop-i.passed.from c.loop-i.passed.to (length c.loop-i.stack.items) (drop i g.all) (next.row ∷ drop (i + 1) g.all) c.add_one.ensures next.is c.loop-i.invariant.enough in
    let behind = c.write_part.ensures.turns next.row (drop (i + 1) g.all) (c.args.turns.now + 19 * columns_in (take i rows) + 1) next.left ahead (subst ArePaid next.is (paid_behind i g.all c.requires.1.1.1.1.1.1)) before in
    let size = columns_parts rows i in
    let one = ap columns_in split in
    omega (arith, behind, size, one)

pub returns-in_err-end_part-clause-turns : goal.returns-in_err-end_part-clause-turns
returns-in_err-end_part-clause-turns g c =
    let few = few_columns c.args.rows.now c.loop-i.i in
    let sc = c.loop-i.stood.containers in
    let asked = c.loop-i.invariant.enough.asked in
    let paid : c.loop-i.turns + (length c.loop-i.frames.items + (sc + (asked + 4 * (asked - sc)))) ≤ c.args.turns.now + 19 * columns_in (take c.loop-i.i c.args.rows.now) = c.loop-i.invariant.enough.enough in
    omega (arith, paid, c.end_part.ensures.turns, few)

pub returns-clause-turns : goal.returns-clause-turns
returns-clause-turns g c =
    let few = few_columns c.args.rows.now c.loop-i.i in
    let sc = c.loop-i.stood.containers in
    let asked = c.loop-i.invariant.enough.asked in
    let paid : c.loop-i.turns + (length c.loop-i.frames.items + (sc + (asked + 4 * (asked - sc)))) ≤ c.args.turns.now + 19 * columns_in (take c.loop-i.i c.args.rows.now) = c.loop-i.invariant.enough.enough in
    omega (arith, paid, c.end_part.ensures.turns, few)

pub returns-clause-value : goal.returns-clause-value
returns-clause-value g c =
    let i = c.loop-i.i in
    let rows = c.args.rows.now in
    let bytes = c.args.bytes.now in
    let none : drop i rows ≡ [] = drop_all i rows (omega arith) in
    let gone = none_left c.args.tab bytes (map open_of c.loop-i.stack.items) g.all (drop i g.all) (subst (λ (l : List RowAt). AreLeft bytes c.args.tab (map open_of c.loop-i.stack.items) l (drop i g.all)) none c.loop-i.invariant.left) in
    let fs = map frame_of c.loop-i.frames.items in
    let none_kept : 0 + shared fs [] ≡ shared fs [] = omega arith in
    let wrote = c.in_ok-end_part.ensures.events ∙ ap (λ n. c.loop-i.events.items ++ (events_of (exits_to (drop n fs) c.loop-i.end.place) ++ events_of (ending_to c.loop-i.end))) none_kept in
    write_last bytes c.loop-i.events.items c.end_part.new.events.items fs c.loop-i.end (drop i g.all) (parts_marks bytes (parts g.all)) gone wrote c.loop-i.invariant.written
