use Rattle.std.proofs.Common.{◌≡◌, ◌<◌, ℕ, List, length, drop, map, refl, sym, ap, subst, ◌+◌, ◌∙◌, suc, arith, length-drop}
use Rattle.std.proofs.lemmas.List.{drop_all, length_push}
use Rattle.std.specs.List.{AllByRecursion}
use Rattle.markdown_base.specs.Virtual.{virtual}
use Rattle.mdconstructs_machines.specs.LineEvents.{lines_in}
use Rattle.mdblock_lines.specs.Lines.{line_at}
use Rattle.mdblock_containers.specs.declared.going.Open.{Open}
use Rattle.mdblock_containers.specs.Costs.{columns_in}
use Rattle.mdblock_containers.specs.Over.{AreBefore, AreOver}
use Rattle.mdblock_containers.specs.Rows.{Before, nothing_known, rows}
use Rattle.mdblock_containers.specs.declared.spans.RowAt.{RowAt}
use Rattle.mdblock_containers.specs.Spans.{IsPlaced, ArePlaced}
use Rattle.mdblock_containers.specs.Views.{before_of, open_of}
use Rattle.mdblock_containers.proofs.ColumnLemmas.{all_columns, columns_push, next_columns}
use Rattle.mdblock_containers.proofs.CostLemmas.{began_sizes}
use Rattle.mdblock_containers.proofs.DocumentRows.{AreRowsBefore, rows_left, placed_push, rows_init, rows_more, rows_all}
use Rattle.mdblock_containers.proofs.FrameFacts.{old_after}
use Rattle.mdblock_containers.proofs.OverLemmas.{began_before}
use Rattle.mdblock_containers.proofs.RowFacts.{BeganBefore}
use Rattle.mdblock_containers.proofs.lines.rows_of.Goals as goal

pub loop-start-init : goal.loop-start-init
loop-start-init g c =
    let e = c.new-before.ensures in
    let none : before_of c.new-before.result ≡ nothing_known c.args.on.now = λ k. record { stack = map open_of (e.stack k); depth = e.depth k; leaf = e.leaf k } in
    let first : length c.new-found.result.items + 1 ≡ 1 = ap (λ n. n + 1) (ap length c.new-found.ensures.items) ∙ omega arith in
    record {
      within = omega arith;
      depth = omega (arith, e.depth);
      over = λ k d a b. absurd (omega (arith, b, e.depth));
      began = subst (λ (l : List Open). AllByRecursion (BeganBefore (length c.new-found.result.items + 1)) (map open_of l)) (sym e.stack) tt;
      placed = subst (λ (l : List RowAt). ArePlaced c.args.tab c.args.bytes.now 1 0 l 0) (sym c.new-found.ensures.items) refl;
      turns = let none = ap columns_in c.new-found.ensures.items in omega (arith, e.over, none);
      found = rows_init c.args.on.now c.args.tab c.args.bytes.now c.new-found.result.items (before_of c.new-before.result) (length c.new-found.result.items + 1) c.new-found.ensures.items none first;
    }

pub loop-start-preserved : goal.loop-start-preserved
loop-start-preserved g c =
    let i = c.loop-start.invariant in
    let all = rows c.args.on.now (lines_in (virtual c.args.tab c.args.bytes.now)) in
    let xs = c.loop-start.found.items in
    let some : 0 < c.args.tab = omega (arith, c.get-tab_size.ensures.least, c.get-tab_size.ensures.columns) in
    let number : length xs + 1 ≡ c.len-number.result + 1 = omega (arith, c.len-number.ensures, c.loop-start.found.ok) in
    let left : 0 < length (drop c.loop-start.start c.args.bytes.now) = omega (arith, length-drop c.loop-start.start c.args.bytes.now) in
    let further : length c.push.new.self.items + 1 ≡ suc (c.len-number.result + 1) = omega (arith, ap length c.in_ok-push.ensures.items, length_push xs c.in_ok-at.at, number) in
    let later : suc (c.len-number.result + 1) ≡ (c.len-number.result + 1) + 1 = omega arith in
    let one : c.len-number.result + 1 ≡ 1 + length xs = omega (arith, number) in
    let so_far = subst (λ (n : ℕ). AreRowsBefore xs (rows_left c.args.on.now c.args.tab c.args.bytes.now (before_of c.loop-start.before) n c.loop-start.start) all) number i.found in
    record {
      within = c.in_ok-at.ensures.within;
      depth = c.in_ok-at.ensures.depth;
      over = subst (λ (n : ℕ). AreOver n c.next_row.new.before.over c.next_row.new.before.depth c.next_row.new.before.stack.items) (sym (further ∙ later)) c.in_ok-at.ensures.over;
      began = subst (λ (n : ℕ). AllByRecursion (BeganBefore n) (before_of c.next_row.new.before).stack) (sym further)
          (subst (λ (b : Before). AllByRecursion (BeganBefore (suc (c.len-number.result + 1))) b.stack) (sym c.in_ok-at.ensures.before)
          (old_after c.args.on.now (before_of c.loop-start.before) (c.len-number.result + 1) (line_at c.args.tab (c.len-number.result + 1) c.loop-start.start (drop c.loop-start.start c.args.bytes.now))
          (subst (λ (n : ℕ). AllByRecursion (BeganBefore n) (before_of c.loop-start.before).stack) number i.began)));
      placed = placed_push c.args.tab c.args.bytes.now 1 0 xs c.push.new.self.items c.in_ok-at.at c.loop-start.start c.in_ok-push.ensures.items i.placed
          (subst (λ (n : ℕ). IsPlaced c.args.tab c.args.bytes.now n c.loop-start.start c.in_ok-at.at) one c.in_ok-at.ensures.placed);
      turns = let more = columns_push xs c.push.new.self.items c.in_ok-at.at c.in_ok-push.ensures.items in omega (arith, i.turns, c.add_one.ensures, c.in_ok-at.ensures.paid, more);
      found = rows_more c.args.on.now c.args.tab c.args.bytes.now some xs c.push.new.self.items c.in_ok-at.at (before_of c.loop-start.before) (before_of c.next_row.new.before) (c.len-number.result + 1) (length c.push.new.self.items + 1)
          c.loop-start.start c.in_ok-at.at.span.next all c.in_ok-push.ensures.items left c.in_ok-at.ensures.next c.in_ok-at.ensures.number further c.in_ok-at.ensures.row c.in_ok-at.ensures.before so_far;
    }

pub returns : goal.returns
returns g c =
    let none = drop_all c.loop-start.start c.args.bytes.now (omega arith) in
    let all : c.loop-start.start ≡ length c.args.bytes.now = omega (arith, c.loop-start.invariant.within) in
    record {
      rows = rows_all c.args.on.now c.args.tab c.args.bytes.now c.loop-start.found.items (before_of c.loop-start.before) (length c.loop-start.found.items + 1) c.loop-start.start (rows c.args.on.now (lines_in (virtual c.args.tab c.args.bytes.now)))
          none c.loop-start.invariant.found;
      placed = subst (ArePlaced c.args.tab c.args.bytes.now 1 0 c.loop-start.found.items) all c.loop-start.invariant.placed;
      turns =
          let some : 0 < c.args.tab = omega (arith, c.get-tab_size.ensures.least, c.get-tab_size.ensures.columns) in
          let few = all_columns c.args.tab c.args.bytes.now some c.loop-start.found.items (subst (ArePlaced c.args.tab c.args.bytes.now 1 0 c.loop-start.found.items) all c.loop-start.invariant.placed) in
          omega (arith, c.loop-start.invariant.turns, few);
    }

pub next_row-requires-clause-over : goal.next_row-requires-clause-over
next_row-requires-clause-over g c =
    let number : length c.loop-start.found.items + 1 ≡ c.len-number.result + 1 = omega (arith, c.len-number.ensures, c.loop-start.found.ok) in
    subst (λ (n : ℕ). AreOver n c.loop-start.before.over c.loop-start.before.depth c.loop-start.before.stack.items) number c.loop-start.invariant.over

pub next_row-requires-clause-began : goal.next_row-requires-clause-began
next_row-requires-clause-began g c =
    let number : length c.loop-start.found.items + 1 ≡ c.len-number.result + 1 = omega (arith, c.len-number.ensures, c.loop-start.found.ok) in
    subst (λ (n : ℕ). AreBefore n c.loop-start.before.stack.items) number (began_before (length c.loop-start.found.items + 1) c.loop-start.before.stack.items c.loop-start.invariant.began)

pub next_row-requires-clause-sizes : goal.next_row-requires-clause-sizes
next_row-requires-clause-sizes g c = began_sizes (length c.loop-start.found.items + 1) (map open_of c.loop-start.before.stack.items) c.loop-start.invariant.began

pub returns-in_err-at-clause-turns : goal.returns-in_err-at-clause-turns
returns-in_err-at-clause-turns g c =
    let some : 0 < c.args.tab = omega (arith, c.get-tab_size.ensures.least, c.get-tab_size.ensures.columns) in
    let number : c.len-number.result + 1 ≡ 1 + length c.loop-start.found.items = omega (arith, c.len-number.ensures, c.loop-start.found.ok) in
    let few = next_columns c.args.tab c.args.bytes.now some c.loop-start.found.items (c.len-number.result + 1) c.loop-start.start c.loop-start.invariant.placed (omega arith) number in
    omega (arith, c.loop-start.invariant.turns, c.add_one.ensures, c.next_row.ensures.turns, few)

pub returns-in_err-push-clause-turns : goal.returns-in_err-push-clause-turns
returns-in_err-push-clause-turns g c =
    let some : 0 < c.args.tab = omega (arith, c.get-tab_size.ensures.least, c.get-tab_size.ensures.columns) in
    let number : c.len-number.result + 1 ≡ 1 + length c.loop-start.found.items = omega (arith, c.len-number.ensures, c.loop-start.found.ok) in
    let few = next_columns c.args.tab c.args.bytes.now some c.loop-start.found.items (c.len-number.result + 1) c.loop-start.start c.loop-start.invariant.placed (omega arith) number in
    omega (arith, c.loop-start.invariant.turns, c.add_one.ensures, c.next_row.ensures.turns, few)
