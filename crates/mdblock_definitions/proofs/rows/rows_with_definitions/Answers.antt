use Rattle.std.proofs.Common.{◌≡◌, ◌<◌, ℕ, List, [], length, drop, map, refl, sym, ap, subst, ◌+◌, ◌*◌, ◌∙◌, suc, arith, length-drop, inl}
use Rattle.std.proofs.lemmas.Bool.{false≢true}
use Rattle.std.proofs.lemmas.List.{drop_all, length_push}
use Rattle.std.specs.List.{AllByRecursion}
use Rattle.markdown_base.specs.Virtual.{virtual}
use Rattle.mdconstructs_machines.specs.LineEvents.{lines_in}
use Rattle.mdblock_lines.specs.Lines.{line_at, line_bytes}
use Rattle.mdblock_containers.specs.declared.going.Open.{Open}
use Rattle.mdblock_containers.specs.declared.spans.RowAt.{RowAt}
use Rattle.mdblock_containers.specs.Costs.{columns_in}
use Rattle.mdblock_containers.specs.Over.{AreBefore, AreOver}
use Rattle.mdblock_containers.specs.Rows.{Before, nothing_known}
use Rattle.mdblock_containers.specs.Spans.{ArePlaced, IsPlaced}
use Rattle.mdblock_containers.specs.Views.{before_of, open_of}
use Rattle.mdblock_containers.proofs.ColumnLemmas.{all_columns, columns_push, next_columns}
use Rattle.mdblock_containers.proofs.CostLemmas.{began_sizes}
use Rattle.mdblock_containers.proofs.DocumentRows.{AreRowsBefore, placed_push}
use Rattle.mdblock_containers.proofs.OverLemmas.{began_before}
use Rattle.mdblock_containers.proofs.RowFacts.{BeganBefore}
use Rattle.mdblock_containers.proofs.RowReads.{old_behind}
use Rattle.mdblock_definitions.specs.Rows.{Known, known_after, row_of, rows}
use Rattle.mdblock_definitions.proofs.KnownReads.{known-reads}
use Rattle.mdblock_definitions.proofs.KnownLemmas.{kept-more, kept-read, kept-turns, known-all, known-init, known-more, known_left}
use Rattle.mdblock_definitions.proofs.rows.rows_with_definitions.Goals as goal

pub loop-start-init : goal.loop-start-init
loop-start-init g c =
    let e = c.new-known.ensures in
    let nothing : Known = record { before = nothing_known c.args.on.now; text = [] } in
    let none : before_of c.new-known.result.before ≡ nothing.before = λ k. record { stack = map open_of (e.stack k); depth = e.depth k; leaf = e.leaf k } in
    let first : length c.new-found.result.items + 1 ≡ 1 = ap (λ n. n + 1) (ap length c.new-found.ensures.items) ∙ omega arith in
    record {
      within = omega arith;
      depth = omega (arith, e.depth);
      over = λ k d a b. absurd (omega (arith, b, e.depth));
      began = subst (λ (l : List Open). AllByRecursion (BeganBefore (length c.new-found.result.items + 1)) (map open_of l)) (sym e.stack) tt;
      placed = subst (λ (l : List RowAt). ArePlaced c.args.tab c.args.bytes.now 1 0 l 0) (sym c.new-found.ensures.items) refl;
      kept = let none = ap columns_in c.new-found.ensures.items in let empty = ap (λ (l : List ℕ). length l) e.text in let no_last = ap (λ (l : List ℕ). length l) e.last in inl (omega (arith, e.over, none, empty, no_last));
      read = record {
        known = nothing;
        is = record { before = none; text = e.text; last = λ on open_before. absurd (false≢true open_before); filled = λ open_before. absurd (false≢true open_before) };
        before = known-init c.args.on.now c.args.tab c.args.bytes.now c.new-found.result.items nothing (length c.new-found.result.items + 1) c.new-found.ensures.items refl first;
      };
    }

pub loop-start-preserved : goal.loop-start-preserved
loop-start-preserved g c =
    let i = c.loop-start.invariant in
    let all = rows c.args.on.now (lines_in (virtual c.args.tab c.args.bytes.now)) in
    let xs = c.loop-start.found.items in
    let some : 0 < c.args.tab = omega (arith, c.get-tab_size.ensures.least, c.get-tab_size.ensures.columns) in
    let number : length xs + 1 ≡ c.len-number.result + 1 = omega (arith, c.len-number.ensures, c.loop-start.found.ok) in
    let left : 0 < length (drop c.loop-start.start c.args.bytes.now) = omega (arith, length-drop c.loop-start.start c.args.bytes.now) in
    let further : length c.push.new.self.items + 1 ≡ suc (c.len-number.result + 1) = omega (arith, ap length c.in_ok-push.ensures.items, length_push xs c.in_ok-at.at, number) in
    let later : suc (c.len-number.result + 1) ≡ (c.len-number.result + 1) + 1 = omega arith in
    let one : c.len-number.result + 1 ≡ 1 + length xs = omega (arith, number) in
    let k = i.read.known in
    let so_far = subst (λ (n : ℕ). AreRowsBefore xs (known_left c.args.on.now c.args.tab c.args.bytes.now k n c.loop-start.start) all) number i.read.before in
    let line = line_at c.args.tab (c.len-number.result + 1) c.loop-start.start (drop c.loop-start.start c.args.bytes.now) in
    let next = known_after c.args.on.now k (row_of c.args.on.now k (c.len-number.result + 1) line) in
    let is = c.in_ok-at.ensures.known k i.read.is in
    let began = subst (λ (b : Before). AllByRecursion (BeganBefore (length xs + 1)) b.stack) i.read.is.before i.began in
    record {
      within = c.in_ok-at.ensures.within;
      depth = c.in_ok-at.ensures.depth;
      over = subst (λ (n : ℕ). AreOver n c.row_of_text.new.known.before.over c.row_of_text.new.known.before.depth c.row_of_text.new.known.before.stack.items) (sym (further ∙ later)) c.in_ok-at.ensures.over;
      began = subst (λ (n : ℕ). AllByRecursion (BeganBefore n) (before_of c.row_of_text.new.known.before).stack) (sym further)
          (subst (λ (b : Before). AllByRecursion (BeganBefore (suc (c.len-number.result + 1))) b.stack) (sym is.before)
          (old_behind c.args.on.now (known-reads c.args.on.now) k (c.len-number.result + 1) line (subst (λ (n : ℕ). AllByRecursion (BeganBefore n) k.before.stack) number began)));
      placed = placed_push c.args.tab c.args.bytes.now 1 0 xs c.push.new.self.items c.in_ok-at.at c.loop-start.start c.in_ok-push.ensures.items i.placed
          (subst (λ (n : ℕ). IsPlaced c.args.tab c.args.bytes.now n c.loop-start.start c.in_ok-at.at) one c.in_ok-at.ensures.placed);
      kept =
          let more = columns_push xs c.push.new.self.items c.in_ok-at.at c.in_ok-push.ensures.items in
          let before = c.loop-start.turns + c.loop-start.known.before.over + 3 * length c.loop-start.known.last.items in
          let turned = kept-more before (c.add_one.new.self + c.loop-start.known.before.over + 3 * length c.loop-start.known.last.items) (c.args.turns.now + 1706 * columns_in xs) (c.args.turns.now + 1706 * columns_in xs + 1) c.loop-start.known.text.items (omega (arith, c.add_one.ensures)) i.kept in
          let placed = c.in_ok-at.ensures.placed in
          let size : c.in_ok-at.at.span.size ≡ length (line_bytes c.args.tab (c.len-number.result + 1) 1 c.loop-start.start (drop c.loop-start.start c.args.bytes.now)) = placed.size_is in
          let read = kept-read (c.add_one.new.self + c.loop-start.known.before.over + 3 * length c.loop-start.known.last.items) (c.text_at.new.turns + c.loop-start.known.before.over + 3 * length c.loop-start.known.last.items) (c.row_of_text.new.turns + c.row_of_text.new.known.before.over + 3 * length c.row_of_text.new.known.last.items) (c.args.turns.now + 1706 * columns_in xs + 1) c.in_ok-at.at.span.size c.in_ok-at.at.span.size
          c.loop-start.known.text.items c.row_of_text.new.known.text.items (omega (arith, c.text_at.ensures.turns (c.len-number.result + 1), size)) refl turned (λ budget kept. c.in_ok-at.ensures.kept budget kept) in
          kept-more (c.row_of_text.new.turns + c.row_of_text.new.known.before.over + 3 * length c.row_of_text.new.known.last.items) (c.row_of_text.new.turns + c.row_of_text.new.known.before.over + 3 * length c.row_of_text.new.known.last.items) (c.args.turns.now + 1706 * columns_in xs + 1 + 203 * c.in_ok-at.at.span.size + 1705) (c.args.turns.now + 1706 * columns_in c.push.new.self.items) c.row_of_text.new.known.text.items (omega (arith, more)) read;
      read = record {
        known = next;
        is = is;
        before = known-more c.args.on.now c.args.tab c.args.bytes.now some xs c.push.new.self.items c.in_ok-at.at k next (c.len-number.result + 1) (length c.push.new.self.items + 1)
            c.loop-start.start c.in_ok-at.at.span.next all c.in_ok-push.ensures.items left c.in_ok-at.ensures.next c.in_ok-at.ensures.number further (c.in_ok-at.ensures.row k i.read.is) refl so_far;
      };
    }

pub returns : goal.returns
returns g c =
    let none = drop_all c.loop-start.start c.args.bytes.now (omega arith) in
    let all : c.loop-start.start ≡ length c.args.bytes.now = omega (arith, c.loop-start.invariant.within) in
    record {
      rows = known-all c.args.on.now c.args.tab c.args.bytes.now c.loop-start.found.items c.loop-start.invariant.read.known (length c.loop-start.found.items + 1) c.loop-start.start (rows c.args.on.now (lines_in (virtual c.args.tab c.args.bytes.now)))
          none c.loop-start.invariant.read.before;
      placed = subst (ArePlaced c.args.tab c.args.bytes.now 1 0 c.loop-start.found.items) all c.loop-start.invariant.placed;
      turns =
          let some : 0 < c.args.tab = omega (arith, c.get-tab_size.ensures.least, c.get-tab_size.ensures.columns) in
          let few = all_columns c.args.tab c.args.bytes.now some c.loop-start.found.items (subst (ArePlaced c.args.tab c.args.bytes.now 1 0 c.loop-start.found.items) all c.loop-start.invariant.placed) in
          let kept = kept-turns (c.loop-start.turns + c.loop-start.known.before.over + 3 * length c.loop-start.known.last.items) (c.args.turns.now + 1706 * columns_in c.loop-start.found.items) c.loop-start.known.text.items c.loop-start.invariant.kept in
          omega (arith, kept, few);
    }

pub row_of_text-requires-clause-over : goal.row_of_text-requires-clause-over
row_of_text-requires-clause-over g c =
    let number : length c.loop-start.found.items + 1 ≡ c.len-number.result + 1 = omega (arith, c.len-number.ensures, c.loop-start.found.ok) in
    subst (λ (n : ℕ). AreOver n c.loop-start.known.before.over c.loop-start.known.before.depth c.loop-start.known.before.stack.items) number c.loop-start.invariant.over

pub row_of_text-requires-clause-began : goal.row_of_text-requires-clause-began
row_of_text-requires-clause-began g c =
    let number : length c.loop-start.found.items + 1 ≡ c.len-number.result + 1 = omega (arith, c.len-number.ensures, c.loop-start.found.ok) in
    subst (λ (n : ℕ). AreBefore n c.loop-start.known.before.stack.items) number (began_before (length c.loop-start.found.items + 1) c.loop-start.known.before.stack.items c.loop-start.invariant.began)

pub row_of_text-requires-clause-sizes : goal.row_of_text-requires-clause-sizes
row_of_text-requires-clause-sizes g c = began_sizes (length c.loop-start.found.items + 1) (map open_of c.loop-start.known.before.stack.items) c.loop-start.invariant.began

pub row_of_text-requires-clause-seats : goal.row_of_text-requires-clause-seats
row_of_text-requires-clause-seats g c = c.in_ok-text.ensures.seats (c.len-number.result + 1)

pub returns-in_err-text-clause-turns : goal.returns-in_err-text-clause-turns
returns-in_err-text-clause-turns g c =
    let some : 0 < c.args.tab = omega (arith, c.get-tab_size.ensures.least, c.get-tab_size.ensures.columns) in
    let number : c.len-number.result + 1 ≡ 1 + length c.loop-start.found.items = omega (arith, c.len-number.ensures, c.loop-start.found.ok) in
    let few = next_columns c.args.tab c.args.bytes.now some c.loop-start.found.items (c.len-number.result + 1) c.loop-start.start c.loop-start.invariant.placed (omega arith) number in
    let kept = kept-turns (c.loop-start.turns + c.loop-start.known.before.over + 3 * length c.loop-start.known.last.items) (c.args.turns.now + 1706 * columns_in c.loop-start.found.items) c.loop-start.known.text.items c.loop-start.invariant.kept in
    omega (arith, kept, c.add_one.ensures, c.text_at.ensures.turns (c.len-number.result + 1), few)

pub returns-in_err-at-clause-turns : goal.returns-in_err-at-clause-turns
returns-in_err-at-clause-turns g c =
    let some : 0 < c.args.tab = omega (arith, c.get-tab_size.ensures.least, c.get-tab_size.ensures.columns) in
    let number : c.len-number.result + 1 ≡ 1 + length c.loop-start.found.items = omega (arith, c.len-number.ensures, c.loop-start.found.ok) in
    let few = next_columns c.args.tab c.args.bytes.now some c.loop-start.found.items (c.len-number.result + 1) c.loop-start.start c.loop-start.invariant.placed (omega arith) number in
    let kept = kept-turns (c.loop-start.turns + c.loop-start.known.before.over + 3 * length c.loop-start.known.last.items) (c.args.turns.now + 1706 * columns_in c.loop-start.found.items) c.loop-start.known.text.items c.loop-start.invariant.kept in
    let long = ap (λ (l : List ℕ). length l) (c.in_ok-text.ensures.seats (c.len-number.result + 1)) in
    omega (arith, kept, c.add_one.ensures, c.text_at.ensures.turns (c.len-number.result + 1), c.row_of_text.ensures.turns, long, few)

pub returns-in_err-push-clause-turns : goal.returns-in_err-push-clause-turns
returns-in_err-push-clause-turns g c =
    let some : 0 < c.args.tab = omega (arith, c.get-tab_size.ensures.least, c.get-tab_size.ensures.columns) in
    let number : c.len-number.result + 1 ≡ 1 + length c.loop-start.found.items = omega (arith, c.len-number.ensures, c.loop-start.found.ok) in
    let few = next_columns c.args.tab c.args.bytes.now some c.loop-start.found.items (c.len-number.result + 1) c.loop-start.start c.loop-start.invariant.placed (omega arith) number in
    let kept = kept-turns (c.loop-start.turns + c.loop-start.known.before.over + 3 * length c.loop-start.known.last.items) (c.args.turns.now + 1706 * columns_in c.loop-start.found.items) c.loop-start.known.text.items c.loop-start.invariant.kept in
    let long = ap (λ (l : List ℕ). length l) (c.in_ok-text.ensures.seats (c.len-number.result + 1)) in
    omega (arith, kept, c.add_one.ensures, c.text_at.ensures.turns (c.len-number.result + 1), c.row_of_text.ensures.turns, long, few)
