use Rattle.std.proofs.Common.{◌≡◌, ◌<◌, ◌∷◌, List, [], drop, length, map, sym, ap, ◌∙◌, subst, arith}
use Rattle.std.specs.List.{AllByRecursion}
use Rattle.mdblock_containers.specs.declared.spans.RowAt.{RowAt}
use Rattle.mdblock_containers.specs.Costs.{columns_in}
use Rattle.mdblock_containers.specs.Views.{open_of}
use Rattle.mdblock_table_marks.specs.Lines.{AreNext, HasText, IsFurther, last_end}
use Rattle.mdblock_table_marks.proofs.LineLemmas.{rows-split}
use Rattle.mdblock_table_marks.proofs.TableWriting.{no-body, no-rows, some-rows}
use Rattle.mdblock_table_marks.proofs.tables.write_rest.Goals as goal

pub returns-then-is_empty : goal.returns-then-is_empty
returns-then-is_empty g c =
    let t = c.args.tab in
    let bytes = c.args.bytes.now in
    let rows = c.args.rows.now in
    let none : rows ≡ [] = no-rows rows c.is_empty.result c.is_empty.ensures c.if-is_empty.true in
    record {
      events = no-body t bytes (map open_of c.args.stack.now) c.args.end rows c.args.events.now.items none;
      end = sym (ap (last_end t bytes c.args.end) none);
      turns = omega arith;
    }

pub rows_behind-more-requires : goal.rows_behind-more-requires
rows_behind-more-requires g c = let some : 0 < length c.args.rows.now = some-rows c.args.rows.now c.is_empty.result c.is_empty.ensures c.if-is_empty.false in omega (arith, some)

pub write_body-requires : goal.write_body-requires
write_body-requires g c =
    let rows = c.args.rows.now in
    let x = c.index-rows-0.result in
    let P = IsFurther c.args.tab c.args.bytes.now (map open_of c.args.stack.now) in
    let split : rows ≡ x ∷ drop 1 rows = rows-split rows 0 x c.index-rows-0.is (some-rows rows c.is_empty.result c.is_empty.ensures c.if-is_empty.false) in
    let further : AllByRecursion P (x ∷ drop 1 rows) = subst (AllByRecursion P) split c.requires.further in
    let text : AllByRecursion HasText (x ∷ drop 1 rows) = subst (AllByRecursion HasText) split c.requires.text in
    record { limit = c.requires.limit; first = further.0; text = text.0; more = subst (AllByRecursion P) (sym c.rows_behind-more.ensures) further.1 }

pub returns-in_err-last-clause-turns : goal.returns-in_err-last-clause-turns
returns-in_err-last-clause-turns g c =
    let rows = c.args.rows.now in
    let x = c.index-rows-0.result in
    let split : rows ≡ x ∷ drop 1 rows = rows-split rows 0 x c.index-rows-0.is (some-rows rows c.is_empty.result c.is_empty.ensures c.if-is_empty.false) in
    let cost = ap columns_in (split ∙ ap (λ l. x ∷ l) (sym c.rows_behind-more.ensures)) in
    omega (arith, c.write_body.ensures.turns, cost)

pub returns : goal.returns
returns g c =
    let t = c.args.tab in
    let bytes = c.args.bytes.now in
    let stack = map open_of c.args.stack.now in
    let rows = c.args.rows.now in
    let x = c.index-rows-0.result in
    let split : rows ≡ x ∷ drop 1 rows = rows-split rows 0 x c.index-rows-0.is (some-rows rows c.is_empty.result c.is_empty.ensures c.if-is_empty.false) in
    let whole : rows ≡ x ∷ c.rows_behind-more.result.now = split ∙ ap (λ l. x ∷ l) (sym c.rows_behind-more.ensures) in
    let cost = ap columns_in whole in
    record {
      events = λ r rs are. c.in_ok-last.ensures.events r rs (subst (λ (l : List RowAt). AreNext t bytes stack c.args.end r l rs) whole are);
      end = c.in_ok-last.ensures.end ∙ sym (ap (last_end t bytes c.args.end) whole);
      turns = omega (arith, c.write_body.ensures.turns, cost);
    }
