use Rattle.std.proofs.Common.{List, ◌++◌, ◌∙◌, ◌+◌, ◌≡◌, false, cond, length, take, drop, ap, sym, subst, arith, append-nil, append_assoc}
use Rattle.std.specs.Prelude.{◌==◌, IfOk, true}
use Rattle.std.proofs.lemmas.List.{drop_all}
use Rattle.mdblock_tables.specs.declared.pieces.Piece.{Piece}
use Rattle.mdblock_tables.specs.Pieces.{told}
use Rattle.mdblock_tables.specs.TablePieces.{cell_pieces, cells_pieces}
use Rattle.mdblock_tables.specs.Tables.{cut}
use Rattle.mdblock_tables.proofs.CellLemmas.{is_next}
use Rattle.mdblock_tables.proofs.RowLemmas.{cells_step, row_none, row_some}
use Rattle.mdblock_tables.proofs.rows.push_cells.Goals as goal

pub returns-then-is_empty-clause-pieces : goal.returns-then-is_empty-clause-pieces
returns-then-is_empty-clause-pieces g c =
    let none : (length c.args.row.now == 0) ≡ true = sym c.is_empty.ensures ∙ c.if-is_empty.true in
    subst (λ l. IfOk c.push.result (λ _. c.push.new.pieces.items ≡ c.args.pieces.now.items ++ l)) (sym (row_none c.args.kind c.args.divider c.args.row.now none)) c.push.ensures

pub loop-next-preserved : goal.loop-next-preserved
loop-next-preserved g c =
    let row = c.args.row.now in
    let k = c.args.kind in
    let next = c.loop-next.next in
    let before = c.loop-next.before in
    let size = c.cell_size-size.result in
    let at = is_next row next size _ (omega arith) c.behind-rest.ensures.value c.cell_size-size.ensures.value c.cell_size-size.ensures.within in
    let cell = c.front.ensures.value ∙ ap (take size) c.behind-rest.ensures.value in
    let end = c.closing.ensures.value ∙ ap (λ l. cond (size + 1 == length l) 1 0) c.behind-rest.ensures.value in
    let rest : List Piece = told (cells_pieces k 1 (cut false (drop (next + (size + 1)) row))) in
    let pushed = c.in_ok-push_cell.ensures.pieces ∙ (λ i. c.loop-next.pieces.items ++ told (cell_pieces k before (cell i) (end i))) in
    record {
      built = ap (λ l. l ++ rest) pushed ∙ append_assoc c.loop-next.pieces.items _ rest ∙ ap (λ l. c.loop-next.pieces.items ++ l) (sym (cells_step k before row next size at)) ∙ c.loop-next.invariant.built;
      divider = omega arith;
      within = omega (arith, c.cell_size-size.ensures.within, c.behind-rest.ensures.len);
      turns = omega (arith, c.loop-next.invariant.turns, c.add_one.ensures, c.cell_size-size.ensures.turns, c.front.ensures.len, c.push_cell.ensures.turns);
    }

pub returns-clause-pieces : goal.returns-clause-pieces
returns-clause-pieces g c =
    let row = c.args.row.now in
    let k = c.args.kind in
    let items = c.loop-next.pieces.items in
    let some : (length row == 0) ≡ false = sym c.is_empty.ensures ∙ c.if-is_empty.false in
    sym (append-nil items)
    ∙ ap (λ l. items ++ told (cells_pieces k c.loop-next.before (cut false l))) (sym (drop_all c.loop-next.next row (omega arith)))
    ∙ c.loop-next.invariant.built ∙ ap (λ l. c.args.pieces.now.items ++ l) (row_some k c.args.divider row some)
