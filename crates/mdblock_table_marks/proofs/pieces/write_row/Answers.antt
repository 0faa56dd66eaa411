use Rattle.std.proofs.Common.{◌++◌, List, length, ap, sym, ◌∙◌, subst, arith}
use Rattle.mdblock_lines.specs.Lines.{place_after}
use Rattle.mdblock_tables.specs.declared.pieces.Piece.{Piece}
use Rattle.mdblock_containers.specs.PlaceEvents.{HasColumns}
use Rattle.mdblock_table_marks.proofs.PieceCounts.{rows_have_few_pieces}
use Rattle.mdblock_table_marks.proofs.PieceLemmas.{row-events, row-width}
use Rattle.mdblock_table_marks.proofs.pieces.write_row.Goals as goal

pub write_pieces-requires : goal.write_pieces-requires
write_pieces-requires g c =
    let width = row-width c.args.kind c.behind-rest.result.now c.as_slice.result.now (c.as_slice.ensures.value ∙ c.in_ok-pieces.ensures.pieces) ∙ c.behind-rest.ensures.len in
    subst (HasColumns c.args.tab c.args.bytes.now c.args.begin.place) (sym width) c.requires.columns

pub returns : goal.returns
returns g c =
    let t = c.args.tab in
    let bytes = c.args.bytes.now in
    let rest = c.behind-rest.result.now in
    let pieces = c.as_slice.result.now in
    let told = c.as_slice.ensures.value ∙ c.in_ok-pieces.ensures.pieces in
    let width = row-width c.args.kind rest pieces told in
    let len = c.behind-rest.ensures.len in
    let few = rows_have_few_pieces c.args.kind rest in
    let size = ap (λ (l : List Piece). length l) told in
    record {
      events = λ seats at same. c.in_ok-end.ensures.events ∙ ap (λ l. c.args.events.now.items ++ l) (row-events t bytes c.args.kind rest pieces c.args.begin.place seats told (c.behind-rest.ensures.value ∙ same) at);
      place = c.in_ok-end.ensures.place ∙ ap (place_after t bytes c.args.begin.place) (width ∙ len);
      turns = omega (arith, c.row_pieces.ensures.turns, c.write_pieces.ensures.turns, width, len, few, size);
    }

pub returns-in_err-end-clause-turns : goal.returns-in_err-end-clause-turns
returns-in_err-end-clause-turns g c =
    let rest = c.behind-rest.result.now in
    let pieces = c.as_slice.result.now in
    let told = c.as_slice.ensures.value ∙ c.in_ok-pieces.ensures.pieces in
    let width = row-width c.args.kind rest pieces told in
    let few = rows_have_few_pieces c.args.kind rest in
    let size = ap (λ (l : List Piece). length l) told in
    omega (arith, c.row_pieces.ensures.turns, c.write_pieces.ensures.turns, width, c.behind-rest.ensures.len, few, size)
