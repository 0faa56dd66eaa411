use Rattle.std.proofs.Common.{◌≡◌, ◌++◌, List, [], drop, refl, ap, sym, ◌∙◌, arith}
use Rattle.std.proofs.lemmas.List.{append-nil, drop_all}
use Rattle.mdblock_tables.specs.declared.pieces.Piece.{Piece}
use Rattle.mdblock_lines.specs.Lines.{place_after}
use Rattle.mdblock_table_marks.specs.PiecePlaces.{pieces_at, width_of}
use Rattle.mdblock_table_marks.proofs.PieceLemmas.{left-columns, left-end, left-events, left-turns, piece-columns}
use Rattle.mdblock_table_marks.proofs.pieces.write_pieces.Goals as goal

pub loop-piece-init : goal.loop-piece-init
loop-piece-init g c = record { columns = c.requires; events = refl; end = refl; turns = omega arith }

pub write_piece-requires : goal.write_piece-requires
write_piece-requires g c = piece-columns c.args.pieces.now c.loop-piece.piece-index _ c.loop-piece-test.true c.args.tab c.args.bytes.now c.loop-piece.place c.loop-piece.invariant.columns

pub loop-piece-preserved : goal.loop-piece-preserved
loop-piece-preserved g c =
    let t = c.args.tab in
    let bytes = c.args.bytes.now in
    let ps = c.args.pieces.now in
    let l = c.loop-piece in
    let i = l.piece-index in
    let is = l.invariant in
    let lt = c.loop-piece-test.true in
    let place = c.in_ok-place.ensures.place in
    let turns = left-turns ps i _ lt _ _ c.write_piece.ensures.turns in
    record {
      columns = left-columns ps i _ lt t bytes l.place c.in_ok-place.place place is.columns;
      events = left-events ps i _ lt t bytes l.place l.events.items c.write_piece.new.events.items _ c.in_ok-place.place c.in_ok-place.ensures.events place is.events;
      end = left-end ps i _ lt t bytes l.place c.in_ok-place.place place ∙ is.end;
      turns = omega (arith, is.turns, c.add_one.ensures, turns);
    }

pub returns : goal.returns
returns g c =
    let ps = c.args.pieces.now in
    let l = c.loop-piece in
    let is = l.invariant in
    let t = c.args.tab in
    let bytes = c.args.bytes.now in
    let none : drop l.piece-index ps ≡ [] = drop_all l.piece-index ps c.loop-piece-test.false in
    let width = ap width_of none in
    record {
      events = sym (append-nil l.events.items) ∙ ap (λ (r : List Piece). l.events.items ++ pieces_at t bytes l.place r) (sym none) ∙ is.events;
      place = ap (place_after t bytes l.place) (sym width) ∙ is.end;
      turns = omega (arith, is.turns, width);
    }

pub returns-in_err-place-clause-turns : goal.returns-in_err-place-clause-turns
returns-in_err-place-clause-turns g c =
    let ps = c.args.pieces.now in
    let i = c.loop-piece.piece-index in
    let turns = left-turns ps i _ c.loop-piece-test.true _ _ c.write_piece.ensures.turns in
    omega (arith, c.loop-piece.invariant.turns, c.add_one.ensures, turns, c.loop-piece-test.true)
