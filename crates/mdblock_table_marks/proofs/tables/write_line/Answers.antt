use Rattle.std.proofs.Common.{◌≡◌, ◌<◌, ◌-◌, ◌++◌, ℕ, List, arith, drop, length, sym, ap, ◌∙◌, subst}
use Rattle.mdblock_lines.specs.Lines.{place_after}
use Rattle.mdblock_tables.specs.Pieces.{placed}
use Rattle.mdblock_tables.specs.TablePieces.{row_pieces}
use Rattle.mdblock_containers.specs.PlaceEvents.{HasColumns}
use Rattle.mdblock_containers.specs.SeatPlaces.{events_of}
use Rattle.mdblock_table_marks.specs.TableMarks.{row_seats}
use Rattle.mdblock_table_marks.proofs.LineLemmas.{behind-columns, behind-end, bytes-size, row-bytes, row-seats-at}
use Rattle.mdblock_table_marks.proofs.TableSpans.{rest-is}
use Rattle.mdblock_table_marks.proofs.tables.write_line.Goals as goal

pub write_row-requires : goal.write_row-requires
write_row-requires g c =
    let t = c.args.tab in
    let bytes = c.args.bytes.now in
    let some : 0 < t = omega (arith, c.get-tab_size.ensures.least, c.get-tab_size.ensures.columns) in
    let x = c.args.at.now in
    let h = c.requires.stands in
    let begin = c.args.begin in
    let size : length c.args.line.now ≡ x.span.size = ap (λ (l : List ℕ). length l) c.requires.line ∙ bytes-size t bytes some c.requires.limit x h in
    record {
      within = omega (arith, size, c.requires.within);
      columns = subst (λ n. HasColumns t bytes begin.place (n - begin.columns)) (sym size) (behind-columns t bytes some c.requires.limit x h begin.place begin.columns c.requires.within c.requires.place);
    }

pub returns : goal.returns
returns g c =
    let t = c.args.tab in
    let bytes = c.args.bytes.now in
    let some : 0 < t = omega (arith, c.get-tab_size.ensures.least, c.get-tab_size.ensures.columns) in
    let limit = c.requires.limit in
    let x = c.args.at.now in
    let h = c.requires.stands in
    let begin = c.args.begin in
    let size : length c.args.line.now ≡ x.span.size = ap (λ (l : List ℕ). length l) c.requires.line ∙ bytes-size t bytes some limit x h in
    record {
      events = λ r is same.
          c.in_ok-end.ensures.events (row_seats r) (row-seats-at t bytes some limit x r is begin.place begin.columns c.requires.within c.requires.place same)
          (ap (drop begin.columns) c.requires.line ∙ row-bytes t bytes some limit x r is begin.columns same)
          ∙ ap (λ l. c.args.events.now.items ++ events_of (placed bytes (row_pieces c.args.kind l) (row_seats r))) (sym (rest-is r));
      place = c.in_ok-end.ensures.place ∙ ap (λ n. place_after t bytes begin.place (n - begin.columns)) size ∙ behind-end t bytes some limit x h begin.place begin.columns c.requires.within c.requires.place;
      turns = omega (arith, c.write_row.ensures.turns, size);
    }

pub returns-in_err-end-clause-turns : goal.returns-in_err-end-clause-turns
returns-in_err-end-clause-turns g c =
    let t = c.args.tab in
    let some : 0 < t = omega (arith, c.get-tab_size.ensures.least, c.get-tab_size.ensures.columns) in
    let size : length c.args.line.now ≡ c.args.at.now.span.size = ap (λ (l : List ℕ). length l) c.requires.line ∙ bytes-size t c.args.bytes.now some c.requires.limit c.args.at.now c.requires.stands in
    omega (arith, c.write_row.ensures.turns, size)
