use Rattle.std.proofs.Common.{◌<◌, ◌∙◌, arith}
use Rattle.mdblock_table_marks.proofs.LineLemmas.{bytes-size, start-inside}
use Rattle.mdblock_table_marks.proofs.tables.write_header.Goals as goal

pub read_text-requires : goal.read_text-requires
read_text-requires g c =
    let some : 0 < c.args.tab = omega (arith, c.get-tab_size.ensures.least, c.get-tab_size.ensures.columns) in
    record { inside = start-inside c.args.tab c.args.bytes.now some c.requires.limit c.args.first.now c.requires.stands }

pub write_line-requires : goal.write_line-requires
write_line-requires g c =
    let x = c.args.first.now in
    record {
      limit = c.requires.limit;
      stands = c.requires.stands;
      within = omega (arith, c.requires.columns, c.requires.stands.placed.columns);
      place = c.requires.place;
      line = c.as_slice.ensures.value ∙ c.in_ok-read_text.ensures.seats x.span.number;
    }

pub returns : goal.returns
returns g c =
    let x = c.args.first.now in
    let some : 0 < c.args.tab = omega (arith, c.get-tab_size.ensures.least, c.get-tab_size.ensures.columns) in
    let size = bytes-size c.args.tab c.args.bytes.now some c.requires.limit x c.requires.stands in
    record {
      events = λ r is. c.in_ok-end.ensures.events r is (c.requires.columns ∙ is.columns);
      place = c.in_ok-end.ensures.place;
      turns = omega (arith, c.read_text.ensures.turns x.span.number, c.write_line.ensures.turns, size);
    }

pub returns-in_err-read_text-clause-turns : goal.returns-in_err-read_text-clause-turns
returns-in_err-read_text-clause-turns g c =
    let x = c.args.first.now in
    let some : 0 < c.args.tab = omega (arith, c.get-tab_size.ensures.least, c.get-tab_size.ensures.columns) in
    let size = bytes-size c.args.tab c.args.bytes.now some c.requires.limit x c.requires.stands in
    omega (arith, c.read_text.ensures.turns x.span.number, size)

pub returns-in_err-end-clause-turns : goal.returns-in_err-end-clause-turns
returns-in_err-end-clause-turns g c =
    let x = c.args.first.now in
    let some : 0 < c.args.tab = omega (arith, c.get-tab_size.ensures.least, c.get-tab_size.ensures.columns) in
    let size = bytes-size c.args.tab c.args.bytes.now some c.requires.limit x c.requires.stands in
    omega (arith, c.read_text.ensures.turns x.span.number, c.write_line.ensures.turns, size)
