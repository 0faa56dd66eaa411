use Rattle.std.proofs.Common.{arith, add-one, sym, ◌∙◌}
use Rattle.markdown_tokenizer.proofs.Positions.Seats.{seat-in-tab, seat-none, seat-other, seat-crlf, seat-cr, pair-is, no-pair-is}
use Rattle.mdinline_link_strings.proofs.seats.seat_at.Goals as goal

pub returns-then-point-gt0 : goal.returns-then-point-gt0
returns-then-point-gt0 c = λ t some. seat-in-tab t c.args.bytes.now c.args.point some c.if-point-gt0.true (c.requires.within c.if-point-gt0.true)

pub returns-then-point-bytes : goal.returns-then-point-bytes
returns-then-point-bytes c = λ t some. seat-none t c.args.bytes.now c.args.point (omega arith) c.if-point-bytes.true

pub returns-then-byte-ne13 : goal.returns-then-byte-ne13
returns-then-byte-ne13 c = λ t some. seat-other t c.args.bytes.now c.args.point some (omega arith) c.if-point-bytes.false c.if-byte-ne13.true

pub returns-then-is_pair : goal.returns-then-is_pair
returns-then-is_pair c = λ t some.
    let pair = pair-is c.args.bytes.now c.args.point.index (sym c.is_pair.ensures ∙ c.if-is_pair.true) in
    rw add-one (seat-crlf t c.args.bytes.now c.args.point (omega arith) (rw add-one at pair.0) c.if-byte-ne13.false (rw add-one at pair.2))

pub returns : goal.returns
returns c = λ t some.
    seat-cr t c.args.bytes.now c.args.point some (omega arith) c.if-point-bytes.false c.if-byte-ne13.false
    (no-pair-is c.args.bytes.now c.args.point.index c.if-byte-ne13.false (sym c.is_pair.ensures ∙ c.if-is_pair.false))
