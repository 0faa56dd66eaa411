use Rattle.std.proofs.Common.{◌+◌, ◌<◌, ap, arith}
use Rattle.markdown_edits.proofs.Results.{OnErr_from}
use Rattle.mdinline_labels.specs.Defined.{defines}
use Rattle.mddocument_sinks.proofs.NextPieces.{lines-fit, next-events, next-front, next-reached}
use Rattle.mddocument_sinks.proofs.reading.hand_on_piece.Goals as goal

pub returns-in_err-hand_on_moved-clause-front : goal.returns-in_err-hand_on_moved-clause-front
returns-in_err-hand_on_moved-clause-front g c =
    let order : c.args.reached.bytes < c.args.seam = omega (arith, c.if-seam-reached.false) in
    OnErr_from c.from_residual.result _ (λ before so_far.
    next-front c.args.options.now c.args.bytes.now c.args.reached c.requires.reached c.args.seam c.requires.seam order (defines c.args.machine.now.labels) c.requires.document
    before (g.S.EventSink.taken c.args.sink.now) (g.S.EventSink.taken c.hand_on_moved.new.sink) c.in_err-hand_on_moved.ensures.front so_far)

pub overflow_add-result : goal.overflow_add-result
overflow_add-result g c =
    let order : c.args.reached.bytes < c.args.seam = omega (arith, c.if-seam-reached.false) in
    let few = lines-fit c.args.options.now c.args.bytes.now c.args.reached c.requires.reached c.args.seam c.requires.seam order in
    omega (arith, few, c.line_endings.ensures, c.ranges.seam.fits)

pub returns-clause-reached : goal.returns-clause-reached
returns-clause-reached g c =
    let order : c.args.reached.bytes < c.args.seam = omega (arith, c.if-seam-reached.false) in
    next-reached c.args.options.now c.args.bytes.now c.args.reached c.requires.reached c.args.seam c.requires.seam order (c.args.reached.lines + c.line_endings.result)
    (ap (λ n. c.args.reached.lines + n) c.line_endings.ensures)

pub returns-clause-events : goal.returns-clause-events
returns-clause-events g c before so_far =
    let order : c.args.reached.bytes < c.args.seam = omega (arith, c.if-seam-reached.false) in
    next-events c.args.options.now c.args.bytes.now c.args.reached c.requires.reached c.args.seam c.requires.seam order (defines c.args.machine.now.labels) c.requires.document
    before (g.S.EventSink.taken c.args.sink.now) (g.S.EventSink.taken c.hand_on_moved.new.sink) c.in_ok-hand_on_moved.ensures.events so_far
