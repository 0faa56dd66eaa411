use Rattle.std.proofs.Common.{◌∙◌, drop, sym, ap, arith}
use Rattle.std.proofs.lemmas.List.{drop-drop, length-drop}
use Rattle.mdgfm_events.proofs.Slices.{tail}
use Rattle.mdgfm_literals.specs.Bytes.{is_escape}
use Rattle.mdgfm_footnotes.specs.Calls.{label_size}
use Rattle.mdgfm_footnotes.proofs.Steps.{size-escape}
use Rattle.mdgfm_footnotes.proofs.calls.label_size.Goals as goal

pub loop-next-preserved-then-is_escape : goal.loop-next-preserved-then-is_escape
loop-next-preserved-then-is_escape c =
    let text = c.args.text.now in
    let next = c.loop-next.next in
    let two = size-escape (drop next text) (ap is_escape (sym (tail next text)) ∙ sym c.is_escape.ensures ∙ c.if-is_escape.true) in
    let long = length-drop next text in
    let rest = ap (label_size 0) (drop-drop 2 next text) in
    record {
      same = omega (arith, two.1, rest, c.loop-next.invariant.same);
      room = omega (arith, two.0, long, c.loop-next-test.true);
    }
