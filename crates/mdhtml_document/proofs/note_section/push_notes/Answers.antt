use Rattle.std.proofs.Common.{◌∷◌, ℕ, List, ap, arith, drop, map, suc, sym, ◌∙◌}
use Rattle.mdhtml_document.specs.Frames.{known_of}
use Rattle.mdhtml_document.proofs.NoteSections.{labels-at, notes-step}
use Rattle.mdhtml_document.proofs.note_section.push_notes.Goals as goal

pub loop-at-preserved : goal.loop-at-preserved
loop-at-preserved c =
    let whole = c.args.whole.now in
    let vecs = c.args.numbered.now.labels.items in
    let labels = map (λ l. l.items) vecs in
    let at = c.loop-at.at in
    record {
      written = λ definitions called notes known.
          notes-step whole.options.now whole.bytes.now (known_of whole) whole.tab definitions called labels at c.as_slice-label.result.now c.loop-at.out.items _
          (labels-at vecs at c.index.result.now (omega (arith, c.loop-at-test.true, c.len.ensures)) c.index.ensures
          ∙ ap (λ (l : List ℕ). l ∷ drop (suc at) labels) (sym c.as_slice-label.ensures.value))
          (c.in_ok-push_note.ensures definitions called notes known)
          ∙ c.loop-at.invariant.written definitions called notes known;
      room = omega (arith, c.loop-at-test.true, c.len.ensures);
    }
