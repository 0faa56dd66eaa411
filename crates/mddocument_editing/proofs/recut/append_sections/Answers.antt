use Rattle.mddocument_editing.proofs.Prelude.{◌<◌, ◌++◌, length, take, sym, ap, ◌∙◌, arith, append_assoc, document_of, Section, bytes_of_sections}
use Rattle.mddocument_editing.proofs.SectionSizes.{bytes-more}
use Rattle.mddocument_editing.proofs.recut.append_sections.Goals as goal

pub loop-section-preserved : goal.loop-section-preserved
loop-section-preserved c =
    let ss = c.args.sections.now in
    let i = c.loop-section.section-index in
    let s = c.section-item.result in
    let before = c.args.bytes.now.items in
    let front = document_of (take i (bytes_of_sections ss)) in
    let lt : i < length ss = omega arith in
    c.in_ok-extend_from_slice.ensures.items
    ∙ ap (λ bs. bs ++ c.as_slice.result.now) c.loop-section.invariant
    ∙ ap (λ bs. (before ++ front) ++ bs) c.as_slice.ensures.value
    ∙ append_assoc before front s.part.bytes.items
    ∙ ap (λ bs. before ++ bs) (sym (bytes-more (λ (section : Section). section.part.bytes.items) ss i s lt c.section-item.is))
