use Rattle.mddocument_editing.proofs.Prelude.{◌≡◌, ◌+◌, ◌<◌, ◌++◌, ap, refl, sym, subst, ◌∙◌, arith, take, take_all, All-append, All, document_of, bytes_of_sections}
use Rattle.mddocument_editing.proofs.Joined.{document-last}
use Rattle.mddocument_editing.proofs.SectionEvents.{bytes-one}
use Rattle.mddocument_editing.proofs.SectionFronts.{take-next}
use Rattle.mddocument_editing.proofs.moved.is_document.Goals as goal

pub loop-section-init : goal.loop-section-init
loop-section-init c = λ k d lt. absurd (omega arith)

pub loop-section-preserved : goal.loop-section-preserved
loop-section-preserved c =
    let all = c.as_slice-sections.result.now in
    let i = c.loop-section.section-index in
    let x = c.section-item.result in
    let front = bytes_of_sections (take i all) in
    let more : document_of (bytes_of_sections (take (i + 1) all)) ≡ document_of front ++ x.part.bytes.items =
    ap (λ l. document_of (bytes_of_sections l)) (take-next all i x c.loop-section-test.true c.section-item.is)
    ∙ ap document_of (bytes-one (take i all) x) ∙ document-last front x.part.bytes.items
    in
    let one = subst (All (λ b. b < 256)) c.as_slice.ensures.value c.is_bytes.ensures in
    subst (All (λ b. b < 256)) (sym more) (All-append (λ b. b < 256) (document_of front) x.part.bytes.items c.loop-section.invariant one)

pub returns : goal.returns
returns c =
    let end = take_all c.loop-section.section-index c.as_slice-sections.result.now c.loop-section-test.false ∙ c.as_slice-sections.ensures.value in
    let bytes = subst (λ l. All (λ b. b < 256) (document_of (bytes_of_sections l))) end c.loop-section.invariant in
    let e = c.get-columns.ensures in
    record { bytes = bytes; tab = (omega (arith, e.least, e.columns), omega (arith, e.most, e.columns)); limit = c.requires.divided.limit; one_size = refl }
