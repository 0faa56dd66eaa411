use Rattle.mddocument_editing.proofs.Prelude.{◌∙◌, ap, take_all, ◌||◌, is_same, IsLabelled, bytes_of_sections, knows, is_written, label_of, written}
use Rattle.mddocument_editing.proofs.SectionBytes.{every-at, settled-more}
use Rattle.mddocument_editing.proofs.kept.define_sections.Goals as goal

pub loop-section-preserved : goal.loop-section-preserved
loop-section-preserved c =
    let options = c.args.options.now in
    let sections = c.args.sections.now in
    let i = c.loop-section.section-index in
    let d = c.section-item.result in
    let within = c.loop-section-test.true in
    let labelled = every-at (λ section. IsLabelled options section.part) sections i d c.requires within in
    λ key.
    settled-more (written options key) (λ section. section.part.bytes.items) (λ one. is_same (label_of key) one) sections i d (knows c.define_all.new.self key) (knows d.part.defined key) (knows c.loop-section.labels key)
    (knows c.args.labels.now key) within (c.in_ok-define_all.ensures key) (ap (λ section. knows section.part.defined key) c.section-item.is ∙ labelled key) (c.loop-section.invariant key)

pub returns : goal.returns
returns c =
    let all = take_all c.loop-section.section-index c.args.sections.now c.loop-section-test.false in
    λ key.
    c.loop-section.invariant key ∙ ap (λ sections. is_written c.args.options.now (bytes_of_sections sections) key || knows c.args.labels.now key) all
