use Rattle.mddocument_editing.proofs.Prelude.{◌∙◌, ap, take_all, ◌||◌, is_same, IsLabelled, bytes_of_parts, knows, is_written, label_of, written}
use Rattle.mddocument_editing.proofs.SectionBytes.{every-at, settled-more}
use Rattle.mddocument_editing.proofs.kept.define_parts.Goals as goal

pub loop-part-preserved : goal.loop-part-preserved
loop-part-preserved c =
    let options = c.args.options.now in
    let parts = c.args.parts.now in
    let i = c.loop-part.part-index in
    let d = c.part-item.result in
    let within = c.loop-part-test.true in
    let labelled = every-at (IsLabelled options) parts i d c.requires within in
    λ key.
    settled-more (written options key) (λ part. part.bytes.items) (λ one. is_same (label_of key) one) parts i d (knows c.define_all.new.self key) (knows d.defined key) (knows c.loop-part.labels key)
    (knows c.args.labels.now key) within (c.in_ok-define_all.ensures key) (ap (λ part. knows part.defined key) c.part-item.is ∙ labelled key) (c.loop-part.invariant key)

pub returns : goal.returns
returns c =
    let all = take_all c.loop-part.part-index c.args.parts.now c.loop-part-test.false in
    λ key.
    c.loop-part.invariant key ∙ ap (λ parts. is_written c.args.options.now (bytes_of_parts parts) key || knows c.args.labels.now key) all
