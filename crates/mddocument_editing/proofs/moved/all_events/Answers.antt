use Rattle.mddocument_editing.proofs.Prelude.{◌≡◌, ap, ◌∙◌, arith, length, length-map, IfOk-weaker, Event, Section, bytes_of, gfm_events, events_between, divided_of}
use Rattle.std.proofs.Common.{Vec, Global}
use Rattle.mddocument_editing.proofs.SectionEvents.{all-are-the-documents}
use Rattle.mddocument_editing.proofs.moved.all_events.Goals as goal

pub returns : goal.returns
returns c =
    let k = c.args.kept.now in
    let d = divided_of k in
    let n = c.len.result in
    let all = all-are-the-documents d c.is_document.ensures c.requires.divided in
    let end : n ≡ length d.sections = omega (arith, c.len.ensures, length-map k.sections.items (λ (section : Section). section.part.bytes.items)) in
    IfOk-weaker c.events_between.result (λ (events : Vec Event Global). events.items ≡ events_between d 0 n) (λ (events : Vec Event Global). events.items ≡ gfm_events k.options (bytes_of d))
    (λ events is. is ∙ ap (events_between d 0) end ∙ all) c.events_between.ensures
