use Rattle.mddocument_editing.proofs.Prelude.{subst, sym, take, drop, items_of, bytes_of_sections, ArePackable, recut_document}
use Rattle.mddocument_editing.proofs.PutSections.{parts-within}
use Rattle.mddocument_editing.proofs.put.put.Goals as goal

pub parts_of-requires : goal.parts_of-requires
parts_of-requires c =
    let kept = c.args.kept.now in
    let recut = c.args.recut in
    let sections = bytes_of_sections kept.sections.items in
    parts-within kept.options.tab_size (take recut.from sections) (items_of recut.parts.items) (drop recut.end sections) c.requires.recut.divided.limit

pub returns-in-None-clause-fits : goal.returns-in-None-clause-fits
returns-in-None-clause-fits c fits =
    let recut = c.args.recut in
    c.put_same.ensures.fits (subst (λ parts. ArePackable (recut_document c.args.kept.now recut.from recut.end parts)) (sym c.in_ok-parts.ensures.bytes) fits)

pub returns-in-Some-clause-fits : goal.returns-in-Some-clause-fits
returns-in-Some-clause-fits c fits =
    let recut = c.args.recut in
    c.put_other.ensures.fits (subst (λ parts. ArePackable (recut_document c.args.kept.now recut.from recut.end parts)) (sym c.in_ok-parts.ensures.bytes) fits)
