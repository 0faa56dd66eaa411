use Rattle.mdinline_labels.specs.Defined.{defines}
use Rattle.mddocument.proofs.InContainers.Skeletons.{skeleton-laws}
use Rattle.mddocument.proofs.Prelude.{◌∙◌, ap, AreAtPlaces, document, sym, subst}
use Rattle.mddocument.proofs.InContainers.Texts.{blocks-can-be-read, blocks-have-texts, texts-by}
use Rattle.mddocument.proofs.InContainers.TextsFormed.{texts-orderly}
use Rattle.mdinline_link_strings.specs.Strings.{with_strings}
use Rattle.mddocument.proofs.nested.with_texts.Goals as goal

pub with_inline_text-requires-clause-texts : goal.with_inline_text-requires-clause-texts
with_inline_text-requires-clause-texts c = blocks-have-texts skeleton-laws c.args.options.now c.args.bytes.now c.is_document.ensures c.args.blocks.items c.requires.blocks

pub with_inline_text-requires-clause-ready : goal.with_inline_text-requires-clause-ready
with_inline_text-requires-clause-ready c = blocks-can-be-read skeleton-laws c.args.options.now c.args.bytes.now c.is_document.ensures c.args.blocks.items c.requires.blocks

pub with_strings-requires-clause-places : goal.with_strings-requires-clause-places
with_strings-requires-clause-places c =
    let options = c.args.options.now in
    let bytes = c.args.bytes.now in
    let is = c.is_document.ensures in
    let are = texts-by skeleton-laws options bytes is c.args.blocks.items c.requires.blocks (defines c.args.machine.now.labels) c.in_ok-texts.texts.items c.in_ok-texts.ensures.events in
    subst (AreAtPlaces options.tab_size bytes) (sym are) (texts-orderly skeleton-laws (document options bytes) is (defines c.args.machine.now.labels)).at_places

pub returns-clause-events : goal.returns-clause-events
returns-clause-events c =
    let options = c.args.options.now in
    let bytes = c.args.bytes.now in
    let are = texts-by skeleton-laws options bytes c.is_document.ensures c.args.blocks.items c.requires.blocks (defines c.args.machine.now.labels) c.in_ok-texts.texts.items c.in_ok-texts.ensures.events in
    c.in_ok-with_strings.ensures ∙ ap (with_strings options.constructs options.tab_size bytes) are
