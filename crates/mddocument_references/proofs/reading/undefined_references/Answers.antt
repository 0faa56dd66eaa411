use Rattle.std.proofs.Common.{◌≡◌, ◌∙◌, IfOk, ap, subst}
use Rattle.mddocument.specs.DocumentEvents.{document_events_by}
use Rattle.mddocument.specs.Documents.{document}
use Rattle.mdgfm_documents.specs.Documents.{with_gfm}
use Rattle.mdinline_labels.specs.Defined.{defines}
use Rattle.mddocument_references.specs.References.{undefined_in}
use Rattle.mddocument_references.proofs.reading.undefined_references.Goals as goal

pub returns : goal.returns
returns c =
    let options = c.args.options.now in
    let bytes = c.args.bytes.now in
    let defined = defines c.args.machine.now.labels in
    let are : c.as_slice.result.now ≡ with_gfm options bytes (document_events_by defined (document options bytes)) =
    c.as_slice.ensures.value ∙ c.in_ok-events-2.ensures.events ∙ ap (with_gfm options bytes) c.in_ok-events.ensures in
    subst (λ es. IfOk c.undefined_in.result (λ found. found.items ≡ undefined_in options.constructs bytes defined es)) are c.undefined_in.ensures
