use Rattle.std.proofs.lemmas.Result.{IfOk-weaker}
use Rattle.mdinline_labels.specs.Defined.{defines}
use Rattle.mdgfm_documents.proofs.Whole.{noted-decides}
use Rattle.mdgfm_documents.proofs.documents.with_gfm.Goals as goal

pub returns-clause-events : goal.returns-clause-events
returns-clause-events c =
    IfOk-weaker c.with_gfm_by.result _ _
    (λ all is.
    noted-decides (defines c.in_ok-noted.noted) c.args.options.now c.args.bytes.now c.args.events.items c.as_slice.result.now all.items c.as_slice.ensures.value c.in_ok-noted.ensures.labels is)
    c.with_gfm_by.ensures.events
