use Rattle.std.proofs.Common.{◌≡◌, subst, sym}
use Rattle.std.proofs.lemmas.Result.{IfOk-weaker}
use Rattle.markdown_base.specs.Events.{IsBalanced, IsInOrder}
use Rattle.mdgfm_documents.proofs.Whole.{balance-kept, of-document, order-kept}
use Rattle.mdgfm_documents.proofs.documents.read_gfm_document.Goals as goal
use Rattle.mdgfm_documents.specs.Documents.{gfm_events, with_gfm}

pub returns-clause-events : goal.returns-clause-events
returns-clause-events c =
    let options = c.args.options.now in
    let bytes = c.args.bytes.now in
    IfOk-weaker c.with_gfm.result (λ all. all.items ≡ with_gfm options bytes c.in_ok-events.events.items) (λ all. all.items ≡ gfm_events options bytes)
    (λ all is. of-document options bytes c.in_ok-events.events.items all.items c.in_ok-events.ensures.events is) c.with_gfm.ensures.events

pub returns-clause-balanced : goal.returns-clause-balanced
returns-clause-balanced c =
    IfOk-weaker c.with_gfm.result _ _ (λ all are. subst IsBalanced (sym are) (balance-kept c.args.options.now c.args.bytes.now _ c.in_ok-events.ensures.formed.balanced)) c.with_gfm.ensures.events

pub returns-clause-order : goal.returns-clause-order
returns-clause-order c =
    IfOk-weaker c.with_gfm.result _ _ (λ all are. subst (IsInOrder c.args.bytes.now) (sym are) (order-kept c.args.options.now c.args.bytes.now _ c.in_ok-events.ensures.formed.in_order)) c.with_gfm.ensures.events
