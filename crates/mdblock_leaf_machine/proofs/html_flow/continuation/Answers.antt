use Rattle.std.proofs.Common.{◌≡◌, ◌∙◌, [], ◌∷◌, Some, refl, ap}
use Rattle.markdown_base.specs.declared.event.Name.TheVariants.{HtmlFlowData}
use Rattle.markdown_tokenizer.specs.Sight.{sight_of}
use Rattle.mdconstructs_tables.specs.Rows.{class_of, exit}
use Rattle.mdconstructs_tables.proofs.Rows.Calls.{can-mark}
use Rattle.mdblock_leaf_rows.specs.FlowBytes.{flow_byte, line_feed}
use Rattle.mdblock_leaf_rows.specs.HtmlFlow.{html_flow_continuation}
use Rattle.mdconstructs_tables.proofs.Rows.Calls.{byte-waits}
use Rattle.mdblock_leaf_machine.proofs.html_flow.continuation.Goals as goal

pub marker-requires : goal.marker-requires
marker-requires g c =
    let t = c.args.t.now in
    let is : (sight_of t).current ≡ Some 10 = cc (c.current.ensures, c.in-Some-eq10.is) in
    let made = c.in_ok-exit-in-Some-eq10.ensures.ok in
    can-mark flow_byte html_flow_continuation _ (Some line_feed) t c.requires.called refl (ap (class_of flow_byte) is) (exit HtmlFlowData ∷ []) _ refl made
    (ap (λ t. t.configuration.waiting) made ∙ byte-waits t.text t.configuration.position t.configuration.waiting 10 is)
