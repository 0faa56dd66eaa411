use Rattle.std.proofs.Common.{◌≡◌, ◌∙◌, IfOk, ap, subst, sym}
use Rattle.markdown.specs.Presets.{gfm_constructs}
use Rattle.mddocument.specs.Documents.{AreDocumentBlocks, options_with}
use Rattle.mdgfm_documents.specs.Documents.{gfm_events}
use Rattle.mdevents_program.specs.Choices.{AreGfmEvents}
use Rattle.mdevents_program.proofs.choice.gfm_events_by.Goals as goal

pub returns-then-deep : goal.returns-then-deep
returns-then-deep c =
    let options : c.options_with.result ≡ options_with gfm_constructs c.args.tab = c.options_with.ensures ∙ ap (λ on. options_with on c.args.tab) c.gfm.ensures in
    let events = subst (λ o. IfOk c.read_gfm_document.result (λ events. events.items ≡ gfm_events o c.args.bytes.now)) options c.read_gfm_document.ensures.events in
    subst (λ deep. IfOk c.read_gfm_document.result (λ events. AreGfmEvents deep c.args.tab c.args.bytes.now events.items)) (sym c.if-deep.true) events

pub returns : goal.returns
returns c =
    let blocks = subst (λ on. IfOk c.events_of.result (λ events. AreDocumentBlocks (options_with on c.args.tab) c.args.bytes.now events.items)) c.gfm-2.ensures c.events_of.ensures.events in
    subst (λ deep. IfOk c.events_of.result (λ events. AreGfmEvents deep c.args.tab c.args.bytes.now events.items)) (sym c.if-deep.false) blocks
