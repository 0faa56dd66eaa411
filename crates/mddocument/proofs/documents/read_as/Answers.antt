use Rattle.mddocument.proofs.Prelude.{false, subst, AreEventsOf, options_with, FlowStart, TextStart, StringStart, back-reads, deep-reads, lines-read, peek-reads, save-reads, paragraphs-by-blocks, text-by-blocks, line_events, data_events, back_events, save_events, paragraph_events, IfOk-weaker, no-run-refused, lines_rules, paragraphs_rules, peek_rules, deep_rules, back_rules, save_rules, lines-refuse-nothing, paragraphs-refuse-nothing, peek-refuses-nothing, deep-refuses-nothing, back-refuses-nothing, save-refuses-nothing, text_rules, text-refuses-nothing, paragraphs-readable, text-readable}
use Rattle.std.specs.Prelude.{IfOk}
use Rattle.mddocument.specs.Documents.{AreDocumentEvents}
use Rattle.mddocument.proofs.DeepEvents.{only-memory, none-refused-deep, all-ready, flat-events, with-data, with-texts}
use Rattle.mddocument.proofs.FlowRuns.{flow-formed}
use Rattle.mddocument.proofs.Formed.{data-well-formed, run-formed, texts-well-formed}
use Rattle.mddocument.proofs.InContainers.Chosen.{deep-document}
use Rattle.mddocument.proofs.documents.read_as.Goals as goal

pub returns-in-Lines-clause-events : goal.returns-in-Lines-clause-events
returns-in-Lines-clause-events c =
    let document = rw c.options_with.ensures at c.read_by.ensures.document in
    rw c.in-Lines.is (IfOk-weaker c.read_by.result _ _ (λ events h. flat-events lines_rules FlowStart line_events lines-read _ c.args.bytes.now document events.items h) (rw c.options_with.ensures at c.read_by.ensures.events))

pub returns-in-Paragraphs-clause-events : goal.returns-in-Paragraphs-clause-events
returns-in-Paragraphs-clause-events c =
    let document = rw c.options_with.ensures at c.read_deep_by.ensures.document in
    rw (c.in-Paragraphs.is, c.if-choice.true) (IfOk-weaker c.read_deep_by.result _ _ (λ events h. with-data _ c.args.bytes.now document events.items h) (rw c.options_with.ensures at c.read_deep_by.ensures.events))

pub returns-in-Paragraphs-2-clause-events : goal.returns-in-Paragraphs-2-clause-events
returns-in-Paragraphs-2-clause-events c =
    let document = rw c.options_with.ensures at c.read_by-in-Paragraphs-2.ensures.document in
    rw (c.in-Paragraphs-2.is, c.if-choice.false) (IfOk-weaker c.read_by-in-Paragraphs-2.result _ _ (λ events h. flat-events paragraphs_rules FlowStart paragraph_events paragraphs-by-blocks _ c.args.bytes.now document events.items h) (rw c.options_with.ensures at c.read_by-in-Paragraphs-2.ensures.events))

pub returns-in-Peek-clause-events : goal.returns-in-Peek-clause-events
returns-in-Peek-clause-events c =
    let document = rw c.options_with.ensures at c.read_by-in-Peek.ensures.document in
    rw c.in-Peek.is (IfOk-weaker c.read_by-in-Peek.result _ _ (λ events h. flat-events peek_rules TextStart data_events peek-reads _ c.args.bytes.now document events.items h) (rw c.options_with.ensures at c.read_by-in-Peek.ensures.events))

pub returns-in-Deep-clause-events : goal.returns-in-Deep-clause-events
returns-in-Deep-clause-events c =
    let document = rw c.options_with.ensures at c.read_by-in-Deep.ensures.document in
    rw c.in-Deep.is (IfOk-weaker c.read_by-in-Deep.result _ _ (λ events h. flat-events deep_rules StringStart data_events deep-reads _ c.args.bytes.now document events.items h) (rw c.options_with.ensures at c.read_by-in-Deep.ensures.events))

pub returns-in-Back-clause-events : goal.returns-in-Back-clause-events
returns-in-Back-clause-events c =
    let document = rw c.options_with.ensures at c.read_by-in-Back.ensures.document in
    rw c.in-Back.is (IfOk-weaker c.read_by-in-Back.result _ _ (λ events h. flat-events back_rules TextStart back_events back-reads _ c.args.bytes.now document events.items h) (rw c.options_with.ensures at c.read_by-in-Back.ensures.events))

pub returns-in-Save-clause-events : goal.returns-in-Save-clause-events
returns-in-Save-clause-events c =
    let document = rw c.options_with.ensures at c.read_by-in-Save.ensures.document in
    rw c.in-Save.is (IfOk-weaker c.read_by-in-Save.result _ _ (λ events h. flat-events save_rules TextStart save_events save-reads _ c.args.bytes.now document events.items h) (rw c.options_with.ensures at c.read_by-in-Save.ensures.events))

pub returns-in-Text-clause-events : goal.returns-in-Text-clause-events
returns-in-Text-clause-events c =
    let document = rw c.options_with.ensures at c.read_deep_by-in-Text.ensures.document in
    rw (c.in-Text.is, c.if-choice-2.true) (IfOk-weaker c.read_deep_by-in-Text.result _ _ (λ events h. with-texts _ c.args.bytes.now document events.items h) (rw c.options_with.ensures at c.read_deep_by-in-Text.ensures.events))

pub returns-in-Text-2-clause-events : goal.returns-in-Text-2-clause-events
returns-in-Text-2-clause-events c =
    let document = rw c.options_with.ensures at c.read_by-in-Text-2.ensures.document in
    rw (c.in-Text-2.is, c.if-choice-2.false) (IfOk-weaker c.read_by-in-Text-2.result _ _ (λ events h. flat-events text_rules FlowStart paragraph_events text-by-blocks _ c.args.bytes.now document events.items h) (rw c.options_with.ensures at c.read_by-in-Text-2.ensures.events))

pub returns-in-Flow-clause-events : goal.returns-in-Flow-clause-events
returns-in-Flow-clause-events c = rw (c.in-Flow.is, c.if-choice-3.true) (rw c.options_with.ensures at c.read_flow_and_inlines.ensures.events)

pub returns-in-Flow-2-clause-events : goal.returns-in-Flow-2-clause-events
returns-in-Flow-2-clause-events c = rw (c.in-Flow-2.is, c.if-choice-3.false) (rw c.options_with.ensures at c.read_flow.ensures.events)

pub returns-in-Document-clause-events : goal.returns-in-Document-clause-events
returns-in-Document-clause-events c =
    let bytes = c.args.bytes.now in
    let options = options_with c.args.constructs c.args.choice.now.tab in
    let deep = c.args.choice.now.deep in
    let which = c.args.choice.now.machine in
    let read : IfOk c.read_nested_events.result (λ events. AreDocumentEvents options bytes events.items) =
    subst (λ o. IfOk c.read_nested_events.result (λ events. AreDocumentEvents o bytes events.items)) c.options_with.ensures c.read_nested_events.ensures.events in
    IfOk-weaker c.read_nested_events.result (λ events. AreDocumentEvents options bytes events.items) (λ events. AreEventsOf deep which options bytes events.items)
    (λ events h. deep-document deep which c.in-Document.is c.if-choice-4.true options bytes events.items h) read

pub returns-clause-events : goal.returns-clause-events
returns-clause-events c = rw (c.in-Document-2.is, c.if-choice-4.false) (rw c.options_with.ensures at c.read_blocks.ensures.events)

pub returns-in-Lines-clause-formed : goal.returns-in-Lines-clause-formed
returns-in-Lines-clause-formed c = IfOk-weaker c.read_by.result _ _ (λ events h. run-formed _ lines_rules FlowStart events.items h.0 h.1) (rw c.options_with.ensures at c.read_by.ensures.events)

pub returns-in-Paragraphs-2-clause-formed : goal.returns-in-Paragraphs-2-clause-formed
returns-in-Paragraphs-2-clause-formed c = IfOk-weaker c.read_by-in-Paragraphs-2.result _ _ (λ events h. run-formed _ paragraphs_rules FlowStart events.items h.0 h.1) (rw c.options_with.ensures at c.read_by-in-Paragraphs-2.ensures.events)

pub returns-in-Peek-clause-formed : goal.returns-in-Peek-clause-formed
returns-in-Peek-clause-formed c = IfOk-weaker c.read_by-in-Peek.result _ _ (λ events h. run-formed _ peek_rules TextStart events.items h.0 h.1) (rw c.options_with.ensures at c.read_by-in-Peek.ensures.events)

pub returns-in-Deep-clause-formed : goal.returns-in-Deep-clause-formed
returns-in-Deep-clause-formed c = IfOk-weaker c.read_by-in-Deep.result _ _ (λ events h. run-formed _ deep_rules StringStart events.items h.0 h.1) (rw c.options_with.ensures at c.read_by-in-Deep.ensures.events)

pub returns-in-Back-clause-formed : goal.returns-in-Back-clause-formed
returns-in-Back-clause-formed c = IfOk-weaker c.read_by-in-Back.result _ _ (λ events h. run-formed _ back_rules TextStart events.items h.0 h.1) (rw c.options_with.ensures at c.read_by-in-Back.ensures.events)

pub returns-in-Save-clause-formed : goal.returns-in-Save-clause-formed
returns-in-Save-clause-formed c = IfOk-weaker c.read_by-in-Save.result _ _ (λ events h. run-formed _ save_rules TextStart events.items h.0 h.1) (rw c.options_with.ensures at c.read_by-in-Save.ensures.events)

pub returns-in-Text-2-clause-formed : goal.returns-in-Text-2-clause-formed
returns-in-Text-2-clause-formed c = IfOk-weaker c.read_by-in-Text-2.result _ _ (λ events h. run-formed _ text_rules FlowStart events.items h.0 h.1) (rw c.options_with.ensures at c.read_by-in-Text-2.ensures.events)

pub returns-in-Document-clause-formed : goal.returns-in-Document-clause-formed
returns-in-Document-clause-formed c = rw c.options_with.ensures at c.read_nested_events.ensures.formed

pub returns-clause-formed : goal.returns-clause-formed
returns-clause-formed c = rw c.options_with.ensures at c.read_blocks.ensures.formed

pub returns-in-Flow-2-clause-formed : goal.returns-in-Flow-2-clause-formed
returns-in-Flow-2-clause-formed c =
    let document = rw c.options_with.ensures at c.read_flow.ensures.document in
    IfOk-weaker c.read_flow.result _ _ (λ events h. flow-formed _ c.args.bytes.now document events.items h) (rw c.options_with.ensures at c.read_flow.ensures.events)

pub returns-in-Flow-clause-formed : goal.returns-in-Flow-clause-formed
returns-in-Flow-clause-formed c = rw c.options_with.ensures at c.read_flow_and_inlines.ensures.formed

pub returns-in-Paragraphs-clause-formed : goal.returns-in-Paragraphs-clause-formed
returns-in-Paragraphs-clause-formed c =
    let document = rw c.options_with.ensures at c.read_deep_by.ensures.document in
    IfOk-weaker c.read_deep_by.result _ _ (λ events h. data-well-formed _ c.args.bytes.now document events.items h) (rw c.options_with.ensures at c.read_deep_by.ensures.events)

pub returns-in-Text-clause-formed : goal.returns-in-Text-clause-formed
returns-in-Text-clause-formed c =
    let document = rw c.options_with.ensures at c.read_deep_by-in-Text.ensures.document in
    IfOk-weaker c.read_deep_by-in-Text.result _ _ (λ events h. texts-well-formed _ c.args.bytes.now document events.items h) (rw c.options_with.ensures at c.read_deep_by-in-Text.ensures.events)

pub returns-in-Lines-clause-err : goal.returns-in-Lines-clause-err
returns-in-Lines-clause-err c = only-memory c.read_by.result (λ m e. no-run-refused lines_rules lines-refuse-nothing _ false _ m (c.read_by.ensures.message m e)) c.read_by.ensures.ready c.read_by.ensures.cause

pub returns-in-Paragraphs-clause-err : goal.returns-in-Paragraphs-clause-err
returns-in-Paragraphs-clause-err c = only-memory c.read_deep_by.result (λ m e. none-refused-deep paragraphs_rules paragraphs-refuse-nothing _ _ _ m (c.read_deep_by.ensures.message m e))
    (λ e. all-ready paragraphs_rules paragraphs-readable _ _ c.read_deep_by.ensures.document (c.read_deep_by.ensures.unready e)) c.read_deep_by.ensures.cause

pub returns-in-Paragraphs-2-clause-err : goal.returns-in-Paragraphs-2-clause-err
returns-in-Paragraphs-2-clause-err c = only-memory c.read_by-in-Paragraphs-2.result (λ m e. no-run-refused paragraphs_rules paragraphs-refuse-nothing _ false _ m (c.read_by-in-Paragraphs-2.ensures.message m e)) c.read_by-in-Paragraphs-2.ensures.ready c.read_by-in-Paragraphs-2.ensures.cause

pub returns-in-Peek-clause-err : goal.returns-in-Peek-clause-err
returns-in-Peek-clause-err c = only-memory c.read_by-in-Peek.result (λ m e. no-run-refused peek_rules peek-refuses-nothing _ false _ m (c.read_by-in-Peek.ensures.message m e)) c.read_by-in-Peek.ensures.ready c.read_by-in-Peek.ensures.cause

pub returns-in-Deep-clause-err : goal.returns-in-Deep-clause-err
returns-in-Deep-clause-err c = only-memory c.read_by-in-Deep.result (λ m e. no-run-refused deep_rules deep-refuses-nothing _ false _ m (c.read_by-in-Deep.ensures.message m e)) c.read_by-in-Deep.ensures.ready c.read_by-in-Deep.ensures.cause

pub returns-in-Back-clause-err : goal.returns-in-Back-clause-err
returns-in-Back-clause-err c = only-memory c.read_by-in-Back.result (λ m e. no-run-refused back_rules back-refuses-nothing _ false _ m (c.read_by-in-Back.ensures.message m e)) c.read_by-in-Back.ensures.ready c.read_by-in-Back.ensures.cause

pub returns-in-Save-clause-err : goal.returns-in-Save-clause-err
returns-in-Save-clause-err c = only-memory c.read_by-in-Save.result (λ m e. no-run-refused save_rules save-refuses-nothing _ false _ m (c.read_by-in-Save.ensures.message m e)) c.read_by-in-Save.ensures.ready c.read_by-in-Save.ensures.cause

pub returns-in-Text-clause-err : goal.returns-in-Text-clause-err
returns-in-Text-clause-err c = only-memory c.read_deep_by-in-Text.result (λ m e. none-refused-deep text_rules text-refuses-nothing _ _ _ m (c.read_deep_by-in-Text.ensures.message m e))
    (λ e. all-ready text_rules text-readable _ _ c.read_deep_by-in-Text.ensures.document (c.read_deep_by-in-Text.ensures.unready e)) c.read_deep_by-in-Text.ensures.cause

pub returns-in-Text-2-clause-err : goal.returns-in-Text-2-clause-err
returns-in-Text-2-clause-err c = only-memory c.read_by-in-Text-2.result (λ m e. no-run-refused text_rules text-refuses-nothing _ false _ m (c.read_by-in-Text-2.ensures.message m e)) c.read_by-in-Text-2.ensures.ready c.read_by-in-Text-2.ensures.cause

pub returns-in-Flow-2-clause-err : goal.returns-in-Flow-2-clause-err
returns-in-Flow-2-clause-err c = c.read_flow.ensures.err

pub returns-in-Document-clause-err : goal.returns-in-Document-clause-err
returns-in-Document-clause-err c = c.read_nested_events.ensures.err

pub returns-clause-err : goal.returns-clause-err
returns-clause-err c = c.read_blocks.ensures.err
