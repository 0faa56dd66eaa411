use Rattle.mddocument.proofs.Prelude.{◌≡◌, ◌∙◌, ap, false, List, Event, Given, IsDocument, TextStart, start_configuration, text_events, text_rules, text-refuses-nothing, no-run-refused, IfOk-weaker, Next, Configuration, ending, ends-so, from-start, text_step, whole-is-text, IsRun, whole_text, Subresult}
use Rattle.mddocument.proofs.DeepEvents.{only-memory}
use Rattle.mddocument.proofs.documents.read_as_text.Goals as goal

-- a run over a whole document from the start of texts returns the events of the whole text
reads-whole : (g : Given) → IsDocument g → (events : List Event) → ((sub : Subresult) × IsRun g text_rules false TextStart events sub) → events ≡ text_events g (whole_text g)
reads-whole g document events h =
    let run = h.1 in
    run.events ∙ ap (λ (k : Configuration Unit Unit). k.events) run.resolved.0
    ∙ (ends-so g (whole_text g) (text_step g) (start_configuration false) (Next TextStart) (ending (text_events g (whole_text g))) (from-start g (whole_text g) (whole-is-text g document) false) run.result run.ends).1

pub returns-clause-events : goal.returns-clause-events
returns-clause-events c = IfOk-weaker c.read_by.result _ _ (λ events h. reads-whole _ c.read_by.ensures.document events.items h) c.read_by.ensures.events

pub returns-clause-err : goal.returns-clause-err
returns-clause-err c = only-memory c.read_by.result (λ m e. no-run-refused text_rules text-refuses-nothing _ false _ m (c.read_by.ensures.message m e)) c.read_by.ensures.ready c.read_by.ensures.cause
