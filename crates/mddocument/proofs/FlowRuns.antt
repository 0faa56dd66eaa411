-- A run over a document returns the events of its leaf blocks, and these are well formed.
use Rattle.mddocument.proofs.Prelude.{◌≡◌, ◌∙◌, ℕ, List, true, false, refl, subst, sym, arith, Event, FlowStart, Given, IsDocument, virtual, flow_rules, AreFlowEvents, ParseOptions, document, IsRun, IsWellFormed, whole_text, Subresult, blocks-are-formed, whole-is-text, flow-ends, has-room, FlowIsRead, flow_events}

module _ (read : FlowIsRead) (g : Given) (is : IsDocument g) where
  abbrev blocks_events : List Event
  blocks_events = flow_events g.options.constructs g.bytes (virtual g.tab g.bytes)

  -- what a run returns
  pub run-is-flow : (events : List Event) (sub : Subresult) → IsRun g flow_rules true FlowStart events sub → events ≡ blocks_events
  run-is-flow events sub run = run.events ∙ (flow-ends read g (whole_text g) false FlowStart (0, omega arith, refl) (has-room g is) run.result run.ends).events_are run.final sub run.resolved

-- the events of leaf blocks of a document are well formed
pub flow-formed : (options : ParseOptions) (bytes : List ℕ) → IsDocument (document options bytes) → (events : List Event) → AreFlowEvents options bytes events → IsWellFormed (document options bytes) events
flow-formed options bytes is events are = subst (IsWellFormed (document options bytes)) (sym are) (blocks-are-formed.blocks (document options bytes) (whole_text (document options bytes)) (whole-is-text (document options bytes) is))
