use Rattle.mdinline_labels.specs.Defined.{defines}
use Rattle.mddocument.proofs.DefinedLabels.{labels-are-defined}
use Rattle.mddocument.proofs.InContainers.InlineHolds.{inlines-hold-text}
use Rattle.mddocument.proofs.InContainers.Tight.{events-tight}
use Rattle.mddocument.proofs.InContainers.Skeletons.{skeleton-laws}
use Rattle.mddocument.proofs.Prelude.{◌∙◌, ap, IfOk-weaker, ℕ, Bool, List, IsWellFormed, document, sym, subst, ◌≡◌}
use Rattle.mddocument.proofs.InContainers.TextsFormed.{events-formed}
use Rattle.mddocument.specs.DocumentEvents.{document_events, document_events_by, is_defined_in}
use Rattle.mddocument.proofs.nested.read_nested_events.Goals as goal

pub returns-clause-events : goal.returns-clause-events
returns-clause-events c =
    let g = document c.args.options.now c.args.bytes.now in
    let known : List ℕ → Bool = defines c.in_ok-blocks.blocks.labels in
    let labels : known ≡ is_defined_in g = (λ i label. c.in_ok-blocks.ensures.labels label i) ∙ sym (labels-are-defined g) in
    IfOk-weaker c.with_texts.result _ _ (λ new (e : new.items ≡ document_events_by known g). e ∙ ap (λ (d : List ℕ → Bool). document_events_by d g) labels) c.with_texts.ensures.events

pub returns-clause-formed : goal.returns-clause-formed
returns-clause-formed c =
    let g = document c.args.options.now c.args.bytes.now in
    let is = c.read_blocks_and_labels.ensures.document in
    IfOk-weaker c.with_texts.result _ _ (λ new (are : new.items ≡ document_events g). subst (IsWellFormed g) (sym are) (events-formed skeleton-laws g is (events-tight skeleton-laws inlines-hold-text g is))) (returns-clause-events c)
