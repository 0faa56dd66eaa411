use Rattle.mddocument_editing.proofs.Prelude.{sym, ◌∙◌}
use Rattle.mddocument_editing.proofs.AnyOf.{none-labelled}
use Rattle.mddocument_editing.proofs.linking.labels_of.Goals as goal

pub returns-then-not-link : goal.returns-then-not-link
returns-then-not-link c = c.new.ensures ∙ sym (none-labelled c.args.bytes.now c.args.events.now (sym c.link.ensures ∙ c.if-not-link.true))
