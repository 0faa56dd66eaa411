use Rattle.mddocument_editing.proofs.Prelude.{◌∙◌}
use Rattle.mddocument_link_targets.proofs.Lookups.{found}
use Rattle.mddocument_editing.proofs.leads.Leads.index_of.Goals as goal

pub returns : goal.returns
returns c = c.copied.ensures ∙ c.get.ensures.value ∙ found (λ k. k.items) c.args.label.now c.args.self.now.indices.entries
