use Rattle.std.proofs.Common.{◌∙◌}
use Rattle.mddocument_link_targets.proofs.Lookups.{found}
use Rattle.mddocument_link_targets.proofs.definitions.Definitions.get.Goals as goal

-- src/definitions.rt:32:5
pub returns : goal.returns
returns c = c.copied.ensures ∙ c.get.ensures.value ∙ found (λ k. k.items) c.args.label.now c.args.self.now.indices.entries
