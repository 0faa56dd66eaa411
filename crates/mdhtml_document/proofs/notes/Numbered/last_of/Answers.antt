use Rattle.std.proofs.Common.{◌∙◌}
use Rattle.mddocument_link_targets.proofs.Lookups.{found}
use Rattle.mdhtml_document.proofs.notes.Numbered.last_of.Goals as goal

pub returns : goal.returns
returns c = c.copied.ensures ∙ c.get.ensures.value ∙ found (λ k. k.items) c.args.label.now c.args.self.now.last.entries
