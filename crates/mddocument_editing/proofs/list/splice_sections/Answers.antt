use Rattle.std.proofs.Common.{◌∙◌}
use Rattle.mddocument_editing.proofs.PutSections.{spliced}
use Rattle.mddocument_editing.proofs.list.splice_sections.Goals as goal

pub returns-clause-items : goal.returns-clause-items
returns-clause-items c =
    let read = c.args.read in
    let h = c.in_ok-splice.ensures.items in
    spliced c.args.from c.args.end c.args.sections.now.items read.items c.splice.new.self.items h.0 h.1 h.2.0 (h.2.1 ∙ read.ok.0) h.3 h.4
