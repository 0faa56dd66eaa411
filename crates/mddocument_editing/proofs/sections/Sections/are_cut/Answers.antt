use Rattle.mddocument_editing.proofs.Prelude.{subst, IsDivided}
use Rattle.mddocument_editing.proofs.sections.Sections.are_cut.Goals as goal

pub returns : goal.returns
returns c = subst IsDivided c.self.view_is c.self.invariant.kept.divided
