use Rattle.markdown_base.proofs.Prelude.{refl, sym}
use Rattle.markdown_base.proofs.state.State.try_clone.Goals as goal

pub returns-in-Next : goal.returns-in-Next
returns-in-Next c = record { equal = sym c.in-Next.is; succeeds = λ _. refl }
