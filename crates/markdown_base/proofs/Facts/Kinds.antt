-- Facts of the two kinds of events.
use Rattle.markdown_base.proofs.Prelude.{◌≡◌, true, refl, not, Kind, Enter, Exit}
use Rattle.markdown_base.specs.Events.{is_enter}

-- what is an enter
pub enter-is : (k : Kind) → is_enter k ≡ true → k ≡ Enter
enter-is Enter h = refl
enter-is Exit h = cc

-- and what is none
pub exit-is : (k : Kind) → not (is_enter k) ≡ true → k ≡ Exit
exit-is Enter h = cc
exit-is Exit h = refl
