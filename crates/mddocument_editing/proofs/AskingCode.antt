-- Labels that change.
use Rattle.mddocument_editing.proofs.Prelude.{◌≡◌, Bool, false, arith, changes}

-- a label that does not change
pub same-unless-changed : {A : Type 0} (old new : A → Bool) (label : A) → changes old new label ≡ false → new label ≡ old label
same-unless-changed old new label h = grind arith
