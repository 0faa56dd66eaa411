-- A name that is none of a list's has nothing beside it.
use Rattle.std.proofs.Common.{◌≡◌, List, [], ◌∷◌, refl, ◌∙◌}
use Rattle.std.specs.Prelude.{⊤, Bool, true, false, cond}
use denote.Enum.Bare.{same_true}
use Rattle.markdown_base.specs.contracts.event.Name.{the_type}
use Rattle.markdown_base.specs.declared.event.Name.{Name}
use Rattle.markdown_base.specs.Events.{same_name}
use Rattle.mdhtml_document.specs.Names.{named}

abbrev pub IsNone : {A : Type 0} → Name → List (Name × A) → Type 0
IsNone n [] = ⊤
IsNone n (p ∷ ps) = (n ≡ p.0 → ⊥) × IsNone n ps

other-by : {A : Type 0} (c : Bool) (n m : Name) (x y : A) → same_name n m ≡ c → (n ≡ m → ⊥) → cond c x y ≡ y
other-by true n m x y e h = absurd (h (same_true the_type tt n m e))
other-by false n m x y e h = refl

pub none-named : {A : Type 0} (ps : List (Name × A)) (other : A) (n : Name) → IsNone n ps → named ps other n ≡ other
none-named [] other n h = refl
none-named (p ∷ ps) other n h = other-by (same_name n p.0) n p.0 p.1 (named ps other n) refl h.0 ∙ none-named ps other n h.1
