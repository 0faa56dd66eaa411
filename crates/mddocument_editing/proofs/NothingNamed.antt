-- An edit that leaves the bytes of a document changes nothing.
use Rattle.mddocument_editing.proofs.Prelude.{◌≡◌, ℕ, ◌<◌, List, [], ◌∷◌, length, refl, subst, sym, ap, ◌∙◌, arith, length-drop, AllByRecursion, Divided, IsChange, IsWhy, NothingIsNamed, Other, Why, section_of}
use Rattle.mddocument_editing.proofs.Unique.{divided-unique}
use Rattle.mddocument_editing.specs.declared.edit.Change.{Change}
use Rattle.mddocument_editing.specs.declared.edit.Why.TheVariants as why

-- nothing is new of a section of the same document
none-why : (d : Divided) (section : List ℕ) (w : Why) → ¬ IsWhy d d section w
none-why d section why.Events is = is refl
none-why d section why.Targets is = is.1 refl

none-told : (d : Divided) (others : List Other) → AllByRecursion (λ (other : Other). IsWhy d d (section_of d other.section) other.why) others → others ≡ []
none-told d [] all = refl
none-told d (other ∷ more) all = absurd (none-why d (section_of d other.section) other.why all.0)

module _ (d : Divided) (change : Change) (is : IsChange d d change) where
  ends-same : change.new_to ≡ change.old_to
  ends-same =
      let sizes = sym (length-drop change.new_to d.sections) ∙ (ap length is.behind ∙ length-drop change.old_to d.sections) in
      omega (arith, sizes, is.old_within.1, is.new_within.1)

  none-replaced : ¬ (change.from < change.old_to)
  none-replaced some = is.first some (omega (arith, some, ends-same)) refl

none-named : (d : Divided) (change : Change) → IsChange d d change → (change.old_to ≡ change.from) × ((change.new_to ≡ change.from) × (change.others.items ≡ []))
none-named d change is =
    let ends = ends-same d change is in
    let same : change.old_to ≡ change.from = omega (arith, none-replaced d change is, is.old_within.0) in
    (same, (ends ∙ same, none-told d change.others.items is.why))

pub nothing-named : NothingIsNamed
nothing-named old new change is also options bytes changed = none-named new change (subst (λ (d : Divided). IsChange d new change) (divided-unique old new is also options bytes) changed)
