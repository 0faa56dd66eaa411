-- Sections of which something is new, by one pair of what labels lead to as by another, if by both the same labels lead elsewhere.
use Rattle.mddocument_editing.proofs.Prelude.{◌≡◌, ℕ, ◌+◌, Bool, true, false, cond, List, [], ◌∷◌, ◌++◌, drop, Option, refl, inl, inr, ap, Event, Section}
use Rattle.mddocument_link_targets.specs.declared.targets.Parts.{Parts}
use Rattle.mddocument_link_targets.specs.declared.targets.Target.{Target}
use Rattle.mddocument_link_targets.specs.declared.targets.Target.TheVariants as target
use Rattle.mddocument_link_targets.specs.Spans.{inside}
use Rattle.mddocument_link_targets.specs.Targets.{enters_link, target_in}
use Rattle.mddocument_editing.specs.declared.edit.Other.{Other}
use Rattle.mddocument_editing.specs.declared.edit.Why.{Why}
use Rattle.mddocument_editing.specs.declared.edit.Why.TheVariants as why
use Rattle.mddocument_editing.specs.Leading.{resolved, targets_in}
use Rattle.mddocument_editing.specs.Told.{AreTold, IsNew}

module _ {o n p q : List ℕ → Option Parts} (f : (label : List ℕ) → n label ≡ o label → q label ≡ p label) where
  target-if : (t : Target) → resolved n t ≡ resolved o t → resolved q t ≡ resolved p t
  target-if (target.Parts parts) same = refl
  target-if (target.Label label) same = f label same

  abbrev first-or : Option Parts → List (Option Parts) → Option Parts
  first-or d [] = d
  first-or d (x ∷ xs) = x

  one-if : (b : Bool) (t : Target) (xs ys zs ws : List (Option Parts)) → (xs ≡ ys → zs ≡ ws) → cond b (resolved n t ∷ []) [] ++ xs ≡ cond b (resolved o t ∷ []) [] ++ ys
      → cond b (resolved q t ∷ []) [] ++ zs ≡ cond b (resolved p t ∷ []) [] ++ ws
  one-if true t xs ys zs ws more same =
      let here = target-if t (ap (first-or (resolved n t)) same) in
      let rest = more (ap (drop 1) same) in
      λ i. here i ∷ rest i
  one-if false t xs ys zs ws more same = more same

  -- if links lead where they led by one pair, they do by the other
  pub targets-if : (bytes : List ℕ) (es : List Event) → targets_in n bytes es ≡ targets_in o bytes es → targets_in q bytes es ≡ targets_in p bytes es
  targets-if bytes [] same = refl
  targets-if bytes (e ∷ es) same =
      one-if (enters_link e) (target_in bytes (inside es)) (targets_in n bytes es) (targets_in o bytes es) (targets_in q bytes es) (targets_in p bytes es) (targets-if bytes es) same

module _ (read : List ℕ → List Event) {o n p q : List ℕ → Option Parts} (f : (label : List ℕ) → n label ≡ o label → q label ≡ p label) (g : (label : List ℕ) → q label ≡ p label → n label ≡ o label) where
  new-if : (s : Section) (w : Why) → IsNew read o n s w → IsNew read p q s w
  new-if s why.Events is = is
  new-if s why.Targets is = (is.0, λ same. is.1 (targets-if g s.part.bytes.items s.events same))

  pub told-if : (k : ℕ) (ss : List Section) (os : List Other) → AreTold read o n k ss os → AreTold read p q k ss os
  told-if k [] os told = told
  told-if k (s ∷ ss) os (inl is) = inl ((is.0.0, targets-if f s.part.bytes.items s.events is.0.1), told-if (k + 1) ss os is.1)
  told-if k (s ∷ ss) os (inr is) = inr (is.0, (is.1.0, (is.1.1.0, (new-if s is.0 is.1.1.1.0, told-if (k + 1) ss is.1.0 is.1.1.1.1))))
