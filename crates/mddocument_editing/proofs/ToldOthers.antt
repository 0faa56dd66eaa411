-- Sections of which something is new: which are told, in order and each once.
use Rattle.mddocument_editing.proofs.Prelude.{◌≡◌, ℕ, zero, suc, ◌+◌, ◌<◌, ◌≤◌, List, [], ◌∷◌, ◌++◌, length, Option, Some, None, get_or, refl, sym, ap, ◌∙◌, subst, arith, inl, inr, append-nil, append_assoc, map-append, false≢true, is_some, AllByRecursion, IfNone, IfSome, Contains, Contains-append_left, Contains-append_right, Event, ascend_from, AreReread, HasEvents, Reread, Section}
use Rattle.std.specs.Prelude.{option_map, option_to_list}
use Rattle.mddocument_link_targets.specs.declared.targets.Parts.{Parts}
use Rattle.mddocument_editing.specs.declared.edit.Other.{Other}
use Rattle.mddocument_editing.specs.declared.edit.Why.{Why}
use Rattle.mddocument_editing.specs.declared.edit.Why.TheVariants as why
use Rattle.mddocument_editing.specs.Edits.{numbers_of}
use Rattle.mddocument_editing.specs.Leading.{targets_in}
use Rattle.mddocument_editing.specs.Told.{AreTold, Goes, HasTargets, IsNew, IsToldAs, IsToldNext, left_behind, read_next, visits}
use Rattle.mddocument_editing.proofs.Stays.{stays-iff}
use Rattle.mddocument_editing.proofs.Visits.{IsNext, next-is, was_not, was_read}

-- what is told of it is appended
pub pushed : (n : ℕ) (w : Option Why) (before after : List Other) → IfNone w (after ≡ before) → IfSome w (λ why. after ≡ before ++ record { section = n; why = why } ∷ [])
    → after ≡ before ++ option_to_list (option_map (λ w. record { section = n; why = w }) w)
pushed n None before after stays more = stays ∙ sym (append-nil before)
pushed n (Some w) before after stays more = more

-- ---- which are told

-- numbers ascend from a lower one, too
ascend-less : (n m : ℕ) (ks : List ℕ) → n ≤ m → ascend_from m ks → ascend_from n ks
ascend-less n m [] order up = tt
ascend-less n m (k ∷ ks) order up = (omega (arith, order, up.0), up.1)

module _ (read : List ℕ → List Event) (old new : List ℕ → Option Parts) where
  abbrev Told : ℕ → List Section → List Other → Type 0
  Told = AreTold read old new

  -- what is told of one section, in front of what is told of others
  told-one : (n : ℕ) (s : Section) (ss : List Section) (rs : List Reread) → IsNext read n s rs → (w : Option Why) → IsToldAs old new s (is_some (read_next n rs)) w → (os : List Other) → Told (n + 1) ss os
      → Told n (s ∷ ss) (option_to_list (option_map (λ w. record { section = n; why = w }) w) ++ os)
  told-one n s ss rs (was_read found differs) None is os told = absurd (false≢true (sym is.0 ∙ ap is_some found))
  told-one n s ss rs (was_read found differs) (Some why.Events) is os told = inr (why.Events, (os, (refl, (differs, told))))
  told-one n s ss rs (was_read found differs) (Some why.Targets) is os told = absurd (false≢true (sym is.0 ∙ ap is_some found))
  told-one n s ss rs (was_not found has knows) None is os told = inl ((has, (stays-iff old new s knows).0 is.1), told)
  told-one n s ss rs (was_not found has knows) (Some why.Events) is os told = absurd (false≢true (sym (ap is_some found) ∙ is))
  told-one n s ss rs (was_not found has knows) (Some why.Targets) is os told = inr (why.Targets, (os, (refl, ((has, λ same. is.1 ((stays-iff old new s knows).1 same)), told))))

  -- what is told of sections that are gone over, behind what was told before
  pub told-all : (n : ℕ) (ss : List Section) (rs : List Reread) (before after : List Other) → AreReread read n ss rs → Goes (IsToldNext old new) (visits n ss rs) before after
      → (os : List Other) × ((after ≡ before ++ os) × Told n ss os)
  told-all n [] rs before after are goes = ([], (goes ∙ sym (append-nil before), refl))
  told-all n (s ∷ ss) rs before after are goes =
      let next = next-is read n s ss rs are in
      let one = goes.1.0 in
      let here = option_to_list (option_map (λ w. record { section = n; why = w }) one.0) in
      let more = told-all (n + 1) ss (left_behind (read_next n rs) rs) goes.0 after next.1 goes.1.1 in
      (here ++ more.0, (more.1.0 ∙ ap (λ os. os ++ more.0) one.1.1 ∙ append_assoc before here more.0, told-one n s ss rs next.0 one.0 one.1.0 more.0 more.1.1))

  -- none, if none was read again and labels lead where they led
  pub told-none : (n : ℕ) (ss : List Section) → new ≡ old → AllByRecursion (HasEvents read) ss → Told n ss []
  told-none n [] same all = refl
  told-none n (s ∷ ss) same all = inl ((all.0, ap (λ leads. targets_in leads s.part.bytes.items s.events) same), told-none (n + 1) ss same all.1)

  -- numbers ascend
  pub told-ascend : (n : ℕ) (ss : List Section) (os : List Other) → Told n ss os → ascend_from n (numbers_of os)
  told-ascend n [] os none = subst (λ zs. ascend_from n (numbers_of zs)) (sym none) tt
  told-ascend n (s ∷ ss) os (inl is) =
      let e : n + 1 ≡ suc n = omega arith in
      ascend-less n (suc n) (numbers_of os) (omega arith) (subst (λ k. ascend_from k (numbers_of os)) e (told-ascend (n + 1) ss os is.1))
  told-ascend n (s ∷ ss) os (inr is) =
      let e : n + 1 ≡ suc n = omega arith in
      let rest = is.1.0 in
      subst (λ zs. ascend_from n (numbers_of zs)) (sym is.1.1.0) (omega arith, subst (λ k. ascend_from k (numbers_of rest)) e (told-ascend (n + 1) ss rest is.1.1.1.1))

  -- what holds of each section of which something is new holds of all that are told
  pub told-each : (Q : Other → Type 0) (n : ℕ) (ss : List Section) (os : List Other) → Told n ss os
      → ((i : ℕ) (s : Section) (w : Why) → i < length ss → s ≡ get_or ss i s → IsNew read old new s w → Q (record { section = n + i; why = w })) → AllByRecursion Q os
  told-each Q n [] os none q = subst (AllByRecursion Q) (sym none) tt
  told-each Q n (x ∷ xs) os (inl is) q =
      told-each Q (n + 1) xs os is.1
      (λ i s w lt there news. let e : n + suc i ≡ n + 1 + i = omega arith in subst (λ k. Q (record { section = k; why = w })) e (q (suc i) s w (omega (arith, lt)) there news))
  told-each Q n (x ∷ xs) os (inr is) q =
      let z : n + 0 ≡ n = omega arith in
      subst (AllByRecursion Q) (sym is.1.1.0) (
        subst (λ k. Q (record { section = k; why = is.0 })) z (q 0 x is.0 (omega arith) refl is.1.1.1.0),
        told-each Q (n + 1) xs is.1.0 is.1.1.1.1
            (λ i s w lt there news. let e : n + suc i ≡ n + 1 + i = omega arith in subst (λ k. Q (record { section = k; why = w })) e (q (suc i) s w (omega (arith, lt)) there news)),
      )

  -- of a section that is not told nothing is new
  pub told-same : (n : ℕ) (ss : List Section) (os : List Other) → Told n ss os → (i : ℕ) (s : Section) → i < length ss → s ≡ get_or ss i s → ¬ Contains (numbers_of os) (n + i)
      → HasEvents read s × HasTargets read old new s
  told-same n [] os none i s lt there unnamed = absurd (omega (arith, lt))
  told-same n (x ∷ xs) os (inl is) zero s lt there unnamed = subst (λ y. HasEvents read y × HasTargets read old new y) (sym there) is.0
  told-same n (x ∷ xs) os (inl is) (suc i) s lt there unnamed =
      let e : n + 1 + i ≡ n + suc i = omega arith in
      told-same (n + 1) xs os is.1 i s (omega (arith, lt)) there (λ has. unnamed (subst (Contains (numbers_of os)) e has))
  told-same n (x ∷ xs) os (inr is) zero s lt there unnamed =
      let e : n ≡ n + 0 = omega arith in
      absurd (unnamed (subst (λ zs. Contains (numbers_of zs) (n + 0)) (sym is.1.1.0) (0, omega arith, e)))
  told-same n (x ∷ xs) os (inr is) (suc i) s lt there unnamed =
      let e : n + 1 + i ≡ n + suc i = omega arith in
      told-same (n + 1) xs is.1.0 is.1.1.1.1 i s (omega (arith, lt)) there
      (λ has. unnamed (subst (λ zs. Contains (numbers_of zs) (n + suc i)) (sym is.1.1.0) (Contains-append_right (n ∷ []) (numbers_of is.1.0) (n + suc i) (subst (Contains (numbers_of is.1.0)) e has))))

-- ---- those in front, and those behind

-- numbers ascend over both
pub ascend-append : (n m : ℕ) (os ps : List Other) → n ≤ m → ascend_from n (numbers_of os) → AllByRecursion (λ (other : Other). other.section < m) os → ascend_from m (numbers_of ps) → ascend_from n (numbers_of (os ++ ps))
ascend-append n m [] ps order up below more = ascend-less n m (numbers_of ps) order more
ascend-append n m (o ∷ os) ps order up below more = (up.0, ascend-append (suc o.section) m os ps (omega (arith, below.0)) up.1 below.1 more)

pub in-first : (os ps : List Other) (i : ℕ) → Contains (numbers_of os) i → Contains (numbers_of (os ++ ps)) i
in-first os ps i has = subst (λ ns. Contains ns i) (sym (map-append (λ (other : Other). other.section) os ps)) (Contains-append_left (numbers_of os) (numbers_of ps) i has)

pub in-last : (os ps : List Other) (i : ℕ) → Contains (numbers_of ps) i → Contains (numbers_of (os ++ ps)) i
in-last os ps i has = subst (λ ns. Contains ns i) (sym (map-append (λ (other : Other). other.section) os ps)) (Contains-append_right (numbers_of os) (numbers_of ps) i has)
