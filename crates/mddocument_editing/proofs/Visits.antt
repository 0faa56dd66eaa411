-- Sections that are gone over: which was read again, and a step for each.
use Rattle.mddocument_editing.proofs.Prelude.{◌≡◌, ℕ, ◌+◌, ◌≤◌, cond, List, [], ◌∷◌, length, Option, Some, None, drop, refl, sym, ap, ◌∙◌, subst, arith, inl, inr, eq-eqb, ne_eqb, Event, AreReread, HasEvents, HasLinking, read_again, Reread, Section}
use Rattle.std.specs.Iterator.{YieldsFirstBy}
use Rattle.mddocument_editing.specs.Said.{saids}
use Rattle.mddocument_editing.specs.Told.{Goes, Visited, left_behind, read_next, saids_now, visit_of, visits_of}
use Rattle.mddocument_editing.specs.declared.told.Side.{Side}
use Rattle.mddocument_editing.specs.declared.told.Visit.{Visit}

-- ---- steps

module _ {A : Type 0} (step : Visited → A → A → Type 0) where
  -- of one section
  pub goes-on : (side more : Side) (v : Visit) (r : Option Visit) (a b : A) → r ≡ Some v → YieldsFirstBy visit_of visits_of side r more → step (visit_of v) a b
      → (after : A) → Goes step (visits_of more) b after → Goes step (visits_of side) a after
  goes-on side more v r a b is gives one after rest =
      let first : visits_of side ≡ visit_of v ∷ visits_of more = subst (λ r. YieldsFirstBy visit_of visits_of side r more) is gives in
      subst (λ vs. Goes step vs a after) (sym first) (b, (one, rest))

  -- of none
  pub goes-end : (side more : Side) (r : Option Visit) (a : A) → r ≡ None → YieldsFirstBy visit_of visits_of side r more → Goes step (visits_of side) a a
  goes-end side more r a is gives =
      let none : visits_of side ≡ [] = (subst (λ r. YieldsFirstBy visit_of visits_of side r more) is gives).0 in
      subst (λ vs. Goes step vs a a) (sym none) refl

-- ---- which was read again

module _ (read : List ℕ → List Event) where
  -- those that were read again have numbers of these sections
  least : (n : ℕ) (ss : List Section) (r : Reread) (rs : List Reread) → AreReread read n ss (r ∷ rs) → n ≤ r.section
  least n [] r rs none = absurd (no-more r rs none)
    where
      no-more : (r : Reread) (rs : List Reread) → ¬ (r ∷ rs ≡ [])
      no-more r rs e = omega (arith, ap length e)
  least n (s ∷ ss) r rs (inl is) = omega (arith, least (n + 1) ss r rs is.1)
  least n (s ∷ ss) r rs (inr is) = omega (arith, ap first-number is.1.0)
    where
      first-number : List Reread → ℕ
      first-number [] = 0
      first-number (q ∷ qs) = q.section

  -- A section was read again, or it was not
  pub data IsNext (n : ℕ) (s : Section) (rs : List Reread) : Type 0 where
    was_read : read_next n rs ≡ Some (read_again read n s) → ¬ HasEvents read s → IsNext n s rs
    was_not : read_next n rs ≡ None → HasEvents read s → HasLinking s → IsNext n s rs

  -- of the first of sections it is so; and those behind it that were read again are left
  pub next-is : (n : ℕ) (s : Section) (ss : List Section) (rs : List Reread) → AreReread read n (s ∷ ss) rs → IsNext n s rs × AreReread read (n + 1) ss (left_behind (read_next n rs) rs)
  next-is n s ss [] (inl is) = (was_not refl is.0.0 is.0.1, is.1)
  next-is n s ss (r ∷ rs) (inl is) =
      let more = least (n + 1) ss r rs is.1 in
      let none = ap (λ b. cond b (Some r) None) (ne_eqb r.section n (λ e. omega (arith, more, e))) in
      (was_not none is.0.0 is.0.1, subst (λ f. AreReread read (n + 1) ss (left_behind f (r ∷ rs))) (sym none) is.1)
  next-is n s ss rs (inr is) =
      let r = read_again read n s in
      let found : read_next n rs ≡ Some r = ap (read_next n) is.1.0 ∙ ap (λ b. cond b (Some r) None) (eq-eqb n n refl) in
      (was_read found is.1.1.0, subst (λ f. AreReread read (n + 1) ss (left_behind f rs)) (sym found) (subst (AreReread read (n + 1) ss) (sym (ap (drop 1) is.1.0)) is.1.1.1))

  -- the definitions that it has now
  pub read-now : (n : ℕ) (s : Section) (rs : List Reread) → IsNext n s rs → saids_now s (read_next n rs) ≡ saids s.part.bytes.items (read s.part.bytes.items)
  read-now n s rs (was_read found differs) = ap (saids_now s) found
  read-now n s rs (was_not found has knows) = ap (saids_now s) found ∙ ap (λ l. l.saids) knows ∙ ap (saids s.part.bytes.items) (sym has)
