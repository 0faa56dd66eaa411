-- What the prover finds by itself in the code of a machine: a state that is called may be called.
use Rattle.mdconstructs_tables.proofs.Prelude.{◌≡◌, ◌==◌, ℕ, List, [], ◌∷◌, true, false, cond, Option, Some, ◌⊎◌, inl, inr, refl, sym, ap, ◌∙◌, arith, nat_tests, Name, Retry, CanExit, Local, TokenizerValue, sight_of, marked, enter, exit, consume, StateRows, Table, class_of, named, table_holds, begun, IsCallable, EventName, KeepsNoted}
use Rattle.mdconstructs_tables.proofs.Rows.Calls.{are_allowed, callable, can-exit}

-- one of these states has the name, and can be called
abbrev pub IsOneCallable : {M W R D : Type 0} → (ℕ → W) → List (StateRows W R D) → Name → TokenizerValue M R D → Type 0
IsOneCallable class [] name t = ⊥
IsOneCallable class (state ∷ states) name t = ((name.number ≡ state.name.number) × IsCallable class state t) ⊎ IsOneCallable class states name t

-- If the invariant holds at a call, a state of the table has the name and can be called, once the call has begun. The first part shows
-- `grind` where to use a lemma that ends in this.
abbrev pub IsCalled : {M W R D : Type 0} → Table W R D → (Local R D → Local R D) → TokenizerValue M R D → Type 0
IsCalled table first t =
    (begun first t ≡ begun first t)
    × ((name : Name) → table_holds table t.given t.text t.configuration t.choices (Retry name) → IsOneCallable table.class table.states name (begun first t))

module _ {M W R D : Type 0} (table : Table W R D) (first : Local R D → Local R D) (kept : KeepsNoted first) (t : TokenizerValue M R D) where
  one-callable : (name : Name) (states : List (StateRows W R D)) → named table.states name ≡ named states name → table_holds table t.given t.text t.configuration t.choices (Retry name)
      → IsOneCallable table.class states name (begun first t)
  one-callable name [] is h = rw is at h.1.2
  one-callable name (state ∷ states) is h = elim (name.number == state.name.number) as
      (λ b. (name.number == state.name.number) ≡ b → named table.states name ≡ cond b (Some state) (named states name) → IsOneCallable table.class (state ∷ states) name (begun first t)) [
        | true ↦ λ test found.
            let same : name.number ≡ state.name.number = grind (arith, nat_tests) in
            inl (same, callable table first kept name state t (begun first t) same (ap (λ n. named table.states (record { number = n })) (sym same) ∙ found) h refl)
        | false ↦ λ test found. inr (one-callable name states found h)
      ] refl is

  pub is-called : IsCalled table first t
  is-called = (refl, λ name. one-callable name table.states refl)

-- behind a marker a state may exit a span if the test allows that
pub exit-behind-marker : {M W R D : Type 0} {class : ℕ → W} {state : StateRows W R D} {t : TokenizerValue M R D} → IsCallable class state t → (w : Option W) → class_of class (sight_of t).current ≡ w
    → (marker name : EventName) → are_allowed class state (class_of class (sight_of t).previous) w t (enter marker ∷ consume ∷ exit marker ∷ exit name ∷ []) ≡ true
    → (t' : TokenizerValue M R D) → t' ≡ marked marker t → CanExit name t'
exit-behind-marker {class = class} {state = state} {t = t} can w is marker name allowed t' marks =
    can-exit class state _ w t can.called refl is (enter marker ∷ consume ∷ exit marker ∷ []) name t' allowed marks
