-- Edits that remove nothing are apart in whatever order they are added.
use Rattle.mdbench.proofs.Prelude.{◌≡◌, ℕ, ◌+◌, ◌≤◌, true, false, cond, List, [], ◌∷◌, refl, sym, subst, arith, Event, Edit, AreDisjoint, edit_at, is_no_edit, added_after, put_after}
use Rattle.std.proofs.lemmas.Bool.Decides.{nat_tests}

-- edits in order that remove nothing, from an index on, within n events
abbrev pub AreInsertions : ℕ → List Edit → ℕ → Type 0
AreInsertions from [] n = from ≤ n
AreInsertions from (e ∷ es) n = (from ≤ e.index) × (e.remove ≡ 0) × AreInsertions e.index es n

pub apart : (from : ℕ) (es : List Edit) (n : ℕ) → AreInsertions from es n → AreDisjoint from es n
apart from [] n h = h
apart from (e ∷ es) n h =
    let none : e.index + e.remove ≡ e.index = let z = h.1 in omega (arith, z) in
    (h.0, subst (λ (k : ℕ). AreDisjoint k es n) (sym none) (apart e.index es n h.2))

put : (from : ℕ) (es : List Edit) (n k : ℕ) (xs : List Event) → from ≤ k → k ≤ n → AreInsertions from es n → AreInsertions from (put_after es (edit_at k 0 xs)) n
put from [] n k xs l within h = (l, refl, within)
put from (e ∷ es) n k xs l within h = grind (arith, nat_tests, h.0, h.1, h.2, put e.index es n k xs)

pub added : (es : List Edit) (n k : ℕ) (xs : List Event) → k ≤ n → AreInsertions 0 es n → AreInsertions 0 (added_after es (edit_at k 0 xs)) n
added es n k xs within h = elim (is_no_edit (edit_at k 0 xs)) as (λ b. AreInsertions 0 (cond b es (put_after es (edit_at k 0 xs))) n) [ true ↦ h | false ↦ put 0 es n k xs (omega arith) within h ]
