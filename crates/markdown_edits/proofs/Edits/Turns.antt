-- One turn of a loop over the edits.
use Rattle.markdown_edits.proofs.Prelude.{◌≡◌, ℕ, ◌+◌, ◌<◌, ◌≤◌, List, [], ◌∷◌, length, drop, get_or, refl, subst, arith, Event, Edit, AreDisjoint, part_edit, pooled, Entry, drop-cons, add-one}

-- the indices of disjoint edits lie within the list
pub AreDisjoint-le : (es : List Edit) (from n : ℕ) → AreDisjoint from es n → from ≤ n
AreDisjoint-le [] from n d = d
AreDisjoint-le (e ∷ es) from n d = let a : from ≤ e.index = d.0 in omega (arith, AreDisjoint-le es (e.index + e.remove) n d.1)

-- the entry that the code's reads give past the end
abbrev pub no_entry : Entry
no_entry = record { index = 0; remove = 0; start = 0; end = 0 }

-- if the edits that are left are disjoint from an index on, the next one begins there or behind it, and ends within the list
pub next_edit : (xs : List Event) (es : List Entry) (i from n : ℕ) → i < length es → AreDisjoint from (pooled xs (drop i es)) n
    → (from ≤ (get_or es i no_entry).index) × ((get_or es i no_entry).index + (get_or es i no_entry).remove ≤ n)
next_edit xs es i from n l d =
    let turn : pooled xs (drop i es) ≡ part_edit xs (get_or es i no_entry) ∷ pooled xs (drop (i + 1) es) = rw (drop-cons es i no_entry, add-one) refl in
    let h : AreDisjoint from (part_edit xs (get_or es i no_entry) ∷ pooled xs (drop (i + 1) es)) n = subst (λ es. AreDisjoint from es n) turn d in
    (h.0, AreDisjoint-le (pooled xs (drop (i + 1) es)) _ n h.1)
