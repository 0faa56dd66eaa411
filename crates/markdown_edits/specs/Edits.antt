-- Edits of a list of events, in the order of their indices, one for each index.
use Rattle.std.specs.Prelude.{ℕ, ◌+◌, ◌≤◌, ◌<◌, Bool, ◌&&◌, ◌==◌, List, [], ◌∷◌, ◌++◌, length, if◌then◌else◌}
use Rattle.std.specs.List.{AllByRecursion}
use Rattle.std.specs.Ordering.{match_ordering, nat_cmp}
use Rattle.markdown_base.specs.declared.event.Event.{Event}

-- from an index on `remove` events go, and the additions come in their place (the crate's comments on `EditMap`)
pub record Edit : Type 0 where
  pub index : ℕ
  pub remove : ℕ
  pub additions : List Event

-- the edit with these parts
abbrev pub edit_at : ℕ → ℕ → List Event → Edit
edit_at index remove additions = record { index = index; remove = remove; additions = additions }

-- how many events the edits remove, and how many they add
abbrev pub removed_by : List Edit → ℕ
removed_by [] = 0
removed_by (e ∷ es) = e.remove + removed_by es

abbrev pub added_by : List Edit → ℕ
added_by [] = 0
added_by (e ∷ es) = length e.additions + added_by es

-- nothing goes and nothing comes
abbrev pub is_no_edit : Edit → Bool
is_no_edit d = (d.remove == 0) && (length d.additions == 0)

-- two edits at one index as one: it removes as many as both, and adds f of their additions
abbrev pub merged : (List Event → List Event → List Event) → Edit → Edit → Edit
merged f e d = edit_at e.index (e.remove + d.remove) (f e.additions d.additions)

-- the edits with one more: merged with the one at its index, else before the first one with a greater index
abbrev pub put_by : (List Event → List Event → List Event) → List Edit → Edit → List Edit
put_by f [] d = d ∷ []
put_by f (e ∷ es) d =
    match_ordering (nat_cmp d.index e.index)
    (d ∷ e ∷ es)
    (merged f e d ∷ es)
    (e ∷ put_by f es d)

-- the edits with one more, whose additions come after the ones that are there
abbrev pub put_after : List Edit → Edit → List Edit
put_after = put_by (λ there more. there ++ more)

-- the edits with one more, whose additions come before the ones that are there
abbrev pub put_before : List Edit → Edit → List Edit
put_before = put_by (λ there more. more ++ there)

-- the edits after `add`
abbrev pub added_after : List Edit → Edit → List Edit
added_after es d = if is_no_edit d then es else put_after es d

-- the edits after `add_before`
abbrev pub added_before : List Edit → Edit → List Edit
added_before es d = if is_no_edit d then es else put_before es d

-- how many events go from an index on
abbrev pub removal_at : List Edit → ℕ → ℕ
removal_at [] i = 0
removal_at (e ∷ es) i = (if e.index == i then e.remove else 0) + removal_at es i

-- the first edit starts at or behind `from`, each ends at or before the index of the next, and the last ends within n events
abbrev pub AreDisjoint : ℕ → List Edit → ℕ → Type 0
AreDisjoint from [] n = from ≤ n
AreDisjoint from (e ∷ es) n = (from ≤ e.index) × AreDisjoint (e.index + e.remove) es n

-- the second edits are all behind the first ones: an index separates them
abbrev pub AreBehind : List Edit → List Edit → Type 0
AreBehind es more = (n : ℕ) × AllByRecursion (λ (e : Edit). e.index < n) es × AllByRecursion (λ (e : Edit). n ≤ e.index) more
