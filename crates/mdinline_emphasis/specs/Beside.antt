-- What pairs of emphasis leave between neighbours.
use Rattle.std.specs.Prelude.{◌≡◌, ◌⊎◌, true, List, [], ◌∷◌}
use Rattle.std.specs.List.{AllByRecursion}
use Rattle.mdinline_emphasis.specs.Emphasis.{Run, same, paired}

-- of two neighbours the first opens nothing, the second closes nothing, or they have one marker
abbrev pub IsBeside : Run → Run → Type 0
IsBeside a b = (a.opened ≡ []) ⊎ (b.closed ≡ []) ⊎ (same a.marker b.marker ≡ true)

-- each run and the one behind it
abbrev pub AreBeside : List Run → Type 0
AreBeside [] = Unit {0}
AreBeside (r ∷ []) = Unit {0}
AreBeside (r ∷ s ∷ rs) = IsBeside r s × AreBeside (s ∷ rs)

-- runs that are in no pair yet
abbrev pub AreUnpaired : List Run → Type 0
AreUnpaired rs = AllByRecursion (λ r. (r.closed ≡ []) × (r.opened ≡ [])) rs

-- of the runs of a text, with their pairs, all neighbours are so
abbrev pub PairsBeside : Type 0
PairsBeside = (rs : List Run) → AreUnpaired rs → AreBeside (paired rs)
