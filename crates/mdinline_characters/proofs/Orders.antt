-- Names in order.
use Rattle.mdinline_characters.proofs.Prelude.{◌≡◌, ℕ, List, [], ◌∷◌, Bool, true, ◌&&◌, refl, and_parts, slice_cmp, nat_list_cmp_total, AllByRecursion, keys_of, is_lt, nat_cmp, Ordering, Less, Equal, Greater, Reference}
use Rattle.std.specs.List.Sorted.{IsStrictlySortedBy}

-- each name is below the next one, by its bytes
abbrev pub are_in_order : List Reference → Bool
are_in_order [] = true
are_in_order (reference ∷ []) = true
are_in_order (reference ∷ next ∷ references) = is_lt (slice_cmp nat_cmp reference.0 next.0) && are_in_order (next ∷ references)

below_all : (name : List ℕ) (next : List ℕ) (references : List Reference) → slice_cmp nat_cmp name next ≡ Less
    → AllByRecursion (λ y. slice_cmp nat_cmp next y ≡ Less) (keys_of references) → AllByRecursion (λ y. slice_cmp nat_cmp name y ≡ Less) (keys_of references)
below_all name next [] less all = tt
below_all name next (reference ∷ references) less all = (nat_list_cmp_total.trans name next reference.0 less all.0, below_all name next references less all.1)

pub is_lt-Less : (order : Ordering) → is_lt order ≡ true → order ≡ Less
is_lt-Less Less h = refl
is_lt-Less Equal h = cc
is_lt-Less Greater h = cc

pub strictly_sorted : (references : List Reference) → are_in_order references ≡ true → IsStrictlySortedBy (slice_cmp nat_cmp) (keys_of references)
unfolding IsStrictlySortedBy
strictly_sorted [] h = tt
strictly_sorted (reference ∷ []) h = (tt, tt)
strictly_sorted (reference ∷ next ∷ references) h =
    let parts = and_parts (is_lt (slice_cmp nat_cmp reference.0 next.0)) (are_in_order (next ∷ references)) h in
    let less = is_lt-Less (slice_cmp nat_cmp reference.0 next.0) parts.0 in
    let rest = strictly_sorted (next ∷ references) parts.1 in ((less, below_all reference.0 next.0 references less rest.0), rest)
