-- What the code reads is the run that is next.
use Rattle.mdinline_emphasis.proofs.Prelude.{◌≡◌, ℕ, ◌<◌, ◌-◌, Bool, true, false, arith, List, Option, Some, map, length, get_or, sym, ap, ◌∙◌, subst, slice_get, option_map, nat_lt, ◌&&◌, nat_tests, length-map, slice_get-map, slice_get-get_or, Delimiters, Run, markers_of, SoFar, as_run, last_of, StandsAt, IsNext, same_Some, Style}
use Rattle.mdinline_emphasis.proofs.Markers.{takes-some}
use Rattle.mdinline_emphasis.proofs.Stands.{closer-run, closer-inside}

pub next-inside : (ds : List Delimiters) (openers : List ℕ) (closer : ℕ) → IsNext (map as_run ds) openers closer → closer < length ds
next-inside ds openers closer next =
    subst (λ n. closer < n) (length-map ds as_run) (closer-inside (map as_run ds) openers closer next.0 next.1 next.2 next.3)

pub run-at : (ds : List Delimiters) (openers : List ℕ) (closer : ℕ) (d : Delimiters) (z : SoFar) (r : Run) (rest : List Run) → StandsAt (map as_run ds) openers closer z r rest
    → as_run (get_or ds closer d) ≡ r
run-at ds openers closer d z r rest h =
    let inside = next-inside ds openers closer (z, r, rest, h) in
    let there : slice_get (map as_run ds) closer ≡ Some (as_run (get_or ds closer d)) = slice_get-map as_run ds closer ∙ ap (option_map as_run) (slice_get-get_or ds closer d inside) in
    same_Some (as_run (get_or ds closer d)) r (sym there ∙ closer-run (map as_run ds) openers closer z r rest h)

-- a search for the run that is next, in a list that is the openers
pub search-is : (ds : List Delimiters) (openers slice : List ℕ) (closer : ℕ) (d : Delimiters) (found : Option ℕ) (z : SoFar) (r : Run) (rest : List Run) → StandsAt (map as_run ds) openers closer z r rest
    → d ≡ get_or ds closer d → slice ≡ openers → found ≡ last_of (map as_run ds) slice (as_run d) (length slice) → last_of (map as_run ds) openers r (length openers) ≡ found
search-is ds openers slice closer d found z r rest h at same is =
    sym (is ∙ ap (λ xs. last_of (map as_run ds) xs (as_run d) (length xs)) same ∙ ap (λ x. last_of (map as_run ds) openers x (length openers)) (ap as_run at ∙ run-at ds openers closer d z r rest h))

-- fewer markers are left
pub fewer : (s : Style) (n : ℕ) → 0 < n → n - markers_of s < n
fewer s n h = let some = takes-some s in omega (arith, h, some)

-- a run that can close has markers left
pub has-markers : (closes : Bool) (n : ℕ) → (closes && nat_lt 0 n) ≡ true → 0 < n
has-markers true n e = grind (arith, nat_tests)
has-markers false n e = absurd (cc)
