-- The points of events are points of places.
use Rattle.markdown_tokenizer.proofs.Prelude.{AllByRecursion, ◌≡◌, ℕ, ◌+◌, ◌<◌, Bool, true, false, List, [], ◌∷◌, Some, sym, subst, map, Point, Event, Edit, Tagged, edited, placed_in, woven, shown, unlinked, IsPointOf, IsPlace, AreAtPlaces, rest_at, Given, Text, Sight, Configuration, Subresult, Resolved, IsResolved, LeavesEvents, resolved_by, taken, found, with_resolvers}
use Rattle.std.proofs.lemmas.List.Elements.{All-from_recursion, recursion_from_All}
use Rattle.markdown_tokenizer.specs.Resolving.{done, edits_made}
use Rattle.markdown_tokenizer.proofs.Inside.Made.{all-unlinked}
use Rattle.markdown_tokenizer.proofs.Positions.SeatLaws.{after-is-point}

module _ (t : ℕ) (bytes : List ℕ) where
  -- where a place is shown is a place
  pub shown-is-point : 0 < t → (p : Point) → IsPlace t bytes p → IsPointOf t bytes (shown bytes p)
  shown-is-point d p place = subst (IsPointOf t bytes) (sym place.stands) (after-is-point t bytes d place.before (rest_at t bytes p) place.splits)

  -- links are no part of places
  pub at-places-unlinked : (xs ys : List Event) → map unlinked xs ≡ map unlinked ys → AreAtPlaces t bytes xs → AreAtPlaces t bytes ys
  at-places-unlinked xs ys same h = all-unlinked xs ys same (IsPointOf t bytes) h

  -- no edit moves them
  unedited : (ts : List Tagged) (i : ℕ) (xs : List Event) → AllByRecursion (λ e. IsPointOf t bytes e.point) xs → AllByRecursion (λ e. IsPointOf t bytes e.point) (placed_in ts (woven [] i xs))
  unedited ts i [] h = tt
  unedited ts i (x ∷ xs) h = (h.0, unedited ts (i + 1) xs h.1)

  edited-none-at-places : (xs : List Event) → AreAtPlaces t bytes xs → AreAtPlaces t bytes (edited [] xs)
  edited-none-at-places xs h = All-from_recursion (λ e. IsPointOf t bytes e.point) (edited [] xs) (unedited (woven [] 0 xs) 0 xs (recursion_from_All (λ e. IsPointOf t bytes e.point) xs h))

  -- nor does resolving that changes no event
  pub resolved-at-places : {R D : Type 0} (resolver : Sight → Configuration R D → R → Resolved R D) (g : Given) (text : Text) (resolve : Bool) (k new : Configuration R D) (sub : Subresult)
      → IsResolved resolver g text resolve k new sub → AreAtPlaces t bytes k.events → LeavesEvents resolve k → AreAtPlaces t bytes new.events
  resolved-at-places {R = R} {D = D} resolver g text false k new sub h places leaves = subst (λ (q : Configuration R D). AreAtPlaces t bytes q.events) (sym h.0) places
  resolved-at-places {R = R} {D = D} resolver g text true k new sub h places leaves =
      let ran : resolved_by resolver g text [] (with_resolvers (taken k) []) (found k) ≡ done new (Some sub) =
      subst (λ (rs : List R). resolved_by resolver g text rs (with_resolvers (taken k) []) (found k) ≡ done new (Some sub)) leaves.0 h in
      let same : edits_made (with_resolvers (taken k) []) ≡ new = cc in
      subst (λ (q : Configuration R D). AreAtPlaces t bytes q.events) same (subst (λ (es : List Edit). AreAtPlaces t bytes (edited es k.events)) (sym leaves.1) (edited-none-at-places k.events places))
