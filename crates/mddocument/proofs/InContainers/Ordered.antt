-- With children a list stays in order, if each child is, and each of its events stands in its chunks.
use Rattle.mddocument.proofs.Prelude.{ℕ, List, [], ◌∷◌, Option, length, AllByRecursion, range_with_len, stands-self, Content, Event, Point, IsInOrder, IsShown, point, chain_of, fitting_starts, with_children, IsReady}
use Rattle.std.specs.List.{AllZip}
use Rattle.std.specs.Prelude.{AllPairs}
use Rattle.std.proofs.lemmas.List.Elements.{All-from_recursion, recursion_from_All}
use Rattle.markdown_children.proofs.ChainOrder.Following.{Fits, follow_one_another, starts_fit}
use Rattle.markdown_children.specs.LawStatements.{IsWholeFrom}
use Rattle.mddocument.proofs.InContainers.Order.{Steady, Upto, all-steady, pairs-steady, steady-children, steady-pairs}
use Rattle.mddocument.proofs.InContainers.Parts.{AllIn, StandsWell, children-stand, well-ordered}

-- where a list begins
abbrev first_place : List Event → Point
first_place [] = point 1 1 0 0
first_place (e ∷ es) = e.point

from-first : (At : Point → Type 0) (events : List Event) → AllPairs (λ (e f : Event). Upto e.point f.point) events → AllByRecursion (λ (e : Event). At e.point) events → Steady At (first_place events) events
from-first At [] pairs at = tt
from-first At (e ∷ es) pairs at = (stands-self e.point, at.0, steady-pairs At e es pairs at.1)

module _ (tab : ℕ) (bytes : List ℕ) (wanted : Option Content) (events : List Event) (ready : IsReady tab bytes wanted events) where
  -- a child is in order, and in its chunks
  abbrev pub IsPutWell : ℕ → List Event → Type 0
  IsPutWell c child = IsInOrder bytes child × AllIn events (chain_of events c) child

  all-well : (cs : List ℕ) (children : List (List Event)) → AllByRecursion (Fits wanted events) cs → AllByRecursion (IsWholeFrom events) cs → AllZip IsPutWell cs children
      → AllZip (StandsWell (λ p. IsShown bytes p) tab bytes wanted events ready) cs children
  all-well [] [] fit whole h = tt
  all-well [] (x ∷ xs) fit whole h = absurd h
  all-well (c ∷ cs) [] fit whole h = absurd h
  all-well (c ∷ cs) (x ∷ xs) fit whole h =
      let shows = recursion_from_All (λ (e : Event). IsShown bytes e.point) x h.0.0.1 in
      (well-ordered (λ p. IsShown bytes p) tab bytes wanted events ready c x fit.0 whole.0 h.0.0.0 shows h.0.1, all-well cs xs fit.1 whole.1 h.1)

  pub ordered-children : IsInOrder bytes events → (children : List (List Event)) → AllZip IsPutWell (fitting_starts wanted events) children → IsInOrder bytes (with_children wanted events children)
  ordered-children order children h =
      let At : Point → Type 0 = λ p. IsShown bytes p in
      let starts = fitting_starts wanted events in
      let fit = starts_fit tab bytes wanted events ready (range_with_len 0 (length events)) in
      let whole = (follow_one_another tab bytes wanted events ready).whole in
      let stand = children-stand At tab bytes wanted events ready starts children fit whole (all-well starts children fit whole h) in
      let p = first_place events in
      let old = from-first At events order.0 (recursion_from_All (λ (e : Event). IsShown bytes e.point) events order.1) in
      let new = steady-children At tab bytes wanted events ready children stand p old in
      let list = with_children wanted events children in
      (pairs-steady At p list new, All-from_recursion (λ (e : Event). IsShown bytes e.point) list (all-steady At p list new))
