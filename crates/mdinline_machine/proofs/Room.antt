-- Places of a document have room for the bytes behind them.
use Rattle.mdinline_machine.proofs.Prelude.{◌≡◌, ℕ, zero, suc, ◌+◌, ◌-◌, ◌*◌, ◌<◌, ◌≤◌, List, length, inl, inr, ap, arith, cases_lt, mul-le-mul_right, Event, Point, IsPointOf, AreAtPlaces, Given, IsDocument, place-of-point, HasRoom, ArePlacesInside}

-- a column is no larger than its index allows, and neither is one as many bytes behind it as the document has
fits : (t i n v c : ℕ) → 1 ≤ t → v < t → (0 < v → 0 < n) → c ≤ t * i + v + 1 → c + n ≤ t * (i + n) + 1
fits t i zero v c some small more at = elim (cases_lt 0 v) [
  | inl inside ↦ absurd (let e : 0 < 0 = more inside in omega (arith, e))
  | inr none ↦ omega (arith, none, at)
]
fits t i (suc m) v c some small more at =
    let each : 1 * m ≤ t * m = mul-le-mul_right m some in
    omega (arith, each, small, at)

module _ (g : Given) (document : IsDocument g) where
  point-fits : (p : Point) → IsPointOf g.tab g.bytes p → (p.index ≤ length g.bytes) × HasRoom (length g.bytes - p.index) p
  point-fits p is =
      let some : 1 ≤ g.tab = document.tab.0 in
      let bounds = (place-of-point g.tab g.bytes some p is).bounds in
      let n = length g.bytes - p.index in
      let whole : p.index + n ≡ length g.bytes = omega (arith, bounds.inside) in
      let column : p.column + n ≤ g.tab * (p.index + n) + 1 = fits g.tab p.index n p.vs p.column some bounds.spaces (λ h. omega (arith, bounds.tab h)) bounds.columns in
      let same : g.tab * (p.index + n) ≡ g.tab * length g.bytes = ap (λ m. g.tab * m) whole in
      let limit = document.limit in
      let each : 1 * length g.bytes ≤ g.tab * length g.bytes = mul-le-mul_right (length g.bytes) some in
      (bounds.inside, (omega (arith, column, same, limit), omega (arith, whole, each, limit)))

  pub places-inside : (events : List Event) → AreAtPlaces g.tab g.bytes events → ArePlacesInside g.bytes events
  places-inside events at k d within = point-fits _ (at k d within)
