-- Pairs are of two runs, which have the markers that they take.
use Rattle.mddocument_laws.proofs.Prelude.{◌≡◌, ℕ, zero, suc, ◌+◌, ◌<◌, ◌≤◌, ◌==◌, List, [], ◌∷◌, ◌++◌, Some, length, ap, subst, arith, All-from_recursion, AllByRecursion, slice_get, every-append, every-map, Delimiter, Pair, Run, close_pairs, markers_of_all, pairs, pairs_from, PairsAreOfRuns, RunsHaveMarkers, markers_given}
use Rattle.mddocument_laws.proofs.Emphasis.PairOrder.{AreBelow, all-within, closes-at, delimiter}
use Rattle.mddocument_laws.proofs.Emphasis.PartSpans.{IsAt, closed-is, first-at, next-at, opened-is}

-- pairs of runs up to a number
abbrev OfRuns : ℕ → List Pair → Type 0
OfRuns n ps = AllByRecursion (λ (p : Pair). (p.opener < p.closer) × (p.closer < n)) ps

of-runs : (n m : ℕ) (stack : List Delimiter) (rs : List Run) → AreBelow n stack → n + length rs ≡ m → OfRuns m (pairs_from n stack rs)
of-runs n m stack [] h e = tt
of-runs n m stack (r ∷ rs) h e =
    let closed = close_pairs r.left (delimiter n r) stack in
    let at = closes-at r.left (delimiter n r) stack h in
    let next : (n + 1) + length rs ≡ m = omega (arith, e) in
    every-append (λ (p : Pair). (p.opener < p.closer) × (p.closer < m)) closed.1 (pairs_from (n + 1) closed.0 rs)
    (every-map (λ (p : Pair). (p.opener < n) × (p.closer ≡ n)) (λ (p : Pair). (p.opener < p.closer) × (p.closer < m)) (λ (p : Pair) k. (let a = k.0 in let b = k.1 in omega (arith, a, b), let b = k.1 in omega (arith, b, e))) closed.1 at.0)
    (of-runs (n + 1) m closed.0 rs at.1 next)

pub pairs-of-runs : PairsAreOfRuns
pairs-of-runs rs = All-from_recursion (λ (p : Pair). (p.opener < p.closer) × (p.closer < length rs)) (pairs rs) (of-runs 0 (length rs) [] rs tt (omega arith))

have-markers : (all : List Run) (n : ℕ) (stack : List Delimiter) (done : List Pair) (rs : List Run) → IsAt all n stack done rs → (i m : ℕ) (r : Run) → slice_get rs i ≡ Some r → n + i ≡ m
    → markers_given (λ p. p.closer == m) (pairs all) + markers_given (λ p. p.opener == m) (pairs all) ≤ r.left
have-markers all n stack done [] h i m r at e = absurd (cc)
have-markers all n stack done (s ∷ rs) h zero m r at e =
    let same : s ≡ r = cc in
    let here : n ≡ m = omega (arith, e) in
    let within = all-within n stack s rs h.below h.have in
    let closes = ap markers_of_all (closed-is all n stack done s rs h) in
    let opens = ap markers_of_all (opened-is all n stack done s rs h) in
    let all_in : markers_given (λ p. p.closer == n) (pairs all) + markers_given (λ p. p.opener == n) (pairs all) ≤ s.left = omega (arith, within, closes, opens) in
    subst (λ k. markers_given (λ p. p.closer == k) (pairs all) + markers_given (λ p. p.opener == k) (pairs all) ≤ r.left) here
    (subst (λ (t : Run). markers_given (λ p. p.closer == n) (pairs all) + markers_given (λ p. p.opener == n) (pairs all) ≤ t.left) same all_in)
have-markers all n stack done (s ∷ rs) h (suc i) m r at e =
    let closed = close_pairs s.left (delimiter n s) stack in
    have-markers all (n + 1) closed.0 (done ++ closed.1) rs (next-at all n stack done s rs h) i m r at (omega (arith, e))

pub runs-have-markers : RunsHaveMarkers
runs-have-markers rs n r at = have-markers rs 0 [] [] rs (first-at rs) n n r at (omega arith)
