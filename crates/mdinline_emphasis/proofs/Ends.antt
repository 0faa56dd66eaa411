-- Ends of pairs: each takes markers of its run; and the runs of a text are few.
use Rattle.std.proofs.lemmas.List.{length-reverse}
use Rattle.markdown_base.proofs.Orders.{InOrder}
use Rattle.markdown_base.specs.Places.{stands_before}
use Rattle.mdinline_emphasis.proofs.Prelude.{◌≡◌, ℕ, suc, ◌+◌, ◌-◌, ◌*◌, ◌<◌, ◌≤◌, Bool, true, false, cond, List, [], ◌∷◌, ◌++◌, Option, Some, None, map, take, drop, length, get_or, refl, sym, ap, ◌∙◌, arith, length-append, ◌==◌, ◌&&◌, reverse, slice_get, reverse-append, nat_tests, take-suc, take-append-drop, map-append, All-head, All-tail, Event, Point, Delimiters, as_run, Run, Pair, markers_of_all, styles, in_lists, in_pairs, all_in_pairs, Standing, standing, markers, HasRoom, ArePlacesInside, ends_at, ends_of_pairs, markers_left, is_sequence, index_of_event, depth_after, run_at, runs_from, runs_in, EndsTakeMarkers, RunsAreFew, Style}
use Rattle.mdinline_emphasis.proofs.Markers.{takes-some}
use Rattle.mdinline_emphasis.proofs.InTurn.{markers-more}
use Rattle.mdinline_emphasis.proofs.PairsKeep.{pairs-keep}

-- ---- each end of a pair takes a marker

few-ends : (ss : List Style) → length ss ≤ markers_of_all ss
few-ends [] = omega arith
few-ends (s ∷ ss) = let more = few-ends ss in let one = takes-some s in omega (arith, more, one)

markers-append : (ss ts : List Style) → markers_of_all (ss ++ ts) ≡ markers_of_all ss + markers_of_all ts
markers-append [] ts = omega arith
markers-append (s ∷ ss) ts = let more = markers-append ss ts in omega (arith, more)

markers-turned : (ss : List Style) → markers_of_all (reverse ss) ≡ markers_of_all ss
markers-turned [] = refl
markers-turned (s ∷ ss) =
    let more = markers-turned ss in
    let last = ap markers_of_all (reverse-append (s ∷ []) ss) ∙ markers-more (reverse ss) s in
    omega (arith, more, last)

-- a run with more pairs, whose markers are as many as before
one-run : (r : Run) (cs os : List Style) → markers (in_lists r cs os) ≡ markers r → ends_at (in_lists r cs os) + (in_lists r cs os).left ≤ ends_at r + r.left
one-run r cs os same =
    let closed = markers-append r.closed cs in
    let opened = markers-append (reverse os) r.opened in
    let turned = markers-turned os in
    let few_closed = few-ends cs in
    let few_opened = few-ends os in
    let long_closed = length-append r.closed cs in
    let long_opened = length-append (reverse os) r.opened in
    let long = length-reverse os in
    omega (arith, same, closed, opened, turned, few_closed, few_opened, long_closed, long_opened, long)

all-runs : (ps : List Pair) (n : ℕ) (rs : List Run) → map standing (all_in_pairs ps n rs) ≡ map standing rs
    → ends_of_pairs (all_in_pairs ps n rs) + markers_left (all_in_pairs ps n rs) ≤ ends_of_pairs rs + markers_left rs
all-runs ps n [] h = omega arith
all-runs ps n (r ∷ rs) h =
    let first : standing (in_pairs ps n r) ≡ standing r = cc in
    let others : map standing (all_in_pairs ps (n + 1) rs) ≡ map standing rs = cc in
    let here = one-run r (styles (λ p. p.closer == n) ps) (styles (λ p. p.opener == n) ps) (ap (λ (s : Standing). s.markers) first) in
    let more = all-runs ps (n + 1) rs others in
    omega (arith, here, more)

pub ends-take-markers : EndsTakeMarkers
ends-take-markers rs = all-runs _ 0 rs (pairs-keep rs)

-- ---- some runs of a list

pub ends-append : (rs ss : List Run) → ends_of_pairs (rs ++ ss) ≡ ends_of_pairs rs + ends_of_pairs ss
ends-append [] ss = omega arith
ends-append (r ∷ rs) ss = let more = ends-append rs ss in omega (arith, more)

-- the ends at one run more
pub ends-more : (ds : List Delimiters) (i : ℕ) (d : Delimiters) → i < length ds → d ≡ get_or ds i d → ends_of_pairs (map as_run (take (i + 1) ds)) ≡ ends_of_pairs (map as_run (take i ds)) + ends_at (as_run d)
ends-more ds i d inside is =
    let same : i + 1 ≡ suc i = omega arith in
    let last = ap (λ n. ends_of_pairs (map as_run (take n ds))) same ∙ ap (λ ys. ends_of_pairs (map as_run ys)) (take-suc ds i d inside) ∙ ap ends_of_pairs (map-append as_run (take i ds) (get_or ds i d ∷ [])) in
    let split = ends-append (map as_run (take i ds)) (as_run (get_or ds i d) ∷ []) in
    let here = ap (λ (y : Delimiters). ends_at (as_run y)) is in
    omega (arith, last, split, here)

-- some first runs have no more than all
pub ends-within : (ds : List Delimiters) (n : ℕ) → ends_of_pairs (map as_run (take n ds)) ≤ ends_of_pairs (map as_run ds)
ends-within ds n =
    let all = ap (λ ys. ends_of_pairs (map as_run ys)) (sym (take-append-drop n ds)) ∙ ap ends_of_pairs (map-append as_run (take n ds) (drop n ds)) ∙ ends-append (map as_run (take n ds)) (map as_run (drop n ds)) in
    omega (arith, all)

-- ---- the runs of a text

no-ends : (one : Bool) (bytes : List ℕ) (i depth : ℕ) (before : Option ℕ) (es : List Event) → ends_of_pairs (runs_from one bytes i depth before es) ≡ 0
no-ends one bytes i depth before [] = refl
no-ends one bytes i depth before (e ∷ []) = refl
no-ends one bytes i depth before (e ∷ f ∷ es) =
    elim (depth == 0 && is_sequence e f) as (λ c. ends_of_pairs (cond c (run_at one bytes i e f before (index_of_event (slice_get es 0)) ∷ runs_from one bytes (i + 2) depth (Some f.point.index) es) (runs_from one bytes (i + 1) (depth_after e.kind depth) (Some e.point.index) (f ∷ es))) ≡ 0) [
      | true ↦ let more = no-ends one bytes (i + 2) depth (Some f.point.index) es in omega (arith, more)
      | false ↦ no-ends one bytes (i + 1) (depth_after e.kind depth) (Some e.point.index) (f ∷ es)
    ]

pub runs-no-ends : (one : Bool) (bytes : List ℕ) (es : List Event) → ends_of_pairs (runs_in one bytes es) ≡ 0
runs-no-ends one bytes es = no-ends one bytes 0 0 None es

few-runs : (one : Bool) (bytes : List ℕ) (i depth : ℕ) (before : Option ℕ) (es : List Event) → 2 * length (runs_from one bytes i depth before es) ≤ length es
few-runs one bytes i depth before [] = omega arith
few-runs one bytes i depth before (e ∷ []) = omega arith
few-runs one bytes i depth before (e ∷ f ∷ es) =
    elim (depth == 0 && is_sequence e f) as (λ c. 2 * length (cond c (run_at one bytes i e f before (index_of_event (slice_get es 0)) ∷ runs_from one bytes (i + 2) depth (Some f.point.index) es) (runs_from one bytes (i + 1) (depth_after e.kind depth) (Some e.point.index) (f ∷ es))) ≤ length (e ∷ f ∷ es)) [
      | true ↦ let more = few-runs one bytes (i + 2) depth (Some f.point.index) es in omega (arith, more)
      | false ↦ let more = few-runs one bytes (i + 1) (depth_after e.kind depth) (Some e.point.index) (f ∷ es) in omega (arith, more)
    ]

-- what does not stand before a place has no smaller index
not-before : (p q : Point) → stands_before q p ≡ false → p.index ≤ q.index
not-before p q h = grind (arith, nat_tests, h)

few-markers : (one : Bool) (bytes : List ℕ) (i depth : ℕ) (before : Option ℕ) (p : Point) (es : List Event) (q : Point) → ArePlacesInside bytes es → InOrder p es q
    → markers_left (runs_from one bytes i depth before es) ≤ length bytes - p.index
few-markers one bytes i depth before p [] q inside order = omega arith
few-markers one bytes i depth before p (e ∷ []) q inside order = omega arith
few-markers one bytes i depth before p (e ∷ f ∷ es) q inside order =
    let Fit : Event → Type 0 = λ x. (x.point.index ≤ length bytes) × HasRoom (length bytes - x.point.index) x.point in
    let others = All-tail Fit e (f ∷ es) inside in
    let within = (All-head Fit f es others).0 in
    let first = not-before p e.point order.0 in
    let second = not-before e.point f.point order.1.0 in
    elim (depth == 0 && is_sequence e f) as (λ c. markers_left (cond c (run_at one bytes i e f before (index_of_event (slice_get es 0)) ∷ runs_from one bytes (i + 2) depth (Some f.point.index) es) (runs_from one bytes (i + 1) (depth_after e.kind depth) (Some e.point.index) (f ∷ es))) ≤ length bytes - p.index) [
      | true ↦ let more = few-markers one bytes (i + 2) depth (Some f.point.index) f.point es q (All-tail Fit f es others) order.1.1 in omega (arith, more, within, first, second)
      | false ↦ let more = few-markers one bytes (i + 1) (depth_after e.kind depth) (Some e.point.index) e.point (f ∷ es) q others order.1 in omega (arith, more, first)
    ]

pub runs-are-few : RunsAreFew
runs-are-few one bytes es =
    (few-runs one bytes 0 0 None es, runs-no-ends one bytes es, λ p q inside order. let few = few-markers one bytes 0 0 None p es q inside order in omega (arith, few))
