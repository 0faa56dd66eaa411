use Rattle.mdinline_emphasis.proofs.Prelude.{◌≡◌, ℕ, ◌+◌, ◌-◌, ◌*◌, ◌<◌, ◌≤◌, set, List, Some, true, cond, map, take, length, get_or, sym, ap, ◌∙◌, subst, arith, slice_get, slice_index, nat_lt, slice_get_within, get_or_from_slice_get, Run, closes_yet, SoFar, opening, closing, put_back, as_run, left_of, with_pair, kind, AreBottoms, AreInOrder, NoneFitsBefore, StandsAt, length-take-le, markers_left, looks, above, waiting_from, style_of}
use Rattle.mdinline_emphasis.proofs.Costs.{pair-takes, above-set, above-fewer}
use Rattle.mdinline_emphasis.proofs.Stands.{closer-run, openers-below, openers-order, some-next, none-next, close-unable, close-unfound, close-found}
use Rattle.mdinline_emphasis.proofs.Bottoms.{bottoms-after-pair, bottoms-after-search}
use Rattle.mdinline_emphasis.proofs.Steps.{next-inside, run-at, search-is, fewer, has-markers}
use Rattle.mdinline_emphasis.proofs.pairs.closes_more.Goals as goal
use Rattle.mdinline_emphasis.proofs.pairs.closes_more.Goals.{then-waits, else-waits}

pub returns-then-not-closes_yet-clause-end : goal.returns-then-not-closes_yet-clause-end
returns-then-not-closes_yet-clause-end g c same z r rest h n =
    let is = run-at c.args.runs.now c.args.openers.now.items c.args.closer c.index-runs-closer.result z r rest h in
    close-unable n r z (sym (ap closes_yet is) ∙ sym c.closes_yet.ensures ∙ c.if-not-closes_yet.true)

pub opener_for-requires-clause-inside : goal.opener_for-requires-clause-inside
opener_for-requires-clause-inside g c k d lt =
    let w = c.requires.next in
    let inside = next-inside c.args.runs.now c.args.openers.now.items c.args.closer w in
    let long = ap length c.as_slice.ensures.value in
    let below = openers-below (map as_run c.args.runs.now) c.args.openers.now.items c.args.closer w.0 w.1 w.2 w.3 k d (omega (arith, lt, long)) in
    subst (λ xs. get_or xs k d < length c.args.runs.now) (sym c.as_slice.ensures.value) (omega (arith, below, inside))

pub returns-in_default-clause-end : goal.returns-in_default-clause-end
returns-in_default-clause-end g c same z r rest h n =
    close-unfound n r z (none-next (map as_run c.args.runs.now) c.args.openers.now.items c.args.closer z r rest h
    (search-is c.args.runs.now c.args.openers.now.items c.as_slice.result.now c.args.closer c.index-all-closer.result c.opener_for.result z r rest h c.index-all-closer.is c.as_slice.ensures.value c.opener_for.ensures.found ∙ c.in_default.is))

pub index-opener-requires : goal.index-opener-requires
index-opener-requires g c =
    let w = c.requires.next in
    let found = search-is c.args.runs.now c.args.openers.now.items c.as_slice.result.now c.args.closer c.index-all-closer.result c.opener_for.result w.0 w.1 w.2 w.3 c.index-all-closer.is c.as_slice.ensures.value c.opener_for.ensures.found in
    let next = some-next (map as_run c.args.runs.now) c.args.openers.now.items c.args.closer w.0 w.1 w.2 w.3 c.in-Some.at (found ∙ c.in-Some.is) in
    let below = slice_get_within c.args.openers.now.items c.in-Some.at next.2 next.3 in
    let long = ap length c.as_slice.ensures.value in
    omega (arith, below, long, c.as_slice.ensures.len)

pub join-requires-clause-before : goal.join-requires-clause-before
join-requires-clause-before g c =
    let w = c.requires.next in
    let found = search-is c.args.runs.now c.args.openers.now.items c.as_slice.result.now c.args.closer c.index-all-closer.result c.opener_for.result w.0 w.1 w.2 w.3 c.index-all-closer.is c.as_slice.ensures.value c.opener_for.ensures.found in
    let next = some-next (map as_run c.args.runs.now) c.args.openers.now.items c.args.closer w.0 w.1 w.2 w.3 c.in-Some.at (found ∙ c.in-Some.is) in
    let same = c.index-opener.ensures ∙ get_or_from_slice_get c.args.openers.now.items c.in-Some.at next.2 c.index-opener.result.now next.3 in
    subst (λ i. i < c.args.closer) (sym same) next.4

pub overflow_add-height : goal.overflow_add-height
overflow_add-height g c =
    let w = c.requires.next in
    let found = search-is c.args.runs.now c.args.openers.now.items c.as_slice.result.now c.args.closer c.index-all-closer.result c.opener_for.result w.0 w.1 w.2 w.3 c.index-all-closer.is c.as_slice.ensures.value c.opener_for.ensures.found in
    let next = some-next (map as_run c.args.runs.now) c.args.openers.now.items c.args.closer w.0 w.1 w.2 w.3 c.in-Some.at (found ∙ c.in-Some.is) in
    let below = slice_get_within c.args.openers.now.items c.in-Some.at next.2 next.3 in
    let may_pair = c.args.openers.now.ok in
    omega (arith, below, may_pair.0, may_pair.1, c.args.openers.now.small)

pub returns-clause-pair : goal.returns-clause-pair
returns-clause-pair g c same z r rest h =
    let found = search-is c.args.runs.now c.args.openers.now.items c.as_slice.result.now c.args.closer c.index-all-closer.result c.opener_for.result z r rest h c.index-all-closer.is c.as_slice.ensures.value c.opener_for.ensures.found in
    let next = some-next (map as_run c.args.runs.now) c.args.openers.now.items c.args.closer z r rest h c.in-Some.at (found ∙ c.in-Some.is) in
    let f = next.0 in
    let able : closes_yet r ≡ true = sym (ap closes_yet (run-at c.args.runs.now c.args.openers.now.items c.args.closer c.index-runs-closer.result z r rest h)) ∙ sym c.closes_yet.ensures ∙ c.if-not-closes_yet.false in
    let i-is : c.index-opener.result.now ≡ next.2 = c.index-opener.ensures ∙ get_or_from_slice_get c.args.openers.now.items c.in-Some.at next.2 c.index-opener.result.now next.3 in
    let s = style_of f.last.opener r in
    let w = record f.last { opener = opening s f.last.opener } in
    let stands = next.6.1 in
    let runs = c.in_ok-waits.ensures.pair ∙ ap (λ i. with_pair (map as_run c.args.runs.now) i c.args.closer) i-is in
    let waits : c.in_ok-waits.waits ≡ nat_lt 0 w.opener.left =
    c.in_ok-waits.ensures.waits ∙ ap (λ xs. nat_lt 0 (left_of (slice_get xs c.index-opener.result.now))) runs ∙ ap (λ i. nat_lt 0 (left_of (slice_get (with_pair (map as_run c.args.runs.now) next.2 c.args.closer) i))) i-is
    ∙ ap (λ x. nat_lt 0 (left_of x)) next.6.0 in
    let keep : c.if-waits.height ≡ cond (nat_lt 0 w.opener.left) (c.in-Some.at + 1) c.in-Some.at =
    elim c.if-waits.branch [
      | then-waits v ↦ v.height-is ∙ ap (λ b. cond b (c.in-Some.at + 1) c.in-Some.at) (sym v.if-waits.true ∙ waits)
      | else-waits v ↦ v.height-is ∙ ap (λ b. cond b (c.in-Some.at + 1) c.in-Some.at) (sym v.if-waits.false ∙ waits)
    ] in
    let cut = c.truncate.ensures.items ∙ ap (λ n. take n c.args.openers.now.items) keep in
    let after : StandsAt (map as_run c.join.new.runs) c.truncate.new.self.items c.args.closer (put_back w z.base f.before) (closing s r) rest =
    subst (λ rs. StandsAt rs c.truncate.new.self.items c.args.closer (put_back w z.base f.before) (closing s r) rest) (sym runs)
    (subst (λ ops. StandsAt (with_pair (map as_run c.args.runs.now) next.2 c.args.closer) ops c.args.closer (put_back w z.base f.before) (closing s r) rest) (sym cut) stands) in
    (put_back w z.base f.before, closing s r, after, fewer s r.left (has-markers r.closes r.left able), λ n. close-found n r z f able next.1)

pub opener_for-requires-clause-order : goal.opener_for-requires-clause-order
opener_for-requires-clause-order g c =
    let w = c.requires.next in
    subst AreInOrder (sym c.as_slice.ensures.value) (openers-order (map as_run c.args.runs.now) c.args.openers.now.items c.args.closer w.0 w.1 w.2 w.3)

pub opener_for-requires-clause-nothing : goal.opener_for-requires-clause-nothing
opener_for-requires-clause-nothing g c =
    let w = c.requires.next in
    let rs = map as_run c.args.runs.now in
    let bs = c.args.bottoms.now in
    let kind-is : c.kind_of-kind.result ≡ kind w.1 = c.kind_of-kind.ensures.kind ∙ ap kind (run-at c.args.runs.now c.args.openers.now.items c.args.closer c.index-runs-closer-2.result w.0 w.1 w.2 w.3) in
    let run-is : as_run c.index-all-closer.result ≡ w.1 = ap as_run c.index-all-closer.is ∙ run-at c.args.runs.now c.args.openers.now.items c.args.closer c.index-all-closer.result w.0 w.1 w.2 w.3 in
    subst (λ k. NoneFitsBefore (slice_index bs k) rs c.as_slice.result.now (as_run c.index-all-closer.result)) (sym kind-is)
    (subst (λ x. NoneFitsBefore (slice_index bs (kind w.1)) rs c.as_slice.result.now x) (sym run-is)
    (subst (λ xs. NoneFitsBefore (slice_index bs (kind w.1)) rs xs w.1) (sym c.as_slice.ensures.value) (c.requires.bottoms w.1).1))

pub returns-in_default-clause-bottoms : goal.returns-in_default-clause-bottoms
returns-in_default-clause-bottoms g c =
    let w = c.requires.next in
    let rs = map as_run c.args.runs.now in
    let ops = c.args.openers.now.items in
    let kind-is : c.kind_of-kind.result ≡ kind w.1 = c.kind_of-kind.ensures.kind ∙ ap kind (run-at c.args.runs.now ops c.args.closer c.index-runs-closer-2.result w.0 w.1 w.2 w.3) in
    let none = search-is c.args.runs.now ops c.as_slice.result.now c.args.closer c.index-all-closer.result c.opener_for.result w.0 w.1 w.2 w.3 c.index-all-closer.is c.as_slice.ensures.value c.opener_for.ensures.found ∙ c.in_default.is in
    let inside : kind w.1 < length c.args.bottoms.now = omega (arith, c.kind_of-kind.ensures.below, kind-is, c.requires.kinds) in
    subst (λ k. AreBottoms rs ops c.args.closer (set c.args.bottoms.now k c.args.closer)) (sym kind-is) (bottoms-after-search rs ops c.args.bottoms.now w.1 c.args.closer inside none c.requires.bottoms)

below-all : (rs : List Run) (ops : List ℕ) (closer : ℕ) (z : SoFar) (r : Run) (rest : List Run) → StandsAt rs ops closer z r rest → (k m : ℕ) → slice_get ops k ≡ Some m → m < closer
below-all rs ops closer z r rest h k m e =
    subst (λ x. x < closer) (get_or_from_slice_get ops k m m e) (openers-below rs ops closer z r rest h k m (slice_get_within ops k m e))

pub returns-clause-bottoms : goal.returns-clause-bottoms
returns-clause-bottoms g c =
    let w = c.requires.next in
    let rs = map as_run c.args.runs.now in
    let ops = c.args.openers.now.items in
    let found = search-is c.args.runs.now ops c.as_slice.result.now c.args.closer c.index-all-closer.result c.opener_for.result w.0 w.1 w.2 w.3 c.index-all-closer.is c.as_slice.ensures.value c.opener_for.ensures.found in
    let next = some-next rs ops c.args.closer w.0 w.1 w.2 w.3 c.in-Some.at (found ∙ c.in-Some.is) in
    let i-is : c.index-opener.result.now ≡ next.2 = c.index-opener.ensures ∙ get_or_from_slice_get ops c.in-Some.at next.2 c.index-opener.result.now next.3 in
    let runs = c.in_ok-waits.ensures.pair ∙ ap (λ i. with_pair rs i c.args.closer) i-is in
    let after = bottoms-after-pair rs next.2 c.args.closer next.0.last.opener w.1 next.5 (closer-run rs ops c.args.closer w.0 w.1 w.2 w.3) ops c.if-waits.height c.args.bottoms.now (below-all rs ops c.args.closer w.0 w.1 w.2 w.3) c.requires.bottoms in
    subst (λ xs. AreBottoms xs c.truncate.new.self.items c.args.closer c.args.bottoms.now) (sym runs)
    (subst (λ xs. AreBottoms (with_pair rs next.2 c.args.closer) xs c.args.closer c.args.bottoms.now) (sym c.truncate.ensures.items) after)

-- a search in vain is paid by the place that it reached
pub returns-in_default-clause-paid : goal.returns-in_default-clause-paid
returns-in_default-clause-paid g c =
    let w = c.requires.next in
    let rs = map as_run c.args.runs.now in
    let ops = c.args.openers.now.items in
    let bs = c.args.bottoms.now in
    let k = c.kind_of-kind.result in
    let m = markers_left rs in
    let t = c.opener_for.new.turns in
    let inside : k < length bs = omega (arith, c.kind_of-kind.ensures.below, c.requires.kinds) in
    let cost : t ≤ c.add_one.new.self + waiting_from (slice_index bs k) c.as_slice.result.now = subst (λ x. t ≤ c.add_one.new.self + looks c.as_slice.result.now (slice_index bs k) x) c.in_default.is c.opener_for.ensures.turns in
    let same = ap (waiting_from (slice_index bs k)) c.as_slice.ensures.value in
    let one : c.add_one.new.self ≡ c.args.turns.now + 1 = c.add_one.ensures in
    let reached = above-set ops bs k c.args.closer inside (below-all rs ops c.args.closer w.0 w.1 w.2 w.3) in
    let paid : t + ((length ops + above ops (set bs k c.args.closer)) + 2 * m) ≤ c.args.turns.now + ((length ops + above ops bs) + 2 * m) + 1 = omega (arith, cost, one, same, reached) in
    paid

pub returns-in_default-clause-turns : goal.returns-in_default-clause-turns
returns-in_default-clause-turns g c =
    let paid = returns-in_default-clause-paid g c in
    omega (arith, paid)

-- a search that finds one is paid by those that wait no more, and by the markers of the pair
pub returns-clause-paid : goal.returns-clause-paid
returns-clause-paid g c =
    let w = c.requires.next in
    let rs = map as_run c.args.runs.now in
    let ops = c.args.openers.now.items in
    let bs = c.args.bottoms.now in
    let t = c.opener_for.new.turns in
    let h = c.if-waits.height in
    let found = search-is c.args.runs.now ops c.as_slice.result.now c.args.closer c.index-all-closer.result c.opener_for.result w.0 w.1 w.2 w.3 c.index-all-closer.is c.as_slice.ensures.value c.opener_for.ensures.found in
    let next = some-next rs ops c.args.closer w.0 w.1 w.2 w.3 c.in-Some.at (found ∙ c.in-Some.is) in
    let able : closes_yet w.1 ≡ true = sym (ap closes_yet (run-at c.args.runs.now ops c.args.closer c.index-runs-closer.result w.0 w.1 w.2 w.3)) ∙ sym c.closes_yet.ensures ∙ c.if-not-closes_yet.false in
    let i-is : c.index-opener.result.now ≡ next.2 = c.index-opener.ensures ∙ get_or_from_slice_get ops c.in-Some.at next.2 c.index-opener.result.now next.3 in
    let runs = c.in_ok-waits.ensures.pair ∙ ap (λ i. with_pair rs i c.args.closer) i-is in
    let left = ap markers_left runs in
    let takes = pair-takes rs next.2 c.args.closer next.0.last.opener w.1 next.5 (closer-run rs ops c.args.closer w.0 w.1 w.2 w.3) next.4 (has-markers w.1.closes w.1.left able) in
    let inside = slice_get_within ops c.in-Some.at next.2 next.3 in
    let within : h ≤ length ops =
    elim c.if-waits.branch [
      | then-waits v ↦ omega (arith, v.height-is, inside)
      | else-waits v ↦ omega (arith, v.height-is, inside)
    ] in
    let low : h ≤ c.in-Some.at + 1 =
    elim c.if-waits.branch [
      | then-waits v ↦ omega (arith, v.height-is)
      | else-waits v ↦ omega (arith, v.height-is)
    ] in
    let cut : length c.truncate.new.self.items ≡ h = ap length c.truncate.ensures.items ∙ length-take-le h ops within in
    let cost : t ≤ c.add_one.new.self + (length c.as_slice.result.now - c.in-Some.at) =
    subst (λ x. t ≤ c.add_one.new.self + looks c.as_slice.result.now (slice_index bs c.kind_of-kind.result) x) c.in-Some.is c.opener_for.ensures.turns in
    let one : c.add_one.new.self ≡ c.args.turns.now + 1 = c.add_one.ensures in
    let long = ap length c.as_slice.ensures.value in
    let kept = ap (λ xs. above xs bs) c.truncate.ensures.items in
    let fewer_above = above-fewer h ops bs in
    let paid : t + ((length c.truncate.new.self.items + above c.truncate.new.self.items bs) + 2 * markers_left (map as_run c.join.new.runs))
    ≤ c.args.turns.now + ((length ops + above ops bs) + 2 * markers_left rs) + 0 =
    omega (arith, cost, one, long, cut, kept, fewer_above, low, inside, left, takes) in
    paid
