use Rattle.mdinline_emphasis.proofs.Prelude.{◌≡◌, ℕ, suc, ◌-◌, ◌<◌, ◌≤◌, Bool, true, false, cond, List, Some, map, length, get_or, sym, ap, ◌∙◌, refl, arith, slice_get-get_or, slice_get_read, All-get_or, Delimiters, Run, may_pair, as_run, last_of, slice_index}
use Rattle.mdinline_emphasis.proofs.Bottoms.{none-before}
use Rattle.mdinline_emphasis.proofs.Costs.{looks-all, waiting-step}
use Rattle.mdinline_emphasis.proofs.Searches.{search-step}
use Rattle.mdinline_emphasis.proofs.pairs.opener_for.Goals as goal

-- one step down, for the run that the code reads
down : (ds : List Delimiters) (openers : List ℕ) (r : Run) (at : ℕ) (d : Delimiters) (b : Bool) → 0 < at → at - 1 < length openers → get_or openers (at - 1) 0 < length ds
    → d ≡ get_or ds (get_or openers (at - 1) 0) d → may_pair (as_run d) r ≡ b
    → last_of (map as_run ds) openers r at ≡ cond b (Some (at - 1)) (last_of (map as_run ds) openers r (at - 1))
down ds openers r at d b pos below inside is same =
    let one : at ≡ suc (at - 1) = omega (arith, pos) in
    ap (last_of (map as_run ds) openers r) one
    ∙ search-step ds openers r (at - 1) (get_or openers (at - 1) 0) d (slice_get-get_or openers (at - 1) 0 below) (slice_get_read ds (length ds) (get_or openers (at - 1) 0) d refl inside is)
    ∙ ap (λ t. cond t (Some (at - 1)) (last_of (map as_run ds) openers r (at - 1))) same

pub returns-then-may_pair-clause-found : goal.returns-then-may_pair-clause-found
returns-then-may_pair-clause-found g c =
    let at = c.loop-at.at in
    let pos : 0 < at = omega (arith, c.loop-at-test.true) in
    let below : at - 1 < length c.args.openers.now = omega (arith, c.loop-at.invariant.0, pos) in
    sym (c.loop-at.invariant.1 ∙ down c.args.runs.now c.args.openers.now (as_run c.args.closer.now) at c.index-runs-openers.result true pos below (All-get_or (λ i. i < length c.args.runs.now) c.args.openers.now (at - 1) 0 below c.requires.inside) c.index-runs-openers.is (sym c.may_pair.ensures ∙ c.if-may_pair.true))

pub loop-at-preserved : goal.loop-at-preserved
loop-at-preserved g c =
    let at = c.loop-at.at in
    let pos : 0 < at = omega (arith, c.loop-at-test.true) in
    let below : at - 1 < length c.args.openers.now = omega (arith, c.loop-at.invariant.0, pos) in
    let high : c.args.bottom ≤ slice_index c.args.openers.now (at - 1) = omega (arith, c.if-openers-at.true) in
    let step = waiting-step c.args.bottom at c.args.openers.now pos below high in
    let enough = c.loop-at.invariant.3 in (
      omega (arith, below),
      c.loop-at.invariant.1 ∙ down c.args.runs.now c.args.openers.now (as_run c.args.closer.now) at c.index-runs-openers.result false pos below (All-get_or (λ i. i < length c.args.runs.now) c.args.openers.now (at - 1) 0 below c.requires.inside) c.index-runs-openers.is (sym c.may_pair.ensures ∙ c.if-may_pair.false),
      omega (arith, c.loop-at.invariant.2, c.add_one.ensures, pos),
      omega (arith, step, enough, pos),
    )

pub returns-else-openers-at-clause-found : goal.returns-else-openers-at-clause-found
returns-else-openers-at-clause-found g c =
    let at = c.loop-at.at in
    let pos : 0 < at = omega (arith, c.loop-at-test.true) in
    let below : at - 1 < length c.args.openers.now = omega (arith, c.loop-at.invariant.0, pos) in
    let low : slice_index c.args.openers.now (at - 1) < c.args.bottom = omega (arith, c.if-openers-at.false) in
    sym (c.loop-at.invariant.1 ∙ none-before (map as_run c.args.runs.now) c.args.openers.now (as_run c.args.closer.now) c.args.bottom at pos below low c.requires.order c.requires.nothing)

pub returns-else-openers-at-clause-turns : goal.returns-else-openers-at-clause-turns
returns-else-openers-at-clause-turns g c = looks-all c.args.bottom c.loop-at.at c.args.openers.now c.args.turns.now c.loop-at.turns c.loop-at.invariant.2 c.loop-at.invariant.3
