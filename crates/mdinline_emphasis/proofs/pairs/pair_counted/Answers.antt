use Rattle.mdinline_emphasis.proofs.Prelude.{◌≡◌, ℕ, zero, suc, ◌+◌, ◌*◌, ◌≤◌, replicate, ◌<◌, List, [], ◌∷◌, ◌++◌, map, length, refl, sym, ap, ◌∙◌, subst, arith, append-nil, length-append, slice_index, length-map, Run, SoFar, all_runs, in_turn_from, none_read, close, as_run, Stands, above, kinds_of_runs, markers_left, pairs_a_run, to_pay}
use Rattle.mdinline_emphasis.proofs.Bottoms.{bottoms-at-first, bottoms-later}
use Rattle.mdinline_emphasis.proofs.InTurn.{paired-in-turn}
use Rattle.mdinline_emphasis.proofs.pairs.pair_counted.Goals as goal

-- if some runs are not read yet, there is a next one
first : (rs : List Run) (openers : List ℕ) (closer : ℕ) (z : SoFar) (rest : List Run) → Stands rs openers z rest → closer ≡ length (all_runs z) → closer < length rs
    → (r : Run) × (rest' : List Run) × (rest ≡ r ∷ rest')
first rs openers closer z [] h is lt = absurd (let long = ap length (h.runs ∙ append-nil (all_runs z)) in omega (arith, long, is, lt))
first rs openers closer z (r ∷ rest) h is lt = (r, rest, refl)

-- a list of zeros
zeros-there : (m i : ℕ) → slice_index (replicate m 0) i ≡ 0
zeros-there zero i = refl
zeros-there (suc m) zero = refl
zeros-there (suc m) (suc i) = zeros-there m i

-- of none that wait, none is above a place
none-above : (m : ℕ) → above [] (replicate m 0) ≡ 0
none-above zero = refl
none-above (suc m) = let more = none-above m in omega (arith, more)

pub loop-closer-init : goal.loop-closer-init
loop-closer-init g c =
    let none : List ℕ = replicate kinds_of_runs 0 in (
      refl,
      bottoms-at-first (map as_run c.args.runs.now) c.new-openers.result.items none (zeros-there kinds_of_runs),
      (none_read, map as_run c.args.runs.now, record { runs = refl; waiting = c.new-openers.ensures.items }, refl, refl),
      (
          let rs = map as_run c.args.runs.now in
          let start : c.args.turns.now + to_pay rs [] none ≤ c.args.turns.now + 2 * markers_left rs + pairs_a_run * 0 = (let nothing = none-above kinds_of_runs in omega (arith, nothing)) in
          subst (λ xs. c.args.turns.now + to_pay rs xs none ≤ c.args.turns.now + 2 * markers_left rs + pairs_a_run * 0) (sym c.new-openers.ensures.items) start
          ),
      omega arith,
    )

pub take_up-requires-clause-next : goal.take_up-requires-clause-next
take_up-requires-clause-next g c =
    let i = c.loop-closer.invariant.2 in
    let rs = map as_run c.loop-closer.runs in
    let long = length-map c.loop-closer.runs as_run in
    let f = first rs c.loop-closer.openers.items c.loop-closer.closer i.0 i.1 i.2 i.3 (omega (arith, long, c.loop-closer-test.true)) in
    (i.0, f.0, f.1, record { so_far = subst (λ xs. Stands rs c.loop-closer.openers.items i.0 xs) f.2 i.2; next = i.3 })

pub loop-closer-preserved : goal.loop-closer-preserved
loop-closer-preserved g c =
    let i = c.loop-closer.invariant.2 in
    let rs = map as_run c.loop-closer.runs in
    let long = length-map c.loop-closer.runs as_run in
    let f = first rs c.loop-closer.openers.items c.loop-closer.closer i.0 i.1 i.2 i.3 (omega (arith, long, c.loop-closer-test.true)) in
    let so_far = subst (λ xs. Stands rs c.loop-closer.openers.items i.0 xs) f.2 i.2 in
    let there = c.in_ok-take_up.ensures.taken i.0 f.0 f.1 (record { so_far = so_far; next = i.3 }) in
    let z' = close f.0.left f.0 i.0 in
    let one = ap length so_far.runs ∙ length-append (all_runs i.0) (f.0 ∷ f.1) in
    let two = ap length there.runs ∙ length-append (all_runs z') f.1 in
    let new = length-map c.take_up.new.runs as_run in
    let same : length c.take_up.new.runs ≡ length c.loop-closer.runs = c.take_up.auto.runs in
    (c.take_up.ensures.kinds, bottoms-later (map as_run c.take_up.new.runs) c.take_up.new.openers.items c.take_up.new.bottoms c.loop-closer.closer c.in_ok-take_up.ensures.bottoms, (z', f.1, there, omega (arith, one, two, long, new, i.3, same), ap (in_turn_from i.0) (sym f.2) ∙ i.4), omega (arith, c.in_ok-take_up.ensures.paid, c.loop-closer.invariant.3), omega (arith, same, c.loop-closer-test.true))

none-left : (rs : List Run) (z : SoFar) (rest : List Run) → rs ≡ all_runs z ++ rest → length rs ≤ length (all_runs z) → rest ≡ []
none-left rs z [] is le = refl
none-left rs z (r ∷ rest) is le = absurd (let long = ap length is ∙ length-append (all_runs z) (r ∷ rest) in omega (arith, long, le))

pub returns-clause-pairs : goal.returns-clause-pairs
returns-clause-pairs g c =
    let i = c.loop-closer.invariant.2 in
    let long = length-map c.loop-closer.runs as_run in
    let end : i.1 ≡ [] = none-left (map as_run c.loop-closer.runs) i.0 i.1 i.2.runs (omega (arith, long, i.3, c.loop-closer-test.false)) in
    i.2.runs ∙ ap (λ xs. all_runs i.0 ++ xs) end ∙ append-nil (all_runs i.0) ∙ ap (λ rest. all_runs (in_turn_from i.0 rest)) (sym end) ∙ ap all_runs i.4
    ∙ sym (paired-in-turn (map as_run c.args.runs.now))
