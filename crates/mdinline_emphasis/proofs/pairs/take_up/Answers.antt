use Rattle.mdinline_emphasis.proofs.Prelude.{◌≡◌, ℕ, suc, ◌+◌, ◌-◌, ◌*◌, ◌≤◌, cond, length, length-append, [], ◌∷◌, true, false, List, Ok, map, sym, ap, ◌∙◌, subst, arith, Run, opens_yet, SoFar, close, put, AreBottoms, as_run, Stands, StandsAt, kinds_of_runs, markers_left, pairs_a_run, above, to_pay}
use Rattle.mdinline_emphasis.proofs.Costs.{above-more}
use Rattle.mdinline_emphasis.proofs.Stands.{stands-waiting, stands-behind}
use Rattle.mdinline_emphasis.proofs.Bottoms.{bottoms-after-push}
use Rattle.mdinline_emphasis.proofs.Steps.{run-at}
use Rattle.mdinline_emphasis.proofs.pairs.take_up.Goals as goal

pub closing-preserved : goal.closing-preserved
closing-preserved g c = (
  c.closes_more.ensures.kinds,
  c.in_ok-closes_more.ensures.bottoms,
  λ z r rest h.
      let i = c.closing.invariant.2 z r rest h in
      let p = c.in_ok-closes_more.ensures.pair (ap Ok c.if-branch.true) i.0 i.1 rest i.2 in
      let m = i.3 - 1 in
      let one : suc m ≡ i.3 = omega (arith, i.4, p.3) in
      (p.0, p.1, p.2, m, omega (arith, i.4, p.3), sym (p.4 m) ∙ ap (λ k. close k i.1 i.0) one ∙ i.5),
  (
      let paid : c.closes_more.new.turns + to_pay (map as_run c.closes_more.new.runs) c.closes_more.new.openers.items c.closes_more.new.bottoms ≤ c.closing.turns + to_pay (map as_run c.closing.runs) c.closing.openers.items c.closing.bottoms + 0 =
      subst (λ b. c.closes_more.new.turns + to_pay (map as_run c.closes_more.new.runs) c.closes_more.new.openers.items c.closes_more.new.bottoms ≤ c.closing.turns + to_pay (map as_run c.closing.runs) c.closing.openers.items c.closing.bottoms + cond b 0 1) c.if-branch.true c.in_ok-closes_more.ensures.paid in
      omega (arith, paid, c.closing.invariant.3)
      ),
)

moved : (rs rs' : List Run) (ops ops' : List ℕ) (closer : ℕ) (z : SoFar) (r : Run) (rest : List Run) → StandsAt rs ops closer z r rest → rs' ≡ rs → ops' ≡ ops → StandsAt rs' ops' closer z r rest
moved rs rs' ops ops' closer z r rest h e f = subst (λ xs. StandsAt xs ops' closer z r rest) (sym e) (subst (λ xs. StandsAt rs xs closer z r rest) (sym f) h)

pub returns-in_ok-push-clause-taken : goal.returns-in_ok-push-clause-taken
returns-in_ok-push-clause-taken g c z r rest h =
    let i = c.closing.invariant.2 z r rest h in
    let same = c.in_ok-closes_more.ensures.same (ap Ok c.if-branch.false) in
    let end = c.in_ok-closes_more.ensures.end (ap Ok c.if-branch.false) i.0 i.1 rest i.2 i.3 in
    let rs = map as_run c.closes_more.new.runs in
    let ops = c.closes_more.new.openers.items in
    let now = moved (map as_run c.closing.runs) rs c.closing.openers.items ops c.args.closer i.0 i.1 rest i.2 same.0 same.1 in
    let can : opens_yet i.1 ≡ true =
    sym (ap opens_yet (run-at c.closes_more.new.runs ops c.args.closer c.index-runs-closer.result i.0 i.1 rest now)) ∙ sym c.opens_yet.ensures ∙ c.if-opens_yet.true in
    let there = stands-waiting rs ops c.args.closer i.0 i.1 rest now can in
    subst (λ y. Stands rs c.push.new.self.items y rest) (sym end ∙ i.5) (subst (λ xs. Stands rs xs (put i.1 i.0) rest) (sym c.in_ok-push.ensures.items) there)

pub returns-else-opens_yet-clause-taken : goal.returns-else-opens_yet-clause-taken
returns-else-opens_yet-clause-taken g c z r rest h =
    let i = c.closing.invariant.2 z r rest h in
    let same = c.in_ok-closes_more.ensures.same (ap Ok c.if-branch.false) in
    let end = c.in_ok-closes_more.ensures.end (ap Ok c.if-branch.false) i.0 i.1 rest i.2 i.3 in
    let rs = map as_run c.closes_more.new.runs in
    let ops = c.closes_more.new.openers.items in
    let now = moved (map as_run c.closing.runs) rs c.closing.openers.items ops c.args.closer i.0 i.1 rest i.2 same.0 same.1 in
    let cannot : opens_yet i.1 ≡ false =
    sym (ap opens_yet (run-at c.closes_more.new.runs ops c.args.closer c.index-runs-closer.result i.0 i.1 rest now)) ∙ sym c.opens_yet.ensures ∙ c.if-opens_yet.false in
    subst (λ y. Stands rs ops y rest) (sym end ∙ i.5) (stands-behind rs ops c.args.closer i.0 i.1 rest now cannot)

pub returns-in_ok-push-clause-bottoms : goal.returns-in_ok-push-clause-bottoms
returns-in_ok-push-clause-bottoms g c =
    let rs = map as_run c.closes_more.new.runs in
    let after = bottoms-after-push rs c.closes_more.new.openers.items c.closes_more.new.bottoms c.args.closer c.in_ok-closes_more.ensures.bottoms in
    subst (λ xs. AreBottoms rs xs c.args.closer c.closes_more.new.bottoms) (sym c.in_ok-push.ensures.items) after

-- a run that waits costs a turn for itself, and one for each kind
pub returns-in_ok-push-clause-paid : goal.returns-in_ok-push-clause-paid
returns-in_ok-push-clause-paid g c =
    let rs = map as_run c.closes_more.new.runs in
    let ops = c.closes_more.new.openers.items in
    let bs = c.closes_more.new.bottoms in
    let t = c.closes_more.new.turns in
    let was = c.closing.turns + to_pay (map as_run c.closing.runs) c.closing.openers.items c.closing.bottoms in
    let paid : t + ((length ops + above ops bs) + 2 * markers_left rs) ≤ was + 1 = subst (λ b. t + to_pay rs ops bs ≤ was + cond b 0 1) c.if-branch.false c.in_ok-closes_more.ensures.paid in
    let long : length c.push.new.self.items ≡ length ops + 1 = ap length c.in_ok-push.ensures.items ∙ length-append ops (c.args.closer ∷ []) in
    let same = ap (λ xs. above xs bs) c.in_ok-push.ensures.items in
    let more = above-more ops c.args.closer bs in
    let kinds : length bs ≡ kinds_of_runs = c.closes_more.ensures.kinds in
    let before : was ≤ c.args.turns.now + to_pay (map as_run c.args.runs.now) c.args.openers.now.items c.args.bottoms.now = c.closing.invariant.3 in
    let all : t + ((length c.push.new.self.items + above c.push.new.self.items bs) + 2 * markers_left rs) ≤ c.args.turns.now + to_pay (map as_run c.args.runs.now) c.args.openers.now.items c.args.bottoms.now + pairs_a_run =
    omega (arith, paid, long, same, more, kinds, before) in
    all
