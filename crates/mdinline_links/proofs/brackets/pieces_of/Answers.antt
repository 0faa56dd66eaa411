use Rattle.std.proofs.Common.{◌≡◌, ◌+◌, ◌≤◌, ◌∙◌, [], ap, arith, length, rules, subst, sym, take}
use Rattle.std.specs.List.{AllByRecursion}
use Rattle.mdinline_emphasis.specs.Runs.{runs_in}
use Rattle.mdinline_links.proofs.Reached.{start_of}
use Rattle.mdinline_links.proofs.Costs.{all-paid, first-paid}
use Rattle.mdinline_links.proofs.Places.{paired-many, placed-pairs}
use Rattle.mdinline_links.proofs.Read.{first-reached, reached-fit, reached-many, reached-more, reached-owners, reached-written}
use Rattle.mdinline_links.specs.Costs.{pay, to_write}
use Rattle.mdinline_links.specs.Linked.{outermost_spans}
use Rattle.mdinline_links.specs.Pieces.{Fits, written_from}
use Rattle.mdinline_links.proofs.brackets.pieces_of.Goals as goal

pub loop-next-init : goal.loop-next-init
loop-next-init g c =
    let n = c.in_ok-all.ensures in (
      omega arith,
      first-reached c.args.one_tilde c.args.bytes.now c.args.events.now c.in_ok-all.all c.turned-left.result.items c.in_ok-runs_of_counted.field-0.items c.requires.room n.brackets n.runs n.owners n.pieces c.in_ok-runs_of_counted.ensures.runs c.turned-left.ensures,
      first-paid c.args.one_tilde c.args.bytes.now c.args.events.now c.in_ok-all.all c.turned-left.result.items c.in_ok-runs_of_counted.field-0.items c.args.turns.now c.runs_of_counted.new.turns n.runs n.pieces c.in_ok-runs_of_counted.ensures.runs c.turned-left.ensures c.runs_of_counted.ensures.turns,
    )

pub step-requires-clause-many : goal.step-requires-clause-many
step-requires-clause-many g c =
    let es = c.args.events.now in
    let l = c.loop-next in
    reached-owners es (start_of (runs_in c.args.one_tilde c.args.bytes.now es)) (outermost_spans es) l.next l.all l.left.items l.invariant.1

pub loop-next-preserved : goal.loop-next-preserved
loop-next-preserved g c =
    let es = c.args.events.now in
    let l = c.loop-next in (
      c.in_ok-next.ensures.order.1,
      reached-more es (start_of (runs_in c.args.one_tilde c.args.bytes.now es)) (outermost_spans es) l.next c.in_ok-next.next l.all c.step.new.self l.left.items c.step.new.left.items l.invariant.1 c.in_ok-next.ensures.stands,
      (let paid = c.in_ok-next.ensures.paid in let so_far = l.invariant.2 in let order = c.in_ok-next.ensures.order.0 in omega (arith, paid, so_far, order)),
    )

pub place_runs-requires : goal.place_runs-requires
place_runs-requires g c =
    let l = c.loop-next in
    record { many = reached-many c.args.one_tilde c.args.bytes.now c.args.events.now l.all l.left.items l.next l.invariant.1 c.pair_behind.new.runs.items c.in_ok-pair_behind.ensures.pairs }

pub returns-clause-links : goal.returns-clause-links
returns-clause-links g c =
    let l = c.loop-next in
    let end : length c.args.events.now ≤ l.next = search rules in
    ap (written_from c.args.events.now []) c.place_runs.ensures.pieces
    ∙ reached-written c.args.one_tilde c.args.bytes.now c.args.events.now l.all l.left.items l.next l.invariant.1 c.pair_behind.new.runs.items c.in_ok-pair_behind.ensures.pairs end

pub returns-clause-fit : goal.returns-clause-fit
returns-clause-fit g c =
    let l = c.loop-next in
    subst (AllByRecursion (Fits (length c.args.events.now))) (sym c.place_runs.ensures.pieces)
    (reached-fit c.args.one_tilde c.args.bytes.now c.args.events.now l.all l.left.items l.next l.invariant.1 c.pair_behind.new.runs.items c.in_ok-pair_behind.ensures.pairs)

pub returns-clause-paid : goal.returns-clause-paid
returns-clause-paid g c =
    let l = c.loop-next in
    let many = paired-many l.all.runs.items c.pair_behind.new.runs.items 0 c.in_ok-pair_behind.ensures.pairs in
    let turns : c.place_runs.new.turns + length (take 0 c.pair_behind.new.runs.items) ≡ c.pair_behind.new.turns + length c.pair_behind.new.runs.items =
    ap (λ xs. c.place_runs.new.turns + length xs) (sym c.place_runs.ensures.runs) ∙ c.place_runs.ensures.turns in
    let end : l.next ≤ length c.args.events.now = l.invariant.0 in
    let pairs = placed-pairs l.all.runs.items c.pair_behind.new.runs.items 0 c.in_ok-pair_behind.ensures.pairs in
    let all = all-paid l.all l.left.items c.pair_behind.new.runs.items (length c.args.events.now + pay (runs_in c.args.one_tilde c.args.bytes.now c.args.events.now)) c.args.turns.now l.turns c.pair_behind.new.turns c.place_runs.new.turns l.next l.invariant.2 c.pair_behind.ensures.linear many pairs turns in
    let written = ap to_write c.place_runs.ensures.pieces in
    omega (arith, all, written, end)
