use Rattle.std.proofs.Common.{sym, ap, ◌∙◌, ◌≤◌, length, rules}
use Rattle.std.proofs.lemmas.Result.{on_ok_weaker}
use Rattle.mdinline_links.proofs.Costs.{slice-pay}
use Rattle.mdinline_links.proofs.Places.{put-back}
use Rattle.mdinline_links.proofs.brackets.pair_behind.Goals as goal

pub returns-clause-pairs : goal.returns-clause-pairs
returns-clause-pairs g c =
    let was = c.as_mut_slice.ensures.value in
    let inside : c.args.from ≤ length c.args.runs.now.items = search rules in
    on_ok_weaker c.pair_counted.result (λ pairs. put-back c.args.runs.now.items c.as_mut_slice.result.now c.pair_counted.new.runs c.args.from c.args.runs.now.len was (sym c.as_mut_slice.ensures.len ∙ ap length was) inside pairs) c.pair_counted.ensures.pairs

pub returns-clause-linear : goal.returns-clause-linear
returns-clause-linear g c =
    let inside : c.args.from ≤ length c.args.runs.now.items = search rules in
    slice-pay c.args.runs.now.items c.as_mut_slice.result.now c.args.from c.args.turns.now c.pair_counted.new.turns c.as_mut_slice.ensures.value inside c.pair_counted.ensures.linear
