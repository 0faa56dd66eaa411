use Rattle.std.proofs.Common.{◌≡◌, ◌+◌, ◌≤◌, ◌∙◌, append-nil, length, refl, rules, subst}
use Rattle.std.proofs.lemmas.Result.{on_ok_weaker}
use Rattle.mdinline_links.proofs.Costs.{one-more, run-waits}
use Rattle.mdinline_links.proofs.Read.{nothing-there, read-last, read-run}
use Rattle.mdinline_links.specs.Costs.{to_pay}
use Rattle.mdinline_links.specs.declared.pieces.Fate.TheVariants.{Same, Waits}
use Rattle.mdinline_links.specs.Laid.{IsRead, piece_at}
use Rattle.mdinline_links.proofs.brackets.Pieces.read_run.Goals as goal

pub returns-in-None-clause-read : goal.returns-in-None-clause-read
returns-in-None-clause-read c =
    let old = c.args.self.now in
    let p = c.push in
    let left = c.args.left.now.items in
    let none : length left ≡ 0 = search rules in
    on_ok_weaker p.result
    (λ ps es order inside a b k. subst (λ ds. IsRead es old p.new.self left ds c.args.start c.args.end) (c.in-None.ensures.items ∙ append-nil c.pop.new.self.items)
    (read-last es old p.new.self c.args.start c.args.end order inside p.ensures.runs p.ensures.owners left a b (nothing-there left none) ps p.ensures.brackets))
    p.ensures.pieces

pub returns-in-Some-clause-read : goal.returns-in-Some-clause-read
returns-in-Some-clause-read c =
    on_ok_weaker c.wait.result
    (λ w es order inside a b k. read-run es c.args.self.now c.wait.new.self c.args.start c.args.end order inside c.args.left.now.items c.pop.new.self.items c.in-Some.run' c.in-Some.ensures.items a b k w.0 w.3 w.1 w.2)
    c.wait.ensures

pub returns-in-None-clause-paid : goal.returns-in-None-clause-paid
returns-in-None-clause-paid c =
    let old = c.args.self.now in
    let p = c.push in
    let same = c.in-None.ensures.items ∙ append-nil c.pop.new.self.items in
    on_ok_weaker p.result
    (λ ps. subst (λ ds. to_pay p.new.self ds ≤ to_pay old c.args.left.now.items + 1) same (one-more old p.new.self c.args.left.now.items (piece_at c.args.start c.args.end Same) p.ensures.runs ps refl))
    p.ensures.pieces

pub returns-in-Some-clause-paid : goal.returns-in-Some-clause-paid
returns-in-Some-clause-paid c =
    on_ok_weaker c.wait.result
    (λ w. run-waits c.args.self.now c.wait.new.self c.args.left.now.items c.pop.new.self.items c.in-Some.run' (piece_at c.args.start c.args.end Waits) c.in-Some.ensures.items w.1 w.0 refl)
    c.wait.ensures
