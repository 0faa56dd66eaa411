use Rattle.std.proofs.Common.{◌≡◌, ◌∷◌, [], ◌++◌, ◌∙◌, ap, append-nil, arith, cond, length, refl, rules, sym}
use Rattle.std.proofs.lemmas.Result.{on_ok_weaker}
use Rattle.std.specs.Prelude.{nat_lt}
use Rattle.mdinline_links.proofs.Costs.{two-more}
use Rattle.mdinline_links.proofs.Read.{ended-none, ended-some, nothing-there}
use Rattle.mdinline_links.specs.declared.pieces.Fate.TheVariants.{Same}
use Rattle.mdinline_links.specs.Laid.{piece_at}
use Rattle.mdinline_links.proofs.brackets.Pieces.end.Goals as goal

pub returns-in_ok-push-in-None-clause-ended : goal.returns-in_ok-push-in-None-clause-ended
returns-in_ok-push-in-None-clause-ended g c =
    let old = c.args.self.now in
    let none : length old.brackets.items ≡ 0 = search rules in
    let tails = cond (nat_lt c.args.end c.args.tail) (piece_at c.args.end c.args.tail Same ∷ []) [] in
    on_ok_weaker c.push_some.result
    (λ ps. ended-none old c.push_some.new.self c.args.start c.args.end c.args.tail c.requires.order c.requires.tail (nothing-there old.brackets.items none)
    (c.push_some.ensures.brackets ∙ c.push.ensures.brackets ∙ sym (c.in-None.ensures.items ∙ append-nil c.pop.new.self.items))
    (c.push_some.ensures.runs ∙ c.push.ensures.runs) (c.push_some.ensures.owners ∙ c.push.ensures.owners)
    (ps ∙ ap (λ qs. qs ++ tails) c.in_ok-push-in-None.ensures.pieces))
    c.push_some.ensures.pieces

pub returns-in-Some-clause-ended : goal.returns-in-Some-clause-ended
returns-in-Some-clause-ended g c =
    on_ok_weaker c.make.result
    (λ made. ended-some c.args.self.now c.make.new.self c.args.start c.args.end c.args.tail c.requires.order c.requires.tail (record c.args.self.now { brackets = c.pop.new.self }) c.in-Some.bracket c.in-Some.ensures.items refl refl refl made)
    c.make.ensures.made

pub returns-in_ok-push-in-None-clause-paid : goal.returns-in_ok-push-in-None-clause-paid
returns-in_ok-push-in-None-clause-paid g c =
    let old = c.args.self.now in
    let a = c.args in
    let tails = cond (nat_lt a.end a.tail) (piece_at a.end a.tail Same ∷ []) [] in
    on_ok_weaker c.push_some.result
    (λ ps. let few = two-more old c.push_some.new.self (piece_at a.start a.end Same) (piece_at a.end a.tail Same) a.end a.tail (c.push_some.ensures.runs ∙ c.push.ensures.runs) (ps ∙ ap (λ qs. qs ++ tails) c.in_ok-push-in-None.ensures.pieces) refl refl in
    omega (arith, few))
    c.push_some.ensures.pieces

pub returns-in-Some-clause-paid : goal.returns-in-Some-clause-paid
returns-in-Some-clause-paid g c = c.make.ensures.paid
