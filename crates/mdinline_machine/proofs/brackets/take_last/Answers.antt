use Rattle.mdinline_machine.proofs.Prelude.{◌≡◌, ◌<◌, length, true, sym, ap, ◌∙◌, arith, rules}
use Rattle.mdinline_machine.specs.BracketRows.{holds_link, without_last}
use Rattle.mdinline_machine.proofs.TakenLast.{marked-last}
use Rattle.mdinline_machine.proofs.brackets.take_last.Goals as goal

pub returns-then-not-is_image : goal.returns-then-not-is_image
returns-then-not-is_image c =
    let holds : holds_link c.args.made c.in-Some.last ≡ true = search rules in
    let many : c.len-count.result ≡ length c.pop.new.self.items = search rules in
    let some : 0 < c.len-count.result = search rules in
    marked-last c.args.made c.pop.new.self.items c.in-Some.last c.index_mut.result.now c.len-count.result many some holds c.index_mut.ensures.value ∙ ap (without_last c.args.made) (sym c.in-Some.ensures.items)
