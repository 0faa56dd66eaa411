use Rattle.std.proofs.Common.{sym}
use Rattle.mdhtml_document.proofs.AltFacts.{default-alt, none-passed}
use Rattle.mdhtml_document.proofs.descriptions.push_entered.Goals as goal

pub returns-in_ok-push_said-in_default-clause-added : goal.returns-in_ok-push_said-in_default-clause-added
returns-in_ok-push_said-in_default-clause-added c =
    let bytes = c.args.bytes.now in
    let i = c.inline_of.result in
    let n = c.in_default in
    default-alt bytes i c.args.event.now c.args.behind.now c.args.text.now.items c.push_said.new.text.items c.requires (sym c.inline_of.ensures)
    (none-passed bytes i n.not-Ending n.not-Code n.not-Html n.not-Autolink n.not-Tail) c.in_ok-push_said-in_default.ensures
