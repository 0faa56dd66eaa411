use Rattle.std.proofs.Common.{[]}
use Rattle.std.proofs.lemmas.Result.{IfOk-weaker}
use Rattle.mdexamples.proofs.ReadOn.{read-on}
use Rattle.mdexamples.proofs.kept.read_on.Goals as goal

pub flush-requires : goal.flush-requires
flush-requires g c =
    let p = c.in_ok-state.ensures.ok in let machine = p.machine in let given = p.given in
    record { holds = λ _. rw (machine, given) ((p.outcome [] tt).kept) }

pub returns : goal.returns
returns g c =
    IfOk-weaker c.flush.result _ _
    (λ sub. read-on g.M.Machine.rules c.args.tokenizer.now c.push.new.self c.flush.new.self c.args.from c.args.to c.args.state c.in_ok-state.state sub c.in_ok-state.ensures.ok)
    c.flush.ensures.ok
