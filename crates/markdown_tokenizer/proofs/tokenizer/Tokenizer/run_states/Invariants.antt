use Rattle.markdown_tokenizer.proofs.Prelude.{◌-◌, Retry, budget}
use Rattle.markdown_tokenizer.proofs.Runs.Working.{Kept}
use Rattle.markdown_tokenizer.proofs.tokenizer.Tokenizer.run_states.Given as goal

abbrev pub invariant-loop-answer : goal.invariant-loop-answer
invariant-loop-answer g l =
    Kept l.fn.self.given (g.M.Machine.rules l.fn.self.machine l.fn.self.given) l.flush l.fn.self l.fn.state l.self (Retry l.name)

abbrev pub decreases-loop-answer : goal.decreases-loop-answer
decreases-loop-answer g l =
    let m = l.fn.self.machine in let given = l.fn.self.given in
    budget (g.M.Machine.rules m given) l.fn.self.text l.fn.self l.fn.state - l.self.calls
