use Rattle.std.proofs.Common.{arith, ◌∷◌, []}
use Rattle.markdown.specs.Engine.{given_of}
use Rattle.markdown.specs.declared.state.State.TheVariants.{Next}
use Rattle.markdown.proofs.Runs.Cuts.{IsAtCut, at-start}
use Rattle.markdown.proofs.Runs.Whole.{start-is-point}
use Rattle.mdexamples.proofs.ReadOn.{read-up-to}
use Rattle.mdexamples.proofs.kept.read_up_to.Goals as goal

pub new-tokenizer-requires : goal.new-tokenizer-requires
new-tokenizer-requires g c = record { place = start-is-point (given_of c.args.document.now) c.args.document.now.tab_size.0 }

pub push-requires : goal.push-requires
push-requires g c =
    let begun : IsAtCut g.M.Machine.rules c.args.document.now c.args.start (c.args.cut ∷ []) 0 (0, 0) c.new-tokenizer.result (Next c.args.start) =
    at-start g.met.M.Machine.lawful c.new-tokenizer.ensures.document c.requires.start c.requires.cut _ c.new-tokenizer.ensures.start in
    record { range = λ _. begun.range (omega arith); holds = λ _. begun.holds }

pub returns-in-Ok-clause-read : goal.returns-in-Ok-clause-read
returns-in-Ok-clause-read g c =
    let begun : IsAtCut g.M.Machine.rules c.args.document.now c.args.start (c.args.cut ∷ []) 0 (0, 0) c.new-tokenizer.result (Next c.args.start) =
    at-start g.met.M.Machine.lawful c.new-tokenizer.ensures.document c.requires.start c.requires.cut _ c.new-tokenizer.ensures.start in
    read-up-to g.M.Machine.rules c.args.cut c.args.start (given_of c.args.document.now) c.args.document.now.machine.now c.new-tokenizer.result c.push.new.self c.in-Ok.state
    c.new-tokenizer.ensures.start c.new-tokenizer.ensures.document (begun.range (omega arith)) c.in-Ok.ensures.ok
