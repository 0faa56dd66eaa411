use Rattle.std.proofs.Common.{List, sym, subst, true}
use Rattle.markdown.specs.declared.event.Event.{Event}
use Rattle.markdown.specs.Engine.{IsRun, given_of}
use Rattle.mdexamples.proofs.ReadOn.{GoesOn, goes-on}
use Rattle.mdexamples.proofs.kept.read_changed.Goals as goal

pub moved_to-tokenizer-requires-clause-alike : goal.moved_to-tokenizer-requires-clause-alike
moved_to-tokenizer-requires-clause-alike g c =
    rw c.in_ok-try_clone.ensures (c.can_move_to.ensures.0 c.if-not-can_move_to.false)

pub read_on-found-requires : goal.read_on-found-requires
read_on-found-requires g c =
    let on : GoesOn g.M.Machine.rules c.args.cut c.args.start c.args.kept.now.0.machine (given_of c.args.changed.now) c.moved_to-tokenizer.result c.in_ok-state.state =
    goes-on g.M.Machine.rules c.args.cut c.args.start g.met.M.Machine.lawful (given_of c.args.changed.now) c.args.kept.now.0 c.in_ok-try_clone.field-0 c.moved_to-tokenizer.result
    c.args.kept.now.1 c.in_ok-state.state c.requires.kept c.requires.looks c.requires.start (c.can_move_to.ensures.0 c.if-not-can_move_to.false)
    c.in_ok-try_clone.ensures c.in_ok-state.ensures.equal c.moved_to-tokenizer.ensures.moved c.moved_to-tokenizer.ensures.at_places in
    record { range = on.range; holds = on.holds }

pub returns-clause-run : goal.returns-clause-run
returns-clause-run g c =
    let on : GoesOn g.M.Machine.rules c.args.cut c.args.start c.args.kept.now.0.machine (given_of c.args.changed.now) c.moved_to-tokenizer.result c.in_ok-state.state =
    goes-on g.M.Machine.rules c.args.cut c.args.start g.met.M.Machine.lawful (given_of c.args.changed.now) c.args.kept.now.0 c.in_ok-try_clone.field-0 c.moved_to-tokenizer.result
    c.args.kept.now.1 c.in_ok-state.state c.requires.kept c.requires.looks c.requires.start (c.can_move_to.ensures.0 c.if-not-can_move_to.false)
    c.in_ok-try_clone.ensures c.in_ok-state.ensures.equal c.moved_to-tokenizer.ensures.moved c.moved_to-tokenizer.ensures.at_places in
    subst (λ (es : List Event). IsRun (given_of c.args.changed.now) (g.M.Machine.rules c.args.kept.now.0.machine) true c.args.start es c.in_ok-found.field-0)
    (sym c.into_events-events.ensures) (on.run c.read_on-found.new.tokenizer c.in_ok-found.field-0 c.in_ok-found.ensures)
