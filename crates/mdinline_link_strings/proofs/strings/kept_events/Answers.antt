use Rattle.mdinline_link_strings.proofs.Listed.{no_event}
use Rattle.mdinline_link_strings.proofs.Outside.{outside-events, outside-size}
use Rattle.mdinline_link_strings.proofs.strings.kept_events.Goals as goal

pub returns-clause-events : goal.returns-clause-events
returns-clause-events g c = λ on t bytes.
    rw c.if-inside.false (outside-events t bytes no_event on c.events_outside.result c.args.events.now c.events_outside.ensures.within (c.events_outside.ensures.none no_event))

pub returns-clause-size : goal.returns-clause-size
returns-clause-size g c = λ t bytes.
    rw c.if-inside.false (outside-size t bytes no_event c.events_outside.result c.args.events.now c.events_outside.ensures.within (c.events_outside.ensures.none no_event))
