use Rattle.mdevents_program.proofs.Prelude.{◌≡◌, ◌++◌, ℕ, List, take, Appends, printed_events}
use Rattle.mdevents_program.proofs.write.write_lines.Given as goal

-- what was written, and then what waits, are the lines of the events so far
abbrev pub invariant-loop-event : goal.invariant-loop-event
invariant-loop-event g l =
    (text : List ℕ) × Appends (g.W.Write.contents l.initial.writer) (g.W.Write.contents l.writer) text × (text ++ l.lines ≡ printed_events (take l.event-index l.events))
