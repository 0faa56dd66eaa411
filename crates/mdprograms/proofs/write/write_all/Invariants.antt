use Rattle.mdprograms.proofs.Prelude.{◌≤◌, ◌-◌, length, take, Appends}
use Rattle.mdprograms.proofs.write.write_all.Given as goal

-- what was written so far is the front of the text
abbrev pub invariant-writing : goal.invariant-writing
invariant-writing g l = record {
  inside : l.written ≤ length l.text;
  front : Appends (g.W.Write.contents l.initial.writer) (g.W.Write.contents l.writer) (take l.written l.text);
}

abbrev pub decreases-writing : goal.decreases-writing
decreases-writing g l = length l.text - l.written
