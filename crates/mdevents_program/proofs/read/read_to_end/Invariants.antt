use Rattle.mdevents_program.proofs.Prelude.{◌-◌, ◌^◌, length, Consumes, IsWithinLimit}
use Rattle.mdevents_program.proofs.read.read_to_end.Given as goal

-- what the reader gave so far is kept, and is within the limit
abbrev pub invariant-reading : goal.invariant-reading
invariant-reading g l = record {
  taken : Consumes (g.R.Read.remaining l.initial.reader) (g.R.Read.remaining l.reader) l.bytes.items;
  within : IsWithinLimit l.fn.tab l.bytes.items;
}

-- how far the bytes are below the limit
abbrev pub decreases-reading : goal.decreases-reading
decreases-reading g l = 2 ^ 64 - length l.bytes.items
