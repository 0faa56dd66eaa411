use Rattle.mdprograms.proofs.failure.FailureDisplay.fmt.Goals as goal

pub returns-in-Memory-clause-writes : goal.returns-in-Memory-clause-writes
returns-in-Memory-clause-writes g c = let e = c.in-Memory.is in rw e c.write.ensures.writes

pub returns-in-Read-clause-writes : goal.returns-in-Read-clause-writes
returns-in-Read-clause-writes g c = let e = c.in-Read.is in rw e c.write-in-Read.ensures.writes

pub returns-in-Write-clause-writes : goal.returns-in-Write-clause-writes
returns-in-Write-clause-writes g c = let e = c.in-Write.is in rw e c.write-in-Write.ensures.writes

pub returns-in-TooLong-clause-writes : goal.returns-in-TooLong-clause-writes
returns-in-TooLong-clause-writes g c = let e = c.in-TooLong.is in rw e c.write-in-TooLong.ensures.writes

pub returns-in-NotReady-clause-writes : goal.returns-in-NotReady-clause-writes
returns-in-NotReady-clause-writes g c = let e = c.in-NotReady.is in rw e c.write-in-NotReady.ensures.writes
