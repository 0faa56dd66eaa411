-- The table of the machine that reads over bytes passes the test, so that the machine is lawful.
use Rattle.std.proofs.Common.{◌≡◌, [], Bool, true, false, Option, Some, None, refl}
use Rattle.mdconstructs_tables.specs.PlainTables.{IsPlainTable}
use Rattle.mdconstructs_tables.specs.Fitting.{IsFit}
use Rattle.mdconstructs_tables.proofs.Tables.Tests.{tests, all-fit, all-plain}
use Rattle.mdtests_tables.specs.Over.{over}

tested : (previous current : Option Bool) → tests over previous current ≡ ([], true, [])
tested previous None = refl
tested previous (Some false) = refl
tested previous (Some true) = refl

pub over-fit : IsFit over
over-fit = record { fits = all-fit over tested; paid = tt; falls = tt; kept = λ local. refl }

pub over-plain : IsPlainTable over
over-plain = record { first = λ k h. h; rows = all-plain over tested }
