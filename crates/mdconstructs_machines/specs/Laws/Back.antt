-- The table of the machine passes the test, so that the machine is lawful.
use Rattle.std.proofs.Common.{◌≡◌, [], Option, Some, None, refl, true}
use Rattle.mdconstructs_tables.specs.PlainTables.{IsPlainTable}
use Rattle.mdconstructs_tables.specs.Refusals.{refusing}
use Rattle.mdconstructs_tables.specs.Fitting.{IsFit}
use Rattle.mdconstructs_tables.proofs.Tables.Tests.{tests, all-fit, all-plain, none-refuses}
use Rattle.mdconstructs_tables.specs.Tables.{LineByte, line_ending, other}
use Rattle.mdconstructs_machines.specs.Back.{back}

-- all states fit, none links or writes, and none refuses the document
tested : (previous current : Option LineByte) → tests back previous current ≡ ([], true, [])
tested previous None = refl
tested previous (Some line_ending) = refl
tested previous (Some other) = refl

pub back-fit : IsFit back
back-fit = record { fits = all-fit back tested; paid = tt; falls = tt; kept = λ local. refl }

pub back-plain : IsPlainTable back
back-plain = record { first = λ k h. h; rows = all-plain back tested }

pub back-none : (previous current : Option LineByte) → refusing back previous current ≡ []
back-none = none-refuses back tested
