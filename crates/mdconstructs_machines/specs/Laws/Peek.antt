-- The table of the machine passes the test, so that the machine is lawful.
use Rattle.std.proofs.Common.{◌≡◌, [], Option, Some, None, refl, true}
use Rattle.mdconstructs_tables.specs.PlainTables.{IsPlainTable}
use Rattle.mdconstructs_tables.specs.Refusals.{refusing}
use Rattle.mdconstructs_tables.specs.Fitting.{IsFit}
use Rattle.mdconstructs_tables.proofs.Tables.Tests.{tests, all-fit, all-plain, none-refuses}
use Rattle.mdconstructs_tables.specs.Tables.{LineByte, line_ending, other}
use Rattle.mdconstructs_machines.specs.Peek.{peek}

-- all states fit, none links or writes, and none refuses the document
tested : (previous current : Option LineByte) → tests peek previous current ≡ ([], true, [])
tested previous None = refl
tested previous (Some line_ending) = refl
tested previous (Some other) = refl

pub peek-fit : IsFit peek
peek-fit = record { fits = all-fit peek tested; paid = tt; falls = tt; kept = λ local. refl }

pub peek-plain : IsPlainTable peek
peek-plain = record { first = λ k h. h; rows = all-plain peek tested }

pub peek-none : (previous current : Option LineByte) → refusing peek previous current ≡ []
peek-none = none-refuses peek tested
