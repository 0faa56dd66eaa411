-- The table of fields passes the test whatever bytes the machine has, so that the machine is lawful.
use Rattle.std.proofs.Common.{◌≡◌, ℕ, List, [], Option, Some, None, refl, true}
use Rattle.mdconstructs.specs.PlainTables.{IsPlainTable}
use Rattle.mdconstructs_tables.specs.Fitting.{IsFit}
use Rattle.mdconstructs_tables.proofs.Tables.Tests.{tests, all-fit, all-plain}
use Rattle.mdexamples.specs.Fields.{fields}

tested : (dividers : List ℕ) (previous current : Option (Unit {0})) → tests (fields dividers) previous current ≡ ([], true, [])
tested dividers previous None = refl
tested dividers previous (Some w) = refl

pub fields-fit : (dividers : List ℕ) → IsFit (fields dividers)
fields-fit dividers = record { fits = all-fit (fields dividers) (tested dividers); paid = tt; falls = tt; kept = λ local. refl }

pub fields-plain : (dividers : List ℕ) → IsPlainTable (fields dividers)
fields-plain dividers = record { first = λ k h. h; rows = all-plain (fields dividers) (tested dividers) }
