-- The table of the machine passes the test, so that the machine is lawful.
use Rattle.std.proofs.Common.{◌≡◌, [], Option, Some, None, refl, true}
use Rattle.mdconstructs_tables.specs.PlainTables.{are_plain_states, IsPlainTable}
use Rattle.mdconstructs_tables.specs.Misfits.{misfits}
use Rattle.mdconstructs_tables.specs.Fitting.{IsFit}
use Rattle.mdconstructs_tables.specs.Tables.{LineByte, line_ending, other}
use Rattle.mdtests_tables.specs.Behind.{behind}

fits : (previous current : Option LineByte) → misfits behind previous current ≡ []
fits previous None = refl
fits previous (Some line_ending) = refl
fits previous (Some other) = refl

pub behind-fit : IsFit behind
behind-fit = record { fits = fits; paid = tt; falls = tt; kept = λ local. refl }

-- no state links or writes
unlinked-rows : (previous current : Option LineByte) → are_plain_states behind.states previous current ≡ true
unlinked-rows previous None = refl
unlinked-rows previous (Some line_ending) = refl
unlinked-rows previous (Some other) = refl

pub behind-plain : IsPlainTable behind
behind-plain = record { first = λ k h. h; rows = unlinked-rows }
