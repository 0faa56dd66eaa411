-- The table of the machine passes the test, so that the machine is lawful: its cost falls at each call, though the attempt does not say from
-- which place it goes on.
use Rattle.std.proofs.Common.{◌≡◌, [], Option, Some, None, refl, true}
use Rattle.mdconstructs_tables.specs.PlainTables.{are_plain_states, IsPlainTable}
use Rattle.mdconstructs_tables.specs.Misfits.{misfits}
use Rattle.mdconstructs_tables.specs.Fitting.{IsFit}
use Rattle.mdconstructs_tables.specs.Tables.{LineByte, line_ending, other}
use Rattle.mdtests_tables.specs.Looping.{looping}

fits : (previous current : Option LineByte) → misfits looping previous current ≡ []
fits previous None = refl
fits previous (Some line_ending) = refl
fits previous (Some other) = refl

pub looping-fit : IsFit looping
looping-fit = record { fits = fits; paid = tt; falls = tt; kept = λ local. refl }

-- no state links or writes
unlinked-rows : (previous current : Option LineByte) → are_plain_states looping.states previous current ≡ true
unlinked-rows previous None = refl
unlinked-rows previous (Some line_ending) = refl
unlinked-rows previous (Some other) = refl

pub looping-plain : IsPlainTable looping
looping-plain = record { first = λ k h. h; rows = unlinked-rows }
