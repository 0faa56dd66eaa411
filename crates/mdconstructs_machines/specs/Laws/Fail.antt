-- The table of the machine passes the test, so that the machine is lawful.
use Rattle.std.proofs.Common.{◌≡◌, ℕ, [], Option, Some, None, refl}
use Rattle.mdconstructs_tables.specs.PlainTables.{IsPlainEverywhere}
use Rattle.mdconstructs_tables.specs.PlainWrites.{StatesWritePlain, WritesPlain}
use Rattle.mdconstructs_tables.specs.Misfits.{misfits}
use Rattle.mdconstructs_tables.specs.Fitting.{IsFit}
use Rattle.mdconstructs_tables.specs.Tables.{LineByte, line_ending, other}
use Rattle.mdconstructs_machines.specs.Fail.{counted, fail}

fits : (at : ℕ) (previous current : Option LineByte) → misfits (fail at) previous current ≡ []
fits at previous None = refl
fits at previous (Some line_ending) = refl
fits at previous (Some other) = refl

pub fail-fit : (at : ℕ) → IsFit (fail at)
fail-fit at = record { fits = fits at; paid = tt; falls = tt; kept = λ local. refl }

-- what it writes leaves nothing to resolve: the call is counted
counted-plain : IsPlainEverywhere (λ s. counted)
counted-plain s k h = h

written : (at : ℕ) (previous current : Option LineByte) → StatesWritePlain (fail at).states previous current
written at previous None = (counted-plain, (counted-plain, tt))
written at previous (Some line_ending) = (counted-plain, (counted-plain, tt))
written at previous (Some other) = (counted-plain, (counted-plain, tt))

pub fail-plain : (at : ℕ) → WritesPlain (fail at)
fail-plain at = record { first = λ k h. h; rows = written at }
