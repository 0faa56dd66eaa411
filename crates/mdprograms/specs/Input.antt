-- What a program may read.
use Rattle.std.specs.Prelude.{ℕ, List, Option}
use Rattle.std.specs.Io.KnownBytes.{Consumes, IsAtEnd}
use Rattle.markdown_base.specs.Virtual.{IsWithinLimit}

-- A reader was read to its end, within the limit
pub record IsReadToEnd (t : ℕ) (old new : Option (List ℕ)) (bytes : List ℕ) : Type 0 where
  pub all : Consumes old new bytes
  pub end : IsAtEnd new
  pub within : IsWithinLimit t bytes

-- what was read from a reader is within the limit
abbrev pub ReadsWithinLimit : (t : ℕ) → Option (List ℕ) → Option (List ℕ) → Type 0
ReadsWithinLimit t old new = (bytes : List ℕ) × Consumes old new bytes × IsWithinLimit t bytes

-- what was read from a reader is past the limit
abbrev pub ReadsPastLimit : (t : ℕ) → Option (List ℕ) → Option (List ℕ) → Type 0
ReadsPastLimit t old new = (bytes : List ℕ) × Consumes old new bytes × ¬ IsWithinLimit t bytes
