-- Why a program fails.
use Rattle.std.specs.Prelude.{ℕ, List, codes, ⊤}
use Rattle.mdprograms.specs.declared.failure.Failure.{Failure}
use Rattle.mdprograms.specs.declared.failure.Failure.TheVariants.{Memory, Read, Write, TooLong, NotReady, Message}
use Rattle.markdown_base.specs.Shown.{message_text}

-- the line that a failure is shown as
abbrev pub failure_text : Failure → List ℕ
failure_text Memory = codes "out of memory"
failure_text Read = codes "cannot read input"
failure_text Write = codes "cannot write output"
failure_text TooLong = codes "input too long"
failure_text NotReady = codes "events are not ready"
failure_text (Message m) = message_text m

-- the failures of reading: memory, the reader, or the limit
abbrev pub IsOfReading : Failure → Type 0
IsOfReading Memory = ⊤
IsOfReading Read = ⊤
IsOfReading Write = ⊥
IsOfReading TooLong = ⊤
IsOfReading NotReady = ⊥
IsOfReading (Message m) = ⊥
