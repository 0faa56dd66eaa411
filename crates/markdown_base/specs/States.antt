-- States that are final: the text was read, or the document is refused.
use Rattle.markdown_base.specs.declared.state.State.{State}
use Rattle.markdown_base.specs.declared.state.State.TheVariants.{Error, Next, Retry, Ok, Nok}

-- the state is Ok or Error: the construct is there, or the document is refused
abbrev pub IsOkOrError : State → Type 0
IsOkOrError (Error m) = Unit {0}
IsOkOrError (Next n) = ⊥
IsOkOrError (Retry n) = ⊥
IsOkOrError Ok = Unit {0}
IsOkOrError Nok = ⊥
