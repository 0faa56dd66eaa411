-- Choices that end, the last first, as the code keeps them. An inner file: no public clause cites it.
use Rattle.std.specs.Prelude.{ℕ, List, [], ◌∷◌, Bool, true, false, Option, None, unwrap_or, length}
use Rattle.markdown_base.specs.declared.event.Event.{Event}
use Rattle.markdown_base.specs.declared.event.Name.{Name as SpanName}
use Rattle.markdown_base.specs.declared.event.Point.{Point}
use Rattle.markdown_tokenizer.specs.View.{AreNested}
use Rattle.markdown_tokenizer.specs.declared.waiting.GoesOn.{GoesOn}
use Rattle.markdown_tokenizer.specs.declared.waiting.GoesOn.TheVariants.{Next, Ok, Nok}
use Rattle.markdown_tokenizer.specs.declared.waiting.KeptChoice.{KeptChoice}
use Rattle.markdown_tokenizer.specs.declared.waiting.Progress.{Progress}
use Rattle.markdown_tokenizer.specs.declared.waiting.AttemptKind.TheVariants.{Attempt, Check}

-- what a choice goes on with, after Ok or Nok
abbrev pub continuation_of : KeptChoice → Bool → GoesOn
continuation_of choice true = choice.ok
continuation_of choice false = choice.nok

-- what a choice puts back, after Ok or Nok
abbrev pub saved_for : KeptChoice → Bool → Option Progress
saved_for choice true = elim choice.kind [ Attempt ↦ None | Check ↦ choice.saved ]
saved_for choice false = choice.saved

-- how far a text was read, with these events and open spans
abbrev pub progress_at : Point → Option ℕ → Bool → List Event → List SpanName → Progress
progress_at after_previous previous ended events stack =
    record { after_previous = after_previous; previous = previous; ended = ended; events_len = length events; stack_len = length stack }

-- choices saved no more events and open spans than there are, and none more than the one made after it
abbrev pub AreWithin : List Event → List SpanName → List KeptChoice → Type 0
AreWithin events stack kept_choices = AreNested (λ p. Unit {0}) (length events) (length stack) kept_choices

abbrev pub ended_by : Bool → GoesOn
ended_by true = Ok
ended_by false = Nok

-- The choices that still wait, what to go on with, and from where
pub record Unwinding : Type 0 where
  pub kept_choices : List KeptChoice
  pub continuation : GoesOn
  pub from : Progress

abbrev pub unwinding : List KeptChoice → GoesOn → Progress → Unwinding
unwinding kept_choices continuation from = record { kept_choices = kept_choices; continuation = continuation; from = from }

-- choices end, the last first, until one goes on with a state, or none is left
abbrev pub unwound : List KeptChoice → GoesOn → Progress → Unwinding
unwound [] continuation from = unwinding [] continuation from
unwound (choice ∷ kept_choices) (Next name) from = unwinding (choice ∷ kept_choices) (Next name) from
unwound (choice ∷ kept_choices) Ok from = unwound kept_choices (continuation_of choice true) (unwrap_or (saved_for choice true) from)
unwound (choice ∷ kept_choices) Nok from = unwound kept_choices (continuation_of choice false) (unwrap_or (saved_for choice false) from)
