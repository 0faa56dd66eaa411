-- What the program writes.
use Rattle.std.specs.Prelude.{◌≡◌, ℕ, List, Option}
use Rattle.markdown.specs.declared.event.Event.{Event}
use Rattle.mdevents_program.specs.declared.choice.Choice.{Choice}
use Rattle.mdevents_program.specs.Choices.{AreEventsBy}
use Rattle.mdevents_program.specs.Printed.{printed_events}
use Rattle.mdprograms.specs.Input.{IsReadToEnd}

-- What was read to its end has these printed events
pub record ArePrintedEvents (choice : Choice) (old new : Option (List ℕ)) (text : List ℕ) : Type 0 where
  pub bytes : List ℕ
  pub read : IsReadToEnd choice.tab old new bytes
  pub events : List Event
  pub are : AreEventsBy choice bytes events
  pub lines : text ≡ printed_events events
