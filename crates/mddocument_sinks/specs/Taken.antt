-- What a sink took, if it takes no more.
use Rattle.std.specs.Prelude.{◌≡◌, List, ◌++◌}
use Rattle.markdown_base.specs.declared.event.Event.{Event}

-- Behind what it took before, it took a front of these events
pub record TookFront (events before after : List Event) : Type 0 where
  pub front : List Event
  pub rest : List Event
  pub events_are : events ≡ front ++ rest
  pub took : after ≡ before ++ front
