-- What was read stays: events before the outermost choice that waits, but for the ends of their links.
use Rattle.std.specs.Prelude.{ℕ, List, [], All, take}
use Rattle.markdown_base.specs.declared.state.State.{State}
use Rattle.markdown_base.specs.Events.{HasFrontUpToLinkEnds}
use Rattle.markdown_tokenizer.specs.Text.{Given, Text, IsText}
use Rattle.markdown_tokenizer.specs.Configuration.{Configuration, Choice}
use Rattle.markdown_tokenizer.specs.Reading.{Reading, EndsIn}
use Rattle.markdown_tokenizer.specs.Rules.{Rules}
use Rattle.markdown_tokenizer.specs.Lawful.{SavesEvents}

module _ {R D : Type 0} (g : Given) (rules : Rules R D) where
  -- The events before the outermost waiting choice are final, up to the ends of their links: the first n of them stay until the reading
  -- ends, if each choice that waits saved at least n
  abbrev pub StayBeforeChoices : Type 0
  StayBeforeChoices = (text : Text) (calls : ℕ) (k : Configuration R D) (choices : List Choice) (state : State) (r : Reading R D) (n : ℕ)
      → IsText g text → rules.holds text k choices state → All (SavesEvents n) choices → EndsIn g rules.step text calls k choices state r
      → HasFrontUpToLinkEnds r.configuration.events (take n k.events)

  -- with no choice waiting, all events stay so
  abbrev pub WhatWasReadStays : Type 0
  WhatWasReadStays = (text : Text) (calls : ℕ) (k : Configuration R D) (state : State) (r : Reading R D)
      → IsText g text → rules.holds text k [] state → EndsIn g rules.step text calls k [] state r
      → HasFrontUpToLinkEnds r.configuration.events k.events
