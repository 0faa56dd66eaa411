use Rattle.std.proofs.Common.{◌≡◌, ◌<◌, ℕ, false, get_or}
use Rattle.markdown_base.specs.declared.event.Event.{Event}
use Rattle.mdinline_link_strings.specs.Strings.{is_string}
use Rattle.mdinline_link_strings.proofs.names.has_string.Given as goal

-- if no test was true so far, no string begins or ends at these events
abbrev pub invariant-loop-event : goal.invariant-loop-event
invariant-loop-event l = l.any ≡ false → (d : Event) → (k : ℕ) → k < l.event-index → is_string (get_or l.events k d).name ≡ false
