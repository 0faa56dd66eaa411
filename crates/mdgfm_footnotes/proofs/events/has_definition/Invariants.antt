use Rattle.std.proofs.Common.{◌≡◌, ◌-◌, ◌≤◌, drop, length}
use Rattle.markdown_base.specs.declared.event.Name.TheVariants.{GfmFootnoteDefinitionLabelString}
use Rattle.std.specs.List.{list_any}
use Rattle.mdgfm_footnotes.specs.CallEvents.{enters}
use Rattle.mdgfm_footnotes.proofs.events.has_definition.Given as goal

-- none was passed
abbrev pub invariant-loop-at : goal.invariant-loop-at
invariant-loop-at l = record {
  same : list_any (enters GfmFootnoteDefinitionLabelString) (drop l.at l.events) ≡ list_any (enters GfmFootnoteDefinitionLabelString) l.events;
  room : l.at ≤ length l.events;
}

abbrev pub decreases-loop-at : goal.decreases-loop-at
decreases-loop-at l = length l.events - l.at
