-- Inner: what is in front of a section, for private functions.
use Rattle.std.specs.Prelude.{◌≡◌, ◌<◌, ◌^◌, List, length}
use Rattle.std.specs.List.{sum_by}
use Rattle.markdown_base.specs.declared.event.Event.{Event}
use Rattle.mddocument_parts.specs.Moved.{moved_event}
use Rattle.mddocument_parts.specs.Sections.{document_of}
use Rattle.mddocument_editing.specs.declared.moved.Front.{Front}
use Rattle.mddocument_editing.specs.declared.section.Section.{Section}
use Rattle.mddocument_editing.specs.Kept.{bytes_of_sections}

-- its numbers are so small that those of a packed event can be added
pub record IsSmall (front : Front) : Type 0 where
  pub lines : front.lines < 2 ^ 63
  pub bytes : front.bytes < 2 ^ 63
  pub events : front.events < 2 ^ 63

-- these sections are in front
pub record IsFrontOf (sections : List Section) (front : Front) : Type 0 where
  pub lines : front.lines ≡ sum_by (λ section. section.lines) sections
  pub bytes : front.bytes ≡ length (document_of (bytes_of_sections sections))
  pub events : front.events ≡ sum_by (λ section. length section.events) sections
  pub small : IsSmall front

-- an event of a section, as one of the document
abbrev pub moved_by : Front → Event → Event
moved_by front event = moved_event front.lines front.bytes front.events event
