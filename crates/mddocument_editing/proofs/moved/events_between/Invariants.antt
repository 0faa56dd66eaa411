use Rattle.mddocument_editing.proofs.Prelude.{◌≡◌, map, take, part_events, events_of_sections, moved_by, bytes_of_sections, knows}
use Rattle.mddocument_editing.proofs.SectionEvents.{IsBehind}
use Rattle.mddocument_editing.proofs.moved.events_between.Given as goal

abbrev pub invariant-loop-section : goal.invariant-loop-section
invariant-loop-section l =
    let read = part_events l.kept.options (knows l.kept.known) in
    let passed = take l.section-index l.wanted in
    record {
      front : IsBehind read l.initial.front passed l.front;
      events : l.events.items ≡ map (moved_by l.initial.front) (events_of_sections read (bytes_of_sections passed));
    }
