use Rattle.mddocument_editing.proofs.Prelude.{◌≡◌, map, take}
use Rattle.mddocument_editing.specs.PackedEvents.{unpacked}
use Rattle.mddocument_editing.proofs.packed.pack_all.Given as goal

abbrev pub invariant-loop-event : goal.invariant-loop-event
invariant-loop-event l = map unpacked l.packed.items ≡ take l.event-index l.events
