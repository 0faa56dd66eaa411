use Rattle.std.proofs.Common.{◌≡◌, ◌+◌, ◌*◌, ◌≤◌, ◌++◌, List, length, drop, map}
use Rattle.markdown_base.specs.Virtual.{Seat}
use Rattle.mdblock_leaf_blocks.specs.LeafBlocks.{bytes_of}
use Rattle.mdblock_leaf_blocks.specs.LineKinds.{indent}
use Rattle.mdblock_lines.specs.Lines.{place_after}
use Rattle.mdblock_containers.specs.Prefixes.{going_on, columns_of}
use Rattle.mdblock_containers.specs.SeatPlaces.{AreSeatsAt, events_of}
use Rattle.mdblock_containers.specs.Skeleton.{prefixes_marks}
use Rattle.mdblock_containers.specs.Views.{open_of}
use Rattle.mdblock_containers.proofs.prefixes.going_prefixes.Given as goal

abbrev pub invariant-loop-entry : goal.invariant-loop-entry
invariant-loop-entry g l = record {
  marks : (seats : List Seat) → AreSeatsAt l.tab l.bytes l.fn.start seats → l.t ≡ bytes_of seats
      → l.events.items ++ events_of (prefixes_marks l.bytes (going_on (map open_of (drop l.entry-index l.stack)) l.number (drop l.at l.t)) (drop l.at seats))
      ≡ l.initial.events.items ++ events_of (prefixes_marks l.bytes (going_on (map open_of l.stack) l.number l.t) seats);
  columns : columns_of (going_on (map open_of l.stack) l.number l.t) ≡ l.at + columns_of (going_on (map open_of (drop l.entry-index l.stack)) l.number (drop l.at l.t));
  within : l.at ≤ length l.t;
  few : l.entry-index ≤ l.at;
  turns : l.turns ≤ l.fn.turns + 1 + l.first + 2 * l.at + l.entry-index;
  first : l.first ≡ l.at + indent (drop l.at l.t);
  place : l.place ≡ place_after l.tab l.bytes l.fn.start l.at;
}
