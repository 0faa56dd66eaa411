use Rattle.std.proofs.Common.{◌≡◌, ◌+◌, ◌*◌, ◌≤◌, ◌++◌, List, length, drop}
use Rattle.markdown_base.specs.Virtual.{Seat}
use Rattle.mdblock_leaf_blocks.specs.LeafBlocks.{bytes_of}
use Rattle.mdblock_lines.specs.Lines.{place_after}
use Rattle.mdblock_containers.specs.Prefixes.{columns_of}
use Rattle.mdblock_containers.specs.SeatPlaces.{AreSeatsAt, AreInside, events_of}
use Rattle.mdblock_containers.specs.Skeleton.{begun_all}
use Rattle.mdblock_containers.specs.Views.{begun_of}
use Rattle.mdblock_containers.proofs.prefixes.begun_prefixes.Given as goal

abbrev pub invariant-loop-prefix : goal.invariant-loop-prefix
invariant-loop-prefix g l = record {
  marks : (seats : List Seat) → AreSeatsAt l.tab l.bytes l.fn.start seats → l.t ≡ bytes_of seats
      → l.events.items ++ events_of (begun_all l.bytes (begun_of l.of_list l.number (drop l.prefix-index l.begun)) (drop l.at seats))
      ≡ l.initial.events.items ++ events_of (begun_all l.bytes (begun_of l.list l.number l.begun) seats);
  columns : columns_of (begun_of l.list l.number l.begun) ≡ l.at + columns_of (begun_of l.of_list l.number (drop l.prefix-index l.begun));
  within : l.at ≤ length l.t;
  few : l.prefix-index ≤ l.at;
  turns : l.turns ≤ l.fn.turns + 2 * l.at + l.prefix-index;
  inside : AreInside (drop l.prefix-index l.begun) (drop l.at l.t);
  place : l.place ≡ place_after l.tab l.bytes l.fn.start l.at;
}
