use Rattle.std.proofs.Common.{◌≡◌, ◌≤◌, ◌+◌, ◌*◌, ◌++◌, drop, length, map}
use Rattle.mdinline_labels.specs.Definitions.{definitions}
use Rattle.mdblock_containers.specs.SeatPlaces.{events_of}
use Rattle.mdblock_containers.specs.Views.{open_of}
use Rattle.mdblock_definitions.specs.Costs.{left_to_write, to_write}
use Rattle.mdblock_definitions.specs.Cursor.{IsCursor, left_at, left_from}
use Rattle.mdblock_definitions.specs.Definitions.{definitions_marks, text_of}
use Rattle.mdblock_definitions.proofs.marks.write_definitions.Given as goal

-- what is left of the text and of the definitions, and what is written of these
abbrev pub invariant-loop-definition : goal.invariant-loop-definition
invariant-loop-definition g l = record {
  cursor : IsCursor l.tab l.bytes (map open_of l.stack) l.rows l.here;
  next : l.next ≤ length l.text;
  text : drop l.next l.text ≡ text_of (left_at l.tab l.bytes (map open_of l.stack) l.rows l.here);
  defined : drop l.definition-index l.definitions ≡ definitions (drop l.next l.text);
  paid : l.turns + left_to_write l.rows l.here ≤ l.fn.turns + to_write l.fn.begin.columns l.rows + 4 * l.definition-index;
  events : l.events.items ++ events_of (definitions_marks l.bytes (drop l.definition-index l.definitions) (left_at l.tab l.bytes (map open_of l.stack) l.rows l.here))
      ≡ l.initial.events.items ++ events_of (definitions_marks l.bytes l.definitions (left_from l.tab l.bytes (map open_of l.stack) l.fn.begin.columns l.rows));
}
