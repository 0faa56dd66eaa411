use Rattle.std.proofs.Common.{◌≡◌, ◌-◌, ◌≤◌, drop, length}
use Rattle.std.specs.List.{list_all}
use Rattle.mdhtml_markup.specs.SafeHtml.{is_id_byte}
use Rattle.mdhtml_markup.proofs.checks.are_id_bytes.Given as goal

abbrev pub invariant-loop-at : goal.invariant-loop-at
invariant-loop-at l = record {
  same : list_all is_id_byte l.bytes ≡ list_all is_id_byte (drop l.at l.bytes);
  room : l.at ≤ length l.bytes;
}

abbrev pub decreases-loop-at : goal.decreases-loop-at
decreases-loop-at l = length l.bytes - l.at
