use Rattle.std.proofs.Common.{◌≡◌, ◌-◌, ◌≤◌, ◌++◌, drop, take, length}
use Rattle.mdhtml_markup.specs.Addresses.{written_address}
use Rattle.mdhtml_markup.proofs.addresses.push_address.Given as goal

-- what was added, what waits, and what is to come
abbrev pub invariant-loop-at : goal.invariant-loop-at
invariant-loop-at l = record {
  same : l.out.items ++ (drop l.from (take l.at l.url) ++ written_address (drop l.at l.url)) ≡ l.initial.out.items ++ written_address l.url;
  order : l.from ≤ l.at;
  room : l.at ≤ length l.url;
}

abbrev pub decreases-loop-at : goal.decreases-loop-at
decreases-loop-at l = length l.url - l.at
