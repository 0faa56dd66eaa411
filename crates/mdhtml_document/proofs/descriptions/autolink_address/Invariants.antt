use Rattle.std.proofs.Common.{◌≡◌, drop}
use Rattle.mdhtml_document.specs.Values.{autolink_address}
use Rattle.mdhtml_document.proofs.descriptions.autolink_address.Given as goal

abbrev pub invariant-loop-i : goal.invariant-loop-i
invariant-loop-i l = autolink_address l.bytes (drop l.i l.events) ≡ autolink_address l.bytes l.events
