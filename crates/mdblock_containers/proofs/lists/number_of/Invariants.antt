use Rattle.std.proofs.Common.{◌≡◌, ◌<◌, ◌^◌, drop}
use Rattle.mdblock_containers.specs.Lists.{number_from}
use Rattle.mdblock_containers.proofs.lists.number_of.Given as goal

abbrev pub invariant-loop-digit : goal.invariant-loop-digit
invariant-loop-digit l = record {
  same : number_from l.number (drop l.digit-index l.digits) ≡ number_from 0 l.digits;
  small : l.number < 10 ^ l.digit-index;
}
