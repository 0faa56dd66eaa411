use Rattle.std.proofs.Common.{◌≡◌, ◌≤◌, ◌+◌, ◌*◌, ◌++◌, take, drop}
use Rattle.std.specs.List.{flat_map}
use Rattle.mdblock_containers.specs.Costs.{columns_in}
use Rattle.mdblock_containers.specs.Letters.{lazy_underline}
use Rattle.mdblock_containers.proofs.LazyLemmas.{HasLeft}
use Rattle.mdblock_containers.proofs.skeleton.letters_of.Given as goal

abbrev pub invariant-loop-at : goal.invariant-loop-at
invariant-loop-at g l = record {
  left : HasLeft l.tab l.bytes (drop l.at-index l.rows) (drop l.at-index g.all);
  letters : l.letters.items ++ flat_map (lazy_underline l.on) (drop l.at-index g.all) ≡ flat_map (lazy_underline l.on) g.all;
  turns : l.turns ≤ l.fn.turns + 9 * columns_in (take l.at-index l.rows);
}
