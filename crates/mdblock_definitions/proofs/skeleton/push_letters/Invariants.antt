use Rattle.std.proofs.Common.{◌≡◌, ◌++◌, drop, ◌≤◌, ◌+◌, ◌*◌, take}
use Rattle.std.specs.Prelude.{true}
use Rattle.mdblock_definitions.specs.Sectioned.{AreFirst, BeginsFilled, letters_in}
use Rattle.mdblock_definitions.specs.Costs.{bytes_in}
use Rattle.mdblock_definitions.proofs.skeleton.push_letters.Given as goal

abbrev pub invariant-loop-at : goal.invariant-loop-at
invariant-loop-at g l = record {
  left : AreFirst l.tab l.bytes (drop l.at-index l.rows) (drop l.at-index g.all);
  text : l.goes_first ≡ true → BeginsFilled (drop l.at-index g.all);
  turns : l.turns ≤ l.fn.turns + 10 * bytes_in l.tab l.bytes (take l.at-index l.rows);
  letters : l.letters.items ++ letters_in l.on l.goes_first (drop l.at-index g.all) ≡ l.fn.letters.items ++ letters_in l.on l.is_behind g.all;
}
