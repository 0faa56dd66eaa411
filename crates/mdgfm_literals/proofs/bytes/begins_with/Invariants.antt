use Rattle.std.proofs.Common.{◌≡◌, drop}
use Rattle.mdgfm_literals.specs.Bytes.{begins_with}
use Rattle.mdgfm_literals.proofs.bytes.begins_with.Given as goal

abbrev pub invariant-loop-n : goal.invariant-loop-n
invariant-loop-n l = begins_with l.word l.text ≡ begins_with (drop l.n l.word) (drop l.n l.text)
