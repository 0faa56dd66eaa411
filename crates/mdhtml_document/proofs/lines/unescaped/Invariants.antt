use Rattle.std.proofs.Common.{◌≡◌, ◌++◌, length}
use Rattle.mdhtml_document.specs.Values.{unescaped}
use Rattle.mdhtml_document.proofs.lines.unescaped.Given as goal

abbrev pub invariant-bytes : goal.invariant-bytes
invariant-bytes l = l.out.items ++ unescaped l.rest ≡ unescaped l.text

abbrev pub decreases-bytes : goal.decreases-bytes
decreases-bytes l = length l.rest
