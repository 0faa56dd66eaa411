use Rattle.std.proofs.Common.{◌≡◌, ◌++◌, drop}
use Rattle.mdexamples.specs.Linter.{missing_languages}
use Rattle.mdexamples.proofs.linter.report_missing_languages.Given as goal

abbrev pub invariant-loop-fence : goal.invariant-loop-fence
invariant-loop-fence l = l.found.items ++ missing_languages (drop l.fence-index l.fences) ≡ l.fn.found.items ++ missing_languages l.fences
