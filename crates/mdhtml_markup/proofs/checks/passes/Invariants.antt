use Rattle.std.proofs.Common.{◌≡◌, [], length, reverse}
use Rattle.mdhtml_markup.specs.SafeChecks.{is_safe_behind}
use Rattle.mdhtml_markup.proofs.checks.passes.Given as goal

-- what is left passes behind the open tags if the whole does
abbrev pub invariant-loop-rest : goal.invariant-loop-rest
invariant-loop-rest l = is_safe_behind [] l.html ≡ is_safe_behind (reverse l.tags.items) l.rest

abbrev pub decreases-loop-rest : goal.decreases-loop-rest
decreases-loop-rest l = length l.rest
