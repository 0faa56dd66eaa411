use Rattle.std.proofs.Common.{◌≡◌, ◌++◌, length}
use Rattle.mdhtml_markup.specs.Escapes.{kept}
use Rattle.mdhtml_markup.specs.TagFilter.{filtered}
use Rattle.mdhtml_markup.proofs.tag_filter.push_filtered.Given as goal

-- what was added, and what is to come
abbrev pub invariant-tags : goal.invariant-tags
invariant-tags l = l.out.items ++ kept (filtered l.rest) ≡ l.initial.out.items ++ kept (filtered l.html)

abbrev pub decreases-tags : goal.decreases-tags
decreases-tags l = length l.rest
