use Rattle.std.proofs.Common.{ap, ◌∙◌}
use Rattle.std.specs.Prelude.{◌==◌}
use Rattle.mdblock_containers.specs.Rows.{has_none, is_lazily}
use Rattle.mdblock_containers.specs.Views.{before_of}
use Rattle.mdblock_containers.proofs.rows.row_with.Goals as goal

pub returns-clause-is_lazy : goal.returns-clause-is_lazy
returns-clause-is_lazy g c =
    c.is_lazily-is_lazy.ensures.value
    ∙ (λ k. is_lazily c.args.on.now (before_of c.args.before.now) (c.args.going.many == c.args.before.now.depth) ((c.has_none-none_begins.ensures ∙ ap has_none c.as_slice.ensures.value) k) (c.behind-rest.ensures.value k))
