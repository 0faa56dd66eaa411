use Rattle.markdown_edits.proofs.Prelude.{sym, subst, IsAscending}
use Rattle.markdown_edits.proofs.Edits.Puts.{IsAscending-first}
use Rattle.markdown_edits.proofs.edit_map.sink.Goals as goal

pub ends_before-requires : goal.ends_before-requires
ends_before-requires c = IsAscending-first c.loop-front.front c.loop-front.behind (subst IsAscending (sym c.loop-front.invariant) c.requires)
