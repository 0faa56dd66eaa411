use Rattle.markdown_edits.proofs.Prelude.{[], ◌∙◌, false, sym, edit_at}
use Rattle.markdown_edits.proofs.Edits.Puts.{IsAscending-pushed, added-pushed, IsAscending-first}
use Rattle.markdown_edits.proofs.edit_map.EditMap.add_copies.Goals as goal

pub is_last-requires : goal.is_last-requires
is_last-requires c = IsAscending-first c.self.inside.front c.self.inside.behind c.self.invariant

pub invariant_of-self-then-is_last : goal.invariant_of-self-then-is_last
invariant_of-self-then-is_last c =
    IsAscending-pushed false c.self.inside.front c.self.inside.behind _ [] (edit_at c.args.index c.args.remove c.args.additions.now) c.in_ok-push.ensures.ok
    (c.is_last.ensures.none c.if-is_last.true) (c.is_last.ensures.all c.if-is_last.true) c.self.invariant

pub returns-then-is_last-clause-ok : goal.returns-then-is_last-clause-ok
returns-then-is_last-clause-ok c =
    added-pushed false c.self.inside.front c.self.inside.behind _ _ (edit_at c.args.index c.args.remove c.args.additions.now) c.in_ok-push.ensures.ok
    (c.is_last.ensures.none c.if-is_last.true) (c.is_last.ensures.all c.if-is_last.true) c.self.view_is (sym c.is_nothing.ensures ∙ c.if-is_nothing.false)
