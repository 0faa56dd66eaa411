use Rattle.mddocument_editing.proofs.Prelude.{sym, ◌∙◌}
use Rattle.mddocument_editing.proofs.SettledBytes.{ending-settled, settled-more}
use Rattle.mddocument_editing.proofs.recut.is_settled_by.Goals as goal

pub returns-then-some_stay : goal.returns-then-some_stay
returns-then-some_stay c is more some = ending-settled c.args.bytes.now more (sym c.has_ending.ensures ∙ is) (some c.if-some_stay.true)

pub returns-else-some_stay : goal.returns-else-some_stay
returns-else-some_stay c is more some = settled-more c.args.bytes.now more (sym c.is_settled.ensures ∙ is)
