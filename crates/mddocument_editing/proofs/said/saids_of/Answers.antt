use Rattle.mddocument_editing.proofs.Prelude.{sym, ◌∙◌}
use Rattle.mddocument_editing.proofs.AnyOf.{none-said}
use Rattle.mddocument_editing.proofs.said.saids_of.Goals as goal

pub returns-then-not-define : goal.returns-then-not-define
returns-then-not-define c = c.new.ensures ∙ sym (none-said c.args.bytes.now c.args.events.now (sym c.define.ensures ∙ c.if-not-define.true))
