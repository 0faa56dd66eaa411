use Rattle.markdown_tokenizer.proofs.Prelude.{sym, refl, same_true, the_type, Attempt}
use Rattle.markdown_tokenizer.proofs.waiting.KeptChoice.saved_for.Goals as goal

pub returns-then-eq : goal.returns-then-eq
returns-then-eq c =
    rw (c.if-ok.true, same_true the_type tt c.args.self.now.kind Attempt (sym c.if-eq.ensures)) refl
