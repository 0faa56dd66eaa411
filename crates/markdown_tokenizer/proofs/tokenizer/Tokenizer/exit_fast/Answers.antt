use Rattle.markdown_tokenizer.proofs.Inside.Spans.{exited-sound, exited-seen}
use Rattle.markdown_tokenizer.proofs.Inside.Steps.{after-byte}
use Rattle.markdown_tokenizer.proofs.tokenizer.Tokenizer.exit_fast.Goals as goal

pub shown_after-point-requires : goal.shown_after-point-requires
shown_after-point-requires g c = record { after = after-byte c.self.inside c.self.invariant c.is_some.result c.is_some.ensures }

pub invariant_of-self : goal.invariant_of-self
invariant_of-self g c =
    let can = rw (← c.self.view_is) at c.requires in
    exited-sound c.self.inside c.self.invariant c.args.name can c.shown_after-point.result c.shown_after-point.ensures c.put_exit.new.events c.put_exit.new.stack c.put_exit.ensures.events c.put_exit.ensures.stack

pub returns-clause-done : goal.returns-clause-done
returns-clause-done g c =
    let can = rw (← c.self.view_is) at c.requires in
    rw (← c.self.view_is) (exited-seen c.self.inside c.self.invariant c.args.name can c.shown_after-point.result c.shown_after-point.ensures c.put_exit.new.events c.put_exit.new.stack c.put_exit.ensures.events c.put_exit.ensures.stack)
