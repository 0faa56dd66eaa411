use Rattle.markdown_tokenizer.proofs.Prelude.{refl}
use Rattle.markdown_tokenizer.proofs.Inside.Spans.{exited-at-sound, exited-at-seen, roomy-sound}
use Rattle.markdown_tokenizer.proofs.tokenizer.Tokenizer.exit_at.Goals as goal

pub invariant_of-self : goal.invariant_of-self
invariant_of-self g c = roomy-sound c.self.inside c.self.invariant c.with_room.new.events c.self.inside.stack c.with_room.ensures.items refl

pub invariant_of-self-2 : goal.invariant_of-self-2
invariant_of-self-2 g c =
    exited-at-sound c.self.inside c.self.invariant c.args.point (rw (← c.self.view_is) at c.requires.noted) c.args.name (rw (← c.self.view_is) at c.requires.ends)
    c.put_exit.new.events c.put_exit.new.stack (rw c.in_ok-with_room.ensures.items at c.put_exit.ensures.events) c.put_exit.ensures.stack

pub returns-clause-ok : goal.returns-clause-ok
returns-clause-ok g c =
    rw (← c.self.view_is) (exited-at-seen c.self.inside c.self.invariant c.args.point (rw (← c.self.view_is) at c.requires.noted) c.args.name (rw (← c.self.view_is) at c.requires.ends)
    c.put_exit.new.events c.put_exit.new.stack (rw c.in_ok-with_room.ensures.items at c.put_exit.ensures.events) c.put_exit.ensures.stack)
