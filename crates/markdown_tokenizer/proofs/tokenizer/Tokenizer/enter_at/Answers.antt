use Rattle.markdown_tokenizer.proofs.Prelude.{refl}
use Rattle.markdown_tokenizer.proofs.Inside.Spans.{entered-at-sound, entered-at-seen, roomy-sound}
use Rattle.markdown_tokenizer.proofs.tokenizer.Tokenizer.enter_at.Goals as goal

pub invariant_of-self : goal.invariant_of-self
invariant_of-self g c = roomy-sound c.self.inside c.self.invariant c.with_room.new.events c.self.inside.stack c.with_room.ensures.items refl

pub invariant_of-self-in_err-reserve : goal.invariant_of-self-in_err-reserve
invariant_of-self-in_err-reserve g c = roomy-sound c.self.inside c.self.invariant c.with_room.new.events c.reserve.new.self c.with_room.ensures.items c.reserve.ensures.items

pub invariant_of-self-2 : goal.invariant_of-self-2
invariant_of-self-2 g c =
    entered-at-sound c.self.inside c.self.invariant c.args.point (rw (← c.self.view_is) at c.requires.noted) c.args.name
    c.put_enter.new.events c.put_enter.new.stack (rw c.in_ok-with_room.ensures.items at c.put_enter.ensures.events) (rw c.in_ok-reserve.ensures.items at c.put_enter.ensures.stack)

pub returns-clause-ok : goal.returns-clause-ok
returns-clause-ok g c =
    rw (← c.self.view_is) (entered-at-seen c.self.inside c.self.invariant c.args.point (rw (← c.self.view_is) at c.requires.noted) c.args.name
    c.put_enter.new.events c.put_enter.new.stack (rw c.in_ok-with_room.ensures.items at c.put_enter.ensures.events) (rw c.in_ok-reserve.ensures.items at c.put_enter.ensures.stack))
