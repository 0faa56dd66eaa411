use Rattle.markdown_tokenizer.proofs.Prelude.{refl}
use Rattle.markdown_tokenizer.proofs.Inside.Spans.{entered-sound, entered-seen, entered-here, roomy-sound}
use Rattle.markdown_tokenizer.proofs.tokenizer.Tokenizer.enter_slow.Goals as goal

pub invariant_of-self : goal.invariant_of-self
invariant_of-self g c = roomy-sound c.self.inside c.self.invariant c.make_room.new.events c.self.inside.stack c.make_room.ensures.items refl

pub invariant_of-self-in_err-reserve : goal.invariant_of-self-in_err-reserve
invariant_of-self-in_err-reserve g c = roomy-sound c.self.inside c.self.invariant c.make_room.new.events c.reserve.new.self c.make_room.ensures.items c.reserve.ensures.items

pub invariant_of-self-2 : goal.invariant_of-self-2
invariant_of-self-2 g c =
    let here = entered-here c.self.inside _ _ _ refl c.standing-place.ensures c.shown-point.ensures in
    entered-sound c.self.inside c.self.invariant c.args.name c.args.link c.shown-point.result here
    c.put_enter.new.events c.put_enter.new.stack (rw c.in_ok-make_room.ensures.items at c.put_enter.ensures.events) (rw c.in_ok-reserve.ensures.items at c.put_enter.ensures.stack)

pub returns-clause-ok : goal.returns-clause-ok
returns-clause-ok g c =
    let here = entered-here c.self.inside _ _ _ refl c.standing-place.ensures c.shown-point.ensures in
    rw (← c.self.view_is) (entered-seen c.self.inside c.self.invariant c.args.name c.args.link c.shown-point.result here
    c.put_enter.new.events c.put_enter.new.stack (rw c.in_ok-make_room.ensures.items at c.put_enter.ensures.events) (rw c.in_ok-reserve.ensures.items at c.put_enter.ensures.stack))
