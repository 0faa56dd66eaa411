use Rattle.markdown_tokenizer.proofs.Prelude.{refl, ◌∙◌}
use Rattle.markdown_tokenizer.proofs.Inside.Steps.{byte-waits, consumed-sound, consumed-seen, told-fits, told-moved, unmoved}
use Rattle.markdown_tokenizer.proofs.tokenizer.Tokenizer.consume_known.Goals as goal

pub step-requires : goal.step-requires
step-requires g c =
    let e = rw (← c.self.view_is) at c.requires in
    record { fits = told-fits c.self.inside c.self.invariant (byte-waits c.self.inside c.self.invariant e) e }

pub invariant_of-self : goal.invariant_of-self
invariant_of-self g c =
    let t = c.self.inside in let sound = c.self.invariant in
    let e = rw (← c.self.view_is) at c.requires in
    let w = byte-waits t sound e in
    let m = c.in-Some.ensures.moved in
    consumed-sound t sound w c.step.new.point (m.place ∙ told-moved t sound w e m.told) c.in-Some.plain_until m.is_plain_until

pub returns-in-Some : goal.returns-in-Some
returns-in-Some g c =
    let t = c.self.inside in let sound = c.self.invariant in
    let e = rw (← c.self.view_is) at c.requires in
    let w = byte-waits t sound e in
    let m = c.in-Some.ensures.moved in
    rw (← c.self.view_is) (consumed-seen t sound w c.step.new.point (m.place ∙ told-moved t sound w e m.told))

-- nothing has moved
pub invariant_of-self-in-None : goal.invariant_of-self-in-None
invariant_of-self-in-None g c = unmoved c.self.inside c.self.invariant c.step.new.point (c.in-None.ensures.same refl)
