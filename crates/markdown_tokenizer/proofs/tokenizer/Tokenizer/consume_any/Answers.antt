use Rattle.markdown_tokenizer.proofs.Prelude.{ℕ, refl, sym, subst, IsSeatAt}
use Rattle.markdown_tokenizer.proofs.Inside.Steps.{byte-waits, consumed-sound, consumed-seen, place-at, seat-at}
use Rattle.markdown_tokenizer.proofs.tokenizer.Tokenizer.consume_any.Goals as goal

pub pass-requires-clause-place : goal.pass-requires-clause-place
pass-requires-clause-place g c = let tab = c.self.invariant.placed.tab in rw tab (place-at c.self.inside c.self.invariant _ _ refl c.resume.ensures)

pub invariant_of-self : goal.invariant_of-self
invariant_of-self g c =
    let t = c.self.inside in let sound = c.self.invariant in
    let w = byte-waits t sound (rw (← c.self.view_is) at c.requires) in
    let tab = sound.placed.tab in
    consumed-sound t sound w c.pass.new.point (c.pass.ensures w.seat (subst (λ (n : ℕ). IsSeatAt n t.parse_state.now.bytes.now c.resume.new.place w.seat) (sym tab) (seat-at t sound _ _ w.seat refl c.resume.ensures w.at))) c.plain_until-self-inside.result c.plain_until-self-inside.ensures

pub returns : goal.returns
returns g c =
    let t = c.self.inside in let sound = c.self.invariant in
    let w = byte-waits t sound (rw (← c.self.view_is) at c.requires) in
    let tab = sound.placed.tab in
    rw (← c.self.view_is) (consumed-seen t sound w c.pass.new.point (c.pass.ensures w.seat (subst (λ (n : ℕ). IsSeatAt n t.parse_state.now.bytes.now c.resume.new.place w.seat) (sym tab) (seat-at t sound _ _ w.seat refl c.resume.ensures w.at))))
