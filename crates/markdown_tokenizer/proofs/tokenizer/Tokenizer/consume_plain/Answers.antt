use Rattle.markdown_tokenizer.proofs.Prelude.{◌≡◌, ◌∙◌, ap, sym, Moves, Plain, Other, moved}
use Rattle.markdown_tokenizer.proofs.Inside.Known.{plain-on}
use Rattle.markdown_tokenizer.proofs.Inside.Steps.{byte-waits, consumed-sound, consumed-seen, told-fits, told-moved}
use Rattle.markdown_tokenizer.proofs.tokenizer.Tokenizer.consume_plain.Goals as goal

pub pass_plain-requires-clause-column : goal.pass_plain-requires-clause-column
pass_plain-requires-clause-column g c =
    let e = rw (← c.self.view_is) at c.requires in
    (told-fits c.self.inside c.self.invariant (byte-waits c.self.inside c.self.invariant e) e (λ k. let f : Plain ≡ Other = sym c.in-Plain.is ∙ k in cc)).column

pub invariant_of-self : goal.invariant_of-self
invariant_of-self g c =
    let t = c.self.inside in let sound = c.self.invariant in
    let e = rw (← c.self.view_is) at c.requires in
    let w = byte-waits t sound e in
    let moves = ap (λ (m : Moves). moved m t.after_previous) (sym c.in-Plain.is) ∙ told-moved t sound w e (λ k. let f : Plain ≡ Other = sym c.in-Plain.is ∙ k in cc) in
    consumed-sound t sound w c.pass_plain.new.point (c.pass_plain.ensures ∙ moves) t.plain_until
    (rw c.pass_plain.ensures (plain-on t.skips t.after_previous t.end.0 t.plain_until sound.known.is_plain_until.before sound.placed.read.place.bounds.first))

pub returns-in-Plain-clause-done : goal.returns-in-Plain-clause-done
returns-in-Plain-clause-done g c =
    let t = c.self.inside in let sound = c.self.invariant in
    let e = rw (← c.self.view_is) at c.requires in
    let w = byte-waits t sound e in
    let moves = ap (λ (m : Moves). moved m t.after_previous) (sym c.in-Plain.is) ∙ told-moved t sound w e (λ k. let f : Plain ≡ Other = sym c.in-Plain.is ∙ k in cc) in
    rw (← c.self.view_is) (consumed-seen t sound w c.pass_plain.new.point (c.pass_plain.ensures ∙ moves))
