use Rattle.markdown_tokenizer.proofs.Prelude.{◌≡◌, ◌∙◌, refl, ap, inl, inr, Some, None, Other, state_of, answer_of, progress_at}
use Rattle.markdown_tokenizer.proofs.Inside.GoingOn.{IsUnwound, kept-within, none-by, takes-ended, unwound-by, next-there, within-there, byte-sound, quick-place, quick-next, quick-sound, end-sound, none-sound, ended-sound, closes, takes-byte, takes-end, takes-none, takes-ok, takes-nok}
use Rattle.markdown_tokenizer.proofs.Inside.Steps.{end-inside}
use Rattle.markdown_tokenizer.proofs.tokenizer.Tokenizer.go_on.Given.{Over}
use Rattle.markdown_tokenizer.proofs.tokenizer.Tokenizer.go_on.Goals.{After-plain_until-self-inside, then-ok, else-ok}
use Rattle.markdown_tokenizer.proofs.tokenizer.Tokenizer.go_on.Goals as goal

-- the choices that ended
ended : (g : Over) (c : After-plain_until-self-inside g)
    → let u = c.unwind-continuation.new in
    IsUnwound c.self.inside c.args.ok u.kept_choices c.unwind-continuation.result (progress_at u.after_previous u.previous u.ended u.events.items u.stack.items) u.events u.stack c.plain_until-self-inside.result
ended g c =
    let t = c.self.inside in let u = c.unwind-continuation in
    unwound-by t c.args.ok u.new.kept_choices u.result u.new.after_previous u.new.previous u.new.ended u.new.events u.new.stack c.plain_until-self-inside.result
    _ _ c.is_empty.ensures c.if-is_empty.false t.kept_choices.ok.0 u.ensures.ends u.ensures.events u.ensures.stack c.plain_until-self-inside.ensures

pub unwind-continuation-requires : goal.unwind-continuation-requires
unwind-continuation-requires g c = record { within = kept-within c.self.inside c.self.invariant }

pub returns-then-is_empty : goal.returns-then-is_empty
returns-then-is_empty g c =
    let t = c.self.inside in
    let none = none-by t.kept_choices.items _ _ c.is_empty.ensures c.if-is_empty.true t.kept_choices.ok.0 in
    let answer : state_of c.if-ok.last ≡ answer_of c.args.ok = (elim c.if-ok.branch [
      | then-ok w ↦ (let e = w.if-ok.true in rw e (ap state_of w.last-is))
      | else-ok w ↦ (let e = w.if-ok.false in rw e (ap state_of w.last-is))
    ]) in
    rw (← c.self.view_is) (takes-ended c.args.flush _ c.args.ok (state_of c.if-ok.last) (rw none refl) answer)

pub invariant_of-self : goal.invariant_of-self
invariant_of-self g c =
    let h = ended g (goal.at.invariant_of-self g c).After-plain_until-self-inside in
    ended-sound c.self.inside c.self.invariant h (closes c.self.inside c.self.invariant h (rw (← c.self.view_is) at c.requires.ends) (inl c.in-Ok.is))

pub returns-in-Ok : goal.returns-in-Ok
returns-in-Ok g c = rw (← c.self.view_is) (takes-ok c.self.inside c.self.invariant (ended g (goal.at.returns-in-Ok g c).After-plain_until-self-inside) c.args.flush c.in-Ok.is)

pub invariant_of-self-in-Nok : goal.invariant_of-self-in-Nok
invariant_of-self-in-Nok g c =
    let h = ended g (goal.at.invariant_of-self-in-Nok g c).After-plain_until-self-inside in
    ended-sound c.self.inside c.self.invariant h (closes c.self.inside c.self.invariant h (rw (← c.self.view_is) at c.requires.ends) (inr c.in-Nok.is))

pub returns-in-Nok : goal.returns-in-Nok
returns-in-Nok g c = rw (← c.self.view_is) (takes-nok c.self.inside c.self.invariant (ended g (goal.at.returns-in-Nok g c).After-plain_until-self-inside) c.args.flush c.in-Nok.is)

pub next_byte_from-requires : goal.next_byte_from-requires
next_byte_from-requires g c = record { within = within-there c.self.inside c.self.invariant (ended g (goal.at.next_byte_from-requires g c).After-plain_until-self-inside) _ _ refl refl }

pub quick_byte-next-requires-clause-place : goal.quick_byte-next-requires-clause-place
quick_byte-next-requires-clause-place g c = quick-place c.self.inside c.self.invariant (ended g (goal.at.quick_byte-next-requires-clause-place g c).After-plain_until-self-inside)

pub quick_byte-next-requires-clause-inside : goal.quick_byte-next-requires-clause-inside
quick_byte-next-requires-clause-inside g c = rw c.self.invariant.known.own_bytes (end-inside c.self.inside c.self.invariant)

-- a byte that is told by the one at its index
pub invariant_of-self-in-Some : goal.invariant_of-self-in-Some
invariant_of-self-in-Some g c =
    quick-sound c.self.inside c.self.invariant (ended g (goal.at.invariant_of-self-in-Some g c).After-plain_until-self-inside) c.in-Some.byte c.in-Some.moves c.in-Some.ensures

pub returns-in-Some : goal.returns-in-Some
returns-in-Some g c =
    let t = c.self.inside in let sound = c.self.invariant in let h = ended g (goal.at.returns-in-Some g c).After-plain_until-self-inside in
    rw (← c.self.view_is) (takes-byte t sound h c.args.flush c.in-Next.name c.in-Some.byte c.in-Some.moves c.in-Next.is (quick-next t sound h c.in-Some.byte c.in-Some.moves c.in-Some.ensures))

-- one that is looked for
pub invariant_of-self-in-Some-next_byte_from : goal.invariant_of-self-in-Some-next_byte_from
invariant_of-self-in-Some-next_byte_from g c =
    let h = ended g (goal.at.invariant_of-self-in-Some-next_byte_from g c).After-plain_until-self-inside in
    let b = c.in-Some-next_byte_from in
    byte-sound c.self.inside c.self.invariant h b.byte (next-there c.self.inside c.self.invariant h _ _ (Some b.byte) refl refl b.ensures)

pub invariant_of-self-then-flush : goal.invariant_of-self-then-flush
invariant_of-self-then-flush g c =
    let t = c.self.inside in let sound = c.self.invariant in let h = ended g (goal.at.invariant_of-self-then-flush g c).After-plain_until-self-inside in
    end-sound t sound h (next-there t sound h _ _ None refl refl c.in-None-next_byte_from.ensures) ((rw (← c.self.view_is) at c.requires.closed) ∙ c.if-flush.true)

pub invariant_of-self-else-flush : goal.invariant_of-self-else-flush
invariant_of-self-else-flush g c =
    let t = c.self.inside in let sound = c.self.invariant in let h = ended g (goal.at.invariant_of-self-else-flush g c).After-plain_until-self-inside in
    none-sound t sound h (next-there t sound h _ _ None refl refl c.in-None-2.ensures) ((rw (← c.self.view_is) at c.requires.closed) ∙ c.if-flush.false)

pub returns-in-Some-next_byte_from : goal.returns-in-Some-next_byte_from
returns-in-Some-next_byte_from g c =
    let t = c.self.inside in let sound = c.self.invariant in let h = ended g (goal.at.returns-in-Some-next_byte_from g c).After-plain_until-self-inside in
    let b = c.in-Some-next_byte_from in
    rw (← c.self.view_is) (takes-byte t sound h c.args.flush c.in-Next.name b.byte Other c.in-Next.is (next-there t sound h _ _ (Some b.byte) refl refl b.ensures))

pub returns-in-None-next_byte_from : goal.returns-in-None-next_byte_from
returns-in-None-next_byte_from g c =
    let t = c.self.inside in let sound = c.self.invariant in let h = ended g (goal.at.returns-in-None-next_byte_from g c).After-plain_until-self-inside in
    rw (← c.self.view_is) (takes-end t sound h c.args.flush c.in-Next.name c.in-Next.is c.if-flush.true (next-there t sound h _ _ None refl refl c.in-None-next_byte_from.ensures))

pub returns-in-None-2 : goal.returns-in-None-2
returns-in-None-2 g c =
    let t = c.self.inside in let sound = c.self.invariant in let h = ended g (goal.at.returns-in-None-2 g c).After-plain_until-self-inside in
    rw (← c.self.view_is) (takes-none t sound h c.args.flush c.in-Next.name c.in-Next.is c.if-flush.false (next-there t sound h _ _ None refl refl c.in-None-2.ensures))
