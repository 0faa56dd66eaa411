use Rattle.markdown_tokenizer.proofs.Prelude.{◌∙◌, sym, ap, Point, is_after_pair}
use Rattle.markdown_tokenizer.proofs.Inside.Changes.{passes, passed-nothing, passed-behind, added-sound, added-seen}
use Rattle.markdown_tokenizer.proofs.tokenizer.Tokenizer.define_skip.Goals as goal

pub push-requires : goal.push-requires
push-requires g c =
    let t = c.self.inside in let sound = c.self.invariant in
    let fits = rw (← c.self.view_is) at c.requires in
    passed-behind t sound c.args.point fits (passes t sound c.args.point fits (ap (λ (p : Point). is_after_pair p t.end) (sym c.shown.ensures) ∙ sym c.is_after.ensures ∙ c.if-is_after.true))

pub invariant_of-self-then-is_after : goal.invariant_of-self-then-is_after
invariant_of-self-then-is_after g c =
    let t = c.self.inside in let sound = c.self.invariant in
    let fits = rw (← c.self.view_is) at c.requires in
    let is = passes t sound c.args.point fits (ap (λ (p : Point). is_after_pair p t.end) (sym c.shown.ensures) ∙ sym c.is_after.ensures ∙ c.if-is_after.true) in
    added-sound t sound c.args.point fits is c.push.new.self c.in_ok-push.ensures.ok

pub returns-in_ok-push-clause-ok : goal.returns-in_ok-push-clause-ok
returns-in_ok-push-clause-ok g c =
    let t = c.self.inside in let sound = c.self.invariant in
    let fits = rw (← c.self.view_is) at c.requires in
    let is = passes t sound c.args.point fits (ap (λ (p : Point). is_after_pair p t.end) (sym c.shown.ensures) ∙ sym c.is_after.ensures ∙ c.if-is_after.true) in
    rw (← c.self.view_is) (added-seen t sound c.args.point fits is c.push.new.self c.in_ok-push.ensures.ok)

pub returns-else-is_after-clause-ok : goal.returns-else-is_after-clause-ok
returns-else-is_after-clause-ok g c =
    rw (← c.self.view_is) (passed-nothing c.self.inside c.self.invariant c.args.point (rw (← c.self.view_is) at c.requires)
    (ap (λ (p : Point). is_after_pair p c.self.inside.end) (sym c.shown.ensures) ∙ sym c.is_after.ensures ∙ c.if-is_after.false))
