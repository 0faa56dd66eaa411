use Rattle.markdown_tokenizer.proofs.Prelude.{refl}
use Rattle.markdown_tokenizer.proofs.Inside.Spans.{entered-sound, entered-seen, entered-there}
use Rattle.markdown_tokenizer.proofs.Inside.Steps.{after-byte}
use Rattle.markdown_tokenizer.proofs.tokenizer.Tokenizer.enter_fast.Goals as goal

pub shown_after-point-requires : goal.shown_after-point-requires
shown_after-point-requires g c = record { after = after-byte c.self.inside c.self.invariant c.is_some.result c.is_some.ensures }

pub invariant_of-self : goal.invariant_of-self
invariant_of-self g c =
    let here = entered-there c.self.inside _ _ refl c.if-is_where_more_is.ensures c.shown_after-point.ensures in
    entered-sound c.self.inside c.self.invariant c.args.name c.args.link c.shown_after-point.result here c.put_enter.new.events c.put_enter.new.stack c.put_enter.ensures.events c.put_enter.ensures.stack

pub returns-then-is_where_more_is-clause-done : goal.returns-then-is_where_more_is-clause-done
returns-then-is_where_more_is-clause-done g c =
    let here = entered-there c.self.inside _ _ refl c.if-is_where_more_is.ensures c.shown_after-point.ensures in
    rw (← c.self.view_is) (entered-seen c.self.inside c.self.invariant c.args.name c.args.link c.shown_after-point.result here c.put_enter.new.events c.put_enter.new.stack c.put_enter.ensures.events c.put_enter.ensures.stack)
