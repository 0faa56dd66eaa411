use Rattle.markdown_tokenizer.proofs.Prelude.{◌≡◌, ◌∙◌, ap, sym, reverse, ended_by, progress_at}
use Rattle.markdown_tokenizer.proofs.Inside.Unwinding.{unwound-next, unwound-none, within-none}
use Rattle.markdown_tokenizer.proofs.waiting.unwind.Goals.{in-Ok, in-Nok}
use Rattle.markdown_tokenizer.proofs.waiting.unwind.Goals as goal

pub returns-in-Next-clause-ends : goal.returns-in-Next-clause-ends
returns-in-Next-clause-ends c =
    let l = c.loop-continuation in
    unwound-next (reverse l.kept_choices.items) l.continuation c.in-Next.field-0 (progress_at l.after_previous l.previous l.ended l.events.items l.stack.items) c.in-Next.is
    ∙ l.invariant.ends

pub loop-continuation-preserved-in-None-saved_for : goal.loop-continuation-preserved-in-None-saved_for
loop-continuation-preserved-in-None-saved_for c =
    let l = c.loop-continuation in let b = c.match-continuation.ok in
    let ended : l.continuation ≡ ended_by b = (elim c.match-continuation.branch [
      | in-Ok w ↦ w.in-Ok.is ∙ ap ended_by (sym w.ok-is)
      | in-Nok w ↦ w.in-Nok.is ∙ ap ended_by (sym w.ok-is)
    ]) in
    let none = sym c.saved_for.ensures ∙ c.in-None-saved_for.is in
    let from = progress_at l.after_previous l.previous l.ended l.events.items l.stack.items in
    record {
      ends = rw c.continuation-continuation.ensures (sym (unwound-none l.kept_choices.items c.pop.new.self.items c.in-Some.choice c.in-Some.ensures.items b none l.continuation from ended) ∙ l.invariant.ends);
      within = within-none l.kept_choices.items c.pop.new.self.items c.in-Some.choice c.in-Some.ensures.items b none l.events.items l.stack.items l.invariant.within;
      events = l.invariant.events;
      stack = l.invariant.stack;
    }
