use Rattle.markdown_tokenizer.proofs.Prelude.{◌≡◌, reverse, length, take, unwound, ended_by, progress_at, AreWithin}
use Rattle.markdown_tokenizer.proofs.waiting.unwind.Given as goal

abbrev pub invariant-loop-continuation : goal.invariant-loop-continuation
invariant-loop-continuation l = record {
  ends : unwound (reverse l.kept_choices.items) l.continuation (progress_at l.after_previous l.previous l.ended l.events.items l.stack.items)
      ≡ unwound (reverse l.fn.kept_choices.items) (ended_by l.fn.ok) (progress_at l.fn.after_previous l.fn.previous l.fn.ended l.fn.events.items l.fn.stack.items);
  within : AreWithin l.events.items l.stack.items (reverse l.kept_choices.items);
  events : l.events.items ≡ take (length l.events.items) l.fn.events.items;
  stack : l.stack.items ≡ take (length l.stack.items) l.fn.stack.items;
}

abbrev pub decreases-loop-continuation : goal.decreases-loop-continuation
decreases-loop-continuation l = length l.kept_choices.items
