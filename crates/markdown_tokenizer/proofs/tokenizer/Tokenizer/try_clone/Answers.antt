use Rattle.markdown_tokenizer.proofs.Prelude.{◌∙◌}
use Rattle.markdown_tokenizer.proofs.tokenizer.Tokenizer.try_clone.Goals as goal

pub invariant_of-result : goal.invariant_of-result
invariant_of-result g c =
    let sound = c.self.invariant in
    let skips = c.in_ok-skips.ensures in
    let events = c.in_ok-lists.ensures.events ∙ c.deref.ensures.value in
    let stack = c.in_ok-lists.ensures.stack ∙ c.deref-2.ensures.value in
    let resolvers = c.in_ok-lists.ensures.resolvers ∙ c.deref-3.ensures.value in
    let choices = c.in_ok-lists.ensures.kept_choices ∙ c.deref-4.ensures.value in
    record {
      placed = rw skips sound.placed;
      known = rw skips sound.known;
      made = λ reads. rw (events, stack, skips) (sound.made reads);
      at_places = λ reads. rw events (sound.at_places reads);
      kept_choices = rw (events, stack, choices, skips) sound.kept_choices;
      once = rw resolvers sound.once;
    }
