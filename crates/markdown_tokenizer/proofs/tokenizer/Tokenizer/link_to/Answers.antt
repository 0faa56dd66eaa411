use Rattle.markdown_tokenizer.proofs.Inside.Changes.{linked-made, linked-at-places, linked-kept_choices}
use Rattle.markdown_tokenizer.proofs.tokenizer.Tokenizer.link_to.Goals as goal

pub invariant_of-self : goal.invariant_of-self
invariant_of-self g c =
    let t = c.self.inside in let sound = c.self.invariant in
    record {
      placed = sound.placed;
      made = linked-made t sound c.args.previous c.args.next c.link_items.new.events.items c.link_items.ensures;
      at_places = linked-at-places t sound c.args.previous c.args.next c.link_items.new.events.items c.link_items.ensures;
      kept_choices = linked-kept_choices t sound c.args.previous c.args.next c.link_items.new.events.items c.link_items.ensures;
      once = sound.once;
      known = sound.known;
    }
