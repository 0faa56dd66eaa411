use Rattle.markdown_tokenizer.proofs.Runs.Resolvers.{none-equal, turned}
use Rattle.markdown_tokenizer.proofs.Prelude.{sym, ◌∙◌, IsDistinct-cons}
use Rattle.markdown_tokenizer.proofs.tokenizer.Tokenizer.register_resolver_before.Goals as goal

pub invariant_of-self : goal.invariant_of-self
invariant_of-self g c =
    let sound = c.self.invariant in let items = c.self.inside.resolvers.items in let same = g.M.Resolver.PartialEq.eq in let laws = g.met.M.Resolver.Eq.laws in
    let absent = rw c.deref.ensures.value at (sym c.contains.ensures.value ∙ c.if-not-contains.true) in
    record {
      placed = sound.placed;
      made = sound.made;
      at_places = sound.at_places;
      kept_choices = sound.kept_choices;
      once = rw c.in_ok-insert.ensures.items (IsDistinct-cons same c.args.name items (none-equal same laws c.args.name items (sym (turned same laws c.args.name items) ∙ absent)) sound.once);
      known = c.self.invariant.known;
    }
