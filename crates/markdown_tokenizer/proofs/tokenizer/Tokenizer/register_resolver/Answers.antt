use Rattle.markdown_tokenizer.proofs.Runs.Resolvers.{turned}
use Rattle.markdown_tokenizer.proofs.Prelude.{sym, ◌∙◌, rules, IsDistinct-push}
use Rattle.markdown_tokenizer.proofs.tokenizer.Tokenizer.register_resolver.Goals as goal

-- the next two for wrong bodies: the search finds them, and takes long where they are false
pub invariant_of-self : goal.invariant_of-self
invariant_of-self g c = search rules

pub returns-then-contains-clause-ok : goal.returns-then-contains-clause-ok
returns-then-contains-clause-ok g c = search rules

pub invariant_of-self-2 : goal.invariant_of-self-2
invariant_of-self-2 g c =
    let sound = c.self.invariant in let items = c.self.inside.resolvers.items in let laws = g.met.M.Resolver.Eq.laws in
    let absent = rw c.deref.ensures.value at (sym c.contains.ensures.value ∙ c.if-contains.false) in
    record {
      placed = sound.placed;
      made = sound.made;
      at_places = sound.at_places;
      kept_choices = sound.kept_choices;
      once = rw c.in_ok-push.ensures.items (IsDistinct-push laws items c.args.name sound.once (sym (turned g.M.Resolver.PartialEq.eq laws c.args.name items) ∙ absent));
      known = c.self.invariant.known;
    }
