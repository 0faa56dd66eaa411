use Rattle.markdown_tokenizer.proofs.Prelude.{◌∙◌, sym, subst, Point}
use Rattle.std.proofs.lemmas.Option.{same_Some}
use Rattle.markdown_tokenizer.proofs.Inside.Changes.{extended-sound, extended-seen, ExtendedAt}
use Rattle.markdown_tokenizer.proofs.tokenizer.Tokenizer.extend.Goals as goal

pub invariant_of-self : goal.invariant_of-self
invariant_of-self g c =
    let r = rw (← c.self.view_is) at c.requires.range in
    extended-sound c.self.inside c.self.invariant c.args.to r.0 r.1 r.3 r.4 (rw (← c.self.view_is) at c.requires.open_still) c.plain_until-self-inside.result c.plain_until-self-inside.ensures

pub returns : goal.returns
returns g c =
    let r = rw (← c.self.view_is) at c.requires.range in
    rw (← c.self.view_is) (λ f u e k.
    subst (λ (p : Point). ExtendedAt c.self.inside c.args.to p u) (same_Some _ _ (sym r.2 ∙ e)) (subst (λ (p : Point). ExtendedAt c.self.inside c.args.to r.0 p) (same_Some _ _ (sym r.3 ∙ k))
    (extended-seen c.self.inside c.self.invariant c.args.to r.0 r.1 r.3 r.4 (rw (← c.self.view_is) at c.requires.open_still))))
