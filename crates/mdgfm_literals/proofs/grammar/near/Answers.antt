use Rattle.std.proofs.Common.{◌∙◌, sym, ap}
use Rattle.std.proofs.lemmas.List.{drop_all}
use Rattle.mdgfm_literals.proofs.Domains.{seen, seen_all}
use Rattle.mdgfm_literals.proofs.grammar.near.Goals as goal

pub returns : goal.returns
returns c =
    let l = c.loop-next in
    let domain = c.args.domain.now in
    c.last_of.ensures ∙ ap (λ ts. seen l.before l.last l.next ts) (sym (drop_all l.next domain c.loop-next-test.false)) ∙ l.invariant.same ∙ seen_all domain
