use Rattle.std.proofs.Common.{◌≤◌, length, subst, sym}
use Rattle.std.specs.Prelude.{IfSome}
use Rattle.mdgfm_literals.specs.declared.found.Found.{Found}
use Rattle.mdgfm_literals.proofs.Either.{else-each, size-within}
use Rattle.mdgfm_literals.proofs.addresses.mail_at.Goals as goal

pub returns-clause-some : goal.returns-clause-some
returns-clause-some c =
    subst (λ o. IfSome o (λ (f : Found). 1 ≤ f.size)) (sym c.or_else.ensures)
    (else-each (λ f. 1 ≤ f.size) c.literal_of-mailto.result c.literal_of-xmpp.result c.literal_of-mailto.ensures.some c.literal_of-xmpp.ensures.some)

pub returns-clause-within : goal.returns-clause-within
returns-clause-within c =
    let all = length c.args.text.now in
    subst (λ o. IfSome o (λ (f : Found). f.size ≤ all)) (sym c.or_else.ensures)
    (else-each (λ f. f.size ≤ all) c.literal_of-mailto.result c.literal_of-xmpp.result (size-within c.literal_of-mailto.result _ all c.literal_of-mailto.ensures.size c.size_with.ensures.within)
    (size-within c.literal_of-xmpp.result _ all c.literal_of-xmpp.ensures.size c.size_with-2.ensures.within))
