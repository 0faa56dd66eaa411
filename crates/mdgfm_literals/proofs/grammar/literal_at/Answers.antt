use Rattle.std.proofs.Common.{◌≤◌, ◌∙◌, length, subst, sym, ap}
use Rattle.std.specs.Prelude.{IfSome}
use Rattle.mdgfm_literals.specs.declared.found.Found.{Found}
use Rattle.mdgfm_literals.specs.Found.{or_else}
use Rattle.mdgfm_literals.specs.Grammar.{mail_at, url_at, www_at}
use Rattle.mdgfm_literals.proofs.Either.{else-each}
use Rattle.mdgfm_literals.proofs.grammar.literal_at.Goals as goal

pub returns-clause-found : goal.returns-clause-found
returns-clause-found c =
    let before = c.args.before in
    let text = c.args.text.now in
    c.or_else.ensures
    ∙ ap (λ o. or_else o c.or_else-url.result) c.www_at.ensures.found
    ∙ ap (λ o. or_else (www_at before text) o) (
    c.or_else-url.ensures
    ∙ ap (λ o. or_else o c.or_else-mail.result) c.url_at.ensures.found
    ∙ ap (λ o. or_else (url_at before text) o) (
    c.or_else-mail.ensures
    ∙ ap (λ o. or_else o c.email_at-email.result) c.mail_at.ensures.found
    ∙ ap (λ o. or_else (mail_at before text) o) c.email_at-email.ensures.found))

pub returns-clause-some : goal.returns-clause-some
returns-clause-some c =
    let mail = subst (λ o. IfSome o (λ (f : Found). 1 ≤ f.size)) (sym c.or_else-mail.ensures) (else-each (λ f. 1 ≤ f.size) c.mail_at.result c.email_at-email.result c.mail_at.ensures.some c.email_at-email.ensures.some) in
    let url = subst (λ o. IfSome o (λ (f : Found). 1 ≤ f.size)) (sym c.or_else-url.ensures) (else-each (λ f. 1 ≤ f.size) c.url_at.result c.or_else-mail.result c.url_at.ensures.some mail) in
    subst (λ o. IfSome o (λ (f : Found). 1 ≤ f.size)) (sym c.or_else.ensures) (else-each (λ f. 1 ≤ f.size) c.www_at.result c.or_else-url.result c.www_at.ensures.some url)

pub returns-clause-within : goal.returns-clause-within
returns-clause-within c =
    let all = length c.args.text.now in
    let mail = subst (λ o. IfSome o (λ (f : Found). f.size ≤ all)) (sym c.or_else-mail.ensures) (else-each (λ f. f.size ≤ all) c.mail_at.result c.email_at-email.result c.mail_at.ensures.within c.email_at-email.ensures.within) in
    let url = subst (λ o. IfSome o (λ (f : Found). f.size ≤ all)) (sym c.or_else-url.ensures) (else-each (λ f. f.size ≤ all) c.url_at.result c.or_else-mail.result c.url_at.ensures.within mail) in
    subst (λ o. IfSome o (λ (f : Found). f.size ≤ all)) (sym c.or_else.ensures) (else-each (λ f. f.size ≤ all) c.www_at.result c.or_else-url.result c.www_at.ensures.within url)
