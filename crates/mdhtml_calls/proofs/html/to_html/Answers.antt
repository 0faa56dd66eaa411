use Rattle.std.proofs.Common.{◌≡◌, [], refl, subst, sym}
use Rattle.std.proofs.lemmas.Result.{IfOk-weaker}
use Rattle.std.specs.Prelude.{IfOk}
use Rattle.markdown_base.specs.declared.configuration.Options.{Options}
use Rattle.mdhtml_calls.proofs.html.to_html.Goals as goal
use Rattle.mdhtml_calls.specs.Document.{html_of_document}
use Rattle.mdhtml_document.specs.HtmlLaws.{AreSafeOptions}
use Rattle.mdhtml_markup.specs.SafeHtml.{IsSafeHtml}

pub to_html_with_options-requires : goal.to_html_with_options-requires
to_html_with_options-requires c = rw c.default.ensures record { limit = c.requires.limit }

pub returns-clause-html : goal.returns-clause-html
returns-clause-html c =
    subst (λ (options : Options). IfOk c.to_html_with_options.result (λ html. html.items ≡ html_of_document options c.args.bytes.now)) c.default.ensures c.to_html_with_options.ensures.html

pub returns-clause-safe : goal.returns-clause-safe
returns-clause-safe c =
    let safe = subst (λ (options : Options). AreSafeOptions options.compile) (sym c.default.ensures) record { html = refl; protocol = refl; images = refl } in
    IfOk-weaker c.to_html_with_options.result (λ html. AreSafeOptions c.default.result.compile → IsSafeHtml [] html.items) (λ html. IsSafeHtml [] html.items) (λ html told. told safe) c.to_html_with_options.ensures.safe
