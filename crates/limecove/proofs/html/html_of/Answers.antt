use Rattle.std.proofs.Common.{◌∙◌, [], ap, subst, sym}
use Rattle.markdown_base.specs.declared.configuration.Options.{Options}
use Rattle.mdhtml_calls.specs.Document.{html_of_document}
use Rattle.mdhtml_document.specs.HtmlLaws.{AreSafeOptions}
use Rattle.mdhtml_markup.specs.SafeHtml.{IsSafeHtml}
use Rattle.limecove.proofs.SafeBytes.{none-through}
use Rattle.limecove.proofs.html.html_of.Goals as goal

pub returns-in-Ok-clause-read : goal.returns-in-Ok-clause-read
returns-in-Ok-clause-read c = record {
  tab = c.in_ok-tab.tab;
  chosen = sym c.in_ok-tab.ensures.chosen;
  is = c.in-Ok.ensures.html ∙ ap (λ (options : Options). html_of_document options c.args.bytes.now) c.options_of.ensures;
}

pub returns-in-Ok-clause-safe : goal.returns-in-Ok-clause-safe
returns-in-Ok-clause-safe c = λ none.
    subst (λ (options : Options). AreSafeOptions options.compile → IsSafeHtml [] c.in-Ok.html.items) c.options_of.ensures c.in-Ok.ensures.safe
    (none-through c.args.options.now.allow none)
