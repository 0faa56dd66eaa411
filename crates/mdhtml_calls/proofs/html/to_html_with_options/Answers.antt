use Rattle.std.proofs.Common.{◌≡◌, ◌∙◌, ℕ, List, [], ap, subst, sym}
use Rattle.std.proofs.lemmas.Result.{IfOk-weaker}
use Rattle.markdown_base.specs.declared.configuration.Options.{Options}
use Rattle.markdown_base.specs.declared.event.Event.{Event}
use Rattle.markdown_base.specs.Events.{IsBalanced}
use Rattle.mdgfm_documents.specs.Documents.{gfm_events}
use Rattle.mdhtml_calls.proofs.html.to_html_with_options.Goals as goal
use Rattle.mdhtml_calls.specs.Document.{html_of_document}
use Rattle.mdhtml_document.proofs.SafeNotes.{notes-safe}
use Rattle.mdhtml_document.specs.Html.{html_of_events, known_in}
use Rattle.mdhtml_document.specs.HtmlLaws.{AreSafeOptions}
use Rattle.mdhtml_markup.specs.SafeHtml.{IsSafeHtml}

module _ (options : Options) (bytes html : List ℕ) where
  -- HTML of the document's events is that of the document
  of-document : (es : List Event) → es ≡ gfm_events options.parse bytes → html ≡ html_of_events options.compile bytes options.parse.tab_size es → html ≡ html_of_document options bytes
  of-document es are is = is ∙ ap (html_of_events options.compile bytes options.parse.tab_size) are

  -- and is safe
  is-safe : html ≡ html_of_document options bytes → AreSafeOptions options.compile → IsSafeHtml [] html
  is-safe is safe =
      let events = gfm_events options.parse bytes in
      subst (IsSafeHtml []) (sym is) (notes-safe options.compile bytes (known_in bytes events) options.parse.tab_size events safe)

module _ (c : goal.After-drop-events) where
  are : c.as_slice.result.now ≡ gfm_events c.args.options.now.parse c.args.bytes.now
  are = c.as_slice.ensures.value ∙ c.in_ok-events.ensures.events

  balanced : IsBalanced c.as_slice.result.now
  balanced = subst IsBalanced (sym c.as_slice.ensures.value) c.in_ok-events.ensures.balanced

pub returns-clause-html : goal.returns-clause-html
returns-clause-html c = IfOk-weaker c.html_of_events.result _
    (λ html. html.items ≡ html_of_document c.args.options.now c.args.bytes.now)
    (λ html told. of-document c.args.options.now c.args.bytes.now html.items c.as_slice.result.now (are c) (told (balanced c)))
    c.html_of_events.ensures

pub returns-clause-safe : goal.returns-clause-safe
returns-clause-safe c = IfOk-weaker c.html_of_events.result
    (λ html. html.items ≡ html_of_document c.args.options.now c.args.bytes.now)
    (λ html. AreSafeOptions c.args.options.now.compile → IsSafeHtml [] html.items)
    (λ html told. is-safe c.args.options.now c.args.bytes.now html.items told)
    (returns-clause-html c)
