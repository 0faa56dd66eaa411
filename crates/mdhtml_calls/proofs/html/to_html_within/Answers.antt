use Rattle.std.proofs.Common.{◌≡◌, ◌∙◌, ℕ, List, [], ap, subst, sym}
use Rattle.std.proofs.lemmas.Result.{IfOk-weaker}
use Rattle.markdown_base.specs.declared.configuration.Options.{Options}
use Rattle.markdown_base.specs.declared.event.Event.{Event}
use Rattle.markdown_base.specs.Events.{IsBalanced}
use Rattle.mdgfm_documents.specs.Documents.{gfm_events}
use Rattle.mdhtml_calls.proofs.html.to_html_within.Goals as goal
use Rattle.mdhtml_calls.specs.Document.{html_within}
use Rattle.mdhtml_depth.proofs.Kept.{balance-kept}
use Rattle.mdhtml_depth.specs.Depth.{within}
use Rattle.mdhtml_document.proofs.SafeNotes.{notes-safe}
use Rattle.mdhtml_document.specs.Html.{html_of_events, known_in}
use Rattle.mdhtml_document.specs.HtmlLaws.{AreSafeOptions}
use Rattle.mdhtml_markup.specs.SafeHtml.{IsSafeHtml}

module _ (limit : ℕ) (options : Options) (bytes html : List ℕ) where
  -- HTML of the events within the limit
  of-document : (es : List Event) → es ≡ within limit 0 (gfm_events options.parse bytes) → html ≡ html_of_events options.compile bytes options.parse.tab_size es → html ≡ html_within limit options bytes
  of-document es are is = is ∙ ap (html_of_events options.compile bytes options.parse.tab_size) are

  -- and is safe
  is-safe : html ≡ html_within limit options bytes → AreSafeOptions options.compile → IsSafeHtml [] html
  is-safe is safe =
      let events = within limit 0 (gfm_events options.parse bytes) in
      subst (IsSafeHtml []) (sym is) (notes-safe options.compile bytes (known_in bytes events) options.parse.tab_size events safe)

module _ (c : goal.After-drop-shallow) where
  are : c.as_slice.result.now ≡ within c.args.limit 0 (gfm_events c.args.options.now.parse c.args.bytes.now)
  are = c.as_slice.ensures.value ∙ c.in_ok-shallow.ensures.events ∙ ap (within c.args.limit 0) c.in_ok-events.ensures.events

  balanced : IsBalanced c.as_slice.result.now
  balanced = subst IsBalanced (sym (c.as_slice.ensures.value ∙ c.in_ok-shallow.ensures.events)) (balance-kept c.args.limit 0 _ c.in_ok-events.ensures.balanced)

pub returns-clause-html : goal.returns-clause-html
returns-clause-html c = IfOk-weaker c.html_of_events.result _
    (λ html. html.items ≡ html_within c.args.limit c.args.options.now c.args.bytes.now)
    (λ html told. of-document c.args.limit c.args.options.now c.args.bytes.now html.items c.as_slice.result.now (are c) (told (balanced c)))
    c.html_of_events.ensures

pub returns-clause-safe : goal.returns-clause-safe
returns-clause-safe c = IfOk-weaker c.html_of_events.result
    (λ html. html.items ≡ html_within c.args.limit c.args.options.now c.args.bytes.now)
    (λ html. AreSafeOptions c.args.options.now.compile → IsSafeHtml [] html.items)
    (λ html told. is-safe c.args.limit c.args.options.now c.args.bytes.now html.items told)
    (returns-clause-html c)
