-- HTML of parts.
use Rattle.std.specs.List.{AllByRecursion, flat_map}
use Rattle.std.specs.Prelude.{◌≡◌, ℕ, List}
use Rattle.markdown_base.specs.declared.configuration.CompileOptions.{CompileOptions}
use Rattle.markdown_base.specs.declared.event.Event.{Event}
use Rattle.markdown_base.specs.Events.{IsBalanced}
use Rattle.mdhtml_document.specs.Html.{Known, html_by}
use Rattle.mdhtml_document.specs.HtmlLaws.{EndsLine}

-- HTML of events ends a line, or is nothing, whatever they are
abbrev pub HtmlEndsLines : Type 0
HtmlEndsLines =
    (options : CompileOptions) (bytes : List ℕ) (known : Known) (tab : ℕ) (events : List Event) → EndsLine (html_by options bytes known tab events)

-- So the HTML of parts, of which each is read apart, is that of the one behind that of the other
abbrev pub HtmlOfParts : Type 0
HtmlOfParts =
    (options : CompileOptions) (bytes : List ℕ) (known : Known) (tab : ℕ) (parts : List (List Event)) → AllByRecursion IsBalanced parts
    → html_by options bytes known tab (flat_map (λ es. es) parts) ≡ flat_map (html_by options bytes known tab) parts
