-- What the program writes.
use Rattle.std.specs.Prelude.{◌≡◌, ℕ, List, [], Option, None, Some}
use Rattle.std.specs.Io.KnownBytes.{Appends}
use Rattle.markdown_base.specs.declared.configuration.Options.{Options}
use Rattle.mdhtml_calls.specs.Document.{html_of_document, html_within}
use Rattle.mdhtml_markup.specs.SafeHtml.{IsSafeHtml}
use Rattle.mdhtml_program.specs.Arguments.{options_of, tab_of}
use Rattle.mdhtml_program.specs.declared.arguments.Choice.{Choice}
use Rattle.mdprograms.specs.Input.{IsReadToEnd}

-- HTML of a document, within a limit of depth if there is one
abbrev pub html_by : (depth : Option ℕ) → Options → List ℕ → List ℕ
html_by None options bytes = html_of_document options bytes
html_by (Some n) options bytes = html_within n options bytes

-- What was read to its end has this HTML
pub record IsHtmlOfRead (choice : Choice) (old new : Option (List ℕ)) (html : List ℕ) : Type 0 where
  pub bytes : List ℕ
  pub read : IsReadToEnd (tab_of choice) old new bytes
  pub is : html ≡ html_by choice.depth (options_of choice) bytes

-- safe HTML was written, and nothing else
abbrev pub WritesSafe : (old new : Option (List ℕ)) → Type 0
WritesSafe old new = (html : List ℕ) × Appends old new html × IsSafeHtml [] html
