-- HTML of a document that is cut at a rest.
use Rattle.std.specs.List.{AllByRecursion}
use Rattle.std.specs.Prelude.{◌≡◌, ◌++◌, ℕ, Bool, true, List, Option}
use Rattle.markdown_base.specs.declared.configuration.Options.{Options}
use Rattle.markdown_tokenizer.specs.Text.{IsDocument}
use Rattle.mddocument.specs.Documents.{document}
use Rattle.mddocument_link_targets.specs.declared.targets.Parts.{Parts}
use Rattle.mddocument_parts.specs.BothDocuments.{events_by, is_rest}
use Rattle.mdhtml_document.specs.Html.{html_by, uncalled}
use Rattle.mdhtml_laws.specs.Moved.{IsMarked, StandsIn}

-- It is that of its parts, one behind the other, each read alone: whatever labels are defined, and by what they are defined as
abbrev pub HtmlOfDocumentSections : Type 0
HtmlOfDocumentSections =
    (options : Options) (defined : List ℕ → Bool) (lookup : (label : List ℕ) → Option Parts) (a b : List ℕ) → IsDocument (document options.parse (a ++ b)) → is_rest options.parse a b ≡ true
    → let read = events_by options.parse defined in
    let html = λ (bytes : List ℕ). html_by options.compile bytes (uncalled lookup) options.parse.tab_size (read bytes) in
    AllByRecursion (StandsIn a) (read a) → AllByRecursion IsMarked (read b) → html (a ++ b) ≡ html a ++ html b
