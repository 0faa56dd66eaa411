-- Which labels are looked up in the texts of bytes.
use Rattle.std.specs.Prelude.{◌≡◌, ℕ, Bool, false, true, List, []}
use Rattle.std.specs.List.{AllByRecursion}
use Rattle.markdown_base.specs.declared.configuration.ParseOptions.{ParseOptions}
use Rattle.markdown_tokenizer.specs.Text.{IsDocument}
use Rattle.mddocument.specs.Documents.{document}
use Rattle.mdinline_labels.specs.Labels.{is_label}
use Rattle.mddocument_parts.specs.BothDocuments.{asked_in, events_by}
use Rattle.mddocument_editing.specs.InBrackets.{is_in_brackets}
use Rattle.mddocument_editing.specs.Kept.{has_end}

-- In texts of bytes without `]` no label is looked up
abbrev pub BytesWithoutEndAskNothing : Type 0
BytesWithoutEndAskNothing = (options : ParseOptions) (defined : List ℕ → Bool) (bytes : List ℕ) → has_end bytes ≡ false → asked_in options defined bytes ≡ []

-- What is looked up in the texts of a document is a label, and may stand between its brackets
abbrev pub AskedLabelsAreInBrackets : Type 0
AskedLabelsAreInBrackets = (options : ParseOptions) (defined : List ℕ → Bool) (bytes : List ℕ) → IsDocument (document options bytes)
    → AllByRecursion (λ label. (is_label label ≡ true) × (is_in_brackets label bytes ≡ true)) (asked_in options defined bytes)

-- So if two sets of labels agree on those that may stand between its brackets, a document's events are the same by both
abbrev pub BracketsDecide : Type 0
BracketsDecide = (options : ParseOptions) (defined others : List ℕ → Bool) (bytes : List ℕ) → IsDocument (document options bytes)
    → ((label : List ℕ) → is_label label ≡ true → is_in_brackets label bytes ≡ true → others label ≡ defined label) → events_by options others bytes ≡ events_by options defined bytes
