-- The labels of a document's definitions, and the bytes of which leaf blocks are read as of letters: those of both parts of a document.
use Rattle.std.specs.Prelude.{◌≡◌, ℕ, ◌+◌, true, List, ◌++◌, length, map}
use Rattle.markdown_base.specs.declared.configuration.Constructs.{Constructs}
use Rattle.markdown_base.specs.Virtual.{virtual}
use Rattle.mdblock_definitions.specs.Skeleton.{letters, written_labels}
use Rattle.mddocument_parts.specs.DocumentRests.{begins_at_document_rest}

-- The labels of a document are those of its parts, one behind the other
abbrev pub LabelsOfBoth : Type 0
LabelsOfBoth = (on : Constructs) (t : ℕ) (a b : List ℕ) → begins_at_document_rest on t a b ≡ true → written_labels on (virtual t (a ++ b)) ≡ written_labels on (virtual t a) ++ written_labels on (virtual t b)

-- Its bytes that are read as a letter are those of its parts: those of the second so many bytes further on
abbrev pub LettersOfBoth : Type 0
LettersOfBoth = (on : Constructs) (t : ℕ) (a b : List ℕ) → begins_at_document_rest on t a b ≡ true → letters on (virtual t (a ++ b)) ≡ letters on (virtual t a) ++ map (λ i. i + length a) (letters on (virtual t b))
