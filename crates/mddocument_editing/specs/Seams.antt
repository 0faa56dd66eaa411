-- Inner: where bytes go on behind sections, for private functions.
use Rattle.std.specs.Prelude.{◌≡◌, ℕ, ◌<◌, true, List, [], ◌∷◌, ◌++◌, length}
use Rattle.markdown_base.specs.declared.configuration.ParseOptions.{ParseOptions}
use Rattle.mddocument_parts.specs.BothDocuments.{is_rest}
use Rattle.mddocument_parts.specs.Sections.{are_sections_by}

-- Bytes are a section behind these sections, cut or not; or there are none
abbrev pub IsSeam : ParseOptions → (sections : List (List ℕ)) → List ℕ → Type 0
IsSeam options sections bytes = 0 < length bytes → are_sections_by (is_rest options) (sections ++ bytes ∷ []) ≡ true
