-- Inner: where a document is cut into pieces, for private functions.
use Rattle.std.specs.Prelude.{◌≡◌, ℕ, ◌<◌, ◌≤◌, true, List, length, take, drop}
use Rattle.markdown_base.specs.declared.configuration.ParseOptions.{ParseOptions}
use Rattle.mddocument_parts.specs.BothDocuments.{is_rest}

-- A document can be cut at an index: it is the beginning, the end, or a rest
pub record IsSeam (options : ParseOptions) (bytes : List ℕ) (index : ℕ) : Type 0 where
  pub within : index ≤ length bytes
  pub rest : 0 < index → index < length bytes → is_rest options (take index bytes) (drop index bytes) ≡ true
