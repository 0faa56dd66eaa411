-- Inner: how far a document was read, for private functions.
use Rattle.std.specs.Prelude.{◌≡◌, ℕ, List, take}
use Rattle.markdown_base.specs.declared.configuration.ParseOptions.{ParseOptions}
use Rattle.mddocument_parts.specs.Moved.{line_endings}
use Rattle.mddocument_sinks.specs.declared.reading.Reached.{Reached}
use Rattle.mddocument_sinks.specs.Seams.{IsSeam}

-- A document was read up to a seam, and the line endings in front of that were counted
pub record IsReached (options : ParseOptions) (bytes : List ℕ) (reached : Reached) : Type 0 where
  pub seam : IsSeam options bytes reached.bytes
  pub lines : reached.lines ≡ line_endings (take reached.bytes bytes)
