-- Bytes of a document that a caller edits.
use Rattle.std.specs.List.{slice_range}
use Rattle.std.specs.Prelude.{◌≡◌, ℕ, List, length}
use Rattle.mdconstructs.specs.Divided.{bytes_of}
use Rattle.limecove.specs.declared.held.Held.{Held}
use Rattle.limecove.specs.Editing.{written}

-- Bytes after those of a document from one index up to another, which are this many, were written over the first ones, as many as fit
pub record HoldsBytes (from to : ℕ) (n : ℕ) (old new : List ℕ) (held : Held) : Type 0 where
  pub written : new ≡ written old (slice_range (bytes_of held.sections) from to)
  pub count : n ≡ length (slice_range (bytes_of held.sections) from to)
