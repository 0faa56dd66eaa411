-- References that nothing defines, in a document that a caller edits.
use Rattle.std.specs.Prelude.{◌≡◌, ℕ, List, ◌++◌, map, take, drop, length}
use Rattle.mdconstructs.specs.declared.ranges.ByteRange.{ByteRange}
use Rattle.mdconstructs.specs.Undefined.{undefined_between}
use Rattle.mddocument_references.specs.declared.references.Reference.{Reference}
use Rattle.limecove.specs.declared.held.Held.{Held}

-- the bytes of the label of a reference
abbrev pub label_of : Reference → ByteRange
label_of reference = record { from = reference.from; to = reference.to }

-- ranges after the labels of references were written over the first ones, as many as fit
abbrev pub labelled : List ByteRange → List Reference → List ByteRange
labelled old references = take (length old) (map label_of references) ++ drop (length references) old

-- Ranges after the labels that nothing defines, in the sections from one up to another, were written over the first ones, as many as fit; there are
-- this many
pub record HoldsUndefined (from to : ℕ) (n : ℕ) (old new : List ByteRange) (held : Held) : Type 0 where
  pub labels : new ≡ labelled old (undefined_between held.sections from to)
  pub count : n ≡ length (undefined_between held.sections from to)
