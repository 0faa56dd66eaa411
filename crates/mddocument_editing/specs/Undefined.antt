-- References that nothing defines, in a document.
use Rattle.std.specs.Prelude.{ℕ, List}
use Rattle.mddocument_editing.specs.Divided.{Divided, bytes_of, events_between, is_label_of}
use Rattle.mddocument_references.specs.References.{undefined_in}
use Rattle.mddocument_references.specs.declared.references.Reference.{Reference}

-- the references of a document's sections from one up to another that nothing in the document defines: those among their events
abbrev pub undefined_between : Divided → (from to : ℕ) → List Reference
undefined_between d from to = undefined_in d.options.constructs (bytes_of d) (is_label_of d) (events_between d from to)
