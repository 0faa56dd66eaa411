-- The labels that are kept leave the references that nothing in the document defines.
use Rattle.mddocument_editing.proofs.Prelude.{◌≡◌, ℕ, List, Event, Kept, IsKept, defines, divided_of, is_label_of, link}
use Rattle.mddocument_references.proofs.Alike.{undefined-alike}
use Rattle.mddocument_references.specs.References.{undefined_in}

pub kept_labels : (k : Kept) → IsKept k → (bytes : List ℕ) (events : List Event) → undefined_in k.options.constructs bytes (defines k.known.machine.labels) events ≡ undefined_in k.options.constructs bytes (is_label_of (divided_of k)) events
kept_labels k kept bytes events = undefined-alike k.options.constructs bytes (is_label_of (divided_of k)) (defines k.known.machine.labels) (λ label. kept.labels (link label)) events
