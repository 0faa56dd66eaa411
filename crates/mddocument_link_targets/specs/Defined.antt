-- Where labels are defined.
use Rattle.std.specs.Prelude.{ℕ, List, Option, bytes_eq}
use Rattle.std.specs.Map.{lookup}
use Rattle.mddocument_link_targets.specs.declared.definitions.Definitions.{Definitions}

-- the index of the definition that is known of a label
abbrev pub defined_at : Definitions → (label : List ℕ) → Option ℕ
defined_at definitions label = lookup (λ known. bytes_eq label known.items) definitions.indices.entries
