-- The list with children in place of their chains.
use Rattle.std.specs.Prelude.{ℕ, ◌+◌, List, [], ◌∷◌, length, flat_map, Option}
use Rattle.markdown_base.specs.declared.event.Content.{Content}
use Rattle.markdown_base.specs.declared.event.Event.{Event}
use Rattle.markdown_edits.specs.Woven.{of_child, Tagged, Change, changed}
use Rattle.markdown_children.specs.Chains.{fitting_starts}
use Rattle.markdown_children.specs.Parts.{Divided, divided_over}

-- the events of a child from the j-th on; its chain begins at c
abbrev pub tagged_child : ℕ → ℕ → List Event → List Tagged
tagged_child c j [] = []
tagged_child c j (e ∷ es) = record { identity = of_child c j; event = e } ∷ tagged_child c (j + 1) es

-- each chunk's two events are removed, and its part is added
abbrev pub part_changes : ℕ → ℕ → List ℕ → List (List Event) → List Change
part_changes c j [] ps = []
part_changes c j (k ∷ ks) [] = []
part_changes c j (k ∷ ks) (p ∷ ps) = record { index = k; remove = 2; events = tagged_child c j p } ∷ part_changes c (j + length p) ks ps

-- the chain is named by its first chunk
abbrev pub first_chunk : List ℕ → ℕ
first_chunk [] = 0
first_chunk (c ∷ cs) = c

abbrev pub chain_changes : Divided → List Change
chain_changes d = part_changes (first_chunk d.chunks) 0 d.chunks d.parts

-- the changes that children of the chains that fit make: each chunk is replaced by its part
abbrev pub child_changes : Option Content → List Event → List (List Event) → List Change
child_changes wanted events children = flat_map chain_changes (divided_over events (fitting_starts wanted events) children)

-- the list with each chunk of the chains that fit replaced by its part, all chains at once. Events of the list and of the children have
-- identities (`Identity`)
abbrev pub with_children : Option Content → List Event → List (List Event) → List Event
with_children wanted events children = changed (child_changes wanted events children) events
