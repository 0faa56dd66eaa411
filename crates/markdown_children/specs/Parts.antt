-- The parts of a child's events, one for each chunk of its chain.
use Rattle.std.specs.List.{AllByRecursion}
use Rattle.std.specs.Prelude.{◌≡◌, ◌<◌, ◌≤◌, ℕ, ◌+◌, ◌-◌, ◌*◌, not, nat_lt, List, [], ◌∷◌, ◌++◌, length, map, drop, take_while, Option, Some, None, if◌then◌else◌}
use Rattle.markdown_base.specs.declared.event.Event.{Event}
use Rattle.markdown_base.specs.declared.event.Point.{Point}
use Rattle.markdown_base.specs.Places.{stands_before}
use Rattle.markdown_base.specs.Events.{relinked}
use Rattle.markdown_edits.specs.Edits.{Edit, AreDisjoint}
use Rattle.markdown_edits.specs.Links.{next_of}
use Rattle.markdown_children.specs.Chains.{chain_of}
use Rattle.markdown_children.specs.Ready.{place_at}

-- the leading events that are at or before an end
abbrev pub front_until : Point → List Event → List Event
front_until end es = take_while (λ e. not (stands_before end e.point)) es

-- the parts of a child over chunks with these ends: each chunk takes the leading events that are at or before its end, and the last one all
-- that are left
abbrev pub parts : List Point → List Event → List (List Event)
parts [] es = []
parts (end ∷ []) es = es ∷ []
parts (end ∷ next ∷ ends) es = front_until end es ∷ parts (next ∷ ends) (drop (length (front_until end es)) es)

-- A chain by its chunks, with a part of its child for each
pub record Divided : Type 0 where
  pub chunks : List ℕ
  pub parts : List (List Event)

-- a child divided over the chain that begins at an index; a chunk ends at the place of its exit
abbrev pub divided : List Event → ℕ → List Event → Divided
divided events c child = record { chunks = chain_of events c; parts = parts (map (λ k. place_at events (k + 1)) (chain_of events c)) child }

-- the children divided over the chains that begin at these indices
abbrev pub divided_over : List Event → List ℕ → List (List Event) → List Divided
divided_over events [] children = []
divided_over events (c ∷ cs) [] = []
divided_over events (c ∷ cs) (child ∷ children) = divided events c child ∷ divided_over events cs children

-- the final place of event n of a child, if edits before its chain remove `removed` events and add `added`: its part comes after the events
-- that stay of the list before the chunk, and the events that are added there
abbrev pub child_place : List ℕ → List (List Event) → ℕ → ℕ → ℕ → Option ℕ
child_place [] ps removed added n = None
child_place (k ∷ ks) [] removed added n = None
child_place (k ∷ ks) (p ∷ ps) removed added n =
    if nat_lt n (length p) then Some (k - removed + added + n) else child_place ks ps (removed + 2) (added + length p) (n - length p)

-- one edit for each chunk: its two events are removed, and its part is added, with link ends changed by f
abbrev pub part_edits : (ℕ → Option ℕ) → List ℕ → List (List Event) → List Edit
part_edits f [] ps = []
part_edits f (k ∷ ks) [] = []
part_edits f (k ∷ ks) (p ∷ ps) = record { index = k; remove = 2; additions = map (relinked f) p } ∷ part_edits f ks ps

-- the edits of one chain, if earlier edits remove `removed` events and add `added`; link ends are final places
abbrev pub chain_edits : ℕ → ℕ → Divided → List Edit
chain_edits removed added d = part_edits (child_place d.chunks d.parts removed added) d.chunks d.parts

-- the edits of the chain that begins at an index, for a child with these events, if earlier edits remove and add as many as `before` says
abbrev pub edits_of_chain : (before : ℕ × ℕ) → List Event → ℕ → List Event → List Edit
edits_of_chain before events c child = chain_edits before.0 before.1 (divided events c child)

-- `after` counts the edits of that chain too: two events removed for each chunk, and the child's events added
abbrev pub CountsOn : (before after : ℕ × ℕ) → List Event → ℕ → List Event → Type 0
CountsOn before after events c child = (after.0 ≡ before.0 + 2 * length (chain_of events c)) × (after.1 ≡ before.1 + length child)

-- how many events the parts have
abbrev pub total : List (List Event) → ℕ
total [] = 0
total (p ∷ ps) = length p + total ps

-- the edits of chains, one after another
abbrev pub all_edits : ℕ → ℕ → List Divided → List Edit
all_edits removed added [] = []
all_edits removed added (d ∷ ds) = chain_edits removed added d ++ all_edits (removed + 2 * length d.chunks) (added + total d.parts) ds

-- a chunk ends inside the list, and its chain goes on behind it
pub record IsForward (events : List Event) (k : ℕ) : Type 0 where
  pub within : k + 1 < length events
  pub next : (d : ℕ) → next_of events k ≡ Some d → (k + 2 ≤ d) × (d + 1 < length events)

-- edits are disjoint, and before an index
pub record StandBefore (es : List Edit) (n : ℕ) : Type 0 where
  pub disjoint : AreDisjoint 0 es n
  pub below : AllByRecursion (λ (e : Edit). e.index < n) es
