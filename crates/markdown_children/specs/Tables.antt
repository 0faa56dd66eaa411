-- Inner: the chunks of a chain, with the bounds of their parts in the child. No public contract cites this file.
use Rattle.std.specs.Prelude.{◌<◌, ℕ, ◌+◌, ◌-◌, ◌≤◌, nat_lt, List, [], ◌∷◌, length, map, drop, Option, Some, None, if◌then◌else◌}
use Rattle.std.specs.List.{between, AllByRecursion}
use Rattle.markdown_base.specs.declared.event.Event.{Event}
use Rattle.markdown_base.specs.Events.{relinked}
use Rattle.markdown_edits.specs.Edits.{Edit}
use Rattle.markdown_children.specs.Chains.{chain_from}
use Rattle.markdown_children.specs.Ready.{place_at}
use Rattle.markdown_children.specs.Parts.{parts}
use Rattle.markdown_children.specs.declared.division.Chunk.{Chunk}

abbrev pub table : List ℕ → List (List Event) → ℕ → List Chunk
table [] ps j = []
table (k ∷ ks) [] j = []
table (k ∷ ks) (p ∷ ps) j = record { index = k; start = j; end = j + length p } ∷ table ks ps (j + length p)

-- the table of the chain from i on, for the child from its j-th event on
abbrev pub rest_table : List Event → List Event → ℕ → ℕ → ℕ → List Chunk
rest_table events es f i j =
    table (chain_from f events i) (parts (map (λ k. place_at events (k + 1)) (chain_from f events i)) (drop j es)) j

-- the final place of event n of a child, by the table
abbrev pub table_place : List Chunk → ℕ → ℕ → ℕ → Option ℕ
table_place [] removed added n = None
table_place (c ∷ cs) removed added n = if nat_lt n c.end then Some (c.index - removed + added + n) else table_place cs (removed + 2) added n

-- at least this many events are before each chunk, and two more before each next one
abbrev pub AreAbove : ℕ → List Chunk → Type 0
AreAbove removed [] = Unit {0}
AreAbove removed (c ∷ cs) = (removed ≤ c.index) × AreAbove (removed + 2) cs

-- each chunk has a smaller index than the ones behind it
abbrev pub AreRising : List Chunk → Type 0
AreRising [] = Unit {0}
AreRising (c ∷ cs) = AllByRecursion (λ (d : Chunk). c.index < d.index) cs × AreRising cs

-- a chunk's edit, with link ends changed by f
abbrev pub chunk_edit : (ℕ → Option ℕ) → List Event → Chunk → Edit
chunk_edit f child c = record { index = c.index; remove = 2; additions = map (relinked f) (between c.start c.end child) }
