-- What values of the code mean.
use Rattle.std.specs.Prelude.{◌≡◌, ℕ, ◌==◌, ◌&&◌, Bool, true, false, List, [], ◌∷◌, map, length}
use Rattle.mdblock_lines.specs.Views.{fence_of, html_kind_of, container_of, prefix_of}
use Rattle.mdblock_lines.specs.declared.containers.Container.{Container}
use Rattle.mdblock_lines.specs.declared.containers.ContainerKind.{ContainerKind}
use Rattle.mdblock_lines.specs.declared.containers.ContainerKind.TheVariants as kinds
use Rattle.mdblock_lines.specs.declared.containers.Prefix.{Prefix}
use Rattle.mdblock_lines.specs.Containers as nested
use Rattle.mdblock_containers.specs.declared.going.Open.{Open}
use Rattle.mdblock_containers.specs.declared.leaves.Leaf.{Leaf}
use Rattle.mdblock_containers.specs.declared.leaves.Leaf.TheVariants as leaves
use Rattle.mdblock_containers.specs.declared.rows.Before.{Before}
use Rattle.mdblock_containers.specs.declared.rows.Row.{Row}
use Rattle.mdblock_containers.specs.Prefixes.{columns_of}
use Rattle.mdblock_containers.specs.Rows as rows

-- the leaf block that may go on
abbrev pub leaf_of : Leaf → rows.Leaf
leaf_of leaves.Closed = rows.closed
leaf_of leaves.Paragraph = rows.open_paragraph
leaf_of (leaves.Fenced f) = rows.open_fence (fence_of f)
leaf_of (leaves.Html kind) = rows.open_html (html_kind_of kind)
leaf_of leaves.Table = rows.open_table

-- a container that is open
abbrev pub open_of : Open → nested.Container
open_of o = container_of o.list o.container

-- containers that begin in a line: the first stands in a list that this line begins, the others in lists that begin with them
abbrev pub begun_of : (list number : ℕ) → List Prefix → List nested.Prefix
begun_of list number [] = []
begun_of list number (p ∷ ps) = prefix_of list p ∷ map (prefix_of number) ps

-- a container is an item
abbrev pub is_item : ContainerKind → Bool
is_item kinds.Quote = false
is_item kinds.Item = true
is_item kinds.Footnote = false

-- an item takes the place of another, with the same marker
abbrev pub takes_place : (old new : Container) → Bool
takes_place old new = is_item old.kind && (is_item new.kind && (old.marker == new.marker))

-- what is known before a line
abbrev pub before_of : Before → rows.Before
before_of b = record { stack = map open_of b.stack.items; depth = b.depth; leaf = leaf_of b.leaf }

-- a line with its containers, by its number
pub record IsRow (number : ℕ) (r : Row) (row : rows.Row) : Type 0 where
  pub number_is : number ≡ row.number
  pub many : r.many ≡ length row.went_on
  pub going : r.going ≡ columns_of row.went_on
  pub begun : begun_of r.list number r.begun.items ≡ row.begun
  pub columns : r.columns ≡ row.columns
  pub is_blank : r.is_blank ≡ row.is_blank
  pub is_lazy : r.is_lazy ≡ row.is_lazy
  pub stays : r.stays ≡ row.stays
  pub is_left_blank : r.is_left_blank ≡ row.is_left_blank
  pub leaf : leaf_of r.leaf ≡ row.leaf
