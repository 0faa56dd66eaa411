-- Seats from a place on: each begins where the one before it ends, and each place between them is shown at itself.
use Rattle.std.specs.Prelude.{◌≡◌, ◌≤◌, ℕ, ◌+◌, ◌==◌, cond, List, [], ◌∷◌, ◌++◌, length, take, drop, map}
use Rattle.markdown_base.specs.declared.event.Event.{Event}
use Rattle.markdown_base.specs.declared.event.Kind.TheVariants.{Enter}
use Rattle.markdown_base.specs.declared.event.Name.TheVariants as name
use Rattle.markdown_base.specs.declared.event.Point.{Point}
use Rattle.markdown_base.specs.Places.{shown}
use Rattle.markdown_base.specs.Virtual.{Seat}
use Rattle.mdblock_leaf_blocks.specs.LeafEvents.{Mark}
use Rattle.mdblock_leaf_blocks.specs.LineKinds.{indent}
use Rattle.mdblock_lines.specs.declared.containers.Prefix.{Prefix}
use Rattle.mdblock_lines.specs.declared.containers.ContainerKind.TheVariants as kinds
use Rattle.mdblock_lines.specs.Containers.{Container, quote, item, footnote}
use Rattle.mdblock_lines.specs.Lines.{next_place}
use Rattle.mdblock_containers.specs.PlaceEvents.{event_at}
use Rattle.mdblock_containers.specs.Skeleton.{list_name}

-- the events of marks that begin no chunk
abbrev pub events_of : List Mark → List Event
events_of ms = map (λ m. m.0) ms

module _ (t : ℕ) (bytes : List ℕ) where
  abbrev pub AreSeatsAt : Point → List Seat → Type 0
  AreSeatsAt p [] = shown bytes p ≡ p
  AreSeatsAt p (s ∷ ss) = (shown bytes p ≡ p) × (s.point ≡ p) × (s.end ≡ next_place t bytes p) × AreSeatsAt s.end ss

-- a container begins at a place: its list, if it is the first item; itself
abbrev pub enters_at : Container → Point → List Event
enters_at (quote q) place = event_at Enter name.BlockQuote place ∷ []
enters_at (item i) place = cond (i.list == i.line) (event_at Enter (list_name i) place ∷ []) [] ++ event_at Enter name.ListItem place ∷ []
enters_at (footnote f) place = event_at Enter name.GfmFootnoteDefinition place ∷ []

-- prefixes with which containers begin in a line: each has its white space, its number and its marker, or its label
pub record IsInside (p : Prefix) (t : List ℕ) : Type 0 where
  pub within : p.size ≤ length t
  pub of_quote : p.container.kind ≡ kinds.Quote → indent (take p.size t) + 1 ≤ p.size
  pub of_item : p.container.kind ≡ kinds.Item → indent (take p.size t) + p.container.digits + 1 ≤ p.size
  pub of_footnote : p.container.kind ≡ kinds.Footnote → (1 ≤ p.container.label) × (indent (take p.size t) + p.container.label + 4 ≤ p.size)

abbrev pub AreInside : List Prefix → List ℕ → Type 0
AreInside [] t = Unit {0}
AreInside (p ∷ ps) t = IsInside p t × AreInside ps (drop p.size t)
