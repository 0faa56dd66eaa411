-- What is left to write of a skeleton: between the part that is written and the next one, and behind it.
use Rattle.std.specs.Prelude.{◌≡◌, ◌≤◌, ℕ, suc, List, [], ◌∷◌, ◌++◌, drop, map, reverse, None}
use Rattle.markdown_base.specs.declared.event.Kind.TheVariants.{Exit}
use Rattle.markdown_base.specs.declared.event.Point.{Point}
use Rattle.mdblock_leaf_blocks.specs.LeafEvents.{Mark}
use Rattle.mdblock_lines.specs.Containers.{Container}
use Rattle.mdblock_containers.specs.declared.parts.PartEnd.{PartEnd}
use Rattle.mdblock_containers.specs.declared.spans.RowAt.{RowAt}
use Rattle.mdblock_containers.specs.declared.ahead.Ahead.{Ahead}
use Rattle.mdblock_containers.specs.Ahead.{ahead_of}
use Rattle.mdblock_containers.specs.Parts.{ending_at}
use Rattle.mdblock_containers.specs.PlaceEvents.{event_at}
use Rattle.mdblock_containers.specs.Rows.{Row}
use Rattle.mdblock_containers.specs.Skeleton.{Frame, Part, behind_marks, part_marks, shared}
use Rattle.mdblock_containers.specs.Spans.{AreRowsIn}
use Rattle.mdblock_containers.specs.Stretches.{IsOutside}

-- spans end at a place that is shown there, the innermost first
abbrev pub exits_to : List Frame → Point → List Mark
exits_to frames place = map (λ f. (event_at Exit f.name place, None)) (reverse frames)

-- and the line ending behind a part
abbrev pub ending_to : PartEnd → List Mark
ending_to e = map (λ x. (x, None)) (ending_at e)

module _ (bytes : List ℕ) where
  -- what comes behind a part with these spans that ends so
  abbrev pub rest_marks : List Frame → PartEnd → List Part → List Mark
  rest_marks frames e [] = exits_to frames e.place ++ ending_to e
  rest_marks frames e (next ∷ more) = exits_to (drop (shared frames next.frames) frames) e.place ++ (ending_to e ++ (part_marks bytes next ++ behind_marks bytes next more))

  -- The lines from one on are those, behind these open containers. Each line before has a byte
  pub record AreLeft (t : ℕ) (stack : List Container) (xs : List RowAt) (rs : List Row) : Type 0 where
    pub number : ℕ
    pub start : ℕ
    pub are : AreRowsIn t bytes stack number start xs rs
    pub outside : IsOutside bytes start
    pub few : number ≤ suc start

  -- a line and those behind it, by what lies ahead of it
  pub record HasPart (t : ℕ) (stack : List Container) (ahead : Ahead) (first : RowAt) (behind : List RowAt) : Type 0 where
    pub row : Row
    pub rows : List Row
    pub left : AreLeft t stack (first ∷ behind) (row ∷ rows)
    pub ahead_is : ahead ≡ ahead_of rows
