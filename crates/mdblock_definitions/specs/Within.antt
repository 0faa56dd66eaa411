-- What is left to write of a skeleton with definitions: within a part, and behind it.
use Rattle.std.specs.Prelude.{◌≡◌, ℕ, List, [], ◌∷◌, ◌++◌, drop}
use Rattle.std.specs.List.{AllByRecursion}
use Rattle.mdblock_leaf_blocks.specs.LeafEvents.{Mark}
use Rattle.mdblock_containers.specs.declared.parts.PartEnd.{PartEnd}
use Rattle.mdblock_containers.specs.Rest.{ending_to, exits_to}
use Rattle.mdblock_containers.specs.Skeleton.{Frame, Part, ending_marks, shared}
use Rattle.mdblock_definitions.specs.Sections.{Section}
use Rattle.mdblock_definitions.specs.Skeleton.{behind_marks, section_marks}

-- sections are in the spans of a part
abbrev pub IsWithin : Part → Section → Type 0
IsWithin around s = (s.part.frames ≡ around.frames) × (s.part.stands ≡ around.stands)

abbrev pub AreWithin : Part → List Section → Type 0
AreWithin around ss = AllByRecursion (IsWithin around) ss

-- the last of the sections of a part, behind one of it
abbrev pub last_of : Part → List Section → Part
last_of last [] = last
last_of last (s ∷ ss) = last_of s.part ss

module _ (bytes : List ℕ) where
  -- further sections of a part, behind one of it: before each comes the line ending
  abbrev pub within_marks : Part → List Section → List Mark
  within_marks last [] = []
  within_marks last (s ∷ ss) = ending_marks bytes last ++ (section_marks bytes s ++ within_marks s.part ss)

  -- what comes behind a part with these spans that ends so
  abbrev pub rest_sections : List Frame → PartEnd → List Section → List Mark
  rest_sections frames e [] = exits_to frames e.place ++ ending_to e
  rest_sections frames e (next ∷ more) = exits_to (drop (shared frames next.part.frames) frames) e.place ++ (ending_to e ++ (section_marks bytes next ++ behind_marks bytes next.part more))
