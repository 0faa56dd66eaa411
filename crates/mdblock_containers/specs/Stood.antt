-- In how many of the open containers a part stands, and which of its spans are theirs.
use Rattle.std.specs.Prelude.{◌≡◌, ◌≤◌, List, length, map, take}
use Rattle.std.specs.List.{flat_map}
use Rattle.mdblock_lines.specs.Containers.{Container}
use Rattle.mdblock_containers.specs.declared.frames.Frame.{Frame}
use Rattle.mdblock_containers.specs.declared.frames.Stood.{Stood}
use Rattle.mdblock_containers.specs.Frames.{frame_of}
use Rattle.mdblock_containers.specs.Skeleton.{frames_of}

-- so many of these containers have so many spans
pub record IsStood (s : Stood) (stack : List Container) : Type 0 where
  pub few : s.containers ≤ length stack
  pub spans : s.spans ≡ length (flat_map frames_of (take s.containers stack))

-- the first spans are those of these containers
abbrev pub HasSpans : List Frame → Stood → (stack : List Container) → Type 0
HasSpans frames s stack = take s.spans (map frame_of frames) ≡ flat_map frames_of (take s.containers stack)
