-- Where a blank line stands (CommonMark 0.31, 5.1 to 5.3), in one sentence: in what the lines before and behind it both stand in; and in the quotes whose
-- markers it has, and the items and footnote definitions that begin in it.
use Rattle.std.specs.Prelude.{ℕ, zero, suc, ◌==◌, ◌&&◌, not, nat_le, Bool, true, cond, List, [], ◌∷◌, ◌++◌, drop, length, take}
use Rattle.std.specs.List.{flat_map}
use Rattle.mdblock_lines.specs.Containers.{Container, footnote, item, quote}
use Rattle.mdblock_containers.specs.Prefixes.{containers_of}
use Rattle.mdblock_containers.specs.Rows.{Row, has_none}
use Rattle.mdblock_containers.specs.Skeleton.{Frame, Part, frames_of, further, shared}

-- the containers of a line, from the outermost on: those that go on with it, and those that begin in it
abbrev pub containers_in : Row → List Container
containers_in row = containers_of row.went_on ++ containers_of row.begun

-- the spans of the next line that is not left blank; none, behind the last
abbrev pub frames_behind : List Row → List Frame
frames_behind [] = []
frames_behind (row ∷ behind) = cond row.is_left_blank (frames_behind behind) (flat_map frames_of (containers_in row))

-- a line has a container's marker: that of each quote, and of an item or a footnote definition that begins in it
abbrev pub has_marker : (number : ℕ) → Container → Bool
has_marker number (quote q) = true
has_marker number (item i) = i.line == number
has_marker number (footnote f) = f.line == number

-- its containers up to the last whose marker it has
abbrev pub marked : (number : ℕ) → List Container → List Container
marked number [] = []
marked number (c ∷ cs) = let more = marked number cs in cond (has_none more && not (has_marker number c)) [] (c ∷ more)

-- The spans in which a line stands, by those of the line before and by the lines behind. A blank line stands in the longer of two, of which one begins with
-- the other
abbrev pub frames_at : (before : List Frame) → Row → List Row → List Frame
frames_at before row behind =
    let both = take (shared before (frames_behind behind)) before in
    let own = flat_map frames_of (marked row.number (containers_in row)) in
    cond row.is_blank (cond (nat_le (length both) (length own)) own both) (flat_map frames_of (containers_in row))

-- of containers, from the outermost on, those whose spans these are
abbrev pub standing : List Frame → List Container → List Container
standing frames [] = []
standing frames (c ∷ cs) = let n = length (frames_of c) in cond (shared (frames_of c) frames == n) (c ∷ standing (drop n frames) cs) []

-- The parts of a document, by these: each behind the one before
abbrev pub parts_in : (bound : ℕ) → (before : List Frame) → List Row → List Part
parts_in zero before all = []
parts_in (suc bound) before [] = []
parts_in (suc bound) before (row ∷ behind) =
    let n = cond row.is_blank 0 (further behind) in
    let frames = frames_at before row behind in
    record { first = row; more = take n behind; frames = frames; stands = standing frames (containers_in row) } ∷ parts_in bound frames (drop n behind)

abbrev pub parts : List Row → List Part
parts all = parts_in (length all) [] all
