-- Open containers that go on over the blank rest of a line, as the code knows it of earlier lines.
use Rattle.std.specs.Prelude.{◌≡◌, ◌≤◌, ◌<◌, ℕ, nat_lt, Bool, true, false, List, [], length, slice_index_or, Some}
use Rattle.mdblock_lines.specs.Containers.{Container, footnote, goes_on, item, quote}
use Rattle.mdblock_containers.specs.declared.going.Open.{Open}
use Rattle.mdblock_containers.specs.Views.{open_of}

-- a container goes on over the blank rest of each line from one on: it is an item that did not begin empty just before, or a footnote definition
abbrev pub GoesOver : (number : ℕ) → Open → Type 0
GoesOver number o = (n : ℕ) → number ≤ n → goes_on (open_of o) n [] ≡ Some 0

-- those from one on up to another do
abbrev pub AreOver : (number from to : ℕ) → List Open → Type 0
AreOver number from to stack = (k : ℕ) (d : Open) → from ≤ k → k < to → GoesOver number (slice_index_or stack k d)

-- containers began in lines before this one
abbrev pub AreBefore : (number : ℕ) → List Open → Type 0
AreBefore number stack = (k : ℕ) (d : Open) → k < length stack → (slice_index_or stack k d).container.line < number

-- an item or a footnote definition began in a line before this one
abbrev pub is_earlier : (number : ℕ) → Container → Bool
is_earlier number (quote q) = false
is_earlier number (item i) = nat_lt i.line number
is_earlier number (footnote f) = nat_lt f.line number

-- those from one on up to another are such
abbrev pub AreEarlier : (number from to : ℕ) → List Container → Type 0
AreEarlier number from to stack = (k : ℕ) (d : Container) → from ≤ k → k < to → is_earlier number (slice_index_or stack k d) ≡ true
