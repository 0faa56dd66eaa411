-- What is promised of looks at resources.
use Rattle.std.specs.Prelude.{ℕ, ◌*◌, ◌≤◌, List, length}
use Rattle.mdinline_link_tails.specs.ResourceLooks.{looks}

-- All looks of a text together pass at most so many bytes for each of its bytes
abbrev pub LooksAreLinear : Type 0
LooksAreLinear = (text : List ℕ) → looks text ≤ 56 * length text
