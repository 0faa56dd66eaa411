-- What is promised of looks at full references.
use Rattle.std.specs.Prelude.{ℕ, ◌≤◌, List, length}
use Rattle.mdinline_full_references.specs.FullReferenceLooks.{looks}

-- All looks of a text together pass no more bytes than it has
abbrev pub LooksAreLinear : Type 0
LooksAreLinear = (text : List ℕ) → looks text ≤ length text
