-- What finding definitions costs: turns of loops, each of which looks at a byte.
use Rattle.std.specs.Prelude.{ℕ, ◌+◌, ◌-◌, ◌*◌, ◌≡◌, ◌≤◌, ◌⊎◌, true, List, drop, Option, Some, None}
use Rattle.std.specs.List.{prefix_len}
use Rattle.mdinline_labels.specs.declared.definitions.Stretch.{Stretch}
use Rattle.mdinline_labels.specs.declared.definitions.Definition.{Definition}
use Rattle.mdinline_labels.specs.Tails.{is_white, begins_title, gap}
use Rattle.mdinline_labels.specs.Definitions.{end, line_left, definition_at}

-- behind so many bytes and white space a title is tried
abbrev pub TriesTitle : List ℕ → (at : ℕ) → Type 0
TriesTitle text at = begins_title (drop (at + gap (drop at text)) text) ≡ true

-- a definition's last line, from `before` turns to `after`: it ends behind its title, or behind its destination
abbrev pub IsEnded : List ℕ → (destination : Stretch) → (title : Option Stretch) → Definition → (before after : ℕ) → Type 0
IsEnded text destination title d before after =
    ((t : Stretch) × (title ≡ Some t) × (after + end t ≤ before + d.size + 1))
    ⊎ ((line_left (drop (end destination) text) ≡ Some (d.size - end destination)) × (end destination ≤ d.size) × (title ≡ None → after + end destination ≤ before + d.size + 1))

-- a definition's bytes pay for it, with the white space in front of the next line; or no definition comes behind it
abbrev pub IsPaid : List ℕ → Definition → (before after : ℕ) → Type 0
IsPaid text d before after =
    (after ≤ before + 2 * d.size + 6 + prefix_len is_white (drop (d.size + 1) text)) ⊎ (definition_at (drop (d.size + 1) text) ≡ None)
