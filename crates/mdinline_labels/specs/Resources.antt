-- Resources: what stands in parentheses behind the text of an inline link (CommonMark, "Links"). Line endings are line feeds. No states.
use Rattle.std.specs.Prelude.{ℕ, ◌+◌, cond, List, drop, Option, Some, None}
use Rattle.mdinline_labels.specs.declared.definitions.Stretch.{Stretch}
use Rattle.mdinline_labels.specs.declared.resources.Resource.{Resource}
use Rattle.mdinline_labels.specs.Tails.{begins_with, destination_size, gap}
use Rattle.mdinline_labels.specs.Definitions.{stretch_at, end_of, title_at}

-- a resource with these parts, if the parenthesis that closes it stands there
abbrev pub closed_at : List ℕ → (destination title : Option Stretch) → (close : ℕ) → Option Resource
closed_at text destination title close =
    cond (begins_with 41 (drop close text)) (Some (record { destination = destination; title = title; size = close + 1 })) None

-- a resource with a destination of so many bytes there, behind which white space with at most one line ending may stand, or with none
abbrev pub resource_with : List ℕ → (from : ℕ) → (size : Option ℕ) → Option Resource
resource_with text from None = closed_at text None None from
resource_with text from (Some size) =
    let title = title_at text (from + size) in
    let at = end_of title (stretch_at from size) in
    closed_at text (Some (stretch_at from size)) title (at + gap (drop at text))

-- The resource that a text begins with, if it begins with one
abbrev pub resource_at : List ℕ → Option Resource
resource_at text = cond (begins_with 40 text) (let from = 1 + gap (drop 1 text) in resource_with text from (destination_size (drop from text))) None
