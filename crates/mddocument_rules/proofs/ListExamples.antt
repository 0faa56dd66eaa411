-- Some documents with the markers of their lists, and with lists and quotes in a row, by computation.
use Rattle.std.proofs.Common.{◌≡◌, ℕ, List, [], ◌∷◌, None, Option, Some, length, map, refl, take}
use Rattle.std.specs.Prelude.{codes, slice_get}
use Rattle.markdown_base.specs.Presets.{default_parse_options}
use Rattle.markdown_base.specs.Virtual.{virtual}
use Rattle.markdown_tokenizer.specs.Text.{Given}
use Rattle.mdconstructs_machines.specs.LineEvents.{lines_in}
use Rattle.mdblock_lines.specs.Containers.{Container, footnote, item, quote}
use Rattle.mdblock_containers.specs.declared.lists.Marker.{Marker}
use Rattle.mdblock_containers.specs.declared.lists.Marker.TheVariants.{Dash, Period, Plus}
use Rattle.mdblock_containers.specs.Lists.{behind_enter, items_in, list_names}
use Rattle.mdblock_containers.specs.Prefixes.{containers_of}
use Rattle.mdblock_containers.specs.Rows.{Row}
use Rattle.mdblock_definitions.specs.Blocks.{document_skeleton}
use Rattle.mdblock_definitions.specs.Rows.{rows}
use Rattle.mddocument_rules.specs.ListLaws.{still_open}
use Rattle.mddocument_rules.specs.MarkerLaws.{item_marker}

abbrev given : List ℕ → Given
given d = record { bytes = d; tab = 4; options = default_parse_options }

-- the markers of the items of the list that is entered at an index
abbrev markers_at : (at : ℕ) → List ℕ → List (Option Marker)
markers_at at d = elim (behind_enter list_names at (document_skeleton (given d))) [ None ↦ [] | Some list ↦ map (λ item. item_marker d item.behind) (items_in list) ]

two-items : markers_at 0 (codes "- a\n- b") ≡ Some Dash ∷ Some Dash ∷ []
two-items = refl

-- another marker begins another list
one-item : markers_at 0 (codes "- a\n+ b") ≡ Some Dash ∷ []
one-item = refl

other-list : markers_at 14 (codes "- a\n+ b") ≡ Some Plus ∷ []
other-list = refl

delimiters : markers_at 0 (codes "1. a\n2. b\n3) c") ≡ Some Period ∷ Some Period ∷ []
delimiters = refl

-- ---- by lines

abbrev rows_of : List ℕ → List Row
rows_of d = rows default_parse_options.constructs (lines_in (virtual 4 d))

-- of the container at a depth, the line in which it began, or its list; and its marker, or how long its label is
abbrev shown : Option Container → List ℕ
shown None = []
shown (Some (quote q)) = q.line ∷ []
shown (Some (item i)) = i.list ∷ i.marker ∷ []
shown (Some (footnote f)) = f.line ∷ f.label ∷ []

-- what is open before a line at the depth of what begins in it, and what begins there
abbrev in_a_row : ℕ → List ℕ → List (List ℕ)
in_a_row n d =
    let rs = rows_of d in
    elim (slice_get rs n) [
      | None ↦ []
      | Some row ↦ shown (slice_get (still_open (take n rs)) (length row.went_on)) ∷ shown (slice_get (containers_of row.begun) 0) ∷ []
    ]

same-marker : in_a_row 2 (codes "- a\n\n- b") ≡ (1 ∷ 45 ∷ []) ∷ (1 ∷ 45 ∷ []) ∷ []
same-marker = refl

other-marker : in_a_row 2 (codes "- a\n\n+ b") ≡ (1 ∷ 45 ∷ []) ∷ (3 ∷ 43 ∷ []) ∷ []
other-marker = refl

-- a lazy line ends no item
behind-lazy : in_a_row 2 (codes "- a\nb\n- c") ≡ (1 ∷ 45 ∷ []) ∷ (1 ∷ 45 ∷ []) ∷ []
behind-lazy = refl

two-quotes : in_a_row 2 (codes "> a\n\n> b") ≡ (1 ∷ []) ∷ (3 ∷ []) ∷ []
two-quotes = refl

-- without a blank line the quote goes on
one-quote : in_a_row 1 (codes "> a\n> b") ≡ [] ∷ [] ∷ []
one-quote = refl
