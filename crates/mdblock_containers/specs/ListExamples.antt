-- Lists of some documents: whether they are loose, their markers and the numbers that they start with. Each sentence has a document on each side.
use Rattle.std.specs.Prelude.{ℕ, Bool, true, false, List, [], ◌∷◌, ◌++◌, Option, None, Some, codes, map}
use Rattle.markdown_base.specs.declared.event.Event.{Event}
use Rattle.markdown_base.specs.Presets.{default_parse_options}
use Rattle.mdblock_containers.specs.declared.lists.Marker.{Marker}
use Rattle.mdblock_containers.specs.declared.lists.Marker.TheVariants.{Dash, Parenthesis, Period, Plus, Star}
use Rattle.mdblock_containers.specs.Blocks.{document_blocks}
use Rattle.mdblock_containers.specs.Lists.{behind_first, block_names, is_loose, is_spread, item_names, items_in, list_marker, list_names, list_start}

-- what is said of a list: whether it is loose; whether two of its items have a blank line between them, and two blocks of each item; its marker
-- and its number
pub record Said : Type 0 where
  pub loose : Bool
  pub spread : Bool
  pub items : List Bool
  pub marker : Option Marker
  pub start : Option ℕ

abbrev pub said_of : (bytes : List ℕ) → List Event → Said
said_of bytes inside =
    record {
      loose = is_loose inside;
      spread = is_spread item_names inside;
      items = map (λ item. is_spread block_names item.behind) (items_in inside);
      marker = list_marker bytes inside;
      start = list_start bytes inside;
    }

-- of each list among these events, in order of their enters
abbrev pub said_of_lists : (bytes : List ℕ) → List Event → List Said
said_of_lists bytes [] = []
said_of_lists bytes (e ∷ es) =
    let rest = said_of_lists bytes es in
    elim (behind_first list_names (e ∷ es)) [ None ↦ rest | Some inside ↦ said_of bytes inside ∷ rest ]

-- a document, and what is said of its lists
pub record ListExample : Type 0 where
  pub document : List ℕ
  pub lists : List Said

abbrev pub read_of : List ℕ → ListExample
read_of bytes = record { document = bytes; lists = said_of_lists bytes (document_blocks (record { bytes = bytes; options = default_parse_options; tab = 4 })) }

abbrev pub bullets : (loose spread : Bool) → List Bool → Marker → Said
bullets loose spread items marker = record { loose = loose; spread = spread; items = items; marker = Some marker; start = None }

-- "separated by blank lines": the line of an item in which nothing is is none
abbrev pub lists_of_items : List ListExample
lists_of_items =
    record { document = codes "- a\n- b\n"; lists = bullets false false (false ∷ false ∷ []) Dash ∷ [] } ∷
    record { document = codes "+ a\n\n+ b\n"; lists = bullets true true (false ∷ false ∷ []) Plus ∷ [] } ∷
    record { document = codes "* a\n*\n* c\n"; lists = bullets false false (false ∷ false ∷ false ∷ []) Star ∷ [] } ∷
    record { document = codes "* a\n*\n\n* c\n"; lists = bullets true true (false ∷ false ∷ false ∷ []) Star ∷ [] } ∷
    []

-- "directly contain two block-level elements with a blank line between them": not in an item of an item, and not in a quote. A blank line before
-- the first block is not between two
abbrev pub lists_of_blocks : List ListExample
lists_of_blocks =
    record { document = codes "* a\n\n  b\n* c"; lists = bullets true false (true ∷ false ∷ []) Star ∷ [] } ∷
    record { document = codes "-\n  a\n- b"; lists = bullets false false (false ∷ false ∷ []) Dash ∷ [] } ∷
    record { document = codes "- a\n  - b\n\n    c\n- d"; lists = bullets false false (false ∷ false ∷ []) Dash ∷ bullets true false (true ∷ []) Dash ∷ [] } ∷
    record { document = codes "* a\n  > b\n  >\n* c\n"; lists = bullets false false (false ∷ false ∷ []) Star ∷ [] } ∷
    []

-- numbers and markers: those of the first item, and not of a list behind it
abbrev pub lists_of_numbers : List ListExample
lists_of_numbers =
    record { document = codes "007) a\n8) b\n\n"; lists = record { loose = false; spread = false; items = false ∷ false ∷ []; marker = Some Parenthesis; start = Some 7 } ∷ [] } ∷
    record { document = codes "- a\n\n1. b"; lists = bullets false false (false ∷ []) Dash ∷ record { loose = false; spread = false; items = false ∷ []; marker = Some Period; start = Some 1 } ∷ [] } ∷
    []

abbrev pub lists : List ListExample
lists = lists_of_items ++ (lists_of_blocks ++ lists_of_numbers)
