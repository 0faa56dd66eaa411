-- Some documents with blank lines, by computation: in which quotes, lists and items each of their lines stands.
use Rattle.std.proofs.Common.{◌≡◌, ℕ, List, [], ◌∷◌, map, refl}
use Rattle.std.specs.Prelude.{codes}
use Rattle.markdown_base.specs.Presets.{default_constructs}
use Rattle.markdown_base.specs.Virtual.{virtual}
use Rattle.markdown_base.specs.declared.event.Name.TheVariants.{BlockQuote, ListItem, ListUnordered}
use Rattle.mdconstructs_machines.specs.LineEvents.{lines_in}
use Rattle.mdblock_containers.specs.Skeleton.{Frame}
use Rattle.mdblock_definitions.specs.Rows.{rows}
use Rattle.mdblock_definitions.specs.BlankLines.{parts}

-- the spans of each part: here each line is one
abbrev spans : List ℕ → List (List Frame)
spans d = map (λ part. part.frames) (parts (rows default_constructs (lines_in (virtual 4 d))))

-- a quote, a list or an item, by the number of its first line
abbrev quote : ℕ → Frame
quote n = record { name = BlockQuote; line = n }

abbrev list : ℕ → Frame
list n = record { name = ListUnordered; line = n }

abbrev item : ℕ → Frame
item n = record { name = ListItem; line = n }

-- between two items of a list: in the list, and in neither item
between-items : spans (codes "- a\n\n- b") ≡ (list 1 ∷ item 1 ∷ []) ∷ (list 1 ∷ []) ∷ (list 1 ∷ item 3 ∷ []) ∷ []
between-items = refl

-- between two lists: in none
between-lists : spans (codes "- a\n\n+ b") ≡ (list 1 ∷ item 1 ∷ []) ∷ [] ∷ (list 3 ∷ item 3 ∷ []) ∷ []
between-lists = refl

-- in an item that goes on behind it
in-an-item : spans (codes "- a\n\n  - b") ≡ (list 1 ∷ item 1 ∷ []) ∷ (list 1 ∷ item 1 ∷ []) ∷ (list 1 ∷ item 1 ∷ list 3 ∷ item 3 ∷ []) ∷ []
in-an-item = refl

-- behind the last item: in none, though it is as far in as the item's text
behind-an-item : spans (codes "- a\n  \nb") ≡ (list 1 ∷ item 1 ∷ []) ∷ [] ∷ [] ∷ []
behind-an-item = refl

-- an item begins in it
begun-in-it : spans (codes "-\n\na") ≡ (list 1 ∷ item 1 ∷ []) ∷ [] ∷ [] ∷ []
begun-in-it = refl

-- with the marker of a quote, in the quote; without it, in none
marked-quote : spans (codes "> a\n>\nb") ≡ (quote 1 ∷ []) ∷ (quote 1 ∷ []) ∷ [] ∷ []
marked-quote = refl

two-quotes : spans (codes "> a\n\n> b") ≡ (quote 1 ∷ []) ∷ [] ∷ (quote 3 ∷ []) ∷ []
two-quotes = refl

-- with the marker of a quote in an item, in both
quote-in-an-item : spans (codes "- > a\n  >\n- b") ≡ (list 1 ∷ item 1 ∷ quote 1 ∷ []) ∷ (list 1 ∷ item 1 ∷ quote 1 ∷ []) ∷ (list 1 ∷ item 3 ∷ []) ∷ []
quote-in-an-item = refl
