-- The containers of a line: which of those that are open go on with it, and which begin in it (CommonMark 0.31, 5). A line is its bytes without
-- its line ending; a prefix is a number of columns. The definitions have no states.
use Rattle.std.specs.Prelude.{ℕ, zero, suc, ◌==◌, Bool, false, cond, List, [], ◌∷◌, drop, map, sum_by, Some, None}
use Rattle.markdown_base.specs.declared.configuration.Constructs.{Constructs}
use Rattle.mdblock_lines.specs.Containers.{Container, item, Prefix, goes_on, begins}

-- the columns of prefixes together
abbrev pub columns_of : List Prefix → ℕ
columns_of ps = sum_by (λ p. p.size) ps

abbrev pub containers_of : List Prefix → List Container
containers_of ps = map (λ p. p.container) ps

-- The open containers that go on with a line, from the outermost on: each with what the prefixes before it leave of the line, up to the first
-- that does not. "The result of prepending a block quote marker to the beginning of each line in Ls is a block quote containing Bs" (5.1), "and
-- indenting subsequent lines of Ls by W + N spaces, is a list item with Bs as its contents" (5.2)
abbrev pub going_on : List Container → (number : ℕ) → List ℕ → List Prefix
going_on [] number t = []
going_on (c ∷ cs) number t = elim (goes_on c number t) [
  | None ↦ []
  | Some n ↦ record { container = c; size = n } ∷ going_on cs number (drop n t)
]

-- A container in the place of one that ended. "A list is a sequence of one or more list items of the same type", and "two list items are of the same
-- type if they begin with a list marker of the same type" (5.3)
abbrev pub in_place_of : (ended new : Container) → Container
in_place_of (item old) (item new) = item (cond (old.marker == new.marker) (record new { list = old.list }) new)
in_place_of _ new = new

-- of containers that begin in a line, only the first can take the place of one that ended
abbrev pub with_list : (ended : List Container) → List Prefix → List Prefix
with_list (c ∷ cs) (p ∷ ps) = record p { container = in_place_of c p.container } ∷ ps
with_list _ begun = begun

-- The constructs that are on
module _ (on : Constructs) where
  -- The containers that begin with a line's rest, so many at most: each behind the prefix of the one before. Only the first can interrupt a paragraph
  abbrev pub beginning : (bound number : ℕ) → (in_paragraph : Bool) → List ℕ → List Prefix
  beginning zero number in_paragraph t = []
  beginning (suc bound) number in_paragraph t = elim (begins on number in_paragraph t) [
    | None ↦ []
    | Some p ↦ p ∷ beginning bound number false (drop p.size t)
  ]
