-- What is known of lines from the lines behind them, as the code keeps it.
use Rattle.std.specs.Prelude.{nat_lt, cond, List, [], ◌∷◌, Option, Some, None}
use Rattle.mdblock_lines.specs.Containers.{Container, Prefix, quote, item, footnote}
use Rattle.mdblock_containers.specs.declared.ahead.Ahead.{Ahead}
use Rattle.mdblock_containers.specs.declared.frames.Frame.{Frame}
use Rattle.mdblock_containers.specs.declared.spans.RowAt.{RowAt}
use Rattle.mdblock_containers.specs.Rows.{Row}
use Rattle.mdblock_containers.specs.Skeleton.{further, going_on_at, list_name}
use Rattle.mdblock_containers.specs.Views.{IsRow}

-- lines with their containers, one by one
abbrev pub AreRows : List RowAt → List Row → Type 0
AreRows [] [] = Unit {0}
AreRows [] (r ∷ rs) = ⊥
AreRows (x ∷ xs) [] = ⊥
AreRows (x ∷ xs) (r ∷ rs) = IsRow x.span.number x.row r × AreRows xs rs

-- the list of a container that is an item and not the first of it
abbrev pub frame_before : Container → Option Frame
frame_before (quote q) = None
frame_before (item i) = cond (nat_lt i.list i.line) (Some (record { name = list_name i; line = i.list })) None
frame_before (footnote f) = None

abbrev pub frame_begun : List Prefix → Option Frame
frame_begun [] = None
frame_begun (p ∷ ps) = frame_before p.container

-- the list that goes on at the next line that is not left blank, if one does in which no item is open (`list_at`)
abbrev pub frame_ahead : List Row → Option Frame
frame_ahead [] = None
frame_ahead (row ∷ behind) = cond row.is_left_blank (frame_ahead behind) (frame_begun row.begun)

-- what these lines tell of the line before them
abbrev pub ahead_of : List Row → Ahead
ahead_of behind = record { further = further behind; many = going_on_at behind; list = frame_ahead behind }
