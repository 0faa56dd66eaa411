-- Where the lines of a document are, and what their containers are, as the code keeps it.
use Rattle.std.specs.Prelude.{◌≡◌, ◌≤◌, ◌<◌, ℕ, suc, ◌+◌, true, false, List, [], ◌∷◌, take, drop, length}
use Rattle.std.specs.List.{prefix_len}
use Rattle.mdblock_leaf_blocks.specs.LeafBlocks.{text_of}
use Rattle.mdblock_lines.specs.Containers.{Container}
use Rattle.mdblock_lines.specs.Lines.{ending_size, is_in_line, line_at, line_bytes}
use Rattle.mdblock_containers.specs.declared.spans.RowAt.{RowAt}
use Rattle.mdblock_containers.specs.Costs.{HaveSizes}
use Rattle.mdblock_containers.specs.Parts.{open_behind}
use Rattle.mdblock_containers.specs.Prefixes.{columns_of, going_on}
use Rattle.mdblock_containers.specs.Rows.{Row}
use Rattle.mdblock_containers.specs.SeatPlaces.{AreInside}
use Rattle.mdblock_containers.specs.Views.{IsRow}

module _ (t : ℕ) (bytes : List ℕ) where
  -- a line with this number, whose first byte has this index
  pub record IsPlaced (number start : ℕ) (x : RowAt) : Type 0 where
    pub number_is : x.span.number ≡ number
    pub start_is : x.span.start ≡ start
    pub inside : start < length bytes
    pub end_is : x.span.end ≡ start + prefix_len is_in_line (drop start bytes)
    pub next_is : x.span.next ≡ x.span.end + ending_size (drop x.span.end bytes)
    pub size_is : x.span.size ≡ length (line_bytes t number 1 start (drop start bytes))
    pub columns : x.row.columns ≤ x.span.size

  -- lines one behind the other, up to an index
  abbrev pub ArePlaced : (number start : ℕ) → List RowAt → (stop : ℕ) → Type 0
  ArePlaced number start [] stop = start ≡ stop
  ArePlaced number start (x ∷ xs) stop = IsPlaced number start x × ArePlaced (suc number) x.span.next xs stop

  -- a line with its containers, behind a line of these open containers
  pub record IsRowIn (stack : List Container) (number start : ℕ) (x : RowAt) (r : Row) : Type 0 where
    pub is : IsRow number x.row r
    pub placed : IsPlaced number start x
    pub line : r.line ≡ line_at t number start (drop start bytes)
    pub went : r.went_on ≡ going_on (take x.row.many stack) number (text_of r.line)
    pub many : x.row.many ≤ length stack
    pub sizes : HaveSizes stack
    pub sum : r.columns ≡ columns_of r.went_on + columns_of r.begun
    pub stays : r.stays ≡ true → r.begun ≡ []
    pub left : r.is_left_blank ≡ true → r.begun ≡ []
    pub lazy : r.is_lazy ≡ true → r.begun ≡ []
    pub whole : r.stays ≡ true → r.is_lazy ≡ false → x.row.many ≡ length stack
    pub fits : AreInside x.row.begun.items (drop x.row.going (text_of r.line))

  -- the lines of a document from one on
  abbrev pub AreRowsIn : (stack : List Container) → (number start : ℕ) → List RowAt → List Row → Type 0
  AreRowsIn stack number start [] [] = start ≡ length bytes
  AreRowsIn stack number start [] (r ∷ rs) = ⊥
  AreRowsIn stack number start (x ∷ xs) [] = ⊥
  AreRowsIn stack number start (x ∷ xs) (r ∷ rs) = IsRowIn stack number start x r × AreRowsIn (open_behind stack r) (suc number) x.span.next xs rs
