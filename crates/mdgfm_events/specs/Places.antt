-- Places in a line, by the indices of bytes, and spans between them.
use Rattle.std.specs.Prelude.{ℕ, ◌+◌, ◌-◌, ◌^◌, ◌==◌, min, nat_le, nat_lt, cond, List, [], ◌∷◌, slice_range, None}
use Rattle.markdown_base.specs.declared.event.Event.{Event}
use Rattle.markdown_base.specs.declared.event.Kind.{Kind}
use Rattle.markdown_base.specs.declared.event.Kind.TheVariants.{Enter, Exit}
use Rattle.markdown_base.specs.declared.event.Name.{Name}
use Rattle.markdown_base.specs.declared.event.Point.{Point}
use Rattle.markdown_base.specs.Virtual.{tab_width}

-- the column behind a byte at a column. A column that does not fit its type is its greatest; no document that can be read has one
abbrev pub next_column : (tab column byte : ℕ) → ℕ
next_column tab column b = min (column + cond (b == 9) (tab_width tab column) 1) (2 ^ 64 - 1)

-- the column behind these bytes of a line
abbrev pub column_behind : (tab column : ℕ) → List ℕ → ℕ
column_behind tab column [] = column
column_behind tab column (b ∷ bs) = column_behind tab (next_column tab column b) bs

-- the place at an index that is further on in the line of a place; this place, if it is not further on
abbrev pub place_at : (tab : ℕ) → List ℕ → Point → (index : ℕ) → Point
place_at tab bytes p index =
    cond (nat_le index p.index) p (record { line = p.line; column = column_behind tab p.column (slice_range bytes p.index index); index = index; vs = 0 })

-- the place that is further on
abbrev pub later : Point → Point → Point
later p q = cond (nat_le p.index q.index) q p

abbrev pub event : Kind → Name → Point → Event
event kind name p = record { kind = kind; name = name; point = p; link = None }

-- a span between two places with nothing in it, if there are bytes between them
abbrev pub leaf : Name → (from to : Point) → List Event
leaf name p q = cond (nat_lt p.index q.index) (event Enter name p ∷ event Exit name q ∷ []) []
