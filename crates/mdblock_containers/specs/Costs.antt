-- What a skeleton costs: turns of loops. The columns of a line pay for it, and for what is kept open behind it.
use Rattle.std.specs.Prelude.{◌≡◌, ◌≤◌, ◌⊎◌, ℕ, suc, ◌+◌, ◌-◌, ◌*◌, ◌&&◌, min, Bool, true, false, List, [], ◌∷◌, length}
use Rattle.std.specs.List.{AllByRecursion}
use Rattle.mdblock_lines.specs.Containers.{Container, footnote, item, quote}
use Rattle.mdblock_containers.specs.declared.spans.RowAt.{RowAt}
use Rattle.mdblock_containers.specs.Rows.{Row, has_none}
use Rattle.mdblock_containers.specs.Skeleton.{going_on_at}

-- a line needs columns of white space to go on with an item
abbrev pub HasSize : Container → Type 0
HasSize (quote q) = Unit {0}
HasSize (item i) = 1 ≤ i.size
HasSize (footnote f) = Unit {0}

abbrev pub HaveSizes : List Container → Type 0
HaveSizes cs = AllByRecursion HasSize cs

-- the columns of lines, and one more for each
abbrev pub columns_in : List RowAt → ℕ
columns_in [] = 0
columns_in (x ∷ xs) = suc x.span.size + columns_in xs

-- only white space is behind the prefixes of a line, and no container begins in it
abbrev pub is_bare : Row → Bool
is_bare r = r.is_blank && has_none r.begun

-- each container of a line takes a column of it, unless the line is bare, as one is that is left blank; a line that goes on lazily is in the stretch
-- of the line before
pub record IsPaid (r : Row) : Type 0 where
  pub columns : is_bare r ≡ false → length r.went_on + length r.begun ≤ r.columns
  pub lazy : r.is_lazy ≡ true → (r.stays ≡ true) × (r.is_left_blank ≡ false)
  pub left : r.is_left_blank ≡ true → is_bare r ≡ true

-- behind a blank line none goes on lazily; behind a bare one no more containers go on than with it
abbrev pub Follows : Row → List Row → Type 0
Follows r [] = Unit {0}
Follows r (s ∷ rs) = (r.is_blank ≡ true → s.is_lazy ≡ false) × (is_bare r ≡ true → length s.went_on ≤ length r.went_on)

abbrev pub ArePaid : List Row → Type 0
ArePaid [] = Unit {0}
ArePaid (r ∷ rs) = IsPaid r × Follows r rs × ArePaid rs

-- the first of some lines does not go on lazily
abbrev pub FirstIsNotLazy : List Row → Type 0
FirstIsNotLazy [] = Unit {0}
FirstIsNotLazy (r ∷ rs) = r.is_lazy ≡ false

-- So many open containers may be asked yet whether a blank line stands in them: all, or, behind a bare line, those in which that line stands. Those
-- from `from` on up to `to` have been asked
abbrev pub IsAsked : (asked from to open_ones : ℕ) → List Row → Type 0
IsAsked asked from to open_ones [] = Unit {0}
IsAsked asked from to open_ones (r ∷ rs) =
    (r.is_lazy ≡ false) × ((open_ones ≤ asked) ⊎ ((asked ≡ from) × (length r.went_on ≤ to) × (min to (going_on_at (r ∷ rs)) ≤ from)))

-- What is left to pay: each open span ends once, each container in which a part stands is left once, each that may be asked is asked once, and
-- each of these in which the part does not stand may be entered
abbrev pub to_pay : (spans containers asked : ℕ) → ℕ
to_pay spans containers asked = spans + (containers + (asked + 4 * (asked - containers)))

-- so many turns were made, and a budget is enough for them and for what is left to pay
pub record IsEnough (turns budget spans containers from to open_ones : ℕ) (rs : List Row) : Type 0 where
  pub asked : ℕ
  pub are : IsAsked asked from to open_ones rs
  pub enough : turns + to_pay spans containers asked ≤ budget
