-- The virtual bytes of a table's lines, and its marks over them.
use Rattle.std.proofs.Common.{◌≡◌, ℕ, suc, ◌+◌, Bool, true, false, cond, List, [], ◌∷◌, ◌++◌, refl, ap, take, arith, map, sym, ◌∙◌}
use Rattle.std.specs.List.{prefix_len}
use Rattle.std.proofs.lemmas.Bool.{false≢true}
use Rattle.markdown_base.specs.Virtual.{Seat}
use Rattle.mdconstructs_machines.specs.LineEvents.{ending_of}
use Rattle.mdblock_containers.specs.Prefixes.{columns_of}
use Rattle.mdblock_containers.specs.Rows.{Leaf, Row, closed, holds_ending, is_table, open_fence, open_html, open_paragraph, open_table}
use Rattle.mdblock_containers.specs.Skeleton.{last_of}
use Rattle.mdblock_table_marks.specs.TableMarks.{row_seats, rows_seats}
use Rattle.mdblock_definitions.specs.Definitions.{Place, byte_at, places_in, seats_of}
use Rattle.mdblock_definitions.specs.Sections.{is_in_table}

-- they are those of the places that definitions in these lines would have
bytes-over : (ss : List Seat) (ps : List Place) → seats_of (map byte_at ss ++ ps) ≡ ss ++ seats_of ps
bytes-over [] ps = refl
bytes-over (s ∷ ss) ps = ap (λ l. s ∷ l) (bytes-over ss ps)

pub rows-are-places : (bytes : List ℕ) (r : Row) (more : List Row) → rows_seats (r ∷ more) ≡ seats_of (places_in bytes (r ∷ more))
rows-are-places bytes r [] = sym (bytes-over (row_seats r) [])
rows-are-places bytes r (next ∷ more) =
    ap (λ l. row_seats r ++ ((ending_of r.line ++ take (columns_of next.went_on) next.line) ++ l)) (rows-are-places bytes next more) ∙ sym (bytes-over (row_seats r) _)

-- a table holds no line ending behind it
table-no-ending : (leaf : Leaf) → is_table leaf ≡ true → holds_ending leaf ≡ false
table-no-ending closed h = absurd (false≢true h)
table-no-ending open_paragraph h = absurd (false≢true h)
table-no-ending (open_fence f) h = absurd (false≢true h)
table-no-ending (open_html kind) h = absurd (false≢true h)
table-no-ending open_table h = refl

last-in : (q : Row) (qs : List Row) → is_in_table q ≡ true → is_in_table (last_of q (take (prefix_len is_in_table qs) qs)) ≡ true
last-in q [] h = h
last-in q (x ∷ xs) h = by (last-in x xs) (is_in_table x) refl
  where
    by : (is_in_table x ≡ true → is_in_table (last_of x (take (prefix_len is_in_table xs) xs)) ≡ true) → (b : Bool) → is_in_table x ≡ b
        → is_in_table (last_of q (take (cond b (1 + prefix_len is_in_table xs) 0) (x ∷ xs))) ≡ true
    by more true e = let one : 1 + prefix_len is_in_table xs ≡ suc (prefix_len is_in_table xs) = omega arith in ap (λ n. is_in_table (last_of q (take n (x ∷ xs)))) one ∙ more e
    by more false e = h

pub last-no-ending : (q : Row) (qs : List Row) → is_in_table q ≡ true → holds_ending (last_of q (take (prefix_len is_in_table qs) qs)).leaf ≡ false
last-no-ending q qs h = table-no-ending (last_of q (take (prefix_len is_in_table qs) qs)).leaf (last-in q qs h)
