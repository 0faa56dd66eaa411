-- Where the places of lines move, the marks of their table move.
use Rattle.std.proofs.Common.{◌≡◌, ℕ, Bool, true, false, cond, not, List, [], ◌∷◌, ◌++◌, drop, map, refl, sym, ap, take, ◌∙◌}
use Rattle.std.specs.Prelude.{None}
use Rattle.std.specs.List.{AllByRecursion}
use Rattle.std.proofs.lemmas.List.{drop-map, map-append, take-map}
use Rattle.std.proofs.lemmas.Simd.{map-map}
use Rattle.markdown_base.proofs.Common.{every-append, every-drop, every-filter, every-take}
use Rattle.markdown_base.specs.declared.event.Event.{Event}
use Rattle.markdown_base.specs.declared.event.Kind.{Kind}
use Rattle.markdown_base.specs.declared.event.Kind.TheVariants.{Enter, Exit}
use Rattle.markdown_base.specs.declared.event.Name.{Name}
use Rattle.markdown_base.specs.declared.event.Name.TheVariants as name
use Rattle.markdown_base.specs.declared.event.Point.{Point}
use Rattle.markdown_base.specs.Virtual.{Seat, end_after}
use Rattle.mdconstructs_machines.specs.LineEvents.{ending_of, is_line_ending, line_text}
use Rattle.mdconstructs_machines.specs.Spans.{event}
use Rattle.mdblock_leaf_blocks.specs.LeafBlocks.{bytes_of}
use Rattle.mdblock_leaf_blocks.specs.LeafEvents.{Mark, leaf_marks, span_marks}
use Rattle.mdblock_tables.specs.declared.rows.RowKind.{RowKind}
use Rattle.mdblock_tables.specs.declared.rows.RowKind.TheVariants.{Text, Delimiter}
use Rattle.mdblock_tables.specs.Laws.{moved, moved_mark}
use Rattle.mdblock_tables.specs.Pieces.{Pieces, nothing, leaf, span, placed, size_of}
use Rattle.mdblock_tables.specs.TablePieces.{row_pieces}
use Rattle.mdblock_containers.specs.Prefixes.{columns_of}
use Rattle.mdblock_containers.specs.Rows.{Row, rest_of}
use Rattle.mdblock_containers.specs.Skeleton.{prefixes_marks}
use Rattle.mdblock_table_marks.specs.Laws.{AreMovedRows, IsKnownRow, TablesMove}
use Rattle.mdblock_table_marks.specs.TableMarks.{body_marks, head_marks, marks_behind, marks_between, row_marks, row_seats, rows_marks, rows_seats, seats_behind, seats_between}
use Rattle.mdblock_table_marks.proofs.TableSpans.{rest-is}

-- places of one document in another, and what marks there come to be: an event at a known place comes to be one at the place where it moves
module _ (old new : List ℕ) (f : Point → Point) (known : Point → Bool) (h : Mark → Mark) (is : (k : Kind) (n : Name) (p : Point) → known p ≡ true → (event new k n (f p), None) ≡ h (event old k n p, None)) where
  abbrev pub ms : List Seat → List Seat
  ms seats = map (moved f) seats

  abbrev pub mk : List Mark → List Mark
  mk marks = map h marks

  abbrev pub IsKnown : Seat → Type 0
  IsKnown s = (known s.point ≡ true) × (known s.end ≡ true)

  abbrev pub AreKnown : List Seat → Type 0
  AreKnown seats = AllByRecursion IsKnown seats

  two : (x y x2 y2 : List Mark) → x ≡ mk y → x2 ≡ mk y2 → x ++ x2 ≡ mk (y ++ y2)
  two x y x2 y2 e e2 = (λ i. e i ++ e2 i) ∙ sym (map-append h y y2)

  end-known : (p : Point) (seats : List Seat) → known p ≡ true → AreKnown seats → known (end_after p seats) ≡ true
  end-known p [] e k = e
  end-known p (s ∷ ss) e k = end-known s.end ss k.0.1 k.1

  end-moved : (p : Point) (seats : List Seat) → end_after (f p) (ms seats) ≡ f (end_after p seats)
  end-moved p [] = refl
  end-moved p (s ∷ ss) = end-moved s.end ss

  span-moved : (n : Name) (seats : List Seat) (x y : List Mark) → AreKnown seats → x ≡ mk y → span_marks new n (ms seats) x ≡ mk (span_marks old n seats y)
  span-moved n [] x y k e = e
  span-moved n (s ∷ ss) x y k e =
      let first = is Enter n s.point k.0.0 in
      let exit : Mark = (event old Exit n (end_after s.end ss), None) in
      let last : (event new Exit n (end_after (f s.end) (ms ss)), None) ≡ h exit = ap (λ p. let v : Mark = (event new Exit n p, None) in v) (end-moved s.end ss) ∙ is Exit n (end_after s.end ss) (end-known s.end ss k.0.1 k.1) in
      (λ i. first i ∷ (e i ++ last i ∷ [])) ∙ ap (λ l. h (event old Enter n s.point, None) ∷ l) (sym (map-append h y (exit ∷ [])))

  -- the same, of virtual bytes that are those moved
  span-to : (n : Name) (there here : List Seat) (x y : List Mark) → there ≡ ms here → AreKnown here → x ≡ mk y → span_marks new n there x ≡ mk (span_marks old n here y)
  span-to n there here x y s k e = ap (λ l. span_marks new n l x) s ∙ span-moved n here x y k e

  pub placed-moved : (ps : Pieces) (seats : List Seat) → AreKnown seats → placed new ps (ms seats) ≡ mk (placed old ps seats)
  placed-moved nothing seats k = refl
  placed-moved (leaf n size ps) seats k =
      (λ i. leaf_marks new n (take-map (moved f) size seats i) ++ placed new ps (drop-map (moved f) size seats i))
      ∙ two _ _ _ _ (span-moved n (take size seats) [] [] (every-take IsKnown size seats k) refl) (placed-moved ps (drop size seats) (every-drop IsKnown size seats k))
  placed-moved (span n within ps) seats k =
      let size = size_of within in
      let front = every-take IsKnown size seats k in
      (λ i. span_marks new n (take-map (moved f) size seats i) (placed new within (take-map (moved f) size seats i)) ++ placed new ps (drop-map (moved f) size seats i))
      ∙ two _ _ _ _ (span-moved n (take size seats) _ (placed old within (take size seats)) front (placed-moved within (take size seats) front)) (placed-moved ps (drop size seats) (every-drop IsKnown size seats k))

  -- ---- lines
  text-moved : (line : List Seat) → line_text (ms line) ≡ ms (line_text line)
  text-moved [] = refl
  text-moved (s ∷ ss) = by (is_line_ending s) (text-moved ss)
    where
      by : (b : Bool) → line_text (ms ss) ≡ ms (line_text ss) → cond (not b) (moved f s ∷ line_text (ms ss)) (line_text (ms ss)) ≡ ms (cond (not b) (s ∷ line_text ss) (line_text ss))
      by true e = e
      by false e = ap (λ l. moved f s ∷ l) e

  ending-moved : (line : List Seat) → ending_of (ms line) ≡ ms (ending_of line)
  ending-moved [] = refl
  ending-moved (s ∷ ss) = by (is_line_ending s) (ending-moved ss)
    where
      by : (b : Bool) → ending_of (ms ss) ≡ ms (ending_of ss) → cond b (moved f s ∷ ending_of (ms ss)) (ending_of (ms ss)) ≡ ms (cond b (s ∷ ending_of ss) (ending_of ss))
      by true e = ap (λ l. moved f s ∷ l) e
      by false e = e

  -- a line, and where it moves
  pub record IsMovedBy (r s : Row) : Type 0 where
    pub line : s.line ≡ ms r.line
    pub columns : s.columns ≡ r.columns
    pub prefixes : columns_of s.went_on ≡ columns_of r.went_on
    pub marks : prefixes_marks new s.went_on s.line ≡ mk (prefixes_marks old r.went_on r.line)
    pub known_line : AreKnown r.line

  abbrev pub AreMovedBy : List Row → List Row → Type 0
  AreMovedBy [] [] = Unit {0}
  AreMovedBy [] (s ∷ ss) = ⊥
  AreMovedBy (r ∷ rs) [] = ⊥
  AreMovedBy (r ∷ rs) (s ∷ ss) = IsMovedBy r s × AreMovedBy rs ss

  -- ---- the virtual bytes of lines

  known-row : (r s : Row) → IsMovedBy r s → AreKnown (row_seats r)
  known-row r s m = every-drop IsKnown r.columns (line_text r.line) (every-filter IsKnown (λ x. not (is_line_ending x)) r.line m.known_line)

  row-there : (r s : Row) → IsMovedBy r s → row_seats s ≡ ms (row_seats r)
  row-there r s m = (λ i. drop (m.columns i) (line_text (m.line i))) ∙ ap (drop r.columns) (text-moved r.line) ∙ drop-map (moved f) r.columns (line_text r.line)

  known-ending : (r s : Row) → IsMovedBy r s → AreKnown (ending_of r.line)
  known-ending r s m = every-filter IsKnown is_line_ending r.line m.known_line

  ending-there : (r s : Row) → IsMovedBy r s → ending_of s.line ≡ ms (ending_of r.line)
  ending-there r s m = ap ending_of m.line ∙ ending-moved r.line

  known-between : (r s r2 s2 : Row) → IsMovedBy r s → IsMovedBy r2 s2 → AreKnown (seats_between r r2)
  known-between r s r2 s2 m m2 = every-append IsKnown (ending_of r.line) (take (columns_of r2.went_on) r2.line) (known-ending r s m) (every-take IsKnown (columns_of r2.went_on) r2.line m2.known_line)

  between-there : (r s r2 s2 : Row) → IsMovedBy r s → IsMovedBy r2 s2 → seats_between s s2 ≡ ms (seats_between r r2)
  between-there r s r2 s2 m m2 =
      let n = columns_of r2.went_on in
      (λ i. ending-there r s m i ++ take (m2.prefixes i) (m2.line i)) ∙ ap (λ l. ms (ending_of r.line) ++ l) (take-map (moved f) n r2.line)
      ∙ sym (map-append (moved f) (ending_of r.line) (take n r2.line))

  known-behind : (r s : Row) (rs ss : List Row) → IsMovedBy r s → AreMovedBy rs ss → AreKnown (seats_behind r rs)
  known-behind r s [] ss m ms2 = tt
  known-behind r s (r2 ∷ rs) [] m ms2 = absurd ms2
  known-behind r s (r2 ∷ rs) (s2 ∷ ss) m ms2 =
      every-append IsKnown (seats_between r r2) (row_seats r2 ++ seats_behind r2 rs) (known-between r s r2 s2 m ms2.0)
      (every-append IsKnown (row_seats r2) (seats_behind r2 rs) (known-row r2 s2 ms2.0) (known-behind r2 s2 rs ss ms2.0 ms2.1))

  behind-there : (r s : Row) (rs ss : List Row) → IsMovedBy r s → AreMovedBy rs ss → seats_behind s ss ≡ ms (seats_behind r rs)
  behind-there r s [] [] m ms2 = refl
  behind-there r s [] (s2 ∷ ss) m ms2 = absurd ms2
  behind-there r s (r2 ∷ rs) [] m ms2 = absurd ms2
  behind-there r s (r2 ∷ rs) (s2 ∷ ss) m ms2 =
      (λ i. between-there r s r2 s2 m ms2.0 i ++ (row-there r2 s2 ms2.0 i ++ behind-there r2 s2 rs ss ms2.0 ms2.1 i))
      ∙ ap (λ l. ms (seats_between r r2) ++ l) (sym (map-append (moved f) (row_seats r2) (seats_behind r2 rs)))
      ∙ sym (map-append (moved f) (seats_between r r2) (row_seats r2 ++ seats_behind r2 rs))

  known-rows : (r s : Row) (rs ss : List Row) → IsMovedBy r s → AreMovedBy rs ss → AreKnown (rows_seats (r ∷ rs))
  known-rows r s rs ss m ms2 = every-append IsKnown (row_seats r) (seats_behind r rs) (known-row r s m) (known-behind r s rs ss m ms2)

  rows-there : (r s : Row) (rs ss : List Row) → IsMovedBy r s → AreMovedBy rs ss → rows_seats (s ∷ ss) ≡ ms (rows_seats (r ∷ rs))
  rows-there r s rs ss m ms2 = (λ i. row-there r s m i ++ behind-there r s rs ss m ms2 i) ∙ sym (map-append (moved f) (row_seats r) (seats_behind r rs))

  -- ---- their marks

  row-moved : (kind : RowKind) (r s : Row) → IsMovedBy r s → row_marks new kind s ≡ mk (row_marks old kind r)
  row-moved kind r s m =
      let seats = row_seats r in
      let there = row-there r s m in
      let rest : rest_of s ≡ rest_of r = rest-is s ∙ ap bytes_of there ∙ map-map (λ (s : Seat). s.byte) (moved f) seats ∙ sym (rest-is r) in
      (λ i. placed new (row_pieces kind (rest i)) (there i)) ∙ placed-moved (row_pieces kind (rest_of r)) seats (known-row r s m)

  between-moved : (r s r2 s2 : Row) → IsMovedBy r s → IsMovedBy r2 s2 → marks_between new s s2 ≡ mk (marks_between old r r2)
  between-moved r s r2 s2 m m2 =
      two _ (leaf_marks old name.LineEnding (ending_of r.line)) _ _ (span-to name.LineEnding (ending_of s.line) (ending_of r.line) [] [] (ending-there r s m) (known-ending r s m) refl) m2.marks

  behind-moved : (r s : Row) (rs ss : List Row) → IsMovedBy r s → AreMovedBy rs ss → marks_behind new s ss ≡ mk (marks_behind old r rs)
  behind-moved r s [] [] m ms2 = refl
  behind-moved r s [] (s2 ∷ ss) m ms2 = absurd ms2
  behind-moved r s (r2 ∷ rs) [] m ms2 = absurd ms2
  behind-moved r s (r2 ∷ rs) (s2 ∷ ss) m ms2 =
      two _ (marks_between old r r2) _ _ (between-moved r s r2 s2 m ms2.0) (two _ (row_marks old Text r2) _ _ (row-moved Text r2 s2 ms2.0) (behind-moved r2 s2 rs ss ms2.0 ms2.1))

  head-moved : (r s r2 s2 : Row) → IsMovedBy r s → IsMovedBy r2 s2 → head_marks new s s2 ≡ mk (head_marks old r r2)
  head-moved r s r2 s2 m m2 =
      span-to name.GfmTableHead (rows_seats (s ∷ s2 ∷ [])) (rows_seats (r ∷ r2 ∷ [])) _ (row_marks old Text r ++ (marks_between old r r2 ++ row_marks old Delimiter r2)) (rows-there r s (r2 ∷ []) (s2 ∷ []) m (m2, tt)) (known-rows r s (r2 ∷ []) (s2 ∷ []) m (m2, tt))
      (two _ (row_marks old Text r) _ _ (row-moved Text r s m) (two _ (marks_between old r r2) _ _ (between-moved r s r2 s2 m m2) (row-moved Delimiter r2 s2 m2)))

  body-moved : (r s : Row) (rs ss : List Row) → IsMovedBy r s → AreMovedBy rs ss → body_marks new s ss ≡ mk (body_marks old r rs)
  body-moved r s [] [] m ms2 = refl
  body-moved r s [] (s2 ∷ ss) m ms2 = absurd ms2
  body-moved r s (r2 ∷ rs) [] m ms2 = absurd ms2
  body-moved r s (r2 ∷ rs) (s2 ∷ ss) m ms2 =
      two _ (marks_between old r r2) _ _ (between-moved r s r2 s2 m ms2.0)
      (span-to name.GfmTableBody (rows_seats (s2 ∷ ss)) (rows_seats (r2 ∷ rs)) _ (row_marks old Text r2 ++ marks_behind old r2 rs) (rows-there r2 s2 rs ss ms2.0 ms2.1) (known-rows r2 s2 rs ss ms2.0 ms2.1)
      (two _ (row_marks old Text r2) _ _ (row-moved Text r2 s2 ms2.0) (behind-moved r2 s2 rs ss ms2.0 ms2.1)))

  pub table-moved : (r s : Row) (rs ss : List Row) → IsMovedBy r s → AreMovedBy rs ss → rows_marks new s ss ≡ mk (rows_marks old r rs)
  table-moved r s [] [] m ms2 = row-moved Text r s m
  table-moved r s [] (s2 ∷ ss) m ms2 = absurd ms2
  table-moved r s (r2 ∷ rs) [] m ms2 = absurd ms2
  table-moved r s (r2 ∷ rs) (s2 ∷ ss) m ms2 =
      span-to name.GfmTable (rows_seats (s ∷ s2 ∷ ss)) (rows_seats (r ∷ r2 ∷ rs)) _ (head_marks old r r2 ++ body_marks old r2 rs) (rows-there r s (r2 ∷ rs) (s2 ∷ ss) m ms2) (known-rows r s (r2 ∷ rs) (s2 ∷ ss) m ms2)
      (two _ (head_marks old r r2) _ _ (head-moved r s r2 s2 m ms2.0) (body-moved r2 s2 rs ss ms2.0 ms2.1))

pub tables_move : TablesMove
tables_move old new f known shows r s rs ss m k =
    let all = both (r ∷ rs) (s ∷ ss) m k in
    table-moved old new f known (moved_mark f) is r s rs ss all.0 all.1
  where
    is : (k : Kind) (n : Name) (p : Point) → known p ≡ true → (event new k n (f p), None) ≡ moved_mark f (event old k n p, None)
    is k n p e = (λ i. ((let v : Event = record { kind = k; name = n; point = shows p e i; link = None } in v), None))

    both : (xs ys : List Row) → AreMovedRows old new f xs ys → AllByRecursion (IsKnownRow known) xs → AreMovedBy old new f known (moved_mark f) is xs ys
    both [] [] m k = tt
    both [] (y ∷ ys) m k = absurd m
    both (x ∷ xs) [] m k = absurd m
    both (x ∷ xs) (y ∷ ys) m k = (record { line = m.0.line; columns = m.0.columns; prefixes = m.0.prefixes; marks = m.0.marks; known_line = k.0 }, both xs ys m.1 k.1)
