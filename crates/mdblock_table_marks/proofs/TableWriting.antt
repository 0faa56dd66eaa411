-- How a table is written, row by row.
use Rattle.std.proofs.Common.{◌≡◌, ℕ, ◌+◌, ◌<◌, ◌≤◌, Bool, true, List, [], ◌∷◌, ◌++◌, append-nil, append_assoc, length, take, drop, get_or, ne_eqb, refl, sym, ap, ◌∙◌, subst, arith, length-drop}
use Rattle.std.specs.Prelude.{◌==◌, false, None}
use Rattle.std.specs.List.{AllByRecursion}
use Rattle.std.proofs.lemmas.Bool.{false≢true}
use Rattle.std.proofs.lemmas.List.{length-append, map-append}
use Rattle.markdown_base.proofs.Common.{every-drop}
use Rattle.markdown_base.specs.declared.event.Event.{Event}
use Rattle.markdown_base.specs.declared.event.Kind.TheVariants.{Enter, Exit}
use Rattle.markdown_base.specs.declared.event.Name.TheVariants as name
use Rattle.markdown_base.specs.declared.event.Point.{Point}
use Rattle.markdown_base.specs.Virtual.{IsWithinLimit}
use Rattle.mdconstructs_machines.specs.LineEvents.{ending_of, line_text}
use Rattle.mdblock_leaf_blocks.specs.LeafEvents.{Mark}
use Rattle.mdblock_lines.specs.Containers.{Container}
use Rattle.mdblock_lines.specs.Lines.{place_after}
use Rattle.mdblock_tables.specs.declared.rows.RowKind.TheVariants.{Text, Delimiter}
use Rattle.mdblock_containers.specs.declared.prefixes.At.{At}
use Rattle.mdblock_containers.specs.declared.spans.RowAt.{RowAt}
use Rattle.mdblock_containers.specs.PlaceEvents.{event_at}
use Rattle.mdblock_containers.specs.Prefixes.{columns_of}
use Rattle.mdblock_containers.specs.Rows.{Row}
use Rattle.mdblock_containers.specs.SeatPlaces.{events_of}
use Rattle.mdblock_containers.specs.Written.{Written}
use Rattle.mdblock_containers.proofs.WrittenLemmas.{write_plain}
use Rattle.mdblock_containers.proofs.WritingLemmas.{write-both}
use Rattle.mdblock_table_marks.specs.Lines.{AreLines, AreNext, CanBeTable, FromTo, HasText, HaveLines, IsBegin, IsFurther, IsLine, IsNext, IsStanding, begin_at, end_at, last_end}
use Rattle.mdblock_table_marks.specs.TableMarks.{body_marks, head_marks, marks_behind, marks_between, row_marks, row_seats, rows_marks, rows_seats, seats_behind}
use Rattle.mdblock_table_marks.proofs.LineLemmas.{further-are, lines-next, next-line, rows-go, rows-split, size-is, write-span}
use Rattle.mdblock_table_marks.proofs.TableShapes.{plain-tables}

-- a fact of each line holds of one
pub at-line : (P : RowAt → Type 0) (rows : List RowAt) (i : ℕ) (x : RowAt) → drop i rows ≡ x ∷ drop (i + 1) rows → AllByRecursion P rows → P x
at-line P rows i x split h = (subst (AllByRecursion P) split (every-drop P i rows h)).0

module _ (t : ℕ) (bytes : List ℕ) (stack : List Container) where
  -- ---- row by row

  -- rows are written up to a place; these lines are left
  pub record IsLeft (place : Point) (xs : List RowAt) (now all : List Event) : Type 0 where
    pub before : Row
    pub rest : List Row
    pub are : AreNext t bytes stack place before xs rest
    pub events : now ++ events_of (marks_behind bytes before rest) ≡ all

  pub left-init : (place : Point) (xs : List RowAt) (now : List Event) (r : Row) (rs : List Row) → AreNext t bytes stack place r xs rs → IsLeft place xs now (now ++ events_of (marks_behind bytes r rs))
  left-init place xs now r rs are = record { before = r; rest = rs; are = are; events = refl }

  pub left-next : (place q : Point) (xs : List RowAt) (y : RowAt) (ys : List RowAt) (now new all : List Event) → xs ≡ y ∷ ys → q ≡ end_at t bytes y
      → ((r s : Row) → IsNext t bytes stack place r y s → new ≡ now ++ events_of (marks_between bytes r s ++ row_marks bytes Text s))
      → IsLeft place xs now all → IsLeft q ys new all
  left-next place q xs y ys now new all split at writes left = by left.before left.rest (subst (λ (l : List RowAt). AreNext t bytes stack place left.before l left.rest) split left.are) left.events
    where
      by : (r : Row) (rest : List Row) → AreNext t bytes stack place r (y ∷ ys) rest → now ++ events_of (marks_behind bytes r rest) ≡ all → IsLeft q ys new all
      by r [] are e = absurd are
      by r (s ∷ ss) are e =
          let here = marks_between bytes r s ++ row_marks bytes Text s in
          let behind = marks_behind bytes s ss in
          let whole : here ++ behind ≡ marks_behind bytes r (s ∷ ss) = append_assoc (marks_between bytes r s) (row_marks bytes Text s) behind in
          record {
            before = s;
            rest = ss;
            are = subst (λ (p : Point). AreNext t bytes stack p s ys ss) (sym at) are.1;
            events =
                ap (λ l. l ++ events_of behind) (writes r s are.0) ∙ append_assoc now (events_of here) (events_of behind)
                ∙ ap (λ l. now ++ l) (sym (map-append (λ (m : Mark). m.0) here behind)) ∙ ap (λ l. now ++ events_of l) whole ∙ e;
          }

  pub left-none : (place : Point) (xs : List RowAt) (now all : List Event) → xs ≡ [] → IsLeft place xs now all → now ≡ all
  left-none place xs now all none left = by left.rest (subst (λ (l : List RowAt). AreNext t bytes stack place left.before l left.rest) none left.are) left.events
    where
      by : (rest : List Row) → AreNext t bytes stack place left.before [] rest → now ++ events_of (marks_behind bytes left.before rest) ≡ all → now ≡ all
      by [] are e = sym (append-nil now) ∙ e
      by (s ∷ ss) are e = absurd are

  -- ---- head and body

  rows-some : (r s : Row) (ss : List Row) (place : Point) (y : RowAt) → IsNext t bytes stack place r y s → 1 ≤ length (rows_seats (r ∷ s ∷ ss))
  rows-some r s ss place y n =
      let a = row_seats r in
      let b = ending_of r.line in
      let c = take (columns_of s.went_on) s.line in
      let d = row_seats s ++ seats_behind s ss in
      omega (arith, n.some, length-append a ((b ++ c) ++ d), length-append (b ++ c) d, length-append b c)

  module _ (some : 0 < t) (limit : IsWithinLimit t bytes) where
    -- the virtual bytes of lines, from the place where they begin
    from-begin : (x : RowAt) (r : Row) (begin : At) → IsLine t bytes x r → begin.columns ≡ r.columns → begin.place ≡ place_after t bytes (begin_at x) begin.columns → (ys : List RowAt) (ss : List Row)
        → AreNext t bytes stack (end_at t bytes x) r ys ss → (last : Point) → last ≡ last_end t bytes (end_at t bytes x) ys → FromTo bytes begin.place last (rows_seats (r ∷ ss))
    from-begin x r begin is columns place ys ss are last end =
        let first : place_after t bytes (begin_at x) r.columns ≡ begin.place = ap (place_after t bytes (begin_at x)) (sym columns) ∙ sym place in
        subst (λ (p : Point). FromTo bytes p last (rows_seats (r ∷ ss))) first
        (subst (λ (q : Point). FromTo bytes (place_after t bytes (begin_at x) r.columns) q (rows_seats (r ∷ ss))) (sym end) (rows-go t bytes some limit stack x r is ys ss are))

    pub head-written : (x y : RowAt) (begin : At) (header end : Point) (old e1 e2 e3 e4 : List Event) → begin.columns ≡ x.row.columns → begin.place ≡ place_after t bytes (begin_at x) begin.columns
        → header ≡ end_at t bytes x → end ≡ end_at t bytes y → e1 ≡ old ++ event_at Enter name.GfmTableHead begin.place ∷ []
        → ((r : Row) → IsLine t bytes x r → e2 ≡ e1 ++ events_of (row_marks bytes Text r))
        → ((r s : Row) → IsNext t bytes stack header r y s → e3 ≡ e2 ++ events_of (marks_between bytes r s ++ row_marks bytes Delimiter s))
        → e4 ≡ e3 ++ event_at Exit name.GfmTableHead end ∷ []
        → (r s : Row) → IsLine t bytes x r → IsNext t bytes stack (end_at t bytes x) r y s → e4 ≡ old ++ events_of (head_marks bytes r s)
    head-written x y begin header end old e1 e2 e3 e4 columns place at last f1 f2 f3 f4 r s is n =
        let inside = row_marks bytes Text r ++ (marks_between bytes r s ++ row_marks bytes Delimiter s) in
        let there : IsNext t bytes stack header r y s = subst (λ (p : Point). IsNext t bytes stack p r y s) (sym at) n in
        write-span bytes name.GfmTableHead begin.place end (rows_seats (r ∷ s ∷ [])) inside
        (from-begin x r begin is (columns ∙ is.columns) place (y ∷ []) (s ∷ []) (n, tt) end last) (rows-some r s [] (end_at t bytes x) y n) old e1 e3 e4 f1
        (write-both e1 e2 e3 (row_marks bytes Text r) (marks_between bytes r s ++ row_marks bytes Delimiter s) (f2 r is) (f3 r s there)) f4

    pub body-written : (x : RowAt) (more : List RowAt) (place : Point) (at : At) (row last : Point) (old e0 e1 e2 e3 e4 : List Event) → HasText x
        → ((r s : Row) → IsNext t bytes stack place r x s → e0 ≡ old ++ events_of (marks_between bytes r s))
        → ((r s : Row) → IsNext t bytes stack place r x s → at.columns ≡ s.columns) → at.place ≡ place_after t bytes (begin_at x) at.columns
        → row ≡ end_at t bytes x → last ≡ last_end t bytes row more → e1 ≡ e0 ++ event_at Enter name.GfmTableBody at.place ∷ []
        → ((r : Row) → IsLine t bytes x r → at.columns ≡ r.columns → e2 ≡ e1 ++ events_of (row_marks bytes Text r))
        → ((r : Row) (rs : List Row) → AreNext t bytes stack row r more rs → e3 ≡ e2 ++ events_of (marks_behind bytes r rs))
        → e4 ≡ e3 ++ event_at Exit name.GfmTableBody last ∷ []
        → (r : Row) (rs : List Row) → AreNext t bytes stack place r (x ∷ more) rs → e4 ≡ old ++ events_of (body_marks bytes r rs)
    body-written x more place at row last old e0 e1 e2 e3 e4 text f0 columns there end ends f1 f2 f3 f4 r [] are = absurd are
    body-written x more place at row last old e0 e1 e2 e3 e4 text f0 columns there end ends f1 f2 f3 f4 r (s ∷ ss) are =
        let n = are.0 in
        let is = next-line t bytes stack place r x s n in
        let same = columns r s n in
        let behind : AreNext t bytes stack row s more ss = subst (λ (p : Point). AreNext t bytes stack p s more ss) (sym end) are.1 in
        let inside = row_marks bytes Text s ++ marks_behind bytes s ss in
        let stop : last ≡ last_end t bytes (end_at t bytes x) more = ends ∙ ap (λ p. last_end t bytes p more) end in
        let size : length (line_text s.line) ≡ x.span.size = ap (λ l. length (line_text l)) is.line ∙ size-is t bytes some limit x is.stands in
        let long : 1 ≤ length (rows_seats (s ∷ ss)) = omega (arith, text, is.columns, size, length-drop s.columns (line_text s.line), length-append (row_seats s) (seats_behind s ss)) in
        write-both old e0 e4 (marks_between bytes r s) _ (f0 r s n)
        (write-span bytes name.GfmTableBody at.place last (rows_seats (s ∷ ss)) inside (from-begin x s at is same there more ss are.1 last stop) long e0 e1 e3 e4 f1
        (write-both e1 e2 e3 (row_marks bytes Text s) (marks_behind bytes s ss) (f2 s is same) (f3 s ss behind)) f4)

    -- ---- the whole table

    -- lines as they are kept
    pub record IsTabled (rows : List RowAt) (x y : RowAt) (zs : List RowAt) (begin : At) : Type 0 where
      pub stands : IsStanding t bytes x
      pub columns : begin.columns ≡ x.row.columns
      pub place : begin.place ≡ place_after t bytes (begin_at x) begin.columns
      pub next : IsFurther t bytes stack y
      pub further : AllByRecursion (IsFurther t bytes stack) zs
      pub text : AllByRecursion HasText zs

    pub tabled : (rows : List RowAt) (x y : RowAt) (zs : List RowAt) (begin : At) → rows ≡ x ∷ y ∷ zs → HaveLines t bytes stack rows → IsBegin t bytes rows begin → CanBeTable rows → IsTabled rows x y zs begin
    tabled rows x y zs begin split lines starts can = by lines.all (subst (λ (l : List RowAt). AreLines t bytes stack l lines.all) split lines.are)
      where
        by : (all : List Row) → AreLines t bytes stack (x ∷ y ∷ zs) all → IsTabled rows x y zs begin
        by [] are = absurd are
        by (r ∷ rs) are =
            let further = further-are t bytes some limit stack (end_at t bytes x) r (y ∷ zs) rs (lines-next t bytes some limit stack x (y ∷ zs) r rs are) in
            let at : IsBegin t bytes (x ∷ y ∷ zs) begin = subst (λ (l : List RowAt). IsBegin t bytes l begin) split starts in
            record { stands = are.0.stands; columns = at.0; place = at.1; next = further.0; further = further.1; text = subst CanBeTable split can }

    table-events : (x y : RowAt) (zs : List RowAt) (begin : At) (head last : Point) (old e1 e2 e3 e4 : List Event) → begin.columns ≡ x.row.columns → begin.place ≡ place_after t bytes (begin_at x) begin.columns
        → head ≡ end_at t bytes y → last ≡ last_end t bytes head zs → e1 ≡ old ++ event_at Enter name.GfmTable begin.place ∷ []
        → ((r s : Row) → IsLine t bytes x r → IsNext t bytes stack (end_at t bytes x) r y s → e2 ≡ e1 ++ events_of (head_marks bytes r s))
        → ((r : Row) (rs : List Row) → AreNext t bytes stack head r zs rs → e3 ≡ e2 ++ events_of (body_marks bytes r rs))
        → e4 ≡ e3 ++ event_at Exit name.GfmTable last ∷ []
        → (r : Row) (rs : List Row) → AreLines t bytes stack (x ∷ y ∷ zs) (r ∷ rs) → e4 ≡ old ++ events_of (rows_marks bytes r rs)
    table-events x y zs begin head last old e1 e2 e3 e4 columns place at end f1 f2 f3 f4 r [] are = absurd are.1
    table-events x y zs begin head last old e1 e2 e3 e4 columns place at end f1 f2 f3 f4 r (s ∷ ss) are =
        let is = are.0 in
        let next = lines-next t bytes some limit stack x (y ∷ zs) r (s ∷ ss) are in
        let behind : AreNext t bytes stack head s zs ss = subst (λ (p : Point). AreNext t bytes stack p s zs ss) (sym at) next.1 in
        let stop : last ≡ last_end t bytes (end_at t bytes y) zs = end ∙ ap (λ p. last_end t bytes p zs) at in
        write-span bytes name.GfmTable begin.place last (rows_seats (r ∷ s ∷ ss)) (head_marks bytes r s ++ body_marks bytes s ss)
        (from-begin x r begin is (columns ∙ is.columns) place (y ∷ zs) (s ∷ ss) next last stop) (rows-some r s ss (end_at t bytes x) y next.0) old e1 e3 e4 f1
        (write-both e1 e2 e3 (head_marks bytes r s) (body_marks bytes s ss) (f2 r s is next.0) (f3 s ss behind)) f4

    pub table-written : (rows : List RowAt) (x y : RowAt) (zs : List RowAt) (begin : At) (head last : Point) (old e1 e2 e3 e4 : List Event) → rows ≡ x ∷ y ∷ zs → begin.columns ≡ x.row.columns → begin.place ≡ place_after t bytes (begin_at x) begin.columns
        → head ≡ end_at t bytes y → last ≡ last_end t bytes head zs → e1 ≡ old ++ event_at Enter name.GfmTable begin.place ∷ []
        → ((r s : Row) → IsLine t bytes x r → IsNext t bytes stack (end_at t bytes x) r y s → e2 ≡ e1 ++ events_of (head_marks bytes r s))
        → ((r : Row) (rs : List Row) → AreNext t bytes stack head r zs rs → e3 ≡ e2 ++ events_of (body_marks bytes r rs))
        → e4 ≡ e3 ++ event_at Exit name.GfmTable last ∷ []
        → (r : Row) (rs : List Row) → AreLines t bytes stack rows (r ∷ rs) → (rest all : List Mark) → Written old None false (rows_marks bytes r rs ++ rest) all → Written e4 None false rest all
    table-written rows x y zs begin head last old e1 e2 e3 e4 split columns place at end f1 f2 f3 f4 r rs are rest all w =
        write_plain old e4 None false (rows_marks bytes r rs) rest all (plain-tables bytes r rs)
        (table-events x y zs begin head last old e1 e2 e3 e4 columns place at end f1 f2 f3 f4 r rs (subst (λ (l : List RowAt). AreLines t bytes stack l (r ∷ rs)) split are)) w

-- ---- whether there are rows
pub some-rows : (rows : List RowAt) (b : Bool) → b ≡ (length rows == 0) → b ≡ false → 0 < length rows
some-rows [] b e f = absurd (false≢true (sym f ∙ e))
some-rows (x ∷ xs) b e f = omega arith

pub no-rows : (rows : List RowAt) (b : Bool) → b ≡ (length rows == 0) → b ≡ true → rows ≡ []
no-rows [] b e f = refl
no-rows (x ∷ xs) b e f = absurd (false≢true (sym (ne_eqb (length (x ∷ xs)) 0 (λ q. omega (arith, q))) ∙ sym e ∙ f))

-- a table has a header row and a delimiter row
pub two-rows : (rows : List RowAt) → CanBeTable rows → 2 ≤ length rows
two-rows [] h = absurd h
two-rows (x ∷ []) h = absurd h
two-rows (x ∷ y ∷ zs) h = omega arith

pub two-split : (rows : List RowAt) (x y : RowAt) → CanBeTable rows → x ≡ get_or rows 0 x → y ≡ get_or rows 1 y → rows ≡ x ∷ y ∷ drop 2 rows
two-split rows x y can e f =
    let two = two-rows rows can in
    rows-split rows 0 x e (omega (arith, two)) ∙ ap (λ l. x ∷ l) (rows-split rows 1 y f (omega (arith, two)))

-- no rows, no body
pub no-body : (t : ℕ) (bytes : List ℕ) (stack : List Container) (end : Point) (rows : List RowAt) (now : List Event) → rows ≡ [] → (r : Row) (rs : List Row) → AreNext t bytes stack end r rows rs → now ≡ now ++ events_of (body_marks bytes r rs)
no-body t bytes stack end rows now none r rs are = by rs (subst (λ (l : List RowAt). AreNext t bytes stack end r l rs) none are)
  where
    by : (rs : List Row) → AreNext t bytes stack end r [] rs → now ≡ now ++ events_of (body_marks bytes r rs)
    by [] h = sym (append-nil now)
    by (s ∷ ss) h = absurd h
