-- Lines of a table: what stands behind their prefixes, and how they follow one another.
use Rattle.std.proofs.Common.{◌≡◌, ℕ, zero, suc, ◌+◌, ◌-◌, ◌<◌, ◌≤◌, false, cond, List, [], ◌∷◌, ◌++◌, append_assoc, length, take, drop, refl, sym, ap, ◌∙◌, subst, arith, get_or}
use Rattle.std.specs.Prelude.{◌==◌, None}
use Rattle.std.specs.List.{AllByRecursion}
use Rattle.std.proofs.lemmas.List.{append-nil, drop-map, drop_more, length-map, map-append, take-append-le}
use Rattle.markdown_base.proofs.Seats.{end-after-append}
use Rattle.markdown_base.specs.declared.event.Event.{Event}
use Rattle.markdown_base.specs.declared.event.Kind.TheVariants.{Enter, Exit}
use Rattle.markdown_base.specs.declared.event.Name.{Name}
use Rattle.markdown_base.specs.declared.event.Point.{Point}
use Rattle.markdown_base.specs.Places.{shown}
use Rattle.markdown_base.specs.Virtual.{IsWithinLimit, Seat, end_after, point}
use Rattle.mdconstructs_machines.specs.LineEvents.{ending_of, line_text}
use Rattle.mdconstructs_machines.specs.Spans.{event}
use Rattle.mdblock_leaf_blocks.specs.LeafBlocks.{Line, bytes_of}
use Rattle.mdblock_leaf_blocks.specs.LeafEvents.{Mark, span_marks}
use Rattle.mdblock_lines.specs.Containers.{Container}
use Rattle.mdblock_lines.specs.Lines.{line_at, line_bytes, place_after}
use Rattle.mdblock_containers.specs.declared.spans.RowAt.{RowAt}
use Rattle.mdblock_containers.specs.PlaceEvents.{HasColumns, event_at}
use Rattle.mdblock_containers.specs.Prefixes.{columns_of, going_on}
use Rattle.mdblock_containers.specs.Rows.{Row}
use Rattle.mdblock_containers.specs.SeatPlaces.{AreSeatsAt, events_of}
use Rattle.mdblock_containers.specs.Skeleton.{prefixes_marks}
use Rattle.mdblock_containers.specs.Spans.{IsRowIn}
use Rattle.mdblock_containers.specs.Stretches.{AreFurther, IsOutside, Run}
use Rattle.mdblock_containers.proofs.DocumentRows.{text_of_line_at}
use Rattle.mdblock_containers.proofs.RunLemmas.{behind_line, behind_text, end_run, line_parts, text_columns, text_run, text_seats_at, text_size}
use Rattle.mdblock_containers.proofs.SeatLemmas.{seats_drop, seats_end, seats_shown}
use Rattle.mdblock_containers.proofs.StretchLemmas.{ends_before, row_bytes, row_seats as row_text_seats, went_again, went_marks, went_small}
use Rattle.mdblock_containers.proofs.WritingLemmas.{columns_behind, place_add}
use Rattle.mdblock_table_marks.specs.Lines.{AreLines, AreNext, FromTo, IsFurther, IsLine, IsNext, IsStanding, begin_at, end_at, last_end}
use Rattle.mdblock_table_marks.specs.TableMarks.{row_seats, rows_seats, seats_behind, seats_between}

-- ---- virtual bytes from one place to another
module _ (bytes : List ℕ) where
  from-run : (p q : Point) (ss : List Seat) → Run bytes p q ss → FromTo bytes p q ss
  from-run p q ss r = record { first = r.first; last = r.last; none = r.none }

  from-none : (p : Point) → FromTo bytes p p []
  from-none p = record { first = tt; last = tt; none = λ e. refl }

  pub from-both : (p q r : Point) (xs ys : List Seat) → FromTo bytes p q xs → FromTo bytes q r ys → FromTo bytes p r (xs ++ ys)
  from-both p q r [] ys f g = subst (λ (x : Point). FromTo bytes x r ys) (sym (f.none refl)) g
  from-both p q r (x ∷ xs) [] f g = subst (λ (l : List Seat). FromTo bytes p r (x ∷ l)) (sym (append-nil xs)) (subst (λ (y : Point). FromTo bytes p y (x ∷ xs)) (g.none refl) f)
  from-both p q r (x ∷ xs) (y ∷ ys) f g = record { first = f.first; last = g.last ∙ ap (shown bytes) (sym (end-after-append x.end xs (y ∷ ys))); none = λ e. absurd (cc) }

  -- the events of a span over them
  pub span-events : (n : Name) (p q : Point) (ss : List Seat) (inside : List Mark) → FromTo bytes p q ss → 1 ≤ length ss
      → event_at Enter n p ∷ (events_of inside ++ event_at Exit n q ∷ []) ≡ events_of (span_marks bytes n ss inside)
  span-events n p q [] inside f some = absurd (omega (arith, some))
  span-events n p q (s ∷ ss) inside f some =
      (λ k. event_at Enter n (f.first k) ∷ (events_of inside ++ event_at Exit n (f.last k) ∷ []))
      ∙ ap (λ l. event bytes Enter n s.point ∷ l) (sym (map-append (λ (x : Mark). x.0) inside ((event bytes Exit n (end_after s.end ss), None) ∷ [])))

-- ---- marks that are written one after another
pub write-span : (bytes : List ℕ) (n : Name) (p q : Point) (ss : List Seat) (inside : List Mark) → FromTo bytes p q ss → 1 ≤ length ss
    → (old first mid new : List Event) → first ≡ old ++ event_at Enter n p ∷ [] → mid ≡ first ++ events_of inside → new ≡ mid ++ event_at Exit n q ∷ []
    → new ≡ old ++ events_of (span_marks bytes n ss inside)
write-span bytes n p q ss inside f some old first mid new e1 e2 e3 =
    let enter = event_at Enter n p in
    let exit = event_at Exit n q in
    e3 ∙ ap (λ l. l ++ exit ∷ []) (e2 ∙ ap (λ l. l ++ events_of inside) e1)
    ∙ append_assoc (old ++ enter ∷ []) (events_of inside) (exit ∷ []) ∙ append_assoc old (enter ∷ []) (events_of inside ++ exit ∷ [])
    ∙ ap (λ l. old ++ l) (span-events bytes n p q ss inside f some)

-- the next line is one
pub next-line : (t : ℕ) (bytes : List ℕ) (stack : List Container) (end : Point) (r : Row) (y : RowAt) (s : Row) → IsNext t bytes stack end r y s → IsLine t bytes y s
next-line t bytes stack end r y s n = record { stands = record { placed = n.row.placed; outside = n.outside }; line = n.row.line; columns = n.row.is.columns }

-- the first of some lines, and those behind it
pub rows-split : (rows : List RowAt) (i : ℕ) (x : RowAt) → x ≡ get_or rows i x → i < length rows → drop i rows ≡ x ∷ drop (i + 1) rows
rows-split rows i x is lt = drop_more rows i x lt ∙ ap (λ (y : RowAt). y ∷ drop (i + 1) rows) (sym is)

module _ (t : ℕ) (bytes : List ℕ) (some : 0 < t) (limit : IsWithinLimit t bytes) where
  -- seats in front
  seats-from : (p : Point) (ss : List Seat) (n : ℕ) → AreSeatsAt t bytes p ss → n ≤ length ss → FromTo bytes p (place_after t bytes p n) (take n ss)
  seats-from p ss zero h w = from-none bytes p
  seats-from p [] (suc n) h w = absurd (omega arith)
  seats-from p (s ∷ ss) (suc n) h w = record {
    first = sym (ap (shown bytes) h.1 ∙ h.0);
    last = sym (ap (shown bytes) (seats_end t bytes p (s ∷ ss) (suc n) h w) ∙ seats_shown t bytes p (s ∷ ss) (suc n) h w);
    none = λ e. absurd (cc);
  }

  -- ---- a line
  abbrev pub line-of : RowAt → Line
  line-of x = line_at t x.span.number x.span.start (drop x.span.start bytes)

  abbrev pub bytes-at : RowAt → List ℕ
  bytes-at x = line_bytes t x.span.number 1 x.span.start (drop x.span.start bytes)

  module _ (x : RowAt) (h : IsStanding t bytes x) where
    pub size-is : length (line_text (line-of x)) ≡ x.span.size
    size-is = text_size t bytes some limit x.span.number x.span.start x h.placed (line-of x) refl h.outside

    all-at : AreSeatsAt t bytes (begin_at x) (line_text (line-of x))
    all-at = text_seats_at t bytes some limit x.span.number x.span.start x h.placed (line-of x) refl h.outside

    all-columns : HasColumns t bytes (begin_at x) x.span.size
    all-columns = text_columns t bytes some limit x.span.number x.span.start x h.placed (line-of x) refl h.outside

    pub bytes-are : bytes-at x ≡ bytes_of (line_text (line-of x))
    bytes-are = sym (text_of_line_at t x.span.number x.span.start (drop x.span.start bytes))

    pub bytes-size : length (bytes-at x) ≡ x.span.size
    bytes-size = ap (λ (l : List ℕ). length l) bytes-are ∙ length-map (line_text (line-of x)) (λ (s : Seat). s.byte) ∙ size-is

    pub bytes-columns : HasColumns t bytes (begin_at x) (length (bytes-at x))
    bytes-columns = subst (HasColumns t bytes (begin_at x)) (sym bytes-size) all-columns

    pub start-inside : x.span.start ≤ length bytes
    start-inside = omega (arith, h.placed.inside)

    -- behind so many columns
    module _ (p : Point) (c : ℕ) (w : c ≤ x.span.size) (e : p ≡ place_after t bytes (begin_at x) c) where
      pub behind-columns : HasColumns t bytes p (x.span.size - c)
      behind-columns = columns_behind t bytes (begin_at x) p x.span.size c (x.span.size - c) e all-columns (omega (arith, w))

      pub behind-seats : AreSeatsAt t bytes p (drop c (line_text (line-of x)))
      behind-seats = subst (λ (q : Point). AreSeatsAt t bytes q (drop c (line_text (line-of x)))) (sym e) (seats_drop t bytes (begin_at x) (line_text (line-of x)) c all-at (omega (arith, w, size-is)))

      pub behind-end : place_after t bytes p (x.span.size - c) ≡ end_at t bytes x
      behind-end =
          let whole : c + (x.span.size - c) ≡ x.span.size = omega (arith, w) in
          ap (λ q. place_after t bytes q (x.span.size - c)) e ∙ place_add t bytes (begin_at x) c (x.span.size - c) ∙ ap (place_after t bytes (begin_at x)) whole

  -- the virtual bytes of a row
  pub row-seats-at : (x : RowAt) (r : Row) → IsLine t bytes x r → (p : Point) (c : ℕ) → c ≤ x.span.size → p ≡ place_after t bytes (begin_at x) c → c ≡ r.columns → AreSeatsAt t bytes p (row_seats r)
  row-seats-at x r is p c w e same = subst (AreSeatsAt t bytes p) (λ k. drop (same k) (line_text (sym is.line k))) (behind-seats x is.stands p c w e)

  pub row-bytes : (x : RowAt) (r : Row) → IsLine t bytes x r → (c : ℕ) → c ≡ r.columns → drop c (bytes-at x) ≡ bytes_of (row_seats r)
  row-bytes x r is c same =
      ap (drop c) (bytes-are x is.stands) ∙ drop-map (λ (s : Seat). s.byte) c (line_text (line-of x)) ∙ (λ k. bytes_of (drop (same k) (line_text (sym is.line k))))

  pub row-goes : (x : RowAt) (r : Row) → IsLine t bytes x r → FromTo bytes (place_after t bytes (begin_at x) r.columns) (end_at t bytes x) (row_seats r)
  row-goes x r is =
      let h = is.stands in
      let few : r.columns ≤ x.span.size = omega (arith, is.columns, h.placed.columns) in
      let run = text_run t bytes some limit x.span.number x.span.start x h.placed (line-of x) refl h.outside r.columns few in
      let end = behind_text t bytes some limit x.span.number x.span.start x h.placed (line-of x) refl h.outside in
      subst (λ (l : List Seat). FromTo bytes (place_after t bytes (begin_at x) r.columns) (end_at t bytes x) (drop r.columns l)) (ap line_text (sym is.line))
      (subst (λ (q : Point). FromTo bytes (place_after t bytes (begin_at x) r.columns) q (drop r.columns (line_text (line-of x)))) (sym end)
      (from-run bytes _ _ _ run))

  -- ---- the next line
  module _ (stack : List Container) where
    next-columns : (end : Point) (r : Row) (y : RowAt) (s : Row) → IsNext t bytes stack end r y s → columns_of s.went_on ≡ s.columns
    next-columns end r y s n = let none : columns_of s.begun ≡ 0 = ap columns_of n.begun in omega (arith, n.row.sum, none)

    between-goes : (end : Point) (r : Row) (y : RowAt) (s : Row) → IsNext t bytes stack end r y s → FromTo bytes end (place_after t bytes (begin_at y) s.columns) (seats_between r s)
    between-goes end r y s n =
        let w = columns_of s.went_on in
        let small = went_small t bytes some limit stack y.span.number y.span.start y s n.row n.outside in
        let at = row_text_seats t bytes some limit stack y.span.number y.span.start y s n.row n.outside in
        let front : take w (line_text s.line) ≡ take w s.line =
        sym (ap (take w) (line_parts t bytes some limit y.span.number y.span.start y n.row.placed s.line n.row.line n.outside) ∙ take-append-le w (line_text s.line) (ending_of s.line) small) in
        from-both bytes end (begin_at y) (place_after t bytes (begin_at y) s.columns) (ending_of r.line) (take w s.line) n.ending
        (subst (λ (l : List Seat). FromTo bytes (begin_at y) (place_after t bytes (begin_at y) s.columns) l) front
        (subst (λ (k : ℕ). FromTo bytes (begin_at y) (place_after t bytes (begin_at y) k) (take w (line_text s.line))) (next-columns end r y s n) (seats-from (begin_at y) (line_text s.line) w at small)))

    -- lines behind one
    pub behind-goes : (end : Point) (r : Row) (ys : List RowAt) (ss : List Row) → AreNext t bytes stack end r ys ss → FromTo bytes end (last_end t bytes end ys) (seats_behind r ss)
    behind-goes end r [] [] are = from-none bytes end
    behind-goes end r [] (s ∷ ss) are = absurd are
    behind-goes end r (y ∷ ys) [] are = absurd are
    behind-goes end r (y ∷ ys) (s ∷ ss) are =
        let there = place_after t bytes (begin_at y) s.columns in
        let last = last_end t bytes (end_at t bytes y) ys in
        from-both bytes end there last (seats_between r s) (row_seats s ++ seats_behind s ss) (between-goes end r y s are.0)
        (from-both bytes there (end_at t bytes y) last (row_seats s) (seats_behind s ss) (row-goes y s (next-line t bytes stack end r y s are.0)) (behind-goes (end_at t bytes y) s ys ss are.1))

    pub rows-go : (x : RowAt) (r : Row) → IsLine t bytes x r → (ys : List RowAt) (ss : List Row) → AreNext t bytes stack (end_at t bytes x) r ys ss
        → FromTo bytes (place_after t bytes (begin_at x) r.columns) (last_end t bytes (end_at t bytes x) ys) (rows_seats (r ∷ ss))
    rows-go x r is ys ss are =
        from-both bytes (place_after t bytes (begin_at x) r.columns) (end_at t bytes x) (last_end t bytes (end_at t bytes x) ys) (row_seats r) (seats_behind r ss) (row-goes x r is) (behind-goes (end_at t bytes x) r ys ss are)

    -- the prefixes of the next line, as they are written
    pub next-marks : (end : Point) (r : Row) (y : RowAt) (s : Row) → IsNext t bytes stack end r y s → (front : List Container) → front ≡ take y.row.many stack → (mid new : List Event)
        → ((seats : List Seat) → AreSeatsAt t bytes (begin_at y) seats → bytes-at y ≡ bytes_of seats → new ≡ mid ++ events_of (prefixes_marks bytes (going_on front y.span.number (bytes-at y)) seats))
        → new ≡ mid ++ events_of (prefixes_marks bytes s.went_on s.line)
    next-marks end r y s n front same mid new h =
        let at = row_text_seats t bytes some limit stack y.span.number y.span.start y s n.row n.outside in
        let is = row_bytes t bytes some limit stack y.span.number y.span.start y s n.row n.outside in
        let went = went_again t bytes some limit stack y.span.number y.span.start y s n.row n.outside in
        let marks = went_marks t bytes some limit stack y.span.number y.span.start y s n.row n.outside in
        h (line_text s.line) at is
        ∙ ap (λ (f : List Container). mid ++ events_of (prefixes_marks bytes (going_on f y.span.number (bytes-at y)) (line_text s.line))) same
        ∙ ap (λ l. mid ++ events_of (prefixes_marks bytes l (line_text s.line))) went
        ∙ ap (λ l. mid ++ events_of l) marks

    pub next-size : (end : Point) (r : Row) (y : RowAt) (s : Row) → IsNext t bytes stack end r y s → (front : List Container) → front ≡ take y.row.many stack → (n : ℕ) → n ≡ columns_of (going_on front y.span.number (bytes-at y)) → n ≡ s.columns
    next-size end r y s n front same k e =
        e ∙ ap (λ (f : List Container). columns_of (going_on f y.span.number (bytes-at y))) same ∙ ap columns_of (went_again t bytes some limit stack y.span.number y.span.start y s n.row n.outside) ∙ next-columns end r y s n

    -- ---- lines of a part, one behind another

    next-is : (x y : RowAt) (r s : Row) → IsLine t bytes x r → IsRowIn t bytes stack (suc x.span.number) x.span.next y s → s.begun ≡ [] → IsNext t bytes stack (end_at t bytes x) r y s
    next-is x y r s is given none =
        let h = is.stands in
        let row : IsRowIn t bytes stack y.span.number y.span.start y s =
        subst (λ (n : ℕ). IsRowIn t bytes stack n y.span.start y s) (sym given.placed.number_is)
        (subst (λ (k : ℕ). IsRowIn t bytes stack (suc x.span.number) k y s) (sym given.placed.start_is) given) in
        let outside = subst (IsOutside bytes) (sym given.placed.start_is) (behind_line t bytes some limit x.span.number x.span.start x h.placed (line-of x) refl h.outside) in
        let end = behind_text t bytes some limit x.span.number x.span.start x h.placed (line-of x) refl h.outside in
        let run = end_run t bytes some limit x.span.number x.span.start x h.placed (line-of x) refl h.outside in
        let text = point x.span.number (x.span.size + 1) x.span.end 0 in
        let behind = point (x.span.number + 1) 1 x.span.next 0 in
        let more : (x.span.end == x.span.next) ≡ false = ends_before t bytes x.span.number x.span.start x h.placed given.placed.inside in
        let number : x.span.number + 1 ≡ y.span.number = omega (arith, given.placed.number_is) in
        let last : cond (x.span.end == x.span.next) text behind ≡ begin_at y = ap (λ b. cond b text behind) more ∙ (λ k. point (number k) 1 (sym given.placed.start_is k) 0) in
        let whole : Run bytes text (cond (x.span.end == x.span.next) text behind) (ending_of r.line) = subst (λ (l : Line). Run bytes text (cond (x.span.end == x.span.next) text behind) (ending_of l)) (sym is.line) run in
        let from : FromTo bytes (end_at t bytes x) (begin_at y) (ending_of r.line) =
        subst (λ (p : Point). FromTo bytes p (begin_at y) (ending_of r.line)) (sym end) (subst (λ (q : Point). FromTo bytes text q (ending_of r.line)) last (from-run bytes _ _ _ whole)) in
        let lines : x.span.number ≡ y.span.number → 1 ≤ 0 = λ e. omega (arith, e, number) in
        record {
          row = row;
          outside = outside;
          begun = none;
          ending = from;
          some = by (ending_of r.line) (subst (λ (p : Point). FromTo bytes p (begin_at y) (ending_of r.line)) end from) lines;
        }
      where
        by : (ss : List Seat) → FromTo bytes (point x.span.number (x.span.size + 1) x.span.end 0) (begin_at y) ss → (x.span.number ≡ y.span.number → 1 ≤ 0) → 1 ≤ length ss
        by [] f apart = absurd (let same = apart (ap (λ (q : Point). q.line) (f.none refl)) in omega (arith, same))
        by (s ∷ ss) f apart = omega arith

    pub lines-next : (x : RowAt) (xs : List RowAt) (r : Row) (rs : List Row) → AreLines t bytes stack (x ∷ xs) (r ∷ rs) → AreNext t bytes stack (end_at t bytes x) r xs rs
    lines-next x [] r [] are = tt
    lines-next x [] r (s ∷ ss) are = absurd are.1
    lines-next x (y ∷ ys) r [] are = absurd are.1
    lines-next x (y ∷ ys) r (s ∷ ss) are =
        let given = are.1.0 in
        let n = next-is x y r s are.0 given are.1.1 in
        let number : suc x.span.number ≡ y.span.number = sym given.placed.number_is in
        (n, lines-next y ys s ss (next-line t bytes stack (end_at t bytes x) r y s n, subst (λ (k : ℕ). AreFurther t bytes stack (suc k) y.span.next ys ss) number are.1.2))

    pub further-are : (end : Point) (r : Row) (ys : List RowAt) (ss : List Row) → AreNext t bytes stack end r ys ss → AllByRecursion (IsFurther t bytes stack) ys
    further-are end r [] ss are = tt
    further-are end r (y ∷ ys) [] are = absurd are
    further-are end r (y ∷ ys) (s ∷ ss) are =
        (record { stands = (next-line t bytes stack end r y s are.0).stands; many = are.0.row.many; sizes = are.0.row.sizes }, further-are (end_at t bytes y) s ys ss are.1)
