-- Lemmas on cursors: what stands at a place of a line, and where it goes on.
use Rattle.std.proofs.Common.{◌≡◌, ℕ, zero, suc, ◌+◌, ◌-◌, ◌^◌, ◌<◌, ◌≤◌, Bool, true, false, cond, List, [], ◌∷◌, ◌++◌, None, drop, length, take, map, refl, sym, ap, ◌∙◌, subst, arith, append_assoc, eq-eqb, get_or, length-drop}
use Rattle.std.specs.Prelude.{◌==◌, not}
use Rattle.std.specs.List.{AllByRecursion, flat_map, prefix_len}
use Rattle.std.proofs.lemmas.Bool.{false≢true}
use Rattle.std.proofs.lemmas.List.{append-nil, drop-drop, drop-map, drop_all, drop_more, length-map, map-append, take-append-le, take-map}
use Rattle.markdown_base.proofs.Common.{every-append, every-drop}
use Rattle.markdown_base.proofs.Seats.{end-after-append}
use Rattle.markdown_base.specs.declared.event.Event.{Event}
use Rattle.markdown_base.specs.declared.event.Kind.TheVariants.{Enter, Exit}
use Rattle.markdown_base.specs.declared.event.Name.{Name}
use Rattle.markdown_base.specs.declared.event.Name.TheVariants as name
use Rattle.markdown_base.specs.declared.event.Point.{Point}
use Rattle.markdown_base.specs.Places.{shown}
use Rattle.markdown_base.specs.Virtual.{IsWithinLimit, Seat, end_after, line_feed, point}
use Rattle.mdconstructs_machines.specs.LineEvents.{ending_of, line_text}
use Rattle.mdconstructs_machines.specs.Spans.{event}
use Rattle.mdblock_leaf_blocks.specs.LeafBlocks.{Line, bytes_of, text_of as line_bytes_of}
use Rattle.mdblock_leaf_blocks.specs.LeafEvents.{Mark, leaf_marks, span_marks}
use Rattle.mdblock_leaf_blocks.specs.LineKinds.{indent}
use Rattle.mdblock_lines.specs.Containers.{Container}
use Rattle.mdblock_lines.specs.Lines.{ending_seats, ending_size, line_at, line_bytes, place_after}
use Rattle.mdblock_containers.specs.declared.prefixes.At.{At}
use Rattle.mdblock_containers.specs.declared.spans.RowAt.{RowAt}
use Rattle.mdblock_containers.specs.Costs.{HaveSizes}
use Rattle.mdblock_containers.specs.PlaceEvents.{HasColumns, event_at, span_at}
use Rattle.mdblock_containers.specs.Prefixes.{columns_of, going_on}
use Rattle.mdblock_containers.specs.Rows.{Row}
use Rattle.mdblock_containers.specs.SeatPlaces.{AreSeatsAt, events_of}
use Rattle.mdblock_containers.specs.Skeleton.{prefixes_marks}
use Rattle.mdblock_containers.specs.Spans.{IsRowIn}
use Rattle.mdblock_containers.specs.Stretches.{AreFurther, Begins, IsOutside, Run}
use Rattle.mdblock_containers.proofs.DocumentRows.{text_of_line_at}
use Rattle.mdblock_containers.proofs.RunLemmas.{behind_line, behind_text, end_run, ending_is, line_parts, text_columns, text_seats_at, text_size}
use Rattle.mdblock_containers.proofs.SeatLemmas.{here, seats_drop, seats_end, span_is_leaf}
use Rattle.mdblock_containers.proofs.StretchLemmas.{ends_before, row_bytes, row_columns, row_seats, went_again, went_marks, went_small}
use Rattle.mdblock_containers.proofs.WritingLemmas.{columns_behind, columns_front, place_add, write-both}
use Rattle.mdblock_definitions.specs.declared.marks.Cursor.{Cursor}
use Rattle.mdblock_definitions.specs.Cursor.{AreLines, FitsGap, Goes, HasColumn, HaveLines, IsBehind, IsCursor, IsFirst, IsHeld, columns_left, left_at, left_from, row_from, rows_from}
use Rattle.mdblock_definitions.specs.Definitions.{Place, byte_at, ending_at, ending_marks, further_line, gap_marks, is_byte, leaf, line_marks, places_in, seats_of, span, string_lines, text_byte, text_of}
use Rattle.mdblock_definitions.specs.Sections.{text_in}
use Rattle.mdblock_definitions.specs.Seen.{rows_by}
use Rattle.mdblock_definitions.proofs.MarksPlaces.{further-parts, gap-line, gap-lines, lines-split, lines-whole, seats-split}
use Rattle.mdblock_definitions.proofs.MarksFits.{IsPlain}

-- marks that are written one after another
pub write-three : (old first mid new : List Event) (a b c : List Mark) → first ≡ old ++ events_of a → mid ≡ first ++ events_of b → new ≡ mid ++ events_of c → new ≡ old ++ events_of (a ++ (b ++ c))
write-three old first mid new a b c e f g = write-both old first new a (b ++ c) e (write-both first mid new b c f g)

pub write-as : (old new : List Event) (a b : List Mark) → new ≡ old ++ events_of a → a ≡ b → new ≡ old ++ events_of b
write-as old new a b e f = e ∙ ap (λ l. old ++ events_of l) f

-- ---- places of virtual bytes

pub bytes-line : (ss : List Seat) (ps : List Place) → prefix_len is_byte (map byte_at ss ++ ps) ≡ length ss + prefix_len is_byte ps
bytes-line [] ps = omega arith
bytes-line (s ∷ ss) ps = omega (arith, bytes-line ss ps)

pub bytes-seats : (n : ℕ) (ss : List Seat) (ps : List Place) → n ≤ length ss → seats_of (take n (map byte_at ss ++ ps)) ≡ take n ss
bytes-seats zero ss ps w = refl
bytes-seats (suc n) [] ps w = absurd (omega arith)
bytes-seats (suc n) (s ∷ ss) ps w = ap (λ l. s ∷ l) (bytes-seats n ss ps (omega arith))

pub bytes-text : (ss : List Seat) → text_of (map byte_at ss) ≡ bytes_of ss
bytes-text [] = refl
bytes-text (s ∷ ss) = ap (λ l. s.byte ∷ l) (bytes-text ss)

pub bytes-behind : (n : ℕ) (ss : List Seat) (ps : List Place) → n ≤ length ss → drop n (map byte_at ss ++ ps) ≡ map byte_at (drop n ss) ++ ps
bytes-behind zero ss ps w = refl
bytes-behind (suc n) [] ps w = absurd (omega arith)
bytes-behind (suc n) (s ∷ ss) ps w = bytes-behind n ss ps (omega arith)

-- what is left of lines behind the text of the first
abbrev pub tail_of : (t : ℕ) (bytes : List ℕ) (stack : List Container) → RowAt → List RowAt → List Place
tail_of t bytes stack x [] = []
tail_of t bytes stack x (y ∷ ys) =
    let next = row_from t bytes stack y.row.columns y in
    ending_at (ending_of (line_at t x.span.number x.span.start (drop x.span.start bytes))) (take (columns_of next.went_on) next.line) (prefixes_marks bytes next.went_on next.line)
    ∷ left_from t bytes stack y.row.columns (y ∷ ys)

-- no virtual byte of a line's text is a line feed
plain-text : (line : Line) → AllByRecursion IsPlain (map byte_at (line_text line))
plain-text [] = tt
plain-text (s ∷ ss) = by (s.byte == 10) refl (plain-text ss)
  where
    by : (b : Bool) → (s.byte == 10) ≡ b → AllByRecursion IsPlain (map byte_at (line_text ss)) → AllByRecursion IsPlain (map byte_at (cond (not b) (s ∷ line_text ss) (line_text ss)))
    by true e h = h
    by false e h = (sym (ap not e), h)

plain-front : (r : Row) → AllByRecursion IsPlain (map byte_at (drop r.columns (line_text r.line)))
plain-front r = subst (AllByRecursion IsPlain) (drop-map byte_at r.columns (line_text r.line)) (every-drop IsPlain r.columns (map byte_at (line_text r.line)) (plain-text r.line))

module _ (bytes : List ℕ) where
  pub plain-places : (rows : List Row) → AllByRecursion IsPlain (places_in bytes rows)
  plain-places [] = tt
  plain-places (r ∷ []) = every-append IsPlain (map byte_at (drop r.columns (line_text r.line))) [] (plain-front r) tt
  plain-places (r ∷ s ∷ rows) =
      every-append IsPlain (map byte_at (drop r.columns (line_text r.line))) (ending_at (ending_of r.line) (take (columns_of s.went_on) s.line) (prefixes_marks bytes s.went_on s.line) ∷ places_in bytes (s ∷ rows))
      (plain-front r) (refl, plain-places (s ∷ rows))

module _ (t : ℕ) (bytes : List ℕ) (stack : List Container) where
  pub plain-left : (columns : ℕ) (xs : List RowAt) → AllByRecursion IsPlain (left_from t bytes stack columns xs)
  plain-left columns [] = tt
  plain-left columns (x ∷ xs) = plain-places bytes (row_from t bytes stack columns x ∷ rows_from t bytes stack xs)

  -- ---- the text of lines

  text-front : (x : RowAt) → drop x.row.columns (line_bytes_of (line_at t x.span.number x.span.start (drop x.span.start bytes))) ≡ text_of (map byte_at (drop x.row.columns (line_text (line_at t x.span.number x.span.start (drop x.span.start bytes)))))
  text-front x =
      let line = line_at t x.span.number x.span.start (drop x.span.start bytes) in
      drop-map (λ (s : Seat). s.byte) x.row.columns (line_text line) ∙ sym (bytes-text (drop x.row.columns (line_text line)))

  pub text-left : (x : RowAt) (xs : List RowAt) → text_in (rows_by t bytes (x ∷ xs)) ≡ text_of (left_from t bytes stack x.row.columns (x ∷ xs))
  text-left x [] = ap (λ l. l ++ []) (text-front x) ∙ sym (map-append text_byte (map byte_at (drop x.row.columns (line_text (line_at t x.span.number x.span.start (drop x.span.start bytes))))) [])
  text-left x (y ∷ ys) =
      (λ k. text-front x k ++ 10 ∷ text-left y ys k)
      ∙ sym (map-append text_byte (map byte_at (drop x.row.columns (line_text (line_at t x.span.number x.span.start (drop x.span.start bytes))))) (tail_of t bytes stack x (y ∷ ys)))

  -- ---- the line of a cursor

  pub left-is : (columns : ℕ) (x : RowAt) (xs : List RowAt) → left_from t bytes stack columns (x ∷ xs) ≡ map byte_at (drop columns (line_text (line_at t x.span.number x.span.start (drop x.span.start bytes)))) ++ tail_of t bytes stack x xs
  left-is columns x [] = refl
  left-is columns x (y ∷ ys) = refl

  tail-none : (x : RowAt) (xs : List RowAt) → prefix_len is_byte (tail_of t bytes stack x xs) ≡ 0
  tail-none x [] = refl
  tail-none x (y ∷ ys) = refl

  pub record Here (ys : List RowAt) (at : At) : Type 0 where
    pub x : RowAt
    pub more : List RowAt
    pub split : ys ≡ x ∷ more
    pub seats : List Seat
    pub tail : List Place
    pub any : (columns : ℕ) → left_from t bytes stack columns ys ≡ map byte_at (drop columns seats) ++ tail
    pub left : left_from t bytes stack at.columns ys ≡ map byte_at (drop at.columns seats) ++ tail
    pub none : prefix_len is_byte tail ≡ 0
    pub size : length seats ≡ x.span.size
    pub within : at.columns ≤ x.span.size
    pub seats_at : AreSeatsAt t bytes at.place (drop at.columns seats)
    pub columns : HasColumns t bytes at.place (x.span.size - at.columns)
    pub room : x.span.size + 1 < 2 ^ 64
    pub held : line_bytes t x.span.number 1 x.span.start (drop x.span.start bytes) ≡ bytes_of seats

  pub here-is : 0 < t → IsWithinLimit t bytes → (ys : List RowAt) (at : At) → HaveLines t bytes stack ys → HasColumn at.columns ys → IsBehind t bytes ys at → Here ys at
  here-is some limit [] at lines w e = absurd w
  here-is some limit (x ∷ xs) at lines w e = by lines.all lines.are
    where
      by : (all : List Row) → AreLines t bytes stack (x ∷ xs) all → Here (x ∷ xs) at
      by [] are = absurd are
      by (r ∷ rs) are =
          let line = line_at t x.span.number x.span.start (drop x.span.start bytes) in
          let first = are.0 in
          let begin = point x.span.number 1 x.span.start 0 in
          let size : length (line_text line) ≡ x.span.size = text_size t bytes some limit x.span.number x.span.start x first.placed line refl first.outside in
          let all_at : AreSeatsAt t bytes begin (line_text line) = text_seats_at t bytes some limit x.span.number x.span.start x first.placed line refl first.outside in
          record {
            x = x;
            more = xs;
            split = refl;
            seats = line_text line;
            tail = tail_of t bytes stack x xs;
            any = λ columns. left-is columns x xs;
            left = left-is at.columns x xs;
            none = tail-none x xs;
            size = size;
            within = w;
            seats_at = subst (λ (p : Point). AreSeatsAt t bytes p (drop at.columns (line_text line))) (sym e) (seats_drop t bytes begin (line_text line) at.columns all_at (omega (arith, size, w)));
            columns = columns_behind t bytes begin at.place x.span.size at.columns (x.span.size - at.columns) e (text_columns t bytes some limit x.span.number x.span.start x first.placed line refl first.outside) (omega (arith, w));
            room = omega (arith, (text_columns t bytes some limit x.span.number x.span.start x first.placed line refl first.outside).room);
            held = sym (text_of_line_at t x.span.number x.span.start (drop x.span.start bytes));
          }

  module _ (ys : List RowAt) (at : At) (h : Here ys at) where
    pub left-columns : columns_left at.columns ys ≡ length (drop at.columns h.seats)
    left-columns = ap (columns_left at.columns) h.split ∙ omega (arith, h.size, length-drop at.columns h.seats)

    pub left-line : prefix_len is_byte (left_from t bytes stack at.columns ys) ≡ columns_left at.columns ys
    left-line = ap (prefix_len is_byte) h.left ∙ bytes-line (drop at.columns h.seats) h.tail ∙ omega (arith, h.none, left-columns)

    pub has-columns : (n : ℕ) → n ≤ columns_left at.columns ys → HasColumns t bytes at.place n
    has-columns n w = columns_front t bytes at.place (h.x.span.size - at.columns) n h.columns (omega (arith, w, ap (columns_left at.columns) h.split))

    pub has-room : (n : ℕ) → n ≤ columns_left at.columns ys → at.columns + n < 2 ^ 64
    has-room n w = omega (arith, w, h.room, h.within, ap (columns_left at.columns) h.split)

    pub line-seats : (n : ℕ) → n ≤ columns_left at.columns ys → seats_of (take n (left_from t bytes stack at.columns ys)) ≡ take n (drop at.columns h.seats)
    line-seats n w = ap (λ l. seats_of (take n l)) h.left ∙ bytes-seats n (drop at.columns h.seats) h.tail (omega (arith, w, left-columns))

    pub leaf-events : (m : Name) (n : ℕ) → n ≤ columns_left at.columns ys → span_at t bytes m at.place n ≡ events_of (leaf bytes m (take n (left_from t bytes stack at.columns ys)))
    leaf-events m n w =
        span_is_leaf t bytes m at.place (drop at.columns h.seats) n h.seats_at (omega (arith, w, left-columns))
        ∙ ap (λ l. events_of (leaf_marks bytes m l)) (sym (line-seats n w))

    pub line-behind : (n : ℕ) → n ≤ columns_left at.columns ys → left_from t bytes stack (at.columns + n) ys ≡ drop n (left_from t bytes stack at.columns ys)
    line-behind n w =
        let few : n ≤ length (drop at.columns h.seats) = omega (arith, w, left-columns) in
        let all : left_from t bytes stack (at.columns + n) ys ≡ map byte_at (drop (at.columns + n) h.seats) ++ h.tail = h.any (at.columns + n) in
        all ∙ ap (λ l. map byte_at l ++ h.tail) (sym (drop-drop n at.columns h.seats)) ∙ sym (bytes-behind n (drop at.columns h.seats) h.tail few) ∙ ap (drop n) (sym h.left)

    pub line-place : (n : ℕ) → n ≤ columns_left at.columns ys → place_after t bytes at.place n ≡ end_after at.place (seats_of (take n (left_from t bytes stack at.columns ys)))
    line-place n w = sym (seats_end t bytes at.place (drop at.columns h.seats) n h.seats_at (omega (arith, w, left-columns))) ∙ ap (end_after at.place) (sym (line-seats n w))

    pub is-shown : shown bytes at.place ≡ at.place
    is-shown = here t bytes at.place (drop at.columns h.seats) h.seats_at

    -- the bytes of the line that are left
    pub line-text : (n : ℕ) (line : List ℕ) → n ≤ columns_left at.columns ys → IsHeld t bytes ys line → take n (drop at.columns line) ≡ bytes_of (seats_of (take n (left_from t bytes stack at.columns ys)))
    line-text n line w held =
        let is : line ≡ bytes_of h.seats = subst (λ (l : List RowAt). IsHeld t bytes l line) h.split held ∙ h.held in
        ap (λ l. take n (drop at.columns l)) is
        ∙ ap (take n) (drop-map (λ (s : Seat). s.byte) at.columns h.seats)
        ∙ take-map (λ (s : Seat). s.byte) n (drop at.columns h.seats)
        ∙ ap bytes_of (sym (line-seats n w))

    pub line-within : (n : ℕ) (line : List ℕ) → n ≤ columns_left at.columns ys → IsHeld t bytes ys line → at.columns + n ≤ length line
    line-within n line w held =
        let is : line ≡ bytes_of h.seats = subst (λ (l : List RowAt). IsHeld t bytes l line) h.split held ∙ h.held in
        omega (arith, ap (λ (l : List ℕ). length l) is, length-map h.seats (λ (s : Seat). s.byte), h.size, h.within, w, ap (columns_left at.columns) h.split)

  -- ---- the next line

  pub record Next (ys : List RowAt) (at : At) : Type 0 where
    pub y : RowAt
    pub zs : List RowAt
    pub behind : drop 1 ys ≡ y ∷ zs
    pub ending : Seat
    pub prefixes : List Seat
    pub marks : List Mark
    pub left : left_from t bytes stack at.columns ys ≡ ending_at (ending ∷ []) prefixes marks ∷ left_from t bytes stack y.row.columns (y ∷ zs)
    pub first : at.place ≡ shown bytes ending.point
    pub ends : ending.end ≡ point y.span.number 1 y.span.start 0
    pub end : end_after (point y.span.number 1 y.span.start 0) prefixes ≡ place_after t bytes (point y.span.number 1 y.span.start 0) y.row.columns
    pub lines : HaveLines t bytes stack (y ∷ zs)
    pub went : columns_of (going_on (take y.row.many stack) y.span.number (line_bytes t y.span.number 1 y.span.start (drop y.span.start bytes))) ≡ y.row.columns
    pub seats : List Seat
    pub seats_at : AreSeatsAt t bytes (point y.span.number 1 y.span.start 0) seats
    pub seats_bytes : line_bytes t y.span.number 1 y.span.start (drop y.span.start bytes) ≡ bytes_of seats
    pub are : prefixes_marks bytes (going_on (take y.row.many stack) y.span.number (line_bytes t y.span.number 1 y.span.start (drop y.span.start bytes))) seats ≡ marks
    pub inside : y.span.start ≤ length bytes
    pub columns : HasColumns t bytes (point y.span.number 1 y.span.start 0) (length (line_bytes t y.span.number 1 y.span.start (drop y.span.start bytes)))
    pub sizes : HaveSizes stack
    pub many : y.row.many ≤ length stack
    pub within : y.row.columns ≤ y.span.size

  own-row : (number start : ℕ) (y : RowAt) (s : Row) → IsRowIn t bytes stack number start y s → IsRowIn t bytes stack y.span.number y.span.start y s
  own-row number start y s row =
      subst (λ (n : ℕ). IsRowIn t bytes stack n y.span.start y s) (sym row.placed.number_is) (subst (λ (k : ℕ). IsRowIn t bytes stack number k y s) (sym row.placed.start_is) row)

  -- a further line, by the line before
  pub record NextRow (y : RowAt) (zs : List RowAt) (s : Row) (ss : List Row) : Type 0 where
    pub row : IsRowIn t bytes stack y.span.number y.span.start y s
    pub outside : IsOutside bytes y.span.start
    pub lines : AreLines t bytes stack (y ∷ zs) (s ∷ ss)
    pub went : going_on (take y.row.many stack) y.span.number (line_bytes t y.span.number 1 y.span.start (drop y.span.start bytes)) ≡ s.went_on
    pub columns : columns_of s.went_on ≡ y.row.columns

  pub next-row : 0 < t → IsWithinLimit t bytes → (x y : RowAt) (zs : List RowAt) (r s : Row) (ss : List Row) → AreLines t bytes stack (x ∷ y ∷ zs) (r ∷ s ∷ ss) → NextRow y zs s ss
  next-row some limit x y zs r s ss are =
      let first = are.0 in
      let given = are.1.0 in
      let row = own-row (suc x.span.number) x.span.next y s given in
      let line = line_at t x.span.number x.span.start (drop x.span.start bytes) in
      let outside : IsOutside bytes y.span.start = subst (IsOutside bytes) (sym given.placed.start_is) (behind_line t bytes some limit x.span.number x.span.start x first.placed line refl first.outside) in
      let number : suc x.span.number ≡ y.span.number = sym given.placed.number_is in
      record {
        row = row;
        outside = outside;
        lines = (record { placed = row.placed; line = row.line; columns = row.is.columns; outside = outside }, subst (λ (n : ℕ). AreFurther t bytes stack (suc n) y.span.next zs ss) number are.1.2);
        went = went_again t bytes some limit stack y.span.number y.span.start y s row outside;
        columns = columns-went row.sum are.1.1 row.is.columns;
      }
    where
      columns-went : s.columns ≡ columns_of s.went_on + columns_of s.begun → s.begun ≡ [] → y.row.columns ≡ s.columns → columns_of s.went_on ≡ y.row.columns
      columns-went sum none is = let zero-is : columns_of s.begun ≡ 0 = ap columns_of none in omega (arith, sum, zero-is, is)

  -- lines are those that the code keeps
  pub all-places : 0 < t → IsWithinLimit t bytes → (x : RowAt) (xs : List RowAt) (all : List Row) → AreLines t bytes stack (x ∷ xs) all → places_in bytes all ≡ left_from t bytes stack x.row.columns (x ∷ xs)
  all-places some limit x xs [] are = absurd are
  all-places some limit x [] (r ∷ []) are = λ k. map byte_at (drop (sym are.0.columns k) (line_text (are.0.line k))) ++ []
  all-places some limit x [] (r ∷ s ∷ ss) are = absurd are.1
  all-places some limit x (y ∷ ys) (r ∷ []) are = absurd are.1
  all-places some limit x (y ∷ ys) (r ∷ s ∷ ss) are =
      let n = next-row some limit x y ys r s ss are in
      let rest = all-places some limit y ys (s ∷ ss) n.lines in
      λ k. map byte_at (drop (sym are.0.columns k) (line_text (are.0.line k)))
      ++ ending_at (ending_of (are.0.line k)) (take (columns_of (sym n.went k)) (n.row.line k)) (prefixes_marks bytes (sym n.went k) (n.row.line k)) ∷ rest k

  ending-one : (some : 0 < t) (limit : IsWithinLimit t bytes) (x : RowAt) (r : Row) → IsFirst t bytes x r → x.span.next < length bytes
      → (k : ℕ) × (ending_of (line_at t x.span.number x.span.start (drop x.span.start bytes)) ≡ line_feed x.span.number (x.span.size + 1) (x.span.end + k) ∷ []) × (x.span.next ≡ suc (x.span.end + k))
  ending-one some limit x r first w = by (ending_size (drop x.span.end bytes)) refl
    where
      by : (n : ℕ) → ending_size (drop x.span.end bytes) ≡ n
          → (k : ℕ) × (ending_of (line_at t x.span.number x.span.start (drop x.span.start bytes)) ≡ line_feed x.span.number (x.span.size + 1) (x.span.end + k) ∷ []) × (x.span.next ≡ suc (x.span.end + k))
      by zero e =
          let same : x.span.end ≡ x.span.next = omega (arith, first.placed.next_is, e) in
          absurd (false≢true (sym (ends_before t bytes x.span.number x.span.start x first.placed w) ∙ eq-eqb x.span.end x.span.next same))
      by (suc k) e =
          let line = line_at t x.span.number x.span.start (drop x.span.start bytes) in (
            k,
            ending_is t bytes some limit x.span.number x.span.start x first.placed line refl first.outside ∙ ap (ending_seats x.span.number (x.span.size + 1) x.span.end) e,
            omega (arith, first.placed.next_is, e),
          )

  pub next-is : 0 < t → IsWithinLimit t bytes → (ys : List RowAt) (at : At) → HaveLines t bytes stack ys → HasColumn at.columns ys → IsBehind t bytes ys at
      → columns_left at.columns ys ≡ 0 → 0 < length (left_from t bytes stack at.columns ys) → Next ys at
  next-is some limit [] at lines w e full more = absurd w
  next-is some limit (x ∷ []) at lines w e full more = by lines.all lines.are
    where
      by : (all : List Row) → AreLines t bytes stack (x ∷ []) all → Next (x ∷ []) at
      by [] are = absurd are
      by (r ∷ rs) are =
          let line = line_at t x.span.number x.span.start (drop x.span.start bytes) in
          let size : length (line_text line) ≡ x.span.size = text_size t bytes some limit x.span.number x.span.start x are.0.placed line refl are.0.outside in
          let none : left_from t bytes stack at.columns (x ∷ []) ≡ [] = left-is at.columns x [] ∙ ap (λ l. map byte_at l ++ []) (drop_all at.columns (line_text line) (omega (arith, full, size))) in
          absurd (omega (arith, more, ap (λ (l : List Place). length l) none))
  next-is some limit (x ∷ y ∷ zs) at lines w e full more = by lines.all lines.are
    where
      by : (all : List Row) → AreLines t bytes stack (x ∷ y ∷ zs) all → Next (x ∷ y ∷ zs) at
      by [] are = absurd are
      by (r ∷ []) are = absurd are.1
      by (r ∷ s ∷ ss) are =
          let first = are.0 in
          let given = are.1.0 in
          let n = next-row some limit x y zs r s ss are in
          let row = n.row in
          let outside = n.outside in
          let line = line_at t x.span.number x.span.start (drop x.span.start bytes) in
          let begin = point x.span.number 1 x.span.start 0 in
          let q = point y.span.number 1 y.span.start 0 in
          let one = ending-one some limit x r first given.placed.inside in
          let size : length (line_text line) ≡ x.span.size = text_size t bytes some limit x.span.number x.span.start x first.placed line refl first.outside in
          let nothing : drop at.columns (line_text line) ≡ [] = drop_all at.columns (line_text line) (omega (arith, size, full, w)) in
          let run : Run bytes (point x.span.number (x.span.size + 1) x.span.end 0) _ (ending_of line) = end_run t bytes some limit x.span.number x.span.start x first.placed line refl first.outside in
          let whole : at.columns ≡ x.span.size = omega (arith, full, w) in
          let there : at.place ≡ point x.span.number (x.span.size + 1) x.span.end 0 =
          e ∙ ap (place_after t bytes begin) whole ∙ behind_text t bytes some limit x.span.number x.span.start x first.placed line refl first.outside in
          let feed = line_feed x.span.number (x.span.size + 1) (x.span.end + one.0) in
          let begins : Begins bytes (point x.span.number (x.span.size + 1) x.span.end 0) (feed ∷ []) = subst (Begins bytes (point x.span.number (x.span.size + 1) x.span.end 0)) one.1 run.first in
          let number : suc x.span.number ≡ y.span.number = sym given.placed.number_is in
          let start : suc (x.span.end + one.0) ≡ y.span.start = sym one.2 ∙ sym given.placed.start_is in
          let went = n.went in
          let seats_at = row_seats t bytes some limit stack y.span.number y.span.start y s row outside in
          let small = went_small t bytes some limit stack y.span.number y.span.start y s row outside in
          let columns = n.columns in
          let prefixes : take (columns_of s.went_on) s.line ≡ take (columns_of s.went_on) (line_text s.line) =
          ap (take (columns_of s.went_on)) (line_parts t bytes some limit y.span.number y.span.start y row.placed s.line row.line outside) ∙ take-append-le (columns_of s.went_on) (line_text s.line) (ending_of s.line) small in
          record {
            y = y;
            zs = zs;
            behind = refl;
            ending = feed;
            prefixes = take (columns_of s.went_on) s.line;
            marks = prefixes_marks bytes s.went_on s.line;
            left =
                left-is at.columns x (y ∷ zs) ∙ ap (λ l. map byte_at l ++ tail_of t bytes stack x (y ∷ zs)) nothing
                ∙ (λ k. ending_at (one.1 k) (take (columns_of (went k)) (sym row.line k)) (prefixes_marks bytes (went k) (sym row.line k)) ∷ left_from t bytes stack y.row.columns (y ∷ zs));
            first = there ∙ begins;
            ends = λ k. point (number k) 1 (start k) 0;
            end = ap (end_after q) prefixes ∙ seats_end t bytes q (line_text s.line) (columns_of s.went_on) seats_at small ∙ ap (place_after t bytes q) columns;
            lines = record { all = s ∷ ss; are = n.lines };
            went = ap columns_of n.went ∙ n.columns;
            seats = line_text s.line;
            seats_at = seats_at;
            seats_bytes = row_bytes t bytes some limit stack y.span.number y.span.start y s row outside;
            are = ap (λ l. prefixes_marks bytes l (line_text s.line)) went ∙ went_marks t bytes some limit stack y.span.number y.span.start y s row outside;
            inside = omega (arith, row.placed.inside);
            columns = row_columns t bytes some limit stack y.span.number y.span.start y s row outside;
            sizes = row.sizes;
            many = row.many;
            within = row.placed.columns;
          }

  -- ---- from cursor to cursor

  module _ (xs : List RowAt) where
    pub here-of : (c : Cursor) → IsCursor t bytes stack xs c → Here (drop c.row xs) c.at
    here-of c h = here-is h.some h.limit (drop c.row xs) c.at h.lines h.column h.place

    pub next-of : (c : Cursor) → IsCursor t bytes stack xs c → columns_left c.at.columns (drop c.row xs) ≡ 0 → 0 < length (left_at t bytes stack xs c) → Next (drop c.row xs) c.at
    next-of c h full more = next-is h.some h.limit (drop c.row xs) c.at h.lines h.column h.place full more

    pub row-within : (c : Cursor) → IsCursor t bytes stack xs c → c.row < length xs
    row-within c h = let i = here-of c h in omega (arith, ap (λ (l : List RowAt). length l) i.split, length-drop c.row xs)

    -- within a line
    pub leaf-goes : (c : Cursor) → IsCursor t bytes stack xs c → (n : ℕ) → n ≤ columns_left c.at.columns (drop c.row xs) → (to : Cursor) → to.row ≡ c.row → to.at.columns ≡ c.at.columns + n → to.at.place ≡ place_after t bytes c.at.place n
        → Goes t bytes stack xs c n to
    leaf-goes c h n w to er ec ep =
        let i = here-of c h in
        let there : Cursor = record { row = c.row; at = record { place = place_after t bytes c.at.place n; columns = c.at.columns + n } } in
        let same : there ≡ to = λ k. record { row = sym er k; at = record { place = sym ep k; columns = sym ec k } } in
        subst (λ (x : Cursor). Goes t bytes stack xs c n x) same
        (record {
          at = record { some = h.some; limit = h.limit; lines = h.lines; column = by (drop c.row xs) h.column w; place = on (drop c.row xs) h.place };
          left = line-behind (drop c.row xs) c.at i n w;
          place = line-place (drop c.row xs) c.at i n w;
        })
      where
        by : (ys : List RowAt) → HasColumn c.at.columns ys → n ≤ columns_left c.at.columns ys → HasColumn (c.at.columns + n) ys
        by [] a b = a
        by (y ∷ ys) a b = omega (arith, a, b)

        on : (ys : List RowAt) → IsBehind t bytes ys c.at → IsBehind t bytes ys (record { place = place_after t bytes c.at.place n; columns = c.at.columns + n })
        on [] e = e
        on (y ∷ ys) e = ap (λ p. place_after t bytes p n) e ∙ place_add t bytes (point y.span.number 1 y.span.start 0) c.at.columns n

    -- over a line ending
    pub ending-goes : (c : Cursor) → IsCursor t bytes stack xs c → (n : Next (drop c.row xs) c.at) → (to : Cursor) → to.row ≡ c.row + 1 → to.at.columns ≡ n.y.row.columns
        → to.at.place ≡ place_after t bytes (point n.y.span.number 1 n.y.span.start 0) n.y.row.columns → Goes t bytes stack xs c 1 to
    ending-goes c h n to er ec ep =
        let there : Cursor = record { row = c.row + 1; at = record { place = place_after t bytes (point n.y.span.number 1 n.y.span.start 0) n.y.row.columns; columns = n.y.row.columns } } in
        let same : there ≡ to = λ k. record { row = sym er k; at = record { place = sym ep k; columns = sym ec k } } in
        let rows : drop (c.row + 1) xs ≡ n.y ∷ n.zs = sym (drop-drop 1 c.row xs) ∙ n.behind in
        subst (λ (x : Cursor). Goes t bytes stack xs c 1 x) same
        (record {
          at = record {
            some = h.some;
            limit = h.limit;
            lines = subst (λ (l : List RowAt). HaveLines t bytes stack l) (sym rows) n.lines;
            column = subst (λ (l : List RowAt). HasColumn n.y.row.columns l) (sym rows) n.within;
            place = subst (λ (l : List RowAt). IsBehind t bytes l there.at) (sym rows) refl;
          };
          left = ap (left_from t bytes stack n.y.row.columns) rows ∙ sym (ap (drop 1) n.left);
          place =
              sym n.end ∙ ap (λ p. end_after p n.prefixes) (sym n.ends) ∙ ap (λ l. end_after n.ending.end l) (sym (append-nil n.prefixes))
              ∙ ap (λ l. end_after c.at.place (seats_of (take 1 l))) (sym n.left);
        })

    -- one behind the other
    pub goes-on : (a b c : Cursor) (m n : ℕ) → Goes t bytes stack xs a m b → Goes t bytes stack xs b n c → Goes t bytes stack xs a (m + n) c
    goes-on a b c m n f g = record {
      at = g.at;
      left = g.left ∙ ap (drop n) f.left ∙ drop-drop n m (left_at t bytes stack xs a);
      place =
          g.place ∙ (λ k. end_after (f.place k) (seats_of (take n (f.left k))))
          ∙ sym (end-after-append a.at.place (seats_of (take m (left_at t bytes stack xs a))) (seats_of (take n (drop m (left_at t bytes stack xs a)))))
          ∙ ap (end_after a.at.place) (sym (seats-split m n (left_at t bytes stack xs a)));
    }

    pub goes-nowhere : (a : Cursor) → IsCursor t bytes stack xs a → Goes t bytes stack xs a 0 a
    goes-nowhere a h = record { at = h; left = refl; place = refl }

    -- a span from one cursor to another
    pub first-seat : (c : Cursor) → IsCursor t bytes stack xs c → 0 < length (left_at t bytes stack xs c) → (n : ℕ) → 0 < n
        → (s : Seat) × (ss : List Seat) × (seats_of (take n (left_at t bytes stack xs c)) ≡ s ∷ ss) × (c.at.place ≡ shown bytes s.point)
    first-seat c h more zero w = absurd (omega arith)
    first-seat c h more (suc n) w = by (here-of c h) refl
      where
        by : (i : Here (drop c.row xs) c.at) → here-of c h ≡ i → (s : Seat) × (ss : List Seat) × (seats_of (take (suc n) (left_at t bytes stack xs c)) ≡ s ∷ ss) × (c.at.place ≡ shown bytes s.point)
        by i same = cases (drop c.at.columns i.seats) refl
          where
            cases : (ss : List Seat) → drop c.at.columns i.seats ≡ ss → (s : Seat) × (ss : List Seat) × (seats_of (take (suc n) (left_at t bytes stack xs c)) ≡ s ∷ ss) × (c.at.place ≡ shown bytes s.point)
            cases [] e =
                let m = next-of c h (left-columns (drop c.row xs) c.at i ∙ ap (λ (l : List Seat). length l) e) more in
                (m.ending, m.prefixes ++ seats_of (take n (left_from t bytes stack m.y.row.columns (m.y ∷ m.zs))), ap (λ l. seats_of (take (suc n) l)) m.left, m.first)
            cases (s ∷ ss) e =
                let at : AreSeatsAt t bytes c.at.place (s ∷ ss) = subst (AreSeatsAt t bytes c.at.place) e i.seats_at in
                (s, seats_of (take n (map byte_at ss ++ i.tail)), ap (λ l. seats_of (take (suc n) l)) (i.left ∙ ap (λ l. map byte_at l ++ i.tail) e), sym (ap (shown bytes) at.1 ∙ at.0))

    pub span-events : (c to : Cursor) (n : ℕ) (m : Name) (inside : List Mark) → IsCursor t bytes stack xs c → Goes t bytes stack xs c n to → 0 < n → n ≤ length (left_at t bytes stack xs c)
        → event_at Enter m c.at.place ∷ (events_of inside ++ event_at Exit m to.at.place ∷ []) ≡ events_of (span bytes m (take n (left_at t bytes stack xs c)) inside)
    span-events c to n m inside h g some w =
        let f = first-seat c h (omega (arith, some, w)) n some in
        let last : to.at.place ≡ shown bytes (end_after f.0.end f.1) = sym (is-shown (drop to.row xs) to.at (here-of to g.at)) ∙ ap (shown bytes) (g.place ∙ ap (end_after c.at.place) f.2) in
        (λ k. event_at Enter m (f.3 k) ∷ (events_of inside ++ event_at Exit m (last k) ∷ []))
        ∙ ap (λ l. event bytes Enter m f.0.point ∷ l) (sym (map-append (λ (x : Mark). x.0) inside ((event bytes Exit m (end_after f.0.end f.1), None) ∷ [])))
        ∙ ap (λ l. events_of (span_marks bytes m l inside)) (sym f.2)

    pub write-span : (c to : Cursor) (n : ℕ) (m : Name) (inside : List Mark) → IsCursor t bytes stack xs c → Goes t bytes stack xs c n to → 0 < n → n ≤ length (left_at t bytes stack xs c)
        → (old first mid new : List Event) → first ≡ old ++ event_at Enter m c.at.place ∷ [] → mid ≡ first ++ events_of inside → new ≡ mid ++ event_at Exit m to.at.place ∷ []
        → new ≡ old ++ events_of (span bytes m (take n (left_at t bytes stack xs c)) inside)
    write-span c to n m inside h g some w old first mid new e1 e2 e3 =
        let enter = event_at Enter m c.at.place in
        let exit = event_at Exit m to.at.place in
        e3 ∙ ap (λ l. l ++ exit ∷ []) (e2 ∙ ap (λ l. l ++ events_of inside) e1)
        ∙ append_assoc (old ++ enter ∷ []) (events_of inside) (exit ∷ []) ∙ append_assoc old (enter ∷ []) (events_of inside ++ exit ∷ [])
        ∙ ap (λ l. old ++ l) (span-events c to n m inside h g some w)

    -- ---- over the end of a line

    pub line-left : (c : Cursor) → IsCursor t bytes stack xs c → columns_left c.at.columns (drop c.row xs) ≡ prefix_len is_byte (left_at t bytes stack xs c)
    line-left c h = sym (left-line (drop c.row xs) c.at (here-of c h))

    pub line-full : (c e : Cursor) (k : ℕ) → IsCursor t bytes stack xs c → k ≡ columns_left c.at.columns (drop c.row xs) → e.row ≡ c.row → e.at.columns ≡ c.at.columns + k → columns_left e.at.columns (drop e.row xs) ≡ 0
    line-full c e k h w er ec = (λ i. columns_left (ec i) (drop (er i) xs)) ∙ by (drop c.row xs) h.column w
      where
        by : (ys : List RowAt) → HasColumn c.at.columns ys → k ≡ columns_left c.at.columns ys → columns_left (c.at.columns + k) ys ≡ 0
        by [] a b = refl
        by (y ∷ ys) a b = omega (arith, a, b)

    pub line-more : (c e : Cursor) (k n : ℕ) → Goes t bytes stack xs c k e → k < n → n ≤ length (left_at t bytes stack xs c) → 0 < length (left_at t bytes stack xs e)
    line-more c e k n g w v = omega (arith, w, v, ap (λ (l : List Place). length l) g.left, length-drop k (left_at t bytes stack xs c))

    -- the places behind a line and its line ending
    pub behind-line : (c e n : Cursor) (k : ℕ) → Goes t bytes stack xs c k e → Goes t bytes stack xs e 1 n → left_at t bytes stack xs n ≡ drop (k + 1) (left_at t bytes stack xs c)
    behind-line c e n k f g = g.left ∙ ap (drop 1) f.left ∙ drop-drop 1 k (left_at t bytes stack xs c)

    pub goes-over : (c e n to : Cursor) (k m size : ℕ) → Goes t bytes stack xs c k e → Goes t bytes stack xs e 1 n → Goes t bytes stack xs n m to → k + 1 + m ≡ size → Goes t bytes stack xs c size to
    goes-over c e n to k m size f g h w = subst (λ (j : ℕ). Goes t bytes stack xs c j to) w (goes-on c n to (k + 1) m (goes-on c e n k 1 f g) h)

    -- white space
    pub gap-whole : (c : Cursor) → IsCursor t bytes stack xs c → (size : ℕ) → size ≤ columns_left c.at.columns (drop c.row xs) → (old new : List Event)
        → new ≡ old ++ events_of (leaf bytes name.SpaceOrTab (take size (left_at t bytes stack xs c))) → new ≡ old ++ events_of (gap_marks bytes (take size (left_at t bytes stack xs c)))
    gap-whole c h size w old new e =
        write-as old new (leaf bytes name.SpaceOrTab (take size (left_at t bytes stack xs c))) (gap_marks bytes (take size (left_at t bytes stack xs c))) e
        (sym (gap-line bytes size (left_at t bytes stack xs c) (omega (arith, w, line-left c h))))

    pub gap-split : (c e n : Cursor) → IsCursor t bytes stack xs c → (size k m : ℕ) → k ≡ columns_left c.at.columns (drop c.row xs) → k < size → m ≡ size - (k + 1) → Goes t bytes stack xs c k e → Goes t bytes stack xs e 1 n
        → (old first mid new : List Event) → first ≡ old ++ events_of (leaf bytes name.SpaceOrTab (take k (left_at t bytes stack xs c)))
        → mid ≡ first ++ events_of (flat_map (ending_marks bytes) (take 1 (left_at t bytes stack xs e))) → new ≡ mid ++ events_of (leaf bytes name.SpaceOrTab (take m (left_at t bytes stack xs n)))
        → new ≡ old ++ events_of (gap_marks bytes (take size (left_at t bytes stack xs c)))
    gap-split c e n h size k m w v is f g old first mid new e1 e2 e3 =
        let places = left_at t bytes stack xs c in
        let line : k ≡ prefix_len is_byte places = w ∙ line-left c h in
        let second = e2 ∙ ap (λ l. first ++ events_of (flat_map (ending_marks bytes) (take 1 l))) f.left in
        let third = e3 ∙ (λ i. mid ++ events_of (leaf bytes name.SpaceOrTab (take (is i) (behind-line c e n k f g i)))) in
        write-as old new _ (gap_marks bytes (take size places))
        (write-three old first mid new (leaf bytes name.SpaceOrTab (take k places)) (flat_map (ending_marks bytes) (take 1 (drop k places))) (leaf bytes name.SpaceOrTab (take (size - (k + 1)) (drop (k + 1) places))) e1 second third)
        (sym (gap-lines bytes size k places line v))

    -- lines of a string
    pub lines-last : (c : Cursor) → IsCursor t bytes stack xs c → (is_first : Bool) (size : ℕ) → size ≤ columns_left c.at.columns (drop c.row xs) → (old new : List Event)
        → new ≡ old ++ events_of (cond is_first (leaf bytes name.Data (take size (left_at t bytes stack xs c))) (further_line bytes (seats_of (take size (left_at t bytes stack xs c)))))
        → new ≡ old ++ events_of (line_marks bytes is_first (string_lines (take size (left_at t bytes stack xs c))))
    lines-last c h b size w old new e =
        let places = left_at t bytes stack xs c in
        write-as old new (cond b (leaf bytes name.Data (take size places)) (further_line bytes (seats_of (take size places)))) (line_marks bytes b (string_lines (take size places))) e
        (sym (lines-whole bytes size places (omega (arith, w, line-left c h)) b))

    pub lines-next : (c e n : Cursor) → IsCursor t bytes stack xs c → (is_first : Bool) (size k m : ℕ) → k ≡ columns_left c.at.columns (drop c.row xs) → k < size → size ≤ length (left_at t bytes stack xs c) → m ≡ size - (k + 1)
        → Goes t bytes stack xs c k e → Goes t bytes stack xs e 1 n → (old first mid new : List Event)
        → first ≡ old ++ events_of (cond is_first (leaf bytes name.Data (take k (left_at t bytes stack xs c))) (further_line bytes (seats_of (take k (left_at t bytes stack xs c)))))
        → mid ≡ first ++ events_of (flat_map (ending_marks bytes) (take 1 (left_at t bytes stack xs e))) → new ≡ mid ++ events_of (line_marks bytes false (string_lines (take m (left_at t bytes stack xs n))))
        → new ≡ old ++ events_of (line_marks bytes is_first (string_lines (take size (left_at t bytes stack xs c))))
    lines-next c e n h b size k m w v few is f g old first mid new e1 e2 e3 =
        let places = left_at t bytes stack xs c in
        let line : k ≡ prefix_len is_byte places = w ∙ line-left c h in
        let second = e2 ∙ ap (λ l. first ++ events_of (flat_map (ending_marks bytes) (take 1 l))) f.left in
        let third = e3 ∙ (λ i. mid ++ events_of (line_marks bytes false (string_lines (take (is i) (behind-line c e n k f g i))))) in
        write-as old new _ (line_marks bytes b (string_lines (take size places)))
        (write-three old first mid new (cond b (leaf bytes name.Data (take k places)) (further_line bytes (seats_of (take k places)))) (flat_map (ending_marks bytes) (take 1 (drop k places)))
        (line_marks bytes false (string_lines (take (size - (k + 1)) (drop (k + 1) places)))) e1 second third)
        (sym (lines-split bytes size k places line v few b))

    -- a further line of a string
    pub further-written : (c text : Cursor) → IsCursor t bytes stack xs c → (size n : ℕ) → size ≤ columns_left c.at.columns (drop c.row xs) → n ≤ size → n ≡ indent (bytes_of (seats_of (take size (left_at t bytes stack xs c))))
        → Goes t bytes stack xs c n text → (old mid new : List Event) → mid ≡ old ++ events_of (leaf bytes name.SpaceOrTab (take n (left_at t bytes stack xs c)))
        → new ≡ mid ++ events_of (leaf bytes name.Data (take (size - n) (left_at t bytes stack xs text))) → new ≡ old ++ events_of (further_line bytes (seats_of (take size (left_at t bytes stack xs c))))
    further-written c text h size n w v is g old mid new e1 e2 =
        let places = left_at t bytes stack xs c in
        let second = e2 ∙ ap (λ l. mid ++ events_of (leaf bytes name.Data (take (size - n) l))) g.left in
        write-as old new _ (further_line bytes (seats_of (take size places)))
        (write-both old mid new (leaf bytes name.SpaceOrTab (take n places)) (leaf bytes name.Data (take (size - n) (drop n places))) e1 second)
        (sym (further-parts bytes size n places (omega (arith, w, line-left c h)) v is))

    pub line-rest : (c e : Cursor) (k m : ℕ) → e.row ≡ c.row → e.at.columns ≡ c.at.columns + k → k + m ≤ columns_left c.at.columns (drop c.row xs) → m ≤ columns_left e.at.columns (drop e.row xs)
    line-rest c e k m er ec w = subst (λ (r : ℕ). m ≤ columns_left e.at.columns (drop r xs)) (sym er) (subst (λ (n : ℕ). m ≤ columns_left n (drop c.row xs)) (sym ec) (by (drop c.row xs) w))
      where
        by : (ys : List RowAt) → k + m ≤ columns_left c.at.columns ys → m ≤ columns_left (c.at.columns + k) ys
        by [] v = omega (arith, v)
        by (y ∷ ys) v = omega (arith, v)

    pub gap-rest : (c e n : Cursor) → IsCursor t bytes stack xs c → (size k m : ℕ) → FitsGap size (left_at t bytes stack xs c) → k ≡ columns_left c.at.columns (drop c.row xs) → m ≡ size - (k + 1)
        → Goes t bytes stack xs c k e → Goes t bytes stack xs e 1 n → m ≤ columns_left n.at.columns (drop n.row xs)
    gap-rest c e n h size k m fits w is f g =
        let places = left_at t bytes stack xs c in
        let line : k ≡ prefix_len is_byte places = w ∙ line-left c h in
        let next : columns_left n.at.columns (drop n.row xs) ≡ prefix_len is_byte (drop (prefix_len is_byte places + 1) places) = line-left n g.at ∙ ap (prefix_len is_byte) (behind-line c e n k f g) ∙ ap (λ j. prefix_len is_byte (drop (j + 1) places)) line in
        omega (arith, fits.lines, line, next, is)

    -- ---- the prefixes of the next line

    module _ (c : Cursor) (n : Next (drop c.row xs) c.at) where
      pub next-rows : drop (c.row + 1) xs ≡ n.y ∷ n.zs
      next-rows = sym (drop-drop 1 c.row xs) ∙ n.behind

      pub next-within : c.row + 1 < length xs
      next-within = omega (arith, ap (λ (l : List RowAt). length l) next-rows, length-drop (c.row + 1) xs)

      module _ (x : RowAt) (is : x ≡ get_or xs (c.row + 1) x) where
        pub next-same : x ≡ n.y
        next-same =
            let here_is : drop (c.row + 1) xs ≡ x ∷ drop (c.row + 1 + 1) xs = drop_more xs (c.row + 1) x next-within ∙ ap (λ (y : RowAt). y ∷ drop (c.row + 1 + 1) xs) (sym is) in
            let both : x ∷ drop (c.row + 1 + 1) xs ≡ n.y ∷ n.zs = sym here_is ∙ next-rows in
            cc

        pub next-many : x.row.many ≤ length stack
        next-many = subst (λ (y : RowAt). y.row.many ≤ length stack) (sym next-same) n.many

        pub next-inside : x.span.start ≤ length bytes
        next-inside = subst (λ (y : RowAt). y.span.start ≤ length bytes) (sym next-same) n.inside

        pub next-columns : HasColumns t bytes (point x.span.number 1 x.span.start 0) (length (line_bytes t x.span.number 1 x.span.start (drop x.span.start bytes)))
        next-columns = subst (λ (y : RowAt). HasColumns t bytes (point y.span.number 1 y.span.start 0) (length (line_bytes t y.span.number 1 y.span.start (drop y.span.start bytes)))) (sym next-same) n.columns

        pub next-held : (line : List ℕ) → line ≡ line_bytes t x.span.number 1 x.span.start (drop x.span.start bytes) → IsHeld t bytes (drop (c.row + 1) xs) line
        next-held line e =
            subst (λ (l : List RowAt). IsHeld t bytes l line) (sym next-rows) (e ∙ ap (λ (y : RowAt). line_bytes t y.span.number 1 y.span.start (drop y.span.start bytes)) next-same)

        module _ (front : List Container) (front_is : front ≡ take x.row.many stack) where
          pub next-marks : (mid new : List Event)
              → ((seats : List Seat) → AreSeatsAt t bytes (point x.span.number 1 x.span.start 0) seats → line_bytes t x.span.number 1 x.span.start (drop x.span.start bytes) ≡ bytes_of seats
              → new ≡ mid ++ events_of (prefixes_marks bytes (going_on front x.span.number (line_bytes t x.span.number 1 x.span.start (drop x.span.start bytes))) seats))
              → new ≡ mid ++ events_of n.marks
          next-marks mid new write =
              subst
              (λ (y : RowAt). (seats : List Seat) → AreSeatsAt t bytes (point y.span.number 1 y.span.start 0) seats → line_bytes t y.span.number 1 y.span.start (drop y.span.start bytes) ≡ bytes_of seats
              → new ≡ mid ++ events_of (prefixes_marks bytes (going_on (take y.row.many stack) y.span.number (line_bytes t y.span.number 1 y.span.start (drop y.span.start bytes))) seats))
              next-same
              (λ seats a b. write seats a b ∙ (λ k. mid ++ events_of (prefixes_marks bytes (going_on (front_is k) x.span.number (line_bytes t x.span.number 1 x.span.start (drop x.span.start bytes))) seats)))
              n.seats n.seats_at n.seats_bytes
              ∙ ap (λ l. mid ++ events_of l) n.are

          pub next-size : (k : ℕ) → k ≡ columns_of (going_on front x.span.number (line_bytes t x.span.number 1 x.span.start (drop x.span.start bytes))) → k ≡ n.y.row.columns
          next-size k e =
              e ∙ ap (λ f. columns_of (going_on f x.span.number (line_bytes t x.span.number 1 x.span.start (drop x.span.start bytes)))) front_is
              ∙ ap (λ (y : RowAt). columns_of (going_on (take y.row.many stack) y.span.number (line_bytes t y.span.number 1 y.span.start (drop y.span.start bytes)))) next-same ∙ n.went

          pub next-place : (k : ℕ) (p : Point) → k ≡ columns_of (going_on front x.span.number (line_bytes t x.span.number 1 x.span.start (drop x.span.start bytes))) → p ≡ place_after t bytes (point x.span.number 1 x.span.start 0) k
              → p ≡ place_after t bytes (point n.y.span.number 1 n.y.span.start 0) n.y.row.columns
          next-place k p e f = f ∙ (λ i. place_after t bytes (point (next-same i).span.number 1 (next-same i).span.start 0) (next-size k e i))
