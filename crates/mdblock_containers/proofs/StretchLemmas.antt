-- Lemmas on stretches of lines, written chunk by chunk.
use Rattle.std.proofs.Common.{◌≡◌, ℕ, zero, suc, ◌+◌, ◌*◌, ◌^◌, ◌<◌, ◌≤◌, Bool, true, false, cond, List, [], ◌∷◌, ◌++◌, length, take, drop, refl, sym, ap, ◌∙◌, subst, arith, ne_eqb, append_assoc, length-drop, length-append}
use Rattle.std.specs.Prelude.{◌==◌, ◌&&◌, not, Option, Some, None, is_some}
use Rattle.std.specs.List.{flat_map}
use Rattle.std.proofs.lemmas.List.{append-nil}
use Rattle.markdown_base.specs.declared.event.Content.{Content}
use Rattle.markdown_base.specs.declared.event.Content.TheVariants as content
use Rattle.markdown_base.specs.declared.event.Event.{Event}
use Rattle.markdown_base.specs.declared.event.Name.TheVariants as name
use Rattle.markdown_base.specs.declared.event.Point.{Point}
use Rattle.markdown_base.specs.Places.{shown}
use Rattle.markdown_base.specs.Virtual.{Seat, begins_with_lf, end_after, point}
use Rattle.mdconstructs_machines.specs.LineEvents.{ending_of, line_text}
use Rattle.mdblock_leaf_blocks.specs.LeafBlocks.{bytes_of, text_of}
use Rattle.mdblock_leaf_blocks.specs.LeafEvents.{Mark, chunk_span}
use Rattle.mdblock_lines.specs.Containers.{Container}
use Rattle.mdblock_lines.specs.Lines.{ending_size, line_bytes, place_after}
use Rattle.mdblock_containers.specs.declared.spans.RowAt.{RowAt}
use Rattle.mdblock_containers.specs.Chunks.{set_next}
use Rattle.mdblock_containers.specs.Parts.{with_chunk}
use Rattle.mdblock_containers.specs.PlaceEvents.{HasColumns}
use Rattle.mdblock_containers.specs.Prefixes.{columns_of, going_on}
use Rattle.mdblock_containers.specs.Rows.{Row, has_none}
use Rattle.mdblock_containers.specs.SeatPlaces.{AreSeatsAt, events_of}
use Rattle.mdblock_containers.specs.Skeleton.{Piece, chunks_of, joined_pieces, prefixes_marks}
use Rattle.mdblock_containers.specs.Costs.{HaveSizes}
use Rattle.mdblock_containers.specs.Spans.{IsPlaced, IsRowIn}
use Rattle.mdblock_containers.specs.Stretches.{AreFurther, HasFurther, InStretch, IsOutside, IsPending, Run, end_at, pieces_from}
use Rattle.mdblock_containers.specs.Written.{Written}
use Rattle.mdblock_containers.proofs.DocumentRows.{text_of_line_at}
use Rattle.mdblock_containers.proofs.JoinLemmas.{pieces_end, pieces_go_on, pieces_some, plain_prefixes, prefixes_front, prefixes_none, prefixes_some}
use Rattle.mdblock_containers.proofs.RunLemmas.{behind_line, end_run, line_parts, line_run, run_append, text_columns, text_run, text_seats_at, text_size}
use Rattle.mdblock_containers.proofs.WrittenLemmas.{end_chunks, write_chunk, write_plain}

-- a line that is not the last has a line ending
pub ends_before : (t : ℕ) (bytes : List ℕ) (number start : ℕ) (x : RowAt) → IsPlaced t bytes number start x → x.span.next < length bytes → (x.span.end == x.span.next) ≡ false
ends_before t bytes number start x p w = by (drop x.span.end bytes) refl p.next_is
  where
    by : (bs : List ℕ) → drop x.span.end bytes ≡ bs → x.span.next ≡ x.span.end + ending_size bs → (x.span.end == x.span.next) ≡ false
    by [] d n = absurd (omega (arith, n, w, ap (λ (l : List ℕ). length l) d, length-drop x.span.end bytes))
    by (b ∷ bs) d n = ne_eqb x.span.end x.span.next (λ q. omega (arith, q, n, one ((b == 13) && begins_with_lf bs)))
      where
        one : (v : Bool) → 0 < cond v 2 1
        one true = omega arith
        one false = omega arith

module _ (t : ℕ) (bytes : List ℕ) (some : 0 < t) (limit : t * length bytes + 1 < 2 ^ 64) (stack : List Container) where
  -- one line
  module _ (number start : ℕ) (x : RowAt) (r : Row) (row : IsRowIn t bytes stack number start x r) (outside : IsOutside bytes start) where
    pub columns_small : r.columns ≤ x.span.size
    columns_small = omega (arith, row.placed.columns, row.is.columns)

    pub row_run : (is_held : Bool) (c : ℕ) → c ≤ x.span.size → Run bytes (place_after t bytes (point number 1 start 0) c) (end_at is_held x) (drop c (cond is_held r.line (line_text r.line)))
    row_run true c w = subst (λ (n : ℕ). Run bytes (place_after t bytes (point number 1 start 0) c) (cond (x.span.end == x.span.next) (point n (x.span.size + 1) x.span.end 0) (point (n + 1) 1 x.span.next 0)) (drop c r.line)) (sym row.placed.number_is) (line_run t bytes some limit number start x row.placed r.line row.line outside c w)
    row_run false c w = subst (λ (n : ℕ). Run bytes (place_after t bytes (point number 1 start 0) c) (point n (x.span.size + 1) x.span.end 0) (drop c (line_text r.line))) (sym row.placed.number_is) (text_run t bytes some limit number start x row.placed r.line row.line outside c w)

    -- up to the next line, which there is
    pub row_kept : x.span.next < length bytes → (c : ℕ) → c ≤ x.span.size → Run bytes (place_after t bytes (point number 1 start 0) c) (point (suc number) 1 x.span.next 0) (drop c r.line)
    row_kept w c v =
        let other = ends_before t bytes number start x row.placed w in
        let on : number + 1 ≡ suc number = omega arith in
        subst (λ (q : Point). Run bytes (place_after t bytes (point number 1 start 0) c) q (drop c r.line)) (ap (λ b. cond b (point number (x.span.size + 1) x.span.end 0) (point (number + 1) 1 x.span.next 0)) other ∙ ap (λ k. point k 1 x.span.next 0) on)
        (line_run t bytes some limit number start x row.placed r.line row.line outside c v)

    pub kept_some : x.span.next < length bytes → (c : ℕ) → c ≤ x.span.size → 0 < length (drop c r.line)
    kept_some w c v =
        let other = ends_before t bytes number start x row.placed w in
        let line_parts_are = line_parts t bytes some limit number start x row.placed r.line row.line outside in
        let size = text_size t bytes some limit number start x row.placed r.line row.line outside in
        let all : length r.line ≡ length (line_text r.line) + length (ending_of r.line) = ap (λ (l : List Seat). length l) line_parts_are ∙ length-append (line_text r.line) (ending_of r.line) in
        let more : 0 < length (ending_of r.line) = by (ending_of r.line) (end_run t bytes some limit number start x row.placed r.line row.line outside) other in
        omega (arith, all, more, size, v, length-drop c r.line)
      where
        by : (ss : List Seat) → Run bytes (point number (x.span.size + 1) x.span.end 0) (cond (x.span.end == x.span.next) (point number (x.span.size + 1) x.span.end 0) (point (number + 1) 1 x.span.next 0)) ss → (x.span.end == x.span.next) ≡ false → 0 < length ss
        by [] h e =
            let same : point number (x.span.size + 1) x.span.end 0 ≡ point (number + 1) 1 x.span.next 0 = h.none refl ∙ ap (λ b. cond b (point number (x.span.size + 1) x.span.end 0) (point (number + 1) 1 x.span.next 0)) e in
            let line : number ≡ number + 1 = ap (λ (q : Point). q.line) same in
            absurd (omega (arith, line))
        by (s ∷ ss) h e = omega arith

    pub first_is : point number 1 start 0 ≡ point x.span.number 1 x.span.start 0
    first_is = λ k. point (sym row.placed.number_is k) 1 (sym row.placed.start_is k) 0

    -- its prefixes
    pub row_bytes : line_bytes t x.span.number 1 x.span.start (drop x.span.start bytes) ≡ bytes_of (line_text r.line)
    row_bytes = (λ k. line_bytes t (row.placed.number_is k) 1 (row.placed.start_is k) (drop (row.placed.start_is k) bytes)) ∙ sym (text_of_line_at t number start (drop start bytes)) ∙ ap text_of (sym row.line)

    pub row_seats : AreSeatsAt t bytes (point x.span.number 1 x.span.start 0) (line_text r.line)
    row_seats = subst (λ (p : Point). AreSeatsAt t bytes p (line_text r.line)) first_is (text_seats_at t bytes some limit number start x row.placed r.line row.line outside)

    pub row_columns : HasColumns t bytes (point x.span.number 1 x.span.start 0) (length (line_bytes t x.span.number 1 x.span.start (drop x.span.start bytes)))
    row_columns =
        let size : x.span.size ≡ length (line_bytes t x.span.number 1 x.span.start (drop x.span.start bytes)) = row.placed.size_is ∙ (λ k. length (line_bytes t (sym row.placed.number_is k) 1 (sym row.placed.start_is k) (drop (sym row.placed.start_is k) bytes))) in
        subst (λ (p : Point). HasColumns t bytes p (length (line_bytes t x.span.number 1 x.span.start (drop x.span.start bytes)))) first_is (subst (HasColumns t bytes (point number 1 start 0)) size (text_columns t bytes some limit number start x row.placed r.line row.line outside))

    pub went_small : columns_of r.went_on ≤ length (line_text r.line)
    went_small = omega (arith, row.is.columns, row.sum, row.placed.columns, text_size t bytes some limit number start x row.placed r.line row.line outside)

    pub went_marks : prefixes_marks bytes r.went_on (line_text r.line) ≡ prefixes_marks bytes r.went_on r.line
    went_marks =
        sym (prefixes_front bytes r.went_on (line_text r.line) (ending_of r.line) went_small)
        ∙ ap (prefixes_marks bytes r.went_on) (sym (line_parts t bytes some limit number start x row.placed r.line row.line outside))

    pub went_again : going_on (take x.row.many stack) x.span.number (line_bytes t x.span.number 1 x.span.start (drop x.span.start bytes)) ≡ r.went_on
    went_again = (λ k. going_on (take x.row.many stack) (row.placed.number_is k) (row_bytes k)) ∙ sym row.went

  -- ---- one line more

  -- it has no prefix
  pub step_plain : (is_held : Bool) (es : List Event) (previous : Option ℕ) (place to : Point) (x : RowAt) (xs : List RowAt) (rest all : List Mark) → x.row.going ≡ 0
      → InStretch t bytes stack is_held es previous place to (x ∷ xs) rest all → InStretch t bytes stack is_held es previous place to xs rest all
  step_plain is_held es previous place to x xs rest all e w = by w.rows w.are w.written
    where
      pending : (r : Row) (row : IsRowIn t bytes stack w.number w.start x r) → r.columns ≡ 0 → (ys : List RowAt) (rs : List Row) → AreFurther t bytes stack (suc w.number) x.span.next ys rs
          → IsPending t bytes stack place (end_at is_held x) (w.kept ++ drop r.columns (cond is_held r.line (line_text r.line))) (w.kept ++ drop r.columns r.line) (suc w.number) x.span.next ys
      pending r row c [] rs are =
          run_append bytes place (point w.number 1 w.start 0) (end_at is_held x) w.kept (drop r.columns (cond is_held r.line (line_text r.line))) w.pending.0
          (subst (λ (p : Point). Run bytes p (end_at is_held x) (drop r.columns (cond is_held r.line (line_text r.line)))) (ap (place_after t bytes (point w.number 1 w.start 0)) c) (row_run w.number w.start x r row w.outside is_held r.columns (columns_small w.number w.start x r row w.outside)))
      pending r row c (y ∷ ys) [] are = absurd are
      pending r row c (y ∷ ys) (q ∷ qs) are = (
        run_append bytes place (point w.number 1 w.start 0) (point (suc w.number) 1 x.span.next 0) w.kept (drop r.columns r.line) w.pending.0
            (subst (λ (p : Point). Run bytes p (point (suc w.number) 1 x.span.next 0) (drop r.columns r.line)) (ap (place_after t bytes (point w.number 1 w.start 0)) c) (row_kept w.number w.start x r row w.outside are.0.placed.inside r.columns (columns_small w.number w.start x r row w.outside))),
        omega (arith, w.pending.1, length-append w.kept (drop r.columns r.line)),
      )

      by : (rows : List Row) → AreFurther t bytes stack w.number w.start (x ∷ xs) rows
          → Written es previous (not (has_none (flat_map (λ (p : Piece bytes). p.seats) (joined_pieces bytes (pieces_from bytes is_held w.last w.kept rows))))) (chunks_of bytes (is_some previous) (joined_pieces bytes (pieces_from bytes is_held w.last w.kept rows)) ++ rest) all
          → InStretch t bytes stack is_held es previous place to xs rest all
      by [] are written = absurd are
      by (r ∷ rs) are written =
          let row = are.0 in
          let went : columns_of r.went_on ≡ 0 = sym row.is.going ∙ e in
          let none : has_none (prefixes_marks bytes r.went_on r.line) ≡ true = ap has_none (prefixes_none bytes r.went_on r.line went) in
          let c : r.columns ≡ 0 = row.sum ∙ (λ k. went k + columns_of (are.1 k)) in
          record {
            number = suc w.number;
            start = x.span.next;
            rows = rs;
            last = w.kept ++ drop r.columns (cond is_held r.line (line_text r.line));
            kept = w.kept ++ drop r.columns r.line;
            end = end_at is_held x;
            to_is = w.to_is;
            are = are.2;
            outside = behind_line t bytes some limit w.number w.start x row.placed r.line row.line w.outside;
            pending = pending r row c xs rs are.2;
            written = subst (λ (l : List (Piece bytes)). Written es previous (not (has_none (flat_map (λ (p : Piece bytes). p.seats) l))) (chunks_of bytes (is_some previous) l ++ rest) all) (pieces_go_on bytes is_held w.kept r w.last rs none) written;
          }

  -- it has one: what is before it is a chunk
  pub step_chunk : (is_held : Bool) (es mid new : List Event) (previous : Option ℕ) (index : ℕ) (place to next_place : Point) (x : RowAt) (xs : List RowAt) (rest all : List Mark) → 0 < x.row.going
      → index ≡ length es → mid ≡ with_chunk content.Content previous place (point x.span.number 1 x.span.start 0) es
      → ((seats : List Seat) → AreSeatsAt t bytes (point x.span.number 1 x.span.start 0) seats → line_bytes t x.span.number 1 x.span.start (drop x.span.start bytes) ≡ bytes_of seats
      → new ≡ mid ++ events_of (prefixes_marks bytes (going_on (take x.row.many stack) x.span.number (line_bytes t x.span.number 1 x.span.start (drop x.span.start bytes))) seats))
      → next_place ≡ place_after t bytes (point x.span.number 1 x.span.start 0) (columns_of (going_on (take x.row.many stack) x.span.number (line_bytes t x.span.number 1 x.span.start (drop x.span.start bytes))))
      → InStretch t bytes stack is_held es previous place to (x ∷ xs) rest all → InStretch t bytes stack is_held new (Some index) next_place to xs rest all
  step_chunk is_held es mid new previous index place to next_place x xs rest all some_columns ei em write ep w = by w.rows w.are w.kept w.pending w.written
    where
      pending : (r : Row) (row : IsRowIn t bytes stack w.number w.start x r) → next_place ≡ place_after t bytes (point w.number 1 w.start 0) r.columns → (ys : List RowAt) (rs : List Row) → AreFurther t bytes stack (suc w.number) x.span.next ys rs
          → IsPending t bytes stack next_place (end_at is_held x) (drop r.columns (cond is_held r.line (line_text r.line))) (drop r.columns r.line) (suc w.number) x.span.next ys
      pending r row e [] rs are =
          subst (λ (p : Point). Run bytes p (end_at is_held x) (drop r.columns (cond is_held r.line (line_text r.line)))) (sym e) (row_run w.number w.start x r row w.outside is_held r.columns (columns_small w.number w.start x r row w.outside))
      pending r row e (y ∷ ys) [] are = absurd are
      pending r row e (y ∷ ys) (q ∷ qs) are = (
        subst (λ (p : Point). Run bytes p (point (suc w.number) 1 x.span.next 0) (drop r.columns r.line)) (sym e) (row_kept w.number w.start x r row w.outside are.0.placed.inside r.columns (columns_small w.number w.start x r row w.outside)),
        kept_some w.number w.start x r row w.outside are.0.placed.inside r.columns (columns_small w.number w.start x r row w.outside),
      )

      -- the events of the chunk and of the prefix
      written_is : (r : Row) (row : IsRowIn t bytes stack w.number w.start x r) (rs : List Row) (kept : List Seat) → Run bytes place (point w.number 1 w.start 0) kept × (0 < length kept)
          → Written es previous (not (has_none (flat_map (λ (p : Piece bytes). p.seats) (joined_pieces bytes (pieces_from bytes is_held w.last kept (r ∷ rs)))))) (chunks_of bytes (is_some previous) (joined_pieces bytes (pieces_from bytes is_held w.last kept (r ∷ rs))) ++ rest) all
          → let l = joined_pieces bytes (pieces_from bytes is_held (drop r.columns (cond is_held r.line (line_text r.line))) (drop r.columns r.line) rs) in
          Written new (Some index) (not (has_none (flat_map (λ (p : Piece bytes). p.seats) l))) (chunks_of bytes true l ++ rest) all
      written_is r row rs [] run written = absurd (omega (arith, run.1))
      written_is r row rs (s ∷ ss) run written =
          let before = prefixes_marks bytes r.went_on r.line in
          let l = joined_pieces bytes (pieces_from bytes is_held (drop r.columns (cond is_held r.line (line_text r.line))) (drop r.columns r.line) rs) in
          let comes = not (has_none (flat_map (λ (p : Piece bytes). p.seats) l)) in
          let chunk = chunk_span bytes (Some (record { content = content.Content; has_previous = is_some previous; has_next = comes })) name.Data (s ∷ ss) [] in
          let front : 0 < columns_of r.went_on = omega (arith, some_columns, row.is.going) in
          let size = text_size t bytes some limit w.number w.start x row.placed r.line row.line w.outside in
          let less = went_small w.number w.start x r row w.outside in
          let marks = went_marks w.number w.start x r row w.outside in
          let some_marks : has_none before ≡ false = ap has_none (sym marks) ∙ prefixes_some bytes r.went_on (line_text r.line) front less in
          let yes = pieces_some bytes is_held (s ∷ ss) r w.last rs (omega arith) in
          let split : chunks_of bytes (is_some previous) (joined_pieces bytes (pieces_from bytes is_held w.last (s ∷ ss) (r ∷ rs))) ++ rest ≡ chunk ++ (before ++ (chunks_of bytes true l ++ rest)) =
          ap (λ (m : List Mark). m ++ rest) (pieces_end bytes is_held (s ∷ ss) r (is_some previous) w.last rs some_marks) ∙ append_assoc chunk (before ++ chunks_of bytes true l) rest ∙ ap (λ (m : List Mark). chunk ++ m) (append_assoc before (chunks_of bytes true l) rest) in
          let ready : Written es previous true (chunk ++ (before ++ (chunks_of bytes true l ++ rest))) all = subst (λ (b : Bool). Written es previous b (chunk ++ (before ++ (chunks_of bytes true l ++ rest))) all) yes (subst (λ (m : List Mark). Written es previous (not (has_none (flat_map (λ (p : Piece bytes). p.seats) (joined_pieces bytes (pieces_from bytes is_held w.last (s ∷ ss) (r ∷ rs)))))) m all) split written) in
          let to_is : point x.span.number 1 x.span.start 0 ≡ shown bytes (end_after s.end ss) = sym (first_is w.number w.start x r row w.outside) ∙ run.0.last in
          let one = write_chunk content.Content bytes es mid previous index (is_some previous) comes s ss place (point x.span.number 1 x.span.start 0) (before ++ (chunks_of bytes true l ++ rest)) all refl run.0.first to_is ei em ready in
          let prefix : new ≡ mid ++ events_of before =
          write (line_text r.line) (row_seats w.number w.start x r row w.outside) (row_bytes w.number w.start x r row w.outside)
          ∙ (λ k. mid ++ events_of (prefixes_marks bytes (went_again w.number w.start x r row w.outside k) (line_text r.line))) ∙ (λ k. mid ++ events_of (marks k)) in
          write_plain mid new (Some index) comes before (chunks_of bytes true l ++ rest) all (plain_prefixes bytes r.went_on r.line) prefix one

      by : (rows : List Row) → AreFurther t bytes stack w.number w.start (x ∷ xs) rows → (kept : List Seat) → Run bytes place (point w.number 1 w.start 0) kept × (0 < length kept)
          → Written es previous (not (has_none (flat_map (λ (p : Piece bytes). p.seats) (joined_pieces bytes (pieces_from bytes is_held w.last kept rows))))) (chunks_of bytes (is_some previous) (joined_pieces bytes (pieces_from bytes is_held w.last kept rows)) ++ rest) all
          → InStretch t bytes stack is_held new (Some index) next_place to xs rest all
      by [] are kept run written = absurd are
      by (r ∷ rs) are kept run written =
          let row = are.0 in
          let columns : columns_of (going_on (take x.row.many stack) x.span.number (line_bytes t x.span.number 1 x.span.start (drop x.span.start bytes))) ≡ r.columns =
          ap columns_of (went_again w.number w.start x r row w.outside) ∙ (let none : columns_of r.begun ≡ 0 = ap columns_of are.1 in let all_columns : columns_of r.went_on ≡ r.columns = omega (arith, none, row.sum) in all_columns) in
          let at : next_place ≡ place_after t bytes (point w.number 1 w.start 0) r.columns = ep ∙ (λ k. place_after t bytes (sym (first_is w.number w.start x r row w.outside) k) (columns k)) in
          record {
            number = suc w.number;
            start = x.span.next;
            rows = rs;
            last = drop r.columns (cond is_held r.line (line_text r.line));
            kept = drop r.columns r.line;
            end = end_at is_held x;
            to_is = w.to_is;
            are = are.2;
            outside = behind_line t bytes some limit w.number w.start x row.placed r.line row.line w.outside;
            pending = pending r row at xs rs are.2;
            written = written_is r row rs kept run written;
          }

  -- ---- its end

  -- nothing is left to hold
  pub stretch_nothing : (is_held : Bool) (es : List Event) (previous : Option ℕ) (place to : Point) (xs : List RowAt) (rest all : List Mark) → xs ≡ [] → to.index ≤ place.index
      → InStretch t bytes stack is_held es previous place to xs rest all → Written es None false rest all
  stretch_nothing is_held es previous place to (x ∷ xs) rest all none h w = absurd (cc)
  stretch_nothing is_held es previous place to [] rest all none h w = by w.rows w.are w.last w.pending w.written
    where
      by : (rows : List Row) → AreFurther t bytes stack w.number w.start [] rows → (last : List Seat) → Run bytes place w.end last
          → Written es previous (not (has_none (flat_map (λ (p : Piece bytes). p.seats) (joined_pieces bytes (pieces_from bytes is_held last w.kept rows))))) (chunks_of bytes (is_some previous) (joined_pieces bytes (pieces_from bytes is_held last w.kept rows)) ++ rest) all
          → Written es None false rest all
      by (r ∷ rs) are last run written = absurd are
      by [] are (s ∷ ss) run written = let less : place.index < w.end.index = run.some (omega arith) in absurd (omega (arith, less, h, ap (λ (q : Point). q.index) w.to_is))
      by [] are [] run written = end_chunks es previous false rest all written

  -- the last chunk
  pub stretch_last : (is_held : Bool) (es new : List Event) (previous : Option ℕ) (index : ℕ) (place to : Point) (xs : List RowAt) (rest all : List Mark) → xs ≡ [] → place.index < to.index
      → index ≡ length es → new ≡ with_chunk content.Content previous place to es → InStretch t bytes stack is_held es previous place to xs rest all → Written new None false rest all
  stretch_last is_held es new previous index place to (x ∷ xs) rest all none h ei e w = absurd (cc)
  stretch_last is_held es new previous index place to [] rest all none h ei e w = by w.rows w.are w.last w.pending w.written
    where
      by : (rows : List Row) → AreFurther t bytes stack w.number w.start [] rows → (last : List Seat) → Run bytes place w.end last
          → Written es previous (not (has_none (flat_map (λ (p : Piece bytes). p.seats) (joined_pieces bytes (pieces_from bytes is_held last w.kept rows))))) (chunks_of bytes (is_some previous) (joined_pieces bytes (pieces_from bytes is_held last w.kept rows)) ++ rest) all
          → Written new None false rest all
      by (r ∷ rs) are last run written = absurd are
      by [] are [] run written = let same : place.index ≡ w.end.index = ap (λ (q : Point). q.index) (run.none refl) in absurd (omega (arith, same, h, ap (λ (q : Point). q.index) w.to_is))
      by [] are (s ∷ ss) run written =
          let chunk = chunk_span bytes (Some (record { content = content.Content; has_previous = is_some previous; has_next = false })) name.Data (s ∷ ss) [] in
          let ready : Written es previous true (chunk ++ rest) all = subst (λ (m : List Mark). Written es previous true (m ++ rest) all) (append-nil chunk) written in
          end_chunks new (Some index) false rest all (write_chunk content.Content bytes es new previous index (is_some previous) false s ss place to rest all refl run.first (w.to_is ∙ run.last) ei e ready)

-- ---- the lines that are left, one by one

-- The first of lines that are left
pub record IsFurther (t : ℕ) (bytes : List ℕ) (stack : List Container) (x : RowAt) (xs : List RowAt) : Type 0 where
  pub inside : x.span.start ≤ length bytes
  pub columns : HasColumns t bytes (point x.span.number 1 x.span.start 0) (length (line_bytes t x.span.number 1 x.span.start (drop x.span.start bytes)))
  pub many : x.row.many ≤ length stack
  pub seats : List Seat
  pub seats_at : AreSeatsAt t bytes (point x.span.number 1 x.span.start 0) seats
  pub seats_bytes : line_bytes t x.span.number 1 x.span.start (drop x.span.start bytes) ≡ bytes_of seats
  pub behind : HasFurther t bytes stack xs
  pub sizes : HaveSizes stack
  pub size : length (line_bytes t x.span.number 1 x.span.start (drop x.span.start bytes)) ≡ x.span.size

pub further_one : (t : ℕ) (bytes : List ℕ) (some : 0 < t) (limit : t * length bytes + 1 < 2 ^ 64) (stack : List Container) (x : RowAt) (xs : List RowAt) → HasFurther t bytes stack (x ∷ xs) → IsFurther t bytes stack x xs
further_one t bytes some limit stack x xs w = by w.rows w.are
  where
    by : (rows : List Row) → AreFurther t bytes stack w.number w.start (x ∷ xs) rows → IsFurther t bytes stack x xs
    by [] are = absurd are
    by (r ∷ rs) are =
        let row = are.0 in
        record {
          inside = omega (arith, row.placed.inside, row.placed.start_is);
          columns = row_columns t bytes some limit stack w.number w.start x r row w.outside;
          many = row.many;
          seats = line_text r.line;
          seats_at = row_seats t bytes some limit stack w.number w.start x r row w.outside;
          seats_bytes = row_bytes t bytes some limit stack w.number w.start x r row w.outside;
          behind = record { number = suc w.number; start = x.span.next; rows = rs; are = are.2; outside = behind_line t bytes some limit w.number w.start x row.placed r.line row.line w.outside };
          sizes = row.sizes;
          size = (λ k. length (line_bytes t (row.placed.number_is k) 1 (row.placed.start_is k) (drop (row.placed.start_is k) bytes))) ∙ sym row.placed.size_is;
        }

pub set_next_length : (i n : ℕ) (es : List Event) → length (set_next i n es) ≡ length es
set_next_length i n [] = refl
set_next_length zero n (e ∷ es) = refl
set_next_length (suc i) n (e ∷ es) = ap suc (set_next_length i n es)

-- a chunk is two events more
pub chunk_length : (c : Content) (previous : Option ℕ) (from to : Point) (es : List Event) → length (with_chunk c previous from to es) ≡ length es + 2
chunk_length c None from to es = length-append es _
chunk_length c (Some i) from to es = length-append (set_next i (length es) es) _ ∙ ap (λ n. n + 2) (set_next_length i (length es) es)
