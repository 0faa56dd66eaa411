-- Lemmas on seats from one place to another.
use Rattle.std.proofs.Common.{◌≡◌, ℕ, suc, ◌+◌, ◌-◌, ◌*◌, ◌^◌, ◌<◌, ◌≤◌, Bool, true, false, cond, List, [], ◌∷◌, ◌++◌, length, take, drop, min, refl, sym, ap, ◌∙◌, subst, arith, eq-eqb, ne_eqb, length-drop, length-take}
use Rattle.std.specs.Prelude.{◌==◌, ◌&&◌, slice_index}
use Rattle.std.specs.List.{prefix_len}
use Rattle.std.proofs.lemmas.List.{append-nil, drop-append-le, drop-drop, length-map, take-append-drop, take_all}
use Rattle.std.proofs.lemmas.Nat.{mul-le}
use Rattle.markdown_base.specs.declared.event.Point.{Point}
use Rattle.markdown_base.specs.Places.{follows_cr, shown}
use Rattle.markdown_base.specs.Virtual.{Seat, point, begins_with_lf, end_after, line_feed, virtual_from}
use Rattle.markdown_base.proofs.SeatCounts.{virtual-length}
use Rattle.markdown_base.proofs.Seats.{end-after-append}
use Rattle.mdconstructs_machines.specs.LineEvents.{ending_of, line_text}
use Rattle.mdblock_leaf_blocks.specs.LeafBlocks.{Line}
use Rattle.mdblock_lines.specs.Lines.{ending_seats, ending_size, is_in_line, is_no_ending, line_at, place_after, text_seats}
use Rattle.mdblock_containers.specs.declared.spans.RowAt.{RowAt}
use Rattle.mdblock_containers.specs.PlaceEvents.{HasColumns}
use Rattle.mdblock_containers.specs.SeatPlaces.{AreSeatsAt}
use Rattle.mdblock_containers.specs.Spans.{IsPlaced}
use Rattle.mdblock_containers.specs.Stretches.{IsOutside, Run}
use Rattle.mdblock_containers.proofs.DocumentRows.{end_within}
use Rattle.mdblock_containers.proofs.LineFacts.{byte_at, rest_at, lf_first_byte, line_text_at, ending_of_at, outside_end, outside_next, outside_shown}
use Rattle.mdblock_containers.proofs.SeatLemmas.{seats_drop, seats_end}
use Rattle.mdblock_containers.proofs.SpanLemmas.{Course, course_from, course_end, course_seats, course_inside}

-- ---- seats from one place to another, as places are shown

module _ (bytes : List ℕ) where
  pub run_none : (p q : Point) → p ≡ q → Run bytes p q []
  run_none p q e = record { first = tt; last = tt; none = λ _. e; some = λ h. absurd (omega (arith, h)) }

  -- one behind the other
  pub run_append : (p q r : Point) (xs ys : List Seat) → Run bytes p q xs → Run bytes q r ys → Run bytes p r (xs ++ ys)
  run_append p q r [] ys f g = subst (λ (x : Point). Run bytes x r ys) (sym (f.none refl)) g
  run_append p q r (x ∷ xs) [] f g = subst (λ (l : List Seat). Run bytes p r (x ∷ l)) (sym (append-nil xs)) (subst (λ (y : Point). Run bytes p y (x ∷ xs)) (g.none refl) f)
  run_append p q r (x ∷ xs) (y ∷ ys) f g =
      let m : p.index < q.index = f.some (omega arith) in
      let n : q.index < r.index = g.some (omega arith) in
      record {
        first = f.first;
        last = g.last ∙ ap (shown bytes) (sym (end-after-append x.end xs (y ∷ ys)));
        none = λ e. absurd (cc);
        some = λ h. omega arith;
      }

-- ---- a line

module _ (t : ℕ) (bytes : List ℕ) (some : 0 < t) (limit : t * length bytes + 1 < 2 ^ 64) (number start : ℕ) (x : RowAt) (placed : IsPlaced t bytes number start x) (line : Line) (is : line ≡ line_at t number start (drop start bytes)) (outside : IsOutside bytes start) where
  abbrev pub first_at : Point
  first_at = point number 1 start 0

  abbrev pub text_at : Point
  text_at = point number (x.span.size + 1) x.span.end 0

  pub text_is : line_text line ≡ text_seats t number start (drop start bytes)
  text_is = ap line_text is ∙ line_text_at t number start (drop start bytes)

  pub text_size : length (line_text line) ≡ x.span.size
  text_size = ap (λ (l : List Seat). length l) text_is ∙ sym (placed.size_is ∙ length-map (text_seats t number start (drop start bytes)) (λ (s : Seat). s.byte))

  pub text_course : Course t bytes x.span.end first_at (line_text line)
  text_course = subst (λ (k : ℕ). Course t bytes k first_at (line_text line)) (sym placed.end_is) (subst (λ (l : List Seat). Course t bytes (start + prefix_len is_in_line (drop start bytes)) first_at l) (sym text_is) (course_from t bytes some number 1 start (drop start bytes) refl (omega arith)))

  pub end_outside : IsOutside bytes x.span.end
  end_outside = outside_end bytes start x.span.end placed.end_is outside

  pub text_seats_at : AreSeatsAt t bytes first_at (line_text line)
  text_seats_at = course_seats t bytes x.span.end first_at (line_text line) text_course (λ q e v. outside_shown bytes q x.span.end end_outside e)

  pub end_inside : x.span.end ≤ length bytes
  end_inside = end_within bytes start x.span.end (omega (arith, placed.inside)) placed.end_is

  pub size_small : x.span.size ≤ t * length bytes
  size_small =
      let seats = virtual_from t number 1 start (drop start bytes) in
      let all : length seats ≤ t * length (drop start bytes) = virtual-length t some (drop start bytes) number 1 start in
      let front : length (take (prefix_len is_no_ending seats) seats) ≡ min (prefix_len is_no_ending seats) (length seats) = length-take (prefix_len is_no_ending seats) seats in
      let left : length (drop start bytes) ≡ length bytes - start = length-drop start bytes in
      let fewer : t * length (drop start bytes) ≤ t * length bytes = mul-le t (length (drop start bytes)) t (length bytes) (omega arith) (omega arith) in
      let n : length (text_seats t number start (drop start bytes)) ≡ x.span.size = sym (ap (λ (l : List Seat). length l) text_is) ∙ text_size in
      omega arith

  pub text_columns : HasColumns t bytes first_at x.span.size
  text_columns = record {
    inside = λ k w. let i : (place_after t bytes first_at k).index < x.span.end = course_inside t bytes x.span.end first_at (line_text line) k text_course (omega (arith, w, text_size)) in omega (arith, i, end_inside);
    first = omega arith;
    room = omega (arith, size_small, limit);
  }

  -- where the text ends
  pub text_end : end_after first_at (line_text line) ≡ text_at
  text_end = let n : 1 + length (line_text line) ≡ x.span.size + 1 = omega (arith, text_size) in course_end t bytes x.span.end first_at (line_text line) text_course ∙ ap (λ k. point number k x.span.end 0) n

  pub text_at_shown : shown bytes text_at ≡ text_at
  text_at_shown = outside_shown bytes text_at x.span.end end_outside refl

  pub behind_text : place_after t bytes first_at x.span.size ≡ text_at
  behind_text =
      sym (ap (place_after t bytes first_at) text_size) ∙ sym (seats_end t bytes first_at (line_text line) (length (line_text line)) text_seats_at (omega arith))
      ∙ ap (end_after first_at) (take_all (length (line_text line)) (line_text line) (omega arith)) ∙ text_end

  -- ---- its line ending

  -- where the line ends, with its line ending
  abbrev pub line_end : Point
  line_end = cond (x.span.end == x.span.next) text_at (point (number + 1) 1 x.span.next 0)

  pub ending_is : ending_of line ≡ ending_seats number (x.span.size + 1) x.span.end (ending_size (drop x.span.end bytes))
  ending_is =
      let n = prefix_len is_in_line (drop start bytes) in
      let column : 1 + length (text_seats t number start (drop start bytes)) ≡ x.span.size + 1 = omega (arith, sym (ap (λ (l : List Seat). length l) text_is) ∙ text_size) in
      let rest : drop n (drop start bytes) ≡ drop x.span.end bytes = drop-drop n start bytes ∙ ap (λ k. drop k bytes) (sym placed.end_is) in
      ap ending_of is ∙ ending_of_at t number start (drop start bytes) ∙ (λ k. ending_seats number (column k) (sym placed.end_is k) (ending_size (rest k)))

  -- the line ending of so many bytes
  pub ending_run : (rest : List ℕ) → drop x.span.end bytes ≡ rest → x.span.next ≡ x.span.end + ending_size rest → Run bytes text_at line_end (ending_seats number (x.span.size + 1) x.span.end (ending_size rest))
  ending_run [] d n = let same : x.span.end ≡ x.span.next = omega (arith, n) in run_none bytes text_at line_end (λ k. cond (sym (eq-eqb x.span.end x.span.next same) k) text_at (point (number + 1) 1 x.span.next 0))
  ending_run (b ∷ bs) d n = by (b == 13) refl (begins_with_lf bs) refl n
    where
      one : (size : ℕ) → x.span.next ≡ x.span.end + suc size → text_at ≡ shown bytes (point number (x.span.size + 1) (x.span.end + size) 0) → Run bytes text_at line_end (line_feed number (x.span.size + 1) (x.span.end + size) ∷ [])
      one size m first =
          let other : (x.span.end == x.span.next) ≡ false = ne_eqb x.span.end x.span.next (λ q. omega (arith, q, m)) in
          let end : line_end ≡ point (number + 1) 1 x.span.next 0 = ap (λ v. cond v text_at (point (number + 1) 1 x.span.next 0)) other in
          let line_is : number + 1 ≡ suc number = omega arith in
          let index_is : x.span.next ≡ suc (x.span.end + size) = omega (arith, m) in
          let next_shown : shown bytes (point (number + 1) 1 x.span.next 0) ≡ point (number + 1) 1 x.span.next 0 = outside_shown bytes (point (number + 1) 1 x.span.next 0) x.span.next (outside_next bytes x.span.end x.span.next placed.next_is end_outside) refl in
          record {
            first = first;
            last = end ∙ sym next_shown ∙ (λ k. shown bytes (point (line_is k) 1 (index_is k) 0));
            none = λ e. absurd (cc);
            some = λ h. let i : line_end.index ≡ x.span.next = ap (λ (q : Point). q.index) end in omega (arith, i, m);
          }

      by : (cr : Bool) → (b == 13) ≡ cr → (lf : Bool) → begins_with_lf bs ≡ lf → x.span.next ≡ x.span.end + cond (cr && lf) 2 1 → Run bytes text_at line_end (ending_seats number (x.span.size + 1) x.span.end (cond (cr && lf) 2 1))
      by true ecr true elf m =
          let lf_is : (slice_index bytes (suc x.span.end) == 10) ≡ true = ap (λ k. k == 10) (byte_at bytes (suc x.span.end) bs (rest_at bytes x.span.end b bs d)) ∙ lf_first_byte bytes bs true elf in
          let cr_is : follows_cr bytes (suc x.span.end) ≡ true = ap (λ k. k == 13) (byte_at bytes x.span.end (b ∷ bs) d) ∙ ecr in
          let at : suc x.span.end ≡ x.span.end + 1 = omega arith in
          let back : suc x.span.end - 1 ≡ x.span.end = omega arith in
          let there : shown bytes (point number (x.span.size + 1) (suc x.span.end) 0) ≡ text_at =
          (λ k. cond (lf_is k && cr_is k) (point number (x.span.size + 1) (suc x.span.end - 1) 0) (point number (x.span.size + 1) (suc x.span.end) 0)) ∙ ap (λ i. point number (x.span.size + 1) i 0) back in
          one 1 m (sym there ∙ ap (λ i. shown bytes (point number (x.span.size + 1) i 0)) at)
      by true ecr false elf m = one 0 m (let at : x.span.end ≡ x.span.end + 0 = omega arith in sym text_at_shown ∙ ap (λ i. shown bytes (point number (x.span.size + 1) i 0)) at)
      by false ecr lf elf m = one 0 m (let at : x.span.end ≡ x.span.end + 0 = omega arith in sym text_at_shown ∙ ap (λ i. shown bytes (point number (x.span.size + 1) i 0)) at)

  pub end_run : Run bytes text_at line_end (ending_of line)
  end_run = subst (Run bytes text_at line_end) (sym ending_is) (ending_run (drop x.span.end bytes) refl placed.next_is)

  pub line_parts : line ≡ line_text line ++ ending_of line
  line_parts = is ∙ (λ k. sym (line_text_at t number start (drop start bytes)) k ++ sym (ending_of_at t number start (drop start bytes)) k) ∙ (λ k. line_text (sym is k) ++ ending_of (sym is k))

  -- ---- from a column on

  pub columns_end : (c : ℕ) → c ≤ x.span.size → end_after (place_after t bytes first_at c) (drop c (line_text line)) ≡ text_at
  columns_end c w =
      ap (λ (p : Point). end_after p (drop c (line_text line))) (sym (seats_end t bytes first_at (line_text line) c text_seats_at (omega (arith, text_size, w))))
      ∙ sym (end-after-append first_at (take c (line_text line)) (drop c (line_text line))) ∙ ap (end_after first_at) (take-append-drop c (line_text line)) ∙ text_end

  pub seats_run : (p : Point) (ss : List Seat) → AreSeatsAt t bytes p ss → end_after p ss ≡ text_at → (0 < length ss → p.index < x.span.end) → Run bytes p text_at ss
  seats_run p [] h e w = run_none bytes p text_at e
  seats_run p (s ∷ ss) h e w = record { first = sym (ap (shown bytes) h.1 ∙ h.0); last = sym text_at_shown ∙ ap (shown bytes) (sym e); none = λ q. absurd (cc); some = w }

  pub text_run : (c : ℕ) → c ≤ x.span.size → Run bytes (place_after t bytes first_at c) text_at (drop c (line_text line))
  text_run c w =
      seats_run (place_after t bytes first_at c) (drop c (line_text line)) (seats_drop t bytes first_at (line_text line) c text_seats_at (omega (arith, text_size, w))) (columns_end c w)
      (λ h. course_inside t bytes x.span.end first_at (line_text line) c text_course (omega (arith, h, length-drop c (line_text line))))

  pub line_run : (c : ℕ) → c ≤ x.span.size → Run bytes (place_after t bytes first_at c) line_end (drop c line)
  line_run c w =
      let split : drop c line ≡ drop c (line_text line) ++ ending_of line = ap (drop c) line_parts ∙ drop-append-le c (line_text line) (ending_of line) (omega (arith, text_size, w)) in
      subst (Run bytes (place_after t bytes first_at c) line_end) (sym split) (run_append bytes (place_after t bytes first_at c) text_at line_end (drop c (line_text line)) (ending_of line) (text_run c w) end_run)

  pub behind_line : IsOutside bytes x.span.next
  behind_line = outside_next bytes x.span.end x.span.next placed.next_is end_outside
