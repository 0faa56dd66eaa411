-- Lemmas on a part as it is written, by the values of the code.
use Rattle.std.proofs.Common.{◌≡◌, ℕ, suc, ◌+◌, ◌-◌, ◌*◌, ◌^◌, ◌<◌, ◌≤◌, Bool, true, false, cond, List, [], ◌∷◌, ◌++◌, length, take, drop, map, min, refl, sym, ap, ◌∙◌, subst, arith, append_assoc, length-drop, length-append}
use Rattle.std.specs.Prelude.{◌==◌, ◌&&◌, not, Some, None, reverse}
use Rattle.std.specs.List.{flat_map}
use Rattle.std.proofs.lemmas.List.{drop-append-le, length-map, length-take-le, map-append, take_all, take-append-le, take-map}
use Rattle.markdown_base.specs.declared.event.Event.{Event}
use Rattle.markdown_base.specs.declared.event.Name.TheVariants as name
use Rattle.markdown_base.specs.declared.event.Point.{Point}
use Rattle.markdown_base.specs.Places.{shown}
use Rattle.markdown_base.specs.Virtual.{Seat, point}
use Rattle.mdconstructs_machines.specs.LineEvents.{ending_of, line_text}
use Rattle.mdblock_leaf_blocks.specs.LeafBlocks.{bytes_of}
use Rattle.mdblock_leaf_blocks.specs.LeafEvents.{Mark, white}
use Rattle.mdblock_lines.specs.Containers.{Container, Prefix}
use Rattle.mdblock_lines.specs.Lines.{line_bytes, place_after}
use Rattle.mdblock_containers.specs.declared.ahead.Ahead.{Ahead}
use Rattle.mdblock_containers.specs.declared.going.Open.{Open}
use Rattle.mdblock_containers.specs.declared.parts.PartEnd.{PartEnd}
use Rattle.mdblock_containers.specs.declared.prefixes.At.{At}
use Rattle.mdblock_containers.specs.declared.spans.RowAt.{RowAt}
use Rattle.mdblock_containers.specs.Ahead.{ahead_of}
use Rattle.mdblock_containers.specs.Frames.{frames_in}
use Rattle.mdblock_containers.specs.Parts.{ending_at, open_behind, stands_in}
use Rattle.mdblock_containers.specs.PlaceEvents.{HasColumns, span_at}
use Rattle.mdblock_containers.specs.Prefixes.{columns_of, containers_of, going_on}
use Rattle.mdblock_containers.specs.Rest.{AreLeft, ending_to, exits_to, rest_marks}
use Rattle.mdblock_containers.specs.Rows.{Row, has_none, holds_ending}
use Rattle.mdblock_containers.specs.SeatPlaces.{AreSeatsAt, events_of}
use Rattle.mdblock_containers.specs.Skeleton.{Frame, Part, behind_marks, begun_all, chunks_of, joined_pieces, pieces_of, end_of, ending_marks, frames_at, frames_of, further, going_on_at, inside_of, is_held, last_of, part_marks, parts, prefixes_marks, shared, standing}
use Rattle.mdblock_containers.specs.Spans.{IsRowIn, AreRowsIn}
use Rattle.mdblock_containers.specs.Stretches.{AreFurther, HasFurther, InStretch, IsPending, Run, end_at, ends_at, last_at, pieces_from}
use Rattle.mdblock_containers.specs.Views.{begun_of, leaf_of, open_of}
use Rattle.mdblock_containers.specs.Written.{NoChunk, Written}
use Rattle.mdblock_containers.proofs.AheadLemmas.{list_ahead}
use Rattle.mdblock_containers.proofs.EndLemmas.{HaveColumns, IsSome, begun_front, ending_is, ends_last, going_first, last_is, place_is, plain_begun}
use Rattle.mdblock_containers.proofs.JoinLemmas.{plain_prefixes, plain_span, prefixes_front}
use Rattle.mdblock_containers.proofs.RestLemmas.{AreSplit, behind_is_rest, inside_stretch, part_of, parts_more, plain_map}
use Rattle.mdblock_containers.proofs.RunLemmas.{line_parts, size_small, text_size}
use Rattle.mdblock_containers.proofs.SeatLemmas.{seats_drop, span_is_all}
use Rattle.mdblock_containers.proofs.StretchLemmas.{columns_small, first_is, kept_some, went_again, went_small, row_bytes, row_kept, row_run, row_seats}
use Rattle.mdblock_containers.proofs.WrittenLemmas.{write_plain}
use Rattle.mdblock_containers.proofs.PartFacts.{begun_columns_are, line_size, lines_is, next_few, next_outside, row, split_at, take_min, text_from, the_columns, the_fits, the_row, the_went}
use Rattle.mdblock_containers.proofs.RowLemmas.{has_none_begun}
use Rattle.mdblock_containers.proofs.WritingLemmas.{columns_behind}
use Rattle.mdblock_containers.proofs.WrittenLemmas.{end_chunks, plain_append}
use Rattle.std.proofs.lemmas.Nat.{mul-le}
use Rattle.mdblock_containers.proofs.PartSpans.{columns_front}

-- where a line ends, as the code says it
pub end_at_is : (b : Bool) (x : RowAt) → cond b (cond (x.span.end == x.span.next) (point x.span.number (x.span.size + 1) x.span.end 0) (point (x.span.number + 1) 1 x.span.next 0)) (point x.span.number (x.span.size + 1) x.span.end 0) ≡ end_at b x
end_at_is true x = refl
end_at_is false x = refl

-- values of the code
pub own_of : (items own slice : List Open) (all : ℕ) → own ≡ take all slice → slice ≡ items → map open_of own ≡ take all (map open_of items)
own_of items own slice all e f = ap (map open_of) (e ∙ ap (take all) f) ∙ sym (take-map open_of all items)

pub going_of : (own going : List Open) (m k : ℕ) → going ≡ take m own → m ≡ k → map open_of going ≡ take k (map open_of own)
going_of own going m k e f = ap (map open_of) e ∙ sym (take-map open_of m own) ∙ ap (λ n. take n (map open_of own)) f

pub few_of : (own : List Open) (stands : ℕ) → stands ≤ length own → stands ≤ length (map open_of own)
few_of own stands h = omega (arith, h, length-map own open_of)

module _ (t : ℕ) (bytes : List ℕ) (some : 0 < t) (limit : t * length bytes + 1 < 2 ^ 64) (stack : List Container) (first : RowAt) (behind : List RowAt) (r : Row) (rs : List Row) (left : AreLeft bytes t stack (first ∷ behind) (r ∷ rs)) (ahead : Ahead) (ae : ahead ≡ ahead_of rs) where
  pub the : IsRowIn t bytes stack left.number left.start first r
  the = row t bytes some limit stack first behind r rs left

  abbrev pub lines : ℕ
  lines = cond first.row.is_blank 0 ahead.further

  pub more_is : take (cond r.is_blank 0 (further rs)) rs ≡ take lines rs
  more_is = ap (λ n. take n rs) (sym (lines_is t bytes some limit stack first behind r rs left ahead ae))

  pub split : AreSplit t bytes some limit (open_behind stack r) (suc left.number) first.span.next behind rs lines
  split = split_at t bytes some limit stack first behind r rs left ahead ae

  -- ---- where it ends

  pub last : RowAt
  last = last_at first (take lines behind)

  pub last_row : IsSome t bytes some limit (last_at first (take lines behind)) (last_of r (take (cond r.is_blank 0 (further rs)) rs))
  last_row = subst (λ (qs : List Row). IsSome t bytes some limit (last_at first (take lines behind)) (last_of r qs)) (sym more_is)
      (last_is t bytes some limit (open_behind stack r) (suc left.number) first.span.next first r (take lines behind) (take lines rs)
      (record { stack = stack; number = left.number; start = left.start; row = the; outside = left.outside; few = left.few }) split.first (next_outside t bytes some limit stack first behind r rs left) (next_few t bytes some limit stack first behind r rs left))

  pub last_size : (last_at first (take lines behind)).span.size + 1 < 2 ^ 64
  last_size = let w = size_small t bytes some limit last_row.number last_row.start (last_at first (take lines behind)) last_row.row.placed (last_of r (take (cond r.is_blank 0 (further rs)) rs)).line last_row.row.line last_row.outside in omega (arith, w, limit)

  pub last_number : (last_at first (take lines behind)).span.number + 1 < 2 ^ 64
  last_number =
      let w : 1 * length bytes ≤ t * length bytes = mul-le 1 (length bytes) t (length bytes) some (omega arith) in
      omega (arith, w, limit, last_row.few, last_row.row.placed.inside, last_row.row.placed.number_is)

  pub held_is : (not first.row.is_blank && holds_ending (leaf_of (last_at first (take lines behind)).row.leaf)) ≡ is_held (part_of r rs)
  held_is = λ k. not (the.is.is_blank k) && holds_ending (last_row.row.is.leaf k)

  module _ (e : PartEnd) (eb : e.is_blank ≡ first.row.is_blank) (ep : e.place ≡ end_at (not first.row.is_blank && holds_ending (leaf_of (last_at first (take lines behind)).row.leaf)) (last_at first (take lines behind)))
      (en : e.behind ≡ cond (not first.row.is_blank && holds_ending (leaf_of (last_at first (take lines behind)).row.leaf)) None (cond ((last_at first (take lines behind)).span.end == (last_at first (take lines behind)).span.next) None (Some (point ((last_at first (take lines behind)).span.number + 1) 1 (last_at first (take lines behind)).span.next 0)))) where
    pub place_held : e.place ≡ end_at (is_held (part_of r rs)) (last_at first (take lines behind))
    place_held = ep ∙ ap (λ b. end_at b (last_at first (take lines behind))) held_is

    pub end_place : shown bytes (end_of bytes (part_of r rs)) ≡ e.place
    end_place = place_is t bytes some limit (last_at first (take lines behind)) (last_of r (take (cond r.is_blank 0 (further rs)) rs)) last_row (is_held (part_of r rs)) ∙ sym place_held

    pub end_ending : ending_marks bytes (part_of r rs) ≡ ending_to e
    end_ending =
        ending_is t bytes some limit (last_at first (take lines behind)) (last_of r (take (cond r.is_blank 0 (further rs)) rs)) last_row (is_held (part_of r rs)) r.is_blank e (eb ∙ the.is.is_blank) place_held
        (en ∙ ap (λ b. cond b None (cond ((last_at first (take lines behind)).span.end == (last_at first (take lines behind)).span.next) None (Some (point ((last_at first (take lines behind)).span.number + 1) 1 (last_at first (take lines behind)).span.next 0)))) held_is)

    -- behind it
    pub rest_is : (fs : List Frame) → fs ≡ frames_at r rs → behind_marks bytes (part_of r rs) (parts (drop (cond r.is_blank 0 (further rs)) rs)) ≡ rest_marks bytes fs e (parts (drop lines rs))
    rest_is fs ef =
        behind_is_rest bytes (part_of r rs) (parts (drop (cond r.is_blank 0 (further rs)) rs)) e end_place end_ending
        ∙ (λ k. rest_marks bytes (sym ef k) e (parts (drop (sym (lines_is t bytes some limit stack first behind r rs left ahead ae) k) rs)))

    -- the end of the stretch, from its first line on
    pub ends_is : e.place ≡ ends_at (is_held (part_of r rs)) (end_at (is_held (part_of r rs)) first) (take lines behind)
    ends_is = place_held ∙ ends_last (is_held (part_of r rs)) first (take lines behind)

  -- ---- the lines that are left

  pub left_behind : (open_now : List Container) → open_now ≡ open_behind stack r → AreLeft bytes t open_now (drop lines behind) (drop lines rs)
  left_behind open_now e = record { number = split.last_number; start = split.last_start; are = subst (λ (s : List Container). AreRowsIn t bytes s split.last_number split.last_start (drop lines behind) (drop lines rs)) (sym e) split.behind; outside = split.outside; few = split.few }

  pub further_left : (open_now : List Container) → open_now ≡ open_behind stack r → HasFurther t bytes open_now (take lines behind)
  further_left open_now e = record { number = suc left.number; start = first.span.next; rows = take lines rs; are = subst (λ (s : List Container). AreFurther t bytes s (suc left.number) first.span.next (take lines behind) (take lines rs)) (sym e) split.first; outside = next_outside t bytes some limit stack first behind r rs left }

  -- ---- the containers in which it stands

  module _ (open_now own : List Container) (all stands : ℕ) (own_is : own ≡ take all open_now) (own_all : take all open_now ≡ containers_of r.went_on ++ containers_of r.begun)
      (st : take stands own ≡ stands_in first.row.is_blank ahead.many first.span.number own) (few : stands ≤ length own) where
    pub own_row : own ≡ containers_of r.went_on ++ containers_of r.begun
    own_row = own_is ∙ own_all

    pub number_is : first.span.number ≡ r.number
    number_is = the.placed.number_is ∙ the.is.number_is

    pub stands_is : take stands own ≡ standing r rs
    stands_is = st ∙ (λ k. stands_in (the.is.is_blank k) ((ae k).many) (number_is k) (own_row k))

    pub stands_size : length (standing r rs) ≡ stands
    stands_size = ap (λ (l : List Container). length l) (sym stands_is) ∙ length-take-le stands own few

    -- its spans
    pub frames_is : (list : List Frame) → list ≡ cond (first.row.is_left_blank && (stands == ahead.many)) (frames_in ahead.list) [] → flat_map frames_of (take stands own) ++ list ≡ frames_at r rs
    frames_is list e =
        (λ k. flat_map frames_of (stands_is k) ++ e k)
        ∙ (λ k. flat_map frames_of (standing r rs) ++ cond (the.is.is_left_blank k && (sym stands_size k == (ae k).many)) (frames_in (ae k).list) [])
        ∙ (λ k. flat_map frames_of (standing r rs) ++ cond (r.is_left_blank && (length (standing r rs) == going_on_at rs)) (sym (list_ahead rs) k) [])

    -- its containers that go on
    module _ (going : List Container) (going_is : going ≡ take (min stands first.row.many) own) where
      pub went_size : length r.went_on ≡ first.row.many
      went_size = sym the.is.many

      pub bytes_here : List ℕ
      bytes_here = line_bytes t first.span.number 1 first.span.start (drop first.span.start bytes)

      pub went_containers : length (containers_of r.went_on) ≡ first.row.many
      went_containers = length-map r.went_on (λ (p : Prefix). p.container) ∙ went_size

      pub going_row : going ≡ take (min stands first.row.many) (take first.row.many stack)
      going_row =
          let m : min stands first.row.many ≤ length (containers_of r.went_on) = omega (arith, went_containers) in
          going_is ∙ ap (take (min stands first.row.many)) own_row ∙ take-append-le (min stands first.row.many) (containers_of r.went_on) (containers_of r.begun) m
          ∙ ap (take (min stands first.row.many)) (the_went t bytes some limit stack first behind r rs left)

      pub going_is_first : going_on going first.span.number (line_bytes t first.span.number 1 first.span.start (drop first.span.start bytes)) ≡ take (length (standing r rs)) r.went_on
      going_is_first =
          ap (λ cs. going_on cs first.span.number (line_bytes t first.span.number 1 first.span.start (drop first.span.start bytes))) going_row
          ∙ going_first (min stands first.row.many) (take first.row.many stack) first.span.number (line_bytes t first.span.number 1 first.span.start (drop first.span.start bytes))
          ∙ ap (take (min stands first.row.many)) (went_again t bytes some limit stack left.number left.start first r the left.outside)
          ∙ take_min stands first.row.many r.went_on went_size ∙ ap (λ n. take n r.went_on) (sym stands_size)

      pub text_long : columns_of (take (length (standing r rs)) r.went_on) ≤ length (line_text r.line)
      text_long = omega (arith, columns_front (length (standing r rs)) r.went_on, went_small t bytes some limit stack left.number left.start first r the left.outside)

      pub whole : r.line ≡ line_text r.line ++ ending_of r.line
      whole = line_parts t bytes some limit left.number left.start first the.placed r.line the.line left.outside

      pub size : length (line_text r.line) ≡ first.span.size
      size = text_size t bytes some limit left.number left.start first the.placed r.line the.line left.outside

      pub begun_is : begun_of first.row.list first.span.number first.row.begun.items ≡ r.begun
      begun_is = (the_row t bytes some limit stack first behind r rs left).begun

      pub begun_have : HaveColumns r.begun
      begun_have = subst HaveColumns begun_is (begun_columns_are first.row.list first.span.number first.row.begun.items _ (the_fits t bytes some limit stack first behind r rs left))

      pub begun_marks_are : begun_all bytes (begun_of first.row.list first.span.number first.row.begun.items) (drop first.row.going (line_text r.line)) ≡ begun_all bytes r.begun (drop (columns_of r.went_on) r.line)
      begun_marks_are =
          let n : columns_of r.went_on ≤ length (line_text r.line) = went_small t bytes some limit stack left.number left.start first r the left.outside in
          let m : columns_of r.begun ≤ length (drop (columns_of r.went_on) (line_text r.line)) = omega (arith, the.sum, the.is.columns, the.placed.columns, size, length-drop (columns_of r.went_on) (line_text r.line)) in
          (λ k. begun_all bytes (begun_is k) (drop (the.is.going k) (line_text r.line)))
          ∙ sym (begun_front bytes r.begun (drop (columns_of r.went_on) (line_text r.line)) (ending_of r.line) begun_have m)
          ∙ ap (begun_all bytes r.begun) (sym (drop-append-le (columns_of r.went_on) (line_text r.line) (ending_of r.line) n) ∙ ap (drop (columns_of r.went_on)) (sym whole))

      pub prefix_marks_are : prefixes_marks bytes (take (length (standing r rs)) r.went_on) (line_text r.line) ≡ prefixes_marks bytes (take (length (standing r rs)) r.went_on) r.line
      prefix_marks_are =
          sym (prefixes_front bytes (take (length (standing r rs)) r.went_on) (line_text r.line) (ending_of r.line) text_long) ∙ ap (prefixes_marks bytes (take (length (standing r rs)) r.went_on)) (sym whole)

      -- ---- what is written up to its inside

      pub write_begin : (e0 e1 e2 : List Event) (fs list : List Frame) (end : PartEnd) (all_marks : List Mark) → list ≡ frames_at r rs
          → e1 ≡ e0 ++ (events_of (exits_to (drop (shared fs list) fs) end.place) ++ events_of (ending_to end))
          → ((seats : List Seat) → AreSeatsAt t bytes (point first.span.number 1 first.span.start 0) seats → line_bytes t first.span.number 1 first.span.start (drop first.span.start bytes) ≡ bytes_of seats
          → e2 ≡ e1 ++ (events_of (prefixes_marks bytes (going_on going first.span.number (line_bytes t first.span.number 1 first.span.start (drop first.span.start bytes))) seats) ++ events_of (begun_all bytes (begun_of first.row.list first.span.number first.row.begun.items) (drop first.row.going seats))))
          → Written e0 None false (rest_marks bytes fs end (parts (r ∷ rs))) all_marks
          → Written e2 None false (inside_of bytes (part_of r rs) ++ behind_marks bytes (part_of r rs) (parts (drop (cond r.is_blank 0 (further rs)) rs))) all_marks
      write_begin e0 e1 e2 fs list end all_marks el a1 a2 w =
          let p = part_of r rs in
          let ps = parts (drop (cond r.is_blank 0 (further rs)) rs) in
          let x = exits_to (drop (shared fs p.frames) fs) end.place in
          let y = ending_to end in
          let u = prefixes_marks bytes (take (length (standing r rs)) r.went_on) r.line in
          let v = begun_all bytes r.begun (drop (columns_of r.went_on) r.line) in
          let z = inside_of bytes p ++ behind_marks bytes p ps in
          let plain_x : NoChunk x = plain_map _ (reverse (drop (shared fs p.frames) fs)) in
          let plain_y : NoChunk y = plain_map (λ (k : Event). k) (ending_at end) in
          let w1 : Written e0 None false (x ++ (y ++ (part_marks bytes p ++ behind_marks bytes p ps))) all_marks = subst (λ (qs : List Part). Written e0 None false (rest_marks bytes fs end qs) all_marks) (parts_more r rs) w in
          let same : (x ++ y) ++ (part_marks bytes p ++ behind_marks bytes p ps) ≡ x ++ (y ++ (part_marks bytes p ++ behind_marks bytes p ps)) = append_assoc x y (part_marks bytes p ++ behind_marks bytes p ps) in
          let both : e1 ≡ e0 ++ events_of (x ++ y) = a1 ∙ (λ k. e0 ++ (events_of (exits_to (drop (shared fs (el k)) fs) end.place) ++ events_of y)) ∙ ap (λ l. e0 ++ l) (sym (map-append (λ (m : Mark). m.0) x y)) in
          let w2 = write_plain e0 e1 None false (x ++ y) (part_marks bytes p ++ behind_marks bytes p ps) all_marks (plain_append x y plain_x plain_y) both (subst (λ (m : List Mark). Written e0 None false m all_marks) (sym same) w1) in
          let text = line_text r.line in
          let wrote : e2 ≡ e1 ++ events_of (u ++ v) =
          a2 text (row_seats t bytes some limit stack left.number left.start first r the left.outside) (row_bytes t bytes some limit stack left.number left.start first r the left.outside)
          ∙ (λ k. e1 ++ (events_of (prefixes_marks bytes (going_is_first k) text) ++ events_of (begun_marks_are k)))
          ∙ (λ k. e1 ++ (events_of (prefix_marks_are k) ++ events_of v))
          ∙ ap (λ l. e1 ++ l) (sym (map-append (λ (m : Mark). m.0) u v)) in
          let order : part_marks bytes p ++ behind_marks bytes p ps ≡ (u ++ v) ++ z =
          append_assoc u (v ++ inside_of bytes p) (behind_marks bytes p ps) ∙ ap (λ l. u ++ l) (append_assoc v (inside_of bytes p) (behind_marks bytes p ps)) ∙ sym (append_assoc u v z) in
          write_plain e1 e2 None false (u ++ v) z all_marks (plain_append u v (plain_prefixes bytes (take (length (standing r rs)) r.went_on) r.line) (plain_begun bytes r.begun (drop (columns_of r.went_on) r.line))) wrote
          (subst (λ (m : List Mark). Written e1 None false m all_marks) order w2)

      -- ---- its inside

      module _ (begin : At) (bc : begin.columns ≡ cond (has_none first.row.begun.items) (columns_of (going_on going first.span.number (line_bytes t first.span.number 1 first.span.start (drop first.span.start bytes)))) first.row.columns)
          (bp : begin.place ≡ place_after t bytes (point first.span.number 1 first.span.start 0) begin.columns) where
        pub begin_columns : begin.columns ≡ cond (has_none r.begun) (columns_of (take (length (standing r rs)) r.went_on)) r.columns
        begin_columns = bc ∙ (λ k. cond ((has_none_begun first.row.list first.span.number first.row.begun.items ∙ ap has_none begun_is) k) (columns_of (going_is_first k)) (the.is.columns k))

        pub begin_small : begin.columns ≤ first.span.size
        begin_small = by (has_none r.begun) begin_columns
          where
            by : (b : Bool) → begin.columns ≡ cond b (columns_of (take (length (standing r rs)) r.went_on)) r.columns → begin.columns ≤ first.span.size
            by true e = omega (arith, e, text_long, size)
            by false e = omega (arith, e, columns_small t bytes some limit stack left.number left.start first r the left.outside)

        pub blank_columns : HasColumns t bytes begin.place (first.span.size - begin.columns)
        blank_columns =
            columns_behind t bytes (point first.span.number 1 first.span.start 0) begin.place (length (line_bytes t first.span.number 1 first.span.start (drop first.span.start bytes))) begin.columns (first.span.size - begin.columns) bp
            (the_columns t bytes some limit stack first behind r rs left) (omega (arith, begin_small, line_size t bytes some limit stack first behind r rs left))

        -- white space of a blank line
        pub write_blank : (e2 e3 : List Event) (rest all_marks : List Mark) → first.row.is_blank ≡ true → e3 ≡ e2 ++ span_at t bytes name.SpaceOrTab begin.place (first.span.size - begin.columns)
            → Written e2 None false (inside_of bytes (part_of r rs) ++ rest) all_marks → Written e3 None false rest all_marks
        write_blank e2 e3 rest all_marks blank wrote w =
            let text = line_text r.line in
            let k = begin.columns in
            let few_columns : k ≤ length text = omega (arith, begin_small, size) in
            let there : AreSeatsAt t bytes begin.place (drop k text) =
            subst (λ (p : Point). AreSeatsAt t bytes p (drop k text)) (sym bp) (seats_drop t bytes (point first.span.number 1 first.span.start 0) text k (row_seats t bytes some limit stack left.number left.start first r the left.outside) few_columns) in
            let n : first.span.size - k ≡ length (drop k text) = omega (arith, size, length-drop k text) in
            let white_is : span_at t bytes name.SpaceOrTab begin.place (first.span.size - k) ≡ events_of (white bytes (drop k text)) = ap (span_at t bytes name.SpaceOrTab begin.place) n ∙ span_is_all t bytes name.SpaceOrTab begin.place (drop k text) there in
            let inside : inside_of bytes (part_of r rs) ≡ white bytes (drop k text) =
            ap (λ b. cond b (white bytes (line_text (drop (cond (has_none r.begun) (columns_of (take (length (standing r rs)) r.went_on)) r.columns) r.line))) (elim (joined_pieces bytes (pieces_of bytes (is_held (part_of r rs)) r (take (cond r.is_blank 0 (further rs)) rs))) as (λ _. List Mark) [ [] ↦ [] | p ∷ ps ↦ chunks_of bytes false (record p { before = [] } ∷ ps) ])) (sym the.is.is_blank ∙ blank)
            ∙ ap (λ i. white bytes (line_text (drop i r.line))) (sym begin_columns) ∙ ap (white bytes) (text_from r.line k whole few_columns) in
            write_plain e2 e3 None false (white bytes (drop k text)) rest all_marks (plain_span bytes name.SpaceOrTab (drop k text) [] tt) (wrote ∙ ap (λ l. e2 ++ l) white_is) (subst (λ (m : List Mark). Written e2 None false (m ++ rest) all_marks) inside w)

        -- a stretch
        pub columns_all : r.is_blank ≡ false → begin.columns ≡ r.columns
        columns_all blank =
            let row_all : standing r rs ≡ containers_of r.went_on ++ containers_of r.begun = ap (λ b. stands_in b (going_on_at rs) r.number (containers_of r.went_on ++ containers_of r.begun)) blank in
            let n : length (standing r rs) ≡ length (containers_of r.went_on) + length (containers_of r.begun) = ap (λ (l : List Container). length l) row_all ∙ length-append (containers_of r.went_on) (containers_of r.begun) in
            let m : length r.went_on ≤ length (standing r rs) = omega (arith, n, went_containers, went_size) in
            let took : take (length (standing r rs)) r.went_on ≡ r.went_on = take_all (length (standing r rs)) r.went_on m in
            begin_columns ∙ ap (λ ps. cond (has_none r.begun) (columns_of ps) r.columns) took ∙ by r.begun refl
          where
            by : (ps : List Prefix) → r.begun ≡ ps → cond (has_none ps) (columns_of r.went_on) r.columns ≡ r.columns
            by [] e = let none : columns_of r.begun ≡ 0 = ap columns_of e in omega (arith, none, the.sum)
            by (p ∷ ps) e = refl

        pub begin_there : r.is_blank ≡ false → begin.place ≡ place_after t bytes (point left.number 1 left.start 0) r.columns
        begin_there blank = bp ∙ (λ k. place_after t bytes (sym (first_is t bytes some limit stack left.number left.start first r the left.outside) k) (columns_all blank k))

        pub pending_is : r.is_blank ≡ false → (held : Bool) (ys : List RowAt) (qs : List Row) (s : List Container) → AreFurther t bytes s (suc left.number) first.span.next ys qs
            → IsPending t bytes open_now begin.place (end_at held first) (drop r.columns (cond held r.line (line_text r.line))) (drop r.columns r.line) (suc left.number) first.span.next ys
        pending_is blank held [] [] s are =
            subst (λ (p : Point). Run bytes p (end_at held first) (drop r.columns (cond held r.line (line_text r.line)))) (sym (begin_there blank)) (row_run t bytes some limit stack left.number left.start first r the left.outside held r.columns (columns_small t bytes some limit stack left.number left.start first r the left.outside))
        pending_is blank held [] (q ∷ qs) s are = absurd are
        pending_is blank held (y ∷ ys) [] s are = absurd are
        pending_is blank held (y ∷ ys) (q ∷ qs) s are = (
          subst (λ (p : Point). Run bytes p (point (suc left.number) 1 first.span.next 0) (drop r.columns r.line)) (sym (begin_there blank))
              (row_kept t bytes some limit stack left.number left.start first r the left.outside are.0.placed.inside r.columns (columns_small t bytes some limit stack left.number left.start first r the left.outside)),
          kept_some t bytes some limit stack left.number left.start first r the left.outside are.0.placed.inside r.columns (columns_small t bytes some limit stack left.number left.start first r the left.outside),
        )

        pub stretch_begins : (oe : open_now ≡ open_behind stack r) (e2 : List Event) (to : Point) (rest all_marks : List Mark) → first.row.is_blank ≡ false
            → to ≡ ends_at (is_held (part_of r rs)) (end_at (is_held (part_of r rs)) first) (take lines behind)
            → Written e2 None false (inside_of bytes (part_of r rs) ++ rest) all_marks → InStretch t bytes open_now (is_held (part_of r rs)) e2 None begin.place to (take lines behind) rest all_marks
        stretch_begins oe e2 to rest all_marks blank et w =
            let held = is_held (part_of r rs) in
            let no : r.is_blank ≡ false = sym the.is.is_blank ∙ blank in
            let s = drop r.columns (cond held r.line (line_text r.line)) in
            let kept = drop r.columns r.line in
            let inside : inside_of bytes (part_of r rs) ≡ chunks_of bytes false (joined_pieces bytes (pieces_from bytes held s kept (take lines rs))) =
            inside_stretch bytes (part_of r rs) no ∙ ap (λ qs. chunks_of bytes false (joined_pieces bytes (pieces_from bytes held s kept qs))) more_is in
            record {
              number = suc left.number;
              start = first.span.next;
              rows = take lines rs;
              last = s;
              kept = kept;
              end = end_at held first;
              to_is = et;
              are = subst (λ (c : List Container). AreFurther t bytes c (suc left.number) first.span.next (take lines behind) (take lines rs)) (sym oe) split.first;
              outside = next_outside t bytes some limit stack first behind r rs left;
              pending = pending_is no held (take lines behind) (take lines rs) (open_behind stack r) split.first;
              written = end_chunks e2 None _ (chunks_of bytes false (joined_pieces bytes (pieces_from bytes held s kept (take lines rs))) ++ rest) all_marks (subst (λ (m : List Mark). Written e2 None false (m ++ rest) all_marks) inside w);
            }
