-- Lemmas on a section as it is written, by the values of the code.
use Rattle.std.proofs.Common.{◌≡◌, ℕ, suc, ◌+◌, ◌-◌, ◌*◌, ◌^◌, ◌<◌, ◌≤◌, Bool, true, false, cond, List, [], ◌∷◌, ◌++◌, length, take, drop, refl, sym, ap, ◌∙◌, subst, arith, append-nil, append_assoc, length-drop, length-append}
use Rattle.std.specs.Prelude.{◌==◌, ◌&&◌, not, Some, None}
use Rattle.std.proofs.lemmas.Bool.{false≢true}
use Rattle.std.proofs.lemmas.List.{drop-append-le, drop-drop, length-map, take-append-le}
use Rattle.std.proofs.lemmas.List.Sums.{prefix_len-le-length}
use Rattle.std.proofs.lemmas.Nat.{mul-le}
use Rattle.markdown_base.specs.declared.event.Event.{Event}
use Rattle.markdown_base.specs.declared.event.Name.TheVariants as name
use Rattle.markdown_base.specs.declared.event.Point.{Point}
use Rattle.markdown_base.specs.Places.{shown}
use Rattle.markdown_base.specs.Virtual.{Seat, point}
use Rattle.mdconstructs_tables.specs.Breaks.{is_white}
use Rattle.mdconstructs_machines.specs.LineEvents.{ending_of, line_text}
use Rattle.mdblock_leaf_blocks.specs.LeafBlocks.{text_of}
use Rattle.mdblock_leaf_blocks.specs.LeafEvents.{Mark, white}
use Rattle.mdblock_leaf_blocks.specs.LineKinds.{indent}
use Rattle.mdblock_lines.specs.Containers.{Container}
use Rattle.mdblock_lines.specs.Lines.{line_bytes, place_after}
use Rattle.mdblock_containers.specs.declared.parts.PartEnd.{PartEnd}
use Rattle.mdblock_containers.specs.declared.prefixes.At.{At}
use Rattle.mdblock_containers.specs.declared.spans.RowAt.{RowAt}
use Rattle.mdblock_containers.specs.PlaceEvents.{HasColumns, span_at}
use Rattle.mdblock_containers.specs.Prefixes.{columns_of}
use Rattle.mdblock_containers.specs.Rest.{ending_to}
use Rattle.mdblock_containers.specs.Rows.{Row, has_none, holds_ending, rest_of}
use Rattle.mdblock_containers.specs.SeatPlaces.{AreSeatsAt, events_of}
use Rattle.mdblock_containers.specs.Skeleton.{Part, Piece, chunks_of, end_of, ending_marks, inside_of, is_held, joined_pieces, last_of, pieces_of, prefixes_marks}
use Rattle.mdblock_containers.specs.Spans.{IsRowIn}
use Rattle.mdblock_containers.specs.Stretches.{AreFurther, HasFurther, InStretch, IsPending, Run, end_at, last_at, pieces_from}
use Rattle.mdblock_containers.specs.Views.{leaf_of}
use Rattle.mdblock_containers.specs.Written.{Written}
use Rattle.mdblock_containers.proofs.EndLemmas.{IsSome, ending_is, ends_last, last_is, place_is}
use Rattle.mdblock_containers.proofs.JoinLemmas.{join_is, plain_span}
use Rattle.mdblock_containers.proofs.PartFacts.{line_size, next_few, next_outside, text_from, the_columns, the_inside}
use Rattle.mdblock_containers.proofs.PartSpans.{columns_front}
use Rattle.mdblock_containers.proofs.RestLemmas.{inside_stretch}
use Rattle.mdblock_containers.proofs.RunLemmas.{line_parts, size_small, text_size}
use Rattle.mdblock_containers.proofs.SeatLemmas.{seats_drop, span_is_all, span_is_leaf}
use Rattle.mdblock_containers.proofs.StretchLemmas.{columns_small, first_is, kept_some, row_bytes, row_kept, row_run, row_seats, went_small}
use Rattle.mdblock_containers.proofs.WritingLemmas.{columns_behind}
use Rattle.mdblock_containers.proofs.WrittenLemmas.{end_chunks, write_plain}
use Rattle.mdblock_definitions.specs.Sectioned.{IsBegun, IsSectionOf}
use Rattle.mdblock_definitions.specs.Skeleton.{behind_definitions}

module _ (t : ℕ) (bytes : List ℕ) (some : 0 < t) (limit : t * length bytes + 1 < 2 ^ 64) (stack : List Container) (x : RowAt) (xs : List RowAt) (p : Part) (s : IsSectionOf t bytes stack x xs p) where
  pub the-row : IsRowIn t bytes s.before s.left.number s.left.start x p.first
  the-row = s.left.are.0

  pub inside-is : x.span.start ≤ length bytes
  inside-is = the_inside t bytes some limit s.before x (xs ++ s.behind) p.first (p.more ++ s.rest) s.left

  pub columns-are : HasColumns t bytes (point x.span.number 1 x.span.start 0) (length (line_bytes t x.span.number 1 x.span.start (drop x.span.start bytes)))
  columns-are = the_columns t bytes some limit s.before x (xs ++ s.behind) p.first (p.more ++ s.rest) s.left

  pub size-is : length (line_bytes t x.span.number 1 x.span.start (drop x.span.start bytes)) ≡ x.span.size
  size-is = line_size t bytes some limit s.before x (xs ++ s.behind) p.first (p.more ++ s.rest) s.left

  pub blank-is : x.row.is_blank ≡ p.first.is_blank
  blank-is = the-row.is.is_blank

  pub further-are : HasFurther t bytes stack xs
  further-are = record { number = suc s.left.number; start = x.span.next; rows = p.more; are = s.further; outside = next_outside t bytes some limit s.before x (xs ++ s.behind) p.first (p.more ++ s.rest) s.left }

  -- ---- where it ends

  pub last-row : IsSome t bytes some limit (last_at x xs) (last_of p.first p.more)
  last-row =
      last_is t bytes some limit stack (suc s.left.number) x.span.next x p.first xs p.more
      (record { stack = s.before; number = s.left.number; start = s.left.start; row = the-row; outside = s.left.outside; few = s.left.few }) s.further
      (next_outside t bytes some limit s.before x (xs ++ s.behind) p.first (p.more ++ s.rest) s.left) (next_few t bytes some limit s.before x (xs ++ s.behind) p.first (p.more ++ s.rest) s.left)

  pub last-size : (last_at x xs).span.size + 1 < 2 ^ 64
  last-size = let w = size_small t bytes some limit last-row.number last-row.start (last_at x xs) last-row.row.placed (last_of p.first p.more).line last-row.row.line last-row.outside in omega (arith, w, limit)

  pub last-number : (last_at x xs).span.number + 1 < 2 ^ 64
  last-number =
      let w : 1 * length bytes ≤ t * length bytes = mul-le 1 (length bytes) t (length bytes) some (omega arith) in
      omega (arith, w, limit, last-row.few, last-row.row.placed.inside, last-row.row.placed.number_is)

  pub held-is : (not x.row.is_blank && holds_ending (leaf_of (last_at x xs).row.leaf)) ≡ is_held p
  held-is = λ k. not (the-row.is.is_blank k) && holds_ending (last-row.row.is.leaf k)

  module _ (e : PartEnd) (eb : e.is_blank ≡ x.row.is_blank) (ep : e.place ≡ end_at (not x.row.is_blank && holds_ending (leaf_of (last_at x xs).row.leaf)) (last_at x xs))
      (en : e.behind ≡ cond (not x.row.is_blank && holds_ending (leaf_of (last_at x xs).row.leaf)) None (cond ((last_at x xs).span.end == (last_at x xs).span.next) None (Some (point ((last_at x xs).span.number + 1) 1 (last_at x xs).span.next 0)))) where
    pub place-held : e.place ≡ end_at (is_held p) (last_at x xs)
    place-held = ep ∙ ap (λ b. end_at b (last_at x xs)) held-is

    pub end-place : shown bytes (end_of bytes p) ≡ e.place
    end-place = place_is t bytes some limit (last_at x xs) (last_of p.first p.more) last-row (is_held p) ∙ sym place-held

    pub end-ending : ending_marks bytes p ≡ ending_to e
    end-ending =
        ending_is t bytes some limit (last_at x xs) (last_of p.first p.more) last-row (is_held p) p.first.is_blank e (eb ∙ the-row.is.is_blank) place-held
        (en ∙ ap (λ b. cond b None (cond ((last_at x xs).span.end == (last_at x xs).span.next) None (Some (point ((last_at x xs).span.number + 1) 1 (last_at x xs).span.next 0)))) held-is)

  -- ---- its first line

  whole : p.first.line ≡ line_text p.first.line ++ ending_of p.first.line
  whole = line_parts t bytes some limit s.left.number s.left.start x the-row.placed p.first.line the-row.line s.left.outside

  pub text-size : length (line_text p.first.line) ≡ x.span.size
  text-size = text_size t bytes some limit s.left.number s.left.start x the-row.placed p.first.line the-row.line s.left.outside

  seats : AreSeatsAt t bytes (point x.span.number 1 x.span.start 0) (line_text p.first.line)
  seats = row_seats t bytes some limit s.before s.left.number s.left.start x p.first the-row s.left.outside

  columns-few : p.first.columns ≤ x.span.size
  columns-few = columns_small t bytes some limit s.before s.left.number s.left.start x p.first the-row s.left.outside

  -- what is behind its prefixes
  pub rest-is : drop x.row.columns (line_bytes t x.span.number 1 x.span.start (drop x.span.start bytes)) ≡ rest_of p.first
  rest-is = λ k. drop (the-row.is.columns k) (row_bytes t bytes some limit s.before s.left.number s.left.start x p.first the-row s.left.outside k)

  pub indent-few : p.first.columns + indent (rest_of p.first) ≤ x.span.size
  indent-few =
      omega (arith, prefix_len-le-length is_white (rest_of p.first), length-drop p.first.columns (text_of p.first.line), length-map (line_text p.first.line) (λ (c : Seat). c.byte), text-size, columns-few)

  -- ---- what is written of it

  module _ (begin : At) (b : IsBegun t bytes p x begin) where
    pub begin-small : begin.columns ≤ x.span.size
    begin-small = by p.first.is_blank (has_none p.first.begun) b.columns
      where
        front : columns_of (take (length p.stands) p.first.went_on) ≤ x.span.size
        front = omega (arith, columns_front (length p.stands) p.first.went_on, went_small t bytes some limit s.before s.left.number s.left.start x p.first the-row s.left.outside, text-size)

        by : (c d : Bool) → begin.columns ≡ cond c (cond d (columns_of (take (length p.stands) p.first.went_on)) p.first.columns) p.first.columns → begin.columns ≤ x.span.size
        by true true e = omega (arith, e, front)
        by true false e = omega (arith, e, columns-few)
        by false d e = omega (arith, e, columns-few)

    pub begin-columns : HasColumns t bytes begin.place (x.span.size - begin.columns)
    begin-columns =
        columns_behind t bytes (point x.span.number 1 x.span.start 0) begin.place (length (line_bytes t x.span.number 1 x.span.start (drop x.span.start bytes))) begin.columns (x.span.size - begin.columns) b.place columns-are
        (omega (arith, begin-small, size-is))

    pub begin-filled : x.row.is_blank ≡ false → begin.columns ≡ x.row.columns
    begin-filled e = b.columns ∙ ap (λ v. cond v (cond (has_none p.first.begun) (columns_of (take (length p.stands) p.first.went_on)) p.first.columns) p.first.columns) (sym blank-is ∙ e) ∙ sym the-row.is.columns

    -- white space of a blank line
    pub write-blank : (e2 e3 : List Event) (rest all : List Mark) → x.row.is_blank ≡ true → e3 ≡ e2 ++ span_at t bytes name.SpaceOrTab begin.place (x.span.size - begin.columns)
        → Written e2 None false (inside_of bytes p ++ rest) all → Written e3 None false rest all
    write-blank e2 e3 rest all blank wrote w =
        let text = line_text p.first.line in
        let k = begin.columns in
        let few : k ≤ length text = omega (arith, begin-small, text-size) in
        let there : AreSeatsAt t bytes begin.place (drop k text) = subst (λ (q : Point). AreSeatsAt t bytes q (drop k text)) (sym b.place) (seats_drop t bytes (point x.span.number 1 x.span.start 0) text k seats few) in
        let n : x.span.size - k ≡ length (drop k text) = omega (arith, text-size, length-drop k text) in
        let white_is : span_at t bytes name.SpaceOrTab begin.place (x.span.size - k) ≡ events_of (white bytes (drop k text)) = ap (span_at t bytes name.SpaceOrTab begin.place) n ∙ span_is_all t bytes name.SpaceOrTab begin.place (drop k text) there in
        let yes : p.first.is_blank ≡ true = sym blank-is ∙ blank in
        let place : begin.columns ≡ cond (has_none p.first.begun) (columns_of (take (length p.stands) p.first.went_on)) p.first.columns =
        b.columns ∙ ap (λ v. cond v (cond (has_none p.first.begun) (columns_of (take (length p.stands) p.first.went_on)) p.first.columns) p.first.columns) yes in
        let inside : inside_of bytes p ≡ white bytes (drop k text) =
        ap (λ v. cond v (white bytes (line_text (drop (cond (has_none p.first.begun) (columns_of (take (length p.stands) p.first.went_on)) p.first.columns) p.first.line))) (elim (joined_pieces bytes (pieces_of bytes (is_held p) p.first p.more)) as (λ _. List Mark) [ [] ↦ [] | q ∷ qs ↦ chunks_of bytes false (record q { before = [] } ∷ qs) ])) yes
        ∙ ap (λ i. white bytes (line_text (drop i p.first.line))) (sym place) ∙ ap (white bytes) (text_from p.first.line k whole few) in
        write_plain e2 e3 None false (white bytes (drop k text)) rest all (plain_span bytes name.SpaceOrTab (drop k text) [] tt) (wrote ∙ ap (λ l. e2 ++ l) white_is) (subst (λ (m : List Mark). Written e2 None false (m ++ rest) all) inside w)

  -- ---- a stretch that begins at a column of its first line

  module _ (c : ℕ) (from : Point) (few : c ≤ x.span.size) (there : from ≡ place_after t bytes (point x.span.number 1 x.span.start 0) c) where
    from-is : from ≡ place_after t bytes (point s.left.number 1 s.left.start 0) c
    from-is = there ∙ (λ k. place_after t bytes (sym (first_is t bytes some limit s.before s.left.number s.left.start x p.first the-row s.left.outside) k) c)

    pending-is : (held : Bool) (ys : List RowAt) (qs : List Row) (o : List Container) → AreFurther t bytes o (suc s.left.number) x.span.next ys qs
        → IsPending t bytes stack from (end_at held x) (drop c (cond held p.first.line (line_text p.first.line))) (drop c p.first.line) (suc s.left.number) x.span.next ys
    pending-is held [] [] o are =
        subst (λ (q : Point). Run bytes q (end_at held x) (drop c (cond held p.first.line (line_text p.first.line)))) (sym from-is) (row_run t bytes some limit s.before s.left.number s.left.start x p.first the-row s.left.outside held c few)
    pending-is held [] (q ∷ qs) o are = absurd are
    pending-is held (y ∷ ys) [] o are = absurd are
    pending-is held (y ∷ ys) (q ∷ qs) o are = (
      subst (λ (a : Point). Run bytes a (point (suc s.left.number) 1 x.span.next 0) (drop c p.first.line)) (sym from-is)
          (row_kept t bytes some limit s.before s.left.number s.left.start x p.first the-row s.left.outside are.0.placed.inside c few),
      kept_some t bytes some limit s.before s.left.number s.left.start x p.first the-row s.left.outside are.0.placed.inside c few,
    )

    abbrev pub chunks-from : List Mark
    chunks-from = chunks_of bytes false (joined_pieces bytes (pieces_from bytes (is_held p) (drop c (cond (is_held p) p.first.line (line_text p.first.line))) (drop c p.first.line) p.more))

    pub stretch-begins : (e2 : List Event) (to : Point) (rest all : List Mark) → to ≡ end_at (not x.row.is_blank && holds_ending (leaf_of (last_at x xs).row.leaf)) (last_at x xs)
        → Written e2 None false (chunks-from ++ rest) all → InStretch t bytes stack (is_held p) e2 None from to xs rest all
    stretch-begins e2 to rest all et w = record {
      number = suc s.left.number;
      start = x.span.next;
      rows = p.more;
      last = drop c (cond (is_held p) p.first.line (line_text p.first.line));
      kept = drop c p.first.line;
      end = end_at (is_held p) x;
      to_is = et ∙ ap (λ v. end_at v (last_at x xs)) held-is ∙ ends_last (is_held p) x xs;
      are = s.further;
      outside = next_outside t bytes some limit s.before x (xs ++ s.behind) p.first (p.more ++ s.rest) s.left;
      pending = pending-is (is_held p) xs p.more stack s.further;
      written = end_chunks e2 None _ (chunks-from ++ rest) all w;
    }

-- ---- directly behind definitions

module _ (bytes : List ℕ) where
  abbrev fronted : ℕ → List (Piece bytes) → List Mark
  fronted k l = elim l as (λ _. List Mark) [ [] ↦ [] | q ∷ qs ↦ white bytes (take k q.seats) ++ chunks_of bytes false (record q { before = []; seats = drop k q.seats } ∷ qs) ]

  front-pieces : (k : ℕ) (b : List Mark) (ss : List Seat) (l : List (Piece bytes)) → k ≤ length ss → fronted k (elim l as (λ _. List (Piece bytes)) [
    | [] ↦ record { before = b; seats = ss } ∷ []
    | r ∷ rs ↦ cond (has_none r.before) (record { before = b; seats = ss ++ r.seats } ∷ rs) (record { before = b; seats = ss } ∷ r ∷ rs)
  ]) ≡ white bytes (take k ss) ++ chunks_of bytes false (elim l as (λ _. List (Piece bytes)) [
    | [] ↦ record { before = []; seats = drop k ss } ∷ []
    | r ∷ rs ↦ cond (has_none r.before) (record { before = []; seats = drop k ss ++ r.seats } ∷ rs) (record { before = []; seats = drop k ss } ∷ r ∷ rs)
  ])
  front-pieces k b ss [] h = refl
  front-pieces k b ss (r ∷ rs) h = by (has_none r.before)
    where
      by : (c : Bool) → fronted k (cond c (record { before = b; seats = ss ++ r.seats } ∷ rs) (record { before = b; seats = ss } ∷ r ∷ rs))
          ≡ white bytes (take k ss) ++ chunks_of bytes false (cond c (record { before = []; seats = drop k ss ++ r.seats } ∷ rs) (record { before = []; seats = drop k ss } ∷ r ∷ rs))
      by true = λ i. white bytes (take-append-le k ss r.seats h i) ++ chunks_of bytes false (record { before = []; seats = drop-append-le k ss r.seats h i } ∷ rs)
      by false = refl

  -- the white space of the first line is outside
  behind-stretch : (part : Part) (k : ℕ) → k ≤ length (drop part.first.columns (line_text part.first.line)) → part.first.line ≡ line_text part.first.line ++ ending_of part.first.line → part.first.columns ≤ length (line_text part.first.line)
      → let c = part.first.columns in
      fronted k (joined_pieces bytes (pieces_of bytes (is_held part) part.first part.more))
      ≡ white bytes (take k (drop c (line_text part.first.line)))
      ++ chunks_of bytes false (joined_pieces bytes (pieces_from bytes (is_held part) (drop (c + k) (cond (is_held part) part.first.line (line_text part.first.line))) (drop (c + k) part.first.line) part.more))
  behind-stretch part k h split few = by part.more
    where
      c : ℕ
      c = part.first.columns

      text : List Seat
      text = line_text part.first.line

      cut : drop part.first.columns part.first.line ≡ drop part.first.columns (line_text part.first.line) ++ ending_of part.first.line
      cut = ap (drop part.first.columns) split ∙ drop-append-le part.first.columns (line_text part.first.line) (ending_of part.first.line) few

      long : k ≤ length (drop part.first.columns part.first.line)
      long = omega (arith, h, ap (λ (l : List Seat). length l) cut, length-append (drop part.first.columns (line_text part.first.line)) (ending_of part.first.line))

      front : take k (drop part.first.columns part.first.line) ≡ take k (drop part.first.columns (line_text part.first.line))
      front = ap (take k) cut ∙ take-append-le k (drop part.first.columns (line_text part.first.line)) (ending_of part.first.line) h

      last : (v : Bool) → white bytes (take k (drop part.first.columns (cond v part.first.line (line_text part.first.line)))) ≡ white bytes (take k (drop part.first.columns (line_text part.first.line)))
      last true = ap (white bytes) front
      last false = refl

      by : (more : List Row) → fronted k (joined_pieces bytes (pieces_of bytes (is_held part) part.first more))
          ≡ white bytes (take k (drop part.first.columns (line_text part.first.line)))
          ++ chunks_of bytes false (joined_pieces bytes (pieces_from bytes (is_held part) (drop (part.first.columns + k) (cond (is_held part) part.first.line (line_text part.first.line))) (drop (part.first.columns + k) part.first.line) more))
      by [] =
          let s = cond (is_held part) part.first.line (line_text part.first.line) in
          (λ i. last (is_held part) i ++ chunks_of bytes false (record { before = []; seats = drop-drop k part.first.columns s i } ∷ []))
      by (q ∷ qs) =
          let r = part.first in
          let kept = drop r.columns r.line in
          let l = joined_pieces bytes (pieces_of bytes (is_held part) q qs) in
          ap (fronted k) (join_is bytes (record { before = prefixes_marks bytes r.went_on r.line; seats = kept }) (pieces_of bytes (is_held part) q qs))
          ∙ front-pieces k (prefixes_marks bytes r.went_on r.line) kept l long
          ∙ (λ i. white bytes (front i) ++ chunks_of bytes false (sym (join_is bytes (record { before = []; seats = drop k kept }) (pieces_of bytes (is_held part) q qs)) i))
          ∙ ap (λ ss. white bytes (take k (drop r.columns (line_text r.line))) ++ chunks_of bytes false (joined_pieces bytes (record { before = []; seats = ss } ∷ pieces_of bytes (is_held part) q qs))) (drop-drop k r.columns r.line)

module _ (t : ℕ) (bytes : List ℕ) (some : 0 < t) (limit : t * length bytes + 1 < 2 ^ 64) (stack : List Container) (x : RowAt) (xs : List RowAt) (p : Part) (s : IsSectionOf t bytes stack x xs p) (begin : At) (b : IsBegun t bytes p x begin) (filled : x.row.is_blank ≡ false) where
  no : p.first.is_blank ≡ false
  no = sym (blank-is t bytes some limit stack x xs p s) ∙ filled

  columns-same : begin.columns ≡ p.first.columns
  columns-same = begin-filled t bytes some limit stack x xs p s begin b filled ∙ (the-row t bytes some limit stack x xs p s).is.columns

  pub place-first : begin.place ≡ place_after t bytes (point x.span.number 1 x.span.start 0) p.first.columns
  place-first = b.place ∙ ap (place_after t bytes (point x.span.number 1 x.span.start 0)) columns-same

  -- a stretch is written from the place behind its prefixes on
  pub first-begins : (e2 : List Event) (to : Point) (rest all : List Mark) → to ≡ end_at (not x.row.is_blank && holds_ending (leaf_of (last_at x xs).row.leaf)) (last_at x xs)
      → Written e2 None false (inside_of bytes p ++ rest) all → InStretch t bytes stack (is_held p) e2 None begin.place to xs rest all
  first-begins e2 to rest all et w =
      stretch-begins t bytes some limit stack x xs p s p.first.columns begin.place (columns-few t bytes some limit stack x xs p s) place-first e2 to rest all et
      (subst (λ (m : List Mark). Written e2 None false (m ++ rest) all) (inside_stretch bytes p no) w)

  -- or behind its white space
  pub behind-begins : (e2 e3 : List Event) (from to : Point) (rest all : List Mark) → let k = indent (rest_of p.first) in e3 ≡ e2 ++ span_at t bytes name.SpaceOrTab begin.place k → from ≡ place_after t bytes (point x.span.number 1 x.span.start 0) (p.first.columns + k)
      → to ≡ end_at (not x.row.is_blank && holds_ending (leaf_of (last_at x xs).row.leaf)) (last_at x xs)
      → Written e2 None false (behind_definitions bytes p ++ rest) all → InStretch t bytes stack (is_held p) e3 None from to xs rest all
  behind-begins e2 e3 from to rest all wrote there et w =
      let text = line_text p.first.line in
      let c = p.first.columns in
      let k = indent (rest_of p.first) in
      let size = text-size t bytes some limit stack x xs p s in
      let few : c ≤ length text = omega (arith, size, columns-few t bytes some limit stack x xs p s) in
      let near : k ≤ length (drop c text) = omega (arith, indent-few t bytes some limit stack x xs p s, size, length-drop c text) in
      let marks = chunks-from t bytes some limit stack x xs p s (c + k) from (indent-few t bytes some limit stack x xs p s) there in
      let are : AreSeatsAt t bytes begin.place (drop c text) = subst (λ (q : Point). AreSeatsAt t bytes q (drop c text)) (sym place-first) (seats_drop t bytes (point x.span.number 1 x.span.start 0) text c (seats t bytes some limit stack x xs p s) few) in
      let white_is = span_is_leaf t bytes name.SpaceOrTab begin.place (drop c text) k are near in
      let split : behind_definitions bytes p ++ rest ≡ white bytes (take k (drop c text)) ++ (marks ++ rest) =
      ap (λ (m : List Mark). m ++ rest) (behind-stretch bytes p k near (whole t bytes some limit stack x xs p s) few) ∙ append_assoc (white bytes (take k (drop c text))) marks rest in
      let written = write_plain e2 e3 None false (white bytes (take k (drop c text))) (marks ++ rest) all (plain_span bytes name.SpaceOrTab (take k (drop c text)) [] tt) (wrote ∙ ap (λ l. e2 ++ l) white_is) (subst (λ (m : List Mark). Written e2 None false m all) split w) in
      stretch-begins t bytes some limit stack x xs p s (c + k) from (indent-few t bytes some limit stack x xs p s) there e3 to rest all et written

  pub either-begins : (v : Bool) (e2 e3 : List Event) (from to : Point) (rest all : List Mark) → let here = drop x.row.columns (line_bytes t x.span.number 1 x.span.start (drop x.span.start bytes)) in
      e3 ≡ e2 ++ cond v (span_at t bytes name.SpaceOrTab begin.place (indent here)) [] → from ≡ cond v (place_after t bytes (point x.span.number 1 x.span.start 0) (x.row.columns + indent here)) begin.place
      → to ≡ end_at (not x.row.is_blank && holds_ending (leaf_of (last_at x xs).row.leaf)) (last_at x xs)
      → Written e2 None false (cond v (behind_definitions bytes p) (inside_of bytes p) ++ rest) all → InStretch t bytes stack (is_held p) e3 None from to xs rest all
  either-begins true e2 e3 from to rest all wrote there et w =
      let same = rest-is t bytes some limit stack x xs p s in
      let columns = (the-row t bytes some limit stack x xs p s).is.columns in
      behind-begins e2 e3 from to rest all (wrote ∙ ap (λ (l : List ℕ). e2 ++ span_at t bytes name.SpaceOrTab begin.place (indent l)) same)
      (there ∙ (λ k. place_after t bytes (point x.span.number 1 x.span.start 0) (columns k + indent (same k)))) et w
  either-begins false e2 e3 from to rest all wrote there et w =
      subst (λ (q : Point). InStretch t bytes stack (is_held p) e3 None q to xs rest all) (sym there)
      (subst (λ (es : List Event). InStretch t bytes stack (is_held p) es None begin.place to xs rest all) (sym (wrote ∙ append-nil e2)) (first-begins e2 to rest all et w))

pub not-behind : (behind blank : Bool) → blank ≡ true → (behind ≡ true → blank ≡ false) → behind ≡ false
not-behind true blank e h = absurd (false≢true (sym (h refl) ∙ e))
not-behind false blank e h = refl
