-- Lemmas on lazy underlines of a document.
use Rattle.std.proofs.Common.{◌≡◌, ℕ, suc, ◌+◌, ◌-◌, ◌*◌, ◌^◌, ◌<◌, ◌≤◌, Bool, true, false, cond, List, [], ◌∷◌, ◌++◌, length, take, drop, map, refl, sym, ap, ◌∙◌, arith, length-drop}
use Rattle.std.specs.Prelude.{◌&&◌, ◌||◌, not, Some, None, is_some}
use Rattle.std.proofs.lemmas.Bool.{false≢true}
use Rattle.std.proofs.lemmas.List.{drop-append-le, length-map}
use Rattle.markdown_base.specs.declared.configuration.Constructs.{Constructs}
use Rattle.markdown_base.specs.declared.event.Point.{Point}
use Rattle.markdown_base.specs.Virtual.{Seat, point}
use Rattle.mdconstructs_machines.specs.LineEvents.{ending_of, line_text}
use Rattle.mdblock_leaf_blocks.specs.LeafBlocks.{text_of}
use Rattle.mdblock_leaf_blocks.specs.LineKinds.{begins_with, indent, is_blank_line, is_far, run, underline_rank, unindented}
use Rattle.mdblock_lines.specs.Containers.{Container}
use Rattle.mdblock_lines.specs.Lines.{line_bytes, place_after}
use Rattle.mdblock_containers.specs.declared.spans.RowAt.{RowAt}
use Rattle.mdblock_containers.specs.Letters.{lazy_underline}
use Rattle.mdblock_containers.specs.Parts.{open_behind}
use Rattle.mdblock_containers.specs.PlaceEvents.{HasColumns}
use Rattle.mdblock_containers.specs.Rest.{AreLeft}
use Rattle.mdblock_containers.specs.Rows.{Row, rest_of}
use Rattle.mdblock_containers.specs.SeatPlaces.{AreSeatsAt}
use Rattle.mdblock_containers.specs.Spans.{IsRowIn}
use Rattle.mdblock_containers.proofs.GoingLemmas.{begins_some}
use Rattle.mdblock_containers.proofs.PartFacts.{line_size, next_few, next_outside, the_columns, the_inside}
use Rattle.mdblock_containers.proofs.RestLemmas.{next_of, none_left}
use Rattle.mdblock_containers.proofs.RunLemmas.{line_parts}
use Rattle.mdblock_containers.proofs.SeatLemmas.{seats_drop}
use Rattle.mdblock_containers.proofs.StretchLemmas.{row_bytes, row_seats}

-- the marks of an underline are behind its white space
pub underline_some : (on : Constructs) (u : List ℕ) → is_some (underline_rank on u) ≡ true → 1 ≤ length (unindented u)
underline_some on u e = by (is_far on u || not on.heading_setext) (begins_with 61 (unindented u)) (is_blank_line (drop (run 61 (unindented u)) (unindented u))) (begins_with 45 (unindented u)) (is_blank_line (drop (run 45 (unindented u)) (unindented u))) refl refl e
  where
    by : (a b c d f : Bool) → begins_with 61 (unindented u) ≡ b → begins_with 45 (unindented u) ≡ d → is_some {T = ℕ} (cond a None (cond (b && c) (Some 1) (cond (d && f) (Some 2) None))) ≡ true → 1 ≤ length (unindented u)
    by true b c d f p q h = absurd (false≢true h)
    by false true c d f p q h = begins_some 61 (unindented u) p
    by false false c true f p q h = begins_some 45 (unindented u) q
    by false false c false f p q h = absurd (false≢true h)

-- Lines that are left, behind some open containers
pub record HasLeft (t : ℕ) (bytes : List ℕ) (xs : List RowAt) (rs : List Row) : Type 0 where
  pub stack : List Container
  pub left : AreLeft bytes t stack xs rs

module _ (t : ℕ) (bytes : List ℕ) (some : 0 < t) (limit : t * length bytes + 1 < 2 ^ 64) (on : Constructs) (x : RowAt) (xs : List RowAt) (r : Row) (rs : List Row) (has : HasLeft t bytes (x ∷ xs) (r ∷ rs)) where
  abbrev pub text : List ℕ
  text = line_bytes t x.span.number 1 x.span.start (drop x.span.start bytes)

  pub the : IsRowIn t bytes has.stack has.left.number has.left.start x r
  the = has.left.are.0

  pub lazy_inside : x.span.start ≤ length bytes
  lazy_inside = the_inside t bytes some limit has.stack x xs r rs has.left

  pub lazy_columns : HasColumns t bytes (point x.span.number 1 x.span.start 0) (length (line_bytes t x.span.number 1 x.span.start (drop x.span.start bytes)))
  lazy_columns = the_columns t bytes some limit has.stack x xs r rs has.left

  pub lazy_within : x.row.columns ≤ length (line_bytes t x.span.number 1 x.span.start (drop x.span.start bytes))
  lazy_within = omega (arith, line_size t bytes some limit has.stack x xs r rs has.left, the.placed.columns)

  pub lazy_size : length (line_bytes t x.span.number 1 x.span.start (drop x.span.start bytes)) ≡ x.span.size
  lazy_size = line_size t bytes some limit has.stack x xs r rs has.left

  pub lazy_behind : HasLeft t bytes xs rs
  lazy_behind = record { stack = open_behind has.stack r; left = record { number = suc has.left.number; start = x.span.next; are = has.left.are.1; outside = next_outside t bytes some limit has.stack x xs r rs has.left; few = next_few t bytes some limit has.stack x xs r rs has.left } }

  pub rest_is : drop x.row.columns (line_bytes t x.span.number 1 x.span.start (drop x.span.start bytes)) ≡ rest_of r
  rest_is = λ k. drop (the.is.columns k) (row_bytes t bytes some limit has.stack has.left.number has.left.start x r the has.left.outside k)

  -- where its text begins, if something is behind its white space
  pub begin_index : 1 ≤ length (unindented (rest_of r)) → (place_after t bytes (point x.span.number 1 x.span.start 0) (r.columns + indent (rest_of r))).index ∷ [] ≡ map (λ (s : Seat). s.point.index) (take 1 (drop (r.columns + indent (rest_of r)) r.line))
  begin_index more =
      let k = r.columns + indent (rest_of r) in
      let ss = line_text r.line in
      let size : length (text_of r.line) ≡ length ss = length-map ss (λ (s : Seat). s.byte) in
      let n : length (unindented (rest_of r)) ≡ length (rest_of r) - indent (rest_of r) = length-drop (indent (rest_of r)) (rest_of r) in
      let m : length (rest_of r) ≡ length (text_of r.line) - r.columns = length-drop r.columns (text_of r.line) in
      let w : k < length ss = omega (arith, size, n, m, more) in
      let split : drop k r.line ≡ drop k ss ++ ending_of r.line = ap (drop k) (line_parts t bytes some limit has.left.number has.left.start x the.placed r.line the.line has.left.outside) ∙ drop-append-le k ss (ending_of r.line) (omega (arith, w)) in
      let are : AreSeatsAt t bytes (place_after t bytes (point x.span.number 1 x.span.start 0) k) (drop k ss) = seats_drop t bytes (point x.span.number 1 x.span.start 0) ss k (row_seats t bytes some limit has.stack has.left.number has.left.start x r the has.left.outside) (omega (arith, w)) in
      by (drop k ss) are (omega (arith, w, length-drop k ss)) ∙ ap (λ (l : List Seat). map (λ (s : Seat). s.point.index) (take 1 l)) (sym split)
    where
      by : (ss : List Seat) → AreSeatsAt t bytes (place_after t bytes (point x.span.number 1 x.span.start 0) (r.columns + indent (rest_of r))) ss → 0 < length ss
          → (place_after t bytes (point x.span.number 1 x.span.start 0) (r.columns + indent (rest_of r))).index ∷ [] ≡ map (λ (s : Seat). s.point.index) (take 1 (ss ++ ending_of r.line))
      by [] are h = absurd (omega arith)
      by (s ∷ ss) are h = ap (λ (p : Point). p.index ∷ []) (sym are.1)

  -- the mark at its place
  pub mark_is : is_some (underline_rank on (rest_of r)) ≡ true → (place_after t bytes (point x.span.number 1 x.span.start 0) (r.columns + indent (rest_of r))).index ∷ [] ≡ map (λ (s : Seat). s.point.index) (take 1 (drop (r.columns + indent (rest_of r)) r.line))
  mark_is e = begin_index (underline_some on (rest_of r) e)

  -- what is known of the line
  pub lazy_is : cond (x.row.is_lazy && is_some (underline_rank on (drop x.row.columns (line_bytes t x.span.number 1 x.span.start (drop x.span.start bytes)))))
      ((place_after t bytes (point x.span.number 1 x.span.start 0) (x.row.columns + indent (drop x.row.columns (line_bytes t x.span.number 1 x.span.start (drop x.span.start bytes))))).index ∷ []) [] ≡ lazy_underline on r
  lazy_is =
      (λ k. cond (the.is.is_lazy k && is_some (underline_rank on (rest_is k))) ((place_after t bytes (point x.span.number 1 x.span.start 0) (the.is.columns k + indent (rest_is k))).index ∷ []) [])
      ∙ by r.is_lazy (is_some (underline_rank on (rest_of r))) mark_is
    where
      by : (a b : Bool) → (b ≡ true → (place_after t bytes (point x.span.number 1 x.span.start 0) (r.columns + indent (rest_of r))).index ∷ [] ≡ map (λ (s : Seat). s.point.index) (take 1 (drop (r.columns + indent (rest_of r)) r.line)))
          → cond (a && b) ((place_after t bytes (point x.span.number 1 x.span.start 0) (r.columns + indent (rest_of r))).index ∷ []) [] ≡ cond (a && b) (map (λ (s : Seat). s.point.index) (take 1 (drop (r.columns + indent (rest_of r)) r.line))) []
      by true true h = h refl
      by true false h = refl
      by false b h = refl

-- the next line of those that are left
pub record IsLazyNext (t : ℕ) (bytes : List ℕ) (x : RowAt) (xs : List RowAt) (all : List Row) (i : ℕ) : Type 0 where
  pub row : Row
  pub is : drop i all ≡ row ∷ drop (i + 1) all
  pub has : HasLeft t bytes (x ∷ xs) (row ∷ drop (i + 1) all)

pub lazy_next : (t : ℕ) (bytes : List ℕ) (all : List Row) (x : RowAt) (xs ys : List RowAt) (i : ℕ) → ys ≡ x ∷ xs → HasLeft t bytes ys (drop i all) → IsLazyNext t bytes x xs all i
lazy_next t bytes all x xs ys i e h = let n = next_of t bytes h.stack all x xs ys i e h.left in record { row = n.row; is = n.is; has = record { stack = h.stack; left = n.left } }

pub lazy_none : (t : ℕ) (bytes : List ℕ) (qs : List Row) → HasLeft t bytes [] qs → qs ≡ []
lazy_none t bytes qs h = none_left t bytes h.stack qs qs h.left
