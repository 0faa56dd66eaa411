-- Lemmas on the parts of a document, one behind the other.
use Rattle.std.proofs.Common.{◌≡◌, ◌⊎◌, inl, inr, ℕ, zero, suc, ◌+◌, ◌*◌, ◌^◌, ◌<◌, ◌≤◌, Bool, true, false, cond, List, [], ◌∷◌, ◌++◌, length, take, drop, map, refl, sym, ap, ◌∙◌, subst, arith, length-drop, length-take}
use Rattle.std.specs.Prelude.{◌||◌, nat_le, reverse, None}
use Rattle.std.proofs.lemmas.Bool.{false≢true}
use Rattle.std.proofs.lemmas.List.{append-nil, drop-drop, map-append, take_all}
use Rattle.markdown_base.specs.declared.event.Event.{Event}
use Rattle.markdown_base.specs.declared.event.Kind.TheVariants.{Exit}
use Rattle.markdown_base.specs.declared.event.Point.{Point}
use Rattle.markdown_base.specs.Places.{shown}
use Rattle.markdown_base.specs.Virtual.{Seat}
use Rattle.mdconstructs_machines.specs.LineEvents.{line_text}
use Rattle.mdblock_leaf_blocks.specs.LeafBlocks.{text_of}
use Rattle.mdblock_leaf_blocks.specs.LeafEvents.{Mark, white}
use Rattle.mdblock_lines.specs.Containers.{Container, Prefix}
use Rattle.mdblock_containers.specs.declared.parts.PartEnd.{PartEnd}
use Rattle.mdblock_containers.specs.declared.spans.RowAt.{RowAt}
use Rattle.mdblock_containers.specs.Parts.{ending_at, open_behind}
use Rattle.mdblock_containers.specs.PlaceEvents.{event_at}
use Rattle.mdblock_containers.specs.Prefixes.{columns_of, containers_of}
use Rattle.mdblock_containers.specs.Rest.{AreLeft, ending_to, exits_to, rest_marks}
use Rattle.mdblock_containers.specs.Rows.{Row, has_none}
use Rattle.mdblock_containers.specs.SeatPlaces.{events_of}
use Rattle.mdblock_containers.specs.Skeleton.{Frame, Part, Piece, behind_marks, chained_from, chunks_of, end_of, ending_marks, exits, frames_at, further, inside_of, is_held, joined_pieces, part_marks, parts, parts_in, parts_marks, pieces_of, prefixes_marks, shared, standing}
use Rattle.mdblock_containers.specs.Spans.{IsRowIn, AreRowsIn}
use Rattle.mdblock_containers.specs.Stretches.{AreFurther, IsOutside, pieces_from}
use Rattle.mdblock_containers.specs.Written.{NoChunk, Written}
use Rattle.mdblock_containers.proofs.DocumentRows.{next_is, next_more}
use Rattle.mdblock_containers.proofs.GoingLemmas.{going_front}
use Rattle.mdblock_containers.proofs.JoinLemmas.{join_is}
use Rattle.mdblock_containers.proofs.RunLemmas.{behind_line}
use Rattle.mdblock_containers.proofs.WrittenLemmas.{plain_append, write_end, write_plain}
use Rattle.mdblock_containers.proofs.FrameFacts.{shared_none}

-- ---- parts

-- the part that begins with a line
abbrev pub part_of : Row → List Row → Part
part_of r rs = let n = cond r.is_blank 0 (further rs) in record { first = r; more = take n rs; frames = frames_at r rs; stands = standing r rs }

pub drop_few : (n : ℕ) (rs : List Row) → length (drop n rs) ≤ length rs
drop_few n rs = omega (arith, length-drop n rs)

pub parts_bound : (b c : ℕ) (rs : List Row) → length rs ≤ b → length rs ≤ c → parts_in b rs ≡ parts_in c rs
parts_bound zero zero rs h g = refl
parts_bound zero (suc c) [] h g = refl
parts_bound zero (suc c) (r ∷ rs) h g = absurd (omega arith)
parts_bound (suc b) zero [] h g = refl
parts_bound (suc b) zero (r ∷ rs) h g = absurd (omega arith)
parts_bound (suc b) (suc c) [] h g = refl
parts_bound (suc b) (suc c) (r ∷ rs) h g =
    let n = cond r.is_blank 0 (further rs) in
    let few = drop_few n rs in
    ap (λ (ps : List Part). part_of r rs ∷ ps) (parts_bound b c (drop n rs) (omega (arith, few, h)) (omega (arith, few, g)))

pub parts_more : (r : Row) (rs : List Row) → parts (r ∷ rs) ≡ part_of r rs ∷ parts (drop (cond r.is_blank 0 (further rs)) rs)
parts_more r rs =
    let n = cond r.is_blank 0 (further rs) in
    ap (λ (ps : List Part). part_of r rs ∷ ps) (parts_bound (length rs) (length (drop n rs)) (drop n rs) (drop_few n rs) (omega arith))

-- ---- the lines of a part

pub further_few : (rs : List Row) → further rs ≤ length rs
further_few [] = omega arith
further_few (r ∷ rs) = by r.is_left_blank (nat_le 1 (further rs)) r.stays (further_few rs)
  where
    by : (a b c : Bool) → further rs ≤ length rs → cond a (cond b (suc (further rs)) 0) (cond c (suc (further rs)) 0) ≤ suc (length rs)
    by true true c h = omega arith
    by true false c h = omega arith
    by false b true h = omega arith
    by false b false h = omega arith

-- a further line is left blank, or stays
pub further_is : (r : Row) (rs : List Row) (k : ℕ) → further (r ∷ rs) ≡ suc k → (further rs ≡ k) × ((r.is_left_blank || r.stays) ≡ true)
further_is r rs k e = by r.is_left_blank (nat_le 1 (further rs)) r.stays e
  where
    by : (a b c : Bool) → cond a (cond b (suc (further rs)) 0) (cond c (suc (further rs)) 0) ≡ suc k → (further rs ≡ k) × ((a || c) ≡ true)
    by true true c q = (omega (arith, q), refl)
    by true false c q = absurd (omega (arith, q))
    by false b true q = (omega (arith, q), refl)
    by false b false q = absurd (omega (arith, q))

module _ (t : ℕ) (bytes : List ℕ) (some : 0 < t) (limit : t * length bytes + 1 < 2 ^ 64) where
  pub went_front : (stack : List Container) (number start : ℕ) (x : RowAt) (r : Row) → IsRowIn t bytes stack number start x r → containers_of r.went_on ≡ take x.row.many stack
  went_front stack number start x r row =
      let cs = take x.row.many stack in
      let size : length cs ≡ x.row.many = omega (arith, length-take x.row.many stack, row.many) in
      ap containers_of row.went ∙ going_front cs number (text_of r.line) ∙ ap (λ n. take n cs) (sym (ap (λ (l : List Prefix). length l) row.went) ∙ sym row.is.many) ∙ take_all x.row.many cs (omega (arith, size))

  -- no container begins in it or ends with it
  pub further_plain : (stack : List Container) (number start : ℕ) (x : RowAt) (r : Row) → IsRowIn t bytes stack number start x r → (r.is_left_blank || r.stays) ≡ true → (r.begun ≡ []) × (open_behind stack r ≡ stack)
  further_plain stack number start x r row e = by r.is_left_blank r.stays r.is_lazy refl refl refl e
    where
      by : (left stays lazy : Bool) → r.is_left_blank ≡ left → r.stays ≡ stays → r.is_lazy ≡ lazy → (left || stays) ≡ true → (r.begun ≡ []) × (cond (left || lazy) stack (containers_of r.went_on ++ containers_of r.begun) ≡ stack)
      by true stays lazy el es ez q = (row.left el, refl)
      by false true true el es ez q = (row.stays es, refl)
      by false true false el es ez q =
          let none = row.stays es in
          (none, (λ k. went_front stack number start x r row k ++ containers_of (none k)) ∙ append-nil (take x.row.many stack) ∙ take_all x.row.many stack (omega (arith, row.whole es ez)))
      by false false lazy el es ez q = absurd (false≢true q)

  -- The first of the lines that are left are further lines of a stretch, and those behind them are left
  pub record AreSplit (stack : List Container) (number start : ℕ) (xs : List RowAt) (rs : List Row) (n : ℕ) : Type 0 where
    pub first : AreFurther t bytes stack number start (take n xs) (take n rs)
    pub last_number : ℕ
    pub last_start : ℕ
    pub behind : AreRowsIn t bytes stack last_number last_start (drop n xs) (drop n rs)
    pub outside : IsOutside bytes last_start
    pub few : last_number ≤ suc last_start

  pub split_all : (stack : List Container) (number start : ℕ) (xs : List RowAt) (rs : List Row) → AreRowsIn t bytes stack number start xs rs → IsOutside bytes start → number ≤ suc start → AreSplit stack number start xs rs 0
  split_all stack number start xs rs are outside few = record { first = tt; last_number = number; last_start = start; behind = are; outside = outside; few = few }

  pub split_rows : (n : ℕ) (stack : List Container) (number start : ℕ) (xs : List RowAt) (rs : List Row) → AreRowsIn t bytes stack number start xs rs → IsOutside bytes start → number ≤ suc start → (n ≡ 0) ⊎ (n ≡ further rs) → AreSplit stack number start xs rs n
  split_rows zero stack number start xs rs are outside few e = split_all stack number start xs rs are outside few
  split_rows (suc n) stack number start xs rs are outside few (inl e) = absurd (omega (arith, e))
  split_rows (suc n) stack number start [] [] are outside few (inr e) = absurd (omega (arith, e))
  split_rows (suc n) stack number start [] (r ∷ rs) are outside few (inr e) = absurd are
  split_rows (suc n) stack number start (x ∷ xs) [] are outside few (inr e) = absurd are
  split_rows (suc n) stack number start (x ∷ xs) (r ∷ rs) are outside few (inr e) =
      let row = are.0 in
      let is = further_is r rs n (sym e) in
      let plain = further_plain stack number start x r row is.1 in
      let next : AreRowsIn t bytes stack (suc number) x.span.next xs rs = subst (λ (s : List Container). AreRowsIn t bytes s (suc number) x.span.next xs rs) plain.1 are.1 in
      let on = next_more bytes start x.span.next row.placed.inside (next_is bytes start x.span.end x.span.next row.placed.end_is row.placed.next_is) in
      let more = split_rows n stack (suc number) x.span.next xs rs next (behind_line t bytes some limit number start x row.placed r.line row.line outside) (omega (arith, on, few)) (inr (sym is.0)) in
      record { first = (row, plain.0, more.first); last_number = more.last_number; last_start = more.last_start; behind = more.behind; outside = more.outside; few = more.few }

-- ---- what is written between two parts

pub plain_map : {A : Type 0} (f : A → Event) (xs : List A) → NoChunk (map (λ x. (f x, None)) xs)
plain_map f [] = tt
plain_map f (x ∷ xs) = plain_map f xs

-- what is known before the first part
abbrev pub no_end : PartEnd
no_end = record { is_blank = false; place = record { line = 1; column = 1; index = 0; vs = 0 }; behind = None }

module _ (bytes : List ℕ) where
  pub exits_shown : (fs : List Frame) (p q : Point) → shown bytes p ≡ q → exits bytes fs p ≡ exits_to fs q
  exits_shown fs p q e = λ k. map (λ f. (event_at Exit f.name (e k), None)) (reverse fs)

  -- what comes behind a part, by where it ends
  pub behind_is_rest : (p : Part) (ps : List Part) (e : PartEnd) → shown bytes (end_of bytes p) ≡ e.place → ending_marks bytes p ≡ ending_to e → behind_marks bytes p ps ≡ rest_marks bytes p.frames e ps
  behind_is_rest p [] e at ending = λ k. exits_shown p.frames (end_of bytes p) e.place at k ++ ending k
  behind_is_rest p (q ∷ qs) e at ending = λ k. exits_shown (drop (shared p.frames q.frames) p.frames) (end_of bytes p) e.place at k ++ (ending k ++ (part_marks bytes q ++ behind_marks bytes q qs))

  -- before the first part nothing is open
  pub rest_init : (ps : List Part) (e : PartEnd) → e.behind ≡ None → rest_marks bytes [] e ps ≡ parts_marks bytes ps
  rest_init [] e none = ap (λ b. ending_to (record e { behind = b })) none
  rest_init (p ∷ ps) e none = ap (λ b. ending_to (record e { behind = b }) ++ (part_marks bytes p ++ behind_marks bytes p ps)) none

  -- ---- what is in a part

  pub from_pieces : (b : List Mark) (s : List Seat) (l : List (Piece bytes)) → (elim (elim l as (λ _. List (Piece bytes)) [
    | [] ↦ record { before = b; seats = s } ∷ []
    | r ∷ rs ↦ cond (has_none r.before) (record { before = b; seats = s ++ r.seats } ∷ rs) (record { before = b; seats = s } ∷ r ∷ rs)
  ]) as (λ _. List Mark) [ [] ↦ [] | p ∷ ps ↦ chunks_of bytes false (record p { before = [] } ∷ ps) ]) ≡ chunks_of bytes false (elim l as (λ _. List (Piece bytes)) [
    | [] ↦ record { before = []; seats = s } ∷ []
    | r ∷ rs ↦ cond (has_none r.before) (record { before = []; seats = s ++ r.seats } ∷ rs) (record { before = []; seats = s } ∷ r ∷ rs)
  ])
  from_pieces b s [] = refl
  from_pieces b s (r ∷ rs) = by (has_none r.before)
    where
      by : (c : Bool) → (elim (cond c (record { before = b; seats = s ++ r.seats } ∷ rs) (record { before = b; seats = s } ∷ r ∷ rs)) as (λ (_ : List (Piece bytes)). List Mark) [ [] ↦ [] | p ∷ ps ↦ chunks_of bytes false (record p { before = [] } ∷ ps) ])
          ≡ chunks_of bytes false (cond c (record { before = []; seats = s ++ r.seats } ∷ rs) (record { before = []; seats = s } ∷ r ∷ rs))
      by true = refl
      by false = refl

  -- the chunks of a stretch, behind the prefixes of its first line
  pub inside_stretch : (part : Part) → part.first.is_blank ≡ false
      → inside_of bytes part ≡ chunks_of bytes false (joined_pieces bytes (pieces_from bytes (is_held part) (drop part.first.columns (cond (is_held part) part.first.line (line_text part.first.line))) (drop part.first.columns part.first.line) part.more))
  inside_stretch part e = ap (λ b. cond b (white bytes (line_text (drop (cond (has_none part.first.begun) (columns_of (take (length part.stands) part.first.went_on)) part.first.columns) part.first.line)))
      (elim (joined_pieces bytes (pieces_of bytes (is_held part) part.first part.more)) [ [] ↦ [] | p ∷ ps ↦ chunks_of bytes false (record p { before = [] } ∷ ps) ])) e ∙ by part.more
    where
      by : (more : List Row) → (elim (joined_pieces bytes (pieces_of bytes (is_held part) part.first more)) as (λ _. List Mark) [ [] ↦ [] | p ∷ ps ↦ chunks_of bytes false (record p { before = [] } ∷ ps) ])
          ≡ chunks_of bytes false (joined_pieces bytes (pieces_from bytes (is_held part) (drop part.first.columns (cond (is_held part) part.first.line (line_text part.first.line))) (drop part.first.columns part.first.line) more))
      by [] = refl
      by (q ∷ qs) =
          let r = part.first in
          let first : Piece bytes = record { before = prefixes_marks bytes r.went_on r.line; seats = drop r.columns r.line } in
          let plain : Piece bytes = record { before = []; seats = drop r.columns r.line } in
          ap (λ (l : List (Piece bytes)). elim l as (λ _. List Mark) [ [] ↦ [] | p ∷ ps ↦ chunks_of bytes false (record p { before = [] } ∷ ps) ]) (join_is bytes first (pieces_of bytes (is_held part) q qs))
          ∙ from_pieces (prefixes_marks bytes r.went_on r.line) (drop r.columns r.line) (joined_pieces bytes (pieces_of bytes (is_held part) q qs))
          ∙ ap (chunks_of bytes false) (sym (join_is bytes plain (pieces_of bytes (is_held part) q qs)))

-- ---- the lines that are left

module _ (t : ℕ) (bytes : List ℕ) (stack : List Container) (all : List Row) where
  -- the next line, and those behind it
  pub record IsNext (x : RowAt) (xs : List RowAt) (i : ℕ) : Type 0 where
    pub row : Row
    pub is : drop i all ≡ row ∷ drop (i + 1) all
    pub left : AreLeft bytes t stack (x ∷ xs) (row ∷ drop (i + 1) all)

  pub next_of : (x : RowAt) (xs ys : List RowAt) (i : ℕ) → ys ≡ x ∷ xs → AreLeft bytes t stack ys (drop i all) → IsNext x xs i
  next_of x xs ys i e left = by (drop i all) refl (subst (λ (l : List RowAt). AreLeft bytes t stack l (drop i all)) e left)
    where
      by : (qs : List Row) → drop i all ≡ qs → AreLeft bytes t stack (x ∷ xs) qs → IsNext x xs i
      by [] d h = absurd h.are
      by (q ∷ qs) d h =
          let rest : qs ≡ drop (i + 1) all = sym (ap (drop 1) d) ∙ drop-drop 1 i all in
          record { row = q; is = d ∙ ap (λ l. q ∷ l) rest; left = subst (λ (l : List Row). AreLeft bytes t stack (x ∷ xs) (q ∷ l)) rest h }

  pub none_left : (qs : List Row) → AreLeft bytes t stack [] qs → qs ≡ []
  none_left [] h = refl
  none_left (q ∷ qs) h = absurd h.are

-- behind the last part
pub write_last : (bytes : List ℕ) (es new : List Event) (fs : List Frame) (e : PartEnd) (rs : List Row) (all : List Mark) → rs ≡ [] → new ≡ es ++ (events_of (exits_to (drop (shared fs []) fs) e.place) ++ events_of (ending_to e))
    → Written es None false (rest_marks bytes fs e (parts rs)) all → new ≡ chained_from 0 None all
write_last bytes es new fs e (r ∷ rs) all none wrote w = absurd (cc)
write_last bytes es new fs e [] all none wrote w =
    let ns = exits_to fs e.place ++ ending_to e in
    let is : new ≡ es ++ events_of ns = wrote ∙ (λ k. es ++ (events_of (exits_to (drop (shared_none fs k) fs) e.place) ++ events_of (ending_to e))) ∙ ap (λ l. es ++ l) (sym (map-append (λ (m : Mark). m.0) (exits_to fs e.place) (ending_to e))) in
    let plain : NoChunk ns = plain_append (exits_to fs e.place) (ending_to e) (plain_map (λ (f : Frame). event_at Exit f.name e.place) (reverse fs)) (plain_map (λ (x : Event). x) (ending_at e)) in
    write_end new None false all (write_plain es new None false ns [] all plain is (subst (λ (m : List Mark). Written es None false m all) (sym (append-nil ns)) w))
