-- Lemmas on the lines of a document, with their containers.
use Rattle.std.proofs.Common.{◌≡◌, ℕ, zero, suc, ◌+◌, ◌-◌, ◌<◌, ◌≤◌, Bool, true, false, cond, List, [], ◌∷◌, ◌++◌, length, take, drop, map, min, length-drop, length-take, refl, sym, ap, ◌∙◌, subst, arith, append_assoc}
use Rattle.std.specs.Prelude.{◌==◌, ◌&&◌, filter, Option, Some, None}
use Rattle.std.specs.List.{prefix_len}
use Rattle.std.proofs.lemmas.List.{append-nil, drop-drop}
use Rattle.markdown_base.specs.declared.configuration.Constructs.{Constructs}
use Rattle.markdown_base.specs.Virtual.{Seat, virtual, virtual_from, begins_with_lf}
use Rattle.mdconstructs_machines.specs.LineEvents.{lines_in}
use Rattle.mdblock_leaf_blocks.specs.LeafBlocks.{Line, text_of}
use Rattle.mdblock_lines.specs.Containers.{Container, Prefix, goes_on}
use Rattle.mdblock_lines.specs.Lines.{line_at, line_length, line_bytes, text_seats, ending_seats, ending_size, is_in_line, is_no_ending}
use Rattle.mdblock_lines.proofs.LinesCut.{lines_follow}
use Rattle.mdblock_containers.specs.declared.spans.RowAt.{RowAt}
use Rattle.mdblock_containers.proofs.GoingLemmas.{prefix_within, going_front}
use Rattle.mdblock_containers.specs.Prefixes.{going_on, containers_of}
use Rattle.mdblock_containers.specs.Rows.{Before, Row, row_of, known_after, rows, rows_from, nothing_known}
use Rattle.mdblock_containers.specs.Ahead.{AreRows}
use Rattle.mdblock_containers.specs.Spans.{IsPlaced, ArePlaced}
use Rattle.mdblock_containers.specs.Views.{IsRow}

-- the front of a line has no line ending
pub filter_front : (xs ys : List Seat) → filter is_no_ending (take (prefix_len is_no_ending xs) xs ++ ys) ≡ take (prefix_len is_no_ending xs) xs ++ filter is_no_ending ys
filter_front [] ys = refl
filter_front (x ∷ xs) ys = by (is_no_ending x) refl (filter_front xs ys)
  where
    by : (b : Bool) → is_no_ending x ≡ b → filter is_no_ending (take (prefix_len is_no_ending xs) xs ++ ys) ≡ take (prefix_len is_no_ending xs) xs ++ filter is_no_ending ys
        → filter is_no_ending (take (cond b (1 + prefix_len is_no_ending xs) 0) (x ∷ xs) ++ ys) ≡ take (cond b (1 + prefix_len is_no_ending xs) 0) (x ∷ xs) ++ filter is_no_ending ys
    by true e h =
        let on : 1 + prefix_len is_no_ending xs ≡ suc (prefix_len is_no_ending xs) = omega arith in
        (λ k. filter is_no_ending (take (on k) (x ∷ xs) ++ ys)) ∙ ap (λ b. cond b (x ∷ filter is_no_ending (take (prefix_len is_no_ending xs) xs ++ ys)) (filter is_no_ending (take (prefix_len is_no_ending xs) xs ++ ys))) e ∙ ap (λ l. x ∷ l) h ∙ (λ k. take (sym on k) (x ∷ xs) ++ filter is_no_ending ys)
    by false e h = refl

pub ending_is_none : (line column index size : ℕ) → filter is_no_ending (ending_seats line column index size) ≡ []
ending_is_none line column index zero = refl
ending_is_none line column index (suc k) = refl

-- the text of a line is its virtual bytes
pub text_of_line_at : (t line index : ℕ) (bs : List ℕ) → text_of (line_at t line index bs) ≡ line_bytes t line 1 index bs
text_of_line_at t line index bs =
    let seats = virtual_from t line 1 index bs in
    let size = ending_size (drop (prefix_len is_in_line bs) bs) in
    let text = text_seats t line index bs in
    let column = 1 + length text in
    let at = index + prefix_len is_in_line bs in
    ap (map (λ (s : Seat). s.byte)) (filter_front seats (ending_seats line column at size) ∙ ap (λ (l : List Seat). text ++ l) (ending_is_none line column at size) ∙ append-nil text)

pub one_or_two : (y : Bool) → 0 < 0 + cond y 2 1
one_or_two true = omega arith
one_or_two false = omega arith

-- a line has bytes
pub line_length_some : (bs : List ℕ) → 0 < length bs → 0 < line_length bs
line_length_some [] h = absurd (omega arith)
line_length_some (b ∷ bs) h = by (is_in_line b) (one_or_two ((b == 13) && begins_with_lf bs))
  where
    by : (x : Bool) → 0 < 0 + cond ((b == 13) && begins_with_lf bs) 2 1 → 0 < cond x (1 + prefix_len is_in_line bs) 0 + ending_size (drop (cond x (1 + prefix_len is_in_line bs) 0) (b ∷ bs))
    by true y = omega arith
    by false y = y

-- lines so far, and the lines that are left
pub record AreRowsBefore (xs : List RowAt) (rest all : List Row) : Type 0 where
  pub front : List Row
  pub is : AreRows xs front
  pub same : all ≡ front ++ rest

pub are_rows_push : (xs : List RowAt) (x : RowAt) (rs : List Row) (r : Row) → AreRows xs rs → IsRow x.span.number x.row r → AreRows (xs ++ x ∷ []) (rs ++ r ∷ [])
are_rows_push [] x [] r h i = (i, tt)
are_rows_push [] x (s ∷ rs) r h i = absurd h
are_rows_push (y ∷ ys) x [] r h i = absurd h
are_rows_push (y ∷ ys) x (s ∷ rs) r h i = (h.0, are_rows_push ys x rs r h.1 i)

pub rows_push : (xs ys : List RowAt) (x : RowAt) (row : Row) (rest all : List Row) → ys ≡ xs ++ x ∷ [] → AreRowsBefore xs (row ∷ rest) all → IsRow x.span.number x.row row → AreRowsBefore ys rest all
rows_push xs ys x row rest all e w i =
    subst (λ (l : List RowAt). AreRowsBefore l rest all) (sym e) (record { front = w.front ++ row ∷ []; is = are_rows_push xs x w.front row w.is i; same = w.same ∙ sym (append_assoc w.front (row ∷ []) rest) })

pub are_rows_end : (xs : List RowAt) (rest all : List Row) → rest ≡ [] → AreRowsBefore xs rest all → AreRows xs all
are_rows_end xs rest all e w = subst (AreRows xs) (sym (w.same ∙ ap (λ (l : List Row). w.front ++ l) e ∙ append-nil w.front)) w.is

module _ (on : Constructs) (t : ℕ) (bytes : List ℕ) where
  -- the lines from an index on
  abbrev pub rows_left : (b : Before) (number start : ℕ) → List Row
  rows_left b number start = rows_from on b number (lines_in (virtual_from t number 1 start (drop start bytes)))

  pub rows_left_step : (some : 0 < t) (b : Before) (number start next : ℕ) → 0 < length (drop start bytes) → next ≡ start + line_length (drop start bytes)
      → rows_left b number start ≡ row_of on b number (line_at t number start (drop start bytes)) ∷ rows_left (known_after on b (row_of on b number (line_at t number start (drop start bytes)))) (suc number) next
  rows_left_step some b number start next h e =
      let rest = drop start bytes in
      let row = row_of on b number (line_at t number start rest) in
      ap (rows_from on b number) (lines_follow t number start rest some h)
      ∙ (λ k. row ∷ rows_from on (known_after on b row) (suc number) (lines_in (virtual_from t (suc number) 1 (sym e k) (drop-drop (line_length rest) start bytes k))))
      ∙ (λ k. row ∷ rows_from on (known_after on b row) (suc number) (lines_in (virtual_from t (suc number) 1 next (drop (sym e k) bytes))))

  pub rows_left_end : (b : Before) (number start : ℕ) → drop start bytes ≡ [] → rows_left b number start ≡ []
  rows_left_end b number start e = ap (λ (l : List ℕ). rows_from on b number (lines_in (virtual_from t number 1 start l))) e

  -- one line more
  pub rows_more : (some : 0 < t) (xs ys : List RowAt) (x : RowAt) (b c : Before) (number further start next : ℕ) (all : List Row) → ys ≡ xs ++ x ∷ [] → 0 < length (drop start bytes) → next ≡ start + line_length (drop start bytes)
      → x.span.number ≡ number → further ≡ suc number → IsRow number x.row (row_of on b number (line_at t number start (drop start bytes))) → c ≡ known_after on b (row_of on b number (line_at t number start (drop start bytes)))
      → AreRowsBefore xs (rows_left b number start) all → AreRowsBefore ys (rows_left c further next) all
  rows_more some xs ys x b c number further start next all ey h en ex ef is ec w =
      let row = row_of on b number (line_at t number start (drop start bytes)) in
      let step : rows_left b number start ≡ row ∷ rows_left c further next = rows_left_step some b number start next h en ∙ (λ k. row ∷ rows_left (sym ec k) (sym ef k) next) in
      rows_push xs ys x row (rows_left c further next) all ey (subst (λ (l : List Row). AreRowsBefore xs l all) step w) (subst (λ (n : ℕ). IsRow n x.row row) (sym ex) is)

  pub rows_all : (xs : List RowAt) (b : Before) (number start : ℕ) (all : List Row) → drop start bytes ≡ [] → AreRowsBefore xs (rows_left b number start) all → AreRows xs all
  rows_all xs b number start all e w = are_rows_end xs (rows_left b number start) all (rows_left_end b number start e) w

-- at the beginning
pub rows_init : (on : Constructs) (t : ℕ) (bytes : List ℕ) (xs : List RowAt) (b : Before) (n : ℕ) → xs ≡ [] → b ≡ nothing_known on → n ≡ 1 → AreRowsBefore xs (rows_left on t bytes b n 0) (rows on (lines_in (virtual t bytes)))
rows_init on t bytes xs b n ex eb en =
    let here : AreRowsBefore [] (rows_left on t bytes (nothing_known on) 1 0) (rows on (lines_in (virtual t bytes))) = record { front = []; is = tt; same = refl } in
    subst (λ (l : List RowAt). AreRowsBefore l (rows_left on t bytes b n 0) (rows on (lines_in (virtual t bytes)))) (sym ex)
    (subst (λ (c : Before). AreRowsBefore [] (rows_left on t bytes c n 0) (rows on (lines_in (virtual t bytes)))) (sym eb)
    (subst (λ (m : ℕ). AreRowsBefore [] (rows_left on t bytes (nothing_known on) m 0) (rows on (lines_in (virtual t bytes)))) (sym en) here))

pub take_of_take : {A : Type 0} (m n : ℕ) (xs : List A) → m ≤ length (take n xs) → take m (take n xs) ≡ take m xs
take_of_take zero n xs h = refl
take_of_take (suc m) zero xs h = absurd (omega arith)
take_of_take (suc m) (suc n) [] h = refl
take_of_take (suc m) (suc n) (x ∷ xs) h = ap (λ l. x ∷ l) (take_of_take m n xs (omega arith))

pub going_few : (cs : List Container) (number : ℕ) (t : List ℕ) → length (going_on cs number t) ≤ length cs
going_few [] number t = omega arith
going_few (c ∷ cs) number t = by (goes_on c number t) (λ n. going_few cs number (drop n t))
  where
    by : (o : Option ℕ) → ((n : ℕ) → length (going_on cs number (drop n t)) ≤ length cs) → length (elim o as (λ _. List Prefix) [ None ↦ [] | Some n ↦ record { container = c; size = n } ∷ going_on cs number (drop n t) ]) ≤ suc (length cs)
    by None h = omega arith
    by (Some n) h = let l = h n in omega arith

module _ (on : Constructs) (b : Before) (number : ℕ) (line : Line) (many : ℕ) (is : many ≡ length (going_on (take b.depth b.stack) number (text_of line))) where
  -- the containers that go on are the first of the open ones
  pub went_front : containers_of (row_of on b number line).went_on ≡ take many b.stack
  went_front =
      let few = going_few (take b.depth b.stack) number (text_of line) in
      going_front (take b.depth b.stack) number (text_of line) ∙ take_of_take (length (going_on (take b.depth b.stack) number (text_of line))) b.depth b.stack few ∙ ap (λ n. take n b.stack) (sym is)

  pub went_few : many ≤ length b.stack
  went_few =
      let few = going_few (take b.depth b.stack) number (text_of line) in
      let n : length (take b.depth b.stack) ≡ min b.depth (length b.stack) = length-take b.depth b.stack in
      omega arith

-- where the next line begins
pub next_is : (bytes : List ℕ) (start end next : ℕ) → end ≡ start + prefix_len is_in_line (drop start bytes) → next ≡ end + ending_size (drop end bytes) → next ≡ start + line_length (drop start bytes)
next_is bytes start end next ee en =
    let p = prefix_len is_in_line (drop start bytes) in
    let at : ending_size (drop end bytes) ≡ ending_size (drop p (drop start bytes)) = ap (λ k. ending_size (drop k bytes)) ee ∙ ap ending_size (sym (drop-drop p start bytes)) in
    omega arith

pub next_more : (bytes : List ℕ) (start next : ℕ) → start < length bytes → next ≡ start + line_length (drop start bytes) → start < next
next_more bytes start next h e =
    let d : length (drop start bytes) ≡ length bytes - start = length-drop start bytes in
    let some : 0 < line_length (drop start bytes) = line_length_some (drop start bytes) (omega arith) in
    omega arith

pub end_within : (bytes : List ℕ) (start end : ℕ) → start ≤ length bytes → end ≡ start + prefix_len is_in_line (drop start bytes) → end ≤ length bytes
end_within bytes start end h e =
    let d : length (drop start bytes) ≡ length bytes - start = length-drop start bytes in
    let w : prefix_len is_in_line (drop start bytes) ≤ length (drop start bytes) = prefix_within is_in_line (drop start bytes) in
    omega arith

-- one line more is placed
pub placed_push : (t : ℕ) (bytes : List ℕ) (n start : ℕ) (xs ys : List RowAt) (x : RowAt) (mid : ℕ) → ys ≡ xs ++ x ∷ [] → ArePlaced t bytes n start xs mid → IsPlaced t bytes (n + length xs) mid x → ArePlaced t bytes n start ys x.span.next
placed_push t bytes n start xs ys x mid e w p = subst (λ (l : List RowAt). ArePlaced t bytes n start l x.span.next) (sym e) (by n start xs w p)
  where
    by : (n start : ℕ) (xs : List RowAt) → ArePlaced t bytes n start xs mid → IsPlaced t bytes (n + length xs) mid x → ArePlaced t bytes n start (xs ++ x ∷ []) x.span.next
    by n start [] w p = let same : n + 0 ≡ n = omega arith in (subst (λ (k : ℕ). IsPlaced t bytes n k x) (sym w) (subst (λ (k : ℕ). IsPlaced t bytes k mid x) same p), refl)
    by n start (y ∷ ys) w p = let same : n + suc (length ys) ≡ suc n + length ys = omega arith in (w.0, by (suc n) y.span.next ys w.1 (subst (λ (k : ℕ). IsPlaced t bytes k mid x) same p))
