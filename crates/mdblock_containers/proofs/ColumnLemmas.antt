-- Lemmas on the columns of lines: with one more for each they are no more than the virtual bytes of the document, and one.
use Rattle.std.proofs.Common.{◌≡◌, ℕ, zero, suc, ◌+◌, ◌-◌, ◌<◌, ◌≤◌, Bool, true, false, cond, List, [], ◌∷◌, ◌++◌, length, take, drop, get_or, refl, sym, ap, ◌∙◌, arith, length-append, length-drop}
use Rattle.std.specs.Prelude.{◌==◌, ◌&&◌, sum_by}
use Rattle.std.specs.List.{prefix_len}
use Rattle.std.proofs.lemmas.List.{drop-drop, length-map}
use Rattle.std.proofs.lemmas.List.Sums.{sum_by-cons}
use Rattle.markdown_base.specs.Virtual.{Seat, begins_with_lf, virtual, virtual_from}
use Rattle.mdconstructs_machines.specs.LineEvents.{is_line_ending, joined, lines_in}
use Rattle.mdblock_lines.specs.Lines.{ending_seats, ending_size, is_in_line, line_at, line_bytes, line_length, text_seats}
use Rattle.mdblock_lines.proofs.LinesCut.{lines_follow}
use Rattle.mdblock_containers.specs.declared.spans.RowAt.{RowAt}
use Rattle.mdblock_containers.specs.Costs.{columns_in}
use Rattle.mdblock_containers.specs.Spans.{ArePlaced}
use Rattle.mdblock_containers.proofs.DocumentRows.{next_is}

-- ---- lists of lines

pub columns_push : (xs ys : List RowAt) (x : RowAt) → ys ≡ xs ++ x ∷ [] → columns_in ys ≡ columns_in xs + suc x.span.size
columns_push xs ys x e = ap columns_in e ∙ by xs
  where
    by : (zs : List RowAt) → columns_in (zs ++ x ∷ []) ≡ columns_in zs + suc x.span.size
    by [] = omega arith
    by (z ∷ zs) = let more = by zs in omega (arith, more)

-- one line more of the first ones
pub columns_more : (xs : List RowAt) (i : ℕ) (d : RowAt) → i < length xs → columns_in (take (i + 1) xs) ≡ columns_in (take i xs) + suc (get_or xs i d).span.size
columns_more [] i d h = absurd (omega (arith, h))
columns_more (x ∷ xs) zero d h = omega arith
columns_more (x ∷ xs) (suc i) d h =
    let more = columns_more xs i d (omega (arith, h)) in
    let on : suc i + 1 ≡ suc (i + 1) = omega arith in
    let same = ap (λ k. columns_in (take k (x ∷ xs))) on in
    omega (arith, more, same)

pub columns_parts : (xs : List RowAt) (i : ℕ) → columns_in xs ≡ columns_in (take i xs) + columns_in (drop i xs)
columns_parts [] zero = omega arith
columns_parts [] (suc i) = omega arith
columns_parts (x ∷ xs) zero = omega arith
columns_parts (x ∷ xs) (suc i) = let more = columns_parts xs i in omega (arith, more)

pub columns_none : (k : ℕ) → columns_in (take k []) ≡ 0
columns_none zero = refl
columns_none (suc k) = refl

-- some lines, and some behind them
pub columns_add : (xs : List RowAt) (i j : ℕ) → columns_in (take (i + j) xs) ≡ columns_in (take i xs) + columns_in (take j (drop i xs))
columns_add xs zero j = let same : 0 + j ≡ j = omega arith in ap (λ k. columns_in (take k xs)) same ∙ omega arith
columns_add [] (suc i) j = let all = columns_none (suc i + j) in let some = columns_none j in omega (arith, all, some)
columns_add (x ∷ xs) (suc i) j =
    let more = columns_add xs i j in
    let on : suc i + j ≡ suc (i + j) = omega arith in
    let same = ap (λ k. columns_in (take k (x ∷ xs))) on in
    omega (arith, more, same)

-- the first of some lines
pub few_columns : (xs : List RowAt) (i : ℕ) → columns_in (take i xs) ≤ columns_in xs
few_columns xs i = let parts = columns_parts xs i in omega (arith, parts)

pub many_columns : (xs : List RowAt) → length xs ≤ columns_in xs
many_columns [] = omega arith
many_columns (x ∷ xs) = let more = many_columns xs in omega (arith, more)

-- ---- lines of the virtual text

abbrev pub total : List (List Seat) → ℕ
total ls = sum_by (λ (l : List Seat). length l) ls

pub joined_total : (s : Seat) (ls : List (List Seat)) → total (joined s ls) ≡ suc (total ls)
joined_total s [] = sum_by-cons (λ (l : List Seat). length l) (s ∷ []) [] ∙ omega arith
joined_total s (l ∷ ls) =
    let one : total ((s ∷ l) ∷ ls) ≡ length (s ∷ l) + total ls = sum_by-cons (λ (l : List Seat). length l) (s ∷ l) ls in
    let all : total (l ∷ ls) ≡ length l + total ls = sum_by-cons (λ (l : List Seat). length l) l ls in
    omega (arith, one, all)

pub lines_total : (ss : List Seat) → total (lines_in ss) ≡ length ss
lines_total [] = refl
lines_total (s ∷ ss) = by (is_line_ending s) (lines_total ss)
  where
    by : (b : Bool) → total (lines_in ss) ≡ length ss → total (cond b ((s ∷ []) ∷ lines_in ss) (joined s (lines_in ss))) ≡ suc (length ss)
    by true more =
        let one : total ((s ∷ []) ∷ lines_in ss) ≡ 1 + total (lines_in ss) = sum_by-cons (λ (l : List Seat). length l) (s ∷ []) (lines_in ss) in
        omega (arith, one, more)
    by false more = let one = joined_total s (lines_in ss) in omega (arith, one, more)

pub ending_length : (line column index size : ℕ) → 0 < size → length (ending_seats line column index size) ≡ 1
ending_length line column index zero h = absurd (omega (arith, h))
ending_length line column index (suc k) h = refl

pub no_ending : (bs : List ℕ) → ending_size bs ≡ 0 → length bs ≡ 0
no_ending [] e = refl
no_ending (b ∷ bs) e = absurd (let some : 1 ≤ ending_size (b ∷ bs) = by ((b == 13) && begins_with_lf bs) (ending_size (b ∷ bs)) refl in omega (arith, some, e))
  where
    by : (x : Bool) (n : ℕ) → n ≡ cond x 2 1 → 1 ≤ n
    by true n q = omega (arith, q)
    by false n q = omega (arith, q)

module _ (t : ℕ) (bytes : List ℕ) (some : 0 < t) where
  -- the virtual bytes from the beginning of a line on
  abbrev pub left : (number start : ℕ) → ℕ
  left number start = length (virtual_from t number 1 start (drop start bytes))

  pub line_left : (number start next : ℕ) → start < length bytes → next ≡ start + line_length (drop start bytes)
      → left number start ≡ length (line_bytes t number 1 start (drop start bytes)) + (length (ending_seats number (1 + length (text_seats t number start (drop start bytes))) (start + prefix_len is_in_line (drop start bytes)) (ending_size (drop (prefix_len is_in_line (drop start bytes)) (drop start bytes)))) + left (suc number) next)
  line_left number start next h e =
      let rest = drop start bytes in
      let n = line_length rest in
      let there : 0 < length rest = omega (arith, length-drop start bytes, h) in
      let behind = virtual_from t (suc number) 1 (start + n) (drop n rest) in
      let all = ap total (lines_follow t number start rest some there) ∙ sum_by-cons (λ (l : List Seat). length l) (line_at t number start rest) (lines_in behind) in
      let whole = lines_total (virtual_from t number 1 start rest) in
      let more = lines_total behind in
      let parts = length-append (text_seats t number start rest) (ending_seats number (1 + length (text_seats t number start rest)) (start + prefix_len is_in_line rest) (ending_size (drop (prefix_len is_in_line rest) rest))) in
      let text = length-map (text_seats t number start rest) (λ (s : Seat). s.byte) in
      let same : length behind ≡ left (suc number) next = ap (λ (l : List Seat). length l) ((λ k. virtual_from t (suc number) 1 (start + n) (drop-drop n start bytes k)) ∙ (λ k. virtual_from t (suc number) 1 (sym e k) (drop (sym e k) bytes))) in
      omega (arith, all, whole, more, parts, text, same)

  pub columns_left : (number start stop : ℕ) (xs : List RowAt) → ArePlaced t bytes number start xs stop → columns_in xs + left (number + length xs) stop ≤ left number start + (1 - (length bytes - stop))
  columns_left number start stop [] p =
      let same : left (number + 0) stop ≡ left number start = (λ k. left (plain k) (sym p k)) in
      omega (arith, same)
    where
      plain : number + 0 ≡ number
      plain = omega arith
  columns_left number start stop (x ∷ xs) p =
      let rest = drop start bytes in
      let n = prefix_len is_in_line rest in
      let next = next_is bytes start x.span.end x.span.next p.0.end_is p.0.next_is in
      let all = line_left number start x.span.next p.0.inside next in
      let more = columns_left (suc number) x.span.next stop xs p.1 in
      let on : left (number + suc (length xs)) stop ≡ left (suc number + length xs) stop = ap (λ k. left k stop) (omega arith) in
      by (ending_size (drop n rest)) refl all more on
    where
      by : (size : ℕ) → ending_size (drop (prefix_len is_in_line (drop start bytes)) (drop start bytes)) ≡ size
          → left number start ≡ length (line_bytes t number 1 start (drop start bytes)) + (length (ending_seats number (1 + length (text_seats t number start (drop start bytes))) (start + prefix_len is_in_line (drop start bytes)) (ending_size (drop (prefix_len is_in_line (drop start bytes)) (drop start bytes)))) + left (suc number) x.span.next)
          → columns_in xs + left (suc number + length xs) stop ≤ left (suc number) x.span.next + (1 - (length bytes - stop)) → left (number + suc (length xs)) stop ≡ left (suc number + length xs) stop
          → suc x.span.size + columns_in xs + left (number + suc (length xs)) stop ≤ left number start + (1 - (length bytes - stop))
      by zero e all more on =
          let none = no_ending (drop (prefix_len is_in_line (drop start bytes)) (drop start bytes)) e in
          let size = length-drop (prefix_len is_in_line (drop start bytes)) (drop start bytes) in
          let long = length-drop start bytes in
          let there = p.0.inside in
          let next = next_is bytes start x.span.end x.span.next p.0.end_is p.0.next_is in
          let ends : line_length (drop start bytes) ≡ prefix_len is_in_line (drop start bytes) + 0 = ap (λ k. prefix_len is_in_line (drop start bytes) + k) e in
          let end : length bytes ≤ x.span.next = omega (arith, none, size, long, next, ends, there) in
          let is_last = last xs p.1 end in
          let here = p.0.size_is in
          let gone : length (ending_seats number (1 + length (text_seats t number start (drop start bytes))) (start + prefix_len is_in_line (drop start bytes)) (ending_size (drop (prefix_len is_in_line (drop start bytes)) (drop start bytes)))) ≡ 0 = ap (λ k. length (ending_seats number (1 + length (text_seats t number start (drop start bytes))) (start + prefix_len is_in_line (drop start bytes)) k)) e in
          omega (arith, all, on, here, gone, is_last.0, is_last.1, is_last.2)
        where
          plain : suc number + 0 ≡ suc number
          plain = omega arith

          last : (ys : List RowAt) → ArePlaced t bytes (suc number) x.span.next ys stop → length bytes ≤ x.span.next → (left (suc number + length ys) stop ≡ left (suc number) x.span.next) × (columns_in ys ≡ 0) × (length bytes ≤ stop)
          last [] q h = ((λ k. left (plain k) (sym q k)), refl, omega (arith, q, h))
          last (y ∷ ys) q h = absurd (let inside = q.0.inside in omega (arith, inside, h))
      by (suc k) e all more on =
          let one = ending_length number (1 + length (text_seats t number start (drop start bytes))) (start + prefix_len is_in_line (drop start bytes)) (ending_size (drop (prefix_len is_in_line (drop start bytes)) (drop start bytes))) (omega (arith, e)) in
          let here = p.0.size_is in
          omega (arith, all, more, on, here, one)

  pub all_columns : (xs : List RowAt) → ArePlaced t bytes 1 0 xs (length bytes) → columns_in xs ≤ length (virtual t bytes) + 1
  all_columns xs p = let h = columns_left 1 0 (length bytes) xs p in omega (arith, h)

  -- lines, and the columns of the next one
  pub next_columns : (xs : List RowAt) (number start : ℕ) → ArePlaced t bytes 1 0 xs start → start < length bytes → number ≡ 1 + length xs → columns_in xs + suc (length (line_bytes t number 1 start (drop start bytes))) ≤ length (virtual t bytes) + 1
  next_columns xs number start p h e =
      let all = columns_left 1 0 start xs p in
      let here = line_left number start (start + line_length (drop start bytes)) h refl in
      let same : left (1 + length xs) start ≡ left number start = ap (λ k. left k start) (sym e) in
      omega (arith, all, here, same, h)
