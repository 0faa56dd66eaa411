-- Lemmas on a part that is written: what its first line and those behind it tell.
use Rattle.std.proofs.Common.{◌≡◌, ◌⊎◌, inl, inr, ℕ, zero, suc, ◌+◌, ◌*◌, ◌^◌, ◌<◌, ◌≤◌, Bool, true, false, cond, List, [], ◌∷◌, ◌++◌, length, take, drop, map, min, refl, sym, ap, ◌∙◌, subst, arith, length-append}
use Rattle.std.specs.Prelude.{filter, not}
use Rattle.std.proofs.lemmas.Bool.{cases_lt}
use Rattle.std.proofs.lemmas.List.{append-nil, drop-append-le, length-map, nil_from_length, take_all}
use Rattle.markdown_base.specs.Virtual.{Seat, point}
use Rattle.mdconstructs_machines.specs.LineEvents.{ending_of, is_line_ending, line_text}
use Rattle.mdblock_leaf_blocks.specs.LeafBlocks.{Line}
use Rattle.mdblock_lines.specs.declared.containers.Prefix.{Prefix as CodePrefix}
use Rattle.mdblock_lines.specs.Containers.{Container}
use Rattle.mdblock_lines.specs.Views.{prefix_of}
use Rattle.mdblock_lines.specs.Lines.{line_bytes}
use Rattle.mdblock_containers.specs.declared.ahead.Ahead.{Ahead}
use Rattle.mdblock_containers.specs.declared.spans.RowAt.{RowAt}
use Rattle.mdblock_containers.specs.Ahead.{ahead_of}
use Rattle.mdblock_containers.specs.Parts.{open_behind}
use Rattle.mdblock_containers.specs.PlaceEvents.{HasColumns}
use Rattle.mdblock_containers.specs.Prefixes.{columns_of, containers_of}
use Rattle.mdblock_containers.specs.Rest.{AreLeft}
use Rattle.mdblock_containers.specs.Rows.{Row}
use Rattle.mdblock_containers.specs.SeatPlaces.{AreInside}
use Rattle.mdblock_containers.specs.Skeleton.{further}
use Rattle.mdblock_containers.specs.Spans.{IsRowIn, AreRowsIn}
use Rattle.mdblock_containers.specs.Stretches.{IsOutside}
use Rattle.mdblock_containers.specs.Views.{IsRow, begun_of}
use Rattle.mdblock_containers.proofs.DocumentRows.{next_is, next_more}
use Rattle.mdblock_containers.proofs.EndLemmas.{HaveColumns}
use Rattle.mdblock_containers.proofs.PrefixLemmas.{inside_some}
use Rattle.mdblock_containers.proofs.RestLemmas.{AreSplit, split_rows, went_front, further_few}
use Rattle.mdblock_containers.proofs.RunLemmas.{behind_line, text_size}
use Rattle.mdblock_containers.proofs.StretchLemmas.{row_bytes, row_columns}

module _ (t : ℕ) (bytes : List ℕ) (some : 0 < t) (limit : t * length bytes + 1 < 2 ^ 64) (stack : List Container) (first : RowAt) (behind : List RowAt) (r : Row) (rs : List Row) (left : AreLeft bytes t stack (first ∷ behind) (r ∷ rs)) where
  abbrev pub row : IsRowIn t bytes stack left.number left.start first r
  row = left.are.0

  pub next_outside : IsOutside bytes first.span.next
  next_outside = behind_line t bytes some limit left.number left.start first row.placed r.line row.line left.outside

  pub next_few : suc left.number ≤ suc first.span.next
  next_few = let on = next_more bytes left.start first.span.next row.placed.inside (next_is bytes left.start first.span.end first.span.next row.placed.end_is row.placed.next_is) in omega (arith, on, left.few)

  pub rows_behind : AreRowsIn t bytes (open_behind stack r) (suc left.number) first.span.next behind rs
  rows_behind = left.are.1

  pub same_length : (s : List Container) (number start : ℕ) (xs : List RowAt) (qs : List Row) → AreRowsIn t bytes s number start xs qs → length xs ≡ length qs
  same_length s number start [] [] are = refl
  same_length s number start [] (q ∷ qs) are = absurd are
  same_length s number start (x ∷ xs) [] are = absurd are
  same_length s number start (x ∷ xs) (q ∷ qs) are = ap suc (same_length (open_behind s q) (suc number) x.span.next xs qs are.1)

  -- ---- the first line

  pub the_row : IsRow first.span.number first.row r
  the_row = subst (λ (n : ℕ). IsRow n first.row r) (sym row.placed.number_is) row.is

  pub the_went : containers_of r.went_on ≡ take first.row.many stack
  the_went = went_front t bytes some limit stack left.number left.start first r row

  pub the_many : first.row.many ≤ length stack
  the_many = row.many

  pub the_left : first.row.is_left_blank ≡ true → r.begun ≡ []
  the_left e = row.left (sym row.is.is_left_blank ∙ e)

  pub the_lazy : first.row.is_lazy ≡ true → r.begun ≡ []
  the_lazy e = row.lazy (sym row.is.is_lazy ∙ e)

  pub the_inside : first.span.start ≤ length bytes
  the_inside = omega (arith, row.placed.inside, row.placed.start_is)

  pub the_columns : HasColumns t bytes (point first.span.number 1 first.span.start 0) (length (line_bytes t first.span.number 1 first.span.start (drop first.span.start bytes)))
  the_columns = row_columns t bytes some limit stack left.number left.start first r row left.outside

  pub line_size : length (line_bytes t first.span.number 1 first.span.start (drop first.span.start bytes)) ≡ first.span.size
  line_size = ap (λ (l : List ℕ). length l) (row_bytes t bytes some limit stack left.number left.start first r row left.outside) ∙ length-map (line_text r.line) (λ (s : Seat). s.byte) ∙ text_size t bytes some limit left.number left.start first row.placed r.line row.line left.outside

  pub the_sum : first.row.columns ≡ first.row.going + columns_of (begun_of first.row.list first.span.number first.row.begun.items)
  the_sum = row.is.columns ∙ row.sum ∙ (λ k. sym row.is.going k + columns_of (sym the_row.begun k))

  pub the_going : first.row.going ≤ length (line_bytes t first.span.number 1 first.span.start (drop first.span.start bytes))
  the_going = omega (arith, line_size, the_sum, row.placed.columns)

  pub the_fits : AreInside first.row.begun.items (drop first.row.going (line_bytes t first.span.number 1 first.span.start (drop first.span.start bytes)))
  the_fits = subst (λ (l : List ℕ). AreInside first.row.begun.items (drop first.row.going l)) (sym (row_bytes t bytes some limit stack left.number left.start first r row left.outside)) row.fits

  -- ---- the further lines

  pub lines_few : (ahead : Ahead) → ahead ≡ ahead_of rs → cond first.row.is_blank 0 ahead.further ≤ length behind
  lines_few ahead e = by first.row.is_blank
    where
      by : (b : Bool) → cond b 0 ahead.further ≤ length behind
      by true = omega arith
      by false = omega (arith, ap (λ (a : Ahead). a.further) e, further_few rs, same_length (open_behind stack r) (suc left.number) first.span.next behind rs rows_behind)

  pub lines_is : (ahead : Ahead) → ahead ≡ ahead_of rs → cond first.row.is_blank 0 ahead.further ≡ cond r.is_blank 0 (further rs)
  lines_is ahead e = λ k. cond (row.is.is_blank k) 0 (e k).further

  pub split_at : (ahead : Ahead) → ahead ≡ ahead_of rs → AreSplit t bytes some limit (open_behind stack r) (suc left.number) first.span.next behind rs (cond first.row.is_blank 0 ahead.further)
  split_at ahead e = split_rows t bytes some limit (cond first.row.is_blank 0 ahead.further) (open_behind stack r) (suc left.number) first.span.next behind rs rows_behind next_outside next_few (by first.row.is_blank)
    where
      by : (b : Bool) → (cond b 0 ahead.further ≡ 0) ⊎ (cond b 0 ahead.further ≡ further rs)
      by true = inl refl
      by false = inr (ap (λ (a : Ahead). a.further) e)

-- ---- what a line without its line ending is from a column on

pub filter_short : {A : Type 0} (p : A → Bool) (xs : List A) → length (filter p xs) ≤ length xs
filter_short p [] = omega arith
filter_short p (x ∷ xs) = by (p x) (filter_short p xs)
  where
    by : (b : Bool) → length (filter p xs) ≤ length xs → length (cond b (x ∷ filter p xs) (filter p xs)) ≤ suc (length xs)
    by true h = omega arith
    by false h = omega arith

pub filter_again : {A : Type 0} (p : A → Bool) (xs : List A) → filter p (filter p xs) ≡ filter p xs
filter_again p [] = refl
filter_again p (x ∷ xs) = by (p x) refl (filter_again p xs)
  where
    by : (b : Bool) → p x ≡ b → filter p (filter p xs) ≡ filter p xs → filter p (cond b (x ∷ filter p xs) (filter p xs)) ≡ cond b (x ∷ filter p xs) (filter p xs)
    by true e h = ap (λ b. cond b (x ∷ filter p (filter p xs)) (filter p (filter p xs))) e ∙ ap (λ l. x ∷ l) h
    by false e h = h

pub tail_same : {A : Type 0} (x : A) (xs ys : List A) → x ∷ xs ≡ x ∷ ys → xs ≡ ys
tail_same x xs ys h = cc

pub filter_drop : {A : Type 0} (p : A → Bool) (k : ℕ) (xs : List A) → filter p xs ≡ xs → filter p (drop k xs) ≡ drop k xs
filter_drop p zero xs e = e
filter_drop p (suc k) [] e = refl
filter_drop p (suc k) (x ∷ xs) e = by (p x) e (λ h. filter_drop p k xs h)
  where
    by : (b : Bool) → cond b (x ∷ filter p xs) (filter p xs) ≡ x ∷ xs → (filter p xs ≡ xs → filter p (drop k xs) ≡ drop k xs) → filter p (drop k xs) ≡ drop k xs
    by true h f = f (tail_same x (filter p xs) xs h)
    by false h f = absurd (omega (arith, ap length h, filter_short p xs))

pub filter_both : {A : Type 0} (p : A → Bool) (xs ys : List A) → filter p (xs ++ ys) ≡ filter p xs ++ filter p ys
filter_both p [] ys = refl
filter_both p (x ∷ xs) ys = by (p x) (filter_both p xs ys)
  where
    by : (b : Bool) → filter p (xs ++ ys) ≡ filter p xs ++ filter p ys → cond b (x ∷ filter p (xs ++ ys)) (filter p (xs ++ ys)) ≡ cond b (x ∷ filter p xs) (filter p xs) ++ filter p ys
    by true h = ap (λ l. x ∷ l) h
    by false h = h

-- a line's text from a column on
pub text_from : (line : Line) (k : ℕ) → line ≡ line_text line ++ ending_of line → k ≤ length (line_text line) → line_text (drop k line) ≡ drop k (line_text line)
text_from line k parts_are w =
    let p = λ (s : Seat). not (is_line_ending s) in
    let again : line_text (line_text line) ≡ line_text line = filter_again p line in
    let all : line_text line ≡ line_text line ++ line_text (ending_of line) = ap line_text parts_are ∙ filter_both p (line_text line) (ending_of line) ∙ ap (λ (l : List Seat). l ++ line_text (ending_of line)) again in
    let none : line_text (ending_of line) ≡ [] = nil_from_length (line_text (ending_of line)) (omega (arith, ap (λ (l : List Seat). length l) all, length-append (line_text line) (line_text (ending_of line)))) in
    ap (λ (l : List Seat). line_text (drop k l)) parts_are ∙ ap line_text (drop-append-le k (line_text line) (ending_of line) w) ∙ filter_both p (drop k (line_text line)) (ending_of line)
    ∙ (λ i. filter_drop p k (line_text line) again i ++ none i) ∙ append-nil (drop k (line_text line))

pub have_columns : (number : ℕ) (xs : List CodePrefix) (u : List ℕ) → AreInside xs u → HaveColumns (map (prefix_of number) xs)
have_columns number [] u h = tt
have_columns number (x ∷ xs) u h = (inside_some x u h.0, have_columns number xs (drop x.size u) h.1)

pub begun_columns_are : (list number : ℕ) (xs : List CodePrefix) (u : List ℕ) → AreInside xs u → HaveColumns (begun_of list number xs)
begun_columns_are list number [] u h = tt
begun_columns_are list number (x ∷ xs) u h = (inside_some x u h.0, have_columns number xs (drop x.size u) h.1)

pub take_min : {A : Type 0} (m n : ℕ) (xs : List A) → length xs ≡ n → take (min m n) xs ≡ take m xs
take_min m n xs e = by (cases_lt m n)
  where
    by : (m < n) ⊎ (n ≤ m) → take (min m n) xs ≡ take m xs
    by (inl h) = let same : min m n ≡ m = omega arith in ap (λ k. take k xs) same
    by (inr h) = let same : min m n ≡ n = omega arith in ap (λ k. take k xs) same ∙ take_all n xs (omega (arith, e)) ∙ sym (take_all m xs (omega (arith, e)))
