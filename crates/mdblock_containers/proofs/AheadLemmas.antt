-- Lemmas on what is known of a line from the lines behind it.
use Rattle.std.proofs.Common.{◌≡◌, ℕ, zero, suc, ◌+◌, ◌-◌, ◌<◌, Bool, true, false, cond, List, [], ◌∷◌, length, take, drop, get_or, refl, sym, ap, subst, ◌∙◌, arith}
use Rattle.std.specs.Prelude.{nat_le, nat_lt, Option, Some, None}
use Rattle.std.proofs.lemmas.List.{drop_more, take_rest}
use Rattle.mdblock_containers.specs.declared.ahead.Ahead.{Ahead}
use Rattle.mdblock_lines.specs.Containers.{Prefix, Container, quote, item, footnote, Item}
use Rattle.mdblock_containers.specs.declared.frames.Frame.{Frame}
use Rattle.mdblock_containers.specs.declared.spans.RowAt.{RowAt}
use Rattle.mdblock_containers.specs.Parts.{open_behind}
use Rattle.mdblock_containers.specs.Rows.{Row}
use Rattle.mdblock_containers.specs.Skeleton.{Frame as Span, further, going_on_at, list_begun, list_at, list_name}
use Rattle.mdblock_containers.specs.Spans.{AreRowsIn}
use Rattle.mdblock_containers.specs.Views.{IsRow}
use Rattle.mdblock_containers.specs.Ahead.{AreRows, ahead_of, frame_ahead, frame_before, frame_begun}
use Rattle.mdblock_containers.specs.Frames.{frames_in}

pub rows_length : (xs : List RowAt) (all : List Row) → AreRows xs all → length xs ≡ length all
rows_length [] [] h = refl
rows_length [] (r ∷ rs) h = absurd h
rows_length (x ∷ xs) [] h = absurd h
rows_length (x ∷ xs) (r ∷ rs) h = ap suc (rows_length xs rs h.1)

-- nothing is behind the last line
pub rows_end : (xs : List RowAt) (all : List Row) (n : ℕ) → AreRows xs all → n ≡ length xs → drop n all ≡ []
rows_end [] [] zero h e = refl
rows_end [] [] (suc n) h e = refl
rows_end [] (r ∷ rs) n h e = absurd h
rows_end (x ∷ xs) [] n h e = absurd h
rows_end (x ∷ xs) (r ∷ rs) zero h e = absurd (omega arith)
rows_end (x ∷ xs) (r ∷ rs) (suc n) h e = rows_end xs rs n h.1 (omega arith)

-- A line at an index, and the lines behind it
pub record IsRowAt (d : RowAt) (xs : List RowAt) (all : List Row) (i : ℕ) : Type 0 where
  pub row : Row
  pub is : IsRow (get_or xs i d).span.number (get_or xs i d).row row
  pub rest : drop i all ≡ row ∷ drop (suc i) all

pub row_at : (d : RowAt) (xs : List RowAt) (all : List Row) (i : ℕ) → AreRows xs all → i < length xs → IsRowAt d xs all i
row_at d [] all i h w = absurd (omega arith)
row_at d (x ∷ xs) [] i h w = absurd h
row_at d (x ∷ xs) (r ∷ rs) zero h w = record { row = r; is = h.0; rest = refl }
row_at d (x ∷ xs) (r ∷ rs) (suc i) h w = let more = row_at d xs rs i h.1 (omega arith) in record { row = more.row; is = more.is; rest = more.rest }

pub ahead_left : (r : Row) (more : List Row) (a : Ahead) (f : ℕ) → r.is_left_blank ≡ true → a ≡ ahead_of more → f ≡ cond (nat_le 1 a.further) (suc a.further) 0
    → record { further = f; many = a.many; list = a.list } ≡ ahead_of (r ∷ more)
ahead_left r more a f left ea ef =
    (λ k. record { further = ef k; many = a.many; list = a.list })
    ∙ (λ k. record { further = cond (nat_le 1 (ea k).further) (suc (ea k).further) 0; many = (ea k).many; list = (ea k).list })
    ∙ (λ k. record {
      further = cond (sym left k) (cond (nat_le 1 (further more)) (suc (further more)) 0) (cond r.stays (suc (further more)) 0);
      many = cond (sym left k) (going_on_at more) (length r.went_on);
      list = cond (sym left k) (frame_ahead more) (frame_begun r.begun);
    })

pub ahead_other : (r : Row) (more : List Row) (a : Ahead) (f m : ℕ) (list : Option Frame) → r.is_left_blank ≡ false → a ≡ ahead_of more → f ≡ cond r.stays (suc a.further) 0 → m ≡ length r.went_on → list ≡ frame_begun r.begun
    → record { further = f; many = m; list = list } ≡ ahead_of (r ∷ more)
ahead_other r more a f m list left ea ef em eh =
    (λ k. record { further = ef k; many = em k; list = eh k })
    ∙ (λ k. record { further = cond r.stays (suc (ea k).further) 0; many = length r.went_on; list = frame_begun r.begun })
    ∙ (λ k. record {
      further = cond (sym left k) (cond (nat_le 1 (further more)) (suc (further more)) 0) (cond r.stays (suc (further more)) 0);
      many = cond (sym left k) (going_on_at more) (length r.went_on);
      list = cond (sym left k) (frame_ahead more) (frame_begun r.begun);
    })

-- the list that goes on, as the definition says it
list_of_item : (i : Item) (b : Bool) → cond b (record { name = list_name i; line = i.list } ∷ []) [] ≡ frames_in (cond b (Some (record { name = list_name i; line = i.list })) None)
list_of_item i true = refl
list_of_item i false = refl

list_of_begun : (ps : List Prefix) → list_begun ps ≡ frames_in (frame_begun ps)
list_of_begun [] = refl
list_of_begun (p ∷ ps) = by p.container
  where
    by : (c : Container) → (elim c as (λ x. List Span) [ quote q ↦ [] | item i ↦ cond (nat_lt i.list i.line) (record { name = list_name i; line = i.list } ∷ []) [] | footnote f ↦ [] ]) ≡ frames_in (frame_before c)
    by (quote q) = refl
    by (item i) = list_of_item i (nat_lt i.list i.line)
    by (footnote f) = refl

pub list_ahead : (rows : List Row) → list_at rows ≡ frames_in (frame_ahead rows)
list_ahead [] = refl
list_ahead (row ∷ behind) = by row.is_left_blank (list_ahead behind)
  where
    by : (b : Bool) → list_at behind ≡ frames_in (frame_ahead behind) → cond b (list_at behind) (list_begun row.begun) ≡ frames_in (cond b (frame_ahead behind) (frame_begun row.begun))
    by true e = e
    by false e = list_of_begun row.begun

-- ---- lines at an index

abbrev pub no_ahead : Ahead
no_ahead = record { further = 0; many = 0; list = None }

-- a line at an index, and those behind it
pub line_at_index : (rows : List RowAt) (i : ℕ) (x d : RowAt) → i < length rows → x ≡ get_or rows i d → drop i rows ≡ x ∷ take (length rows - (i + 1)) (drop (i + 1) rows)
line_at_index rows i x d h e = drop_more rows i d h ∙ (λ k. sym e k ∷ sym (take_rest rows (i + 1)) k)

pub ahead_at : (aheads : List Ahead) (all : List Row) (size i : ℕ) → i < size → ((d : Ahead) (k : ℕ) → k < size → get_or aheads k d ≡ ahead_of (drop (size - k) all)) → get_or aheads (size - 1 - i) no_ahead ≡ ahead_of (drop (i + 1) all)
ahead_at aheads all size i h f =
    let at : size - (size - 1 - i) ≡ i + 1 = omega arith in
    f no_ahead (size - 1 - i) (omega arith) ∙ ap (λ k. ahead_of (drop k all)) at

-- the number of a line is that of its place
pub numbers : (t : ℕ) (bytes : List ℕ) (stack : List Container) (number start : ℕ) (xs : List RowAt) (rs : List Row) (k : ℕ) (d : RowAt) → k < length xs → AreRowsIn t bytes stack number start xs rs → (get_or xs k d).span.number ≡ number + k
numbers t bytes stack number start [] rs k d h are = absurd (omega (arith, h))
numbers t bytes stack number start (x ∷ xs) [] k d h are = absurd are
numbers t bytes stack number start (x ∷ xs) (r ∷ rs) zero d h are = omega (arith, are.0.placed.number_is)
numbers t bytes stack number start (x ∷ xs) (r ∷ rs) (suc k) d h are = let e = numbers t bytes (open_behind stack r) (suc number) x.span.next xs rs k d (omega (arith, h)) are.1 in omega (arith, e)

pub number_at : (t : ℕ) (bytes : List ℕ) (rows : List RowAt) (all : List Row) (i : ℕ) (x : RowAt) → i < length rows → x ≡ get_or rows i x → AreRowsIn t bytes [] 1 0 rows all → x.span.number ≡ i + 1
number_at t bytes rows all i x h e are = let n = numbers t bytes [] 1 0 rows all i x h are in ap (λ (y : RowAt). y.span.number) e ∙ omega (arith, n)

-- what lies ahead, by equal lists
pub same_aheads : (xs ys : List RowAt) (these those : List Ahead) (all : List Row) → xs ≡ ys → these ≡ those → ((d : Ahead) (k : ℕ) → k < length ys → get_or those k d ≡ ahead_of (drop (length ys - k) all))
    → (d : Ahead) (k : ℕ) → k < length xs → get_or these k d ≡ ahead_of (drop (length xs - k) all)
same_aheads xs ys these those all e f h =
    subst (λ (l : List RowAt). (d : Ahead) (k : ℕ) → k < length l → get_or these k d ≡ ahead_of (drop (length l - k) all)) (sym e)
    (subst (λ (l : List Ahead). (d : Ahead) (k : ℕ) → k < length ys → get_or l k d ≡ ahead_of (drop (length ys - k) all)) (sym f) h)
