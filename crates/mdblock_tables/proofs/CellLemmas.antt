-- Lemmas on the cells of a line: what is trimmed, and cells one after another.
use Rattle.std.proofs.Common.{◌≡◌, ℕ, suc, ◌+◌, ◌-◌, ◌<◌, ◌≤◌, Bool, true, false, cond, List, [], ◌∷◌, ◌++◌, length, take, drop, get_or, reverse, refl, sym, ap, subst, ◌∙◌, arith, length-append, length-drop}
use Rattle.std.specs.Prelude.{◌==◌, nat_lt}
use Rattle.std.specs.List.{prefix_len}
use Rattle.std.proofs.lemmas.Bool.{ltb-true, ltb-false}
use Rattle.std.proofs.lemmas.List.{drop-drop, drop_all, reverse-append, reverse-reverse, take-append-drop, take_all, take_more}
use Rattle.std.proofs.Math.Seq.{take-append_seam}
use Rattle.mdconstructs_tables.specs.Breaks.{is_white}
use Rattle.mdblock_leaf_blocks.specs.LineKinds.{trimmed}
use Rattle.mdblock_leaf_blocks.proofs.Looks.HeadingTexts.{goes, stops}
use Rattle.mdblock_tables.specs.Tables.{Cells, no_cell, last_cell, next_cell, cell_size, content, contents, cut, divides, onto}

-- ---- bytes without those at their end that pass a test
module _ (test : ℕ → Bool) where
  -- one byte more
  trim_more : (u : List ℕ) (x : ℕ) → test x ≡ true → trimmed test (u ++ x ∷ []) ≡ trimmed test u
  trim_more u x e = ap (λ l. reverse (drop (prefix_len test l) l)) (reverse-append u (x ∷ [])) ∙ ap reverse (goes test x (reverse u) e)

  trim_stops : (u : List ℕ) (x : ℕ) → test x ≡ false → trimmed test (u ++ x ∷ []) ≡ u ++ x ∷ []
  trim_stops u x e =
      let r = reverse-append u (x ∷ []) in
      ap (λ l. reverse (drop (prefix_len test l) l)) r ∙ ap reverse (stops test x (reverse u) e) ∙ sym (ap reverse r) ∙ reverse-reverse (u ++ x ∷ [])

  -- they are a front of it
  pub trim_front : (t : List ℕ) → t ≡ trimmed test t ++ reverse (take (prefix_len test (reverse t)) (reverse t))
  trim_front t =
      let r = reverse t in
      let n = prefix_len test r in
      sym (sym (reverse-append (take n r) (drop n r)) ∙ ap reverse (take-append-drop n r) ∙ reverse-reverse t)

  pub trimmed_is_front : (t : List ℕ) → take (length (trimmed test t)) t ≡ trimmed test t
  trimmed_is_front t =
      let a = trimmed test t in
      let b = reverse (take (prefix_len test (reverse t)) (reverse t)) in
      ap (take (length a)) (trim_front t) ∙ take-append_seam a b

  pub trimmed_shorter : (t : List ℕ) → length (trimmed test t) ≤ length t
  trimmed_shorter t =
      let a = trimmed test t in
      let b = reverse (take (prefix_len test (reverse t)) (reverse t)) in
      omega (arith, ap length (trim_front t), length-append a b)

-- a loop from the end on
last_byte : (t : List ℕ) (n : ℕ) → 0 < n → n ≤ length t → take n t ≡ take (n - 1) t ++ get_or t (n - 1) 0 ∷ []
last_byte t n some h = let e : n - 1 + 1 ≡ n = omega (arith, some) in ap (λ k. take k t) (sym e) ∙ take_more t (n - 1) 0 (omega (arith, some, h))

pub white_goes : (t : List ℕ) (n : ℕ) → 0 < n → n ≤ length t → is_white (get_or t (n - 1) 0) ≡ true → trimmed is_white (take n t) ≡ trimmed is_white (take (n - 1) t)
white_goes t n some h e = ap (trimmed is_white) (last_byte t n some h) ∙ trim_more is_white (take (n - 1) t) (get_or t (n - 1) 0) e

pub white_stops : (t : List ℕ) (n : ℕ) → 0 < n → n ≤ length t → is_white (get_or t (n - 1) 0) ≡ false → trimmed is_white (take n t) ≡ take n t
white_stops t n some h e =
    let is = last_byte t n some h in
    ap (trimmed is_white) is ∙ trim_stops is_white (take (n - 1) t) (get_or t (n - 1) 0) e ∙ sym is

-- ---- the first of some cells
pub cut_next : (e : Bool) (t : List ℕ) → cell_size e t < length t → cut e t ≡ next_cell (take (cell_size e t) t) (cut false (drop (suc (cell_size e t)) t))
cut_next e [] h = absurd (omega (arith, h))
cut_next e (b ∷ bs) h = by (divides e b) (cut_next (b == 92) bs) h
  where
    n : ℕ
    n = cell_size (b == 92) bs

    by : (d : Bool) → (n < length bs → cut (b == 92) bs ≡ next_cell (take n bs) (cut false (drop (suc n) bs))) → cond d 0 (1 + n) < suc (length bs)
        → cond d (next_cell [] (cut false bs)) (onto b (cut (b == 92) bs)) ≡ next_cell (take (cond d 0 (1 + n)) (b ∷ bs)) (cut false (drop (suc (cond d 0 (1 + n))) (b ∷ bs)))
    by true rest l = refl
    by false rest l =
        let one : 1 + n ≡ suc n = omega arith in
        ap (onto b) (rest (omega (arith, l))) ∙ ap (λ k. next_cell (take k (b ∷ bs)) (cut false (drop (suc k) (b ∷ bs)))) (sym one)

-- one cell, or none
abbrev pub one_cell : List ℕ → Cells
one_cell [] = no_cell
one_cell (b ∷ bs) = last_cell (b ∷ bs)

pub cut_last : (e : Bool) (t : List ℕ) → cell_size e t ≡ length t → cut e t ≡ one_cell t
cut_last e [] h = refl
cut_last e (b ∷ bs) h = by (divides e b) (cut_last (b == 92) bs) h
  where
    n : ℕ
    n = cell_size (b == 92) bs

    onto-one : (t : List ℕ) → onto b (one_cell t) ≡ last_cell (b ∷ t)
    onto-one [] = refl
    onto-one (c ∷ cs) = refl

    by : (d : Bool) → (n ≡ length bs → cut (b == 92) bs ≡ one_cell bs) → cond d 0 (1 + n) ≡ suc (length bs) → cond d (next_cell [] (cut false bs)) (onto b (cut (b == 92) bs)) ≡ last_cell (b ∷ bs)
    by true rest l = absurd (omega (arith, l))
    by false rest l = ap (onto b) (rest (omega (arith, l))) ∙ onto-one bs

-- Cells in a loop: one is gone over at each turn
pub record IsNext (t : List ℕ) (next size : ℕ) : Type 0 where
  pub inside : next < length t
  pub size_is : size ≡ cell_size false (drop next t)
  pub within : size ≤ length (drop next t)

-- by the bytes that are left
pub is_next : (t : List ℕ) (next size : ℕ) (rest : List ℕ) → next < length t → rest ≡ drop next t → size ≡ cell_size false rest → size ≤ length rest → IsNext t next size
is_next t next size rest inside is size_is within = record { inside = inside; size_is = size_is ∙ ap (cell_size false) is; within = subst (λ l. size ≤ length l) is within }

module _ (t : List ℕ) (next size : ℕ) (at : IsNext t next size) where
  abbrev xs : List ℕ
  xs = drop next t

  pub long : length xs ≡ length t - next
  long = length-drop next t

  pub behind_is : drop (suc size) xs ≡ drop (next + (size + 1)) t
  behind_is = let e : next + suc size ≡ next + (size + 1) = omega arith in drop-drop (suc size) next t ∙ ap (λ k. drop k t) e

  pub is_next_cell : size < length xs → cut false xs ≡ next_cell (take size xs) (cut false (drop (next + (size + 1)) t))
  is_next_cell less =
      cut_next false xs (omega (arith, less, at.size_is))
      ∙ ap (λ k. next_cell (take k xs) (cut false (drop (suc k) xs))) (sym at.size_is) ∙ ap (λ l. next_cell (take size xs) (cut false l)) behind_is

  some : (l : List ℕ) → 0 < length l → one_cell l ≡ last_cell l
  some [] h = absurd (omega (arith, h))
  some (b ∷ bs) h = refl

  pub is_last_cell : length xs ≤ size → cut false xs ≡ last_cell (take size xs)
  is_last_cell all =
      cut_last false xs (omega (arith, all, at.within, at.size_is)) ∙ some xs (omega (arith, long, at.inside)) ∙ ap last_cell (sym (take_all size xs all))

  pub nothing_behind : length xs ≤ size → drop (next + (size + 1)) t ≡ []
  nothing_behind all = drop_all (next + (size + 1)) t (omega (arith, all, long, at.inside))

  -- the contents of cells
  pub contents_step : contents (cut false xs) ≡ content (take size xs) ∷ contents (cut false (drop (next + (size + 1)) t))
  contents_step = by (nat_lt size (length xs)) refl
    where
      by : (b : Bool) → nat_lt size (length xs) ≡ b → contents (cut false xs) ≡ content (take size xs) ∷ contents (cut false (drop (next + (size + 1)) t))
      by true e = ap contents (is_next_cell (ltb-true size (length xs) e))
      by false e =
          let all = ltb-false size (length xs) e in
          ap contents (is_last_cell all) ∙ ap (λ l. content (take size xs) ∷ contents (cut false l)) (sym (nothing_behind all))

pub contents_end : (t : List ℕ) (next : ℕ) → length t ≤ next → contents (cut false (drop next t)) ≡ []
contents_end t next h = ap (λ l. contents (cut false l)) (drop_all next t h)
