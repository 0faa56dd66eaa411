-- Whether a line has a bracket in front, behind its prefixes: its bytes say it, where no tab is in these.
use Rattle.std.proofs.Common.{◌≡◌, ◌∙◌, ℕ, zero, suc, ◌+◌, ◌<◌, ◌≤◌, List, [], ◌∷◌, ◌++◌, Bool, true, false, cond, ap, arith, drop, length, refl, sym, take}
use Rattle.std.specs.List.{list_all, prefix_len}
use Rattle.std.specs.Prelude.{◌==◌, ◌&&◌, ◌||◌, not, replicate}
use Rattle.std.proofs.lemmas.Bool.{eqb-true, false≢true}
use Rattle.std.proofs.lemmas.List.{length-take-le}
use Rattle.std.proofs.lemmas.List.Sums.{prefix_len-le-length}
use Rattle.markdown_base.specs.declared.configuration.Constructs.{Constructs}
use Rattle.markdown_base.specs.Virtual.{tab_width}
use Rattle.mdblock_lines.specs.Lines.{expanded, is_in_line, line_bytes, seat_bytes}
use Rattle.mdblock_lines.proofs.PlaceLemmas.{expanded_is_virtual, expanded_least, seat_some}
use Rattle.mdblock_containers.specs.declared.spans.RowAt.{RowAt}
use Rattle.mdblock_containers.specs.Letters.{is_plain}
use Rattle.mdblock_containers.specs.Rows.{Row, rest_of}
use Rattle.mdinline_labels.specs.Tails.{begins_with, is_white}
use Rattle.mdblock_definitions.specs.Costs.{bytes_in}
use Rattle.mdblock_definitions.specs.Held.{HasText}
use Rattle.mdblock_definitions.specs.Laws.{begins_with_bracket}
use Rattle.mdblock_definitions.specs.Sections.{defined_in, lines_defined, paragraph_of, text_in}
use Rattle.mdblock_definitions.specs.Seen.{AreThese, begins_defining}
use Rattle.mdblock_definitions.proofs.Without.{bare-paragraph, none-defined-in}
use Rattle.mdblock_definitions.proofs.SectionLemmas.{nothing-in}

one-before : (n : ℕ) → 1 + n ≡ suc n
one-before n = omega (arith)

-- white space in front says nothing
white-front : (b : ℕ) (bs : List ℕ) → is_white b ≡ true → begins_with_bracket (b ∷ bs) ≡ begins_with_bracket bs
white-front b bs white =
    ap (λ w. begins_with 91 (drop (cond w (1 + prefix_len is_white bs) 0) (b ∷ bs))) white ∙ ap (λ m. begins_with 91 (drop m (b ∷ bs))) (one-before (prefix_len is_white bs))

other-front : (b : ℕ) (bs : List ℕ) → is_white b ≡ false → begins_with_bracket (b ∷ bs) ≡ (b == 91)
other-front b bs other = ap (λ w. begins_with 91 (drop (cond w (1 + prefix_len is_white bs) 0) (b ∷ bs))) other

spaces-front : (n : ℕ) (bs : List ℕ) → begins_with_bracket (take n (replicate 15 32) ++ bs) ≡ begins_with_bracket bs
spaces-front n bs = spaces n 15 bs
  where
    spaces : (n k : ℕ) (bs : List ℕ) → begins_with_bracket (take n (replicate k 32) ++ bs) ≡ begins_with_bracket bs
    spaces zero k bs = refl
    spaces (suc n) zero bs = refl
    spaces (suc n) (suc k) bs = white-front 32 (take n (replicate k 32) ++ bs) refl ∙ spaces n k bs

module _ (t : ℕ) (some : 0 < t) (most : t ≤ 16) where
  -- a tab is white space
  expanded-front : (column : ℕ) (bs : List ℕ) → begins_with_bracket (expanded t column bs) ≡ begins_with_bracket bs
  expanded-front column [] = refl
  expanded-front column (b ∷ bs) = by (expanded-front (column + length (seat_bytes t column b)) bs) (b == 9) refl
    where
      Same : Type 0
      Same = begins_with_bracket (expanded t (column + length (seat_bytes t column b)) bs) ≡ begins_with_bracket bs

      seats : Same → (k : ℕ) → take k (9 ∷ replicate 15 32) ≡ seat_bytes t column b → 1 ≤ k → begins_with_bracket (seat_bytes t column b ++ expanded t (column + length (seat_bytes t column b)) bs) ≡ begins_with_bracket bs
      seats more zero e h = absurd (omega (arith, h))
      seats more (suc k) e h =
          let rest = expanded t (column + length (seat_bytes t column b)) bs in
          ap (λ l. begins_with_bracket (l ++ rest)) (sym e) ∙ white-front 9 (take k (replicate 15 32) ++ rest) refl ∙ spaces-front k rest ∙ more

      either : Same → (w : Bool) → is_white b ≡ w → seat_bytes t column b ≡ b ∷ [] → begins_with_bracket (seat_bytes t column b ++ expanded t (column + length (seat_bytes t column b)) bs) ≡ begins_with_bracket (b ∷ bs)
      either more true e one = let rest = expanded t (column + length (seat_bytes t column b)) bs in ap (λ l. begins_with_bracket (l ++ rest)) one ∙ white-front b rest e ∙ more ∙ sym (white-front b bs e)
      either more false e one = let rest = expanded t (column + length (seat_bytes t column b)) bs in ap (λ l. begins_with_bracket (l ++ rest)) one ∙ other-front b rest e ∙ sym (other-front b bs e)

      by : Same → (x : Bool) → (b == 9) ≡ x → begins_with_bracket (seat_bytes t column b ++ expanded t (column + length (seat_bytes t column b)) bs) ≡ begins_with_bracket (b ∷ bs)
      by more false e = either more (is_white b) refl (ap (λ v. cond v (take (tab_width t column) (9 ∷ replicate 15 32)) (b ∷ [])) e)
      by more true e =
          let seat : take (tab_width t column) (9 ∷ replicate 15 32) ≡ seat_bytes t column b = ap (λ v. cond v (take (tab_width t column) (9 ∷ replicate 15 32)) (b ∷ [])) (sym e) in
          let wide : 1 ≤ tab_width t column = width (tab_width t column) seat (seat_some t column b some most) in
          let white : is_white b ≡ true = either-white (b == 32) (b == 9) e in
          seats more (tab_width t column) seat wide ∙ sym (white-front b bs white)
        where
          width : (k : ℕ) → take k (9 ∷ replicate 15 32) ≡ seat_bytes t column b → 1 ≤ length (seat_bytes t column b) → 1 ≤ k
          width zero e h = absurd (omega (arith, h, ap (λ (l : List ℕ). length l) e))
          width (suc k) e h = omega (arith)

          either-white : (x y : Bool) → y ≡ true → (x || y) ≡ true
          either-white true y e = refl
          either-white false y e = e

  -- a line ending is no bracket
  line-front : (bs : List ℕ) → begins_with_bracket (take (prefix_len is_in_line bs) bs) ≡ begins_with_bracket bs
  line-front [] = refl
  line-front (b ∷ bs) = by (line-front bs) (b == 10) (b == 13) refl refl
    where
      Same : Type 0
      Same = begins_with_bracket (take (prefix_len is_in_line bs) bs) ≡ begins_with_bracket bs

      either : Same → (w : Bool) → is_white b ≡ w → begins_with_bracket (b ∷ take (prefix_len is_in_line bs) bs) ≡ begins_with_bracket (b ∷ bs)
      either more true e = white-front b (take (prefix_len is_in_line bs) bs) e ∙ more ∙ sym (white-front b bs e)
      either more false e = other-front b (take (prefix_len is_in_line bs) bs) e ∙ sym (other-front b bs e)

      by : Same → (x y : Bool) → (b == 10) ≡ x → (b == 13) ≡ y → begins_with_bracket (take (cond (not x && not y) (1 + prefix_len is_in_line bs) 0) (b ∷ bs)) ≡ begins_with_bracket (b ∷ bs)
      by more true y e f = ap (λ c. begins_with_bracket (c ∷ bs)) (sym (eqb-true b 10 e))
      by more false true e f = ap (λ c. begins_with_bracket (c ∷ bs)) (sym (eqb-true b 13 f))
      by more false false e f = ap (λ m. begins_with_bracket (take m (b ∷ bs))) (one-before (prefix_len is_in_line bs)) ∙ either more (is_white b) refl

  -- behind bytes that are no tabs, and no parts of a line ending
  front-bracket : (n column : ℕ) (bs : List ℕ) → list_all is_plain (take n bs) ≡ true → begins_with_bracket (drop n (expanded t column (take (prefix_len is_in_line bs) bs))) ≡ begins_with_bracket (drop n bs)
  front-bracket zero column bs plain = expanded-front column (take (prefix_len is_in_line bs) bs) ∙ line-front bs
  front-bracket (suc n) column [] plain = refl
  front-bracket (suc n) column (b ∷ bs) plain = by (b == 9) (b == 10) (b == 13) refl (front-bracket n (column + 1) bs) plain
    where
      by : (x y z : Bool) → (b == 9) ≡ x
          → (list_all is_plain (take n bs) ≡ true → begins_with_bracket (drop n (expanded t (column + 1) (take (prefix_len is_in_line bs) bs))) ≡ begins_with_bracket (drop n bs))
          → ((not x && (not y && not z)) && list_all is_plain (take n bs)) ≡ true
          → begins_with_bracket (drop (suc n) (expanded t column (take (cond (not y && not z) (1 + prefix_len is_in_line bs) 0) (b ∷ bs)))) ≡ begins_with_bracket (drop n bs)
      by true y z e more p = absurd (false≢true p)
      by false true z e more p = absurd (false≢true p)
      by false false true e more p = absurd (false≢true p)
      by false false false e more p =
          let rest = take (prefix_len is_in_line bs) bs in
          let seat : seat_bytes t column b ≡ b ∷ [] = ap (λ (v : Bool). cond v (take (tab_width t column) (9 ∷ replicate 15 32)) (b ∷ [])) e in
          ap (λ m. begins_with_bracket (drop (suc n) (expanded t column (take m (b ∷ bs))))) (one-before (prefix_len is_in_line bs))
          ∙ (λ k. begins_with_bracket (drop (suc n) (seat k ++ expanded t (column + length (seat k)) rest)))
          ∙ more p

  pub front-says : (number start n : ℕ) (rest : List ℕ) → list_all is_plain (take n rest) ≡ true → begins_with_bracket (drop n rest) ≡ begins_with_bracket (drop n (line_bytes t number 1 start rest))
  front-says number start n rest plain = sym (front-bracket n 1 rest plain) ∙ ap (λ l. begins_with_bracket (drop n l)) (expanded_is_virtual t some most number 1 start rest)

  white-in-line : (bs : List ℕ) → prefix_len is_white bs ≤ prefix_len is_in_line bs
  white-in-line [] = omega (arith)
  white-in-line (b ∷ bs) = by (b == 10) (b == 13) refl refl (white-in-line bs)
    where
      by : (x y : Bool) → (b == 10) ≡ x → (b == 13) ≡ y → prefix_len is_white bs ≤ prefix_len is_in_line bs → cond (is_white b) (1 + prefix_len is_white bs) 0 ≤ cond (not x && not y) (1 + prefix_len is_in_line bs) 0
      by true y e f h = let none : cond (is_white b) (1 + prefix_len is_white bs) 0 ≡ 0 = ap (λ c. cond (is_white c) (1 + prefix_len is_white bs) 0) (eqb-true b 10 e) in omega (arith, none)
      by false true e f h = let none : cond (is_white b) (1 + prefix_len is_white bs) 0 ≡ 0 = ap (λ c. cond (is_white c) (1 + prefix_len is_white bs) 0) (eqb-true b 13 f) in omega (arith, none)
      by false false e f h = either (is_white b)
        where
          either : (w : Bool) → cond w (1 + prefix_len is_white bs) 0 ≤ 1 + prefix_len is_in_line bs
          either true = omega (arith, h)
          either false = omega (arith)

  plain-white : (n : ℕ) (bs : List ℕ) → list_all is_plain (take n bs) ≡ true → n ≤ length bs → n + prefix_len is_white (drop n bs) ≤ prefix_len is_in_line bs
  plain-white zero bs plain h = omega (arith, white-in-line bs)
  plain-white (suc n) [] plain h = absurd (omega (arith, h))
  plain-white (suc n) (b ∷ bs) plain h = by (b == 9) (b == 10) (b == 13) (λ p. plain-white n bs p (omega (arith, h))) plain
    where
      by : (x y z : Bool) → (list_all is_plain (take n bs) ≡ true → n + prefix_len is_white (drop n bs) ≤ prefix_len is_in_line bs) → ((not x && (not y && not z)) && list_all is_plain (take n bs)) ≡ true
          → suc n + prefix_len is_white (drop n bs) ≤ cond (not y && not z) (1 + prefix_len is_in_line bs) 0
      by true y z more p = absurd (false≢true p)
      by false true z more p = absurd (false≢true p)
      by false false true more p = absurd (false≢true p)
      by false false false more p = omega (arith, more p)

  -- what is looked at is in the line
  pub front-costs : (number start n : ℕ) (rest : List ℕ) → list_all is_plain (take n rest) ≡ true → n ≤ length rest → n + prefix_len is_white (drop n rest) ≤ length (line_bytes t number 1 start rest)
  front-costs number start n rest plain h =
      let k = prefix_len is_in_line rest in
      let size = ap (λ (l : List ℕ). length l) (expanded_is_virtual t some most number 1 start rest) in
      omega (arith, plain-white n rest plain h, expanded_least t 1 (take k rest) some most, length-take-le k rest (prefix_len-le-length is_in_line rest), size)

-- ---- lines of a part

pub begins-same : (t : ℕ) (bytes : List ℕ) (x : RowAt) (r : Row) → HasText t bytes x r
    → begins_with_bracket (drop x.row.columns (line_bytes t x.span.number 1 x.span.start (drop x.span.start bytes))) ≡ begins_with_bracket (rest_of r)
begins-same t bytes x r h = λ k. begins_with_bracket (drop (h.columns k) (sym h.text k))

-- the first of some lines
pub first-begins : (t : ℕ) (bytes : List ℕ) (x : RowAt) (xs : List RowAt) (is : Bool) → is ≡ begins_with_bracket (drop x.row.columns (line_bytes t x.span.number 1 x.span.start (drop x.span.start bytes)))
    → (all : List Row) → AreThese t bytes (x ∷ xs) all → is ≡ begins_defining all
first-begins t bytes x xs is e [] these = absurd these.rows
first-begins t bytes x xs is e (r ∷ rs) these = e ∙ begins-same t bytes x r these.texts.0

pub none-begins : (t : ℕ) (bytes : List ℕ) (xs : List RowAt) → (length xs == 0) ≡ true → (all : List Row) → AreThese t bytes xs all → false ≡ begins_defining all
none-begins t bytes [] e [] these = refl
none-begins t bytes [] e (r ∷ rs) these = absurd these.rows
none-begins t bytes (x ∷ xs) e all these = absurd (omega (arith, eqb-true (length (x ∷ xs)) 0 e))

-- what is asked of the first of some lines
pub record HasPlace (t : ℕ) (bytes : List ℕ) (x : RowAt) : Type 0 where
  pub inside : x.span.start ≤ length bytes
  pub within : x.row.columns ≤ length (line_bytes t x.span.number 1 x.span.start (drop x.span.start bytes))

pub first-place : (t : ℕ) (bytes : List ℕ) (x : RowAt) (xs : List RowAt) (all : List Row) → AreThese t bytes (x ∷ xs) all → HasPlace t bytes x
first-place t bytes x xs [] these = absurd these.rows
first-place t bytes x xs (r ∷ rs) these =
    let h = these.texts.0 in
    record { inside = h.inside; within = omega (arith, h.within, h.columns, ap (λ (l : List ℕ). length l) h.text) }

-- nothing is defined behind a line that has no bracket in front
pub bare-defined : (on : Constructs) (all : List Row) → begins_defining all ≡ false → 0 ≡ defined_in on all
bare-defined on [] bare = nothing-in on
bare-defined on (r ∷ rs) bare = by on.definition (lines_defined (text_in (paragraph_of (r ∷ rs)))) (none-defined-in (text_in (paragraph_of (r ∷ rs))) (bare-paragraph r rs bare))
  where
    by : (b : Bool) (n : ℕ) → n ≡ 0 → 0 ≡ cond b n 0
    by true n e = sym e
    by false n e = refl

-- if it has, there is a first line
pub some-begins : (t : ℕ) (bytes : List ℕ) (xs : List RowAt) (all : List Row) → AreThese t bytes xs all → begins_defining all ≡ true → 1 ≤ bytes_in t bytes (take 1 xs)
some-begins t bytes [] [] these e = absurd (false≢true e)
some-begins t bytes [] (r ∷ rs) these e = absurd these.rows
some-begins t bytes (x ∷ xs) all these e = omega (arith)
