-- Rows cut at tables, behind other rows: the pieces of both, but for the last piece of the first and the first of the second, if the first end in no table.
use Rattle.std.proofs.Common.{◌≡◌, ◌∙◌, ◌⊎◌, ◌<◌, ◌≤◌, ℕ, zero, suc, ◌+◌, Bool, true, false, cond, List, [], ◌∷◌, ◌++◌, ap, append_assoc, arith, drop, inl, inr, length, length-append, length-drop, refl, subst, sym, take}
use Rattle.std.proofs.Math.Seq.{drop-append-add, drop-length, take-append-add, take-length}
use Rattle.std.proofs.lemmas.List.{drop-append-le, take-append-drop, take-append-le}
use Rattle.std.specs.List.{prefix_len}
use Rattle.mdblock_containers.specs.Rows.{Row}
use Rattle.mdblock_definitions.specs.Sections.{is_in_table}
use Rattle.mdblock_table_marks.proofs.TableCuts.{pair-some}
use Rattle.mdblock_table_marks.specs.TableCuts.{Cut, before_table, begins_in_table, cut_at_tables, table_lines, tabled, untabled}

abbrev pub cuts : ℕ → List Row → List Cut
cuts bound rows = cut_at_tables is_in_table bound rows

-- what is behind the first table of rows
abbrev pub behind_table : List Row → List Row
behind_table rows = let z = drop (before_table is_in_table rows) rows in drop (table_lines is_in_table z) z

pub fewer-behind : (q : Row) (x : List Row) (b : ℕ) → length (q ∷ x) ≤ suc b → length (behind_table (q ∷ x)) ≤ b
fewer-behind q x b few =
    let all = q ∷ x in
    let n = before_table is_in_table all in
    let z = drop n all in
    let m = table_lines is_in_table z in
    let some = pair-some is_in_table q x in
    omega (arith, few, some, length-drop m z, length-drop n all)

-- the pieces, where so many rows are before the first table
abbrev pub pieces : (bound n : ℕ) → List Row → List Cut
pieces bound n all = let z = drop n all in untabled (take n all) ∷ tabled (take (table_lines is_in_table z) z) ∷ cuts bound (drop (table_lines is_in_table z) z)

-- more bound changes nothing
pub cuts-fuel : (b c : ℕ) (rows : List Row) → length rows ≤ b → length rows ≤ c → cuts b rows ≡ cuts c rows
cuts-fuel zero zero rows l m = refl
cuts-fuel zero (suc c) [] l m = refl
cuts-fuel zero (suc c) (q ∷ x) l m = absurd (omega (arith, l))
cuts-fuel (suc b) zero [] l m = refl
cuts-fuel (suc b) zero (q ∷ x) l m = absurd (omega (arith, m))
cuts-fuel (suc b) (suc c) [] l m = refl
cuts-fuel (suc b) (suc c) (q ∷ x) l m =
    let all = q ∷ x in
    let n = before_table is_in_table all in
    let z = drop n all in
    ap (λ l. untabled (take n all) ∷ tabled (take (table_lines is_in_table z) z) ∷ l) (cuts-fuel b c (behind_table all) (fewer-behind q x b l) (fewer-behind q x c m))

pub cuts-none : (b : ℕ) → cuts b [] ≡ []
cuts-none zero = refl
cuts-none (suc b) = refl

-- ---- rows behind others, of which the first is in no table
module _ (r : Row) (rs : List Row) (none : is_in_table r ≡ false) where
  abbrev y : List Row
  y = r ∷ rs

  prefix-apart : (x : List Row) → prefix_len is_in_table (x ++ y) ≡ prefix_len is_in_table x
  prefix-apart [] = ap (λ b. cond b (1 + prefix_len is_in_table rs) 0) none
  prefix-apart (q ∷ x) = ap (λ n. cond (is_in_table q) (1 + n) 0) (prefix-apart x)

  begins-apart : (x : List Row) → begins_in_table is_in_table (x ++ y) ≡ begins_in_table is_in_table x
  begins-apart [] = none
  begins-apart (q ∷ x) = refl

  lines-apart : (z : List Row) → 1 ≤ length z → table_lines is_in_table (z ++ y) ≡ table_lines is_in_table z
  lines-apart [] h = absurd (omega (arith, h))
  lines-apart (q ∷ z) h = ap suc (prefix-apart z)

  -- where the first table begins
  abbrev Apart : List Row → Type 0
  Apart x = ((before_table is_in_table x < length x) × (before_table is_in_table (x ++ y) ≡ before_table is_in_table x))
      ⊎ ((before_table is_in_table x ≡ length x) × (before_table is_in_table (x ++ y) ≡ length x + before_table is_in_table y))

  before-apart : (x : List Row) → Apart x
  before-apart [] = let sum : before_table is_in_table y ≡ 0 + before_table is_in_table y = omega arith in inr (refl, sum)
  before-apart (q ∷ x) =
      subst (λ b. ((before_table is_in_table (q ∷ x) < suc (length x)) × (cond b 0 (suc (before_table is_in_table (x ++ y))) ≡ before_table is_in_table (q ∷ x)))
      ⊎ ((before_table is_in_table (q ∷ x) ≡ suc (length x)) × (cond b 0 (suc (before_table is_in_table (x ++ y))) ≡ suc (length x) + before_table is_in_table y))) (sym (begins-apart x)) (by (begins_in_table is_in_table x) (before-apart x))
    where
      by : (b : Bool) → Apart x
          → ((cond b 0 (suc (before_table is_in_table x)) < suc (length x)) × (cond b 0 (suc (before_table is_in_table (x ++ y))) ≡ cond b 0 (suc (before_table is_in_table x))))
          ⊎ ((cond b 0 (suc (before_table is_in_table x)) ≡ suc (length x)) × (cond b 0 (suc (before_table is_in_table (x ++ y))) ≡ suc (length x) + before_table is_in_table y))
      by true k = inl (omega arith, refl)
      by false (inl k) = let few = k.0 in inl (omega (arith, few), ap suc k.1)
      by false (inr k) = let whole = k.0 in let both = k.1 in inr (omega (arith, whole), omega (arith, both))

  prefix-few : (z : List Row) → prefix_len is_in_table z ≤ length z
  prefix-few [] = omega arith
  prefix-few (q ∷ z) = by (is_in_table q) (prefix-few z)
    where
      by : (b : Bool) → prefix_len is_in_table z ≤ length z → cond b (1 + prefix_len is_in_table z) 0 ≤ suc (length z)
      by true h = omega (arith, h)
      by false h = omega arith

  lines-few : (z : List Row) → table_lines is_in_table z ≤ length z
  lines-few [] = omega arith
  lines-few (q ∷ z) = let few = prefix-few z in omega (arith, few)

  -- ---- pieces
  module _ (Known : List Row → Type 0) where
    -- the last piece of the first rows and the first of the second are one
    pub record CutSeam (x : List Row) (whole first second : List Cut) : Type 0 where
      pub front : List Cut
      pub above : List Row
      pub q : Row
      pub last : List Row
      pub many : ℕ
      pub back : List Cut
      pub known : Known (q ∷ last)
      pub alone : before_table is_in_table (q ∷ last) ≡ length (q ∷ last)
      pub rows_are : x ≡ above ++ (q ∷ last)
      pub whole_is : whole ≡ front ++ (untabled ((q ∷ last) ++ take many y) ∷ back)
      pub first_is : first ≡ front ++ (untabled (q ∷ last) ∷ tabled [] ∷ [])
      pub second_is : second ≡ untabled (take many y) ∷ back

    pub data CutsJoin (x : List Row) (whole first second : List Cut) : Type 0 where
      cuts_apart : whole ≡ first ++ second → CutsJoin x whole first second
      cut_seam : CutSeam x whole first second → CutsJoin x whole first second

    join-more : (c d : Cut) (xs x : List Row) (w f s : List Cut) → CutsJoin x w f s → CutsJoin (xs ++ x) (c ∷ d ∷ w) (c ∷ d ∷ f) s
    join-more c d xs x w f s (cuts_apart e) = cuts_apart (ap (λ l. c ∷ d ∷ l) e)
    join-more c d xs x w f s (cut_seam h) =
        cut_seam (record {
          front = c ∷ d ∷ h.front;
          above = xs ++ h.above;
          q = h.q;
          last = h.last;
          many = h.many;
          back = h.back;
          known = h.known;
          alone = h.alone;
          rows_are = ap (λ l. xs ++ l) h.rows_are ∙ sym (append_assoc xs h.above (h.q ∷ h.last));
          whole_is = ap (λ l. c ∷ d ∷ l) h.whole_is;
          first_is = ap (λ l. c ∷ d ∷ l) h.first_is;
          second_is = h.second_is;
        })

    join-as : (x x2 : List Row) (w w2 f f2 s s2 : List Cut) → x ≡ x2 → w ≡ w2 → f ≡ f2 → s ≡ s2 → CutsJoin x w f s → CutsJoin x2 w2 f2 s2
    join-as x x2 w w2 f f2 s s2 ex ew ef es h = rw⁻¹ (ex, ew, ef, es) h

    -- no table is in the first rows
    at-seam : (c b b2 : ℕ) (q : Row) (x : List Row) → Known (q ∷ x) → length (q ∷ (x ++ y)) ≤ suc c → length y ≤ suc b2 → before_table is_in_table (q ∷ x) ≡ length (q ∷ x)
        → before_table is_in_table (q ∷ (x ++ y)) ≡ length (q ∷ x) + before_table is_in_table y → CutsJoin (q ∷ x) (cuts (suc c) (q ∷ (x ++ y))) (cuts (suc b) (q ∷ x)) (cuts (suc b2) y)
    at-seam c b b2 q x known l m2 whole both =
        let all = q ∷ x in
        let n = before_table is_in_table y in
        let z = drop n y in
        let m = table_lines is_in_table z in
        let size = length-append x y in
        let left = fewer-behind r rs b2 m2 in
        let left2 = fewer-behind r rs (length rs) (omega arith) in
        cut_seam (record {
          front = [];
          above = [];
          q = q;
          last = x;
          many = n;
          back = tabled (take m z) ∷ cuts b2 (drop m z);
          known = known;
          alone = whole;
          rows_are = refl;
          whole_is =
              ap (λ k. pieces c k (all ++ y)) both
              ∙ (λ i. let z = drop-append-add all y n i in let m = table_lines is_in_table z in untabled (take-append-add all y n i) ∷ tabled (take m z) ∷ cuts c (drop m z))
              ∙ ap (λ l. untabled (all ++ take n y) ∷ tabled (take m z) ∷ l) (cuts-fuel c b2 (drop m z) (omega (arith, l, size, left2)) left);
          first_is =
              ap (λ k. pieces b k all) whole
              ∙ (λ i. let z = drop-length all i in let m = table_lines is_in_table z in untabled (take-length all i) ∷ tabled (take m z) ∷ cuts b (drop m z))
              ∙ ap (λ l. untabled all ∷ tabled [] ∷ l) (cuts-none b);
          second_is = refl;
        })

    module _ (step : (q : Row) (x : List Row) → Known (q ∷ x) → before_table is_in_table (q ∷ x) < length (q ∷ x) → Known (behind_table (q ∷ x))) where
      pub cuts-join : (c b b2 : ℕ) (x : List Row) → length (x ++ y) ≤ c → length x ≤ b → length y ≤ b2 → Known x → CutsJoin x (cuts c (x ++ y)) (cuts b x) (cuts b2 y)
      cuts-join c b b2 [] l m m2 known = cuts_apart (cuts-fuel c b2 y l m2 ∙ ap (λ ps. ps ++ cuts b2 y) (sym (cuts-none b)))
      cuts-join zero b b2 (q ∷ x) l m m2 known = absurd (omega (arith, l))
      cuts-join (suc c) zero b2 (q ∷ x) l m m2 known = absurd (omega (arith, m))
      cuts-join (suc c) (suc b) zero (q ∷ x) l m m2 known = absurd (omega (arith, m2))
      cuts-join (suc c) (suc b) (suc b2) (q ∷ x) l m m2 known =
          let left = behind_table (q ∷ x) in
          let size = length-append x y in
          let size2 = length-append left y in
          let few = fewer-behind q x b m in
          let few2 = fewer-behind q x (length x) (omega arith) in
          by (before-apart (q ∷ x)) (λ less. cuts-join c b (suc b2) left (omega (arith, l, size, size2, few2)) few m2 (step q x known less))
        where
          Goal : Type 0
          Goal = CutsJoin (q ∷ x) (cuts (suc c) (q ∷ (x ++ y))) (cuts (suc b) (q ∷ x)) (cuts (suc b2) y)

          by : Apart (q ∷ x) → (before_table is_in_table (q ∷ x) < suc (length x) → let left = behind_table (q ∷ x) in CutsJoin left (cuts c (left ++ y)) (cuts b left) (cuts (suc b2) y)) → Goal
          by (inr h) more = at-seam c b b2 q x known l m2 h.0 h.1
          by (inl h) more =
              let all = q ∷ x in
              let n = before_table is_in_table all in
              let z = drop n all in
              let m = table_lines is_in_table z in
              let left = drop m z in
              let less : n < suc (length x) = h.0 in
              let within : n ≤ length all = omega (arith, less) in
              let long = length-drop n all in
              let some : 1 ≤ length z = omega (arith, less, long) in
              let whole : cuts (suc c) (all ++ y) ≡ untabled (take n all) ∷ tabled (take m z) ∷ cuts c (left ++ y) =
              ap (λ k. pieces c k (all ++ y)) h.1
              ∙ (λ i. let z = drop-append-le n all y within i in let m = table_lines is_in_table z in untabled (take-append-le n all y within i) ∷ tabled (take m z) ∷ cuts c (drop m z))
              ∙ (λ i. let m = lines-apart z some i in untabled (take n all) ∷ tabled (take m (z ++ y)) ∷ cuts c (drop m (z ++ y)))
              ∙ (λ i. untabled (take n all) ∷ tabled (take-append-le m z y (lines-few z) i) ∷ cuts c (drop-append-le m z y (lines-few z) i)) in
              let rows : (take n all ++ take m z) ++ left ≡ all = append_assoc (take n all) (take m z) left ∙ ap (λ l. take n all ++ l) (take-append-drop m z) ∙ take-append-drop n all in
              join-as ((take n all ++ take m z) ++ left) all (untabled (take n all) ∷ tabled (take m z) ∷ cuts c (left ++ y)) (cuts (suc c) (all ++ y)) (untabled (take n all) ∷ tabled (take m z) ∷ cuts b left) (cuts (suc b) all) (cuts (suc b2) y) (cuts (suc b2) y)
              rows (sym whole) refl refl
              (join-more (untabled (take n all)) (tabled (take m z)) (take n all ++ take m z) left (cuts c (left ++ y)) (cuts b left) (cuts (suc b2) y) (more less))
