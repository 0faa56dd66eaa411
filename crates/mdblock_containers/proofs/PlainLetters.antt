-- A letter for a lazy underline stands where a mark of the underline is: that is no tab, and no part of a line ending.
use Rattle.std.proofs.Common.{◌≡◌, ℕ, zero, suc, ◌+◌, ◌-◌, ◌≤◌, Bool, true, false, cond, List, [], ◌∷◌, ◌++◌, take, drop, map, get_or, refl, sym, ap, ◌∙◌, subst, arith, inl, inr, ◌⊎◌, ⊎_elim}
use Rattle.std.specs.Prelude.{◌==◌, ◌&&◌, ◌||◌, not, is_some, None, Some}
use Rattle.std.specs.List.{AllByRecursion, flat_map, list_any}
use Rattle.std.proofs.lemmas.Bool.{false≢true, eqb-true}
use Rattle.std.proofs.lemmas.List.{drop-drop, take-append-drop}
use Rattle.markdown_base.proofs.Common.{every-append, every-map}
use Rattle.markdown_base.specs.declared.configuration.Constructs.{Constructs}
use Rattle.markdown_base.specs.Virtual.{Seat, begins_with_lf, in_tab, line_feed, other_byte, tab_width, virtual, virtual_from}
use Rattle.mdconstructs_machines.specs.LineEvents.{is_line_ending, joined, line_text, lines_in}
use Rattle.mdblock_leaf_blocks.proofs.Lines.WholeLines.{IsWhole, whole-lines}
use Rattle.mdblock_leaf_blocks.specs.LeafBlocks.{Line, text_of}
use Rattle.mdblock_leaf_blocks.specs.LineKinds.{begins_with, indent, is_blank_line, is_far, run, underline_rank, unindented}
use Rattle.mdblock_containers.specs.Letters.{ArePlainFrom, is_plain, lazy_underline, lazy_underlines}
use Rattle.mdblock_containers.specs.Rows.{Before, Row, known_after, nothing_known, rest_of, row_of, rows, rows_from}
use Rattle.mdblock_containers.specs.SkeletonLaws.{LazyLettersArePlain}
use Rattle.markdown_tokenizer.proofs.Positions.Order.{every-front, every-back}

-- a mark of an underline
abbrev pub is_mark : ℕ → Bool
is_mark b = (b == 61) || (b == 45)

-- a mark's virtual byte has the index of a plain byte of these, of which the first has this index
abbrev pub AtMark : (bytes : List ℕ) → (index : ℕ) → Seat → Type 0
AtMark bytes n s = is_mark s.byte ≡ true → (n ≤ s.point.index) × (is_plain (get_or bytes (s.point.index - n) 0) ≡ true)

pub tab_marks : (bytes : List ℕ) (n k byte line column index vs : ℕ) → is_mark byte ≡ false → AllByRecursion (AtMark bytes n) (in_tab byte k line column index vs)
tab_marks bytes n zero byte line column index vs e = tt
tab_marks bytes n (suc k) byte line column index vs e = ((λ m. absurd (false≢true (sym e ∙ m))), tab_marks bytes n k 32 line (suc column) index (suc vs) refl)

pub one_behind : (b : ℕ) (bs : List ℕ) (n : ℕ) (s : Seat) → AtMark bs (suc n) s → AtMark (b ∷ bs) n s
one_behind b bs n s h m =
    let p = h m in
    let within = p.0 in
    let on : s.point.index - n ≡ suc (s.point.index - suc n) = omega (arith, within) in
    (omega (arith, within), ap (λ i. is_plain (get_or (b ∷ bs) i 0)) on ∙ p.1)

pub marks_are_plain : (t line column n : ℕ) (bs : List ℕ) → AllByRecursion (AtMark bs n) (virtual_from t line column n bs)
marks_are_plain t line column n [] = tt
marks_are_plain t line column n (b ∷ bs) =
    by (λ l c. every-map (AtMark bs (suc n)) (AtMark (b ∷ bs) n) (one_behind b bs n) (virtual_from t l c (suc n) bs) (marks_are_plain t l c (suc n) bs)) (b == 10) (b == 13) (begins_with_lf bs) (b == 9) refl refl refl
  where
    here : n - n ≡ 0
    here = omega arith

    by : ((l c : ℕ) → AllByRecursion (AtMark (b ∷ bs) n) (virtual_from t l c (suc n) bs)) → (lf cr lf_comes tab : Bool) → (b == 10) ≡ lf → (b == 13) ≡ cr → (b == 9) ≡ tab
        → AllByRecursion (AtMark (b ∷ bs) n)
        (cond lf (line_feed line column n ∷ virtual_from t (suc line) 1 (suc n) bs)
        (cond cr (cond lf_comes (virtual_from t line column (suc n) bs) (line_feed line column n ∷ virtual_from t (suc line) 1 (suc n) bs))
        (cond tab (in_tab 9 (tab_width t column) line column n 0 ++ virtual_from t line (column + tab_width t column) (suc n) bs) (other_byte b line column n ∷ virtual_from t line (suc column) (suc n) bs))))
    by rest true cr lf_comes tab el ec et = ((λ m. absurd (false≢true m)), rest (suc line) 1)
    by rest false true true tab el ec et = rest line column
    by rest false true false tab el ec et = ((λ m. absurd (false≢true m)), rest (suc line) 1)
    by rest false false lf_comes true el ec et =
        every-append (AtMark (b ∷ bs) n) (in_tab 9 (tab_width t column) line column n 0) (virtual_from t line (column + tab_width t column) (suc n) bs) (tab_marks (b ∷ bs) n (tab_width t column) 9 line column n 0 refl)
        (rest line (column + tab_width t column))
    by rest false false lf_comes false el ec et =
        ((λ m. (omega arith, ap (λ i. is_plain (get_or (b ∷ bs) i 0)) here ∙ (λ k. not (et k) && (not (el k) && not (ec k))))), rest line (suc column))

-- what holds of each virtual byte holds of those of each line
pub lines_each : (P : Seat → Type 0) (ss : List Seat) → AllByRecursion P ss → AllByRecursion (AllByRecursion P) (lines_in ss)
lines_each P [] h = tt
lines_each P (s ∷ ss) h = by (is_line_ending s) (lines_in ss) (lines_each P ss h.1)
  where
    by : (x : Bool) (ls : List Line) → AllByRecursion (AllByRecursion P) ls → AllByRecursion (AllByRecursion P) (cond x ((s ∷ []) ∷ ls) (joined s ls))
    by true ls k = ((h.0, tt), k)
    by false [] k = ((h.0, tt), tt)
    by false (l ∷ ls) k = ((h.0, k.0), k.1)

-- what holds of each line holds of the line of each row
pub rows_each : (P : Line → Type 0) (on : Constructs) (b : Before) (number : ℕ) (ls : List Line) → AllByRecursion P ls → AllByRecursion (λ (row : Row). P row.line) (rows_from on b number ls)
rows_each P on b number [] h = tt
rows_each P on b number (l ∷ ls) h = (h.0, rows_each P on (known_after on b (row_of on b number l)) (suc number) ls h.1)

pub every_both : {A : Type 0} (P Q : A → Type 0) (xs : List A) → AllByRecursion P xs → AllByRecursion Q xs → AllByRecursion (λ x. P x × Q x) xs
every_both P Q [] h k = tt
every_both P Q (x ∷ xs) h k = ((h.0, k.0), every_both P Q xs h.1 k.1)

-- the virtual byte of a byte of a line's text
pub text_byte : (m : ℕ) (line : Line) (k : ℕ) → IsWhole line → begins_with m (drop k (text_of line)) ≡ true → AllByRecursion (λ (s : Seat). (s.byte == m) ≡ true) (take 1 (drop k line))
text_byte m [] zero w e = absurd (false≢true e)
text_byte m [] (suc k) w e = absurd (false≢true e)
text_byte m (s ∷ ss) k (inl w) e = by (λ j f. text_byte m ss j w.1 f) k (sym (ap (λ x. begins_with m (drop k (map (λ (s : Seat). s.byte) (cond (not x) (s ∷ line_text ss) (line_text ss))))) w.0) ∙ e)
  where
    by : ((j : ℕ) → begins_with m (drop j (text_of ss)) ≡ true → AllByRecursion (λ (s : Seat). (s.byte == m) ≡ true) (take 1 (drop j ss)))
        → (k : ℕ) → begins_with m (drop k (s.byte ∷ text_of ss)) ≡ true → AllByRecursion (λ (s : Seat). (s.byte == m) ≡ true) (take 1 (drop k (s ∷ ss)))
    by rest zero e = (e, tt)
    by rest (suc k) e = rest k e
text_byte m (s ∷ ss) k (inr w) e = absurd (by k (sym (ap (λ x. begins_with m (drop k (map (λ (s : Seat). s.byte) (cond (not x) (s ∷ line_text ss) (line_text ss))))) w.0 ∙ ap (λ l. begins_with m (drop k (text_of l))) w.1) ∙ e))
  where
    by : (k : ℕ) → begins_with m (drop k []) ≡ true → ⊥
    by zero e = false≢true e
    by (suc k) e = false≢true e

module _ (on : Constructs) where
  -- an underline begins with a mark
  pub begins_underline : (t : List ℕ) → is_some (underline_rank on t) ≡ true → (begins_with 61 (unindented t) ≡ true) ⊎ (begins_with 45 (unindented t) ≡ true)
  begins_underline t e =
      by (is_far on t || not on.heading_setext) (begins_with 61 (unindented t)) (is_blank_line (drop (run 61 (unindented t)) (unindented t))) (begins_with 45 (unindented t)) (is_blank_line (drop (run 45 (unindented t)) (unindented t))) refl refl e
    where
      by : (far a x c y : Bool) → begins_with 61 (unindented t) ≡ a → begins_with 45 (unindented t) ≡ c → is_some {T = ℕ} (cond far None (cond (a && x) (Some 1) (cond (c && y) (Some 2) None))) ≡ true
          → (begins_with 61 (unindented t) ≡ true) ⊎ (begins_with 45 (unindented t) ≡ true)
      by far true x c y ea ec h = inl ea
      by far false x true y ea ec h = inr ec
      by true false x false y ea ec h = absurd (false≢true h)
      by false false x false y ea ec h = absurd (false≢true h)

  module _ (bytes : List ℕ) where
    -- the byte at this index is plain
    abbrev pub IsPlainAt : ℕ → Type 0
    IsPlainAt i = is_plain (get_or bytes i 0) ≡ true

    pub marked : (m : ℕ) → is_mark m ≡ true → (ss : List Seat) → AllByRecursion (λ (s : Seat). (s.byte == m) ≡ true) ss → AllByRecursion (AtMark bytes 0) ss → AllByRecursion IsPlainAt (map (λ (s : Seat). s.point.index) ss)
    marked m is [] h k = tt
    marked m is (s ∷ ss) h k =
        let none : s.point.index - 0 ≡ s.point.index = omega arith in
        let at = k.0 (ap is_mark (eqb-true s.byte m h.0) ∙ is) in
        (ap (λ i. is_plain (get_or bytes i 0)) (sym none) ∙ at.1, marked m is ss h.1 k.1)

    -- what holds of each virtual byte of a line holds of one of them
    pub one_at : (n : ℕ) (line : Line) → AllByRecursion (AtMark bytes 0) line → AllByRecursion (AtMark bytes 0) (take 1 (drop n line))
    one_at n line h =
        let behind = every-back (AtMark bytes 0) (take n line) (drop n line) (subst (AllByRecursion (AtMark bytes 0)) (sym (take-append-drop n line)) h) in
        every-front (AtMark bytes 0) (take 1 (drop n line)) (drop 1 (drop n line)) (subst (AllByRecursion (AtMark bytes 0)) (sym (take-append-drop 1 (drop n line))) behind)

    -- a line is whole, and its marks are plain
    abbrev pub IsMarked : Line → Type 0
    IsMarked line = IsWhole line × AllByRecursion (AtMark bytes 0) line

    pub underline_plain : (row : Row) → IsMarked row.line → AllByRecursion IsPlainAt (lazy_underline on row)
    underline_plain row h = by row.is_lazy (is_some (underline_rank on (rest_of row))) refl
      where
        here : (m : ℕ) → begins_with m (unindented (rest_of row)) ≡ true → is_mark m ≡ true → AllByRecursion IsPlainAt (map (λ (s : Seat). s.point.index) (take 1 (drop (row.columns + indent (rest_of row)) row.line)))
        here m e is =
            let n = row.columns + indent (rest_of row) in
            let there : begins_with m (drop n (text_of row.line)) ≡ true = ap (begins_with m) (sym (drop-drop (indent (rest_of row)) row.columns (text_of row.line))) ∙ e in
            marked m is (take 1 (drop n row.line)) (text_byte m row.line n h.0 there) (one_at n row.line h.1)

        by : (x y : Bool) → is_some (underline_rank on (rest_of row)) ≡ y → AllByRecursion IsPlainAt (cond (x && y) (map (λ (s : Seat). s.point.index) (take 1 (drop (row.columns + indent (rest_of row)) row.line))) [])
        by false y e = tt
        by true false e = tt
        by true true e = ⊎_elim (λ f. here 61 f refl) (λ f. here 45 f refl) (begins_underline (rest_of row) e)

    pub underlines_plain : (rs : List Row) → AllByRecursion (λ (row : Row). IsMarked row.line) rs → AllByRecursion IsPlainAt (flat_map (lazy_underline on) rs)
    underlines_plain [] h = tt
    underlines_plain (row ∷ rs) h = every-append IsPlainAt (lazy_underline on row) (flat_map (lazy_underline on) rs) (underline_plain row h.0) (underlines_plain rs h.1)

-- one of these indices
pub one_of : (P : ℕ → Type 0) (at : List ℕ) (k : ℕ) → AllByRecursion P at → list_any (λ i. i == k) at ≡ true → P k
one_of P [] k h e = absurd (false≢true e)
one_of P (i ∷ at) k h e = by (one_of P at k h.1) (i == k) refl e
  where
    by : (list_any (λ i. i == k) at ≡ true → P k) → (x : Bool) → (i == k) ≡ x → (x || list_any (λ i. i == k) at) ≡ true → P k
    by rest true is f = subst P (eqb-true i k is) h.0
    by rest false is f = rest f

pub plain_from : (at : List ℕ) (n : ℕ) (bs : List ℕ) → ((j : ℕ) → list_any (λ i. i == n + j) at ≡ true → is_plain (get_or bs j 0) ≡ true) → ArePlainFrom n at bs
plain_from at n [] h = tt
plain_from at n (b ∷ bs) h =
    let here : n + 0 ≡ n = omega arith in
    ((λ e. h 0 (ap (λ k. list_any (λ i. i == k) at) here ∙ e)), plain_from at (suc n) bs (λ j e. let on : n + suc j ≡ suc n + j = omega arith in h (suc j) (ap (λ k. list_any (λ i. i == k) at) on ∙ e)))

pub lazy_letters_are_plain : LazyLettersArePlain
lazy_letters_are_plain on t bytes =
    let seats = virtual t bytes in
    let each = every_both IsWhole (AllByRecursion (AtMark bytes 0)) (lines_in seats) (whole-lines seats) (lines_each (AtMark bytes 0) seats (marks_are_plain t 1 1 0 bytes)) in
    let plain = underlines_plain on bytes (rows on (lines_in seats)) (rows_each (IsMarked on bytes) on (nothing_known on) 1 (lines_in seats) each) in
    plain_from (lazy_underlines on seats) 0 bytes (λ j e. let here : 0 + j ≡ j = omega arith in one_of (IsPlainAt on bytes) (lazy_underlines on seats) j plain (sym (ap (λ k. list_any (λ i. i == k) (lazy_underlines on seats)) here) ∙ e))
