-- Lemmas on the virtual bytes of lines.
use Rattle.std.proofs.Common.{◌≡◌, ℕ, zero, suc, ◌+◌, ◌-◌, ◌<◌, ◌≤◌, Bool, true, false, cond, take, List, [], ◌∷◌, ◌++◌, length, drop, get_or, refl, sym, ap, ◌∙◌, arith, append_assoc, length-append, length-take-le}
use Rattle.markdown_base.specs.declared.event.Point.{Point}
use Rattle.std.specs.Prelude.{slice_index, ◌==◌, ◌&&◌, not, map, take_while, replicate}
use Rattle.std.specs.List.{prefix_len}
use Rattle.std.proofs.Math.Nat.{mod-lt}
use Rattle.std.proofs.lemmas.List.{drop_more, append-nil}
use Rattle.std.proofs.Math.Seq.{drop-length}
use Rattle.mdblock_lines.specs.Lines.{is_in_tab, next_place, place_after, is_in_line, is_no_ending, seat_bytes, expanded, line_bytes}
use Rattle.markdown_base.specs.Virtual.{Seat, point, tab_width, in_tab, line_feed, other_byte, begins_with_lf, virtual_from}

pub expanded_step : (t : ℕ) (items text new : List ℕ) (i : ℕ) → i < length text → new ≡ items ++ seat_bytes t (length items + 1) (get_or text i 0)
    → items ++ expanded t (length items + 1) (drop i text) ≡ new ++ expanded t (length new + 1) (drop (i + 1) text)
expanded_step t items text new i h e =
    let sb = seat_bytes t (length items + 1) (get_or text i 0) in
    let rest = drop (i + 1) text in
    let long : length items + 1 + length sb ≡ length (items ++ sb) + 1 = omega (arith, length-append items sb) in
    ap (λ l. items ++ expanded t (length items + 1) l) (drop_more text i 0 h)
    ∙ sym (append_assoc items sb (expanded t (length items + 1 + length sb) rest))
    ∙ ap (λ c. (items ++ sb) ++ expanded t c rest) long
    ∙ sym (ap (λ l. l ++ expanded t (length l + 1) rest) e)

pub expanded_end : (t : ℕ) (items text : List ℕ) → items ++ expanded t (length items + 1) (drop (length text) text) ≡ items
expanded_end t items text = ap (λ l. items ++ expanded t (length items + 1) l) (drop-length text) ∙ append-nil items

-- each byte has a virtual byte
pub seat_some : (t column byte : ℕ) → 0 < t → t ≤ 16 → 1 ≤ length (seat_bytes t column byte)
seat_some t column byte some most = by (byte == 9)
  where
    by : (b : Bool) → 1 ≤ length (cond b (take (tab_width t column) (9 ∷ replicate 15 32)) (byte ∷ []))
    by true =
        let least : 1 ≤ tab_width t column = omega (arith, mod-lt (column - 1) some) in
        let wide : tab_width t column ≤ 16 = omega (arith, most) in
        let long : length {A = ℕ} (take (tab_width t column) (9 ∷ replicate 15 32)) ≡ tab_width t column = length-take-le (tab_width t column) (9 ∷ replicate 15 32) wide in
        omega (arith, least, long)
    by false = omega arith

pub expanded_least : (t column : ℕ) (bs : List ℕ) → 0 < t → t ≤ 16 → length bs ≤ length (expanded t column bs)
expanded_least t column [] some most = omega arith
expanded_least t column (b ∷ bs) some most =
    let sb = seat_bytes t column b in
    let one = seat_some t column b some most in
    let more = expanded_least t (column + length sb) bs some most in
    let all = length-append sb (expanded t (column + length sb) bs) in
    omega (arith, one, more, all)

-- the bytes of the widest tab
abbrev tab_of_16 : List ℕ
tab_of_16 = 9 ∷ replicate 15 32

-- virtual bytes up to the first line ending
abbrev upto : List Seat → List ℕ
upto ss = map (λ s. s.byte) (take_while is_no_ending ss)

upto_cons : (s : Seat) (ss : List Seat) → is_no_ending s ≡ true → upto (s ∷ ss) ≡ s.byte ∷ upto ss
upto_cons s ss e =
    let n = prefix_len is_no_ending ss in
    let on : 1 + prefix_len is_no_ending ss ≡ suc (prefix_len is_no_ending ss) = omega arith in
    ap (λ b. map (λ (x : Seat). x.byte) (take (cond b (1 + prefix_len is_no_ending ss) 0) (s ∷ ss))) e ∙ ap (λ k. map (λ (x : Seat). x.byte) (take k (s ∷ ss))) on

upto_in_tab : (n byte line column index vs : ℕ) (ss : List Seat) → not (byte == 10) ≡ true → upto (in_tab byte (suc n) line column index vs ++ ss) ≡ byte ∷ (replicate n 32 ++ upto ss)
upto_in_tab zero byte line column index vs ss e = upto_cons _ ss e
upto_in_tab (suc n) byte line column index vs ss e = upto_cons _ (in_tab 32 (suc n) line (suc column) index (suc vs) ++ ss) e ∙ ap (λ l. byte ∷ l) (upto_in_tab n 32 line (suc column) index (suc vs) ss refl)

take_replicate : (v m : ℕ) → v ≤ m → take {A = ℕ} v (replicate m 32) ≡ replicate v 32
take_replicate zero m h = refl
take_replicate (suc v) zero h = absurd (omega arith)
take_replicate (suc v) (suc m) h = ap (λ l. 32 ∷ l) (take_replicate v m (omega arith))

-- a tab, and what follows it
tab_bytes : (w line column index : ℕ) (ss : List Seat) → 1 ≤ w → w ≤ 16 → upto (in_tab 9 w line column index 0 ++ ss) ≡ take w tab_of_16 ++ upto ss
tab_bytes zero line column index ss least most = absurd (omega arith)
tab_bytes (suc v) line column index ss least most = upto_in_tab v 9 line column index 0 ss refl ∙ ap (λ l. 9 ∷ (l ++ upto ss)) (sym (take_replicate v 15 (omega arith)))

after_return : (t line column index : ℕ) (bs : List ℕ) → begins_with_lf bs ≡ true → upto (virtual_from t line column index bs) ≡ []
after_return t line column index [] e = refl
after_return t line column index (b ∷ bs) e = rw e refl

module _ (t : ℕ) (some : 0 < t) (most : t ≤ 16) where
  pub expanded_is_virtual : (line column index : ℕ) (bs : List ℕ) → expanded t column (take (prefix_len is_in_line bs) bs) ≡ line_bytes t line column index bs
  expanded_is_virtual line column index [] = refl
  expanded_is_virtual line column index (b ∷ bs) =
      head (not (b == 10) && not (b == 13)) ∙ by (b == 10) (b == 13) (b == 9) (begins_with_lf bs) refl refl (expanded_is_virtual line (column + tab_width t column) (suc index) bs) (expanded_is_virtual line (suc column) (suc index) bs)
    where
      head : (s : Bool) → expanded t column (take (cond s (1 + prefix_len is_in_line bs) 0) (b ∷ bs)) ≡ cond s (seat_bytes t column b ++ expanded t (column + length (seat_bytes t column b)) (take (prefix_len is_in_line bs) bs)) []
      head true = let on : 1 + prefix_len is_in_line bs ≡ suc (prefix_len is_in_line bs) = omega arith in ap (λ k. expanded t column (take k (b ∷ bs))) on
      head false = refl

      by : (x y z l : Bool) → (b == 10) ≡ x → begins_with_lf bs ≡ l
          → expanded t (column + tab_width t column) (take (prefix_len is_in_line bs) bs) ≡ upto (virtual_from t line (column + tab_width t column) (suc index) bs)
          → expanded t (suc column) (take (prefix_len is_in_line bs) bs) ≡ upto (virtual_from t line (suc column) (suc index) bs)
          → cond (not x && not y) (cond z (take (tab_width t column) tab_of_16) (b ∷ []) ++ expanded t (column + length (cond z (take (tab_width t column) tab_of_16) (b ∷ []))) (take (prefix_len is_in_line bs) bs)) []
          ≡ upto (cond x (line_feed line column index ∷ virtual_from t (suc line) 1 (suc index) bs)
          (cond y (cond l (virtual_from t line column (suc index) bs) (line_feed line column index ∷ virtual_from t (suc line) 1 (suc index) bs))
          (cond z (in_tab 9 (tab_width t column) line column index 0 ++ virtual_from t line (column + tab_width t column) (suc index) bs)
          (other_byte b line column index ∷ virtual_from t line (suc column) (suc index) bs))))
      by true y z l ex el tab plain = refl
      by false true z true ex el tab plain = sym (after_return t line column (suc index) bs el)
      by false true z false ex el tab plain = refl
      by false false true l ex el tab plain =
          let least : 1 ≤ tab_width t column = omega (arith, mod-lt (column - 1) some) in
          let wide : tab_width t column ≤ 16 = omega arith in
          let long : length {A = ℕ} (take (tab_width t column) tab_of_16) ≡ tab_width t column = length-take-le (tab_width t column) tab_of_16 wide in
          ap (λ m. take (tab_width t column) tab_of_16 ++ expanded t (column + m) (take (prefix_len is_in_line bs) bs)) long
          ∙ ap (λ r. take (tab_width t column) tab_of_16 ++ r) tab
          ∙ sym (tab_bytes (tab_width t column) line column index (virtual_from t line (column + tab_width t column) (suc index) bs) least wide)
      by false false false l ex el tab plain =
          let next : column + 1 ≡ suc column = omega arith in
          ap (λ m. b ∷ expanded t m (take (prefix_len is_in_line bs) bs)) next
          ∙ ap (λ r. b ∷ r) plain
          ∙ sym (upto_cons (other_byte b line column index) (virtual_from t line (suc column) (suc index) bs) (ap not ex))

pub place_more : (t : ℕ) (bytes : List ℕ) (place p q : Point) (n : ℕ) → p ≡ place_after t bytes place n → q ≡ next_place t bytes p → q ≡ place_after t bytes place (n + 1)
place_more t bytes place p q n here next = let on : suc n ≡ n + 1 = omega arith in next ∙ ap (next_place t bytes) here ∙ ap (place_after t bytes place) on

pub place_next : (t : ℕ) (bytes : List ℕ) (p : Point) → p.vs < p.column → ((next_place t bytes p).vs < (next_place t bytes p).column) × ((next_place t bytes p).column ≡ p.column + 1)
place_next t bytes p h = by (is_in_tab t (slice_index bytes p.index) p)
  where
    by : (s : Bool) → ((cond s (point p.line (p.column + 1) p.index (p.vs + 1)) (point p.line (p.column + 1) (p.index + 1) 0)).vs < (cond s (point p.line (p.column + 1) p.index (p.vs + 1)) (point p.line (p.column + 1) (p.index + 1) 0)).column) × ((cond s (point p.line (p.column + 1) p.index (p.vs + 1)) (point p.line (p.column + 1) (p.index + 1) 0)).column ≡ p.column + 1)
    by true = (omega arith, refl)
    by false = (omega arith, refl)
