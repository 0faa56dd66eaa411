-- Lemmas on where the seats of a line are.
use Rattle.std.proofs.Common.{◌≡◌, ℕ, zero, suc, ◌+◌, ◌-◌, ◌<◌, Bool, true, false, cond, List, [], ◌∷◌, ◌++◌, length, drop, refl, sym, ap, ◌∙◌, subst, arith, eqb-true, le-ltb, lt-ltb}
use Rattle.std.specs.Prelude.{◌==◌, ◌&&◌, not, nat_lt, slice_index}
use Rattle.std.specs.List.{prefix_len}
use Rattle.std.proofs.lemmas.List.{drop-drop, get_or-drop}
use Rattle.std.proofs.Math.Nat.{mod-lt}
use Rattle.markdown_base.specs.declared.event.Point.{Point}
use Rattle.markdown_base.specs.Places.{follows_cr, shown}
use Rattle.markdown_base.specs.Virtual.{Seat, point, begins_with_lf, end_after, end_in_tab, in_tab, line_feed, other_byte, tab_width, virtual_from}
use Rattle.mdblock_lines.specs.Lines.{is_in_line, is_in_tab, next_place, place_after}
use Rattle.mdblock_lines.proofs.SeatPlaces.{before_ending, ending_first, lf_first, no_ending_first, same_point}
use Rattle.mdblock_containers.specs.SeatPlaces.{AreSeatsAt}

module _ (t : ℕ) (bytes : List ℕ) where
  -- seats from a place on, each where the one before it ends, none of them a line ending, up to a byte at this index
  abbrev pub Course : (stop : ℕ) → Point → List Seat → Type 0
  Course stop p [] = (p.index ≡ stop) × (p.vs ≡ 0)
  Course stop p (s ∷ ss) = (s.point ≡ p) × (s.end ≡ next_place t bytes p) × (p.index < stop) × ((slice_index bytes p.index == 10) ≡ false) × Course stop s.end ss

  course_tab : (stop n byte line column index vs : ℕ) (ss : List Seat) → slice_index bytes index ≡ 9 → index < stop → not (byte == 10) ≡ true → n + vs ≡ tab_width t (column - vs) → vs < column
      → Course stop (point line (column + n) (suc index) 0) (before_ending ss) → 0 < n → Course stop (point line column index vs) (before_ending (in_tab byte n line column index vs ++ ss))
  course_tab stop zero byte line column index vs ss is less plain width inside f some = absurd (omega arith)
  course_tab stop (suc zero) byte line column index vs ss is less plain width inside f some =
      let seat : Seat = record { byte = byte; point = point line column index vs; end = end_in_tab zero line column index vs } in
      let last : nat_lt (vs + 1) (tab_width t (column - vs)) ≡ false = le-ltb (vs + 1) (tab_width t (column - vs)) (omega (arith, width)) in
      let out : is_in_tab t (slice_index bytes index) (point line column index vs) ≡ false = ap (λ b. (b == 9) && nat_lt (vs + 1) (tab_width t (column - vs))) is ∙ last in
      let next : end_in_tab zero line column index vs ≡ next_place t bytes (point line column index vs) =
      same_point (omega arith) (omega arith) refl ∙ sym (ap (λ b. cond b (point line (column + 1) index (vs + 1)) (point line (column + 1) (index + 1) 0)) out) in
      let here : point line (column + 1) (suc index) 0 ≡ end_in_tab zero line column index vs = same_point (omega arith) refl refl in
      subst (Course stop (point line column index vs)) (sym (no_ending_first seat ss plain)) (refl, next, less, ap (λ b. b == 10) is, subst (λ p. Course stop p (before_ending ss)) here f)
  course_tab stop (suc (suc n)) byte line column index vs ss is less plain width inside f some =
      let seat : Seat = record { byte = byte; point = point line column index vs; end = end_in_tab (suc n) line column index vs } in
      let further : nat_lt (vs + 1) (tab_width t (column - vs)) ≡ true = lt-ltb (vs + 1) (tab_width t (column - vs)) (omega (arith, width)) in
      let stays : is_in_tab t (slice_index bytes index) (point line column index vs) ≡ true = ap (λ b. (b == 9) && nat_lt (vs + 1) (tab_width t (column - vs))) is ∙ further in
      let next : end_in_tab (suc n) line column index vs ≡ next_place t bytes (point line column index vs) =
      same_point (omega arith) refl (omega arith) ∙ sym (ap (λ b. cond b (point line (column + 1) index (vs + 1)) (point line (column + 1) (index + 1) 0)) stays) in
      let ahead : point line (column + suc (suc n)) (suc index) 0 ≡ point line (suc column + suc n) (suc index) 0 = same_point (omega arith) refl refl in
      let same : column - vs ≡ suc column - suc vs = omega arith in
      let wide : suc n + suc vs ≡ tab_width t (suc column - suc vs) = omega (arith, width) ∙ ap (tab_width t) same in
      subst (Course stop (point line column index vs)) (sym (no_ending_first seat (in_tab 32 (suc n) line (suc column) index (suc vs) ++ ss) plain))
      (refl, next, less, ap (λ b. b == 10) is, course_tab stop (suc n) 32 line (suc column) index (suc vs) ss is less refl wide (omega (arith, inside)) (subst (λ p. Course stop p (before_ending ss)) ahead f) (omega arith))

  module _ (some : 0 < t) where
    pub course_from : (line column index : ℕ) (bs : List ℕ) → drop index bytes ≡ bs → 0 < column → Course (index + prefix_len is_in_line bs) (point line column index 0) (before_ending (virtual_from t line column index bs))
    course_from line column index [] at least = (omega arith, refl)
    course_from line column index (b ∷ bs) at least =
        by (b == 10) (b == 13) (b == 9) (begins_with_lf bs) refl refl refl refl
        (course_from line (column + tab_width t column) (suc index) bs behind (omega (arith, least))) (course_from line (suc column) (suc index) bs behind (omega arith))
      where
        here : slice_index bytes index ≡ b
        here = let start : index ≡ index + 0 = omega arith in ap (λ i. slice_index bytes i) start ∙ sym (get_or-drop index bytes 0 0) ∙ ap (λ l. slice_index l 0) at

        behind : drop (suc index) bytes ≡ bs
        behind = let on : suc index ≡ index + 1 = omega arith in ap (λ i. drop i bytes) on ∙ sym (drop-drop 1 index bytes) ∙ ap (drop 1) at

        by : (lf cr tab lf_comes : Bool) → (b == 10) ≡ lf → (b == 13) ≡ cr → (b == 9) ≡ tab → begins_with_lf bs ≡ lf_comes
            → Course (suc index + prefix_len is_in_line bs) (point line (column + tab_width t column) (suc index) 0) (before_ending (virtual_from t line (column + tab_width t column) (suc index) bs))
            → Course (suc index + prefix_len is_in_line bs) (point line (suc column) (suc index) 0) (before_ending (virtual_from t line (suc column) (suc index) bs))
            → Course (index + cond (not lf && not cr) (1 + prefix_len is_in_line bs) 0) (point line column index 0) (before_ending (cond lf (line_feed line column index ∷ virtual_from t (suc line) 1 (suc index) bs)
            (cond cr (cond lf_comes (virtual_from t line column (suc index) bs) (line_feed line column index ∷ virtual_from t (suc line) 1 (suc index) bs))
            (cond tab (in_tab 9 (tab_width t column) line column index 0 ++ virtual_from t line (column + tab_width t column) (suc index) bs)
            (other_byte b line column index ∷ virtual_from t line (suc column) (suc index) bs)))))
        by true cr tab lf_comes elf ecr etab el after_tab after = subst (Course (index + 0) (point line column index 0)) (sym (ending_first (line_feed line column index) (virtual_from t (suc line) 1 (suc index) bs) refl)) (omega arith, refl)
        by false true tab false elf ecr etab el after_tab after = subst (Course (index + 0) (point line column index 0)) (sym (ending_first (line_feed line column index) (virtual_from t (suc line) 1 (suc index) bs) refl)) (omega arith, refl)
        by false true tab true elf ecr etab el after_tab after = subst (Course (index + 0) (point line column index 0)) (sym (lf_first t line column (suc index) bs el)) (omega arith, refl)
        by false false true lf_comes elf ecr etab el after_tab after =
            let all : column ≡ column - 0 = omega arith in
            let none : tab_width t column + 0 ≡ tab_width t column = omega arith in
            let wide : tab_width t column + 0 ≡ tab_width t (column - 0) = none ∙ ap (tab_width t) all in
            let some_of : 0 < tab_width t column = omega (arith, mod-lt (column - 1) some) in
            let nine : b ≡ 9 = eqb-true b 9 etab in
            let stop : suc index + prefix_len is_in_line bs ≡ index + (1 + prefix_len is_in_line bs) = omega arith in
            subst (λ (k : ℕ). Course k (point line column index 0) (before_ending (in_tab 9 (tab_width t column) line column index 0 ++ virtual_from t line (column + tab_width t column) (suc index) bs))) stop
            (course_tab (suc index + prefix_len is_in_line bs) (tab_width t column) 9 line column index 0 (virtual_from t line (column + tab_width t column) (suc index) bs) (here ∙ nine) (omega arith) refl wide least after_tab some_of)
        by false false false lf_comes elf ecr etab el after_tab after =
            let out : is_in_tab t (slice_index bytes index) (point line column index 0) ≡ false = ap (λ c. (c == 9) && nat_lt 1 (tab_width t (column - 0))) here ∙ ap (λ c. c && nat_lt 1 (tab_width t (column - 0))) etab in
            let next : point line (suc column) (suc index) 0 ≡ next_place t bytes (point line column index 0) =
            same_point (omega arith) (omega arith) refl ∙ sym (ap (λ c. cond c (point line (column + 1) index 1) (point line (column + 1) (index + 1) 0)) out) in
            let stop : suc index + prefix_len is_in_line bs ≡ index + (1 + prefix_len is_in_line bs) = omega arith in
            subst (λ (l : List Seat). Course (index + (1 + prefix_len is_in_line bs)) (point line column index 0) l) (sym (no_ending_first (other_byte b line column index) (virtual_from t line (suc column) (suc index) bs) (ap not elf)))
            (refl, next, omega arith, ap (λ c. c == 10) here ∙ elf, subst (λ (k : ℕ). Course k (point line (suc column) (suc index) 0) (before_ending (virtual_from t line (suc column) (suc index) bs))) stop after)

  -- a place of a byte that is no LF is shown at itself
  shown_plain : (p : Point) → (slice_index bytes p.index == 10) ≡ false → shown bytes p ≡ p
  shown_plain p e = λ k. cond (e k && follows_cr bytes p.index) (record { line = p.line; column = p.column; index = p.index - 1; vs = p.vs }) p

  course_next : (p : Point) → p.line ≡ (next_place t bytes p).line
  course_next p = by (is_in_tab t (slice_index bytes p.index) p)
    where
      by : (b : Bool) → p.line ≡ (cond b (point p.line (p.column + 1) p.index (p.vs + 1)) (point p.line (p.column + 1) (p.index + 1) 0)).line
      by true = refl
      by false = refl

  column_next : (p : Point) → (next_place t bytes p).column ≡ p.column + 1
  column_next p = by (is_in_tab t (slice_index bytes p.index) p)
    where
      by : (b : Bool) → (cond b (point p.line (p.column + 1) p.index (p.vs + 1)) (point p.line (p.column + 1) (p.index + 1) 0)).column ≡ p.column + 1
      by true = refl
      by false = refl

  -- where they end
  pub course_end : (stop : ℕ) (p : Point) (ss : List Seat) → Course stop p ss → end_after p ss ≡ point p.line (p.column + length ss) stop 0
  course_end stop p [] h = let n : p.column ≡ p.column + 0 = omega arith in λ k. point p.line (n k) (h.0 k) (h.1 k)
  course_end stop p (s ∷ ss) h =
      let more = course_end stop s.end ss h.4 in
      let line : s.end.line ≡ p.line = ap (λ (q : Point). q.line) h.1 ∙ sym (course_next p) in
      let column : s.end.column + length ss ≡ p.column + suc (length ss) = omega (arith, ap (λ (q : Point). q.column) h.1, column_next p) in
      more ∙ (λ k. point (line k) (column k) stop 0)

  pub course_seats : (stop : ℕ) (p : Point) (ss : List Seat) → Course stop p ss → ((q : Point) → q.index ≡ stop → q.vs ≡ 0 → shown bytes q ≡ q) → AreSeatsAt t bytes p ss
  course_seats stop p [] h last = last p h.0 h.1
  course_seats stop p (s ∷ ss) h last = (shown_plain p h.3, h.0, h.1, course_seats stop s.end ss h.4 last)

  -- a place so many seats on, counted from the next place
  pub place_front : (p : Point) (k : ℕ) → place_after t bytes (next_place t bytes p) k ≡ place_after t bytes p (suc k)
  place_front p zero = refl
  place_front p (suc k) = ap (next_place t bytes) (place_front p k)

  -- a place that is so many columns on is before the end
  pub course_inside : (stop : ℕ) (p : Point) (ss : List Seat) (k : ℕ) → Course stop p ss → k < length ss → (place_after t bytes p k).index < stop
  course_inside stop p [] k h w = absurd (omega arith)
  course_inside stop p (s ∷ ss) zero h w = h.2
  course_inside stop p (s ∷ ss) (suc k) h w = subst (λ (q : Point). q.index < stop) (ap (λ q. place_after t bytes q k) h.1 ∙ place_front p k) (course_inside stop s.end ss k h.4 (omega arith))
