-- Places in a line are those of its seats: each seat begins where the one before it ends.
use Rattle.std.proofs.Common.{◌≡◌, ℕ, zero, suc, ◌+◌, ◌-◌, ◌<◌, ◌≤◌, Bool, true, false, cond, take, List, [], ◌∷◌, ◌++◌, length, drop, refl, sym, subst, ap, ◌∙◌, arith, eqb-true, le-ltb, lt-ltb}
use Rattle.std.specs.Prelude.{slice_index, ◌==◌, ◌&&◌, not, nat_lt, take_while}
use Rattle.std.specs.List.{prefix_len}
use Rattle.std.proofs.lemmas.List.{drop-drop, get_or-drop}
use Rattle.std.proofs.Math.Nat.{mod-lt}
use Rattle.markdown_base.specs.declared.event.Point.{Point}
use Rattle.markdown_base.specs.Virtual.{Seat, point, begins_with_lf, end_after, end_in_tab, in_tab, line_feed, other_byte, tab_width, virtual_from}
use Rattle.mdblock_lines.specs.Lines.{PlacesAreThoseOfSeats, is_in_tab, is_no_ending, next_place, place_after}

-- seats up to the first line ending
abbrev pub before_ending : List Seat → List Seat
before_ending ss = take_while is_no_ending ss

pub no_ending_first : (s : Seat) (ss : List Seat) → is_no_ending s ≡ true → before_ending (s ∷ ss) ≡ s ∷ before_ending ss
no_ending_first s ss e =
    let on : 1 + prefix_len is_no_ending ss ≡ suc (prefix_len is_no_ending ss) = omega arith in
    ap (λ b. take (cond b (1 + prefix_len is_no_ending ss) 0) (s ∷ ss)) e ∙ ap (λ k. take k (s ∷ ss)) on

pub ending_first : (s : Seat) (ss : List Seat) → is_no_ending s ≡ false → before_ending (s ∷ ss) ≡ []
ending_first s ss e = ap (λ b. take (cond b (1 + prefix_len is_no_ending ss) 0) (s ∷ ss)) e

-- a place is the same if its numbers are
pub same_point : {l c i v c2 i2 v2 : ℕ} → c ≡ c2 → i ≡ i2 → v ≡ v2 → point l c i v ≡ point l c2 i2 v2
same_point {l} e f g = (λ k. point l (e k) (f k) (g k))

-- an LF ends the line at once
pub lf_first : (t line column index : ℕ) (bs : List ℕ) → begins_with_lf bs ≡ true → before_ending (virtual_from t line column index bs) ≡ []
lf_first t line column index [] e = refl
lf_first t line column index (b ∷ bs) e = rw e (ending_first (line_feed line column index) (virtual_from t (suc line) 1 (suc index) bs) refl)

module _ (t : ℕ) (bytes : List ℕ) where
  -- each seat begins where the one before it ends, the first at this place, and ends at the next place
  abbrev pub Follow : Point → List Seat → Type 0
  Follow p [] = Unit {0}
  Follow p (s ∷ ss) = (s.point ≡ p) × (s.end ≡ next_place t bytes p) × Follow s.end ss

  place_front : (p : Point) (k : ℕ) → place_after t bytes p (suc k) ≡ place_after t bytes (next_place t bytes p) k
  place_front p zero = refl
  place_front p (suc k) = ap (next_place t bytes) (place_front p k)

  pub follow_places : (p : Point) (ss : List Seat) (k : ℕ) → Follow p ss → k ≤ length ss → place_after t bytes p k ≡ end_after p (take k ss)
  follow_places p ss zero f h = refl
  follow_places p [] (suc k) f h = absurd (omega arith)
  follow_places p (s ∷ ss) (suc k) f h = place_front p k ∙ ap (λ q. place_after t bytes q k) (sym f.1) ∙ follow_places s.end ss k f.2 (omega arith)

  -- the seats of a tab, and what follows them
  follow_tab : (n byte line column index vs : ℕ) (ss : List Seat) → slice_index bytes index ≡ 9 → not (byte == 10) ≡ true → n + vs ≡ tab_width t (column - vs) → vs < column
      → Follow (point line (column + n) (suc index) 0) (before_ending ss) → 0 < n → Follow (point line column index vs) (before_ending (in_tab byte n line column index vs ++ ss))
  follow_tab zero byte line column index vs ss is plain width inside f some = absurd (omega arith)
  follow_tab (suc zero) byte line column index vs ss is plain width inside f some =
      let seat : Seat = record { byte = byte; point = point line column index vs; end = end_in_tab zero line column index vs } in
      let last : nat_lt (vs + 1) (tab_width t (column - vs)) ≡ false = le-ltb (vs + 1) (tab_width t (column - vs)) (omega (arith, width)) in
      let out : is_in_tab t (slice_index bytes index) (point line column index vs) ≡ false = ap (λ b. (b == 9) && nat_lt (vs + 1) (tab_width t (column - vs))) is ∙ last in
      let next : end_in_tab zero line column index vs ≡ next_place t bytes (point line column index vs) =
      same_point (omega arith) (omega arith) refl ∙ sym (ap (λ b. cond b (point line (column + 1) index (vs + 1)) (point line (column + 1) (index + 1) 0)) out) in
      let here : point line (column + 1) (suc index) 0 ≡ end_in_tab zero line column index vs = same_point (omega arith) refl refl in
      subst (Follow (point line column index vs)) (sym (no_ending_first seat ss plain)) (refl, next, subst (λ p. Follow p (before_ending ss)) here f)
  follow_tab (suc (suc n)) byte line column index vs ss is plain width inside f some =
      let seat : Seat = record { byte = byte; point = point line column index vs; end = end_in_tab (suc n) line column index vs } in
      let further : nat_lt (vs + 1) (tab_width t (column - vs)) ≡ true = lt-ltb (vs + 1) (tab_width t (column - vs)) (omega (arith, width)) in
      let stays : is_in_tab t (slice_index bytes index) (point line column index vs) ≡ true = ap (λ b. (b == 9) && nat_lt (vs + 1) (tab_width t (column - vs))) is ∙ further in
      let next : end_in_tab (suc n) line column index vs ≡ next_place t bytes (point line column index vs) =
      same_point (omega arith) refl (omega arith) ∙ sym (ap (λ b. cond b (point line (column + 1) index (vs + 1)) (point line (column + 1) (index + 1) 0)) stays) in
      let ahead : point line (column + suc (suc n)) (suc index) 0 ≡ point line (suc column + suc n) (suc index) 0 = same_point (omega arith) refl refl in
      let same : column - vs ≡ suc column - suc vs = omega arith in
      let wide : suc n + suc vs ≡ tab_width t (suc column - suc vs) = omega (arith, width) ∙ ap (tab_width t) same in
      subst (Follow (point line column index vs)) (sym (no_ending_first seat (in_tab 32 (suc n) line (suc column) index (suc vs) ++ ss) plain))
      (refl, next, follow_tab (suc n) 32 line (suc column) index (suc vs) ss is refl wide (omega (arith, inside)) (subst (λ p. Follow p (before_ending ss)) ahead f) (omega arith))

  -- the seats of bytes at an index
  module _ (some : 0 < t) where
    follow_from : (line column index : ℕ) (bs : List ℕ) → drop index bytes ≡ bs → 0 < column → Follow (point line column index 0) (before_ending (virtual_from t line column index bs))
    follow_from line column index [] at least = tt
    follow_from line column index (b ∷ bs) at least =
        by (b == 10) (b == 13) (b == 9) (begins_with_lf bs) refl refl refl refl
        (follow_from line (column + tab_width t column) (suc index) bs behind (omega (arith, least))) (follow_from line (suc column) (suc index) bs behind (omega arith))
      where
        here : slice_index bytes index ≡ b
        here = let start : index ≡ index + 0 = omega arith in ap (λ i. slice_index bytes i) start ∙ sym (get_or-drop index bytes 0 0) ∙ ap (λ l. slice_index l 0) at

        behind : drop (suc index) bytes ≡ bs
        behind = let on : suc index ≡ index + 1 = omega arith in ap (λ i. drop i bytes) on ∙ sym (drop-drop 1 index bytes) ∙ ap (drop 1) at

        by : (lf cr tab lf_comes : Bool) → (b == 10) ≡ lf → (b == 13) ≡ cr → (b == 9) ≡ tab → begins_with_lf bs ≡ lf_comes
            → Follow (point line (column + tab_width t column) (suc index) 0) (before_ending (virtual_from t line (column + tab_width t column) (suc index) bs))
            → Follow (point line (suc column) (suc index) 0) (before_ending (virtual_from t line (suc column) (suc index) bs))
            → Follow (point line column index 0) (before_ending (cond lf (line_feed line column index ∷ virtual_from t (suc line) 1 (suc index) bs)
            (cond cr (cond lf_comes (virtual_from t line column (suc index) bs) (line_feed line column index ∷ virtual_from t (suc line) 1 (suc index) bs))
            (cond tab (in_tab 9 (tab_width t column) line column index 0 ++ virtual_from t line (column + tab_width t column) (suc index) bs)
            (other_byte b line column index ∷ virtual_from t line (suc column) (suc index) bs)))))
        by true cr tab lf_comes elf ecr etab el after_tab after = subst (Follow (point line column index 0)) (sym (ending_first (line_feed line column index) (virtual_from t (suc line) 1 (suc index) bs) refl)) tt
        by false true tab false elf ecr etab el after_tab after = subst (Follow (point line column index 0)) (sym (ending_first (line_feed line column index) (virtual_from t (suc line) 1 (suc index) bs) refl)) tt
        by false true tab true elf ecr etab el after_tab after = subst (Follow (point line column index 0)) (sym (lf_first t line column (suc index) bs el)) tt
        by false false true lf_comes elf ecr etab el after_tab after =
            let all : column ≡ column - 0 = omega arith in
            let none : tab_width t column + 0 ≡ tab_width t column = omega arith in
            let wide : tab_width t column + 0 ≡ tab_width t (column - 0) = none ∙ ap (tab_width t) all in
            let some_of : 0 < tab_width t column = omega (arith, mod-lt (column - 1) some) in
            let nine : b ≡ 9 = eqb-true b 9 etab in
            follow_tab (tab_width t column) 9 line column index 0 (virtual_from t line (column + tab_width t column) (suc index) bs) (here ∙ nine) refl wide least after_tab some_of
        by false false false lf_comes elf ecr etab el after_tab after =
            let out : is_in_tab t (slice_index bytes index) (point line column index 0) ≡ false = ap (λ c. (c == 9) && nat_lt 1 (tab_width t (column - 0))) here ∙ ap (λ c. c && nat_lt 1 (tab_width t (column - 0))) etab in
            let next : point line (suc column) (suc index) 0 ≡ next_place t bytes (point line column index 0) =
            same_point (omega arith) (omega arith) refl ∙ sym (ap (λ c. cond c (point line (column + 1) index 1) (point line (column + 1) (index + 1) 0)) out) in
            subst (Follow (point line column index 0)) (sym (no_ending_first (other_byte b line column index) (virtual_from t line (suc column) (suc index) bs) (ap not elf)))
            (refl, next, after)

pub places_are_those_of_seats : PlacesAreThoseOfSeats
places_are_those_of_seats t line index k bytes some h =
    let seats = before_ending (virtual_from t line 1 index (drop index bytes)) in
    follow_places t bytes (point line 1 index 0) seats k (follow_from t bytes some line 1 index (drop index bytes) refl (omega arith)) h
