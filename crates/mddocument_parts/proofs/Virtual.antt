-- Virtual bytes, and lines, of bytes that begin a line behind others.
use Rattle.mddocument_parts.proofs.Prelude.{◌≡◌, ◌≤◌, ◌<◌, AllByRecursion, ℕ, zero, suc, ◌+◌, ◌==◌, ◌&&◌, ◌||◌, List, [], ◌∷◌, ◌++◌, Bool, true, false, cond, not, append_assoc, length, refl, sym, ap, ◌∙◌, arith, filter, map, map-append, is_line_ending, joined, lines_in, LinesAreCounted, LinesOfBoth, VirtualOfBoth, begins_line, line_endings, moved_lines, moved_point, moved_seat, Seat, begins_with_lf, end_in_tab, in_tab, line_feed, other_byte, point, tab_width, virtual, virtual_from}

-- one byte's virtual bytes, and those of what comes behind it: whether the byte is an LF or a CR, an LF comes behind it, it is a tab
abbrev pub step : (is_lf is_cr lf_comes is_tab : Bool) → (t x line column index : ℕ) → (ℕ → ℕ → ℕ → List Seat) → List Seat
step is_lf is_cr lf_comes is_tab t x line column index rest =
    cond is_lf (line_feed line column index ∷ rest (suc line) 1 (suc index))
    (cond is_cr (cond lf_comes (rest line column (suc index)) (line_feed line column index ∷ rest (suc line) 1 (suc index)))
    (cond is_tab (in_tab 9 (tab_width t column) line column index 0 ++ rest line (column + tab_width t column) (suc index))
    (other_byte x line column index ∷ rest line (suc column) (suc index))))

abbrev count_step : (is_lf is_cr lf_comes : Bool) → (more : ℕ) → ℕ
count_step is_lf is_cr lf_comes more = cond is_lf (suc more) (cond is_cr (cond lf_comes more (suc more)) more)

-- ---- virtual bytes of both

-- the equations come with the numbers: what is added to a number on its left does not compute
module _ (t : ℕ) where
  both-step : (is_lf is_cr lf_comes is_tab : Bool) (x l n more k line column index : ℕ) (all front : ℕ → ℕ → ℕ → List Seat) (rest : List Seat)
      → ((line column index : ℕ) → l ≡ line + more → n ≡ index + k → all line column index ≡ front line column index ++ rest)
      → l ≡ line + count_step is_lf is_cr lf_comes more → n ≡ index + suc k → step is_lf is_cr lf_comes is_tab t x line column index all ≡ step is_lf is_cr lf_comes is_tab t x line column index front ++ rest
  both-step true is_cr lf_comes is_tab x l n more k line column index all front rest h e f = ap (λ r. line_feed line column index ∷ r) (h (suc line) 1 (suc index) (omega (arith, e)) (omega (arith, f)))
  both-step false true true is_tab x l n more k line column index all front rest h e f = h line column (suc index) e (omega (arith, f))
  both-step false true false is_tab x l n more k line column index all front rest h e f = ap (λ r. line_feed line column index ∷ r) (h (suc line) 1 (suc index) (omega (arith, e)) (omega (arith, f)))
  both-step false false lf_comes true x l n more k line column index all front rest h e f =
      let tab = in_tab 9 (tab_width t column) line column index 0 in
      ap (λ r. tab ++ r) (h line (column + tab_width t column) (suc index) e (omega (arith, f))) ∙ sym (append_assoc tab (front line (column + tab_width t column) (suc index)) rest)
  both-step false false lf_comes false x l n more k line column index all front rest h e f = ap (λ r. other_byte x line column index ∷ r) (h line (suc column) (suc index) e (omega (arith, f)))

  -- the last byte before
  last-step : (is_lf is_cr lf_comes is_tab : Bool) (x l n line column index : ℕ) (all : ℕ → ℕ → ℕ → List Seat) → (is_lf || (is_cr && not lf_comes)) ≡ true
      → l ≡ line + count_step is_lf is_cr false 0 → n ≡ index + 1 → step is_lf is_cr lf_comes is_tab t x line column index all ≡ step is_lf is_cr false is_tab t x line column index (λ line column index. []) ++ all l 1 n
  last-step true is_cr lf_comes is_tab x l n line column index all h e f = let d : suc line ≡ l = omega (arith, e) in let g : suc index ≡ n = omega (arith, f) in (λ i. line_feed line column index ∷ all (d i) 1 (g i))
  last-step false true true is_tab x l n line column index all h e f = absurd (cc)
  last-step false true false is_tab x l n line column index all h e f = let d : suc line ≡ l = omega (arith, e) in let g : suc index ≡ n = omega (arith, f) in (λ i. line_feed line column index ∷ all (d i) 1 (g i))
  last-step false false lf_comes is_tab x l n line column index all h e f = absurd (cc)

  both : (b : List ℕ) (line column index x : ℕ) (a : List ℕ) → begins_line b (x ∷ a) ≡ true → (l n : ℕ) → l ≡ line + line_endings (x ∷ a) → n ≡ index + length (x ∷ a)
      → virtual_from t line column index (x ∷ a ++ b) ≡ virtual_from t line column index (x ∷ a) ++ virtual_from t l 1 n b
  both b line column index x [] h l n e f = last-step (x == 10) (x == 13) (begins_with_lf b) (x == 9) x l n line column index (λ line column index. virtual_from t line column index b) h e f
  both b line column index x (y ∷ a) h l n e f =
      both-step (x == 10) (x == 13) (y == 10) (x == 9) x l n (line_endings (y ∷ a)) (suc (length a)) line column index
      (λ line column index. virtual_from t line column index (y ∷ a ++ b)) (λ line column index. virtual_from t line column index (y ∷ a)) (virtual_from t l 1 n b)
      (λ line column index e f. both b line column index y a h l n e f) e f

  -- ---- moved virtual bytes
  module _ (l n : ℕ) where
    end-moved : (more line column index vs line2 index2 : ℕ) → line2 ≡ line + l → index2 ≡ index + n → end_in_tab more line2 column index2 vs ≡ moved_point l n (end_in_tab more line column index vs)
    end-moved zero line column index vs line2 index2 e f = let g : suc index2 ≡ suc index + n = omega (arith, f) in (λ i. point (e i) (suc column) (g i) 0)
    end-moved (suc more) line column index vs line2 index2 e f = (λ i. point (e i) (suc column) (f i) (suc vs))

    tab-moved : (byte k line column index vs line2 index2 : ℕ) → line2 ≡ line + l → index2 ≡ index + n → in_tab byte k line2 column index2 vs ≡ map (moved_seat l n) (in_tab byte k line column index vs)
    tab-moved byte zero line column index vs line2 index2 e f = refl
    tab-moved byte (suc k) line column index vs line2 index2 e f =
        let end = end-moved k line column index vs line2 index2 e f in
        let rest = tab-moved 32 k line (suc column) index (suc vs) line2 index2 e f in
        (λ i. (let s : Seat = record { byte = byte; point = point (e i) column (f i) vs; end = end i } in s) ∷ rest i)

    line-feed-moved : (line column index line2 index2 : ℕ) → line2 ≡ line + l → index2 ≡ index + n → line_feed line2 column index2 ≡ moved_seat l n (line_feed line column index)
    line-feed-moved line column index line2 index2 e f =
        let d : suc line2 ≡ suc line + l = omega (arith, e) in
        let g : suc index2 ≡ suc index + n = omega (arith, f) in
        (λ i. let s : Seat = record { byte = 10; point = point (e i) column (f i) 0; end = point (d i) 1 (g i) 0 } in s)

    other-moved : (x line column index line2 index2 : ℕ) → line2 ≡ line + l → index2 ≡ index + n → other_byte x line2 column index2 ≡ moved_seat l n (other_byte x line column index)
    other-moved x line column index line2 index2 e f =
        let g : suc index2 ≡ suc index + n = omega (arith, f) in
        (λ i. let s : Seat = record { byte = x; point = point (e i) column (f i) 0; end = point (e i) (suc column) (g i) 0 } in s)

    moved-step : (is_lf is_cr lf_comes is_tab : Bool) (x line column index line2 index2 : ℕ) (rest : ℕ → ℕ → ℕ → List Seat)
        → ((line column index line2 index2 : ℕ) → line2 ≡ line + l → index2 ≡ index + n → rest line2 column index2 ≡ map (moved_seat l n) (rest line column index))
        → line2 ≡ line + l → index2 ≡ index + n → step is_lf is_cr lf_comes is_tab t x line2 column index2 rest ≡ map (moved_seat l n) (step is_lf is_cr lf_comes is_tab t x line column index rest)
    moved-step true is_cr lf_comes is_tab x line column index line2 index2 rest h e f =
        let s = line-feed-moved line column index line2 index2 e f in let r = h (suc line) 1 (suc index) (suc line2) (suc index2) (omega (arith, e)) (omega (arith, f)) in (λ i. s i ∷ r i)
    moved-step false true true is_tab x line column index line2 index2 rest h e f = h line column (suc index) line2 (suc index2) e (omega (arith, f))
    moved-step false true false is_tab x line column index line2 index2 rest h e f =
        let s = line-feed-moved line column index line2 index2 e f in let r = h (suc line) 1 (suc index) (suc line2) (suc index2) (omega (arith, e)) (omega (arith, f)) in (λ i. s i ∷ r i)
    moved-step false false lf_comes true x line column index line2 index2 rest h e f =
        let tab = tab-moved 9 (tab_width t column) line column index 0 line2 index2 e f in
        let r = h line (column + tab_width t column) (suc index) line2 (suc index2) e (omega (arith, f)) in
        (λ i. tab i ++ r i) ∙ sym (map-append (moved_seat l n) (in_tab 9 (tab_width t column) line column index 0) (rest line (column + tab_width t column) (suc index)))
    moved-step false false lf_comes false x line column index line2 index2 rest h e f =
        let s = other-moved x line column index line2 index2 e f in let r = h line (suc column) (suc index) line2 (suc index2) e (omega (arith, f)) in (λ i. s i ∷ r i)

    moved : (b : List ℕ) (line column index line2 index2 : ℕ) → line2 ≡ line + l → index2 ≡ index + n → virtual_from t line2 column index2 b ≡ map (moved_seat l n) (virtual_from t line column index b)
    moved [] line column index line2 index2 e f = refl
    moved (x ∷ b) line column index line2 index2 e f =
        moved-step (x == 10) (x == 13) (begins_with_lf b) (x == 9) x line column index line2 index2 (λ line column index. virtual_from t line column index b)
        (λ line column index line2 index2 e f. moved b line column index line2 index2 e f) e f

pub virtual-of-both : VirtualOfBoth
virtual-of-both t [] b h = moved t 0 0 b 1 1 0 1 0 (omega arith) (omega arith)
virtual-of-both t (x ∷ a) b h =
    let l = line_endings (x ∷ a) in
    let n = length (x ∷ a) in
    both t b 1 1 0 x a h (1 + l) (0 + n) refl refl
    ∙ ap (λ r. virtual t (x ∷ a) ++ r) (moved t l n b 1 1 0 (1 + l) (0 + n) refl refl)

-- ---- lines of both

-- the last of seats is a line ending
abbrev is_ended : List Seat → Bool
is_ended [] = false
is_ended (s ∷ []) = is_line_ending s
is_ended (s ∷ ss) = is_ended ss

ended-more : (s : Seat) (ss : List Seat) → is_ended ss ≡ true → is_ended (s ∷ ss) ≡ true
ended-more s [] h = absurd (cc)
ended-more s (next ∷ ss) h = h

ended-append : (seats ss : List Seat) → is_ended ss ≡ true → is_ended (seats ++ ss) ≡ true
ended-append [] ss h = h
ended-append (s ∷ seats) ss h = ended-more s (seats ++ ss) (ended-append seats ss h)

module _ (t : ℕ) where
  ended-step : (is_lf is_cr lf_comes is_tab : Bool) (x line column index : ℕ) (rest : ℕ → ℕ → ℕ → List Seat) → ((line column index : ℕ) → is_ended (rest line column index) ≡ true) → is_ended (step is_lf is_cr lf_comes is_tab t x line column index rest) ≡ true
  ended-step true is_cr lf_comes is_tab x line column index rest h = ended-more (line_feed line column index) (rest (suc line) 1 (suc index)) (h (suc line) 1 (suc index))
  ended-step false true true is_tab x line column index rest h = h line column (suc index)
  ended-step false true false is_tab x line column index rest h = ended-more (line_feed line column index) (rest (suc line) 1 (suc index)) (h (suc line) 1 (suc index))
  ended-step false false lf_comes true x line column index rest h = ended-append (in_tab 9 (tab_width t column) line column index 0) (rest line (column + tab_width t column) (suc index)) (h line (column + tab_width t column) (suc index))
  ended-step false false lf_comes false x line column index rest h = ended-more (other_byte x line column index) (rest line (suc column) (suc index)) (h line (suc column) (suc index))

  ended-last : (is_lf is_cr lf_comes is_tab : Bool) (x line column index : ℕ) → (is_lf || (is_cr && not lf_comes)) ≡ true → is_ended (step is_lf is_cr false is_tab t x line column index (λ line column index. [])) ≡ true
  ended-last true is_cr lf_comes is_tab x line column index h = refl
  ended-last false true lf_comes is_tab x line column index h = refl
  ended-last false false lf_comes is_tab x line column index h = absurd (cc)

  ended : (b : List ℕ) (x : ℕ) (a : List ℕ) → begins_line b (x ∷ a) ≡ true → (line column index : ℕ) → is_ended (virtual_from t line column index (x ∷ a)) ≡ true
  ended b x [] h line column index = ended-last (x == 10) (x == 13) (begins_with_lf b) (x == 9) x line column index h
  ended b x (y ∷ a) h line column index = ended-step (x == 10) (x == 13) (y == 10) (x == 9) x line column index (λ line column index. virtual_from t line column index (y ∷ a)) (ended b y a h)

-- what is ended has a line
has-line : (s next : Seat) (ss : List Seat) (more : List (List Seat)) → joined s (lines_in (next ∷ ss) ++ more) ≡ joined s (lines_in (next ∷ ss)) ++ more
has-line s next ss more = by (is_line_ending next) (lines_in ss)
  where
    by : (c : Bool) (ls : List (List Seat)) → joined s (cond c ((next ∷ []) ∷ ls) (joined next ls) ++ more) ≡ joined s (cond c ((next ∷ []) ∷ ls) (joined next ls)) ++ more
    by true ls = refl
    by false [] = refl
    by false (line ∷ ls) = refl

lines-append : (seats more : List Seat) → is_ended seats ≡ true → lines_in (seats ++ more) ≡ lines_in seats ++ lines_in more
lines-append [] more h = refl
lines-append (s ∷ []) more h = ap (λ c. cond c ((s ∷ []) ∷ lines_in more) (joined s (lines_in more))) h ∙ ap (λ c. cond c ((s ∷ []) ∷ []) ((s ∷ []) ∷ []) ++ lines_in more) (sym h) ∙ same (is_line_ending s)
  where
    same : (c : Bool) → cond c ((s ∷ []) ∷ []) ((s ∷ []) ∷ []) ++ lines_in more ≡ cond c ((s ∷ []) ∷ []) (joined s []) ++ lines_in more
    same true = refl
    same false = refl
lines-append (s ∷ next ∷ ss) more h = by (is_line_ending s) (lines-append (next ∷ ss) more h)
  where
    by : (c : Bool) → lines_in (next ∷ ss ++ more) ≡ lines_in (next ∷ ss) ++ lines_in more
        → cond c ((s ∷ []) ∷ lines_in (next ∷ ss ++ more)) (joined s (lines_in (next ∷ ss ++ more))) ≡ cond c ((s ∷ []) ∷ lines_in (next ∷ ss)) (joined s (lines_in (next ∷ ss))) ++ lines_in more
    by true e = ap (λ r. (s ∷ []) ∷ r) e
    by false e = ap (joined s) e ∙ has-line s next ss (lines_in more)

module _ (l n : ℕ) where
  joined-moved : (s : Seat) (lines : List (List Seat)) → joined (moved_seat l n s) (moved_lines l n lines) ≡ moved_lines l n (joined s lines)
  joined-moved s [] = refl
  joined-moved s (line ∷ lines) = refl

  pub lines-moved : (seats : List Seat) → lines_in (map (moved_seat l n) seats) ≡ moved_lines l n (lines_in seats)
  lines-moved [] = refl
  lines-moved (s ∷ ss) = by (is_line_ending s) (lines-moved ss)
    where
      by : (c : Bool) → lines_in (map (moved_seat l n) ss) ≡ moved_lines l n (lines_in ss) → cond c ((moved_seat l n s ∷ []) ∷ lines_in (map (moved_seat l n) ss)) (joined (moved_seat l n s) (lines_in (map (moved_seat l n) ss))) ≡ moved_lines l n (cond c ((s ∷ []) ∷ lines_in ss) (joined s (lines_in ss)))
      by true e = ap (λ r. (moved_seat l n s ∷ []) ∷ r) e
      by false e = ap (joined (moved_seat l n s)) e ∙ joined-moved s (lines_in ss)

pub lines-of-both : LinesOfBoth
lines-of-both t [] b h = ap lines_in (virtual-of-both t [] b h) ∙ lines-moved 0 0 (virtual t b)
lines-of-both t (x ∷ a) b h =
    let l = line_endings (x ∷ a) in
    let n = length (x ∷ a) in
    ap lines_in (virtual-of-both t (x ∷ a) b h)
    ∙ lines-append (virtual t (x ∷ a)) (map (moved_seat l n) (virtual t b)) (ended t b x a h 1 1 0)
    ∙ ap (λ r. lines_in (virtual t (x ∷ a)) ++ r) (lines-moved l n (virtual t b))

-- ---- lines are counted

abbrev endings_in : List Seat → ℕ
endings_in seats = length (filter is_line_ending seats)

tab-count : (byte n line column index vs : ℕ) → (byte == 10) ≡ false → (ss : List Seat) → endings_in (in_tab byte n line column index vs ++ ss) ≡ endings_in ss
tab-count byte zero line column index vs h ss = refl
tab-count byte (suc n) line column index vs h ss =
    let s : Seat = record { byte = byte; point = point line column index vs; end = end_in_tab n line column index vs } in
    let rest = in_tab 32 n line (suc column) index (suc vs) ++ ss in
    ap (λ c. length (cond c (s ∷ filter is_line_ending rest) (filter is_line_ending rest))) h ∙ tab-count 32 n line (suc column) index (suc vs) refl ss

module _ (t : ℕ) where
  counted-step : (is_lf is_cr lf_comes is_tab : Bool) (x line column index more : ℕ) (rest : ℕ → ℕ → ℕ → List Seat) → (x == 10) ≡ is_lf → ((line column index : ℕ) → endings_in (rest line column index) ≡ more)
      → endings_in (step is_lf is_cr lf_comes is_tab t x line column index rest) ≡ count_step is_lf is_cr lf_comes more
  counted-step true is_cr lf_comes is_tab x line column index more rest e h = ap suc (h (suc line) 1 (suc index))
  counted-step false true true is_tab x line column index more rest e h = h line column (suc index)
  counted-step false true false is_tab x line column index more rest e h = ap suc (h (suc line) 1 (suc index))
  counted-step false false lf_comes true x line column index more rest e h = tab-count 9 (tab_width t column) line column index 0 refl (rest line (column + tab_width t column) (suc index)) ∙ h line (column + tab_width t column) (suc index)
  counted-step false false lf_comes false x line column index more rest e h =
      let r = rest line (suc column) (suc index) in
      ap (λ c. length (cond c (other_byte x line column index ∷ filter is_line_ending r) (filter is_line_ending r))) e ∙ h line (suc column) (suc index)

  counted : (a : List ℕ) (line column index : ℕ) → endings_in (virtual_from t line column index a) ≡ line_endings a
  counted [] line column index = refl
  counted (x ∷ a) line column index = counted-step (x == 10) (x == 13) (begins_with_lf a) (x == 9) x line column index (line_endings a) (λ line column index. virtual_from t line column index a) refl (counted a)

joined-length : (s next : Seat) (ss : List Seat) → length (joined s (lines_in (next ∷ ss))) ≡ length (lines_in (next ∷ ss))
joined-length s next ss = by (is_line_ending next) (lines_in ss)
  where
    by : (c : Bool) (ls : List (List Seat)) → length (joined s (cond c ((next ∷ []) ∷ ls) (joined next ls))) ≡ length (cond c ((next ∷ []) ∷ ls) (joined next ls))
    by true ls = refl
    by false [] = refl
    by false (line ∷ ls) = refl

lines-counted : (seats : List Seat) → is_ended seats ≡ true → length (lines_in seats) ≡ endings_in seats
lines-counted [] h = refl
lines-counted (s ∷ []) h = ap (λ c. length (cond c ((s ∷ []) ∷ []) ((s ∷ []) ∷ []))) h ∙ ap (λ c. length (cond c (s ∷ []) [])) (sym h)
lines-counted (s ∷ next ∷ ss) h = by (is_line_ending s) (lines-counted (next ∷ ss) h)
  where
    by : (c : Bool) → length (lines_in (next ∷ ss)) ≡ endings_in (next ∷ ss)
        → length (cond c ((s ∷ []) ∷ lines_in (next ∷ ss)) (joined s (lines_in (next ∷ ss)))) ≡ length (cond c (s ∷ filter is_line_ending (next ∷ ss)) (filter is_line_ending (next ∷ ss)))
    by true e = ap suc e
    by false e = joined-length s next ss ∙ e

pub lines-are-counted : LinesAreCounted
lines-are-counted t [] b h = refl
lines-are-counted t (x ∷ a) b h = lines-counted (virtual t (x ∷ a)) (ended t b x a h 1 1 0) ∙ counted t (x ∷ a) 1 1 0

-- ---- where virtual bytes stand
-- a virtual byte of these bytes, which ends one byte further on at most
abbrev pub IsNear : (most : ℕ) → Seat → Type 0
IsNear most s = (s.point.index < most) × (s.end.index ≤ s.point.index + 1)

module _ (t most : ℕ) where
  tab-near : (byte n line column index vs : ℕ) (ss : List Seat) → index < most → AllByRecursion (IsNear most) ss → AllByRecursion (IsNear most) (in_tab byte n line column index vs ++ ss)
  tab-near byte zero line column index vs ss l h = h
  tab-near byte (suc zero) line column index vs ss l h = ((l, omega arith), h)
  tab-near byte (suc (suc n)) line column index vs ss l h = ((l, omega arith), tab-near 32 (suc n) line (suc column) index (suc vs) ss l h)

  near-step : (is_lf is_cr lf_comes is_tab : Bool) (x k line column index : ℕ) (rest : ℕ → ℕ → ℕ → List Seat) → ((line column index : ℕ) → index + k ≤ most → AllByRecursion (IsNear most) (rest line column index)) → index + suc k ≤ most
      → AllByRecursion (IsNear most) (step is_lf is_cr lf_comes is_tab t x line column index rest)
  near-step true is_cr lf_comes is_tab x k line column index rest h l = ((omega (arith, l), omega arith), h (suc line) 1 (suc index) (omega (arith, l)))
  near-step false true true is_tab x k line column index rest h l = h line column (suc index) (omega (arith, l))
  near-step false true false is_tab x k line column index rest h l = ((omega (arith, l), omega arith), h (suc line) 1 (suc index) (omega (arith, l)))
  near-step false false lf_comes true x k line column index rest h l = tab-near 9 (tab_width t column) line column index 0 (rest line (column + tab_width t column) (suc index)) (omega (arith, l)) (h line (column + tab_width t column) (suc index) (omega (arith, l)))
  near-step false false lf_comes false x k line column index rest h l = ((omega (arith, l), omega arith), h line (suc column) (suc index) (omega (arith, l)))

  pub near : (a : List ℕ) (line column index : ℕ) → index + length a ≤ most → AllByRecursion (IsNear most) (virtual_from t line column index a)
  near [] line column index l = tt
  near (x ∷ a) line column index l = near-step (x == 10) (x == 13) (begins_with_lf a) (x == 9) x (length a) line column index (λ line column index. virtual_from t line column index a) (near a) l
