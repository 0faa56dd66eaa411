-- The lines of a document: their numbers, and the indices of their virtual bytes, which rise from line to line, and in a line but for those of white space.
use Rattle.std.proofs.Common.{◌≡◌, ℕ, zero, suc, ◌+◌, ◌<◌, ◌≤◌, Bool, true, false, cond, List, [], ◌∷◌, ◌++◌, ap, arith, refl, subst, sym, ◌∙◌}
use Rattle.std.specs.Prelude.{◌==◌, ◌&&◌}
use Rattle.std.specs.List.{AllByRecursion}
use Rattle.std.proofs.lemmas.Bool.{false≢true}
use Rattle.markdown_base.proofs.Common.{every-map}
use Rattle.markdown_base.specs.declared.configuration.Constructs.{Constructs}
use Rattle.markdown_base.specs.Virtual.{Seat, begins_with_lf, end_in_tab, in_tab, line_feed, other_byte, point, tab_width, virtual_from}
use Rattle.mdconstructs_tables.specs.Breaks.{is_white}
use Rattle.mdconstructs_machines.specs.LineEvents.{joined, lines_in}
use Rattle.mdblock_leaf_blocks.specs.LeafBlocks.{Line}
use Rattle.mdblock_containers.specs.Rows.{Row}
use Rattle.mdblock_definitions.specs.Rows.{Known, known_after, row_of, rows_from}

-- one virtual byte comes before another: its index is less, unless both are white space
abbrev pub IsApart : Seat → Seat → Type 0
IsApart s r = (is_white s.byte && is_white r.byte) ≡ false → s.point.index < r.point.index

abbrev pub AreApart : List Seat → Type 0
AreApart [] = Unit {0}
AreApart (s ∷ ss) = AllByRecursion (IsApart s) ss × AreApart ss

-- it is of the line with this number, and its index is one of these
abbrev pub IsLaid : (number low high : ℕ) → Seat → Type 0
IsLaid number low high s = (s.point.line ≡ number) × (low ≤ s.point.index) × (s.point.index < high)

-- lines, of which the first has this number, and no index below this one
abbrev pub AreLaid : (number low : ℕ) → List Line → Type 0
AreLaid number low [] = Unit {0}
AreLaid number low (l ∷ ls) = (high : ℕ) × (low < high) × AllByRecursion (IsLaid number low high) l × AreApart l × AreLaid (suc number) high ls

-- and white space of that index may be in front
abbrev AreTabbed : (number low : ℕ) → List Line → Type 0
AreTabbed number low [] = Unit {0}
AreTabbed number low (l ∷ ls) =
    (high : ℕ) × (low < high) × AllByRecursion (IsLaid number low high) l × AllByRecursion (λ (r : Seat). is_white r.byte ≡ false → low < r.point.index) l × AreApart l × AreLaid (suc number) high ls

lower : (number low least : ℕ) (ls : List Line) → least ≤ low → AreLaid number low ls → AreLaid number least ls
lower number low least [] less h = tt
lower number low least (l ∷ ls) less (high, some, all, apart, rest) =
    (high, omega (arith, less, some), every-map (IsLaid number low high) (IsLaid number least high) (λ s h. (h.0, (let from = h.1 in omega (arith, less, from)), h.2)) l all, apart, rest)

raised : (number low : ℕ) (ls : List Line) → AreLaid number (suc low) ls → AreTabbed number low ls
raised number low [] h = tt
raised number low (l ∷ ls) (high, some, all, apart, rest) = (
  high,
  omega (arith, some),
  every-map (IsLaid number (suc low) high) (IsLaid number low high) (λ s h. (h.0, (let from = h.1 in omega (arith, from)), h.2)) l all,
  every-map (IsLaid number (suc low) high) (λ (r : Seat). is_white r.byte ≡ false → low < r.point.index) (λ s h e. let from = h.1 in omega (arith, from)) l all,
  apart,
  rest,
)

untabbed : (number low : ℕ) (ls : List Line) → AreTabbed number low ls → AreLaid number low ls
untabbed number low [] h = tt
untabbed number low (l ∷ ls) (high, some, all, others, apart, rest) = (high, some, all, apart, rest)

-- one more in front of a line
other-joined : (s : Seat) (number low : ℕ) (ls : List Line) → s.point.line ≡ number → s.point.index ≡ low → AreLaid number (suc low) ls → AreLaid number low (joined s ls)
other-joined s number low [] is at h = (suc low, omega arith, ((is, omega (arith, at), omega (arith, at)), tt), (tt, tt), tt)
other-joined s number low (l ∷ ls) is at (high, some, all, apart, rest) = (
  high,
  omega (arith, some),
  (
    (is, omega (arith, at), omega (arith, at, some)),
    every-map (IsLaid number (suc low) high) (IsLaid number low high) (λ r h. (h.0, (let from = h.1 in omega (arith, from)), h.2)) l all,
  ),
  (every-map (IsLaid number (suc low) high) (IsApart s) (λ r h e. let from = h.1 in omega (arith, from, at)) l all, apart),
  rest,
)

tab-joined : (s : Seat) (number low : ℕ) (ls : List Line) → is_white s.byte ≡ true → s.point.line ≡ number → s.point.index ≡ low → AreTabbed number low ls → AreTabbed number low (joined s ls)
tab-joined s number low [] white is at h = (suc low, omega arith, ((is, omega (arith, at), omega (arith, at)), tt), ((λ e. absurd (false≢true (sym e ∙ white))), tt), (tt, tt), tt)
tab-joined s number low (l ∷ ls) white is at (high, some, all, others, apart, rest) = (
  high,
  some,
  ((is, omega (arith, at), omega (arith, at, some)), all),
  ((λ e. absurd (false≢true (sym e ∙ white))), others),
  (
    every-map (λ (r : Seat). is_white r.byte ≡ false → low < r.point.index) (IsApart s) (λ r h e. let later = h (sym (ap (λ b. b && is_white r.byte) white) ∙ e) in omega (arith, later, at)) l others,
    apart,
  ),
  rest,
)

tab-laid : (k byte line column index vs : ℕ) (ss : List Seat) → is_white byte ≡ true → (byte == 10) ≡ false → AreTabbed line index (lines_in ss) → AreTabbed line index (lines_in (in_tab byte k line column index vs ++ ss))
tab-laid zero byte line column index vs ss white e h = h
tab-laid (suc k) byte line column index vs ss white e h =
    let s : Seat = record { byte = byte; point = point line column index vs; end = end_in_tab k line column index vs } in
    let more = tab-laid k 32 line (suc column) index (suc vs) ss refl refl h in
    let ls = lines_in (in_tab 32 k line (suc column) index (suc vs) ++ ss) in
    subst (λ b. AreTabbed line index (cond b ((s ∷ []) ∷ ls) (joined s ls))) (sym e) (tab-joined s line index ls white refl refl more)

pub virtual-laid : (t line column index : ℕ) (bs : List ℕ) → AreLaid line index (lines_in (virtual_from t line column index bs))
virtual-laid t line column index [] = tt
virtual-laid t line column index (b ∷ bs) = by (λ l c. virtual-laid t l c (suc index) bs) (b == 10) (b == 13) (begins_with_lf bs) (b == 9) refl
  where
    by : ((l c : ℕ) → AreLaid l (suc index) (lines_in (virtual_from t l c (suc index) bs))) → (lf cr lf_comes tab : Bool) → (b == 10) ≡ lf
        → AreLaid line index (lines_in
        (cond lf (line_feed line column index ∷ virtual_from t (suc line) 1 (suc index) bs)
        (cond cr (cond lf_comes (virtual_from t line column (suc index) bs) (line_feed line column index ∷ virtual_from t (suc line) 1 (suc index) bs))
        (cond tab (in_tab 9 (tab_width t column) line column index 0 ++ virtual_from t line (column + tab_width t column) (suc index) bs) (other_byte b line column index ∷ virtual_from t line (suc column) (suc index) bs)))))
    by rest true cr lf_comes tab e = (suc index, omega arith, ((refl, omega arith, omega arith), tt), (tt, tt), rest (suc line) 1)
    by rest false true true tab e = lower line (suc index) index _ (omega arith) (rest line column)
    by rest false true false tab e = (suc index, omega arith, ((refl, omega arith, omega arith), tt), (tt, tt), rest (suc line) 1)
    by rest false false lf_comes true e =
        let n = tab_width t column in
        let ss = virtual_from t line (column + n) (suc index) bs in
        untabbed line index _ (tab-laid n 9 line column index 0 ss refl refl (raised line index (lines_in ss) (rest line (column + n))))
    by rest false false lf_comes false e =
        let s = other_byte b line column index in
        let ls = lines_in (virtual_from t line (suc column) (suc index) bs) in
        subst (λ x. AreLaid line index (cond x ((s ∷ []) ∷ ls) (joined s ls))) (sym e) (other-joined s line index ls refl refl (rest line (suc column)))

-- ---- lines with their containers
abbrev pub AreRowsLaid : (number low : ℕ) → List Row → Type 0
AreRowsLaid number low [] = Unit {0}
AreRowsLaid number low (r ∷ rs) = (r.number ≡ number) × (high : ℕ) × (low < high) × AllByRecursion (IsLaid number low high) r.line × AreApart r.line × AreRowsLaid (suc number) high rs

pub rows-laid : (on : Constructs) (k : Known) (number low : ℕ) (ls : List Line) → AreLaid number low ls → AreRowsLaid number low (rows_from on k number ls)
rows-laid on k number low [] h = tt
rows-laid on k number low (l ∷ ls) (high, some, all, apart, rest) = (refl, high, some, all, apart, rows-laid on (known_after on k (row_of on k number l)) (suc number) high ls rest)
