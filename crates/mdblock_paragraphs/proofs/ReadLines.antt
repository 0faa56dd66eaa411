-- Lines of a paragraph, as they are shown, are the lines of their virtual bytes: each but the last has its line ending, and no letter stands in its place.
use Rattle.std.proofs.Common.{◌≡◌, ◌⊎◌, ◌∙◌, ◌+◌, ◌-◌, ◌≤◌, ℕ, zero, suc, Bool, true, false, cond, List, [], ◌∷◌, ◌++◌, ap, append-nil, arith, drop, get_or, inl, inr, length, map, not, refl, sym}
use Rattle.std.specs.Prelude.{◌==◌, ◌&&◌}
use Rattle.std.specs.List.{AllByRecursion, list_any}
use Rattle.std.proofs.lemmas.Bool.{false≢true}
use Rattle.markdown_base.proofs.Common.{every-append, every-map}
use Rattle.markdown_base.specs.Virtual.{Seat, begins_with_lf, in_tab, line_feed, other_byte, tab_width, virtual_from}
use Rattle.mdconstructs_machines.specs.LineEvents.{all_of, ending_of, is_line_ending, joined, line_text, lines_in}
use Rattle.mdblock_leaf_blocks.proofs.Lines.WholeLines.{IsWhole}
use Rattle.mdblock_leaf_blocks.specs.LeafBlocks.{Line}
use Rattle.mdblock_containers.specs.Letters.{ArePlainFrom, is_plain, letter, lettered_seat}
use Rattle.mdblock_containers.specs.Rows.{has_none}
use Rattle.mdblock_paragraphs.proofs.OwnLetters.{has_letter}

-- ---- no letter stands in the place of a line ending

-- a line ending has the index of a byte that is not plain, of bytes of which the first has this index
abbrev AtEnding : (bytes : List ℕ) → (index : ℕ) → Seat → Type 0
AtEnding bytes n s = is_line_ending s ≡ true → (n ≤ s.point.index) × (is_plain (get_or bytes (s.point.index - n) 0) ≡ false)

tab-endings : (bytes : List ℕ) (n k byte line column index vs : ℕ) → (byte == 10) ≡ false → AllByRecursion (AtEnding bytes n) (in_tab byte k line column index vs)
tab-endings bytes n zero byte line column index vs e = tt
tab-endings bytes n (suc k) byte line column index vs e = ((λ m. absurd (false≢true (sym e ∙ m))), tab-endings bytes n k 32 line (suc column) index (suc vs) refl)

one-behind : (b : ℕ) (bs : List ℕ) (n : ℕ) (s : Seat) → AtEnding bs (suc n) s → AtEnding (b ∷ bs) n s
one-behind b bs n s h m =
    let p = h m in
    let within = p.0 in
    let on : s.point.index - n ≡ suc (s.point.index - suc n) = omega (arith, within) in
    (omega (arith, within), ap (λ i. is_plain (get_or (b ∷ bs) i 0)) on ∙ p.1)

not-plain : (b : ℕ) → ((b == 10) ≡ true) ⊎ ((b == 13) ≡ true) → is_plain b ≡ false
not-plain b h = by (b == 9) (b == 10) (b == 13) h
  where
    by : (x y z : Bool) → (y ≡ true) ⊎ (z ≡ true) → (not x && (not y && not z)) ≡ false
    by true y z h = refl
    by false true z h = refl
    by false false true h = refl
    by false false false (inl e) = absurd (false≢true e)
    by false false false (inr e) = absurd (false≢true e)

endings-not-plain : (t line column n : ℕ) (bs : List ℕ) → AllByRecursion (AtEnding bs n) (virtual_from t line column n bs)
endings-not-plain t line column n [] = tt
endings-not-plain t line column n (b ∷ bs) =
    by (λ l c. every-map (AtEnding bs (suc n)) (AtEnding (b ∷ bs) n) (one-behind b bs n) (virtual_from t l c (suc n) bs) (endings-not-plain t l c (suc n) bs)) (b == 10) (b == 13) (begins_with_lf bs) (b == 9) refl refl
  where
    here : ((b == 10) ≡ true) ⊎ ((b == 13) ≡ true) → (n ≤ n) × (is_plain (get_or (b ∷ bs) (n - n) 0) ≡ false)
    here h = let none : n - n ≡ 0 = omega arith in (omega arith, ap (λ i. is_plain (get_or (b ∷ bs) i 0)) none ∙ not-plain b h)

    by : ((l c : ℕ) → AllByRecursion (AtEnding (b ∷ bs) n) (virtual_from t l c (suc n) bs)) → (lf cr lf_comes tab : Bool) → (b == 10) ≡ lf → (b == 13) ≡ cr
        → AllByRecursion (AtEnding (b ∷ bs) n)
        (cond lf (line_feed line column n ∷ virtual_from t (suc line) 1 (suc n) bs)
        (cond cr (cond lf_comes (virtual_from t line column (suc n) bs) (line_feed line column n ∷ virtual_from t (suc line) 1 (suc n) bs))
        (cond tab (in_tab 9 (tab_width t column) line column n 0 ++ virtual_from t line (column + tab_width t column) (suc n) bs) (other_byte b line column n ∷ virtual_from t line (suc column) (suc n) bs))))
    by rest true cr lf_comes tab el ec = ((λ m. here (inl el)), rest (suc line) 1)
    by rest false true true tab el ec = rest line column
    by rest false true false tab el ec = ((λ m. here (inr ec)), rest (suc line) 1)
    by rest false false lf_comes true el ec =
        every-append (AtEnding (b ∷ bs) n) (in_tab 9 (tab_width t column) line column n 0) (virtual_from t line (column + tab_width t column) (suc n) bs) (tab-endings (b ∷ bs) n (tab_width t column) 9 line column n 0 refl)
        (rest line (column + tab_width t column))
    by rest false false lf_comes false el ec = ((λ m. absurd (false≢true (sym el ∙ m))), rest line (suc column))

-- a letter stands in the place of a plain byte
plain-at : (at : List ℕ) (n : ℕ) (bs : List ℕ) (j : ℕ) → ArePlainFrom n at bs → list_any (λ i. i == n + j) at ≡ true → is_plain (get_or bs j 0) ≡ true
plain-at at n [] j h e = refl
plain-at at n (b ∷ bs) zero h e = let on : n + 0 ≡ n = omega arith in h.0 (ap (λ k. list_any (λ i. i == k) at) (sym on) ∙ e)
plain-at at n (b ∷ bs) (suc j) h e = let on : n + suc j ≡ suc n + j = omega arith in plain-at at (suc n) bs j h.1 (ap (λ k. list_any (λ i. i == k) at) (sym on) ∙ e)

-- a line ending is shown as it is
abbrev pub IsShown : (at : List ℕ) → Seat → Type 0
IsShown at s = is_line_ending s ≡ true → has_letter at s ≡ false

pub endings-shown : (t : ℕ) (bytes at : List ℕ) → ArePlainFrom 0 at bytes → AllByRecursion (IsShown at) (virtual_from t 1 1 0 bytes)
endings-shown t bytes at plain = every-map (AtEnding bytes 0) (IsShown at) (λ s h e. by s (h e).1 (has_letter at s) refl) (virtual_from t 1 1 0 bytes) (endings-not-plain t 1 1 0 bytes)
  where
    by : (s : Seat) → is_plain (get_or bytes (s.point.index - 0) 0) ≡ false → (x : Bool) → has_letter at s ≡ x → has_letter at s ≡ false
    by s h false e = e
    by s h true e =
        let here : 0 + s.point.index ≡ s.point.index = omega arith in
        let same : s.point.index - 0 ≡ s.point.index = omega arith in
        let is = plain-at at 0 bytes s.point.index plain (ap (λ k. list_any (λ i. i == k) at) here ∙ e) in
        absurd (false≢true (sym h ∙ ap (λ i. is_plain (get_or bytes i 0)) same ∙ is))

same-ending : (at : List ℕ) (s : Seat) → IsShown at s → is_line_ending (lettered_seat at s) ≡ is_line_ending s
same-ending at s h = by (is_line_ending s) (has_letter at s) refl refl
  where
    by : (x y : Bool) → is_line_ending s ≡ x → has_letter at s ≡ y → (cond y letter s.byte == 10) ≡ x
    by true true e f = absurd (false≢true (sym (h e) ∙ f))
    by true false e f = e
    by false true e f = refl
    by false false e f = e

-- ---- one line

-- a line with its line ending
abbrev pub EndsLine : Line → Type 0
EndsLine [] = ⊥
EndsLine (s ∷ ss) = ((is_line_ending s ≡ false) × EndsLine ss) ⊎ ((is_line_ending s ≡ true) × (ss ≡ []))

pub ends-line : (line : Line) → IsWhole line → has_none (ending_of line) ≡ false → EndsLine line
ends-line [] h e = absurd (false≢true (sym e))
ends-line (s ∷ ss) (inl h) e = inl (h.0, ends-line ss h.1 (sym (ap (λ b. has_none (cond b (s ∷ ending_of ss) (ending_of ss))) h.0) ∙ e))
ends-line (s ∷ ss) (inr h) e = inr h

pub ends-behind : (n : ℕ) (line : Line) → EndsLine line → n ≤ length (line_text line) → EndsLine (drop n line)
ends-behind zero line h l = h
ends-behind (suc n) [] h l = absurd h
ends-behind (suc n) (s ∷ ss) (inl h) l =
    let is = ap (λ b. length (cond (not b) (s ∷ line_text ss) (line_text ss))) h.0 in
    ends-behind n ss h.1 (omega (arith, l, is))
ends-behind (suc n) (s ∷ ss) (inr h) l =
    let is = ap (λ b. length (cond (not b) (s ∷ line_text ss) (line_text ss))) h.0 in
    let none = ap (λ (r : Line). length (line_text r)) h.1 in
    absurd (omega (arith, l, is, none))

pub whole-shown : (at : List ℕ) (line : Line) → AllByRecursion (IsShown at) line → IsWhole line → IsWhole (map (lettered_seat at) line)
whole-shown at [] k h = tt
whole-shown at (s ∷ ss) k (inl h) = inl (same-ending at s k.0 ∙ h.0, whole-shown at ss k.1 h.1)
whole-shown at (s ∷ ss) k (inr h) = inr (same-ending at s k.0 ∙ h.0, ap (map (lettered_seat at)) h.1)

pub ends-shown : (at : List ℕ) (line : Line) → AllByRecursion (IsShown at) line → EndsLine line → EndsLine (map (lettered_seat at) line)
ends-shown at [] k h = h
ends-shown at (s ∷ ss) k (inl h) = inl (same-ending at s k.0 ∙ h.0, ends-shown at ss k.1 h.1)
ends-shown at (s ∷ ss) k (inr h) = inr (same-ending at s k.0 ∙ h.0, ap (map (lettered_seat at)) h.1)

-- ---- lines of their virtual bytes

first-line : (line : Line) (rest : List Seat) → EndsLine line → lines_in (line ++ rest) ≡ line ∷ lines_in rest
first-line [] rest h = absurd h
first-line (s ∷ ss) rest (inl h) = ap (λ b. cond b ((s ∷ []) ∷ lines_in (ss ++ rest)) (joined s (lines_in (ss ++ rest)))) h.0 ∙ ap (joined s) (first-line ss rest h.1)
first-line (s ∷ ss) rest (inr h) =
    ap (λ b. cond b ((s ∷ []) ∷ lines_in (ss ++ rest)) (joined s (lines_in (ss ++ rest)))) h.0 ∙ ap (λ (l : Line). (s ∷ []) ∷ lines_in (l ++ rest)) h.1 ∙ ap (λ (l : Line). (s ∷ l) ∷ lines_in rest) (sym h.1)

last-line : (line : Line) → IsWhole line → 1 ≤ length line → lines_in line ≡ line ∷ []
last-line [] h some = absurd (omega (arith, some))
last-line (s ∷ []) (inl h) some = ap (λ b. cond b ((s ∷ []) ∷ []) ((s ∷ []) ∷ [])) h.0
last-line (s ∷ r ∷ ss) (inl h) some = ap (λ b. cond b ((s ∷ []) ∷ lines_in (r ∷ ss)) (joined s (lines_in (r ∷ ss)))) h.0 ∙ ap (joined s) (last-line (r ∷ ss) h.1 (omega arith))
last-line (s ∷ ss) (inr h) some = ap (λ b. cond b ((s ∷ []) ∷ lines_in ss) (joined s (lines_in ss))) h.0 ∙ ap (λ (l : Line). (s ∷ []) ∷ lines_in l) h.1 ∙ ap (λ (l : Line). (s ∷ l) ∷ []) (sym h.1)

-- each line but the last has its line ending, and the last one a byte
abbrev pub AreLines : List Line → Type 0
AreLines [] = Unit {0}
AreLines (l ∷ []) = IsWhole l × (1 ≤ length l)
AreLines (l ∷ m ∷ ls) = EndsLine l × AreLines (m ∷ ls)

pub lines-of-all : (ls : List Line) → AreLines ls → lines_in (all_of ls) ≡ ls
lines-of-all [] h = refl
lines-of-all (l ∷ []) h = ap lines_in (append-nil l) ∙ last-line l h.0 h.1
lines-of-all (l ∷ m ∷ ls) h = first-line l (all_of (m ∷ ls)) h.0 ∙ ap (λ k. l ∷ k) (lines-of-all (m ∷ ls) h.1)
