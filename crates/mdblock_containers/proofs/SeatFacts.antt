-- Virtual bytes and lines of a document: where virtual bytes end, and which lines have a line ending.
use Rattle.std.proofs.Common.{◌≡◌, ℕ, zero, suc, ◌+◌, ◌≤◌, Bool, true, false, cond, List, [], ◌∷◌, ◌++◌, length, take, drop, refl, sym, ap, ◌∙◌, arith, inl, inr}
use Rattle.std.specs.Prelude.{◌==◌, not}
use Rattle.std.specs.List.{AllByRecursion}
use Rattle.std.proofs.lemmas.Bool.{false≢true}
use Rattle.std.proofs.lemmas.Bool.Decides.{nat_tests}
use Rattle.std.proofs.lemmas.List.{length-take-le, take-append-le}
use Rattle.std.proofs.Math.Seq.{drop-append_seam}
use Rattle.markdown_base.proofs.Common.{every-append}
use Rattle.markdown_base.specs.declared.event.Point.{Point}
use Rattle.markdown_base.specs.Places.{shown, stands_before}
use Rattle.markdown_base.specs.Virtual.{Seat, begins_with_lf, end_after, end_in_tab, in_tab, line_feed, other_byte, point, tab_width, virtual, virtual_from}
use Rattle.markdown_tokenizer.proofs.Positions.Points.{shown-line}
use Rattle.markdown_tokenizer.proofs.Positions.Standing.{shown-upto}
use Rattle.mdblock_leaf_blocks.proofs.Lines.WholeLines.{IsWhole, text-and-ending, text-behind, whole-lines}
use Rattle.mdblock_leaf_blocks.proofs.Marks.Courses.{Track, track-upto}
use Rattle.mdblock_leaf_blocks.specs.LeafBlocks.{Line}
use Rattle.mdconstructs_machines.specs.LineEvents.{ending_of, is_line_ending, joined, line_text, lines_in}
use Rattle.mdblock_containers.proofs.PlainLetters.{lines_each}
use Rattle.mdblock_containers.specs.Rows.{has_none}

-- Where a virtual byte ends: later, in its line; or at the beginning of the next, if it is a line ending
pub record SeatEnds (s : Seat) : Type 0 where
  pub in_line : is_line_ending s ≡ false → s.end.line ≡ s.point.line
  pub begins : is_line_ending s ≡ true → s.end.column ≡ 1
  pub later : stands_before s.point s.end ≡ true

pub tab_ends : (k byte line column index vs : ℕ) → (byte == 10) ≡ false → AllByRecursion SeatEnds (in_tab byte k line column index vs)
tab_ends zero byte line column index vs e = tt
tab_ends (suc k) byte line column index vs e = (by k, tab_ends k 32 line (suc column) index (suc vs) refl)
  where
    by : (k : ℕ) → SeatEnds (record { byte = byte; point = point line column index vs; end = end_in_tab k line column index vs })
    by zero = record { in_line = λ h. refl; begins = λ h. absurd (false≢true (sym e ∙ h)); later = grind (arith, nat_tests) }
    by (suc k) = record { in_line = λ h. refl; begins = λ h. absurd (false≢true (sym e ∙ h)); later = grind (arith, nat_tests) }

pub feed_ends : (line column index : ℕ) → SeatEnds (line_feed line column index)
feed_ends line column index = record { in_line = λ h. absurd (false≢true (sym h)); begins = λ h. refl; later = grind (arith, nat_tests) }

pub seats_end_from : (t line column index : ℕ) (bs : List ℕ) → AllByRecursion SeatEnds (virtual_from t line column index bs)
seats_end_from t line column index [] = tt
seats_end_from t line column index (b ∷ bs) = by (λ l c. seats_end_from t l c (suc index) bs) (b == 10) (b == 13) (begins_with_lf bs) (b == 9) refl
  where
    by : ((l c : ℕ) → AllByRecursion SeatEnds (virtual_from t l c (suc index) bs)) → (lf cr lf_comes tab : Bool) → (b == 10) ≡ lf
        → AllByRecursion SeatEnds
        (cond lf (line_feed line column index ∷ virtual_from t (suc line) 1 (suc index) bs)
        (cond cr (cond lf_comes (virtual_from t line column (suc index) bs) (line_feed line column index ∷ virtual_from t (suc line) 1 (suc index) bs))
        (cond tab (in_tab 9 (tab_width t column) line column index 0 ++ virtual_from t line (column + tab_width t column) (suc index) bs) (other_byte b line column index ∷ virtual_from t line (suc column) (suc index) bs))))
    by rest true cr lf_comes tab e = (feed_ends line column index, rest (suc line) 1)
    by rest false true true tab e = rest line column
    by rest false true false tab e = (feed_ends line column index, rest (suc line) 1)
    by rest false false lf_comes true e =
        every-append SeatEnds (in_tab 9 (tab_width t column) line column index 0) (virtual_from t line (column + tab_width t column) (suc index) bs) (tab_ends (tab_width t column) 9 line column index 0 refl) (rest line (column + tab_width t column))
    by rest false false lf_comes false e = (record { in_line = λ h. refl; begins = λ h. absurd (false≢true (sym e ∙ h)); later = grind (arith, nat_tests) }, rest line (suc column))

-- ---- lines

-- a line is whole and not empty
pub record LineIs (line : Line) : Type 0 where
  pub whole : IsWhole line
  pub ends : AllByRecursion SeatEnds line
  pub some : has_none line ≡ false

-- each line but the last has a line ending
abbrev pub LinesEnd : List Line → Type 0
LinesEnd [] = Unit {0}
LinesEnd (l ∷ []) = Unit {0}
LinesEnd (l ∷ m ∷ ls) = (has_none (ending_of l) ≡ false) × LinesEnd (m ∷ ls)

pub some_in_lines : (ss : List Seat) → AllByRecursion (λ (l : Line). has_none l ≡ false) (lines_in ss)
some_in_lines [] = tt
some_in_lines (s ∷ ss) = by (is_line_ending s) (lines_in ss) (some_in_lines ss)
  where
    by : (x : Bool) (ls : List Line) → AllByRecursion (λ (l : Line). has_none l ≡ false) ls → AllByRecursion (λ (l : Line). has_none l ≡ false) (cond x ((s ∷ []) ∷ ls) (joined s ls))
    by true ls h = (refl, h)
    by false [] h = (refl, tt)
    by false (l ∷ ls) h = (refl, h.1)

pub all_are_lines : (ls : List Line) → AllByRecursion IsWhole ls → AllByRecursion (AllByRecursion SeatEnds) ls → AllByRecursion (λ (l : Line). has_none l ≡ false) ls → AllByRecursion LineIs ls
all_are_lines [] w e s = tt
all_are_lines (l ∷ ls) w e s = (record { whole = w.0; ends = e.0; some = s.0 }, all_are_lines ls w.1 e.1 s.1)

pub document_lines : (t : ℕ) (bytes : List ℕ) → AllByRecursion LineIs (lines_in (virtual t bytes))
document_lines t bytes = let seats = virtual t bytes in all_are_lines (lines_in seats) (whole-lines seats) (lines_each SeatEnds seats (seats_end_from t 1 1 0 bytes)) (some_in_lines seats)

pub lines_end : (ss : List Seat) → LinesEnd (lines_in ss)
lines_end [] = tt
lines_end (s ∷ ss) = by (is_line_ending s) (lines_in ss) refl (lines_end ss)
  where
    by : (x : Bool) (ls : List Line) → is_line_ending s ≡ x → LinesEnd ls → LinesEnd (cond x ((s ∷ []) ∷ ls) (joined s ls))
    by true [] e h = tt
    by true (l ∷ ls) e h = (ap (λ b. has_none (cond b (s ∷ []) [])) e, h)
    by false [] e h = tt
    by false (l ∷ []) e h = tt
    by false (l ∷ m ∷ ls) e h = (ap (λ b. has_none (cond b (s ∷ ending_of l) (ending_of l))) e ∙ h.0, h.1)

-- the line ending stays, whatever columns of the text go
pub behind_ends : (line : Line) (c : ℕ) → LineIs line → has_none (ending_of line) ≡ false → c ≤ length (line_text line) → (p : Point) → (end_after p (drop c line)).column ≡ 1
behind_ends line c h = full line c h.whole h.ends
  where
    full : (line : Line) (c : ℕ) → IsWhole line → AllByRecursion SeatEnds line → has_none (ending_of line) ≡ false → c ≤ length (line_text line) → (p : Point) → (end_after p (drop c line)).column ≡ 1
    full [] c w ends some few p = absurd (false≢true (sym some))
    full (s ∷ ss) zero (inl w) ends some few p = full ss zero w.1 ends.1 (sym (ap (λ b. has_none (cond b (s ∷ ending_of ss) (ending_of ss))) w.0) ∙ some) (omega arith) s.end
    full (s ∷ ss) (suc c) (inl w) ends some few p =
        let size = ap (λ b. length (cond (not b) (s ∷ line_text ss) (line_text ss))) w.0 in
        full ss c w.1 ends.1 (sym (ap (λ b. has_none (cond b (s ∷ ending_of ss) (ending_of ss))) w.0) ∙ some) (omega (arith, few, size)) p
    full (s ∷ ss) zero (inr w) ends some few p = ap (λ l. (end_after s.end l).column) w.1 ∙ ends.0.begins w.0
    full (s ∷ ss) (suc c) (inr w) ends some few p =
        let size = ap (λ b. length (cond (not b) (s ∷ line_text ss) (line_text ss))) w.0 ∙ ap (λ l. length (line_text l)) w.1 in
        absurd (omega (arith, few, size))

-- no virtual byte of a line's text is a line ending
pub text_only : (line : Line) (c : ℕ) → IsWhole line → c ≤ length (line_text line) → AllByRecursion (λ (s : Seat). is_line_ending s ≡ false) (take c line)
text_only line zero w few = tt
text_only [] (suc c) w few = tt
text_only (s ∷ ss) (suc c) (inl w) few =
    let size = ap (λ b. length (cond (not b) (s ∷ line_text ss) (line_text ss))) w.0 in
    (w.0, text_only ss c w.1 (omega (arith, few, size)))
text_only (s ∷ ss) (suc c) (inr w) few =
    let size = ap (λ b. length (cond (not b) (s ∷ line_text ss) (line_text ss))) w.0 ∙ ap (λ l. length (line_text l)) w.1 in
    absurd (omega (arith, few, size))

-- a line begins with its text
pub line_front : (line : Line) → IsWhole line → line ≡ line_text line ++ ending_of line
line_front line w = sym (text-and-ending line w)

pub take_text : (line : Line) (c : ℕ) → IsWhole line → c ≤ length (line_text line) → take c line ≡ take c (line_text line)
take_text line c w few = ap (take c) (line_front line w) ∙ take-append-le c (line_text line) (ending_of line) few

pub drop_text : (line : Line) (c : ℕ) → IsWhole line → c ≤ length (line_text line) → line_text (drop c line) ≡ drop c (line_text line)
drop_text line c w few =
    let front = take c line in
    let all : front ++ line_text (drop c line) ≡ line_text line = text-behind c line w few in
    let size : length front ≡ c = ap length (take_text line c w few) ∙ length-take-le c (line_text line) few in
    sym (sym (ap (drop c) all) ∙ ap (λ k. drop k (front ++ line_text (drop c line))) (sym size) ∙ drop-append_seam front (line_text (drop c line)))

-- ---- places

-- a place before another, which is not behind a third
pub before_upto : (p q r : Point) → stands_before p q ≡ true → stands_before r q ≡ false → stands_before p r ≡ true
before_upto p q r h k = grind (arith, nat_tests)

pub upto_before : (p q r : Point) → stands_before q p ≡ false → stands_before q r ≡ true → stands_before p r ≡ true
upto_before p q r h k = grind (arith, nat_tests)

module _ (t : ℕ) (bytes : List ℕ) where
  -- where virtual bytes of one line end: later, in the same line
  pub ends_in_line : (p : Point) (ss rest : List Seat) → AllByRecursion SeatEnds ss → AllByRecursion (λ (s : Seat). is_line_ending s ≡ false) ss → Track t bytes p (ss ++ rest) → (end_after p ss).line ≡ p.line
  ends_in_line p [] rest ends text track = refl
  ends_in_line p (s ∷ ss) rest ends text track =
      ends_in_line s.end ss rest ends.1 text.1 track.2 ∙ ends.0.in_line text.0 ∙ sym (shown-line bytes s.point) ∙ ap (λ (q : Point). q.line) track.1.meets

  pub ends_later : (p : Point) (ss rest : List Seat) → has_none ss ≡ false → AllByRecursion SeatEnds ss → Track t bytes p (ss ++ rest) → stands_before p (end_after p ss) ≡ true
  ends_later p [] rest some ends track = absurd (false≢true (sym some))
  ends_later p (s ∷ ss) rest some ends track =
      let first : stands_before (shown bytes s.point) s.end ≡ true = upto_before (shown bytes s.point) s.point s.end (shown-upto t bytes s.point) ends.0.later in
      let here : stands_before p s.end ≡ true = ap (λ (q : Point). stands_before q s.end) (sym track.1.meets) ∙ first in
      before_upto p s.end (end_after s.end ss) here (track-upto t bytes s.end ss rest track.2)
