-- A document with letters at its lazy underlines: its lines, and those of its parts.
use Rattle.mddocument_parts.proofs.Prelude.{AllByRecursion, Bool, Constructs, Enter, Exit, Line, List, Name, None, Seat, [], all_of, and-left, ap, arith, begins_line, begins_with_lf, blank_line, body, cond, drop, end_after, ending_of, false, flat_map, in_tab, inl, inr, is_line_ending, joined, last_end, leaf_block_marks, leaf_blocks_marks, leaf_marks, length, line_endings, line_text, lines_in, map, map-append, not, refl, shown, subst, suc, sym, tab_width, true, virtual, virtual_from, zero, ℕ, ◌&&◌, ◌++◌, ◌+◌, ◌<◌, ◌==◌, ◌||◌, ◌∙◌, ◌∷◌, ◌≡◌, ◌≤◌}
use Rattle.std.proofs.Math.Bool.{or-false}
use Rattle.std.proofs.lemmas.Bool.Decides.{nat_tests}
use Rattle.std.proofs.lemmas.List.Folds.{list_any-append}
use Rattle.std.specs.List.{list_any}
use Rattle.std.specs.Prelude.{is_some, take}
use Rattle.markdown_base.proofs.Common.{every-append, every-drop, every-take, every-map}
use Rattle.markdown_base.specs.declared.event.Name.TheVariants as name
use Rattle.markdown_tokenizer.proofs.Positions.Order.{every-back, every-front}
use Rattle.mdblock_leaf_blocks.proofs.Lines.WholeLines.{IsWhole}
use Rattle.mdblock_leaf_blocks.proofs.Marks.LeafSpans.{text-shorter}
use Rattle.mdblock_leaf_blocks.specs.BlocksRead.{block_seats}
use Rattle.mdblock_leaf_blocks.specs.LineKinds.{indent, underline_rank}
use Rattle.mdblock_containers.proofs.LetterPlaces.{places_kept}
use Rattle.mdblock_containers.specs.Letters.{ArePlainFrom, is_plain, lazy_underline, letter, lettered_from, lettered_seat, with_letters}
use Rattle.mdblock_containers.specs.Rows.{Row, rest_of}
use Rattle.mdblock_definitions.proofs.Covered.{rows_of, sections-hold-lines}
use Rattle.mdblock_definitions.proofs.PlainLetters.{letters-are-plain, open-not-blank}
use Rattle.mdblock_definitions.specs.Rows.{Known, known_after, row_of, rows, rows_from}
use Rattle.mdblock_definitions.specs.Sections.{Inside, Section, defined, lines, sections, table}
use Rattle.mdblock_definitions.specs.Skeleton.{all_rows, letters, letters_of_section, text_begin}
use Rattle.mddocument_parts.proofs.DocumentLabels.{letters-of-both}
use Rattle.mddocument_parts.proofs.Events.{in-lines}
use Rattle.mddocument_parts.proofs.Virtual.{step, IsNear, near}
use Rattle.mddocument_parts.specs.DocumentRests.{begins_at_document_rest, first_at_document_rest, known_at_start}
use Rattle.mddocument_parts.proofs.Choices.{cond-of}

-- ==== Lines of a document with letters: they end where its lines do, and are shown at the same places.
-- ---- line endings stay
module _ (at : List ℕ) where
  abbrev is_listed : ℕ → Bool
  is_listed index = list_any (λ i. i == index) at

  -- a virtual byte is a line ending as it was
  abbrev pub Keeps : Seat → Type 0
  Keeps s = is_line_ending (lettered_seat at s) ≡ is_line_ending s

  keep-other : (b : ℕ) (c : Bool) → (b == 10) ≡ false → (cond c letter b == 10) ≡ (b == 10)
  keep-other b true e = sym e
  keep-other b false e = refl

  keep-ending : (c : Bool) → (c ≡ true → ⊥) → (cond c letter 10 == 10) ≡ true
  keep-ending true h = absurd (h refl)
  keep-ending false h = refl

  tab-keeps : (byte n line column index vs : ℕ) (ss : List Seat) → (byte == 10) ≡ false → AllByRecursion Keeps ss → AllByRecursion Keeps (in_tab byte n line column index vs ++ ss)
  tab-keeps byte zero line column index vs ss e h = h
  tab-keeps byte (suc zero) line column index vs ss e h = (keep-other byte (is_listed index) e, h)
  tab-keeps byte (suc (suc n)) line column index vs ss e h = (keep-other byte (is_listed index) e, tab-keeps 32 (suc n) line (suc column) index (suc vs) ss refl h)

  step-keeps : (t : ℕ) (is_lf is_cr lf_comes is_tab : Bool) (x line column index : ℕ) (rest : ℕ → ℕ → ℕ → List Seat) → (x == 10) ≡ is_lf → (x == 13) ≡ is_cr → (is_listed index ≡ true → is_plain x ≡ true)
      → ((line column index : ℕ) → AllByRecursion Keeps (rest line column index)) → AllByRecursion Keeps (step is_lf is_cr lf_comes is_tab t x line column index rest)
  step-keeps t true is_cr lf_comes is_tab x line column index rest lf cr plain h = (keep-ending (is_listed index) (λ e. ends-no (x == 9) (x == 13) (subst (λ b. (not (x == 9) && (not b && not (x == 13))) ≡ true) lf (plain e))), h (suc line) 1 (suc index))
    where
      ends-no : (t r : Bool) → (not t && (not true && not r)) ≡ true → ⊥
      ends-no t r k = grind arith
  step-keeps t false true true is_tab x line column index rest lf cr plain h = h line column (suc index)
  step-keeps t false true false is_tab x line column index rest lf cr plain h = (keep-ending (is_listed index) (λ e. ends-no (x == 9) (x == 10) (subst (λ b. (not (x == 9) && (not (x == 10) && not b)) ≡ true) cr (plain e))), h (suc line) 1 (suc index))
    where
      ends-no : (t l : Bool) → (not t && (not l && not true)) ≡ true → ⊥
      ends-no t l k = grind arith
  step-keeps t false false lf_comes true x line column index rest lf cr plain h = tab-keeps 9 (tab_width t column) line column index 0 (rest line (column + tab_width t column) (suc index)) refl (h line (column + tab_width t column) (suc index))
  step-keeps t false false lf_comes false x line column index rest lf cr plain h = (keep-other x (is_listed index) lf, h line (suc column) (suc index))

  keeps-from : (t line column index : ℕ) (bytes : List ℕ) → ArePlainFrom index at bytes → AllByRecursion Keeps (virtual_from t line column index bytes)
  keeps-from t line column index [] h = tt
  keeps-from t line column index (x ∷ bytes) h =
      step-keeps t (x == 10) (x == 13) (begins_with_lf bytes) (x == 9) x line column index (λ l c i. virtual_from t l c (suc index) bytes) refl refl h.0 (λ l c i. keeps-from t l c (suc index) bytes h.1)

  pub seats-keep : (t : ℕ) (bytes : List ℕ) → ArePlainFrom 0 at bytes → AllByRecursion Keeps (virtual t bytes)
  seats-keep t bytes plain = keeps-from t 1 1 0 bytes plain

  pub document-keeps : (t : ℕ) (bytes : List ℕ) → ArePlainFrom 0 at bytes → AllByRecursion (AllByRecursion Keeps) (lines_in (virtual t bytes))
  document-keeps t bytes plain = in-lines Keeps (virtual t bytes) (seats-keep t bytes plain)

  -- ---- lines with letters
  abbrev pub lettered : Line → Line
  lettered line = map (lettered_seat at) line

  abbrev pub all_lettered : List Line → List Line
  all_lettered ls = map lettered ls

  pub text-with-letters : (line : Line) → AllByRecursion Keeps line → line_text (lettered line) ≡ lettered (line_text line)
  text-with-letters [] h = refl
  text-with-letters (s ∷ ss) h =
      (λ i. cond (not (h.0 i)) (lettered_seat at s ∷ text-with-letters ss h.1 i) (text-with-letters ss h.1 i)) ∙ cond-of lettered (not (is_line_ending s)) (s ∷ line_text ss) (line_text ss)

  pub ending-with-letters : (line : Line) → AllByRecursion Keeps line → ending_of (lettered line) ≡ lettered (ending_of line)
  ending-with-letters [] h = refl
  ending-with-letters (s ∷ ss) h =
      (λ i. cond (h.0 i) (lettered_seat at s ∷ ending-with-letters ss h.1 i) (ending-with-letters ss h.1 i)) ∙ cond-of lettered (is_line_ending s) (s ∷ ending_of ss) (ending_of ss)

  body-with-letters : (ls : List Line) → AllByRecursion (AllByRecursion Keeps) ls → body (all_lettered ls) ≡ lettered (body ls)
  body-with-letters [] h = refl
  body-with-letters (line ∷ []) h = text-with-letters line h.0
  body-with-letters (line ∷ next ∷ ls) h = ap (λ l. lettered line ++ l) (body-with-letters (next ∷ ls) h.1) ∙ sym (map-append (lettered_seat at) line (body (next ∷ ls)))

  all-with-letters : (ls : List Line) → all_of (all_lettered ls) ≡ lettered (all_of ls)
  all-with-letters [] = refl
  all-with-letters (line ∷ ls) = ap (λ l. lettered line ++ l) (all-with-letters ls) ∙ sym (map-append (lettered_seat at) line (all_of ls))

  pub block-with-letters : (is_held : Bool) (ls : List Line) → AllByRecursion (AllByRecursion Keeps) ls → block_seats is_held (all_lettered ls) ≡ lettered (block_seats is_held ls)
  block-with-letters true ls h = all-with-letters ls
  block-with-letters false ls h = body-with-letters ls h

  joined-with-letters : (s : Seat) (ls : List Line) → joined (lettered_seat at s) (all_lettered ls) ≡ all_lettered (joined s ls)
  joined-with-letters s [] = refl
  joined-with-letters s (line ∷ ls) = refl

  pub lines-with-letters : (seats : List Seat) → AllByRecursion Keeps seats → lines_in (lettered seats) ≡ all_lettered (lines_in seats)
  lines-with-letters [] h = refl
  lines-with-letters (s ∷ ss) h =
      (λ i. cond (h.0 i) ((lettered_seat at s ∷ []) ∷ lines-with-letters ss h.1 i) (joined (lettered_seat at s) (lines-with-letters ss h.1 i))) ∙ by (is_line_ending s)
    where
      by : (b : Bool) → cond b ((lettered_seat at s ∷ []) ∷ all_lettered (lines_in ss)) (joined (lettered_seat at s) (all_lettered (lines_in ss))) ≡ all_lettered (cond b ((s ∷ []) ∷ lines_in ss) (joined s (lines_in ss)))
      by true = refl
      by false = joined-with-letters s (lines_in ss)

  -- ---- marks of line endings and blank lines
  module _ (t : ℕ) (bytes : List ℕ) (plain : ArePlainFrom 0 at bytes) where
    abbrev new : List ℕ
    new = with_letters at bytes

    end-after-same : (s : Seat) (ss : List Seat) → end_after s.end (lettered ss) ≡ end_after s.end ss
    end-after-same s [] = refl
    end-after-same s (r ∷ ss) = end-after-same r ss

    pub leaf-with-letters : (n : Name) (seats : List Seat) → leaf_marks new n (lettered seats) ≡ leaf_marks bytes n seats
    leaf-with-letters n [] = refl
    leaf-with-letters n (s ∷ ss) =
        let shows = (places_kept t at bytes plain).shown_at in
        let from = shows s.point in
        let to = ap (shown new) (end-after-same s ss) ∙ shows (end_after s.end ss) in
        (λ i. (record { kind = Enter; name = n; point = from i; link = None }, None) ∷ (record { kind = Exit; name = n; point = to i; link = None }, None) ∷ [])

    pub last-with-letters : (ls : List Line) → AllByRecursion (AllByRecursion Keeps) ls → last_end new (all_lettered ls) ≡ last_end bytes ls
    last-with-letters [] h = refl
    last-with-letters (line ∷ []) h = ap (leaf_marks new name.LineEnding) (ending-with-letters line h.0) ∙ leaf-with-letters name.LineEnding (ending_of line)
    last-with-letters (line ∷ next ∷ ls) h = last-with-letters (next ∷ ls) h.1

    blank-with-letters : (line : Line) → AllByRecursion Keeps line → leaf_block_marks new (blank_line (lettered line)) ≡ leaf_block_marks bytes (blank_line line)
    blank-with-letters line h =
        let white = ap (leaf_marks new name.SpaceOrTab) (text-with-letters line h) ∙ leaf-with-letters name.SpaceOrTab (line_text line) in
        let ending = ap (leaf_marks new name.BlankLineEnding) (ending-with-letters line h) ∙ leaf-with-letters name.BlankLineEnding (ending_of line) in
        (λ i. white i ++ ending i)

    pub blanks-with-letters : (ls : List Line) → AllByRecursion (AllByRecursion Keeps) ls → leaf_blocks_marks new (map blank_line (all_lettered ls)) ≡ leaf_blocks_marks bytes (map blank_line ls)
    blanks-with-letters [] h = refl
    blanks-with-letters (line ∷ ls) h = (λ i. blank-with-letters line h.0 i ++ blanks-with-letters ls h.1 i)

-- ---- white space in front of a line taken away
drop-more : (n : ℕ) (xs ys : List Seat) → n ≤ length xs → drop n (xs ++ ys) ≡ drop n xs ++ ys
drop-more zero xs ys l = refl
drop-more (suc n) [] ys l = absurd (omega (arith, l))
drop-more (suc n) (x ∷ xs) ys l = drop-more n xs ys (omega (arith, l))

-- a line's text, and its ending, behind so many virtual bytes of the text
pub text-behind : (n : ℕ) (line : Line) → IsWhole line → n ≤ length (line_text line) → (line_text (drop n line) ≡ drop n (line_text line)) × (ending_of (drop n line) ≡ ending_of line)
text-behind zero line w l = (refl, refl)
text-behind (suc n) [] w l = (refl, refl)
text-behind (suc n) (s ∷ ss) (inl w) l =
    let text : line_text (s ∷ ss) ≡ s ∷ line_text ss = ap (λ b. cond (not b) (s ∷ line_text ss) (line_text ss)) w.0 in
    let ending : ending_of (s ∷ ss) ≡ ending_of ss = ap (λ b. cond b (s ∷ ending_of ss) (ending_of ss)) w.0 in
    let size = ap (λ (l : Line). length l) text in
    let rest = text-behind n ss w.1 (omega (arith, l, size)) in
    (rest.0 ∙ sym (ap (drop (suc n)) text), rest.1 ∙ sym ending)
text-behind (suc n) (s ∷ ss) (inr w) l =
    let text : line_text (s ∷ ss) ≡ [] = ap (λ b. cond (not b) (s ∷ line_text ss) (line_text ss)) w.0 ∙ ap line_text w.1 in
    let size = ap (λ (l : Line). length l) text in
    absurd (omega (arith, l, size))

pub block-behind : (n : ℕ) (is_held : Bool) (line : Line) (ls : List Line) → IsWhole line → n ≤ length (line_text line) → drop n (block_seats is_held (line ∷ ls)) ≡ block_seats is_held (drop n line ∷ ls)
block-behind n true line ls w l = let few = text-shorter line w in drop-more n line (all_of ls) (omega (arith, l, few))
block-behind n false line [] w l = sym (text-behind n line w l).0
block-behind n false line (next ∷ ls) w l = let few = text-shorter line w in drop-more n line (body (next ∷ ls)) (omega (arith, l, few))

pub last-behind : (n : ℕ) (bytes : List ℕ) (line : Line) (ls : List Line) → IsWhole line → n ≤ length (line_text line) → last_end bytes (drop n line ∷ ls) ≡ last_end bytes (line ∷ ls)
last-behind n bytes line [] w l = ap (leaf_marks bytes name.LineEnding) (text-behind n line w l).1
last-behind n bytes line (next ∷ ls) w l = refl

-- ==== A document with letters at its lazy underlines, and the same of its parts: the letters of each part are its own.
-- ---- bytes with letters

lettered-append : (n : ℕ) (at a b : List ℕ) → lettered_from n at (a ++ b) ≡ lettered_from n at a ++ lettered_from (n + length a) at b
lettered-append n at [] b = let e : n ≡ n + 0 = omega arith in ap (λ m. lettered_from m at b) e
lettered-append n at (x ∷ a) b =
    let e : suc n + length a ≡ n + suc (length a) = omega arith in
    ap (λ bs. cond (list_any (λ i. i == n) at) letter x ∷ bs) (lettered-append (suc n) at a b ∙ ap (λ m. lettered_from (suc n) at a ++ lettered_from m at b) e)

-- where the same indices are among two lists of them, letters stand at the same places
lettered-alike : (at and : List ℕ) (n m : ℕ) (bs : List ℕ) → ((j : ℕ) → j < length bs → list_any (λ i. i == n + j) at ≡ list_any (λ i. i == m + j) and) → lettered_from n at bs ≡ lettered_from m and bs
lettered-alike at and n m [] h = refl
lettered-alike at and n m (b ∷ bs) h =
    let x : n ≡ n + 0 = omega arith in
    let y : m + 0 ≡ m = omega arith in
    let here : list_any (λ i. i == n) at ≡ list_any (λ i. i == m) and = ap (λ k. list_any (λ i. i == k) at) x ∙ h 0 (omega arith) ∙ ap (λ k. list_any (λ i. i == k) and) y in
    let rest = lettered-alike at and (suc n) (suc m) bs (λ j l.
    let u : suc n + j ≡ n + suc j = omega arith in
    let v : m + suc j ≡ suc m + j = omega arith in
    ap (λ k. list_any (λ i. i == k) at) u ∙ h (suc j) (omega (arith, l)) ∙ ap (λ k. list_any (λ i. i == k) and) v) in
    (λ i. cond (here i) letter b ∷ rest i)

-- so many further on: none of them is below, and each is where it was
none-below : (n k : ℕ) (at : List ℕ) → k < n → list_any (λ i. i == k) (map (λ i. i + n) at) ≡ false
none-below n k [] l = refl
none-below n k (i ∷ at) l = let here : (i + n == k) ≡ false = grind (arith, nat_tests, l) in let rest = none-below n k at l in (λ d. here d || rest d)

same-behind : (n k : ℕ) (at : List ℕ) → list_any (λ i. i == n + k) (map (λ i. i + n) at) ≡ list_any (λ i. i == k) at
same-behind n k [] = refl
same-behind n k (i ∷ at) = let here : (i + n == n + k) ≡ (i == k) = grind (arith, nat_tests) in let rest = same-behind n k at in (λ d. here d || rest d)

none-above : (n k : ℕ) (at : List ℕ) → n ≤ k → AllByRecursion (λ i. i < n) at → list_any (λ i. i == k) at ≡ false
none-above n k [] l h = refl
none-above n k (i ∷ at) l h = let low = h.0 in let here : (i == k) ≡ false = grind (arith, nat_tests, l, low) in let rest = none-above n k at l h.1 in (λ d. here d || rest d)

pub letters-both : (la lb a b : List ℕ) → AllByRecursion (λ i. i < length a) la → with_letters (la ++ map (λ i. i + length a) lb) (a ++ b) ≡ with_letters la a ++ with_letters lb b
letters-both la lb a b low =
    let n = length a in
    let moved = map (λ i. i + n) lb in
    let all = la ++ moved in
    let join : (k : ℕ) → list_any (λ i. i == k) all ≡ (list_any (λ i. i == k) la || list_any (λ i. i == k) moved) = λ k. list_any-append (λ i. i == k) la moved in
    let e : 0 + n ≡ n = omega arith in
    lettered-append 0 all a b ∙ ap (λ m. lettered_from 0 all a ++ lettered_from m all b) e
    ∙ (λ d. lettered-alike all la 0 0 a (λ j l.
    let z : 0 + j ≡ j = omega arith in
    ap (λ k. list_any (λ i. i == k) all) z ∙ join j ∙ ap (λ b. list_any (λ i. i == j) la || b) (none-below n j lb l) ∙ or-false (list_any (λ i. i == j) la) ∙ ap (λ k. list_any (λ i. i == k) la) (sym z)) d
    ++ lettered-alike all lb n 0 b (λ j l.
    let z : j ≡ 0 + j = omega arith in
    let up : n ≤ n + j = omega arith in
    join (n + j) ∙ (λ d. none-above n (n + j) la up low d || same-behind n j lb d) ∙ ap (λ k. list_any (λ i. i == k) lb) z) d)

-- ---- they end in a line ending if the bytes do
module _ (at and : List ℕ) where
  plain-lf : (c b : Bool) (x : ℕ) → c ≡ b → (b ≡ true → is_plain x ≡ true) → (cond b letter x == 10) ≡ (x == 10)
  plain-lf c true x e h = by (x == 9) (x == 10) (x == 13) (h refl)
    where
      by : (t l r : Bool) → (not t && (not l && not r)) ≡ true → false ≡ l
      by t l r k = grind arith
  plain-lf c false x e h = refl

  plain-cr : (b : Bool) (x : ℕ) → (b ≡ true → is_plain x ≡ true) → (cond b letter x == 13) ≡ (x == 13)
  plain-cr true x h = by (x == 9) (x == 10) (x == 13) (h refl)
    where
      by : (t l r : Bool) → (not t && (not l && not r)) ≡ true → false ≡ r
      by t l r k = grind arith
  plain-cr false x h = refl

  begins-lf : (m : ℕ) (b : List ℕ) → ArePlainFrom m and b → begins_with_lf (lettered_from m and b) ≡ begins_with_lf b
  begins-lf m [] h = refl
  begins-lf m (x ∷ b) h = plain-lf (list_any (λ i. i == m) and) (list_any (λ i. i == m) and) x refl h.0

  pub begins-lettered : (n m : ℕ) (a b : List ℕ) → ArePlainFrom n at a → ArePlainFrom m and b → begins_line (lettered_from m and b) (lettered_from n at a) ≡ begins_line b a
  begins-lettered n m [] b h k = refl
  begins-lettered n m (x ∷ []) b h k =
      let c = list_any (λ i. i == n) at in
      (λ i. plain-lf c c x refl h.0 i || (plain-cr c x h.0 i && not (begins-lf m b k i)))
  begins-lettered n m (x ∷ y ∷ a) b h k = begins-lettered (suc n) m (y ∷ a) b h.1 k

-- bytes that are as many, with as many line endings
pub record AreAsMany (xs ys : List ℕ) : Type 0 where
  pub long : length xs ≡ length ys
  pub endings : line_endings xs ≡ line_endings ys

pub lettered-many : (at : List ℕ) (n : ℕ) (bs : List ℕ) → ArePlainFrom n at bs → AreAsMany (lettered_from n at bs) bs
lettered-many at n [] h = record { long = refl; endings = refl }
lettered-many at n (b ∷ bs) h =
    let c = list_any (λ i. i == n) at in
    let lf = plain-lf at at c c b refl h.0 in
    let cr = plain-cr at at c b h.0 in
    let first = begins-lf at at (suc n) bs h.1 in
    let more = lettered-many at (suc n) bs h.1 in
    record { long = ap suc more.long; endings = (λ i. cond (lf i) (suc (more.endings i)) (cond (cr i) (cond (first i) (more.endings i) (suc (more.endings i))) (more.endings i))) }

-- ---- letters of a document are at indices of it

-- a virtual byte begins before this index
module _ (t most : ℕ) where
  abbrev pub BeginsBefore : Seat → Type 0
  BeginsBefore s = s.point.index < most

  pub begin-before : (a : List ℕ) (line column index : ℕ) → index + length a ≤ most → AllByRecursion BeginsBefore (virtual_from t line column index a)
  begin-before a line column index l = every-map (IsNear most) BeginsBefore (λ s n. n.0) (virtual_from t line column index a) (near t most a line column index l)

-- what holds of the indices of rows holds of those of letters
module _ (P : ℕ → Type 0) where
  abbrev pub IsIn : Seat → Type 0
  IsIn s = P s.point.index

  abbrev pub IsRowIn : Row → Type 0
  IsRowIn row = AllByRecursion IsIn row.line

  rows-in : (on : Constructs) (k : Known) (n : ℕ) (ls : List Line) → AllByRecursion (AllByRecursion IsIn) ls → AllByRecursion IsRowIn (rows_from on k n ls)
  rows-in on k n [] h = tt
  rows-in on k n (l ∷ ls) h = (h.0, rows-in on (known_after on k (row_of on k n l)) (suc n) ls h.1)

  indices-in : (seats : List Seat) → AllByRecursion IsIn seats → AllByRecursion P (map (λ (s : Seat). s.point.index) seats)
  indices-in [] h = tt
  indices-in (s ∷ seats) h = (h.0, indices-in seats h.1)

  pub one-in : (n : ℕ) (line : Line) → AllByRecursion IsIn line → AllByRecursion P (map (λ (s : Seat). s.point.index) (take 1 (drop n line)))
  one-in n line h = indices-in (take 1 (drop n line)) (every-take IsIn 1 (drop n line) (every-drop IsIn n line h))

  underline-in : (on : Constructs) (row : Row) → IsRowIn row → AllByRecursion P (lazy_underline on row)
  underline-in on row h = by (row.is_lazy && is_some (underline_rank on (rest_of row)))
    where
      by : (c : Bool) → AllByRecursion P (cond c (map (λ (s : Seat). s.point.index) (take 1 (drop (row.columns + indent (rest_of row)) row.line))) [])
      by true = one-in (row.columns + indent (rest_of row)) row.line h
      by false = tt

  underlines-in : (on : Constructs) (rs : List Row) → AllByRecursion IsRowIn rs → AllByRecursion P (flat_map (lazy_underline on) rs)
  underlines-in on [] h = tt
  underlines-in on (r ∷ rs) h = every-append P (lazy_underline on r) (flat_map (lazy_underline on) rs) (underline-in on r h.0) (underlines-in on rs h.1)

  section-in : (on : Constructs) (s : Section) → AllByRecursion IsRowIn (all_rows s.part) → AllByRecursion P (letters_of_section on s)
  section-in on s h = by s.inside
    where
      first : (x : Bool) → AllByRecursion P (cond x (text_begin s.part.first) (lazy_underline on s.part.first))
      first true = one-in (s.part.first.columns + indent (rest_of s.part.first)) s.part.first.line h.0
      first false = underline-in on s.part.first h.0

      by : (i : Inside) → AllByRecursion P (elim i as (λ _. List ℕ) [ lines is_behind ↦ cond is_behind (text_begin s.part.first) (lazy_underline on s.part.first) ++ flat_map (lazy_underline on) s.part.more | defined ds ↦ [] | table ↦ [] ])
      by (lines x) = every-append P (cond x (text_begin s.part.first) (lazy_underline on s.part.first)) (flat_map (lazy_underline on) s.part.more) (first x) (underlines-in on s.part.more h.1)
      by (defined ds) = tt
      by table = tt

  pub letters-in : (on : Constructs) (ss : List Section) → AllByRecursion IsRowIn (rows_of ss) → AllByRecursion P (flat_map (letters_of_section on) ss)
  letters-in on [] h = tt
  letters-in on (s ∷ ss) h =
      every-append P (letters_of_section on s) (flat_map (letters_of_section on) ss) (section-in on s (every-front IsRowIn (all_rows s.part) (rows_of ss) h)) (letters-in on ss (every-back IsRowIn (all_rows s.part) (rows_of ss) h))

pub letters-before : (on : Constructs) (t : ℕ) (a : List ℕ) → AllByRecursion (λ i. i < length a) (letters on (virtual t a))
letters-before on t a =
    let n = length a in
    let ls = lines_in (virtual t a) in
    let all = rows-in (λ i. i < n) on (known_at_start on) 1 ls (in-lines (BeginsBefore t n) (virtual t a) (begin-before t n a 1 1 0 (omega arith))) in
    letters-in (λ i. i < n) on (sections on (rows on ls)) (subst (AllByRecursion (IsRowIn (λ i. i < n))) (sym (sections-hold-lines on (rows on ls))) all)

-- ---- a document of which leaf blocks are read, and the same of its parts
module _ (on : Constructs) (t : ℕ) (a b : List ℕ) (rest : begins_at_document_rest on t a b ≡ true) where
  pub shown-both : with_letters (letters on (virtual t (a ++ b))) (a ++ b) ≡ with_letters (letters on (virtual t a)) a ++ with_letters (letters on (virtual t b)) b
  shown-both =
      ap (λ at. with_letters at (a ++ b)) (letters-of-both open-not-blank on t a b rest)
      ∙ letters-both (letters on (virtual t a)) (letters on (virtual t b)) a b (letters-before on t a)

  pub shown-begins : begins_line (with_letters (letters on (virtual t b)) b) (with_letters (letters on (virtual t a)) a) ≡ true
  shown-begins =
      begins-lettered (letters on (virtual t a)) (letters on (virtual t b)) 0 0 a b (letters-are-plain on t a) (letters-are-plain on t b)
      ∙ and-left (begins_line b a) (first_at_document_rest on (lines_in (virtual t a)) (lines_in (virtual t b))) rest
