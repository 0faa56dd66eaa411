-- Letters in a stretch without containers: one at most, where its text begins directly behind definitions.
use Rattle.mddocument_parts.proofs.Prelude.{AllByRecursion, Bool, Line, List, Point, Seat, [], all_of, ap, arith, cond, end_after, ending_of, false, inl, inr, is_line_ending, map, nat_lt, point, refl, suc, sym, true, ℕ, ◌&&◌, ◌++◌, ◌<◌, ◌==◌, ◌||◌, ◌∙◌, ◌∷◌, ◌≡◌, ◌≤◌}
use Rattle.std.proofs.Common.{append-nil, append_assoc, length, subst, ◌+◌}
use Rattle.std.proofs.lemmas.Bool.Decides.{nat_tests}
use Rattle.std.proofs.lemmas.Grind.{flat_map-append}
use Rattle.std.proofs.lemmas.List.Folds.{list_any-append}
use Rattle.std.specs.List.{flat_map, list_any}
use Rattle.std.specs.Prelude.{drop, is_some, take}
use Rattle.markdown_base.proofs.Common.{every-append, every-map}
use Rattle.markdown_base.specs.Virtual.{virtual}
use Rattle.markdown_base.specs.declared.configuration.Constructs.{Constructs}
use Rattle.markdown_tokenizer.proofs.Inside.Known.{not-before-index}
use Rattle.markdown_tokenizer.proofs.Positions.Chains.{IsChain, whole-chain}
use Rattle.markdown_tokenizer.proofs.Positions.Order.{every-back, every-front}
use Rattle.markdown_tokenizer.proofs.Positions.Standing.{chain-split}
use Rattle.markdown_tokenizer.specs.Cursor.{goes_on}
use Rattle.mdconstructs_machines.proofs.BlockReads.Accounts.{lines-are-all}
use Rattle.mdconstructs_machines.specs.LineEvents.{lines_in}
use Rattle.mdblock_leaf_blocks.proofs.Lines.Lines.{all-of-append}
use Rattle.mdblock_leaf_blocks.proofs.Lines.WholeLines.{IsWhole}
use Rattle.mdblock_leaf_blocks.specs.LineKinds.{indent, underline_rank}
use Rattle.mdblock_containers.proofs.SeatFacts.{LinesEnd, document_lines, lines_end}
use Rattle.mdblock_containers.specs.Letters.{lazy_underline, letter, lettered_seat}
use Rattle.mdblock_containers.specs.Rows.{Row, has_none, rest_of}
use Rattle.mdblock_definitions.proofs.Covered.{rows_of}
use Rattle.mdblock_definitions.specs.Sections.{Section, defined, lines, table}
use Rattle.mdblock_definitions.specs.Skeleton.{letters_of_section, text_begin}
use Rattle.mddocument_parts.proofs.JoinedMarks.{lines_of}
use Rattle.mddocument_parts.proofs.LetteredBoth.{IsRowIn, begin-before, letters-in, one-in}
use Rattle.mddocument_parts.proofs.WithoutContainers.CutOff.{lines-whole}

-- ==== Virtual bytes of later lines have later indices, so letters in other lines leave a line as it is.
-- a boundary between virtual bytes: the first begin before an index, and the others do not
pub record Between (first second : List Seat) : Type 0 where
  pub index : ℕ
  pub below : AllByRecursion (λ s. s.point.index < index) first
  pub above : AllByRecursion (λ s. index ≤ s.point.index) second

module _ (t : ℕ) (bytes : List ℕ) where
  -- virtual bytes begin where they do, or later
  not-below : (p : Point) (k : ℕ) (seats : List Seat) → k ≤ p.index → IsChain t bytes p seats → AllByRecursion (λ (s : Seat). k ≤ s.point.index) seats
  not-below p k [] l c = tt
  not-below p k (s ∷ ss) l c =
      let here = not-before-index s.point.index s.point.vs p.index p.vs c.1.later in
      let ends : (nat_lt s.point.index s.end.index || ((s.point.index == s.end.index) && nat_lt s.point.vs s.end.vs)) ≡ true = c.1.ends in
      let on : s.point.index ≤ s.end.index = grind (arith, nat_tests, ends) in
      (omega (arith, l, here), not-below s.end k ss (omega (arith, l, here, on)) c.2)

  -- behind a line ending
  behind-ending : (p : Point) (s : Seat) (rest : List Seat) → is_line_ending s ≡ true → IsChain t bytes p (s ∷ rest) → Between (s ∷ []) rest
  behind-ending p s rest e c =
      let end : s.end.index ≡ suc s.point.index = ap (λ (q : Point). q.index) (sym c.1.end_is) ∙ ap (λ (b : Bool). (end_by b s).index) e in
      record {
        index = suc s.point.index;
        below = (omega arith, tt);
        above = not-below s.end (suc s.point.index) rest (omega (arith, end)) c.2;
      }
    where
      end_by : Bool → Seat → Point
      end_by b s =
          cond b (point (suc s.point.line) 1 (suc s.point.index) 0)
          (cond (goes_on t s.byte s.point) (point s.point.line (suc s.point.column) s.point.index (suc s.point.vs)) (point s.point.line (suc s.point.column) (suc s.point.index) 0))

  -- a line with its ending, and what comes behind it
  line-apart : (p : Point) (line : Line) (rest : List Seat) → IsChain t bytes p (line ++ rest) → IsWhole line → has_none (ending_of line) ≡ false → Between line rest
  line-apart p [] rest c w e = absurd (let no : true ≡ false = e in cc)
  line-apart p (s ∷ []) rest c (inl w) e = absurd (let no : true ≡ false = sym (ap (λ b. has_none (cond b (s ∷ []) [])) w.0) ∙ e in cc)
  line-apart p (s ∷ r ∷ ss) rest c (inl w) e =
      let ending : ending_of (s ∷ r ∷ ss) ≡ ending_of (r ∷ ss) = ap (λ b. cond b (s ∷ ending_of (r ∷ ss)) (ending_of (r ∷ ss))) w.0 in
      let more = line-apart s.end (r ∷ ss) rest c.2 w.1 (sym (ap has_none ending) ∙ e) in
      let ends : (nat_lt s.point.index s.end.index || ((s.point.index == s.end.index) && nat_lt s.point.vs s.end.vs)) ≡ true = c.1.ends in
      let on : s.point.index ≤ s.end.index = grind (arith, nat_tests, ends) in
      let next = (not-below s.end s.end.index ((r ∷ ss) ++ rest) (omega arith) c.2).0 in
      let less = more.below.0 in
      record { index = more.index; below = (omega (arith, on, next, less), more.below); above = more.above }
  line-apart p (s ∷ []) rest c (inr w) e = behind-ending p s rest w.0 c
  line-apart p (s ∷ r ∷ ss) rest c (inr w) e = absurd (let none = w.1 in cc)

  first-ending : (x : Line) (xs : List Line) (y : Line) (ys : List Line) → LinesEnd (x ∷ (xs ++ (y ∷ ys))) → (has_none (ending_of x) ≡ false) × LinesEnd (xs ++ (y ∷ ys))
  first-ending x [] y ys h = (h.0, h.1)
  first-ending x (z ∷ xs) y ys h = (h.0, h.1)

  -- lines, and lines behind them
  pub lines-apart : (p : Point) (xs : List Line) (y : Line) (ys : List Line) → IsChain t bytes p (all_of (xs ++ (y ∷ ys))) → AllByRecursion IsWhole (xs ++ (y ∷ ys)) → LinesEnd (xs ++ (y ∷ ys)) → Between (all_of xs) (all_of (y ∷ ys))
  lines-apart p [] y ys c w e = record { index = p.index; below = tt; above = not-below p p.index (all_of (y ∷ ys)) (omega arith) c }
  lines-apart p (x ∷ []) y ys c w e =
      let one = line-apart p x (all_of (y ∷ ys)) c w.0 (first-ending x [] y ys e).0 in
      record { index = one.index; below = every-append (λ (s : Seat). s.point.index < one.index) x [] one.below tt; above = one.above }
  lines-apart p (x ∷ z ∷ xs) y ys c w e =
      let ends = first-ending x (z ∷ xs) y ys e in
      let one = line-apart p x (all_of ((z ∷ xs) ++ (y ∷ ys))) c w.0 ends.0 in
      let more = lines-apart (end_after p x) (z ∷ xs) y ys (chain-split t bytes p x (all_of ((z ∷ xs) ++ (y ∷ ys))) c) w.1 ends.1 in
      let less : one.index < more.index = by z one.index more.index (first-ending z xs y ys ends.1).0 (every-front (λ (s : Seat). one.index ≤ s.point.index) z (all_of (xs ++ (y ∷ ys))) one.above) (every-front (λ (s : Seat). s.point.index < more.index) z (all_of xs) more.below) in
      record {
        index = more.index;
        below = every-append (λ (s : Seat). s.point.index < more.index) x (all_of (z ∷ xs)) (every-map (λ (s : Seat). s.point.index < one.index) (λ s. s.point.index < more.index) (λ s l. omega (arith, l, less)) x one.below) more.below;
        above = more.above;
      }
    where
      by : (z : Line) (j k : ℕ) → has_none (ending_of z) ≡ false → AllByRecursion (λ (s : Seat). j ≤ s.point.index) z → AllByRecursion (λ (s : Seat). s.point.index < k) z → j < k
      by [] j k e a b = absurd (let no : true ≡ false = e in cc)
      by (s ∷ ss) j k e a b = let l = a.0 in let m = b.0 in omega (arith, l, m)

-- ---- letters elsewhere
none-at : (k n : ℕ) (at : List ℕ) → AllByRecursion (λ i. i < k) at → k ≤ n → list_any (λ i. i == n) at ≡ false
none-at k n [] h l = refl
none-at k n (i ∷ at) h l = let low = h.0 in let here : (i == n) ≡ false = grind (arith, nat_tests, low, l) in let rest = none-at k n at h.1 l in (λ d. here d || rest d)

none-from : (k n : ℕ) (at : List ℕ) → AllByRecursion (λ i. k ≤ i) at → n < k → list_any (λ i. i == n) at ≡ false
none-from k n [] h l = refl
none-from k n (i ∷ at) h l = let high = h.0 in let here : (i == n) ≡ false = grind (arith, nat_tests, high, l) in let rest = none-from k n at h.1 l in (λ d. here d || rest d)

-- a line with no letter in it is as it was, if other letters stand before it or behind it
pub line-stays : (before behind : List ℕ) (j k : ℕ) (line : Line) → AllByRecursion (λ i. i < j) before → AllByRecursion (λ i. k ≤ i) behind
    → AllByRecursion (λ (s : Seat). j ≤ s.point.index) line → AllByRecursion (λ (s : Seat). s.point.index < k) line → map (lettered_seat (before ++ behind)) line ≡ line
line-stays before behind j k [] b h low high = refl
line-stays before behind j k (s ∷ ss) b h low high =
    let n = s.point.index in
    let one = none-at j n before b low.0 in
    let two = none-from k n behind h high.0 in
    let none : list_any (λ i. i == n) (before ++ behind) ≡ false = list_any-append (λ i. i == n) before behind ∙ (λ d. one d || two d) in
    let rest = line-stays before behind j k ss b h low.1 high.1 in
    (λ d. record s { byte = cond (none d) letter s.byte } ∷ rest d)

-- ==== Letters in a stretch without containers: one at most, where its text begins directly behind definitions. Its other lines have none.
-- a row is not lazy
abbrev pub IsNotLazy : Row → Type 0
IsNotLazy r = r.is_lazy ≡ false

none-lazy : (on : Constructs) (r : Row) → IsNotLazy r → lazy_underline on r ≡ []
none-lazy on r h = ap (λ b. cond (b && is_some (underline_rank on (rest_of r))) (map (λ (s : Seat). s.point.index) (take 1 (drop (r.columns + indent (rest_of r)) r.line))) []) h

all-none-lazy : (on : Constructs) (rs : List Row) → AllByRecursion IsNotLazy rs → flat_map (lazy_underline on) rs ≡ []
all-none-lazy on [] h = refl
all-none-lazy on (r ∷ rs) h = (λ i. none-lazy on r h.0 i ++ all-none-lazy on rs h.1 i)

-- what holds of the virtual bytes of lines holds of those of each row
each-row : (P : ℕ → Type 0) (rs : List Row) → AllByRecursion (λ (s : Seat). P s.point.index) (all_of (lines_of rs)) → AllByRecursion (IsRowIn P) rs
each-row P [] h = tt
each-row P (r ∷ rs) h = (every-front (λ (s : Seat). P s.point.index) r.line (all_of (lines_of rs)) h, each-row P rs (every-back (λ (s : Seat). P s.point.index) r.line (all_of (lines_of rs)) h))

each-line : (P : ℕ → Type 0) (ls : List Line) → AllByRecursion (λ (s : Seat). P s.point.index) (all_of ls) → AllByRecursion (AllByRecursion (λ (s : Seat). P s.point.index)) ls
each-line P [] h = tt
each-line P (l ∷ ls) h = (every-front (λ (s : Seat). P s.point.index) l (all_of ls) h, each-line P ls (every-back (λ (s : Seat). P s.point.index) l (all_of ls) h))

all-stay : (before behind : List ℕ) (j k : ℕ) (ls : List Line) → AllByRecursion (λ i. i < j) before → AllByRecursion (λ i. k ≤ i) behind
    → AllByRecursion (AllByRecursion (λ (s : Seat). j ≤ s.point.index)) ls → AllByRecursion (AllByRecursion (λ (s : Seat). s.point.index < k)) ls → map (map (lettered_seat (before ++ behind))) ls ≡ ls
all-stay before behind j k [] b h low high = refl
all-stay before behind j k (l ∷ ls) b h low high = let one = line-stays before behind j k l b h low.0 high.0 in let rest = all-stay before behind j k ls b h low.1 high.1 in (λ i. one i ∷ rest i)

module _ (on : Constructs) (t : ℕ) (some : 0 < t) (bytes : List ℕ) (front back : List Section) (section : Section) (is_behind : Bool) (is : section.inside ≡ lines is_behind)
    (lines_are : lines_in (virtual t bytes) ≡ lines_of (rows_of front) ++ ((section.part.first.line ∷ lines_of section.part.more) ++ lines_of (rows_of back)))
    (lazy : AllByRecursion IsNotLazy (section.part.first ∷ section.part.more)) where
  abbrev q : Row
  q = section.part.first

  abbrev before : List Line
  before = lines_of (rows_of front)

  abbrev inner : List Line
  inner = lines_of section.part.more

  abbrev after : List Line
  after = lines_of (rows_of back)

  -- where letters stand
  abbrev pub letters_here : List ℕ
  letters_here = flat_map (letters_of_section on) (front ++ (section ∷ back))

  abbrev front_letters : List ℕ
  front_letters = flat_map (letters_of_section on) front

  abbrev back_letters : List ℕ
  back_letters = flat_map (letters_of_section on) back

  own : letters_of_section on section ≡ cond is_behind (text_begin q) []
  own =
      (λ i. elim (is i) as (λ _. List ℕ) [ lines b ↦ cond b (text_begin q) (none-lazy on q lazy.0 i) ++ all-none-lazy on section.part.more lazy.1 i | defined ds ↦ [] | table ↦ [] ])
      ∙ append-nil (cond is_behind (text_begin q) [])

  pub letters-are : letters_here ≡ (front_letters ++ cond is_behind (text_begin q) []) ++ back_letters
  letters-are = flat_map-append (letters_of_section on) front (section ∷ back) ∙ ap (λ l. front_letters ++ (l ++ back_letters)) own ∙ sym (append_assoc front_letters (cond is_behind (text_begin q) []) back_letters)

  -- ---- the lines of the document
  chain : IsChain t bytes (point 1 1 0 0) (all_of (before ++ ((q.line ∷ inner) ++ after)))
  chain = subst (IsChain t bytes (point 1 1 0 0)) (sym (lines-are-all (virtual t bytes)) ∙ ap all_of lines_are) (whole-chain t bytes some)

  whole : AllByRecursion IsWhole (before ++ ((q.line ∷ inner) ++ after))
  whole = subst (AllByRecursion IsWhole) lines_are (lines-whole (lines_in (virtual t bytes)) (document_lines t bytes))

  ends : LinesEnd (before ++ ((q.line ∷ inner) ++ after))
  ends = subst LinesEnd lines_are (lines_end (virtual t bytes))

  within : AllByRecursion (λ (s : Seat). s.point.index < length bytes) (all_of (before ++ ((q.line ∷ inner) ++ after)))
  within = subst (AllByRecursion (λ (s : Seat). s.point.index < length bytes)) (sym (lines-are-all (virtual t bytes)) ∙ ap all_of lines_are) (begin-before t (length bytes) bytes 1 1 0 (omega arith))

  -- letters behind the section stand behind it
  record Behind : Type 0 where
    index : ℕ
    letters : AllByRecursion (λ i. index ≤ i) back_letters
    lines : AllByRecursion (λ (s : Seat). s.point.index < index) (all_of (q.line ∷ inner))

  behind : Behind
  behind = by after refl
    where
      inside : all_of (before ++ ((q.line ∷ inner) ++ after)) ≡ all_of before ++ (all_of (q.line ∷ inner) ++ all_of after)
      inside = all-of-append before ((q.line ∷ inner) ++ after) ∙ ap (λ l. all_of before ++ l) (all-of-append (q.line ∷ inner) after)

      by : (ls : List Line) → after ≡ ls → Behind
      by [] e = record {
        index = length bytes;
        letters = letters-in (λ i. length bytes ≤ i) on back (each-row (λ i. length bytes ≤ i) (rows_of back) (subst (λ ls. AllByRecursion (λ (s : Seat). length bytes ≤ s.point.index) (all_of ls)) (sym e) tt));
        lines =
            every-front (λ (s : Seat). s.point.index < length bytes) (all_of (q.line ∷ inner)) (all_of after)
            (every-back (λ (s : Seat). s.point.index < length bytes) (all_of before) (all_of (q.line ∷ inner) ++ all_of after) (subst (AllByRecursion (λ (s : Seat). s.point.index < length bytes)) inside within));
      }
      by (y ∷ ys) e =
          let join : before ++ ((q.line ∷ inner) ++ after) ≡ (before ++ (q.line ∷ inner)) ++ (y ∷ ys) = sym (append_assoc before (q.line ∷ inner) after) ∙ ap (λ l. (before ++ (q.line ∷ inner)) ++ l) e in
          let b = lines-apart t bytes (point 1 1 0 0) (before ++ (q.line ∷ inner)) y ys (subst (λ ls. IsChain t bytes (point 1 1 0 0) (all_of ls)) join chain) (subst (AllByRecursion IsWhole) join whole) (subst LinesEnd join ends) in
          record {
            index = b.index;
            letters = letters-in (λ i. b.index ≤ i) on back (each-row (λ i. b.index ≤ i) (rows_of back) (subst (λ ls. AllByRecursion (λ (s : Seat). b.index ≤ s.point.index) (all_of ls)) (sym e) b.above));
            lines = every-back (λ (s : Seat). s.point.index < b.index) (all_of before) (all_of (q.line ∷ inner)) (subst (AllByRecursion (λ (s : Seat). s.point.index < b.index)) (all-of-append before (q.line ∷ inner)) b.below);
          }

  -- letters before it
  first-apart : Between (all_of before) (all_of ((q.line ∷ inner) ++ after))
  first-apart = lines-apart t bytes (point 1 1 0 0) before q.line (inner ++ after) chain whole ends

  front-below : AllByRecursion (λ i. i < first-apart.index) front_letters
  front-below = letters-in (λ i. i < first-apart.index) on front (each-row (λ i. i < first-apart.index) (rows_of front) first-apart.below)

  -- the first line has no letter, unless the stretch comes directly behind definitions
  pub first-stays : is_behind ≡ false → map (lettered_seat letters_here) q.line ≡ q.line
  first-stays off =
      let none : letters_here ≡ front_letters ++ back_letters = letters-are ∙ ap (λ b. (front_letters ++ cond b (text_begin q) []) ++ back_letters) off ∙ ap (λ l. l ++ back_letters) (append-nil front_letters) in
      ap (λ at. map (lettered_seat at) q.line) none
      ∙ line-stays front_letters back_letters first-apart.index behind.index q.line front-below behind.letters
      (every-front (λ (s : Seat). first-apart.index ≤ s.point.index) q.line (all_of (inner ++ after)) first-apart.above) (every-front (λ (s : Seat). s.point.index < behind.index) q.line (all_of inner) behind.lines)

  -- and the others have none
  module _ (l : Line) (ls : List Line) (more : inner ≡ l ∷ ls) where
    rest-apart : Between (all_of (before ++ (q.line ∷ []))) (all_of ((l ∷ ls) ++ after))
    rest-apart =
        let join : before ++ ((q.line ∷ inner) ++ after) ≡ (before ++ (q.line ∷ [])) ++ ((l ∷ ls) ++ after) = ap (λ ks. before ++ (q.line ∷ (ks ++ after))) more ∙ sym (append_assoc before (q.line ∷ []) ((l ∷ ls) ++ after)) in
        lines-apart t bytes (point 1 1 0 0) (before ++ (q.line ∷ [])) l (ls ++ after) (subst (λ ks. IsChain t bytes (point 1 1 0 0) (all_of ks)) join chain) (subst (AllByRecursion IsWhole) join whole) (subst LinesEnd join ends)

    abbrev k : ℕ
    k = rest-apart.index

    low : AllByRecursion (λ i. i < k) (front_letters ++ cond is_behind (text_begin q) [])
    low =
        let split = subst (AllByRecursion (λ (s : Seat). s.point.index < k)) (all-of-append before (q.line ∷ [])) rest-apart.below in
        every-append (λ i. i < k) front_letters (cond is_behind (text_begin q) [])
        (letters-in (λ i. i < k) on front (each-row (λ i. i < k) (rows_of front) (every-front (λ (s : Seat). s.point.index < k) (all_of before) (all_of (q.line ∷ [])) split)))
        (by is_behind (every-front (λ (s : Seat). s.point.index < k) q.line [] (every-back (λ (s : Seat). s.point.index < k) (all_of before) (all_of (q.line ∷ [])) split)))
      where
        by : (b : Bool) → AllByRecursion (λ (s : Seat). s.point.index < k) q.line → AllByRecursion (λ i. i < k) (cond b (text_begin q) [])
        by true h = one-in (λ i. i < k) (q.columns + indent (rest_of q)) q.line h
        by false h = tt

    rest-stay : map (map (lettered_seat letters_here)) (l ∷ ls) ≡ l ∷ ls
    rest-stay =
        ap (λ at. map (map (lettered_seat at)) (l ∷ ls)) letters-are
        ∙ all-stay (front_letters ++ cond is_behind (text_begin q) []) back_letters k behind.index (l ∷ ls) low behind.letters
        (each-line (λ i. k ≤ i) (l ∷ ls) (every-front (λ (s : Seat). k ≤ s.point.index) (all_of (l ∷ ls)) (all_of after) (subst (AllByRecursion (λ (s : Seat). k ≤ s.point.index)) (all-of-append (l ∷ ls) after) rest-apart.above)))
        (each-line (λ i. i < behind.index) (l ∷ ls) (subst (λ ks. AllByRecursion (λ (s : Seat). s.point.index < behind.index) (all_of ks)) more (every-back (λ (s : Seat). s.point.index < behind.index) q.line (all_of inner) behind.lines)))

  pub others-stay : map (map (lettered_seat letters_here)) inner ≡ inner
  others-stay = by inner refl
    where
      by : (ls : List Line) → inner ≡ ls → map (map (lettered_seat letters_here)) ls ≡ ls
      by [] e = refl
      by (l ∷ ls) e = rest-stay l ls e
