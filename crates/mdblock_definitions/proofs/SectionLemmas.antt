-- Lemmas on the sections of a part, as the code finds them.
use Rattle.std.proofs.Common.{◌≡◌, ℕ, zero, suc, ◌+◌, ◌-◌, ◌<◌, ◌≤◌, Bool, true, false, cond, List, [], ◌∷◌, ◌++◌, append_assoc, arith, drop, get_or, length, length-drop, length-take, map, refl, sym, ap, subst, take, ◌∙◌}
use Rattle.std.specs.Prelude.{◌==◌, ◌&&◌, filter, nat_le, not}
use Rattle.std.specs.List.{prefix_len}
use Rattle.std.proofs.lemmas.Bool.{false≢true}
use Rattle.std.proofs.lemmas.Bool.Decides.{nat_tests}
use Rattle.std.proofs.lemmas.List.{append-nil, length-take-le, take_rest}
use Rattle.std.proofs.lemmas.List.Elements.{filter-append}
use Rattle.markdown_base.specs.declared.configuration.Constructs.{Constructs}
use Rattle.markdown_base.specs.Virtual.{Seat}
use Rattle.mdconstructs_machines.specs.LineEvents.{line_text}
use Rattle.mdblock_leaf_blocks.specs.LeafBlocks.{Line, text_of}
use Rattle.mdblock_containers.specs.declared.spans.RowAt.{RowAt}
use Rattle.mdblock_containers.specs.declared.ahead.Ahead.{Ahead}
use Rattle.mdblock_containers.specs.Ahead.{AreRows, ahead_of}
use Rattle.mdblock_containers.specs.Rows.{Row, has_none, is_paragraph, rest_of, is_table}
use Rattle.mdblock_containers.specs.Skeleton.{Part, further, parts}
use Rattle.mdblock_containers.specs.Views.{IsRow}
use Rattle.mdblock_containers.proofs.AheadLemmas.{row_at, no_ahead, rows_length}
use Rattle.mdblock_containers.proofs.DocumentRows.{text_of_line_at}
use Rattle.mdblock_containers.proofs.RestLemmas.{further_few, part_of, parts_more}
use Rattle.mdinline_labels.specs.declared.definitions.Definition.{Definition}
use Rattle.mdinline_labels.specs.Definitions.{definitions, rest}
use Rattle.mdblock_definitions.specs.declared.sections.Section.{Section as CodeSection}
use Rattle.mdblock_definitions.specs.Held.{HasText, HaveTexts}
use Rattle.mdblock_definitions.specs.Sections.{Section, before_defined, begins_text, defined, defined_in, defining, in_same, lines, lines_defined, lines_of, paragraph_of, sections_in, sections_of, text_in, undefined, is_in_table, table, tabled}
use Rattle.mdblock_definitions.specs.Seen.{AreSections, AreThese, IsSection, begins_text_at, inside_of, is_text_at, row_by, rows_by, is_in_table_at, begins_in_table_at}
use Rattle.mdblock_definitions.proofs.Covered.{fewer-left, some-defined}
use Rattle.mdblock_definitions.proofs.CutAlike.{undefined-is}
use Rattle.mdblock_table_marks.specs.TableCuts.{begins_in_table}

-- ---- some of the lines

rows-front : (n : ℕ) (xs : List RowAt) (all : List Row) → AreRows xs all → AreRows (take n xs) (take n all)
rows-front zero xs all h = tt
rows-front (suc n) [] [] h = tt
rows-front (suc n) [] (r ∷ rs) h = absurd h
rows-front (suc n) (x ∷ xs) [] h = absurd h
rows-front (suc n) (x ∷ xs) (r ∷ rs) h = (h.0, rows-front n xs rs h.1)

pub rows-back : (n : ℕ) (xs : List RowAt) (all : List Row) → AreRows xs all → AreRows (drop n xs) (drop n all)
rows-back zero xs all h = h
rows-back (suc n) [] [] h = tt
rows-back (suc n) [] (r ∷ rs) h = absurd h
rows-back (suc n) (x ∷ xs) [] h = absurd h
rows-back (suc n) (x ∷ xs) (r ∷ rs) h = rows-back n xs rs h.1

module _ (t : ℕ) (bytes : List ℕ) where
  texts-front : (n : ℕ) (xs : List RowAt) (all : List Row) → HaveTexts t bytes xs all → HaveTexts t bytes (take n xs) (take n all)
  texts-front zero xs all h = tt
  texts-front (suc n) [] [] h = tt
  texts-front (suc n) [] (r ∷ rs) h = absurd h
  texts-front (suc n) (x ∷ xs) [] h = absurd h
  texts-front (suc n) (x ∷ xs) (r ∷ rs) h = (h.0, texts-front n xs rs h.1)

  texts-back : (n : ℕ) (xs : List RowAt) (all : List Row) → HaveTexts t bytes xs all → HaveTexts t bytes (drop n xs) (drop n all)
  texts-back zero xs all h = h
  texts-back (suc n) [] [] h = tt
  texts-back (suc n) [] (r ∷ rs) h = absurd h
  texts-back (suc n) (x ∷ xs) [] h = absurd h
  texts-back (suc n) (x ∷ xs) (r ∷ rs) h = texts-back n xs rs h.1

  pub these-front : (n : ℕ) (xs : List RowAt) (all : List Row) → AreThese t bytes xs all → AreThese t bytes (take n xs) (take n all)
  these-front n xs all h = record { rows = rows-front n xs all h.rows; texts = texts-front n xs all h.texts }

  pub these-back : (n : ℕ) (xs : List RowAt) (all : List Row) → AreThese t bytes xs all → AreThese t bytes (drop n xs) (drop n all)
  these-back n xs all h = record { rows = rows-back n xs all h.rows; texts = texts-back n xs all h.texts }

  -- ---- their text

  text-is : (x : RowAt) (r : Row) → HasText t bytes x r → text_of (row_by t bytes x).line ≡ text_of r.line
  text-is x r h = text_of_line_at t x.span.number x.span.start (drop x.span.start bytes) ∙ sym h.text

  none-by : (xs : List RowAt) (all : List Row) → HaveTexts t bytes xs all → has_none (rows_by t bytes xs) ≡ has_none all
  none-by [] [] h = refl
  none-by [] (r ∷ rs) h = absurd h
  none-by (x ∷ xs) [] h = absurd h
  none-by (x ∷ xs) (r ∷ rs) h = refl

  pub text-by : (xs : List RowAt) (all : List Row) → HaveTexts t bytes xs all → text_in (rows_by t bytes xs) ≡ text_in all
  text-by [] [] h = refl
  text-by [] (r ∷ rs) h = absurd h
  text-by (x ∷ xs) [] h = absurd h
  text-by (x ∷ xs) (r ∷ rs) h = λ k. drop (h.0.columns k) (text-is x r h.0 k) ++ cond (none-by xs rs h.1 k) [] (10 ∷ text-by xs rs h.1 k)

  pub texts-by : (xs : List RowAt) (all : List Row) → HaveTexts t bytes xs all → HaveTexts t bytes xs (rows_by t bytes xs)
  texts-by [] [] h = tt
  texts-by [] (r ∷ rs) h = absurd h
  texts-by (x ∷ xs) [] h = absurd h
  texts-by (x ∷ xs) (r ∷ rs) h = (
    record {
      inside = h.0.inside;
      text = text_of_line_at t x.span.number x.span.start (drop x.span.start bytes);
      columns = refl;
      within = omega (arith, h.0.within, h.0.columns, ap (λ (l : List ℕ). length l) (text-is x r h.0));
    },
    texts-by xs rs h.1,
  )

  -- how many lines a paragraph has
  pub size-is : (xs : List RowAt) (all : List Row) → AreRows xs all → prefix_len is_text_at xs ≡ prefix_len (λ (r : Row). is_paragraph r.leaf) all
  size-is [] [] h = refl
  size-is [] (r ∷ rs) h = absurd h
  size-is (x ∷ xs) [] h = absurd h
  size-is (x ∷ xs) (r ∷ rs) h = λ k. cond (is_paragraph (h.0.leaf k)) (1 + size-is xs rs h.1 k) 0

  module _ (rows : List RowAt) (all : List Row) (size : ℕ) (these : AreThese t bytes rows all) (es : size ≡ prefix_len is_text_at rows) (first : List RowAt) (ef : first ≡ take size rows) (text : List ℕ) (et : text ≡ text_in (rows_by t bytes first)) where
    pub paragraph-text : text ≡ text_in (paragraph_of all)
    paragraph-text =
        et ∙ ap (λ l. text_in (rows_by t bytes l)) ef ∙ text-by (take size rows) (take size all) (these-front size rows all these).texts
        ∙ ap (λ n. text_in (take n all)) (es ∙ size-is rows all these.rows)

    pub paragraph-lines : (on : Constructs) (n end : ℕ) → on.definition ≡ true → n ≡ lines_of text - lines_of (drop end text) → drop end text ≡ rest text → n ≡ defined_in on all
    paragraph-lines on n end is en er =
        en ∙ (λ k. lines_of text - lines_of (er k)) ∙ ap lines_defined paragraph-text ∙ ap (λ (b : Bool). cond b (lines_defined (text_in (paragraph_of all))) 0) (sym is)

    pub paragraph-definitions : (ds : List Definition) → ds ≡ definitions text → ds ≡ definitions (text_in (paragraph_of all))
    paragraph-definitions ds ed = ed ∙ ap definitions paragraph-text

-- where definitions are off, none are there
pub none-defined : (on : Constructs) (all : List Row) → on.definition ≡ false → 0 ≡ defined_in on all
none-defined on all is = ap (λ (b : Bool). cond b (lines_defined (text_in (paragraph_of all))) 0) (sym is)

-- ---- definitions have no more lines than there are

abbrev pub tens : List ℕ → ℕ
tens xs = length (filter (λ c. c == 10) xs)

pub no-ten : (line : Line) → filter (λ c. c == 10) (text_of line) ≡ []
no-ten [] = refl
no-ten (s ∷ ss) = by (s.byte == 10) refl (no-ten ss)
  where
    by : (b : Bool) → (s.byte == 10) ≡ b → filter (λ c. c == 10) (text_of ss) ≡ [] → filter (λ c. c == 10) (map (λ (q : Seat). q.byte) (cond (not b) (s ∷ line_text ss) (line_text ss))) ≡ []
    by true e h = h
    by false e h = ap (λ (b : Bool). cond b (s.byte ∷ filter (λ c. c == 10) (text_of ss)) (filter (λ c. c == 10) (text_of ss))) e ∙ h

pub ten-back : (n : ℕ) (xs : List ℕ) → filter (λ c. c == 10) xs ≡ [] → filter (λ c. c == 10) (drop n xs) ≡ []
ten-back zero xs h = h
ten-back (suc n) [] h = refl
ten-back (suc n) (x ∷ xs) h = ten-back n xs (by (x == 10) h)
  where
    by : (b : Bool) → cond b (x ∷ filter (λ c. c == 10) xs) (filter (λ c. c == 10) xs) ≡ [] → filter (λ c. c == 10) xs ≡ []
    by true e = absurd (false≢true (ap has_none e))
    by false e = e

pub tens-in : (r : Row) (rs : List Row) → length (filter (λ c. c == 10) (text_in (r ∷ rs))) ≡ length rs
tens-in r [] = ap (λ l. length (filter (λ c. c == 10) l)) (append-nil (rest_of r)) ∙ ap (λ (l : List ℕ). length l) (ten-back r.columns (text_of r.line) (no-ten r.line))
tens-in r (q ∷ qs) =
    ap (λ (l : List ℕ). length l) (filter-append (λ c. c == 10) (rest_of r) (10 ∷ text_in (q ∷ qs)) ∙ ap (λ (l : List ℕ). l ++ filter (λ c. c == 10) (10 ∷ text_in (q ∷ qs))) (ten-back r.columns (text_of r.line) (no-ten r.line)))
    ∙ ap suc (tens-in q qs)

pub few-lines : (rs : List Row) → lines_of (text_in rs) ≤ length rs
few-lines [] = omega arith
few-lines (r ∷ rs) = by (text_in (r ∷ rs)) (tens-in r rs)
  where
    by : (text : List ℕ) → length (filter (λ c. c == 10) text) ≡ length rs → lines_of text ≤ suc (length rs)
    by [] e = omega arith
    by (b ∷ bs) e = omega (arith, e)

pub defined-few : (on : Constructs) (rs : List Row) → defined_in on rs ≤ length rs
defined-few on rs = by on.definition
  where
    few : lines_defined (text_in (paragraph_of rs)) ≤ length rs
    few =
        let size = few-lines (paragraph_of rs) in
        let front = length-take (prefix_len (λ (r : Row). is_paragraph r.leaf) rs) rs in
        omega (arith, size, front)

    by : (b : Bool) → cond b (lines_defined (text_in (paragraph_of rs))) 0 ≤ length rs
    by true = few
    by false = omega arith

-- ---- the first definitions

not-yet : (p : Bool) (m d : ℕ) → m ≡ cond p 0 d → m < 1 → (not p && nat_le 1 d) ≡ false
not-yet true m d e h = refl
not-yet false m d e h = let none : d ≡ 0 = omega (arith, e, h) in ap (nat_le 1) none

now : (p : Bool) (m d : ℕ) → m ≡ cond p 0 d → 1 ≤ m → ((not p && nat_le 1 d) ≡ true) × (m ≡ d)
now true m d e h = absurd (omega (arith, e, h))
now false m d e h = (some d (omega (arith, e, h)), e)
  where
    some : (n : ℕ) → 1 ≤ n → nat_le 1 n ≡ true
    some n k = grind (arith, nat_tests, k)

module _ (on : Constructs) (p : Bool) (n found : ℕ) (all left rs : List Row) (r : Row) (el : left ≡ r ∷ rs) (ed : found ≡ cond p 0 (defined_in on left)) (sum : n + before_defined on p left ≡ before_defined on false all) where
  here : found ≡ cond p 0 (defined_in on (r ∷ rs))
  here = ed ∙ ap (λ l. cond p 0 (defined_in on l)) el

  pub found-later : (q : Bool) → found < 1 → q ≡ is_paragraph r.leaf → (n + 1) + before_defined on q rs ≡ before_defined on false all
  found-later q h eq =
      let step : before_defined on p left ≡ suc (before_defined on q rs) =
      ap (before_defined on p) el ∙ ap (λ (c : Bool). cond c 0 (suc (before_defined on (is_paragraph r.leaf) rs))) (not-yet p found (defined_in on (r ∷ rs)) here h) ∙ ap (λ (v : Bool). suc (before_defined on v rs)) (sym eq) in
      omega (arith, sum, step)

  pub found-now : 1 ≤ found → (n ≡ before_defined on false all) × (found ≡ defined_in on left)
  found-now h =
      let is = now p found (defined_in on (r ∷ rs)) here h in
      let none : before_defined on p left ≡ 0 = ap (before_defined on p) el ∙ ap (λ (c : Bool). cond c 0 (suc (before_defined on (is_paragraph r.leaf) rs))) is.0 in
      (omega (arith, sum, none), is.1 ∙ ap (defined_in on) (sym el))

pub nothing-in : (on : Constructs) → 0 ≡ defined_in on []
nothing-in on = by on.definition
  where
    by : (b : Bool) → 0 ≡ cond b (lines_defined (text_in (paragraph_of []))) 0
    by true = refl
    by false = refl

-- The first of the lines that are left
pub record NextLine (rows : List RowAt) (all : List Row) (n : ℕ) : Type 0 where
  pub row : Row
  pub rest : drop n all ≡ row ∷ drop (n + 1) all
  pub text : (x : RowAt) → x ≡ get_or rows n x → is_text_at x ≡ is_paragraph row.leaf
  pub table : (x : RowAt) → x ≡ get_or rows n x → is_in_table_at x ≡ is_in_table row

pub next-line : (rows : List RowAt) (all : List Row) (n : ℕ) → AreRows rows all → n < length rows → NextLine rows all n
next-line [] all n are h = absurd (omega (arith, h))
next-line (x ∷ xs) [] n are h = absurd are
next-line (x ∷ xs) (r ∷ rs) zero are h = record { row = r; rest = refl; text = λ y e. ap is_text_at e ∙ ap is_paragraph are.0.leaf; table = λ y e. ap is_in_table_at e ∙ ap is_table are.0.leaf }
next-line (x ∷ xs) (r ∷ rs) (suc n) are h = let more = next-line xs rs n are.1 (omega (arith, h)) in let one : suc n + 1 ≡ suc (n + 1) = omega arith in record { row = more.row; rest = more.rest ∙ ap (λ m. more.row ∷ drop m (r ∷ rs)) (sym one); text = λ y e. more.text y e; table = λ y e. more.table y e }

pub begins-table : (rows : List RowAt) (all : List Row) → AreRows rows all → begins_in_table_at rows ≡ begins_in_table is_in_table all
begins-table [] [] are = refl
begins-table [] (r ∷ rs) are = absurd are
begins-table (x ∷ xs) [] are = absurd are
begins-table (x ∷ xs) (r ∷ rs) are = ap is_table are.0.leaf

-- ---- lines that are left

-- the lines that are left
pub these-left : (t : ℕ) (bytes : List ℕ) (rows : List RowAt) (all : List Row) (i : ℕ) → AreThese t bytes rows all → AreThese t bytes (take (length rows - i) (drop i rows)) (drop i all)
these-left t bytes rows all i h = subst (λ (l : List RowAt). AreThese t bytes l (drop i all)) (sym (take_rest rows i)) (these-back t bytes i rows all h)

-- and the first of them
pub these-first : (t : ℕ) (bytes : List ℕ) (rows : List RowAt) (all : List Row) (i n e : ℕ) → e ≡ i + n → AreThese t bytes rows all → AreThese t bytes (take (e - i) (drop i rows)) (take n (drop i all))
these-first t bytes rows all i n e h these =
    let size : e - i ≡ n = omega (arith, h) in
    subst (λ (k : ℕ). AreThese t bytes (take k (drop i rows)) (take n (drop i all))) (sym size) (these-front t bytes n (drop i rows) (drop i all) (these-back t bytes i rows all these))

-- ---- one section more

pub sections-push : (xs ys : List CodeSection) (x : CodeSection) (ss : List Section) (s : Section) → ys ≡ xs ++ x ∷ [] → AreSections xs ss → IsSection x s → AreSections ys (ss ++ s ∷ [])
sections-push xs ys x ss s e h i = subst (λ (l : List CodeSection). AreSections l (ss ++ s ∷ [])) (sym e) (by xs ss h)
  where
    by : (xs : List CodeSection) (ss : List Section) → AreSections xs ss → AreSections (xs ++ x ∷ []) (ss ++ s ∷ [])
    by [] [] h = (i, tt)
    by [] (q ∷ qs) h = absurd h
    by (y ∷ ys) [] h = absurd h
    by (y ∷ ys) (q ∷ qs) h = (h.0, by ys qs h.1)

pub begins-is : (xs : List RowAt) (all : List Row) → AreRows xs all → begins_text_at xs ≡ begins_text all
begins-is [] [] h = refl
begins-is [] (r ∷ rs) h = absurd h
begins-is (x ∷ xs) [] h = absurd h
begins-is (x ∷ xs) (r ∷ rs) h = ap is_paragraph h.0.leaf

-- a line at an index, and how many further lines its part has
pub record IsLine (rows : List RowAt) (all : List Row) (i : ℕ) (x : RowAt) (n : ℕ) : Type 0 where
  pub row : Row
  pub is : IsRow x.span.number x.row row
  pub rest : drop i all ≡ row ∷ drop (i + 1) all
  pub size : n ≡ cond row.is_blank 0 (further (drop (i + 1) all))
  pub few : i + (1 + n) ≤ length rows

pub line-at : (rows : List RowAt) (aheads : List Ahead) (all : List Row) (i : ℕ) (x : RowAt) (n : ℕ) → AreRows rows all → i < length rows → x ≡ get_or rows i x
    → ((d : Ahead) (k : ℕ) → k < length rows → get_or aheads k d ≡ ahead_of (drop (length rows - k) all)) → n ≡ cond (get_or rows i x).row.is_blank 0 (get_or aheads (length rows - 1 - i) no_ahead).further → IsLine rows all i x n
line-at rows aheads all i x n are h ex f en =
    let at = row_at x rows all i are h in
    let is : IsRow x.span.number x.row at.row = subst (λ (y : RowAt). IsRow y.span.number y.row at.row) (sym ex) at.is in
    let one : suc i ≡ i + 1 = omega arith in
    let place : length rows - (length rows - 1 - i) ≡ i + 1 = omega (arith, h) in
    let size : n ≡ cond at.row.is_blank 0 (further (drop (i + 1) all)) = en ∙ (λ k. cond (at.is.is_blank k) 0 ((f no_ahead (length rows - 1 - i) (omega (arith, h)) ∙ ap (λ m. ahead_of (drop m all)) place) k).further) in
    let left = small at.row.is_blank size in
    record {
      row = at.row;
      is = is;
      rest = at.rest ∙ ap (λ m. at.row ∷ drop m all) one;
      size = size;
      few = omega (arith, left, length-drop (i + 1) all, rows_length rows all are, h);
    }
  where
    small : (b : Bool) → n ≡ cond b 0 (further (drop (i + 1) all)) → n ≤ length (drop (i + 1) all)
    small true e = omega (arith, e)
    small false e = omega (arith, e, further_few (drop (i + 1) all))

-- sections so far, and the lines that are left of lines without definitions
pub record Pushed (xs : List CodeSection) (is_behind : Bool) (left : List Row) (around : Part) (target : List Section) : Type 0 where
  pub front : List Section
  pub are : AreSections xs front
  pub same : front ++ sections_of is_behind (map (in_same around) (parts left)) ≡ target

pub pushed-init : (xs : List CodeSection) (before : List Section) (all : List Row) (around : Part) (is_behind b : Bool) → AreSections xs before → b ≡ (is_behind && begins_text all) → Pushed xs b all around (before ++ undefined is_behind around all)
pushed-init xs before all around is_behind b are e = record { front = before; are = are; same = ap (λ (v : Bool). before ++ sections_of v (map (in_same around) (parts all))) e ∙ ap (λ ss. before ++ ss) (sym (undefined-is is_behind around all)) }

plain-is : (ps : List Part) → map (λ p. record { part = p; inside = lines false }) ps ≡ sections_of false ps
plain-is [] = refl
plain-is (p ∷ ps) = refl

pub pushed-more : (xs ys : List CodeSection) (x : CodeSection) (is_behind : Bool) (n : ℕ) (r : Row) (rs left next : List Row) (around : Part) (target : List Section)
    → ys ≡ xs ++ x ∷ [] → left ≡ r ∷ rs → n ≡ cond r.is_blank 0 (further rs) → next ≡ drop n rs → x.further ≡ n → inside_of x.inside ≡ lines is_behind → Pushed xs is_behind left around target → Pushed ys false next around target
pushed-more xs ys x is_behind n r rs left next around target ey el en ex ef ei w =
    let p = in_same around (part_of r rs) in
    let s : Section = record { part = p; inside = lines is_behind } in
    let few : n ≤ length rs = small n r.is_blank en in
    let size : x.further ≡ length (take (cond r.is_blank 0 (further rs)) rs) = ef ∙ sym (length-take-le n rs few) ∙ ap (λ k. length (take k rs)) en in
    let split : sections_of is_behind (map (in_same around) (parts left)) ≡ s ∷ sections_of false (map (in_same around) (parts next)) =
    ap (λ l. sections_of is_behind (map (in_same around) (parts l))) el ∙ ap (λ l. sections_of is_behind (map (in_same around) l)) (parts_more r rs)
    ∙ ap (λ l. s ∷ l) (plain-is (map (in_same around) (parts (drop (cond r.is_blank 0 (further rs)) rs)))) ∙ ap (λ l. s ∷ sections_of false (map (in_same around) (parts l))) (ap (λ k. drop k rs) (sym en) ∙ sym ex) in
    record {
      front = w.front ++ s ∷ [];
      are = sections-push xs ys x w.front s ey w.are (record { further = size; inside = ei });
      same = append_assoc w.front (s ∷ []) (sections_of false (map (in_same around) (parts next))) ∙ ap (λ l. w.front ++ l) (sym split) ∙ w.same;
    }
  where
    small : (n : ℕ) (b : Bool) → n ≡ cond b 0 (further rs) → n ≤ length rs
    small n true e = omega (arith, e)
    small n false e = let few = further_few rs in omega (arith, e, few)

pub pushed-end : (xs : List CodeSection) (is_behind : Bool) (left : List Row) (around : Part) (target : List Section) → left ≡ [] → Pushed xs is_behind left around target → AreSections xs target
pushed-end xs is_behind left around target e w =
    subst (AreSections xs) (sym (append-nil w.front) ∙ ap (λ l. w.front ++ sections_of is_behind (map (in_same around) (parts l))) (sym e) ∙ w.same) w.are

-- definitions
pub defining-push : (xs ys : List CodeSection) (x : CodeSection) (ss : List Section) (ds : List Definition) (around : Part) (rows : List Row) → ys ≡ xs ++ x ∷ [] → suc x.further ≡ length rows → inside_of x.inside ≡ defined ds → AreSections xs ss
    → AreSections ys (ss ++ defining ds around rows)
defining-push xs ys x ss ds around [] ey ef ei h = absurd (omega (arith, ef))
defining-push xs ys x ss ds around (r ∷ rs) ey ef ei h = sections-push xs ys x ss (record { part = record around { first = r; more = rs }; inside = defined ds }) ey h (record { further = omega (arith, ef); inside = ei })

pub defining-none : (xs : List CodeSection) (ss : List Section) (ds : List Definition) (around : Part) (rows : List Row) → length rows ≡ 0 → AreSections xs ss → AreSections xs (ss ++ defining ds around rows)
defining-none xs ss ds around [] e h = subst (AreSections xs) (sym (append-nil ss)) h
defining-none xs ss ds around (r ∷ rs) e h = absurd (omega (arith, e))

-- a table
pub tabled-push : (xs ys : List CodeSection) (x : CodeSection) (ss : List Section) (around : Part) (rows : List Row) → ys ≡ xs ++ x ∷ [] → suc x.further ≡ length rows → inside_of x.inside ≡ table → AreSections xs ss
    → AreSections ys (ss ++ tabled around rows)
tabled-push xs ys x ss around [] ey ef ei h = absurd (omega (arith, ef))
tabled-push xs ys x ss around (r ∷ rs) ey ef ei h = sections-push xs ys x ss (record { part = record around { first = r; more = rs }; inside = table }) ey h (record { further = omega (arith, ef); inside = ei })

pub tabled-none : (xs : List CodeSection) (ss : List Section) (around : Part) (rows : List Row) → length rows ≡ 0 → AreSections xs ss → AreSections xs (ss ++ tabled around rows)
tabled-none xs ss around [] e h = subst (AreSections xs) (sym (append-nil ss)) h
tabled-none xs ss around (r ∷ rs) e h = absurd (omega (arith, e))

-- sections behind others
pub sections-both : (xs ys : List CodeSection) (ss ts : List Section) → AreSections xs ss → AreSections ys ts → AreSections (xs ++ ys) (ss ++ ts)
sections-both [] ys [] ts h k = k
sections-both [] ys (s ∷ ss) ts h k = absurd h
sections-both (x ∷ xs) ys [] ts h k = absurd h
sections-both (x ∷ xs) ys (s ∷ ss) ts h k = (h.0, sections-both xs ys ss ts h.1 k)

-- ---- all of a part

-- sections so far, and the lines that are left of the part
pub record Cut (on : Constructs) (xs : List CodeSection) (is_behind : Bool) (left : List Row) (around : Part) (target : List Section) : Type 0 where
  pub front : List Section
  pub bound : ℕ
  pub few : length left ≤ bound
  pub are : AreSections xs front
  pub same : front ++ sections_in on bound is_behind around left ≡ target

pub cut-init : (on : Constructs) (xs : List CodeSection) (all : List Row) (around : Part) → xs ≡ [] → Cut on xs false all around (sections_in on (length all) false around all)
cut-init on xs all around e = record { front = []; bound = length all; few = omega arith; are = subst (λ (l : List CodeSection). AreSections l []) (sym e) tt; same = refl }

pub sections-none : (on : Constructs) (b : ℕ) (x : Bool) (p : Part) → sections_in on b x p [] ≡ []
sections-none on zero x p = refl
sections-none on (suc b) x p = refl

pub cut-end : (on : Constructs) (xs : List CodeSection) (is_behind : Bool) (left : List Row) (around : Part) (target : List Section) → left ≡ [] → Cut on xs is_behind left around target → AreSections xs target
cut-end on xs is_behind left around target e w =
    subst (AreSections xs) (sym (append-nil w.front) ∙ ap (λ l. w.front ++ l) (sym (sections-none on w.bound is_behind around)) ∙ ap (λ l. w.front ++ sections_in on w.bound is_behind around l) (sym e) ∙ w.same) w.are

-- lines go by
pub goes-on : (on : Constructs) (n d : ℕ) (left rs : List Row) (r : Row) → left ≡ r ∷ rs → n ≡ before_defined on false left → d ≡ defined_in on (drop n left) → 1 ≤ n + d
goes-on on zero d left rs r el en ed =
    let some = some-defined on r rs (sym (ap (before_defined on false) el) ∙ sym en) in
    let same : d ≡ defined_in on (r ∷ rs) = ed ∙ ap (defined_in on) el in
    omega (arith, some, same)
goes-on on (suc n) d left rs r el en ed = omega arith

pub cut-more : (on : Constructs) (xs ys zs : List CodeSection) (is_behind : Bool) (n d : ℕ) (left next rs : List Row) (r : Row) (around : Part) (target : List Section) → left ≡ r ∷ rs → n ≡ before_defined on false left → d ≡ defined_in on (drop n left) → next ≡ drop d (drop n left)
    → ((before : List Section) → AreSections xs before → AreSections ys (before ++ undefined is_behind around (take n left)))
    → ((before : List Section) → AreSections ys before → AreSections zs (before ++ defining (definitions (text_in (paragraph_of (drop n left)))) around (take d (drop n left))))
    → Cut on xs is_behind left around target → Cut on zs true next around target
cut-more on xs ys zs is_behind n d left next rs r around target el en ed ex hy hz w = by w.bound w.few w.same
  where
    pieces : (b n d : ℕ) → List Row → List Section
    pieces b n d l = undefined is_behind around (take n l) ++ (defining (definitions (text_in (paragraph_of (drop n l)))) around (take d (drop n l)) ++ sections_in on b true around (drop d (drop n l)))

    by : (b : ℕ) → length left ≤ b → w.front ++ sections_in on b is_behind around left ≡ target → Cut on zs true next around target
    by zero few same = absurd (omega (arith, few, ap (λ (l : List Row). length l) el))
    by (suc b) few same =
        let u = undefined is_behind around (take n left) in
        let v = defining (definitions (text_in (paragraph_of (drop n left)))) around (take d (drop n left)) in
        let whole : sections_in on (suc b) is_behind around (r ∷ rs) ≡ pieces b (before_defined on false (r ∷ rs)) (defined_in on (drop (before_defined on false (r ∷ rs)) (r ∷ rs))) (r ∷ rs) = refl in
        let step : sections_in on (suc b) is_behind around left ≡ pieces b n d left =
        ap (sections_in on (suc b) is_behind around) el ∙ whole
        ∙ ap (λ l. pieces b (before_defined on false l) (defined_in on (drop (before_defined on false l) l)) l) (sym el)
        ∙ ap (λ m. pieces b m (defined_in on (drop m left)) left) (sym en)
        ∙ ap (λ m. pieces b n m left) (sym ed) in
        let less = fewer-left on r rs b (omega (arith, few, ap (λ (l : List Row). length l) el)) in
        let gone : next ≡ drop (defined_in on (drop (before_defined on false (r ∷ rs)) (r ∷ rs))) (drop (before_defined on false (r ∷ rs)) (r ∷ rs)) =
        ex ∙ ap (λ m. drop m (drop n left)) ed ∙ ap (λ m. drop (defined_in on (drop m left)) (drop m left)) en ∙ ap (λ l. drop (defined_in on (drop (before_defined on false l) l)) (drop (before_defined on false l) l)) el in
        record {
          front = (w.front ++ u) ++ v;
          bound = b;
          few = omega (arith, less, ap (λ (l : List Row). length l) gone);
          are = hz (w.front ++ u) (hy w.front w.are);
          same =
              append_assoc (w.front ++ u) v (sections_in on b true around next) ∙ append_assoc w.front u (v ++ sections_in on b true around next)
              ∙ ap (λ l. w.front ++ (u ++ (v ++ sections_in on b true around l))) ex
              ∙ ap (λ l. w.front ++ l) (sym step) ∙ same;
        }
