-- A letter for a lazy underline, or for text directly behind definitions, stands where a byte is no tab, and no part of a line ending.
use Rattle.std.proofs.Common.{◌≡◌, ℕ, zero, suc, ◌+◌, ◌-◌, ◌≤◌, Bool, true, false, cond, List, [], ◌∷◌, ◌++◌, take, drop, length, map, get_or, refl, sym, ap, ◌∙◌, subst, arith, eq-eqb}
use Rattle.std.specs.Prelude.{◌==◌, ◌&&◌, ◌||◌, not}
use Rattle.std.specs.List.{AllByRecursion, flat_map, list_any}
use Rattle.std.proofs.lemmas.Bool.{false≢true, eqb-true}
use Rattle.std.proofs.lemmas.List.{drop-drop}
use Rattle.markdown_base.proofs.Common.{and-right, every-append, every-map, every-take, every-drop}
use Rattle.markdown_base.specs.declared.configuration.Constructs.{Constructs}
use Rattle.markdown_base.specs.Virtual.{Seat, begins_with_lf, in_tab, line_feed, other_byte, tab_width, virtual, virtual_from}
use Rattle.markdown_tokenizer.proofs.Positions.Order.{every-back, every-front}
use Rattle.mdconstructs_tables.specs.Breaks.{is_white}
use Rattle.mdconstructs_machines.specs.LineEvents.{line_text, lines_in}
use Rattle.mdblock_leaf_blocks.proofs.Lines.WholeLines.{IsWhole, whole-lines}
use Rattle.mdblock_leaf_blocks.specs.LeafBlocks.{Line, bytes_of, text_of}
use Rattle.mdblock_leaf_blocks.specs.LineKinds.{begins_with, indent, is_blank_line}
use Rattle.mdblock_containers.proofs.PlainLetters.{AtMark, IsMarked, IsPlainAt, every_both, is_mark, lines_each, one_of, plain_from, text_byte, underline_plain, underlines_plain}
use Rattle.mdblock_containers.specs.Letters.{is_plain, lazy_underline}
use Rattle.mdblock_containers.specs.Rows.{Row, is_paragraph, nothing_known, rest_of, is_table}
use Rattle.mdblock_containers.specs.Skeleton.{Part, parts}
use Rattle.mdblock_table_marks.specs.TableCuts.{cut_at_tables}
use Rattle.mdinline_labels.specs.declared.definitions.Definition.{Definition}
use Rattle.mdinline_labels.specs.Definitions.{definitions}
use Rattle.mdblock_definitions.specs.SkeletonLaws.{LettersArePlain}
use Rattle.mdblock_definitions.specs.Rows.{Known, known_after, row_of, rows, rows_from}
use Rattle.mdblock_definitions.specs.Sections.{Inside, Section, before_defined, cut, defined, defined_in, defining, in_same, lines, paragraph_of, sections, sections_in, text_in, undefined, is_in_table, sections_of_cut, table, tabled}
use Rattle.mdblock_definitions.specs.Skeleton.{all_rows, letters, letters_of_section, text_begin}
use Rattle.mdblock_definitions.proofs.Covered.{rows_of, sections-hold-lines, cuts-every}
use Rattle.mdblock_definitions.proofs.FilledTexts.{text-not-blank}

-- ---- bytes of text

-- a byte that is neither white space nor a line ending
abbrev is_text : ℕ → Bool
is_text b = not (is_white b) && not (b == 10)

-- such a virtual byte has the index of a plain byte of these, of which the first has this index
abbrev AtText : (bytes : List ℕ) → (index : ℕ) → Seat → Type 0
AtText bytes n s = is_text s.byte ≡ true → (n ≤ s.point.index) × (is_plain (get_or bytes (s.point.index - n) 0) ≡ true)

tab-text : (bytes : List ℕ) (n k byte line column index vs : ℕ) → is_text byte ≡ false → AllByRecursion (AtText bytes n) (in_tab byte k line column index vs)
tab-text bytes n zero byte line column index vs e = tt
tab-text bytes n (suc k) byte line column index vs e = ((λ m. absurd (false≢true (sym e ∙ m))), tab-text bytes n k 32 line (suc column) index (suc vs) refl)

one-behind : (b : ℕ) (bs : List ℕ) (n : ℕ) (s : Seat) → AtText bs (suc n) s → AtText (b ∷ bs) n s
one-behind b bs n s h m =
    let p = h m in
    let within = p.0 in
    let on : s.point.index - n ≡ suc (s.point.index - suc n) = omega (arith, within) in
    (omega (arith, within), ap (λ i. is_plain (get_or (b ∷ bs) i 0)) on ∙ p.1)

text-is-plain : (t line column n : ℕ) (bs : List ℕ) → AllByRecursion (AtText bs n) (virtual_from t line column n bs)
text-is-plain t line column n [] = tt
text-is-plain t line column n (b ∷ bs) =
    by (λ l c. every-map (AtText bs (suc n)) (AtText (b ∷ bs) n) (one-behind b bs n) (virtual_from t l c (suc n) bs) (text-is-plain t l c (suc n) bs)) (b == 10) (b == 13) (begins_with_lf bs) (b == 9) refl refl refl
  where
    here : n - n ≡ 0
    here = omega arith

    by : ((l c : ℕ) → AllByRecursion (AtText (b ∷ bs) n) (virtual_from t l c (suc n) bs)) → (lf cr lf_comes tab : Bool) → (b == 10) ≡ lf → (b == 13) ≡ cr → (b == 9) ≡ tab
        → AllByRecursion (AtText (b ∷ bs) n)
        (cond lf (line_feed line column n ∷ virtual_from t (suc line) 1 (suc n) bs)
        (cond cr (cond lf_comes (virtual_from t line column (suc n) bs) (line_feed line column n ∷ virtual_from t (suc line) 1 (suc n) bs))
        (cond tab (in_tab 9 (tab_width t column) line column n 0 ++ virtual_from t line (column + tab_width t column) (suc n) bs) (other_byte b line column n ∷ virtual_from t line (suc column) (suc n) bs))))
    by rest true cr lf_comes tab el ec et = ((λ m. absurd (false≢true m)), rest (suc line) 1)
    by rest false true true tab el ec et = rest line column
    by rest false true false tab el ec et = ((λ m. absurd (false≢true m)), rest (suc line) 1)
    by rest false false lf_comes true el ec et =
        every-append (AtText (b ∷ bs) n) (in_tab 9 (tab_width t column) line column n 0) (virtual_from t line (column + tab_width t column) (suc n) bs) (tab-text (b ∷ bs) n (tab_width t column) 9 line column n 0 refl)
        (rest line (column + tab_width t column))
    by rest false false lf_comes false el ec et =
        ((λ m. (omega arith, ap (λ i. is_plain (get_or (b ∷ bs) i 0)) here ∙ (λ k. not (et k) && (not (el k) && not (ec k))))), rest line (suc column))

-- a mark of an underline is text
mark-is-text : (b : ℕ) → is_mark b ≡ true → is_text b ≡ true
mark-is-text b h = by (b == 61) refl h
  where
    by : (x : Bool) → (b == 61) ≡ x → (x || (b == 45)) ≡ true → is_text b ≡ true
    by true e h = ap is_text (eqb-true b 61 e)
    by false e h = ap is_text (eqb-true b 45 h)

-- ---- one line

-- no byte of a line's text is a line ending
pub no-ending : (line : Line) → AllByRecursion (λ (c : ℕ). (c == 10) ≡ false) (text_of line)
no-ending [] = tt
no-ending (s ∷ ss) = by (no-ending ss) (s.byte == 10) refl
  where
    by : AllByRecursion (λ (c : ℕ). (c == 10) ≡ false) (text_of ss) → (x : Bool) → (s.byte == 10) ≡ x → AllByRecursion (λ (c : ℕ). (c == 10) ≡ false) (bytes_of (cond (not x) (s ∷ line_text ss) (line_text ss)))
    by rest true e = rest
    by rest false e = (e, rest)

-- a line that is not blank has text behind its white space
some-text : (t : List ℕ) → AllByRecursion (λ (c : ℕ). (c == 10) ≡ false) t → is_blank_line t ≡ false → (c : ℕ) × (begins_with c (drop (indent t) t) ≡ true) × (is_text c ≡ true)
some-text [] h e = absurd (false≢true (sym e))
some-text (b ∷ bs) h e = by (some-text bs h.1) (is_white b) refl e
  where
    by : (is_blank_line bs ≡ false → (c : ℕ) × (begins_with c (drop (indent bs) bs) ≡ true) × (is_text c ≡ true)) → (x : Bool) → is_white b ≡ x → (x && is_blank_line bs) ≡ false → (c : ℕ) × (begins_with c (drop (cond x (1 + indent bs) 0) (b ∷ bs)) ≡ true) × (is_text c ≡ true)
    by behind true w e =
        let rest = behind e in
        let on : 1 + indent bs ≡ suc (indent bs) = omega arith in
        (rest.0, ap (λ k. begins_with rest.0 (drop k (b ∷ bs))) on ∙ rest.1, rest.2)
    by behind false w e = (b, eq-eqb b b refl, (λ k. not (w k) && not (h.0 k)))

module _ (on : Constructs) where
  -- no paragraph is open behind a blank line
  pub open-not-blank : (k : Known) (n : ℕ) (line : Line) → is_paragraph (row_of on k n line).leaf ≡ true → is_blank_line (rest_of (row_of on k n line)) ≡ false
  open-not-blank k n line is-open = text-not-blank on k n line (ap (λ b. b || is_table (row_of on k n line).leaf) is-open)

module _ (on : Constructs) (bytes : List ℕ) where
  -- what is known of a line: it is whole, and its text is plain
  abbrev IsPlainLine : Line → Type 0
  IsPlainLine line = IsWhole line × AllByRecursion (AtText bytes 0) line

  -- and of a line with its containers: no paragraph is open behind a blank one
  abbrev IsPlainRow : Row → Type 0
  IsPlainRow row = IsPlainLine row.line × (is_paragraph row.leaf ≡ true → is_blank_line (rest_of row) ≡ false)

  marked-line : (line : Line) → IsPlainLine line → IsMarked on bytes line
  marked-line line h = (h.0, every-map (AtText bytes 0) (AtMark bytes 0) (λ s k m. k (mark-is-text s.byte m)) line h.1)

  plain-here : (c : ℕ) → is_text c ≡ true → (ss : List Seat) → AllByRecursion (λ (s : Seat). (s.byte == c) ≡ true) ss → AllByRecursion (AtText bytes 0) ss → AllByRecursion (IsPlainAt on bytes) (map (λ (s : Seat). s.point.index) ss)
  plain-here c is [] h k = tt
  plain-here c is (s ∷ ss) h k =
      let none : s.point.index - 0 ≡ s.point.index = omega arith in
      let at = k.0 (ap is_text (eqb-true s.byte c h.0) ∙ is) in
      (ap (λ i. is_plain (get_or bytes i 0)) (sym none) ∙ at.1, plain-here c is ss h.1 k.1)

  begin-plain : (row : Row) → IsPlainLine row.line → is_blank_line (rest_of row) ≡ false → AllByRecursion (IsPlainAt on bytes) (text_begin row)
  begin-plain row h e =
      let t = text_of row.line in
      let n = row.columns + indent (rest_of row) in
      let some = some-text (rest_of row) (every-drop (λ (c : ℕ). (c == 10) ≡ false) row.columns t (no-ending row.line)) e in
      let there : begins_with some.0 (drop n t) ≡ true = ap (begins_with some.0) (sym (drop-drop (indent (rest_of row)) row.columns t)) ∙ some.1 in
      plain-here some.0 some.2 (take 1 (drop n row.line)) (text_byte some.0 row.line n h.0 there) (every-take (AtText bytes 0) 1 (drop n row.line) (every-drop (AtText bytes 0) n row.line h.1))

  -- ---- sections

  -- the first line of a section that is text directly behind definitions is text
  abbrev BeginsText : Section → Type 0
  BeginsText s = elim s.inside as (λ _. Type 0) [ lines is_behind ↦ (is_behind ≡ true → is_paragraph s.part.first.leaf ≡ true) | defined ds ↦ Unit {0} | table ↦ Unit {0} ]

  underlined : (rs : List Row) → AllByRecursion IsPlainRow rs → AllByRecursion (IsPlainAt on bytes) (flat_map (lazy_underline on) rs)
  underlined rs h = underlines_plain on bytes rs (every-map IsPlainRow (λ (row : Row). IsMarked on bytes row.line) (λ row k. marked-line row.line k.0) rs h)

  section-plain : (s : Section) → BeginsText s → AllByRecursion IsPlainRow (all_rows s.part) → AllByRecursion (IsPlainAt on bytes) (letters_of_section on s)
  section-plain s b h = by s.inside b
    where
      first : (x : Bool) → (x ≡ true → is_paragraph s.part.first.leaf ≡ true) → AllByRecursion (IsPlainAt on bytes) (cond x (text_begin s.part.first) (lazy_underline on s.part.first))
      first true k = begin-plain s.part.first h.0.0 (h.0.1 (k refl))
      first false k = underline_plain on bytes s.part.first (marked-line s.part.first.line h.0.0)

      by : (i : Inside) → (elim i as (λ _. Type 0) [ lines is_behind ↦ (is_behind ≡ true → is_paragraph s.part.first.leaf ≡ true) | defined ds ↦ Unit {0} | table ↦ Unit {0} ])
          → AllByRecursion (IsPlainAt on bytes) (elim i as (λ _. List ℕ) [ lines is_behind ↦ cond is_behind (text_begin s.part.first) (lazy_underline on s.part.first) ++ flat_map (lazy_underline on) s.part.more | defined ds ↦ [] | table ↦ [] ])
      by (lines x) k = every-append (IsPlainAt on bytes) (cond x (text_begin s.part.first) (lazy_underline on s.part.first)) (flat_map (lazy_underline on) s.part.more) (first x k) (underlined s.part.more h.1)
      by (defined ds) k = tt
      by table k = tt

  sections-plain : (ss : List Section) → AllByRecursion BeginsText ss → AllByRecursion IsPlainRow (rows_of ss) → AllByRecursion (IsPlainAt on bytes) (flat_map (letters_of_section on) ss)
  sections-plain [] b h = tt
  sections-plain (s ∷ ss) b h =
      every-append (IsPlainAt on bytes) (letters_of_section on s) (flat_map (letters_of_section on) ss) (section-plain s b.0 (every-front IsPlainRow (all_rows s.part) (rows_of ss) h)) (sections-plain ss b.1 (every-back IsPlainRow (all_rows s.part) (rows_of ss) h))

  others-begin : (around : Part) (ps : List Part) → AllByRecursion BeginsText (map (λ p. record { part = p; inside = lines false }) (map (in_same around) ps))
  others-begin around [] = tt
  others-begin around (p ∷ ps) = ((λ e. absurd (false≢true e)), others-begin around ps)

  undefined-begins : (x : Bool) (around : Part) (rs : List Row) → AllByRecursion BeginsText (undefined x around rs)
  undefined-begins x around [] = tt
  undefined-begins x around (r ∷ rs) = (and-right x (is_paragraph r.leaf), others-begin around _)

  defining-begins : (ds : List Definition) (around : Part) (rs : List Row) → AllByRecursion BeginsText (defining ds around rs)
  defining-begins ds around [] = tt
  defining-begins ds around (r ∷ rs) = (tt, tt)

  sections-begin : (b : ℕ) (x : Bool) (around : Part) (rs : List Row) → AllByRecursion BeginsText (sections_in on b x around rs)
  sections-begin zero x around rs = tt
  sections-begin (suc b) x around [] = tt
  sections-begin (suc b) x around (r ∷ rs) =
      let all : List Row = r ∷ rs in
      let n = before_defined on false all in
      let behind = drop n all in
      let d = defined_in on behind in
      let front = undefined x around (take n all) in
      let middle = defining (definitions (text_in (paragraph_of behind))) around (take d behind) in
      let back = sections_in on b true around (drop d behind) in
      every-append BeginsText front (middle ++ back) (undefined-begins x around (take n all)) (every-append BeginsText middle back (defining-begins (definitions (text_in (paragraph_of behind))) around (take d behind)) (sections-begin b true around (drop d behind)))

  all-begin : (ps : List Part) → AllByRecursion BeginsText (flat_map (cut on) ps)
  all-begin [] = tt
  all-begin (p ∷ ps) = every-append BeginsText (cut on p) (flat_map (cut on) ps) (by p.first.is_blank) (all-begin ps)
    where
      tables-begin : (rs : List Row) → AllByRecursion BeginsText (tabled p rs)
      tables-begin [] = tt
      tables-begin (r ∷ rs) = (tt, tt)

      by : (x : Bool) → AllByRecursion BeginsText (cond x (record { part = p; inside = lines false } ∷ []) (flat_map (sections_of_cut on p) (cut_at_tables is_in_table (suc (length p.more)) (p.first ∷ p.more))))
      by true = ((λ e. absurd (false≢true e)), tt)
      by false = cuts-every on p BeginsText (λ rs. sections-begin (length rs) false p rs) tables-begin (cut_at_tables is_in_table (suc (length p.more)) (p.first ∷ p.more))

  -- ---- all lines

  rows-plain : (k : Known) (n : ℕ) (ls : List Line) → AllByRecursion IsPlainLine ls → AllByRecursion IsPlainRow (rows_from on k n ls)
  rows-plain k n [] h = tt
  rows-plain k n (l ∷ ls) h = ((h.0, open-not-blank on k n l), rows-plain (known_after on k (row_of on k n l)) (suc n) ls h.1)

pub letters-are-plain : LettersArePlain
letters-are-plain on t bytes =
    let seats = virtual t bytes in
    let each = every_both IsWhole (AllByRecursion (AtText bytes 0)) (lines_in seats) (whole-lines seats) (lines_each (AtText bytes 0) seats (text-is-plain t 1 1 0 bytes)) in
    let all = rows-plain on bytes (record { before = nothing_known on; text = [] }) 1 (lines_in seats) each in
    let rs = rows on (lines_in seats) in
    let plain = sections-plain on bytes (sections on rs) (all-begin on bytes (parts rs)) (subst (AllByRecursion (IsPlainRow on bytes)) (sym (sections-hold-lines on rs)) all) in
    plain_from (letters on seats) 0 bytes (λ j e. let here : 0 + j ≡ j = omega arith in one_of (IsPlainAt on bytes) (letters on seats) j plain (sym (ap (λ k. list_any (λ i. i == k) (letters on seats)) here) ∙ e))
