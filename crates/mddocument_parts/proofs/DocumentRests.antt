-- At a rest the rows of lines are those of the lines before it, and those of the lines from it on.
use Rattle.std.proofs.Common.{Bool, List, [], ap, arith, cond, drop, false, length, length-append, refl, sym, take, true, ℕ, suc, ◌+◌, ◌++◌, ◌==◌, ◌&&◌, ◌||◌, not, ◌∙◌, ◌∷◌, ◌≡◌}
use Rattle.std.proofs.Math.Bool.{and-false}
use Rattle.std.proofs.lemmas.Bool.{eqb-true, not-true}
use Rattle.std.proofs.lemmas.List.{length-map, nil_from_length}
use Rattle.std.specs.Prelude.{is_some, map}
use Rattle.markdown_base.proofs.Common.{and-right}
use Rattle.markdown_base.proofs.Facts.Bools.{and-left, cond-same}
use Rattle.markdown_base.specs.declared.configuration.Constructs.{Constructs}
use Rattle.mdblock_leaf_blocks.specs.LeafBlocks.{Line, interrupts, text_of}
use Rattle.mdblock_leaf_blocks.specs.LineKinds.{blank, indented, is_blank_line, is_far, kind_of_rest, indent, line_kind, underline_rank, unindented}
use Rattle.mdblock_lines.specs.Containers.{Container, footnote, item, Prefix, quote}
use Rattle.mdblock_containers.proofs.FrameFacts.{none_is}
use Rattle.mdblock_containers.specs.Prefixes.{beginning, columns_of, containers_of, going_on, in_place_of, with_list}
use Rattle.mdblock_containers.specs.Rows.{Before, Leaf, Row, closed, has_none, holds_ending, is_lazily, is_paragraph, is_raw, is_table, leaf_after, nothing_known, open_paragraph, open_table, rest_of, row_with}
use Rattle.mdblock_containers.specs.Rows as without
use Rattle.mdblock_definitions.proofs.KnownReads.{fourth-fails, third-fails}
use Rattle.mdblock_definitions.specs.Rows.{Known, begins_table, is_behind_text, is_used_up, known_after, row_of, row_without, rows_from, text_after}
use Rattle.mdblock_tables.specs.Tables.{is_row}
use Rattle.mddocument_parts.specs.DocumentRests.{DocumentRestsForget, RowsOfBoth, StretchesGoOnAtTop, begins_anew, is_at_document_rest, is_closed, joins_list, known_at_start, known_behind, moved_container, moved_known, moved_prefix, moved_row}
use Rattle.mddocument_parts.specs.Moved.{moved_line, moved_lines}
use Rattle.mddocument_parts.specs.Rests.{begins_near, kind_of_line}
use Rattle.mddocument_parts.proofs.MovedBlocks.{text-moved}
use Rattle.mddocument_parts.proofs.MovedRows.{begun_by, behind-moved, known-moved, none-alike, row-moved, row_by, rows-moved}

-- ---- what a test says
pub closed-is : (leaf : Leaf) → is_closed leaf ≡ true → leaf ≡ closed
closed-is closed h = refl
closed-is leaf h = absurd (cc)

near-not-blank : (on : Constructs) (t : List ℕ) → begins_near (line_kind on t) ≡ true → is_blank_line t ≡ false
near-not-blank on t h = by (is_blank_line t) refl h
  where
    by : (b : Bool) → is_blank_line t ≡ b → begins_near (cond b blank (cond (is_far on t) indented (kind_of_rest on (indent t) (unindented t)))) ≡ true → b ≡ false
    by true e h = absurd (cc)
    by false e h = refl

-- containers that begin and go on with no list are what begins in the line
no-list : (ended : List Container) (ps : List Prefix) → joins_list ended (with_list ended ps) ≡ false → with_list ended ps ≡ ps
no-list [] ps h = refl
no-list (c ∷ cs) [] h = refl
no-list (c ∷ cs) (p ∷ ps) h = ap (λ d. (let q : Prefix = record { container = d; size = p.size } in q) ∷ ps) (same c p.container h)
  where
    same : (c d : Container) → joins_list (c ∷ cs) ((let q : Prefix = record { container = in_place_of c d; size = p.size } in q) ∷ ps) ≡ false → in_place_of c d ≡ d
    same (quote q) d h = refl
    same (footnote f) d h = refl
    same (item old) (quote q) h = refl
    same (item old) (footnote f) h = refl
    same (item old) (item i) h = by (old.marker == i.marker) refl h
      where
        by : (b : Bool) → (old.marker == i.marker) ≡ b → joins_list (item old ∷ cs) ((let q : Prefix = record { container = item (cond b (record i { list = old.list }) i); size = p.size } in q) ∷ ps) ≡ false
            → item (cond b (record i { list = old.list }) i) ≡ item i
        by true e k = let both : true ≡ false = sym e ∙ k in absurd (cc)
        by false e k = refl

module _ (on : Constructs) (number : ℕ) (line : Line) where
  abbrev t : List ℕ
  t = text_of line

  -- what begins in the line, where nothing goes on
  abbrev pub new : List Prefix
  new = beginning on (length t) number false t

  -- its row, but for whether it goes on with the stretch of lines before it
  abbrev pub row_new : (ps : List Prefix) → (stays : Bool) → Row
  row_new ps stays =
      let columns = 0 + columns_of ps in
      let rest = drop columns t in
      let is_left_blank = is_blank_line rest && (has_none ps && true) in
      record {
        number = number;
        line = line;
        went_on = [];
        begun = ps;
        columns = columns;
        is_blank = is_blank_line rest;
        is_lazy = false;
        stays = stays;
        is_left_blank = is_left_blank;
        leaf = cond is_left_blank closed (leaf_after on closed rest);
      }

  -- nothing goes on, and no leaf block is open
  with-new : (b : Before) (ps : List Prefix) → b.leaf ≡ closed → row_with on b number line [] ps ≡ row_new ps (row_with on b number line [] ps).stays
  with-new b ps e =
      let all_go_on = 0 == b.depth in
      let columns = 0 + columns_of ps in
      let rest = drop columns t in
      let lazy : is_lazily on b all_go_on (has_none ps) rest ≡ false = (λ i. not all_go_on && (has_none ps && (is_paragraph (e i) && not (interrupts (line_kind on rest))))) ∙ third-fails (not all_go_on) (has_none ps) in
      let stays = (row_with on b number line [] ps).stays in
      let holds : (stays && holds_ending b.leaf) ≡ false = ap (λ leaf. stays && holds_ending leaf) e ∙ and-false stays in
      let before : cond stays b.leaf closed ≡ closed = ap (λ leaf. cond stays leaf closed) e ∙ cond-same stays closed in
      let left : (is_blank_line rest && (has_none ps && not (stays && holds_ending b.leaf))) ≡ (is_blank_line rest && (has_none ps && true)) = ap (λ h. is_blank_line rest && (has_none ps && not h)) holds in
      (λ i. record {
        number = number;
        line = line;
        went_on = [];
        begun = ps;
        columns = columns;
        is_blank = is_blank_line rest;
        is_lazy = lazy i;
        stays = stays;
        is_left_blank = left i;
        leaf = cond (left i) closed (cond (lazy i) open_paragraph (leaf_after on (before i) rest));
      })

  -- the row of a line with which no container goes on, and which goes on with no list
  plain-new : (b : Before) → b.leaf ≡ closed → (without.row_of on b number line).went_on ≡ [] → joins_list b.stack (without.row_of on b number line).begun ≡ false
      → without.row_of on b number line ≡ row_with on b number line [] new
  plain-new b e none other =
      let went = going_on (take b.depth b.stack) number t in
      let all : (without.row_of on b number line).begun ≡ with_list b.stack new =
      (λ i. begun_by 0 on 0 b.stack b number t (length (none i)) (columns_of (none i)))
      ∙ (λ i. let all_go_on = 0 == b.depth in cond (all_go_on && is_raw (e i)) [] (with_list b.stack (beginning on (length t) number (all_go_on && is_paragraph (e i)) t)))
      ∙ (λ i. cond (and-false (0 == b.depth) i) [] (with_list b.stack (beginning on (length t) number (and-false (0 == b.depth) i) t))) in
      let begun = all ∙ no-list b.stack new (sym (ap (joins_list b.stack) all) ∙ other) in
      (λ i. row_with on b number line (none i) (begun i))

  -- what is known at the start begins so
  start-new : without.row_of on (nothing_known on) number line ≡ row_with on (nothing_known on) number line [] new
  start-new = refl

  -- the line itself is left blank by nothing
  pub not-left : (ps : List Prefix) (stays : Bool) → is_blank_line t ≡ false → (row_new ps stays).is_left_blank ≡ false
  not-left [] stays h = ap (λ b. b && (true && true)) h
  not-left (p ∷ ps) stays h = and-false (is_blank_line (drop (0 + columns_of (p ∷ ps)) t))

  -- what is known behind it
  abbrev behind_new : (ps : List Prefix) → Before
  behind_new ps = record { stack = containers_of ps; depth = length (containers_of ps); leaf = leaf_after on closed (drop (0 + columns_of ps) t) }

  behind-is : (b : Before) (ps : List Prefix) (stays : Bool) → is_blank_line t ≡ false → without.known_after on b (row_new ps stays) ≡ behind_new ps
  behind-is b ps stays h = by (row_new ps stays).is_left_blank (not-left ps stays h)
    where
      by : (left : Bool) → left ≡ false
          → cond left (record b { depth = 0; leaf = closed }) (record { stack = containers_of ps; depth = length (containers_of ps); leaf = cond left closed (leaf_after on closed (drop (0 + columns_of ps) t)) }) ≡ behind_new ps
      by true e = absurd (cc)
      by false e = refl

  -- no text of a paragraph comes before
  not-behind : (b : Before) (row : Row) → b.leaf ≡ closed → is_behind_text b row ≡ false
  not-behind b row e = ap (λ leaf. row.stays && is_paragraph leaf) e ∙ and-false row.stays

  -- where no leaf block is open, a line is in no table
  row-same : (k : Known) → k.before.leaf ≡ closed → row_of on k number line ≡ without.row_of on k.before number line
  row-same k e =
      let row = without.row_of on k.before number line in
      let own = row_without on k number line in
      let u = is_some (underline_rank on (rest_of row)) && is_used_up k.text in
      (λ i. record own { leaf = cond (on.gfm_table && (own.stays && (is_paragraph own.leaf && ((is_paragraph (e i) && begins_table on k own) || (is_table (e i) && is_row (rest_of own)))))) open_table own.leaf })
      ∙ ap (λ c. record own { leaf = cond c open_table own.leaf }) (fourth-fails on.gfm_table own.stays (is_paragraph own.leaf))
      ∙ (λ i. record row { leaf = cond (on.definition && (not-behind k.before row e i && u)) open_paragraph row.leaf })
      ∙ ap (λ c. record row { leaf = cond c open_paragraph row.leaf }) (and-false on.definition)

  -- what is known behind the line
  abbrev known_new : (ps : List Prefix) → Known
  known_new ps =
      let rest = drop (0 + columns_of ps) t in
      record { before = behind_new ps; text = cond (is_paragraph (row_new ps true).leaf) rest [] }

  known-is : (k : Known) (ps : List Prefix) (stays : Bool) → k.before.leaf ≡ closed → is_blank_line t ≡ false → known_after on k (row_new ps stays) ≡ known_new ps
  known-is k ps stays e h =
      let row = row_new ps stays in
      let before = behind-is k.before ps stays h in
      let text : text_after k row ≡ cond (is_paragraph row.leaf) (rest_of row) [] = ap (λ c. cond (is_paragraph row.leaf) (cond c (k.text ++ 10 ∷ rest_of row) (rest_of row)) []) (not-behind k.before row e) in
      (λ i. record { before = before i; text = text i })

  -- the line begins anew: its row, and what is known behind it
  pub record Begins (k : Known) : Type 0 where
    pub row : row_of on k number line ≡ row_new new (row_of on k number line).stays
    pub known : known_after on k (row_of on k number line) ≡ known_new new

  begins-so : (k : Known) → k.before.leaf ≡ closed → is_blank_line t ≡ false → without.row_of on k.before number line ≡ row_with on k.before number line [] new → Begins k
  begins-so k e h plain =
      let stays = (row_of on k number line).stays in
      let whole = row-same k e ∙ plain in
      let row = whole ∙ with-new k.before new e ∙ ap (row_new new) (sym (ap (λ (r : Row). r.stays) whole)) in
      record { row = row; known = ap (known_after on k) row ∙ known-is k new stays e h }

  pub begins-anew : (k : Known) → begins_anew on k number line ≡ true → Begins k
  begins-anew k h =
      let row = row_of on k number line in
      let is = is_closed k.before.leaf in
      let near = begins_near (kind_of_line on line) in
      let none = has_none row.went_on in
      let e = closed-is k.before.leaf (and-left is (near && (none && not (joins_list k.before.stack row.begun))) h) in
      let more = and-right is (near && (none && not (joins_list k.before.stack row.begun))) h in
      let last = and-right near (none && not (joins_list k.before.stack row.begun)) more in
      let full = near-not-blank on t (and-left near (none && not (joins_list k.before.stack row.begun)) more) in
      let went = none_is row.went_on (and-left none (not (joins_list k.before.stack row.begun)) last) in
      let other = not-true (joins_list k.before.stack row.begun) (and-right none (not (joins_list k.before.stack row.begun)) last) in
      begins-so k e full (plain-new k.before e went other)

  pub begins-start : is_blank_line t ≡ false → Begins (known_at_start on)
  begins-start full = begins-so (known_at_start on) refl full start-new

  pub is-not-blank : (k : Known) → begins_anew on k number line ≡ true → is_blank_line t ≡ false
  is-not-blank k h =
      let row = row_of on k number line in
      let is = is_closed k.before.leaf in
      let near = begins_near (kind_of_line on line) in
      let last = has_none row.went_on && not (joins_list k.before.stack row.begun) in
      near-not-blank on t (and-left near last (and-right is (near && last) h))

-- ---- lines behind others
module _ (on : Constructs) where
  pub rows-append : (k : Known) (number n2 : ℕ) (a b : List Line) → n2 ≡ number + length a → rows_from on k number (a ++ b) ≡ rows_from on k number a ++ rows_from on (known_behind on k number a) n2 b
  rows-append k number n2 [] b e = let same : number ≡ n2 = omega (arith, e) in ap (λ m. rows_from on k m b) same
  rows-append k number n2 (line ∷ a) b e =
      let row = row_of on k number line in
      ap (λ rs. row ∷ rs) (rows-append (known_after on k row) (suc number) n2 a b (omega (arith, e)))

  pub behind-append : (k : Known) (number n2 : ℕ) (a b : List Line) → n2 ≡ number + length a → known_behind on k number (a ++ b) ≡ known_behind on (known_behind on k number a) n2 b
  behind-append k number n2 [] b e = let same : number ≡ n2 = omega (arith, e) in ap (λ m. known_behind on k m b) same
  behind-append k number n2 (line ∷ a) b e = behind-append (known_after on k (row_of on k number line)) (suc number) n2 a b (omega (arith, e))

  -- a line, by its text
  abbrev row_text : Known → (number : ℕ) → Line → (t : List ℕ) → Row
  row_text k number line t =
      let went = going_on (take k.before.depth k.before.stack) number t in
      let begun = begun_by 0 on 0 k.before.stack k.before number t (length went) (columns_of went) in
      row_by 0 on 0 k.before number line went begun (length went) (columns_of went + columns_of begun) t (has_none begun) (length k.before.stack)

  abbrev anew_text : Known → (number : ℕ) → (t : List ℕ) → Bool
  anew_text k number t = let row = row_text k number [] t in is_closed k.before.leaf && (begins_near (line_kind on t) && (has_none row.went_on && not (joins_list k.before.stack row.begun)))

  pub anew-same : (k : Known) (number : ℕ) (line other : Line) → text_of line ≡ text_of other → begins_anew on k number line ≡ begins_anew on k number other
  anew-same k number line other e = ap (anew_text k number) e

  stays-same : (k : Known) (number : ℕ) (line other : Line) → text_of line ≡ text_of other → (row_of on k number line).stays ≡ (row_of on k number other).stays
  stays-same k number line other e = ap (λ t. (row_text k number [] t).stays) e

  module _ (l n : ℕ) where
    abbrev ml : Line → Line
    ml line = moved_line l n line

    -- the row of a moved line that begins anew, and what is known behind it
    pub first-row : (k : Known) (number : ℕ) (line : Line) → number ≡ 1 + l → begins_anew on k number line ≡ true
        → row_of on k number (ml line) ≡ moved_row l n (let row = row_of on (known_at_start on) 1 line in record row { stays = (row_of on k number line).stays })
    first-row k number line e h =
        let start = known_at_start on in
        let text = text-moved l n line in
        let there = anew-same k number (ml line) line text ∙ h in
        let here = begins-anew on number (ml line) k there in
        let plain = begins-start on number (ml line) (is-not-blank on number (ml line) k there) in
        let stays = stays-same k number (ml line) line text in
        here.row
        ∙ (λ i. record (sym plain.row i) { stays = stays i })
        ∙ (λ i. record (row-moved l on n start 1 number line e i) { stays = (row_of on k number line).stays })

    first-known : (k : Known) (number : ℕ) (line : Line) → number ≡ 1 + l → begins_anew on k number line ≡ true
        → known_after on k (row_of on k number (ml line)) ≡ moved_known l (known_after on (known_at_start on) (row_of on (known_at_start on) 1 line))
    first-known k number line e h =
        let start = known_at_start on in
        let there = anew-same k number (ml line) line (text-moved l n line) ∙ h in
        let here = begins-anew on number (ml line) k there in
        let plain = begins-start on number (ml line) (is-not-blank on number (ml line) k there) in
        here.known ∙ sym plain.known
        ∙ ap (known_after on start) (row-moved l on n start 1 number line e)
        ∙ known-moved l on n start (row_of on start 1 line)

  -- ---- moved
  joins-moved : (l : ℕ) (cs : List Container) (ps : List Prefix) → joins_list (map (moved_container l) cs) (map (moved_prefix l) ps) ≡ joins_list cs ps
  joins-moved l [] ps = refl
  joins-moved l (quote q ∷ cs) [] = refl
  joins-moved l (quote q ∷ cs) (p ∷ ps) = refl
  joins-moved l (footnote f ∷ cs) [] = refl
  joins-moved l (footnote f ∷ cs) (p ∷ ps) = refl
  joins-moved l (item old ∷ cs) [] = refl
  joins-moved l (item old ∷ cs) (p ∷ ps) = by p.container
    where
      by : (c : Container) → joins_list (item old ∷ cs) ((let q : Prefix = record { container = moved_container l c; size = 0 } in q) ∷ ps) ≡ joins_list (item old ∷ cs) ((let q : Prefix = record { container = c; size = 0 } in q) ∷ ps)
      by (quote q) = refl
      by (item i) = refl
      by (footnote f) = refl

  anew-moved : (l n : ℕ) (k : Known) (number n2 : ℕ) (line : Line) → n2 ≡ number + l → begins_anew on (moved_known l k) n2 (moved_line l n line) ≡ begins_anew on k number line
  anew-moved l n k number n2 line e =
      let row = row_of on k number line in
      let is = is_closed k.before.leaf in
      let moved = row-moved l on n k number n2 line e in
      let text = text-moved l n line in
      (λ i. is && (begins_near (line_kind on (text i)) && (has_none (moved i).went_on && not (joins_list (map (moved_container l) k.before.stack) (moved i).begun))))
      ∙ (λ i. is && (begins_near (kind_of_line on line) && (none-alike (map (moved_prefix l) row.went_on) row.went_on (length-map row.went_on (moved_prefix l)) i && not (joins-moved l k.before.stack row.begun i))))

pub rows-of-both : RowsOfBoth
rows-of-both on bytes before line behind h =
    let n = length before in
    let start = known_at_start on in
    let k = known_behind on start 1 before in
    let stays = (row_of on k (suc n) line).stays in
    let row = row_of on start 1 line in
    let e : suc n ≡ 1 + n = omega arith in
    let first = first-row on n bytes k (suc n) line e h in
    let known = first-known on n bytes k (suc n) line e h in
    rows-append on start 1 (suc n) before (moved_lines n bytes (line ∷ behind)) e
    ∙ (λ i. rows_from on start 1 before ++ first i ∷ rows_from on (known i) (suc (suc n)) (moved_lines n bytes behind))
    ∙ ap (λ rs. rows_from on start 1 before ++ moved_row n bytes (record row { stays = stays }) ∷ rs) (rows-moved n on bytes (known_after on start row) 2 (suc (suc n)) behind (omega arith))

-- what is known behind both
pub known-of-both : (on : Constructs) (bytes : ℕ) (before : List Line) (line : Line) (behind : List Line) → is_at_document_rest on before line ≡ true
    → let n = length before in known_behind on (known_at_start on) 1 (before ++ moved_lines n bytes (line ∷ behind)) ≡ moved_known n (known_behind on (known_at_start on) 1 (line ∷ behind))
known-of-both on bytes before line behind h =
    let n = length before in
    let start = known_at_start on in
    let k = known_behind on start 1 before in
    let e : suc n ≡ 1 + n = omega arith in
    behind-append on start 1 (suc n) before (moved_lines n bytes (line ∷ behind)) e
    ∙ ap (λ k. known_behind on k (suc (suc n)) (moved_lines n bytes behind)) (first-known on n bytes k (suc n) line e h)
    ∙ behind-moved n on bytes (known_after on start (row_of on start 1 line)) 2 (suc (suc n)) behind (omega arith)

pub document-rests-forget : DocumentRestsForget
document-rests-forget on bytes before line behind next h =
    let n = length before in
    let start = known_at_start on in
    let all = before ++ moved_lines n bytes (line ∷ behind) in
    let count : length all ≡ length before + suc (length behind) = length-append before (moved_lines n bytes (line ∷ behind)) ∙ ap (λ m. length before + suc m) (length-map behind (moved_line n bytes)) in
    ap (λ k. begins_anew on k (suc (length all)) (moved_line n bytes next)) (known-of-both on bytes before line behind h)
    ∙ anew-moved on n bytes (known_behind on start 1 (line ∷ behind)) (suc (length (line ∷ behind))) (suc (length all)) next (omega (arith, count))

-- ---- a line that goes on with a stretch
pub stretches-go-on-at-top : StretchesGoOnAtTop
stretches-go-on-at-top on before line h stays =
    let start = known_at_start on in
    let k = known_behind on start 1 before in
    let n = suc (length before) in
    let row = row_of on k n line in
    let begins = begins-anew on n line k h in
    let plain = begins-start on n line (is-not-blank on n line k h) in
    let lazy : row.is_lazy ≡ false = ap (λ (r : Row). r.is_lazy) begins.row in
    let went : row.went_on ≡ [] = ap (λ (r : Row). r.went_on) begins.row in
    let none : has_none row.begun ≡ true = and-left (has_none row.begun) (row.is_lazy || ((length row.went_on == k.before.depth) && (length k.before.stack == k.before.depth))) stays in
    let more = and-right (has_none row.begun) (row.is_lazy || ((length row.went_on == k.before.depth) && (length k.before.stack == k.before.depth))) stays in
    let whole : ((length row.went_on == k.before.depth) && (length k.before.stack == k.before.depth)) ≡ true = sym (ap (λ b. b || ((length row.went_on == k.before.depth) && (length k.before.stack == k.before.depth))) lazy) ∙ more in
    let one = eqb-true (length row.went_on) k.before.depth (and-left (length row.went_on == k.before.depth) (length k.before.stack == k.before.depth) whole) in
    let two = eqb-true (length k.before.stack) k.before.depth (and-right (length row.went_on == k.before.depth) (length k.before.stack == k.before.depth) whole) in
    let zero-long = ap (λ (ps : List Prefix). length ps) went in
    let same : has_none row.begun ≡ has_none (row_of on start 1 line).begun =
    ap has_none (ap (λ (r : Row). r.begun) begins.row ∙ sym (ap (λ (r : Row). r.begun) plain.row))
    ∙ ap has_none (ap (λ t. (row_text on start n [] t).begun) (sym (text-moved (length before) 0 line)) ∙ ap (λ (r : Row). r.begun) (row-moved (length before) on 0 start 1 n line (omega arith)))
    ∙ none-alike (map (moved_prefix (length before)) (row_of on start 1 line).begun) (row_of on start 1 line).begun (length-map (row_of on start 1 line).begun (moved_prefix (length before))) in
    (nil_from_length k.before.stack (omega (arith, one, two, zero-long)), sym same ∙ none)
