-- Lemmas on what is known before a line, where paragraphs may begin with definitions.
use Rattle.std.proofs.Common.{◌≡◌, inl, inr, ℕ, suc, ◌+◌, ◌*◌, ◌<◌, ◌≤◌, Bool, true, false, cond, List, [], ◌∷◌, ◌++◌, append_assoc, arith, drop, length, length-append, refl, sym, ap, subst, ◌∙◌}
use Rattle.std.specs.Prelude.{◌&&◌, ◌||◌, is_some, not}
use Rattle.std.proofs.lemmas.Bool.{false≢true}
use Rattle.std.proofs.lemmas.List.{append-nil, drop-drop}
use Rattle.markdown_base.specs.declared.configuration.Constructs.{Constructs}
use Rattle.markdown_base.specs.Virtual.{virtual, virtual_from}
use Rattle.markdown_base.proofs.Common.{and-right}
use Rattle.markdown_base.proofs.Facts.Bools.{and-left}
use Rattle.mdconstructs_machines.specs.LineEvents.{lines_in}
use Rattle.mdblock_leaf_blocks.specs.LeafBlocks.{Line, text_of}
use Rattle.mdblock_leaf_blocks.specs.LineKinds.{underline_rank, is_far}
use Rattle.mdblock_lines.specs.Lines.{line_at, line_length}
use Rattle.mdblock_containers.specs.declared.leaves.Leaf.{Leaf as CodeLeaf}
use Rattle.mdblock_containers.specs.declared.rows.Row.{Row as CodeRow}
use Rattle.mdblock_containers.specs.declared.spans.RowAt.{RowAt}
use Rattle.mdblock_containers.specs.Ahead.{AreRows}
use Rattle.mdblock_containers.specs.Rows.{Leaf, Row, closed, has_none, is_paragraph, nothing_known, open_fence, open_html, open_paragraph, open_table, is_table, rest_of}
use Rattle.mdblock_containers.specs.Rows as without
use Rattle.mdblock_containers.specs.Views.{IsRow, leaf_of}
use Rattle.mdblock_containers.proofs.DocumentRows.{AreRowsBefore, are_rows_end, rows_push}
use Rattle.mdblock_lines.proofs.LinesCut.{lines_follow}
use Rattle.mdblock_tables.specs.Tables.{is_row}
use Rattle.mdblock_definitions.specs.declared.rows.Known.{Known as CodeKnown}
use Rattle.mdblock_definitions.specs.Known.{IsKept, IsKnown, IsNeverUsedUp, held, held_behind, is_held_used_up, asks_table, is_in_table, last_behind, leaf_behind, table_asked}
use Rattle.mdblock_definitions.specs.Laws.{begins_with_bracket}
use Rattle.mdblock_definitions.specs.Rows.{Known, is_used_up, known_after, row_of, rows, rows_from, text_after, is_behind_text, last_line}
use Rattle.mdblock_definitions.proofs.HeldTexts.{held-after, leaf-by}
use Rattle.mdblock_definitions.proofs.LastLines.{AreInside, last-alone, last-behind, rest-inside}
use Rattle.mdblock_definitions.proofs.Without.{leaf-open}
use Rattle.mdblock_definitions.proofs.Underlined.{underlined, delimited}

-- ---- the leaf block

pub paragraph-is : (leaf : Leaf) → is_paragraph leaf ≡ true → leaf ≡ open_paragraph
paragraph-is open_paragraph h = refl
paragraph-is closed h = absurd (false≢true h)
paragraph-is (open_fence f) h = absurd (false≢true h)
paragraph-is (open_html k) h = absurd (false≢true h)
paragraph-is open_table h = absurd (false≢true h)

-- what is text is text, be it an underline or not
pub text-stays : (leaf : Leaf) (u : Bool) → is_paragraph leaf ≡ true → leaf ≡ cond u open_paragraph leaf
text-stays leaf true h = paragraph-is leaf h
text-stays leaf false h = refl

-- a line whose leaf block is another
pub row-changed : (number : ℕ) (row : CodeRow) (r : Row) (x : CodeLeaf) (leaf : Leaf) → IsRow number row r → leaf_of x ≡ leaf → IsRow number (record row { leaf = x }) (record r { leaf = leaf })
row-changed number row r x leaf is e = record {
  number_is = is.number_is;
  many = is.many;
  going = is.going;
  begun = is.begun;
  columns = is.columns;
  is_blank = is.is_blank;
  is_lazy = is.is_lazy;
  stays = is.stays;
  is_left_blank = is.is_left_blank;
  leaf = e;
}

-- ---- the lines that are left

module _ (on : Constructs) (t : ℕ) (bytes : List ℕ) where
  -- the lines from an index on
  abbrev pub known_left : (k : Known) (number start : ℕ) → List Row
  known_left k number start = rows_from on k number (lines_in (virtual_from t number 1 start (drop start bytes)))

  pub known-left-step : (some : 0 < t) (k : Known) (number start next : ℕ) → 0 < length (drop start bytes) → next ≡ start + line_length (drop start bytes)
      → known_left k number start ≡ row_of on k number (line_at t number start (drop start bytes)) ∷ known_left (known_after on k (row_of on k number (line_at t number start (drop start bytes)))) (suc number) next
  known-left-step some k number start next h e =
      let rest = drop start bytes in
      let row = row_of on k number (line_at t number start rest) in
      ap (rows_from on k number) (lines_follow t number start rest some h)
      ∙ (λ i. row ∷ rows_from on (known_after on k row) (suc number) (lines_in (virtual_from t (suc number) 1 (sym e i) (drop-drop (line_length rest) start bytes i))))
      ∙ (λ i. row ∷ rows_from on (known_after on k row) (suc number) (lines_in (virtual_from t (suc number) 1 next (drop (sym e i) bytes))))

  -- one line more
  pub known-more : (some : 0 < t) (xs ys : List RowAt) (x : RowAt) (k c : Known) (number further start next : ℕ) (all : List Row) → ys ≡ xs ++ x ∷ [] → 0 < length (drop start bytes) → next ≡ start + line_length (drop start bytes)
      → x.span.number ≡ number → further ≡ suc number → IsRow number x.row (row_of on k number (line_at t number start (drop start bytes))) → c ≡ known_after on k (row_of on k number (line_at t number start (drop start bytes)))
      → AreRowsBefore xs (known_left k number start) all → AreRowsBefore ys (known_left c further next) all
  known-more some xs ys x k c number further start next all ey h en ex ef is ec w =
      let row = row_of on k number (line_at t number start (drop start bytes)) in
      let step : known_left k number start ≡ row ∷ known_left c further next = known-left-step some k number start next h en ∙ (λ i. row ∷ known_left (sym ec i) (sym ef i) next) in
      rows_push xs ys x row (known_left c further next) all ey (subst (λ (l : List Row). AreRowsBefore xs l all) step w) (subst (λ (n : ℕ). IsRow n x.row row) (sym ex) is)

  pub known-all : (xs : List RowAt) (k : Known) (number start : ℕ) (all : List Row) → drop start bytes ≡ [] → AreRowsBefore xs (known_left k number start) all → AreRows xs all
  known-all xs k number start all e w = are_rows_end xs (known_left k number start) all (ap (λ (l : List ℕ). rows_from on k number (lines_in (virtual_from t number 1 start l))) e) w

-- at the beginning
pub known-init : (on : Constructs) (t : ℕ) (bytes : List ℕ) (xs : List RowAt) (k : Known) (n : ℕ) → xs ≡ [] → k ≡ record { before = nothing_known on; text = [] } → n ≡ 1 → AreRowsBefore xs (known_left on t bytes k n 0) (rows on (lines_in (virtual t bytes)))
known-init on t bytes xs k n ex ek en =
    let nothing : Known = record { before = nothing_known on; text = [] } in
    let here : AreRowsBefore [] (known_left on t bytes nothing 1 0) (rows on (lines_in (virtual t bytes))) = record { front = []; is = tt; same = refl } in
    subst (λ (l : List RowAt). AreRowsBefore l (known_left on t bytes k n 0) (rows on (lines_in (virtual t bytes)))) (sym ex)
    (subst (λ (c : Known). AreRowsBefore [] (known_left on t bytes c n 0) (rows on (lines_in (virtual t bytes)))) (sym ek)
    (subst (λ (m : ℕ). AreRowsBefore [] (known_left on t bytes nothing m 0) (rows on (lines_in (virtual t bytes)))) (sym en) here))

-- the lines so far, and what is known behind them
pub record AreRead (on : Constructs) (t : ℕ) (bytes : List ℕ) (xs : List RowAt) (code : CodeKnown) (number start : ℕ) : Type 0 where
  pub known : Known
  pub is : IsKnown on code known
  pub before : AreRowsBefore xs (known_left on t bytes known number start) (rows on (lines_in (virtual t bytes)))

-- ---- what is paid

-- a text that is never used up is not with a line more
pub never-more : (text rest : List ℕ) → IsNeverUsedUp text → IsNeverUsedUp (text ++ 10 ∷ rest)
never-more text rest never more = ap is_used_up (append_assoc text (10 ∷ rest) more) ∙ never (10 ∷ rest ++ more)

-- What is held behind a line: `a`, it is text as it is; `u`, it was found that definitions alone come before it; `w`, it is in a table; `b`, it is behind
-- the text before; `h`, it is held
pub kept-next : (before after budget len : ℕ) (text rest new : List ℕ) (a u w b h : Bool) → new ≡ cond w [] (cond (u || a) (cond h (cond b (text ++ 10 ∷ rest) rest) []) []) → length rest ≤ len
    → (u ≡ true → w ≡ false → (b ≡ true) × (is_used_up text ≡ true) × IsNeverUsedUp (text ++ 10 ∷ rest)) → (a ≡ true → u ≡ false → w ≡ false → after ≤ before + 157 * len + 1660) → after ≤ before + 157 * len + 1676 + 16 * length text
    → IsKept before budget text → IsKept after (budget + 199 * len + 1703) new
kept-next before after budget len text rest new a u w b h en few marks free cost kept = subst (IsKept after (budget + 199 * len + 1703)) (sym en) (in-table w marks free)
  where
    long : length (text ++ 10 ∷ rest) ≡ length text + suc (length rest)
    long = length-append text (10 ∷ rest)

    none-used : {A : Type 0} → is_used_up text ≡ true → IsNeverUsedUp text → A
    none-used used never = absurd (false≢true (sym (never []) ∙ ap is_used_up (append-nil text) ∙ used))

    nothing : IsKept before budget text → IsKept after (budget + 199 * len + 1703) []
    nothing (inl k) = let none : after + 32 * 0 ≤ budget + 199 * len + 1703 = omega (arith, k, cost) in inl none
    nothing (inr k) = let none : after + 32 * 0 ≤ budget + 199 * len + 1703 = omega (arith, k.0, cost) in inl none

    by : (a u b h : Bool) → (u ≡ true → (b ≡ true) × (is_used_up text ≡ true) × IsNeverUsedUp (text ++ 10 ∷ rest)) → (a ≡ true → u ≡ false → after ≤ before + 157 * len + 1660)
        → IsKept before budget text → IsKept after (budget + 199 * len + 1703) (cond (u || a) (cond h (cond b (text ++ 10 ∷ rest) rest) []) [])
    by a true true true marks free (inl k) = inr (omega (arith, k, few, long, cost), (marks refl).2)
    by a true true true marks free (inr k) = none-used (marks refl).1 k.1
    by a true false true marks free kept = absurd (false≢true (marks refl).0)
    by a true b false marks free kept = nothing kept
    by true false true true marks free (inl k) = let f = free refl refl in inl (omega (arith, k, few, long, f))
    by true false true true marks free (inr k) = let f = free refl refl in inr (omega (arith, k.0, few, long, f), never-more text rest k.1)
    by true false false true marks free (inl k) = let f = free refl refl in inl (omega (arith, k, few, f))
    by true false false true marks free (inr k) = let f = free refl refl in inl (omega (arith, k.0, few, f))
    by true false b false marks free kept = nothing kept
    by false false b h marks free kept = nothing kept

    in-table : (w : Bool) → (u ≡ true → w ≡ false → (b ≡ true) × (is_used_up text ≡ true) × IsNeverUsedUp (text ++ 10 ∷ rest)) → (a ≡ true → u ≡ false → w ≡ false → after ≤ before + 157 * len + 1660)
        → IsKept after (budget + 199 * len + 1703) (cond w [] (cond (u || a) (cond h (cond b (text ++ 10 ∷ rest) rest) []) []))
    in-table true marks free = nothing kept
    in-table false marks free = by a u b h (λ e. marks e refl) (λ e f. free e f refl) kept

-- ---- one line

module _ (on : Constructs) (k : Known) (number : ℕ) (line : Line) (t : List ℕ) (row : CodeRow) (x : CodeLeaf) (et : text_of line ≡ t) (is : IsRow number row (without.row_of on k.before number line))
    (ex : leaf_of x ≡ leaf-by on (is_paragraph k.before.leaf) (is_table k.before.leaf) (last_line k.text) (is_used_up k.text) row.stays row.is_lazy (leaf_of row.leaf) (drop row.columns t)) where
  pub next-row : IsRow number (record row { leaf = x }) (row_of on k number line)
  next-row =
      row-changed number row (without.row_of on k.before number line) x _ is
      (ex ∙ (λ i. leaf-by on (is_paragraph k.before.leaf) (is_table k.before.leaf) (last_line k.text) (is_used_up k.text) (is.stays i) (is.is_lazy i) (is.leaf i) (drop (is.columns i) (sym et i))))

  -- what is held of the text before it
  module _ (new : List ℕ) (en : new ≡ cond (is_paragraph (leaf_of x)) (held_behind (row.stays && is_paragraph k.before.leaf) (held k.text) (drop row.columns t)) []) where
    pub next-text : new ≡ held (text_after k (row_of on k number line))
    next-text =
        en
        ∙ held-after (is_paragraph (leaf_of x)) (row.stays && is_paragraph k.before.leaf) k.text (drop row.columns t)
        ∙ (λ i. held (cond (is_paragraph (next-row.leaf i)) (cond (is.stays i && is_paragraph k.before.leaf) (k.text ++ 10 ∷ drop (is.columns i) (sym et i)) (drop (is.columns i) (sym et i))) []))

  -- and of its last line
  pub next-last : (new : List ℕ) → new ≡ last_behind on (leaf_of x) (drop row.columns t) → on.gfm_table ≡ true → is_paragraph (without.known_after on k.before (row_of on k number line)).leaf ≡ true → new ≡ last_line (text_after k (row_of on k number line))
  next-last new en g open_after =
      let open_row = leaf-open on k.before (row_of on k number line) open_after in
      let rest = rest_of (row_of on k number line) in
      let same : drop row.columns t ≡ rest = λ i. drop (is.columns i) (sym et i) in
      let inside = rest-inside (row_of on k number line).columns line in
      en ∙ (λ i. cond (g i && is_paragraph (next-row.leaf i)) (same i) []) ∙ ap (λ b. cond b rest []) open_row
      ∙ last (is_behind_text k.before (row_of on k number line)) rest inside
      ∙ sym (ap (λ b. last_line (cond b (cond (is_behind_text k.before (row_of on k number line)) (k.text ++ 10 ∷ rest) rest) [])) open_row)
    where
      last : (b : Bool) (rest : List ℕ) → AreInside rest → rest ≡ last_line (cond b (k.text ++ 10 ∷ rest) rest)
      last true rest h = sym (last-behind k.text rest h)
      last false rest h = sym (last-alone rest h)

-- what is held of a line is no more than it has
pub last-few : (on : Constructs) (leaf : Leaf) (rest : List ℕ) → length (last_behind on leaf rest) ≤ length rest
last-few on leaf rest = by (on.gfm_table && is_paragraph leaf)
  where
    by : (b : Bool) → length (cond b rest []) ≤ length rest
    by true = omega arith
    by false = omega arith

-- what is paid behind a line: this leaf block goes on before it, and of its paragraph that is held; `own` is the leaf block without definitions and tables
module _ (on : Constructs) (before_leaf : Leaf) (text header : List ℕ) (stays is_lazy : Bool) (rest : List ℕ) (x own : Leaf) (ex : x ≡ leaf_behind on before_leaf text header stays is_lazy own rest)
    (new : List ℕ) (en : new ≡ cond (is_paragraph x) (held_behind (stays && is_paragraph before_leaf) text rest) []) where
  abbrev looks : Bool
  looks = on.definition && ((stays && is_paragraph before_leaf) && (is_some (underline_rank on rest) && is_held_used_up text))

  abbrev here : Leaf
  here = cond looks open_paragraph own

  abbrev in_table : Bool
  in_table = is_in_table on before_leaf text header stays is_lazy here rest

  abbrev asked : Bool
  asked = on.gfm_table && (stays && (is_paragraph own && (is_paragraph before_leaf && asks_table on header is_lazy rest)))

  pub next-kept : (before after budget len : ℕ) → length rest ≤ len → (is_paragraph own ≡ true → after ≤ before + 157 * len + 1660 + table_asked on before_leaf text header stays is_lazy own rest) → after ≤ before + 157 * len + 1676 + 16 * length text
      → IsKept before budget text → IsKept after (budget + 199 * len + 1703) new
  next-kept before after budget len few free cost kept =
      kept-next before after budget len text rest new (is_paragraph own) (looks || asked) in_table (stays && is_paragraph before_leaf) (cond (stays && is_paragraph before_leaf) (not (has_none text)) (begins_with_bracket rest))
      (en ∙ ap (λ (l : Leaf). cond (is_paragraph l) (held_behind (stays && is_paragraph before_leaf) text rest) []) ex ∙ open-behind in_table here ∙ ap (λ (b : Bool). cond in_table [] (cond b (held_behind (stays && is_paragraph before_leaf) text rest) [])) (either looks asked asked-text))
      few marks paid cost kept
    where
      open-behind : (w : Bool) (l : Leaf) → cond (is_paragraph (cond w open_table l)) (held_behind (stays && is_paragraph before_leaf) text rest) [] ≡ cond w [] (cond (is_paragraph l) (held_behind (stays && is_paragraph before_leaf) text rest) [])
      open-behind true l = refl
      open-behind false l = refl

      asked-text : asked ≡ true → is_paragraph own ≡ true
      asked-text e = and-left (is_paragraph own) _ (and-right stays _ (and-right on.gfm_table _ e))

      either : (u q : Bool) → (q ≡ true → is_paragraph own ≡ true) → is_paragraph (cond u open_paragraph own) ≡ ((u || q) || is_paragraph own)
      either true q f = refl
      either false true f = f refl
      either false false f = refl

      paid : is_paragraph own ≡ true → (looks || asked) ≡ false → in_table ≡ false → after ≤ before + 157 * len + 1660
      paid e none w =
          let free_here : after ≤ before + 157 * len + 1660 + cond false (16 * length text + 16) 0 = subst (λ (q : Bool). after ≤ before + 157 * len + 1660 + cond q (16 * length text + 16) 0) (or-none looks asked none) (free e) in
          omega (arith, free_here)
        where
          or-none : (u q : Bool) → (u || q) ≡ false → q ≡ false
          or-none true q h = absurd (false≢true (sym h))
          or-none false q h = h

      -- behind definitions alone
      Marked : Type 0
      Marked = ((stays && is_paragraph before_leaf) ≡ true) × (is_used_up text ≡ true) × IsNeverUsedUp (text ++ 10 ∷ rest)

      marks : (looks || asked) ≡ true → in_table ≡ false → Marked
      marks e w = by looks refl e w
        where
          under : looks ≡ true → Marked
          under e =
              let all = and-right on.definition _ e in
              let last = and-right (stays && is_paragraph before_leaf) _ all in
              let used = and-right (not (has_none text)) (is_used_up text) (and-right (is_some (underline_rank on rest)) (is_held_used_up text) last) in
              (and-left (stays && is_paragraph before_leaf) _ all, used, underlined on text rest used (and-left (is_some (underline_rank on rest)) (is_held_used_up text) last))

          -- a line that looks as a delimiter row and is none
          row : asked ≡ true → is_in_table on before_leaf text header stays is_lazy own rest ≡ false → Marked
          row q w =
              let g = and-left on.gfm_table _ q in
              let s = and-left stays _ (and-right on.gfm_table _ q) in
              let o = asked-text q in
              let last = and-right (is_paragraph own) _ (and-right stays _ (and-right on.gfm_table _ q)) in
              let p = and-left (is_paragraph before_leaf) _ last in
              let asks = and-right (is_paragraph before_leaf) _ last in
              let match = and-right (not (is_far on rest)) _ (and-right (not is_lazy) _ asks) in
              let all : ((not (on.definition && is_held_used_up text)) || (is_table before_leaf && is_row rest)) ≡ false =
              sym (λ i. g i && (s i && (o i && ((p i && (asks i && not (on.definition && is_held_used_up text))) || (is_table before_leaf && is_row rest))))) ∙ w in
              let used = and-right (not (has_none text)) (is_used_up text) (and-right on.definition _ (not-none (on.definition && is_held_used_up text) (is_table before_leaf && is_row rest) all)) in
              ((λ i. s i && p i), used, delimited text header rest used match)
            where
              not-none : (u v : Bool) → (not u || v) ≡ false → u ≡ true
              not-none true v h = refl
              not-none false v h = absurd (false≢true (sym h))

          by : (u : Bool) → looks ≡ u → (u || asked) ≡ true → in_table ≡ false → Marked
          by true eu e w = under eu
          by false eu e w = row e (sym (ap (λ u. is_in_table on before_leaf text header stays is_lazy (cond u open_paragraph own) rest) eu) ∙ w)

-- a line is read before
pub kept-read : (before mid after budget size len : ℕ) (text new : List ℕ) → mid ≤ before + 4 * size + 2 → size ≡ len → IsKept before budget text → ((budget : ℕ) → IsKept mid budget text → IsKept after (budget + 199 * len + 1703) new)
    → IsKept after (budget + 203 * size + 1705) new
kept-read before mid after budget size len text new cost es kept on =
    let sum : budget + 4 * size + 2 + 199 * len + 1703 ≡ budget + 203 * size + 1705 = omega (arith, es) in
    subst (λ (n : ℕ). IsKept after n new) sum (on (budget + 4 * size + 2) (by kept))
  where
    by : IsKept before budget text → IsKept mid (budget + 4 * size + 2) text
    by (inl h) = inl (omega (arith, h, cost))
    by (inr h) = inr (omega (arith, h.0, cost), h.1)

-- more may be spent
pub kept-more : (before after budget more : ℕ) (text : List ℕ) → after + budget ≤ before + more → IsKept before budget text → IsKept after more text
kept-more before after budget more text h (inl k) = inl (omega (arith, h, k))
kept-more before after budget more text h (inr k) = inr (omega (arith, h, k.0), k.1)

-- so many turns are within the budget
pub kept-turns : (turns budget : ℕ) (text : List ℕ) → IsKept turns budget text → turns + 16 * length text ≤ budget
kept-turns turns budget text (inl k) = omega (arith, k)
kept-turns turns budget text (inr k) = k.0
