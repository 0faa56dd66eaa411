-- Rows of lines that are moved: the same rows, moved.
use Rattle.std.proofs.Common.{Bool, List, None, Option, Some, [], ap, arith, cond, drop, false, length, min, nat_le, refl, sym, take, true, zero, ℕ, suc, ◌+◌, ◌++◌, ◌==◌, ◌&&◌, ◌||◌, not, ◌∙◌, ◌∷◌, ◌≡◌}
use Rattle.std.proofs.lemmas.List.{drop-map, length-map, map-append, take-map}
use Rattle.std.proofs.lemmas.List.Sums.{sum_by-cons}
use Rattle.std.specs.Option.{option_map}
use Rattle.std.specs.Prelude.{is_some, map}
use Rattle.std.proofs.lemmas.Bool.Decides.{nat_tests}
use Rattle.markdown_base.specs.declared.configuration.Constructs.{Constructs}
use Rattle.mdblock_leaf_blocks.specs.LeafBlocks.{Line, text_of}
use Rattle.mdblock_leaf_blocks.specs.LineKinds.{begins_with, indent, is_blank_line, is_far, is_thematic_break, underline_rank, unindented}
use Rattle.mdblock_lines.specs.Containers.{Container, begins, footnote, footnote_at, goes_on, is_footnote, Item, item, item_at, may_begin_item, Prefix, quote, quote_size}
use Rattle.mdblock_containers.specs.Prefixes.{beginning, columns_of, containers_of, going_on, in_place_of, with_list}
use Rattle.mdblock_containers.specs.Rows.{Before, Row, closed, has_none, holds_ending, is_lazily, is_paragraph, is_raw, is_table, leaf_after, open_paragraph, open_table, rest_of, row_with}
use Rattle.mdblock_containers.specs.Rows as without
use Rattle.mdblock_definitions.specs.Rows.{Known, is_behind_text, is_used_up, known_after, last_line, row_of, row_without, rows_from, text_after}
use Rattle.mdblock_tables.specs.Tables.{is_row, matched}
use Rattle.mddocument_parts.specs.DocumentRests.{RowsMove, known_behind, moved_before, moved_container, moved_known, moved_prefix, moved_row}
use Rattle.mddocument_parts.specs.Moved.{moved_line, moved_lines}
use Rattle.mddocument_parts.proofs.MovedBlocks.{text-moved}
use Rattle.mddocument_parts.proofs.Choices.{cond-of}

-- ---- lists of one length
pub none-alike : {A B : Type 0} (xs : List A) (ys : List B) → length xs ≡ length ys → has_none xs ≡ has_none ys
none-alike [] [] e = refl
none-alike [] (y ∷ ys) e = absurd (omega (arith, e))
none-alike (x ∷ xs) [] e = absurd (omega (arith, e))
none-alike (x ∷ xs) (y ∷ ys) e = refl

module _ (l : ℕ) where
  abbrev mc : Container → Container
  mc c = moved_container l c

  abbrev mp : Prefix → Prefix
  mp p = moved_prefix l p

  pub columns-moved : (ps : List Prefix) → columns_of (map mp ps) ≡ columns_of ps
  columns-moved [] = refl
  columns-moved (p ∷ ps) =
      let size : Prefix → ℕ = λ q. q.size in
      sum_by-cons size (mp p) (map mp ps) ∙ ap (λ n. p.size + n) (columns-moved ps) ∙ sym (sum_by-cons size p ps)

  pub containers-moved : (ps : List Prefix) → containers_of (map mp ps) ≡ map mc (containers_of ps)
  containers-moved [] = refl
  containers-moved (p ∷ ps) = ap (λ cs. mc p.container ∷ cs) (containers-moved ps)

  -- ---- containers that go on
  same-number : (number n2 line : ℕ) → n2 ≡ number + l → (n2 == suc (line + l)) ≡ (number == suc line)
  same-number number n2 line e = grind (arith, nat_tests)

  goes-moved : (c : Container) (number n2 : ℕ) (t : List ℕ) → n2 ≡ number + l → goes_on (mc c) n2 t ≡ goes_on c number t
  goes-moved (quote q) number n2 t e = refl
  goes-moved (footnote f) number n2 t e = refl
  goes-moved (item i) number n2 t e =
      let same = same-number number n2 i.line e in
      (λ j. cond (is_blank_line t) (cond (i.is_empty && same j) None (Some (min i.size (indent t)))) (cond (nat_le i.size (indent t)) (Some i.size) None))

  pub going-moved : (cs : List Container) (number n2 : ℕ) (t : List ℕ) → n2 ≡ number + l → going_on (map mc cs) n2 t ≡ map mp (going_on cs number t)
  going-moved [] number n2 t e = refl
  going-moved (c ∷ cs) number n2 t e = ap next2 (goes-moved c number n2 t e) ∙ same (λ m. going-moved cs number n2 (drop m t) e) (goes_on c number t)
    where
      next2 : Option ℕ → List Prefix
      next2 o = elim o [ None ↦ [] | Some n ↦ record { container = mc c; size = n } ∷ going_on (map mc cs) n2 (drop n t) ]

      same : ((m : ℕ) → going_on (map mc cs) n2 (drop m t) ≡ map mp (going_on cs number (drop m t))) → (o : Option ℕ) → next2 o ≡ map mp (elim o [ None ↦ [] | Some n ↦ record { container = c; size = n } ∷ going_on cs number (drop n t) ])
      same more None = refl
      same more (Some n) = ap (λ ps. (let p : Prefix = record { container = mc c; size = n } in p) ∷ ps) (more n)

  -- ---- containers that begin
  place-moved : (old new : Container) → in_place_of (mc old) (mc new) ≡ mc (in_place_of old new)
  place-moved (quote q) new = refl
  place-moved (footnote f) new = refl
  place-moved (item old) (quote q) = refl
  place-moved (item old) (footnote f) = refl
  place-moved (item old) (item new) = by (old.marker == new.marker)
    where
      by : (b : Bool) → let there : Item = record new { line = new.line + l; list = old.list + l } in let here : Item = record new { line = new.line + l; list = new.list + l } in item (cond b there here) ≡ mc (item (cond b (record new { list = old.list }) new))
      by true = refl
      by false = refl

  pub list-moved : (ended : List Container) (ps : List Prefix) → with_list (map mc ended) (map mp ps) ≡ map mp (with_list ended ps)
  list-moved [] ps = refl
  list-moved (c ∷ cs) [] = refl
  list-moved (c ∷ cs) (p ∷ ps) = ap (λ d. (let q : Prefix = record { container = d; size = p.size } in q) ∷ map mp ps) (place-moved c p.container)

  module _ (on : Constructs) where
    begins-moved : (number n2 : ℕ) (in_paragraph : Bool) (t : List ℕ) → n2 ≡ number + l → begins on n2 in_paragraph t ≡ option_map mp (begins on number in_paragraph t)
    begins-moved number n2 in_paragraph t e =
        let r = unindented t in
        (λ i. cond ((on.code_indented && nat_le 4 (indent t)) || (is_blank_line t || (on.thematic_break && is_thematic_break r))) None
        (cond (on.block_quote && begins_with 62 r) (Some (record { container = quote (record { line = e i; is_near = on.code_indented }); size = quote_size t }))
        (cond (on.gfm_footnote_definition && is_footnote r) (Some (footnote_at (e i) t)) (cond (on.list_item && may_begin_item in_paragraph r) (Some (item_at (e i) t)) None))))
        ∙ by ((on.code_indented && nat_le 4 (indent t)) || (is_blank_line t || (on.thematic_break && is_thematic_break r))) (on.block_quote && begins_with 62 r) (on.gfm_footnote_definition && is_footnote r) (on.list_item && may_begin_item in_paragraph r)
      where
        by : (b c f d : Bool) → cond b None (cond c (Some (record { container = quote (record { line = number + l; is_near = on.code_indented }); size = quote_size t })) (cond f (Some (footnote_at (number + l) t)) (cond d (Some (item_at (number + l) t)) None)))
            ≡ option_map mp (cond b None (cond c (Some (record { container = quote (record { line = number; is_near = on.code_indented }); size = quote_size t })) (cond f (Some (footnote_at number t)) (cond d (Some (item_at number t)) None))))
        by true c f d = refl
        by false true f d = refl
        by false false true d = refl
        by false false false true = refl
        by false false false false = refl

    pub beginning-moved : (bound number n2 : ℕ) (in_paragraph : Bool) (t : List ℕ) → n2 ≡ number + l → beginning on bound n2 in_paragraph t ≡ map mp (beginning on bound number in_paragraph t)
    beginning-moved zero number n2 in_paragraph t e = refl
    beginning-moved (suc bound) number n2 in_paragraph t e = ap next2 (begins-moved number n2 in_paragraph t e) ∙ same (λ u. beginning-moved bound number n2 false u e) (begins on number in_paragraph t)
      where
        next2 : Option Prefix → List Prefix
        next2 o = elim o [ None ↦ [] | Some p ↦ p ∷ beginning on bound n2 false (drop p.size t) ]

        same : ((u : List ℕ) → beginning on bound n2 false u ≡ map mp (beginning on bound number false u)) → (o : Option Prefix) → next2 (option_map mp o) ≡ map mp (elim o [ None ↦ [] | Some p ↦ p ∷ beginning on bound number false (drop p.size t) ])
        same more None = refl
        same more (Some p) = ap (λ ps. mp p ∷ ps) (more (drop p.size t))

    -- ---- rows
    module _ (n : ℕ) where
      abbrev ml : Line → Line
      ml line = moved_line l n line

      abbrev mr : Row → Row
      mr row = moved_row l n row

      -- a row, by what is asked of its prefixes and of its line
      abbrev pub row_by : Before → (number : ℕ) → Line → (went_on begun : List Prefix) → (many columns : ℕ) → (t : List ℕ) → (none : Bool) → (opened : ℕ) → Row
      row_by b number line went_on begun many columns t none opened =
          let all_go_on = many == b.depth in
          let rest = drop columns t in
          let is_lazy = is_lazily on b all_go_on none rest in
          let stays = none && (is_lazy || (all_go_on && (opened == b.depth))) in
          let is_left_blank = is_blank_line rest && (none && not (stays && holds_ending b.leaf)) in
          record {
            number = number;
            line = line;
            went_on = went_on;
            begun = begun;
            columns = columns;
            is_blank = is_blank_line rest;
            is_lazy = is_lazy;
            stays = stays;
            is_left_blank = is_left_blank;
            leaf = cond is_left_blank closed (cond is_lazy open_paragraph (leaf_after on (cond stays b.leaf closed) rest));
          }

      with-moved : (b : Before) (number n2 : ℕ) (line : Line) (went_on begun : List Prefix) → n2 ≡ number + l → row_with on (moved_before l b) n2 (ml line) (map mp went_on) (map mp begun) ≡ mr (row_with on b number line went_on begun)
      with-moved b number n2 line went_on begun e =
          let many = length-map went_on mp in
          let columns : columns_of (map mp went_on) + columns_of (map mp begun) ≡ columns_of went_on + columns_of begun = (λ i. columns-moved went_on i + columns-moved begun i) in
          let text = text-moved l n line in
          let none = none-alike (map mp begun) begun (length-map begun mp) in
          let opened = length-map b.stack mc in
          (λ i. row_by (moved_before l b) (e i) (ml line) (map mp went_on) (map mp begun) (many i) (columns i) (text i) (none i) (opened i))

      went-moved : (b : Before) (number n2 : ℕ) (line : Line) → n2 ≡ number + l → going_on (take b.depth (map mc b.stack)) n2 (text_of (ml line)) ≡ map mp (going_on (take b.depth b.stack) number (text_of line))
      went-moved b number n2 line e =
          (λ i. going_on (take-map mc b.depth b.stack i) n2 (text-moved l n line i)) ∙ going-moved (take b.depth b.stack) number n2 (text_of line) e

      -- the containers that begin, by those that go on
      abbrev pub begun_by : (stack : List Container) → Before → (number : ℕ) → (t : List ℕ) → (many columns : ℕ) → List Prefix
      begun_by stack b number t many columns =
          let rest = drop columns t in
          let all_go_on = many == b.depth in
          cond (all_go_on && is_raw b.leaf) [] (with_list (drop many stack) (beginning on (length rest) number (all_go_on && is_paragraph b.leaf) rest))

      begun-moved : (b : Before) (number n2 : ℕ) (t : List ℕ) (many columns : ℕ) → n2 ≡ number + l → begun_by (map mc b.stack) b n2 t many columns ≡ map mp (begun_by b.stack b number t many columns)
      begun-moved b number n2 t many columns e =
          let rest = drop columns t in
          let all_go_on = many == b.depth in
          let new = beginning on (length rest) number (all_go_on && is_paragraph b.leaf) rest in
          (λ i. cond (all_go_on && is_raw b.leaf) [] (with_list (drop-map mc many b.stack i) (beginning-moved (length rest) number n2 (all_go_on && is_paragraph b.leaf) rest e i)))
          ∙ ap (λ ps. cond (all_go_on && is_raw b.leaf) [] ps) (list-moved (drop many b.stack) new)
          ∙ cond-of (map mp) (all_go_on && is_raw b.leaf) [] (with_list (drop many b.stack) new)

      plain-moved : (b : Before) (number n2 : ℕ) (line : Line) → n2 ≡ number + l → without.row_of on (moved_before l b) n2 (ml line) ≡ mr (without.row_of on b number line)
      plain-moved b number n2 line e =
          let went = going_on (take b.depth b.stack) number (text_of line) in
          let going = went-moved b number n2 line e in
          let many = length-map went mp in
          let columns = columns-moved went in
          let text = text-moved l n line in
          (λ i. row_with on (moved_before l b) n2 (ml line) (going i) (begun_by (map mc b.stack) b n2 (text i) (length (going i)) (columns_of (going i))))
          ∙ (λ i. row_with on (moved_before l b) n2 (ml line) (map mp went) (begun_by (map mc b.stack) b n2 (text_of line) (many i) (columns i)))
          ∙ ap (λ ps. row_with on (moved_before l b) n2 (ml line) (map mp went) ps) (begun-moved b number n2 (text_of line) (length went) (columns_of went) e)
          ∙ with-moved b number n2 line went (begun_by b.stack b number (text_of line) (length went) (columns_of went)) e

      pub rest-moved : (row : Row) → rest_of (mr row) ≡ rest_of row
      rest-moved row = ap (drop row.columns) (text-moved l n row.line)

      -- a row, by what is behind its prefixes
      abbrev row_read : Known → Row → (rest : List ℕ) → Row
      row_read k row rest = record row { leaf = cond (on.definition && (is_behind_text k.before row && (is_some (underline_rank on rest) && is_used_up k.text))) open_paragraph row.leaf }

      without-moved : (k : Known) (number n2 : ℕ) (line : Line) → n2 ≡ number + l → row_without on (moved_known l k) n2 (ml line) ≡ mr (row_without on k number line)
      without-moved k number n2 line e =
          let row = without.row_of on k.before number line in
          (λ i. row_read (moved_known l k) (plain-moved k.before number n2 line e i) (rest_of (plain-moved k.before number n2 line e i)))
          ∙ (λ i. row_read (moved_known l k) (mr row) (rest-moved row i))

      -- the same with tables
      abbrev table_read : Known → Row → (rest : List ℕ) → Row
      table_read k row rest =
          record row {
            leaf = cond (on.gfm_table && (row.stays && (is_paragraph row.leaf
                && ((is_paragraph k.before.leaf && ((not row.is_lazy && (not (is_far on rest) && is_some (matched (last_line k.text) rest))) && not (on.definition && is_used_up k.text))) || (is_table k.before.leaf && is_row rest))))) open_table row.leaf;
          }

      pub row-moved : (k : Known) (number n2 : ℕ) (line : Line) → n2 ≡ number + l → row_of on (moved_known l k) n2 (ml line) ≡ mr (row_of on k number line)
      row-moved k number n2 line e =
          let row = row_without on k number line in
          (λ i. table_read (moved_known l k) (without-moved k number n2 line e i) (rest_of (without-moved k number n2 line e i)))
          ∙ (λ i. table_read (moved_known l k) (mr row) (rest-moved row i))

      -- ---- what is known behind them
      before-moved : (b : Before) (row : Row) → without.known_after on (moved_before l b) (mr row) ≡ moved_before l (without.known_after on b row)
      before-moved b row =
          let many = length-map row.went_on mp in
          let all = containers_of row.went_on ++ containers_of row.begun in
          let moved_all : containers_of (map mp row.went_on) ++ containers_of (map mp row.begun) ≡ map mc all =
          (λ i. containers-moved row.went_on i ++ containers-moved row.begun i) ∙ sym (map-append mc (containers_of row.went_on) (containers_of row.begun)) in
          let opened = ap length moved_all ∙ length-map all mc in
          (λ i. behind (moved_before l b) row.is_left_blank row.is_lazy (many i) (moved_all i) (opened i))
          ∙ by row.is_left_blank row.is_lazy all
        where
          behind : Before → (left lazy : Bool) → (many : ℕ) → List Container → (opened : ℕ) → Before
          behind b left lazy many all opened = cond left (record b { depth = many; leaf = closed }) (cond lazy (record b { leaf = row.leaf }) (record { stack = all; depth = opened; leaf = row.leaf }))

          by : (left lazy : Bool) (all : List Container) → behind (moved_before l b) left lazy (length row.went_on) (map mc all) (length all) ≡ moved_before l (behind b left lazy (length row.went_on) all (length all))
          by true lazy all = refl
          by false true all = refl
          by false false all = refl

      pub known-moved : (k : Known) (row : Row) → known_after on (moved_known l k) (mr row) ≡ moved_known l (known_after on k row)
      known-moved k row =
          let rest = rest-moved row in
          let text : text_after (moved_known l k) (mr row) ≡ text_after k row =
          (λ i. cond (is_paragraph row.leaf) (cond (is_behind_text k.before row) (k.text ++ 10 ∷ rest i) (rest i)) []) in
          (λ i. record { before = before-moved k.before row i; text = text i })

      pub rows-moved : (k : Known) (number n2 : ℕ) (ls : List Line) → n2 ≡ number + l → rows_from on (moved_known l k) n2 (moved_lines l n ls) ≡ map mr (rows_from on k number ls)
      rows-moved k number n2 [] e = refl
      rows-moved k number n2 (line ∷ ls) e =
          let row = row_of on k number line in
          let first = row-moved k number n2 line e in
          let next : known_after on (moved_known l k) (row_of on (moved_known l k) n2 (ml line)) ≡ moved_known l (known_after on k row) = ap (known_after on (moved_known l k)) first ∙ known-moved k row in
          (λ i. first i ∷ rows_from on (next i) (suc n2) (moved_lines l n ls)) ∙ ap (λ rs. mr row ∷ rs) (rows-moved (known_after on k row) (suc number) (suc n2) ls (omega (arith, e)))

      pub behind-moved : (k : Known) (number n2 : ℕ) (ls : List Line) → n2 ≡ number + l → known_behind on (moved_known l k) n2 (moved_lines l n ls) ≡ moved_known l (known_behind on k number ls)
      behind-moved k number n2 [] e = refl
      behind-moved k number n2 (line ∷ ls) e =
          let row = row_of on k number line in
          let next : known_after on (moved_known l k) (row_of on (moved_known l k) n2 (ml line)) ≡ moved_known l (known_after on k row) = ap (known_after on (moved_known l k)) (row-moved k number n2 line e) ∙ known-moved k row in
          ap (λ k. known_behind on k (suc n2) (moved_lines l n ls)) next ∙ behind-moved (known_after on k row) (suc number) (suc n2) ls (omega (arith, e))

pub rows-move : RowsMove
rows-move on l n k number ls = rows-moved l on n k number (number + l) ls refl
