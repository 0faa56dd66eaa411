-- What is held of a paragraph says of it what the text would: nothing is defined in one that has no bracket in front.
use Rattle.std.proofs.Common.{◌≡◌, ◌∙◌, ℕ, List, [], ◌∷◌, ◌++◌, Bool, true, false, cond, ap, drop, refl, sym}
use Rattle.std.specs.List.{prefix_len}
use Rattle.std.specs.Prelude.{◌&&◌, ◌||◌, is_some, not}
use Rattle.std.proofs.lemmas.Bool.{false≢true}
use Rattle.std.proofs.lemmas.List.Sums.{prefix_len-le-length}
use Rattle.markdown_base.specs.declared.configuration.Constructs.{Constructs}
use Rattle.mdblock_leaf_blocks.specs.LeafBlocks.{Line}
use Rattle.mdblock_leaf_blocks.specs.LineKinds.{underline_rank}
use Rattle.mdblock_containers.specs.Rows.{Leaf, Row, has_none, is_paragraph, is_table, open_paragraph, open_table, rest_of}
use Rattle.mdblock_containers.specs.Rows as without
use Rattle.mdblock_containers.specs.Views.{before_of, leaf_of}
use Rattle.mdblock_tables.specs.Tables.{is_row}
use Rattle.mdinline_labels.specs.Tails.{begins_with, is_white}
use Rattle.mdblock_definitions.specs.declared.rows.Known.{Known as CodeKnown}
use Rattle.mdblock_definitions.specs.Known.{IsKnown, asks_table, held, held_behind, is_held_used_up, leaf_behind}
use Rattle.mdblock_definitions.specs.Laws.{begins_with_bracket}
use Rattle.mdblock_definitions.specs.Rows.{Known, is_behind_text, is_row_of_table, is_used_up, last_line, row_of, row_without, text_after, underlines_nothing}
use Rattle.mdblock_definitions.proofs.KnownReads.{fourth-fails}
use Rattle.mdblock_definitions.proofs.Longer.{begins-longer, drop-longer, white-longer}
use Rattle.mdblock_definitions.proofs.Without.{filled-longer, leaf-open, no-underline, not-used-up, row-filled}

-- a text with a line more begins as before
pub bracket-longer : (x w : List ℕ) → begins_with_bracket (x ++ 10 ∷ w) ≡ begins_with_bracket x
bracket-longer x w =
    let n = prefix_len is_white x in
    ap (λ m. begins_with 91 (drop m (x ++ 10 ∷ w))) (white-longer w x) ∙ ap (begins_with 91) (drop-longer w n x (prefix_len-le-length is_white x)) ∙ begins-longer w 91 (drop n x) refl

held-longer : (text rest : List ℕ) → held_behind true (held text) rest ≡ held (text ++ 10 ∷ rest)
held-longer text rest = by (begins_with_bracket text) refl ∙ sym (ap (λ b. cond b (text ++ 10 ∷ rest) []) (bracket-longer text rest))
  where
    some : (text : List ℕ) → begins_with_bracket text ≡ true → cond (not (has_none text)) (text ++ 10 ∷ rest) [] ≡ text ++ 10 ∷ rest
    some [] e = absurd (false≢true e)
    some (b ∷ bs) e = refl

    by : (b : Bool) → begins_with_bracket text ≡ b → held_behind true (cond b text []) rest ≡ cond b (text ++ 10 ∷ rest) []
    by true e = some text e
    by false e = refl

-- what is held behind a line: `p`, a paragraph is open; `b`, it was before
pub held-after : (p b : Bool) (text rest : List ℕ) → cond p (held_behind b (held text) rest) [] ≡ held (cond p (cond b (text ++ 10 ∷ rest) rest) [])
held-after false b text rest = refl
held-after true true text rest = held-longer text rest
held-after true false text rest = refl

pub used-held : (text : List ℕ) → has_none text ≡ false → is_held_used_up (held text) ≡ is_used_up text
used-held text filled = by (begins_with_bracket text) refl
  where
    by : (b : Bool) → begins_with_bracket text ≡ b → is_held_used_up (cond b text []) ≡ is_used_up text
    by true e = ap (λ n. not n && is_used_up text) filled
    by false e = sym (not-used-up text (e, filled))

-- where nothing is held, it makes one
pub looked-none : (a b u : Bool) (text : List ℕ) → not (has_none text) ≡ false → (a && (b && (u && is_held_used_up text))) ≡ false
looked-none a b u text none = ap (λ n. a && (b && (u && (n && is_used_up text)))) none ∙ fourth-fails a b u

-- the text of an open paragraph is not empty
module _ (on : Constructs) (k : Known) (n : ℕ) (line : Line) where
  -- the line without definitions
  abbrev own : Row
  own = without.row_of on k.before n line

  and-false : (a x : Bool) → (a && (false && x)) ≡ false
  and-false true x = refl
  and-false false x = refl

  -- `b`: it goes on with a paragraph
  -- what is text is in no table
  text-alone : is_paragraph (row_of on k n line).leaf ≡ true → is_paragraph (row_without on k n line).leaf ≡ true
  text-alone h = by (is_row_of_table on k (row_without on k n line)) (row_without on k n line).leaf h
    where
      by : (w : Bool) (leaf : Leaf) → is_paragraph (cond w open_table leaf) ≡ true → is_paragraph leaf ≡ true
      by true leaf h = absurd (false≢true h)
      by false leaf h = h

  filled-by : (b : Bool) → is_behind_text k.before own ≡ b → is_paragraph (cond (underlines_nothing on k own) open_paragraph own.leaf) ≡ true → has_none (cond b (k.text ++ 10 ∷ rest_of own) (rest_of own)) ≡ false
  filled-by true e open_row = filled-longer k.text (rest_of own)
  filled-by false e open_row =
      let more = is_some (underline_rank on (rest_of own)) && is_used_up k.text in
      let none : underlines_nothing on k own ≡ false = ap (λ b. on.definition && (b && more)) e ∙ and-false on.definition more in
      row-filled on k.before n line (sym (ap (λ u. is_paragraph (cond u open_paragraph own.leaf)) none) ∙ open_row)

  pub filled-after : is_paragraph (without.known_after on k.before (row_of on k n line)).leaf ≡ true → has_none (text_after k (row_of on k n line)) ≡ false
  filled-after open_after =
      let open_row = leaf-open on k.before (row_of on k n line) open_after in
      ap (λ x. has_none (cond x (cond (is_behind_text k.before own) (k.text ++ 10 ∷ rest_of own) (rest_of own)) [])) open_row ∙ filled-by (is_behind_text k.before own) refl (text-alone open_row)

-- what is known, by what the code keeps
abbrev pub seen_as : CodeKnown → Known → Known
seen_as code k = record { before = before_of code.before; text = k.text }

pub same-known : (on : Constructs) (code : CodeKnown) (k : Known) → IsKnown on code k → seen_as code k ≡ k
same-known on code k is = λ i. record { before = is.before i; text = k.text }

-- The leaf block behind a line, by what is known before it: `p`, a paragraph is open, with this last line, of definitions alone or not; `t`, a table is
abbrev pub leaf-by : Constructs → (p t : Bool) → (header : List ℕ) → (used stays is_lazy : Bool) → (own : Leaf) → (rest : List ℕ) → Leaf
leaf-by on p t header used stays is_lazy own rest =
    let here = cond (on.definition && ((stays && p) && (is_some (underline_rank on rest) && used))) open_paragraph own in
    cond (on.gfm_table && (stays && (is_paragraph here && ((p && (asks_table on header is_lazy rest && not (on.definition && used))) || (t && is_row rest))))) open_table here

-- the code finds it by what it keeps
pub leaf-same : (on : Constructs) (code : CodeKnown) (k : Known) → IsKnown on code k → (stays is_lazy : Bool) (own : Leaf) (rest : List ℕ)
    → leaf_behind on (leaf_of code.before.leaf) code.text.items code.last.items stays is_lazy own rest
    ≡ leaf-by on (is_paragraph (leaf_of code.before.leaf)) (is_table (leaf_of code.before.leaf)) (last_line k.text) (is_used_up k.text) stays is_lazy own rest
leaf-same on code k is stays is_lazy own rest = by (is_paragraph l) refl on.gfm_table refl
  where
    l : Leaf
    l = leaf_of code.before.leaf

    underlined : Bool
    underlined = is_some (underline_rank on rest)

    Goal : Bool → Type 0
    Goal p = leaf-by on p (is_table l) code.last.items (is_held_used_up code.text.items) stays is_lazy own rest ≡ leaf-by on p (is_table l) (last_line k.text) (is_used_up k.text) stays is_lazy own rest

    open_before : is_paragraph l ≡ true → is_paragraph k.before.leaf ≡ true
    open_before e = sym (λ i. is_paragraph (is.before i).leaf) ∙ e

    used : is_paragraph l ≡ true → is_held_used_up code.text.items ≡ is_used_up k.text
    used e = ap is_held_used_up is.text ∙ used-held k.text (is.filled (open_before e))

    none : (v : Bool) → (on.definition && ((stays && false) && (underlined && v))) ≡ false
    none v = no-underline on on.definition stays false underlined v (λ e. absurd (false≢true e))

    -- the leaf block behind the line, by whether tables are on
    Leaf-at : Bool → List ℕ → Leaf
    Leaf-at g header =
        let here = cond (on.definition && ((stays && true) && (underlined && is_used_up k.text))) open_paragraph own in
        cond (g && (stays && (is_paragraph here && ((asks_table on header is_lazy rest && not (on.definition && is_used_up k.text)) || (is_table l && is_row rest))))) open_table here

    by : (p : Bool) → is_paragraph l ≡ p → (g : Bool) → on.gfm_table ≡ g → Goal p
    by false ep g eg =
        let same : (on.definition && ((stays && false) && (underlined && is_held_used_up code.text.items))) ≡ (on.definition && ((stays && false) && (underlined && is_used_up k.text))) = none (is_held_used_up code.text.items) ∙ sym (none (is_used_up k.text)) in
        λ i. let here = cond (same i) open_paragraph own in cond (on.gfm_table && (stays && (is_paragraph here && (is_table l && is_row rest)))) open_table here
    by true ep true eg = λ i. leaf-by on true (is_table l) (is.last eg (open_before ep) i) (used ep i) stays is_lazy own rest
    by true ep false eg =
        ap (λ v. leaf-by on true (is_table l) code.last.items v stays is_lazy own rest) (used ep) ∙ ap (λ g. Leaf-at g code.last.items) eg ∙ sym (ap (λ g. Leaf-at g (last_line k.text)) eg)
