-- The leaf block behind a line: where what would be an underline is asked for, no table is, and where a table is, no underline.
use Rattle.std.proofs.Common.{◌≡◌, ℕ, Bool, true, false, cond, List, refl, sym, ap, ◌∙◌}
use Rattle.std.specs.Prelude.{◌&&◌, ◌||◌, is_some, not}
use Rattle.std.proofs.lemmas.Bool.{false≢true}
use Rattle.markdown_base.specs.declared.configuration.Constructs.{Constructs}
use Rattle.markdown_base.proofs.Common.{and-right}
use Rattle.markdown_base.proofs.Facts.Bools.{and-left}
use Rattle.mdblock_leaf_blocks.specs.LineKinds.{underline_rank}
use Rattle.mdblock_tables.specs.Tables.{is_row}
use Rattle.mdblock_containers.specs.Rows.{Leaf, closed, is_paragraph, is_table, open_fence, open_html, open_paragraph, open_table}
use Rattle.mdblock_definitions.specs.Known.{asks_table, is_held_used_up, is_in_table, leaf_behind}
use Rattle.mdblock_definitions.proofs.KnownLemmas.{text-stays}

module _ (on : Constructs) (before : Leaf) (text header : List ℕ) (stays is_lazy : Bool) (own : Leaf) (rest : List ℕ) where
  abbrev looks : Bool
  looks = on.definition && ((stays && is_paragraph before) && (is_some (underline_rank on rest) && is_held_used_up text))

  -- a paragraph is no table
  no-table : (leaf : Leaf) → is_paragraph leaf ≡ true → is_table leaf ≡ false
  no-table closed h = absurd (false≢true h)
  no-table open_paragraph h = refl
  no-table (open_fence f) h = absurd (false≢true h)
  no-table (open_html kind) h = absurd (false≢true h)
  no-table open_table h = absurd (false≢true h)

  -- what goes on behind definitions alone is in no table
  under-none : looks ≡ true → is_in_table on before text header stays is_lazy open_paragraph rest ≡ false
  under-none e =
      let d = and-left on.definition _ e in
      let all = and-right on.definition _ e in
      let p = and-right stays _ (and-left (stays && is_paragraph before) _ all) in
      let u = and-right (is_some (underline_rank on rest)) _ (and-right (stays && is_paragraph before) _ all) in
      let t = no-table before p in
      (λ i. on.gfm_table && (stays && ((is_paragraph before && (asks_table on header is_lazy rest && not (d i && u i))) || (t i && is_row rest)))) ∙ by on.gfm_table stays (is_paragraph before) (asks_table on header is_lazy rest)
    where
      by : (g s p a : Bool) → (g && (s && ((p && (a && false)) || false))) ≡ false
      by false s p a = refl
      by true false p a = refl
      by true true false a = refl
      by true true true false = refl
      by true true true true = refl

  -- a line that would be no text
  pub leaf-under : (u : Bool) → is_paragraph own ≡ false → u ≡ looks → cond u open_paragraph own ≡ leaf_behind on before text header stays is_lazy own rest
  leaf-under u e is = ap (λ b. cond b open_paragraph own) is ∙ by looks refl
    where
      none : (g s : Bool) (z : Bool) → (g && (s && (false && z))) ≡ false
      none false s z = refl
      none true false z = refl
      none true true z = refl

      by : (b : Bool) → looks ≡ b → cond b open_paragraph own ≡ cond (is_in_table on before text header stays is_lazy (cond b open_paragraph own) rest) open_table (cond b open_paragraph own)
      by true eb = sym (ap (λ w. cond w open_table open_paragraph) (under-none eb))
      by false eb =
          let more = (is_paragraph before && (asks_table on header is_lazy rest && not (on.definition && is_held_used_up text))) || (is_table before && is_row rest) in
          sym (ap (λ w. cond w open_table own) (ap (λ b. on.gfm_table && (stays && (b && more))) e ∙ none on.gfm_table stays more))

  -- one that would be
  pub leaf-in : (w : Bool) → is_paragraph own ≡ true → w ≡ is_in_table on before text header stays is_lazy own rest → cond w open_table own ≡ leaf_behind on before text header stays is_lazy own rest
  leaf-in w e is = ap (λ b. cond b open_table own) is ∙ ap (λ l. cond (is_in_table on before text header stays is_lazy l rest) open_table l) (text-stays own looks e)
