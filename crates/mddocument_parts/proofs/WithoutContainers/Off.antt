-- Where block quotes, lists and footnote definitions are off, no container begins.
use Rattle.mddocument_parts.proofs.Prelude.{◌≡◌, ℕ, zero, suc, ◌&&◌, ◌||◌, ◌==◌, nat_le, List, [], ◌∷◌, Bool, true, false, cond, Option, None, Some, length, take, drop, refl, ap, ◌∙◌, Constructs, Line, is_blank_line, text_of, lines_in}
use Rattle.std.specs.List.{list_all}
use Rattle.markdown_base.proofs.Facts.Bools.{cond-same}
use Rattle.mdblock_leaf_blocks.specs.LineKinds.{begins_with, indent, is_thematic_break, unindented}
use Rattle.mdblock_lines.specs.Containers.{Container, begins, footnote_at, is_footnote, item_at, may_begin_item, Prefix, quote, quote_size}
use Rattle.mdblock_containers.specs.Prefixes.{beginning, columns_of, going_on, with_list}
use Rattle.mdblock_containers.specs.Rows.{Before, Row, has_none, is_paragraph, is_raw, known_after, nothing_known, row_of, rows_from}
use Rattle.mddocument.specs.Documents.{virtual_bytes}
use Rattle.mddocument_parts.specs.WithoutContainers.{NoneBeginsWhereOff}

module _ (on : Constructs) (quotes : on.block_quote ≡ false) (items : on.list_item ≡ false) (notes : on.gfm_footnote_definition ≡ false) where
  off-begins : (number : ℕ) (in_paragraph : Bool) (t : List ℕ) → begins on number in_paragraph t ≡ None
  off-begins number in_paragraph t =
      let r = unindented t in
      let other = (on.code_indented && nat_le 4 (indent t)) || (is_blank_line t || (on.thematic_break && is_thematic_break r)) in
      (λ i. cond other None
      (cond (quotes i && begins_with 62 r) (Some (record { container = quote (record { line = number; is_near = on.code_indented }); size = quote_size t }))
      (cond (notes i && is_footnote r) (Some (footnote_at number t)) (cond (items i && may_begin_item in_paragraph r) (Some (item_at number t)) None))))
      ∙ cond-same other None

  off-beginning : (bound number : ℕ) (in_paragraph : Bool) (t : List ℕ) → beginning on bound number in_paragraph t ≡ []
  off-beginning zero number in_paragraph t = refl
  off-beginning (suc bound) number in_paragraph t = ap (λ (o : Option Prefix). elim o [ None ↦ [] | Some p ↦ p ∷ beginning on bound number false (drop p.size t) ]) (off-begins number in_paragraph t)

  off-list : (b : Bool) (ended : List Container) → has_none (cond b [] (with_list ended [])) ≡ true
  off-list true ended = refl
  off-list false [] = refl
  off-list false (c ∷ ended) = refl

  off-row : (b : Before) (number : ℕ) (line : Line) → has_none (row_of on b number line).begun ≡ true
  off-row b number line =
      let went_on = going_on (take b.depth b.stack) number (text_of line) in
      let all_go_on = length went_on == b.depth in
      let rest = drop (columns_of went_on) (text_of line) in
      ap (λ begun. has_none (cond (all_go_on && is_raw b.leaf) [] (with_list (drop (length went_on) b.stack) begun))) (off-beginning (length rest) number (all_go_on && is_paragraph b.leaf) rest)
      ∙ off-list (all_go_on && is_raw b.leaf) (drop (length went_on) b.stack)

  off-rows : (b : Before) (number : ℕ) (lines : List Line) → list_all (λ (row : Row). has_none row.begun) (rows_from on b number lines) ≡ true
  off-rows b number [] = refl
  off-rows b number (line ∷ lines) = (λ i. off-row b number line i && off-rows (known_after on b (row_of on b number line)) (suc number) lines i)

pub none-begins-where-off : NoneBeginsWhereOff
none-begins-where-off options bytes quotes items notes = let on = options.constructs in off-rows on quotes items notes (nothing_known on) 1 (lines_in (virtual_bytes options bytes))
