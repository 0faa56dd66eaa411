-- Leaf blocks stand where blocks may stand, one behind another. Texts are chunks that stand in a paragraph or a heading.
use Rattle.mddocument_rules.proofs.Prelude.{◌≡◌, ℕ, List, [], ◌∷◌, ◌++◌, Bool, true, false, not, Some, length, refl, sym, ap, subst, AllByRecursion, flat_map, Constructs, Name, Seat, is_wanted, all_of, line_text, lines_in, Line, LeafBlock, atx_heading, blank_line, break_line, fenced_code, html_block, indented_code, leaf_blocks, paragraph, setext_heading, Chunk, Mark, block_span, body, chunk_span, code_marks, flow_events, last_end, leaf_block_marks, span_marks, string_chunk, text_chunk, text_marks, underline_marks, list_names, AnySeat, any-each, any-lines, any-seats, whites, holds_blocks, is_in, may_stand, text_names, LeafBlocksStand}
use Rattle.markdown_base.specs.declared.event.Content.TheVariants as content
use Rattle.markdown_base.specs.declared.event.Name.TheVariants as name
use Rattle.mdconstructs_tables.proofs.Rows.Misfits.{none-left}
use Rattle.mddocument.proofs.Walks.BlockWalk.{breaks, codes, fenced, headings, htmls, in-lines, last-ends, underlines}
use Rattle.mddocument_rules.proofs.Definitions.{IsKept}
use Rattle.mddocument_rules.proofs.Passes.{free-kept, AsBlocks, Free, Passes, alone-stand, blocks-both, blocks-flat, chunk-passes, free-as-blocks, free-leaf, linked-stand, passes-both, passes-none, span-passes, string-free}
use Rattle.mddocument_rules.proofs.Places.{NotInList, Stands, blocks-apart, free-may, texts-apart, walks-stand}
use Rattle.mddocument_rules.proofs.Walk.{Walks}

module _ (bytes : List ℕ) where
  -- ---- what stands anywhere but directly in a list
  walk : IsKept bytes Free
  walk = free-kept bytes

  strings : (seats : List Seat) → AllByRecursion AnySeat seats → AllByRecursion AnySeat seats → Free (string_chunk bytes seats)
  strings seats q i = string-free bytes (record { content = content.String; has_previous = false; has_next = false }) seats refl

  -- ---- texts
  abbrev text_of_lines : (has_previous has_next : Bool) → Chunk
  text_of_lines has_previous has_next = record { content = content.Text; has_previous = has_previous; has_next = has_next }

  texts : (has_previous : Bool) (lines : List Line) (around : List Name) → is_in text_names around ≡ true → Passes around (text_marks bytes has_previous lines)
  texts has_previous [] around t = passes-none around
  texts has_previous (line ∷ []) around t = chunk-passes bytes around (text_of_lines has_previous false) name.Data (line_text line) (free-may around name.Data refl (texts-apart around t), t)
  texts has_previous (line ∷ next ∷ lines) around t =
      passes-both around (chunk_span bytes (Some (text_of_lines has_previous true)) name.Data line []) (text_marks bytes true (next ∷ lines))
      (chunk-passes bytes around (text_of_lines has_previous true) name.Data line (free-may around name.Data refl (texts-apart around t), t)) (texts true (next ∷ lines) around t)

  pub no-texts : (has_previous : Bool) (lines : List Line) → body lines ≡ [] → text_marks bytes has_previous lines ≡ []
  no-texts has_previous [] e = refl
  no-texts has_previous (line ∷ []) e = ap (λ (s : List Seat). chunk_span bytes (Some (record { content = content.Text; has_previous = has_previous; has_next = false })) name.Data s []) e
  no-texts has_previous (line ∷ next ∷ lines) e =
      let none = none-left line (body (next ∷ lines)) e in
      (λ i. chunk_span bytes (Some (record { content = content.Text; has_previous = has_previous; has_next = true })) name.Data (none.0 i) [] ++ no-texts true (next ∷ lines) none.1 i)

  -- lines of text in a span of text
  text-span : (around : List Name) (n : Name) (lines : List Line) → may_stand around n ≡ true → is_wanted text_names n ≡ true → Passes around (span_marks bytes n (body lines) (text_marks bytes false lines))
  text-span around n lines m t = span-passes bytes around n (body lines) (text_marks bytes false lines) (m, tt) (texts false lines (n ∷ around) t) (λ e. subst (Passes around) (sym (no-texts false lines e)) (passes-none around))

  heading-text : (around : List Name) (seats : List Seat) → NotInList around → Passes around (span_marks bytes name.HeadingAtxText seats (text_chunk bytes seats))
  heading-text around seats ok =
      span-passes bytes around name.HeadingAtxText seats (text_chunk bytes seats) (free-may around name.HeadingAtxText refl ok, tt)
      (chunk-passes bytes (name.HeadingAtxText ∷ around) (text_of_lines false false) name.Data seats (refl, refl))
      (λ e. subst (Passes around) (sym (ap (λ (s : List Seat). text_chunk bytes s) e)) (passes-none around))

  heading-free : (seats : List Seat) → Free (span_marks bytes name.HeadingAtxText seats (text_chunk bytes seats))
  heading-free seats = record { passes = λ around ok. heading-text around seats ok }

  -- ---- blocks
  block-span : (n : Name) (is_open : Bool) (lines : List Line) (inside : List Mark) → is_wanted list_names n ≡ false → ((around : List Name) → holds_blocks around ≡ true → may_stand around n ≡ true) → Free inside
      → AsBlocks (block_span bytes n is_open lines inside)
  block-span n false lines inside other m h =
      blocks-both (span_marks bytes n (body lines) inside) (last_end bytes lines) (record { passes = λ around b. span-passes bytes around n (body lines) inside (m around b, tt) (h.passes (n ∷ around) other) (λ e. h.passes around (blocks-apart around b)) })
      (free-as-blocks (last_end bytes lines) (last-ends walk lines (any-each lines)))
  block-span n true lines inside other m h =
      record { passes = λ around b. span-passes bytes around n (all_of lines) inside (m around b, tt) (h.passes (n ∷ around) other) (λ e. h.passes around (blocks-apart around b)) }

  setext-text : (lines : List Line) → Free (span_marks bytes name.HeadingSetextText (body lines) (text_marks bytes false lines))
  setext-text lines = record { passes = λ around ok. text-span around name.HeadingSetextText lines (free-may around name.HeadingSetextText refl ok) refl }

  setext-inside : (lines : List Line) (underline : Line) → Free (span_marks bytes name.HeadingSetextText (body lines) (text_marks bytes false lines) ++ (last_end bytes lines ++ underline_marks bytes (line_text underline)))
  setext-inside lines underline =
      walk.both _ _ (setext-text lines) (walk.both _ _ (last-ends walk lines (any-each lines)) (underlines walk (line_text underline) refl refl (any-seats (line_text underline))))

  pub block-stands : (block : LeafBlock) → AsBlocks (leaf_block_marks bytes block)
  block-stands (blank_line line) = free-as-blocks _ (walk.both _ _ (whites walk _ (any-seats _)) (free-leaf bytes name.BlankLineEnding _ refl))
  block-stands (break_line line) = block-span name.ThematicBreak false (line ∷ []) _ refl (λ around b. b) (breaks walk (length line) (line_text line) refl (any-seats (line_text line)))
  block-stands (atx_heading line) = block-span name.HeadingAtx false (line ∷ []) _ refl (λ around b. b) (headings walk AnySeat (λ seats q i. heading-free seats) (line_text line) refl (any-seats (line_text line)) (any-seats (line_text line)))
  block-stands (paragraph lines) =
      blocks-both (span_marks bytes name.Paragraph (body lines) (text_marks bytes false lines)) (last_end bytes lines)
      (record { passes = λ around b. text-span around name.Paragraph lines b refl }) (free-as-blocks (last_end bytes lines) (last-ends walk lines (any-each lines)))
  block-stands (setext_heading rank lines underline) = block-span name.HeadingSetext false (lines ++ underline ∷ []) _ refl (λ around b. b) (setext-inside lines underline)
  block-stands (indented_code lines) = block-span name.CodeIndented false lines _ refl (λ around b. b) (in-lines walk (code_marks bytes 4) (λ seats q. codes walk 4 seats refl q) false lines (any-each lines))
  block-stands (fenced_code f is_closed lines) =
      block-span name.CodeFenced (not is_closed) lines _ refl (λ around b. b)
      (fenced walk AnySeat strings f is_closed lines (record { fence = refl; sequence = refl; info = refl; meta = refl; code = refl }) (any-each lines) (any-lines lines))
  block-stands (html_block kind is_closed lines) = block-span name.HtmlFlow (not is_closed) lines _ refl (λ around b. b) (htmls walk (not is_closed) lines refl (any-each lines))

-- Leaf blocks of a text stand where blocks may
pub flow-stands : (on : Constructs) (bytes : List ℕ) (seats : List Seat) (around : List Name) → holds_blocks around ≡ true → Walks Stands around (flow_events on bytes seats)
flow-stands on bytes seats around b =
    let blocks = leaf_blocks on (lines_in seats) in
    linked-stand 0 around (flat_map (leaf_block_marks bytes) blocks) (alone-stand around (flat_map (leaf_block_marks bytes) blocks) ((blocks-flat (leaf_block_marks bytes) blocks (block-stands bytes)).passes around b))

pub leaf-blocks-stand : LeafBlocksStand
leaf-blocks-stand on bytes seats around b = walks-stand around (flow_events on bytes seats) (flow-stands on bytes seats around b)
