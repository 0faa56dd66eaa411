-- HTML of events is the same by options that let the same through.
use Rattle.std.proofs.Common.{◌≡◌, ◌∙◌, ◌++◌, ap, refl, ℕ, suc, Bool, true, false, List, [], ◌∷◌, Option, None, Some}
use Rattle.std.specs.Option.{option_map_or}
use Rattle.std.specs.Prelude.{◌&&◌, codes, cond, not, reverse}
use Rattle.markdown_base.specs.declared.configuration.CompileOptions.{CompileOptions}
use Rattle.markdown_base.specs.declared.event.Event.{Event}
use Rattle.markdown_base.specs.declared.event.Name.{Name}
use Rattle.mddocument_link_targets.specs.declared.targets.Parts.{Parts}
use Rattle.mdhtml_calls.specs.Laws.{as_let_through}
use Rattle.mdhtml_document.specs.declared.names.Block.{Block}
use Rattle.mdhtml_document.specs.declared.names.Block.TheVariants as block
use Rattle.mdhtml_document.specs.declared.names.Inline.{Inline}
use Rattle.mdhtml_document.specs.declared.names.Inline.TheVariants as inline
use Rattle.mdhtml_document.specs.declared.shapes.Mode.{Mode}
use Rattle.mdhtml_document.specs.declared.shapes.Mode.TheVariants as mode
use Rattle.mdhtml_document.specs.Html.{Known, Shape, block_shape, check, has_block, html_with_notes, is_paragraph, note_blocks, notes_from, section_by, columns_behind, columns_in, inline_shape, is_check, is_checked, is_in_cell, link_to, image_of, parts_in_link, pieces, shape, shape_by}
use Rattle.mdhtml_document.specs.Names.{block_of, inline_of}
use Rattle.mdhtml_document.specs.Notes.{back_links, calls_in, classed, labels_of, last_call, note_id, note_of, notes_in, notes_of}
use Rattle.mdhtml_document.specs.Spans.{Nothing, Span, Spans, events_of, spans_of}
use Rattle.mdhtml_markup.specs.declared.elements.Element.TheVariants.{ListItem, OrderedList, Paragraph, Section}
use Rattle.mdhtml_markup.specs.Pieces.{Close, Feed, Footnotes, Fresh, Id, Open, Piece, Text, html}

link-same : (options : CompileOptions) (parts : Option Parts) → link_to options parts ≡ link_to (as_let_through options) parts
link-same options None = refl
link-same options (Some parts) = refl

image-same : (options : CompileOptions) (alt : List ℕ) (parts : Option Parts) → image_of options alt parts ≡ image_of (as_let_through options) alt parts
image-same options alt None = refl
image-same options alt (Some parts) = refl

-- pieces of a span of this shape, and of what is behind it
abbrev around : (inside : Mode → List Piece) → (behind : List Piece) → Shape → List Piece
around inside behind here = here.opened ++ (inside here.inside ++ (here.closed ++ behind))

module _ (options : CompileOptions) (bytes : List ℕ) (known : Known) (tab : ℕ) where
  block-same : (tight : Bool) (b : Block) (es : List Event) (loose : Bool) (start : Option ℕ)
      → block_shape options bytes known tab tight b es loose start ≡ block_shape (as_let_through options) bytes known tab tight b es loose start
  block-same tight block.Paragraph es loose start = refl
  block-same tight block.HeadingAtx es loose start = refl
  block-same tight block.HeadingSetext es loose start = refl
  block-same tight block.HeadingText es loose start = refl
  block-same tight block.Quote es loose start = refl
  block-same tight block.Bullets es loose start = refl
  block-same tight block.Numbers es loose start = refl
  block-same tight block.Item es loose start = refl
  block-same tight block.Fenced es loose start = refl
  block-same tight block.Indented es loose start = refl
  block-same tight block.Html es loose start = refl
  block-same tight block.Rule es loose start = refl
  block-same tight block.Table es loose start = refl
  block-same tight block.TableHead es loose start = refl
  block-same tight block.TableBody es loose start = refl
  block-same tight block.TableRow es loose start = refl
  block-same tight block.TableCell es loose start = refl
  block-same tight block.Other es loose start = refl

  inline-same : (in_cell : Bool) (i : Inline) (es : List Event) (said alt : List ℕ)
      → inline_shape options bytes known tab in_cell i es said alt ≡ inline_shape (as_let_through options) bytes known tab in_cell i es said alt
  inline-same in_cell inline.Ending es said alt = refl
  inline-same in_cell inline.Break es said alt = refl
  inline-same in_cell inline.Emphasis es said alt = refl
  inline-same in_cell inline.Strong es said alt = refl
  inline-same in_cell inline.Struck es said alt = refl
  inline-same in_cell inline.Code es said alt = refl
  inline-same in_cell inline.Html es said alt = refl
  inline-same in_cell inline.Autolink es said alt = refl
  inline-same in_cell inline.Www es said alt = refl
  inline-same in_cell inline.Email es said alt = refl
  inline-same in_cell inline.Address es said alt = refl
  inline-same in_cell inline.Check es said alt = refl
  inline-same in_cell inline.Call es said alt = refl
  inline-same in_cell inline.Link es said alt = link-same options (parts_in_link bytes known.lookup es)
  inline-same in_cell inline.Image es said alt = image-same options alt (parts_in_link bytes known.lookup es)
  inline-same in_cell inline.Tail es said alt = refl
  inline-same in_cell inline.Other es said alt = refl

  by-name : (m : Mode) (columns : List Event) (n : Name) (es : List Event) (loose : Bool) (start : Option ℕ) (said alt : List ℕ)
      → shape_by options bytes known tab m columns n es loose start said alt ≡ shape_by (as_let_through options) bytes known tab m columns n es loose start said alt
  by-name mode.Flow columns n es loose start said alt = block-same false (block_of n) es loose start
  by-name mode.Tight columns n es loose start said alt = block-same true (block_of n) es loose start
  by-name mode.LooseItems columns n es loose start said alt = refl
  by-name mode.TightItems columns n es loose start said alt = refl
  by-name mode.Heading columns n es loose start said alt = refl
  by-name mode.Table columns n es loose start said alt = refl
  by-name (mode.Rows head) columns n es loose start said alt = refl
  by-name (mode.Cells head) columns n es loose start said alt = refl
  by-name mode.Paragraph columns n es loose start said alt = ap (λ s. cond (is_check (inline_of n)) (check (is_checked es)) s) (inline-same (is_in_cell columns) (inline_of n) es said alt)
  by-name mode.Text columns n es loose start said alt = inline-same (is_in_cell columns) (inline_of n) es said alt
  by-name mode.Nothing columns n es loose start said alt = refl

  shape-same : (m : Mode) (columns : List Event) (e f : Event) (s : Spans) → shape options bytes known tab m columns e f s ≡ shape (as_let_through options) bytes known tab m columns e f s
  shape-same m columns e f s = by-name m columns e.name _ _ _ _ _

  pieces-same : (m : Mode) (columns : List Event) (s : Spans) → pieces options bytes known tab m columns s ≡ pieces (as_let_through options) bytes known tab m columns s
  pieces-same m columns Nothing = refl
  pieces-same m columns (Span e f s behind) =
      let b = block_of e.name in
      let within = columns_in b columns (events_of s) in
      let next = columns_behind b columns in
      let there = shape (as_let_through options) bytes known tab m columns e f s in
      ap (around (λ i. pieces options bytes known tab i within s) (pieces options bytes known tab m next behind)) (shape-same m columns e f s)
      ∙ ap (λ ps. there.opened ++ (ps ++ (there.closed ++ pieces options bytes known tab m next behind))) (pieces-same there.inside within s)
      ∙ ap (λ ps. there.opened ++ (pieces (as_let_through options) bytes known tab there.inside within s ++ (there.closed ++ ps))) (pieces-same m next behind)

  -- ---- footnotes

  blocks-same : (backs : List Piece) (s : Spans) → note_blocks options bytes known tab backs s ≡ note_blocks (as_let_through options) bytes known tab backs s
  blocks-same backs Nothing = refl
  blocks-same backs (Span e f s behind) =
      λ i. cond (is_paragraph (block_of e.name) && not (has_block behind))
      (Fresh ∷ Open Paragraph [] ∷ (pieces-same mode.Paragraph [] s i ++ Text (codes " ") ∷ (backs ++ Close Paragraph ∷ Feed ∷ [])))
      (pieces-same mode.Flow [] (Span e f s Nothing) i ++ blocks-same backs behind i)

  notes-same : (definitions : List (List ℕ × Spans)) (called : List (List ℕ)) (number : ℕ) (labels : List (List ℕ))
      → notes_from options bytes known tab definitions called number labels ≡ notes_from (as_let_through options) bytes known tab definitions called number labels
  notes-same definitions called number [] = refl
  notes-same definitions called number (l ∷ ls) =
      let backs = back_links number (option_map_or (λ c. c.repeat) (last_call l called) 0) in
      λ i. (Open ListItem (Id (note_id number) ∷ []) ∷ Feed ∷ (blocks-same backs (note_of l definitions) i ++ Close ListItem ∷ Feed ∷ []))
      ++ notes-same definitions called (suc number) ls i

  section-same : (definitions : List (List ℕ × Spans)) (called : List (List ℕ))
      → section_by options bytes known tab definitions called ≡ section_by (as_let_through options) bytes known tab definitions called
  section-same definitions [] = refl
  section-same definitions (l ∷ ls) =
      λ i. Fresh ∷ Open Section (classed (codes "footnotes") ++ Footnotes ∷ []) ∷ Feed ∷ Open OrderedList [] ∷ Feed
      ∷ (notes-same definitions (l ∷ ls) 1 (notes_of (l ∷ ls)) i ++ (Close OrderedList ∷ Feed ∷ Close Section ∷ Feed ∷ []))

  pub html-same : (events : List Event) → html_with_notes options bytes known tab events ≡ html_with_notes (as_let_through options) bytes known tab events
  html-same events =
      λ i. html (pieces-same mode.Flow [] (spans_of events) i ++ section-same (notes_in bytes (spans_of events)) (labels_of (reverse (calls_in bytes events))) i)
