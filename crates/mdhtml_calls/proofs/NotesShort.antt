-- The section of footnotes is no longer than its notes and so much for each call.
use Rattle.std.proofs.Common.{◌≡◌, ℕ, ◌+◌, ◌≤◌, Bool, true, false, cond, List, [], ◌∷◌, ◌++◌, ap, refl, arith, Option}
use Rattle.std.proofs.lemmas.Bool.{false≢true}
use Rattle.std.specs.Prelude.{◌&&◌, bytes_eq, codes, not}
use Rattle.markdown_base.specs.declared.configuration.CompileOptions.{CompileOptions}
use Rattle.markdown_base.specs.declared.event.Event.{Event}
use Rattle.markdown_base.proofs.Facts.Bools.{and-left}
use Rattle.mdblock_containers.specs.Lists.{is_loose, list_start}
use Rattle.mdhtml_document.specs.declared.names.Block.{Block}
use Rattle.mdhtml_document.specs.declared.names.Block.TheVariants as block
use Rattle.mdhtml_document.specs.declared.shapes.Mode.TheVariants as mode
use Rattle.mdhtml_document.specs.Html.{Known, block_shape, columns_in, has_block, is_paragraph, note_blocks, pieces, shape}
use Rattle.mdhtml_document.specs.Names.{block_of}
use Rattle.mdhtml_document.specs.Notes.{note_of}
use Rattle.mdhtml_document.specs.Spans.{Nothing, Span, Spans, events_of}
use Rattle.mdhtml_document.proofs.ShortShapes.{longs, longs-append, longs-span}
use Rattle.mdhtml_markup.specs.declared.elements.Element.TheVariants.{Paragraph}
use Rattle.mdhtml_markup.specs.Pieces.{Close, Feed, Fresh, Open, Piece, Text}
use Rattle.mdhtml_calls.proofs.Distinct.{AreDistinct, once, sum}
use Rattle.mdhtml_calls.proofs.OwnShort.{total}

paragraph-is : (b : Block) → is_paragraph b ≡ true → b ≡ block.Paragraph
paragraph-is block.Paragraph h = refl
paragraph-is block.HeadingAtx h = absurd (false≢true h)
paragraph-is block.HeadingSetext h = absurd (false≢true h)
paragraph-is block.HeadingText h = absurd (false≢true h)
paragraph-is block.Quote h = absurd (false≢true h)
paragraph-is block.Bullets h = absurd (false≢true h)
paragraph-is block.Numbers h = absurd (false≢true h)
paragraph-is block.Item h = absurd (false≢true h)
paragraph-is block.Fenced h = absurd (false≢true h)
paragraph-is block.Indented h = absurd (false≢true h)
paragraph-is block.Html h = absurd (false≢true h)
paragraph-is block.Rule h = absurd (false≢true h)
paragraph-is block.Table h = absurd (false≢true h)
paragraph-is block.TableHead h = absurd (false≢true h)
paragraph-is block.TableBody h = absurd (false≢true h)
paragraph-is block.TableRow h = absurd (false≢true h)
paragraph-is block.TableCell h = absurd (false≢true h)
paragraph-is block.Other h = absurd (false≢true h)

module _ (options : CompileOptions) (bytes : List ℕ) (known : Known) (tab : ℕ) where
  abbrev the : Spans → List Piece
  the s = pieces options bytes known tab mode.Flow [] s

  -- ---- blocks

  abbrev by_block : Block → List Event → (loose : Bool) → (start : Option ℕ) → Spans → (rest : List Piece) → List Piece
  by_block b es loose start s rest =
      let here = block_shape options bytes known tab false b es loose start in
      here.opened ++ (pieces options bytes known tab here.inside (columns_in b [] es) s ++ (here.closed ++ rest))

  paragraph-longs : (backs : List Piece) (e f : Event) (s behind : Spans) → is_paragraph (block_of e.name) ≡ true
      → longs (Fresh ∷ Open Paragraph [] ∷ (pieces options bytes known tab mode.Paragraph [] s ++ Text (codes " ") ∷ (backs ++ Close Paragraph ∷ Feed ∷ [])))
      ≤ (longs (the (Span e f s behind)) + longs backs) + 2
  paragraph-longs backs e f s behind h =
      let inner = pieces options bytes known tab mode.Paragraph [] s in
      let same : longs (the (Span e f s behind)) ≡ longs (Fresh ∷ Open Paragraph [] ∷ (inner ++ Close Paragraph ∷ Feed ∷ the behind)) =
      ap (λ b. longs (by_block b (events_of s) (is_loose (events_of s)) (list_start bytes (events_of s)) s (the behind))) (paragraph-is (block_of e.name) h)
      in
      let a = longs-append inner (Close Paragraph ∷ Feed ∷ the behind) in
      let b = longs-append inner (Text (codes " ") ∷ (backs ++ Close Paragraph ∷ Feed ∷ [])) in
      let c = longs-append backs (Close Paragraph ∷ Feed ∷ []) in
      omega (arith, same, a, b, c)

  blocks-by : (c : Bool) (xs ys : List Piece) (most : ℕ) → (c ≡ true → longs xs ≤ most) → longs ys ≤ most → longs (cond c xs ys) ≤ most
  blocks-by true xs ys most h k = h refl
  blocks-by false xs ys most h k = k

  joined-longs : (e f : Event) (s behind : Spans) → longs (the (Span e f s Nothing)) + longs (the behind) ≡ longs (the (Span e f s behind))
  joined-longs e f s behind =
      let here = shape options bytes known tab mode.Flow [] e f s in
      let ps = pieces options bytes known tab here.inside (columns_in (block_of e.name) [] (events_of s)) s in
      let one = longs-span here ps [] in
      let all = longs-span here ps (the behind) in
      omega (arith, one, all)

  pub blocks-short : (backs : List Piece) (s : Spans) → longs (note_blocks options bytes known tab backs s) ≤ (longs (the s) + longs backs) + 2
  blocks-short backs Nothing = let a = longs-append backs (Feed ∷ []) in omega (arith, a)
  blocks-short backs (Span e f s behind) =
      let first = the (Span e f s Nothing) in
      let rest = blocks-short backs behind in
      let a = longs-append first (note_blocks options bytes known tab backs behind) in
      let split = joined-longs e f s behind in
      blocks-by (is_paragraph (block_of e.name) && not (has_block behind)) _ _ _
      (λ h. paragraph-longs backs e f s behind (and-left (is_paragraph (block_of e.name)) (not (has_block behind)) h)) (omega (arith, rest, a, split))

  -- ---- definitions

  abbrev pub here_of : Spans → ℕ
  here_of s = longs (the s)

  none-defined : (ks : List (List ℕ)) → sum (λ k. here_of (note_of k [])) ks ≡ 0
  none-defined [] = refl
  none-defined (k ∷ ks) = let h = none-defined ks in omega (arith, h)

  -- no definition is written twice
  pub defined-once : (ds : List (List ℕ × Spans)) (ks : List (List ℕ)) → AreDistinct ks → sum (λ k. here_of (note_of k ds)) ks ≤ total options bytes known tab ds
  defined-once [] ks h = let none = none-defined ks in omega (arith, none)
  defined-once (d ∷ ds) ks h =
      let rest = defined-once ds ks h in
      let more = once d.0 (here_of d.1) (λ k. here_of (note_of k (d ∷ ds))) (λ k. here_of (note_of k ds)) same other ks h in
      omega (arith, rest, more)
    where
      same : (k : List ℕ) → bytes_eq k d.0 ≡ true → here_of (note_of k (d ∷ ds)) ≤ here_of (note_of k ds) + here_of d.1
      same k e = let is = ap (λ b. here_of (cond b d.1 (note_of k ds))) e in omega (arith, is)

      other : (k : List ℕ) → bytes_eq k d.0 ≡ false → here_of (note_of k (d ∷ ds)) ≤ here_of (note_of k ds)
      other k e = let is = ap (λ b. here_of (cond b d.1 (note_of k ds))) e in omega (arith, is)
