-- The edits of setext headings make the events of leaf blocks.
use Rattle.mdblock_leaf_blocks.proofs.Prelude.{◌≡◌, ℕ, ◌+◌, ◌≤◌, List, [], ◌∷◌, ◌++◌, Bool, true, false, Some, None, append_assoc, map, refl, sym, ap, ◌∙◌, subst, arith, ◌==◌, AllByRecursion, map-append, end-after-append, Content, Enter, Exit, Seat, end_after, line_text, lines_in, event, heading_told, paragraph_told, underline_told, EditsMakeBlocks, block_told, blocks_told, flow_told, Line, LeafBlock, blank_line, break_line, atx_heading, paragraph, setext_heading, indented_code, fenced_code, html_block, leaf_blocks, Chunk, Mark, body, block_span, chunk_span, last_end, leaf_block_marks, leaf_blocks_marks, linked_from, span_marks, text_marks, underline_inside, underline_marks, ChunksStand, TwoAreKept, ToldMark, as_it_is, under_names, behind_edits}
use Rattle.markdown_base.specs.declared.event.Name.{Name}
use Rattle.markdown_base.specs.declared.event.Name.TheVariants as name
use Rattle.mdblock_leaf_blocks.proofs.Marks.FullBlocks.{IsFull, StartsText, leaf-blocks-full}
use Rattle.mdblock_leaf_blocks.proofs.Marks.MarkChunks.{IsSingle, AreSingle, single-last, single-block-marks, single-underline}
use Rattle.mdblock_leaf_blocks.proofs.Marks.MarkLists.{behind-append, kept-behind}
use Rattle.mdblock_leaf_blocks.proofs.Marks.ToldEdits.{edits-give-names}

-- ---- chunks stand

more-kept : (j k : ℕ) (ts : List ToldMark) → j ≤ k → ChunksStand j ts → ChunksStand k ts
more-kept j k [] l h = tt
more-kept j k (as_it_is (e, None) ∷ ts) l h = (h.0, more-kept (j + 1) (k + 1) ts (omega (arith, l)) h.1)
more-kept j k (as_it_is (e, Some chunk) ∷ ts) l h = ((λ is. let two = h.0 is in omega (arith, two, l)), h.1, more-kept (j + 1) (k + 1) ts (omega (arith, l)) h.2)
more-kept j k (under_names e names ∷ ts) l h = h

two-longer : (xs ys : List ToldMark) → TwoAreKept xs → TwoAreKept (xs ++ ys)
two-longer (as_it_is m ∷ as_it_is n ∷ xs) ys h = tt
two-longer xs ys h = absurd h

stand-both : (k : ℕ) (xs ys : List ToldMark) → ChunksStand k xs → ChunksStand 0 ys → ChunksStand k (xs ++ ys)
stand-both k [] ys h there = more-kept 0 k ys (omega arith) there
stand-both k (as_it_is (e, None) ∷ xs) ys h there = (h.0, stand-both (k + 1) xs ys h.1 there)
stand-both k (as_it_is (e, Some chunk) ∷ xs) ys h there = (h.0, (λ is. two-longer xs ys (h.1 is)), stand-both (k + 1) xs ys h.2 there)
stand-both k (under_names e names ∷ xs) ys h there = stand-both 0 xs ys h there

-- chunks of each content
abbrev AnyContent : Content → Type 0
AnyContent c = Unit {0}

stand-single : (k : ℕ) (ms : List Mark) → AllByRecursion (IsSingle AnyContent) ms → ChunksStand k (map as_it_is ms)
stand-single k [] h = tt
stand-single k ((e, None) ∷ ms) h = (h.0, stand-single (k + 1) ms h.1)
stand-single k ((e, Some chunk) ∷ ms) h =
    let previous = h.0.1 in let next = h.0.2 in ((λ is. absurd (let both : true ≡ false = sym is ∙ previous in cc)), (λ is. absurd (let both : true ≡ false = sym is ∙ next in cc)), stand-single (k + 1) ms h.1)

stand-one : (ms : List Mark) → AreSingle AnyContent ms → ChunksStand 0 (map as_it_is ms)
stand-one ms h = stand-single 0 ms h.each

module _ (bytes : List ℕ) where
  -- lines of text have a chunk each
  two-of-text : (m : Mark) (line : Line) (lines : List Line) → StartsText line → TwoAreKept (as_it_is m ∷ map as_it_is (text_marks bytes true (line ∷ lines)))
  two-of-text m [] lines h = absurd h
  two-of-text m (s ∷ ss) [] h = rw h tt
  two-of-text m (s ∷ ss) (next ∷ lines) h = tt

  stand-last-text : (k : ℕ) (chunk : Chunk) (seats : List Seat) → (chunk.has_previous ≡ true → 2 ≤ k) → chunk.has_next ≡ false → ChunksStand k (map as_it_is (chunk_span bytes (Some chunk) name.Data seats []))
  stand-last-text k chunk [] previous next = tt
  stand-last-text k chunk (s ∷ ss) previous next = (previous, (λ is. absurd (let both : true ≡ false = sym is ∙ next in cc)), (refl, tt))

  stand-text : (k : ℕ) (has_previous : Bool) (lines : List Line) → (has_previous ≡ true → 2 ≤ k) → AllByRecursion StartsText lines → ChunksStand k (map as_it_is (text_marks bytes has_previous lines))
  stand-text k has_previous [] previous h = tt
  stand-text k has_previous (line ∷ []) previous h = stand-last-text k _ (line_text line) previous refl
  stand-text k has_previous ([] ∷ next ∷ lines) previous h = absurd h.0
  stand-text k has_previous ((s ∷ ss) ∷ next ∷ lines) previous h = (previous, (λ is. two-of-text (event bytes Exit name.Data (end_after s.end ss), None) next lines h.1.0), (refl, stand-text (k + 1 + 1) true (next ∷ lines) (λ is. omega arith) h.1))

  stand-span : (n : Name) (seats : List Seat) (inside : List Mark) → ChunksStand 0 (map as_it_is inside) → ChunksStand 0 (map as_it_is (span_marks bytes n seats inside))
  stand-span n [] inside h = h
  stand-span n (s ∷ ss) inside h =
      let exit : Mark = (event bytes Exit n (end_after s.end ss), None) in
      (refl, more-kept 0 (0 + 1) (map as_it_is (inside ++ exit ∷ [])) (omega arith) (subst (ChunksStand 0) (sym (map-append as_it_is inside (exit ∷ []))) (stand-both 0 (map as_it_is inside) (as_it_is exit ∷ []) h (refl, tt))))

  stand-paragraph : (lines : List Line) → AllByRecursion StartsText lines → ChunksStand 0 (map as_it_is (block_span bytes name.Paragraph false lines (text_marks bytes false lines)))
  stand-paragraph lines h =
      let span = span_marks bytes name.Paragraph (body lines) (text_marks bytes false lines) in
      subst (ChunksStand 0) (sym (map-append as_it_is span (last_end bytes lines)))
      (stand-both 0 (map as_it_is span) (map as_it_is (last_end bytes lines)) (stand-span name.Paragraph (body lines) _ (stand-text 0 false lines (λ is. absurd (cc)) h)) (stand-one _ (single-last AnyContent bytes lines)))

  -- ---- a setext heading
  stand-told-paragraph : (seats : List Seat) (inside : List ToldMark) → ChunksStand 0 inside → ChunksStand 0 (paragraph_told bytes seats inside)
  stand-told-paragraph [] inside h = h
  stand-told-paragraph (s ∷ ss) inside h = stand-both 0 inside _ h tt

  stand-told-underline : (seats : List Seat) (inside : List Mark) → AreSingle AnyContent inside → ChunksStand 0 (underline_told bytes seats inside)
  stand-told-underline [] inside h = stand-one inside h
  stand-told-underline (s ∷ ss) inside h =
      let last = under_names (event bytes Exit name.HeadingSetextUnderline (end_after s.end ss)) (name.HeadingSetextUnderline ∷ name.HeadingSetext ∷ []) in
      (refl, more-kept 0 (0 + 1) (map as_it_is inside ++ last ∷ []) (omega arith) (stand-both 0 (map as_it_is inside) (last ∷ []) (stand-one inside h) tt))

  stand-heading : (rank : ℕ) (lines : List Line) (below : Line) → AllByRecursion StartsText lines → ChunksStand 0 (block_told bytes (setext_heading rank lines below))
  stand-heading rank lines below h =
      let paragraph = paragraph_told bytes (body lines) (map as_it_is (text_marks bytes false lines)) in
      let ends = map as_it_is (last_end bytes lines) in
      let under = underline_told bytes (line_text below) (underline_inside bytes (line_text below)) in
      stand-both 0 (heading_told bytes lines below) _
      (stand-both 0 paragraph (ends ++ under) (stand-told-paragraph (body lines) _ (stand-text 0 false lines (λ is. absurd (cc)) h))
      (stand-both 0 ends under (stand-one _ (single-last AnyContent bytes lines)) (stand-told-underline (line_text below) _ (single-underline AnyContent bytes (line_text below)))))
      (stand-one _ (single-last AnyContent bytes (below ∷ [])))

  stand-block : (block : LeafBlock) → IsFull block → ChunksStand 0 (block_told bytes block)
  stand-block (paragraph lines) h = stand-paragraph lines h
  stand-block (setext_heading rank lines below) h = stand-heading rank lines below h.0
  stand-block (blank_line line) h = stand-one _ (single-block-marks AnyContent bytes (blank_line line) tt)
  stand-block (break_line line) h = stand-one _ (single-block-marks AnyContent bytes (break_line line) tt)
  stand-block (atx_heading line) h = stand-one _ (single-block-marks AnyContent bytes (atx_heading line) tt)
  stand-block (indented_code lines) h = stand-one _ (single-block-marks AnyContent bytes (indented_code lines) tt)
  stand-block (fenced_code f is_closed lines) h = stand-one _ (single-block-marks AnyContent bytes (fenced_code f is_closed lines) tt)
  stand-block (html_block kind is_closed lines) h = stand-one _ (single-block-marks AnyContent bytes (html_block kind is_closed lines) tt)

  pub stand-blocks : (blocks : List LeafBlock) → AllByRecursion IsFull blocks → ChunksStand 0 (blocks_told bytes blocks)
  stand-blocks [] h = tt
  stand-blocks (block ∷ blocks) h = stand-both 0 (block_told bytes block) (blocks_told bytes blocks) (stand-block block h.0) (stand-blocks blocks h.1)

  -- ---- marks behind the edits
  -- the virtual bytes of lines and of one line more, and their first
  body-longer : (line : Line) (lines : List Line) (below : Line) → StartsText line
      → (s : Seat) × (ss : List Seat) × (rest : List Seat) × (body (line ∷ lines) ≡ s ∷ ss) × (body ((line ∷ lines) ++ below ∷ []) ≡ s ∷ (rest ++ line_text below))
  body-longer [] lines below h = absurd h
  body-longer (s ∷ ss) [] below h = (s, line_text ss, ss, rw h refl, refl)
  body-longer (s ∷ ss) (next ∷ lines) below h =
      let (rest, is) = body-more next lines in
      (s, ss ++ body (next ∷ lines), ss ++ rest, refl, ap (λ l. s ∷ (ss ++ l)) is ∙ ap (λ l. s ∷ l) (sym (append_assoc ss rest (line_text below))))
    where
      body-more : (next : Line) (lines : List Line) → (rest : List Seat) × (body ((next ∷ lines) ++ below ∷ []) ≡ rest ++ line_text below)
      body-more next [] = (next, refl)
      body-more next (line ∷ lines) = let (rest, is) = body-more line lines in (next ++ rest, ap (λ l. next ++ l) is ∙ sym (append_assoc next rest (line_text below)))

  last-longer : (lines : List Line) (below : Line) → last_end bytes (lines ++ below ∷ []) ≡ last_end bytes (below ∷ [])
  last-longer [] below = refl
  last-longer (line ∷ []) below = refl
  last-longer (line ∷ next ∷ lines) below = last-longer (next ∷ lines) below

  behind-then : (ms : List Mark) (ts : List ToldMark) → behind_edits (map as_it_is ms ++ ts) ≡ ms ++ behind_edits ts
  behind-then ms ts = behind-append (map as_it_is ms) ts ∙ ap (λ ns. ns ++ behind_edits ts) (kept-behind ms)

  -- what stands in a heading's span, one mark after another
  in-heading : (a b c : List Mark) (x u y z : Mark) → ((a ++ x ∷ []) ++ (b ++ (u ∷ (c ++ y ∷ [])))) ++ z ∷ [] ≡ a ++ (x ∷ (b ++ (u ∷ (c ++ (y ∷ z ∷ [])))))
  in-heading a b c x u y z =
      append_assoc (a ++ x ∷ []) (b ++ (u ∷ (c ++ y ∷ []))) (z ∷ []) ∙ append_assoc a (x ∷ []) ((b ++ (u ∷ (c ++ y ∷ []))) ++ z ∷ [])
      ∙ ap (λ l. a ++ (x ∷ l)) (append_assoc b (u ∷ (c ++ y ∷ [])) (z ∷ []) ∙ ap (λ l. b ++ (u ∷ l)) (append_assoc c (y ∷ []) (z ∷ [])))

  behind-heading : (s : Seat) (ss rest : List Seat) (u : Seat) (us : List Seat) (inside ends under : List Mark)
      → behind_edits (paragraph_told bytes (s ∷ ss) (map as_it_is inside) ++ (map as_it_is ends ++ underline_told bytes (u ∷ us) under))
      ≡ span_marks bytes name.HeadingSetext (s ∷ (rest ++ u ∷ us)) (span_marks bytes name.HeadingSetextText (s ∷ ss) inside ++ (ends ++ span_marks bytes name.HeadingSetextUnderline (u ∷ us) under))
  behind-heading s ss rest u us inside ends under =
      let first = under_names (event bytes Exit name.Paragraph (end_after s.end ss)) (name.HeadingSetextText ∷ []) in
      let last = under_names (event bytes Exit name.HeadingSetextUnderline (end_after u.end us)) (name.HeadingSetextUnderline ∷ name.HeadingSetext ∷ []) in
      let below : List ToldMark = as_it_is (event bytes Enter name.HeadingSetextUnderline u.point, None) ∷ (map as_it_is under ++ last ∷ []) in
      let x : Mark = (event bytes Exit name.HeadingSetextText (end_after s.end ss), None) in
      let v : Mark = (event bytes Enter name.HeadingSetextUnderline u.point, None) in
      let y : Mark = (event bytes Exit name.HeadingSetextUnderline (end_after u.end us), None) in
      let z : Mark = (event bytes Exit name.HeadingSetext (end_after u.end us), None) in
      let inner : behind_edits ((map as_it_is inside ++ first ∷ []) ++ (map as_it_is ends ++ below)) ≡ inside ++ (x ∷ (ends ++ (v ∷ (under ++ (y ∷ z ∷ []))))) =
      ap behind_edits (append_assoc (map as_it_is inside) (first ∷ []) (map as_it_is ends ++ below)) ∙ behind-then inside (first ∷ (map as_it_is ends ++ below))
      ∙ ap (λ l. inside ++ (x ∷ l)) (behind-then ends below ∙ ap (λ l. ends ++ (v ∷ l)) (behind-then under (last ∷ []))) in
      let enter : Mark = (event bytes Enter name.HeadingSetext s.point, None) in
      let text : Mark = (event bytes Enter name.HeadingSetextText s.point, None) in
      let all = ap (λ l. enter ∷ text ∷ l) (inner ∙ sym (in-heading inside ends under x v y z)) in
      subst (λ q. behind_edits (paragraph_told bytes (s ∷ ss) (map as_it_is inside) ++ (map as_it_is ends ++ underline_told bytes (u ∷ us) under))
      ≡ enter ∷ ((text ∷ (inside ++ x ∷ [])) ++ (ends ++ (v ∷ (under ++ y ∷ [])))) ++ (event bytes Exit name.HeadingSetext q, None) ∷ [])
      (sym (end-after-append s.end rest (u ∷ us))) all

  behind-found : (seats all under_seats : List Seat) (s : Seat) (ss rest : List Seat) (u : Seat) (us : List Seat) (inside ends under : List Mark) → seats ≡ s ∷ ss → under_seats ≡ u ∷ us → all ≡ s ∷ (rest ++ under_seats)
      → behind_edits (paragraph_told bytes seats (map as_it_is inside) ++ (map as_it_is ends ++ underline_told bytes under_seats under))
      ≡ span_marks bytes name.HeadingSetext all (span_marks bytes name.HeadingSetextText seats inside ++ (ends ++ span_marks bytes name.HeadingSetextUnderline under_seats under))
  behind-found seats all under_seats s ss rest u us inside ends under short first long = rw (long, first, short) (behind-heading s ss rest u us inside ends under)

  text-first : (s : Seat) (ss : List Seat) → (s.byte == 10) ≡ false → line_text (s ∷ ss) ≡ s ∷ line_text ss
  text-first s ss h = rw h refl

  behind-setext : (rank : ℕ) (lines : List Line) (below : Line) → IsFull (setext_heading rank lines below) → behind_edits (block_told bytes (setext_heading rank lines below)) ≡ leaf_block_marks bytes (setext_heading rank lines below)
  behind-setext rank [] below h = absurd (let some = h.1 in omega (arith, some))
  behind-setext rank (line ∷ lines) [] h = absurd h.2
  behind-setext rank (line ∷ lines) (u ∷ us) h =
      let (s, ss, rest, short, long) = body-longer line lines (u ∷ us) h.0.0 in
      let all = body ((line ∷ lines) ++ (u ∷ us) ∷ []) in
      let texts = text_marks bytes false (line ∷ lines) in
      let ends = last_end bytes (line ∷ lines) in
      let found = behind-found (body (line ∷ lines)) all (line_text (u ∷ us)) s ss rest u (line_text us) texts ends (underline_inside bytes (line_text (u ∷ us))) short (text-first u us h.2) long in
      let last = last_end bytes ((u ∷ us) ∷ []) in
      behind-append (heading_told bytes (line ∷ lines) (u ∷ us)) (map as_it_is last)
      ∙ ap (λ ms. ms ++ behind_edits (map as_it_is last)) found
      ∙ ap (λ ms. span_marks bytes name.HeadingSetext all (span_marks bytes name.HeadingSetextText (body (line ∷ lines)) texts ++ (ends ++ underline_marks bytes (line_text (u ∷ us)))) ++ ms)
      (kept-behind last ∙ sym (last-longer (line ∷ lines) (u ∷ us)))

  behind-block : (block : LeafBlock) → IsFull block → behind_edits (block_told bytes block) ≡ leaf_block_marks bytes block
  behind-block (setext_heading rank lines below) h = behind-setext rank lines below h
  behind-block block h = kept-behind _

  pub behind-blocks : (blocks : List LeafBlock) → AllByRecursion IsFull blocks → behind_edits (blocks_told bytes blocks) ≡ leaf_blocks_marks bytes blocks
  behind-blocks [] h = refl
  behind-blocks (block ∷ blocks) h = behind-append (block_told bytes block) (blocks_told bytes blocks) ∙ ap (λ ms. ms ++ behind_edits (blocks_told bytes blocks)) (behind-block block h.0) ∙ ap (λ ms. leaf_block_marks bytes block ++ ms) (behind-blocks blocks h.1)

pub edits-make-blocks : EditsMakeBlocks
edits-make-blocks = record {
  stand = λ on bytes seats. stand-blocks bytes (leaf_blocks on (lines_in seats)) (leaf-blocks-full on seats);
  marks = λ on bytes seats. behind-blocks bytes (leaf_blocks on (lines_in seats)) (leaf-blocks-full on seats);
  events = λ on bytes seats.
      let blocks = leaf_blocks on (lines_in seats) in
      let full = leaf-blocks-full on seats in
      edits-give-names (flow_told on bytes seats) (stand-blocks bytes blocks full) ∙ ap (linked_from 0) (behind-blocks bytes blocks full);
}
