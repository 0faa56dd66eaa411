-- Where prefixes of items and text stand: a prefix in an item, and text in some span. Leaf blocks have no other text.
use Rattle.std.proofs.Common.{◌≡◌, ◌∙◌, ℕ, zero, suc, ◌+◌, ◌-◌, Bool, true, false, List, [], ◌∷◌, ◌++◌, length, take, drop, Option, Some, None, refl, sym, ap, subst}
use Rattle.std.proofs.lemmas.Bool.{and_from, and_parts, cond_both, false≢true}
use Rattle.std.proofs.lemmas.List.{append_assoc}
use Rattle.std.specs.List.{flat_map, prefix_len}
use Rattle.std.specs.Prelude.{◌&&◌, ◌||◌, not, map, nat_lt}
use Rattle.markdown_base.specs.declared.event.Content.{Content}
use Rattle.markdown_base.specs.declared.event.Content.TheVariants as content
use Rattle.markdown_base.specs.declared.event.Event.{Event}
use Rattle.markdown_base.specs.declared.event.Kind.{Kind}
use Rattle.markdown_base.specs.declared.event.Kind.TheVariants.{Enter, Exit}
use Rattle.markdown_base.specs.declared.event.Name.{Name}
use Rattle.markdown_base.specs.declared.event.Name.TheVariants as name
use Rattle.markdown_base.specs.declared.event.Point.{Point}
use Rattle.markdown_base.specs.Events.{is_enter, same_name}
use Rattle.markdown_base.specs.Virtual.{Seat, end_after}
use Rattle.markdown_edits.specs.Links.{content_of}
use Rattle.mdconstructs_tables.specs.Breaks.{is_white}
use Rattle.mdconstructs_machines.specs.LineEvents.{ending_of, line_text}
use Rattle.mdconstructs_machines.specs.Spans.{event}
use Rattle.mdblock_leaf_blocks.specs.LeafBlocks.{Line, LeafBlock, atx_heading, blank_line, break_line, bytes_of, fenced_code, html_block, indented_code, paragraph, setext_heading}
use Rattle.mdblock_leaf_blocks.specs.LeafEvents.{Chunk, Mark, alone, block_span, body, break_marks, chunk_span, code_fenced_marks, code_marks, fence_marks, fenced_marks, heading_marks, html_marks, last_end, leaf_block_marks, leaf_marks, line_end, lines_marks, linked_from, sequence_marks, span_marks, string_chunk, text_chunk, text_marks, underline_inside, underline_marks, white}
use Rattle.mdblock_leaf_blocks.specs.LineKinds.{Fence, heading_text, indent, run, unindented}
use Rattle.mdblock_containers.specs.Skeleton.{chained_from}
use Rattle.mdgfm_literals.specs.Stretches.{is_plain}
use Rattle.mdgfm_tasks.specs.Awaits.{enters}
use Rattle.mddocument_rules.proofs.LeafBlocks.{no-texts}
use Rattle.mddocument_rules.proofs.Passes.{chunk_content}
use Rattle.mddocument_rules.proofs.Walk.{IfEnter, Walks, behind_one}
use Rattle.mddocument_rules.specs.Standing.{is_top}
use Rattle.mdgfm_sections.proofs.Items.{in_items, items_behind}

-- ---- where they stand

-- it is text, or is read as text, or as a string; chunks of blocks are not
abbrev pub is_of_text : Name → Option Content → Bool
is_of_text n None = is_plain n
is_of_text n (Some content.Content) = false
is_of_text n (Some content.Flow) = true
is_of_text n (Some content.String) = true
is_of_text n (Some content.Text) = true

-- text stands in some span
abbrev pub IsUnder : List Name → Name → Option Content → Type 0
IsUnder around n o = is_of_text n o ≡ true → is_top around ≡ false

abbrev pub Under : List Name → Event → Type 0
Under around e = IsUnder around e.name (content_of e)

-- ---- marks

abbrev pub events_of : List Mark → List Event
events_of ms = map (λ (m : Mark). m.0) ms

abbrev pub MarksUnder : List Name → List Mark → Type 0
MarksUnder around [] = Unit {0}
MarksUnder around ((e, c) ∷ ms) = IfEnter e.kind (IsUnder around e.name (chunk_content e c)) × MarksUnder (behind_one e.kind e.name around) ms

-- links change no name
pub linked-under : (i : ℕ) (around : List Name) (ms : List Mark) → MarksUnder around ms → Walks Under around (linked_from i ms)
linked-under i around [] h = tt
linked-under i around ((e, None) ∷ ms) h = (h.0, linked-under (i + 1) (behind_one e.kind e.name around) ms h.1)
linked-under i around ((e, Some c) ∷ ms) h = (h.0, linked-under (i + 1) (behind_one e.kind e.name around) ms h.1)

pub chained-under : (i : ℕ) (previous : Option ℕ) (around : List Name) (ms : List Mark) → MarksUnder around ms → Walks Under around (chained_from i previous ms)
chained-under i previous around [] h = tt
chained-under i previous around ((e, None) ∷ ms) h = (h.0, chained-under (suc i) previous (behind_one e.kind e.name around) ms h.1)
chained-under i previous around ((e, Some c) ∷ ms) h = (h.0, chained-under (suc i) (Some i) (behind_one e.kind e.name around) ms h.1)

pub chained-items : (i : ℕ) (previous : Option ℕ) (d : ℕ) (ms : List Mark) → in_items d (chained_from i previous ms) ≡ in_items d (events_of ms)
chained-items i previous d [] = refl
chained-items i previous d ((e, None) ∷ ms) = ap (λ b. (not (enters name.ListItemPrefix e) || nat_lt 0 d) && b) (chained-items (suc i) previous (items_behind d e) ms)
chained-items i previous d ((e, Some c) ∷ ms) = ap (λ b. (not (enters name.ListItemPrefix e) || nat_lt 0 d) && b) (chained-items (suc i) (Some i) (items_behind d e) ms)

pub item-both : (d : ℕ) (xs ys : List Mark) → in_items d (events_of xs) ≡ true → ((n : ℕ) → in_items n (events_of ys) ≡ true) → in_items d (events_of (xs ++ ys)) ≡ true
item-both d [] ys h k = k d
item-both d ((e, c) ∷ xs) ys h k =
    let first = not (enters name.ListItemPrefix e) || nat_lt 0 d in
    let both = and_parts first (in_items (items_behind d e) (events_of xs)) h in
    and_from first (in_items (items_behind d e) (events_of (xs ++ ys))) both.0 (item-both (items_behind d e) xs ys both.1 k)

under-both : (around : List Name) (xs ys : List Mark) → MarksUnder around xs → ((a : List Name) → MarksUnder a ys) → MarksUnder around (xs ++ ys)
under-both around [] ys h k = k around
under-both around ((e, c) ∷ xs) ys h k = (h.0, under-both (behind_one e.kind e.name around) xs ys h.1 k)

-- Marks of which prefixes stand in items, in however many they are; and marks of which text stands in spans whatever is around
pub record Items (ms : List Mark) : Type 0 where
  pub go : (d : ℕ) → in_items d (events_of ms) ≡ true

pub record Unders (ms : List Mark) : Type 0 where
  pub go : (around : List Name) → MarksUnder around ms

pub items-none : Items []
items-none = record { go = λ d. refl }

pub items-both : (xs ys : List Mark) → Items xs → Items ys → Items (xs ++ ys)
items-both xs ys h k = record { go = λ d. item-both d xs ys (h.go d) k.go }

pub unders-none : Unders []
unders-none = record { go = λ around. tt }

pub unders-both : (xs ys : List Mark) → Unders xs → Unders ys → Unders (xs ++ ys)
unders-both xs ys h k = record { go = λ around. under-both around xs ys (h.go around) k.go }

-- ---- one mark

if-enter : (k : Kind) (P : Type 0) → P → IfEnter k P
if-enter Enter P h = h
if-enter Exit P h = tt

abbrev pub IsNoPrefix : Name → Type 0
IsNoPrefix n = same_name n name.ListItemPrefix ≡ false

abbrev pub IsNoText : Name → Type 0
IsNoText n = is_plain n ≡ false

-- an event of such a name is in its place
pub no-prefix : (e : Event) (d : ℕ) → IsNoPrefix e.name → (not (enters name.ListItemPrefix e) || nat_lt 0 d) ≡ true
no-prefix e d h = ap (λ t. not (is_enter e.kind && t) || nat_lt 0 d) h ∙ by (is_enter e.kind)
  where
    by : (t : Bool) → (not (t && false) || nat_lt 0 d) ≡ true
    by true = refl
    by false = refl

pub no-text : (n : Name) → IsNoText n → (around : List Name) → IsUnder around n None
no-text n h around is = absurd (false≢true (sym h ∙ is))

module _ (bytes : List ℕ) where
  pub items-mark : (k : Kind) (n : Name) (p : Point) → IsNoPrefix n → Items ((event bytes k n p, None) ∷ [])
  items-mark k n p h = record { go = λ d. and_from (not (enters name.ListItemPrefix (event bytes k n p)) || nat_lt 0 d) true (no-prefix (event bytes k n p) d h) refl }

  pub unders-mark : (k : Kind) (n : Name) (p : Point) → IsNoText n → Unders ((event bytes k n p, None) ∷ [])
  unders-mark k n p h = record { go = λ around. (if-enter k (IsUnder around n None) (no-text n h around), tt) }

  pub items-exit : (n : Name) (p : Point) → Items ((event bytes Exit n p, None) ∷ [])
  items-exit n p = record { go = λ d. refl }

  pub unders-exit : (n : Name) (p : Point) → Unders ((event bytes Exit n p, None) ∷ [])
  unders-exit n p = record { go = λ around. (tt, tt) }

  -- ---- spans

  pub items-span : (n : Name) (seats : List Seat) (inside : List Mark) → IsNoPrefix n → Items inside → Items (span_marks bytes n seats inside)
  items-span n [] inside f h = h
  items-span n (s ∷ ss) inside f h = items-both ((event bytes Enter n s.point, None) ∷ []) (inside ++ _ ∷ []) (items-mark Enter n s.point f) (items-both inside (_ ∷ []) h (items-exit n (end_after s.end ss)))

  pub items-chunk : (c : Chunk) (seats : List Seat) → Items (chunk_span bytes (Some c) name.Data seats [])
  items-chunk c [] = items-none
  items-chunk c (s ∷ ss) = record { go = λ d. refl }

  pub unders-span : (n : Name) (seats : List Seat) (inside : List Mark) → IsNoText n → Unders inside → Unders (span_marks bytes n seats inside)
  unders-span n [] inside f h = h
  unders-span n (s ∷ ss) inside f h = unders-both ((event bytes Enter n s.point, None) ∷ []) (inside ++ _ ∷ []) (unders-mark Enter n s.point f) (unders-both inside (_ ∷ []) h (unders-exit n (end_after s.end ss)))

  pub unders-leaf : (n : Name) (seats : List Seat) → IsNoText n → Unders (leaf_marks bytes n seats)
  unders-leaf n seats f = unders-span n seats [] f unders-none

  pub unders-white : (seats : List Seat) → Unders (white bytes seats)
  unders-white seats = unders-leaf name.SpaceOrTab seats refl

  -- chunks of blocks
  pub unders-chunk : (c : Chunk) (seats : List Seat) → c.content ≡ content.Content → Unders (chunk_span bytes (Some c) name.Data seats [])
  unders-chunk c [] e = unders-none
  unders-chunk c (s ∷ ss) e = record { go = λ around. ((λ is. absurd (false≢true (sym (ap (λ x. is_of_text name.Data (Some x)) e) ∙ is))), (tt, tt)) }

  -- ---- marks that stand in spans: they leave what is around them as it is
  pub record Within (ms : List Mark) : Type 0 where
    pub passes : (around : List Name) (ys : List Mark) → is_top around ≡ false → MarksUnder around ys → MarksUnder around (ms ++ ys)

  pub within-none : Within []
  within-none = record { passes = λ around ys t w. w }

  pub within-both : (xs ys : List Mark) → Within xs → Within ys → Within (xs ++ ys)
  within-both xs ys h k =
      record { passes = λ around zs t w. subst (MarksUnder around) (sym (append_assoc xs ys zs)) (h.passes around (ys ++ zs) t (k.passes around zs t w)) }

  pub within-span : (o : Option Chunk) (n : Name) (seats : List Seat) (inside : List Mark) → Within inside → Within (chunk_span bytes o n seats inside)
  within-span o n [] inside h = h
  within-span o n (s ∷ ss) inside h = record {
    passes = λ around ys t w.
        let exit : Mark = (event bytes Exit n (end_after s.end ss), None) in
        ((λ is. t), subst (MarksUnder (n ∷ around)) (sym (append_assoc inside (exit ∷ []) ys)) (h.passes (n ∷ around) (exit ∷ ys) refl (tt, w)));
  }

  -- text in a span; where that is over nothing, there is no text
  pub unders-over : (n : Name) (seats : List Seat) (inside : List Mark) → IsNoText n → Within inside → (seats ≡ [] → Unders inside) → Unders (span_marks bytes n seats inside)
  unders-over n [] inside f h k = k refl
  unders-over n (s ∷ ss) inside f h k = record { go = λ around. (no-text n f around, h.passes (n ∷ around) (_ ∷ []) refl (tt, tt)) }

  -- ---- leaf blocks

  line-under : (line : Line) → Unders (line_end bytes line)
  line-under line = unders-leaf name.LineEnding (ending_of line) refl

  last-under : (lines : List Line) → Unders (last_end bytes lines)
  last-under [] = unders-none
  last-under (line ∷ []) = line-under line
  last-under (line ∷ next ∷ lines) = last-under (next ∷ lines)

  sequence-under : (n : Name) (size : ℕ) (seats : List Seat) → IsNoText n → Unders (sequence_marks bytes n size seats)
  sequence-under n size seats f = unders-both (white bytes _) _ (unders-white _) (unders-both (leaf_marks bytes n _) (white bytes _) (unders-leaf n _ f) (unders-white _))

  break-under : (bound : ℕ) (seats : List Seat) → Unders (break_marks bytes bound seats)
  break-under zero seats = unders-none
  break-under (suc bound) seats = unders-both (white bytes _) _ (unders-white _) (unders-both (leaf_marks bytes name.ThematicBreakSequence _) _ (unders-leaf name.ThematicBreakSequence _ refl) (break-under bound _))

  -- a chunk that is all of a span
  chunk-under : (c : Option Chunk) (n : Name) (seats : List Seat) → IsNoText n → Unders (span_marks bytes n seats (chunk_span bytes c name.Data seats []))
  chunk-under c n seats f =
      unders-over n seats (chunk_span bytes c name.Data seats []) f (within-span c name.Data seats [] within-none) (λ e. subst (λ (s : List Seat). Unders (chunk_span bytes c name.Data s [])) (sym e) unders-none)

  heading-under : (seats : List Seat) → Unders (heading_marks bytes seats)
  heading-under seats =
      let t = bytes_of seats in
      let signs = indent t + run 35 (unindented t) in
      let start = signs + indent (drop signs t) in
      let end = start + length (heading_text (drop start t)) in
      let text = take (end - start) (drop start seats) in
      unders-both (sequence_marks bytes name.HeadingAtxSequence (run 35 (unindented t)) (take start seats)) _ (sequence-under name.HeadingAtxSequence (run 35 (unindented t)) (take start seats) refl)
      (unders-both (span_marks bytes name.HeadingAtxText text (text_chunk bytes text)) (sequence_marks bytes name.HeadingAtxSequence (run 35 (unindented (drop end t))) (drop end seats))
      (chunk-under (alone content.Text) name.HeadingAtxText text refl) (sequence-under name.HeadingAtxSequence (run 35 (unindented (drop end t))) (drop end seats) refl))

  fence-under : (size : ℕ) (seats : List Seat) → Unders (fence_marks bytes size seats)
  fence-under size seats =
      let t = bytes_of seats in
      let signs = indent t + size in
      let start = signs + indent (drop signs t) in
      let word = start + prefix_len (λ c. not (is_white c)) (drop start t) in
      let rest = word + indent (drop word t) in
      let info = take (word - start) (drop start seats) in
      let meta = drop rest seats in
      unders-span name.CodeFencedFence seats _ refl
      (unders-both (sequence_marks bytes name.CodeFencedFenceSequence size (take start seats)) _ (sequence-under name.CodeFencedFenceSequence size (take start seats) refl)
      (unders-both (span_marks bytes name.CodeFencedFenceInfo info (string_chunk bytes info)) _ (chunk-under (alone content.String) name.CodeFencedFenceInfo info refl)
      (unders-both (white bytes (take (rest - word) (drop word seats))) (span_marks bytes name.CodeFencedFenceMeta meta (string_chunk bytes meta)) (unders-white (take (rest - word) (drop word seats)))
      (chunk-under (alone content.String) name.CodeFencedFenceMeta meta refl))))

  code-under : (most : ℕ) (seats : List Seat) → Unders (code_marks bytes most seats)
  code-under most seats = unders-both (white bytes _) (leaf_marks bytes name.CodeFlowChunk _) (unders-white _) (unders-leaf name.CodeFlowChunk _ refl)

  lines-under : (marks : List Seat → List Mark) → ((seats : List Seat) → Unders (marks seats)) → (is_open : Bool) (lines : List Line) → Unders (lines_marks bytes marks is_open lines)
  lines-under marks h is_open [] = unders-none
  lines-under marks h is_open (line ∷ []) = unders-both (marks (line_text line)) _ (h (line_text line)) (cond_both is_open (line_end bytes line) [] Unders (λ e. line-under line) (λ e. unders-none))
  lines-under marks h is_open (line ∷ next ∷ lines) = unders-both (marks (line_text line)) _ (h (line_text line)) (unders-both (line_end bytes line) _ (line-under line) (lines-under marks h is_open (next ∷ lines)))

  fenced-under : (f : Fence) (is_closed : Bool) (lines : List Line) → Unders (fenced_marks bytes f is_closed lines)
  fenced-under f is_closed [] = unders-none
  fenced-under f is_closed (line ∷ []) =
      cond_both is_closed _ _ Unders (λ e. unders-span name.CodeFencedFence (line_text line) _ refl (sequence-under name.CodeFencedFenceSequence _ (line_text line) refl))
      (λ e. unders-both (code_marks bytes f.indent (line_text line)) (line_end bytes line) (code-under f.indent (line_text line)) (line-under line))
  fenced-under f is_closed (line ∷ next ∷ lines) =
      unders-both (code_marks bytes f.indent (line_text line)) _ (code-under f.indent (line_text line)) (unders-both (line_end bytes line) _ (line-under line) (fenced-under f is_closed (next ∷ lines)))

  code-fenced-under : (f : Fence) (is_closed : Bool) (lines : List Line) → Unders (code_fenced_marks bytes f is_closed lines)
  code-fenced-under f is_closed [] = unders-none
  code-fenced-under f is_closed (line ∷ []) = unders-both (fence_marks bytes f.size (line_text line)) (line_end bytes line) (fence-under f.size (line_text line)) (line-under line)
  code-fenced-under f is_closed (line ∷ next ∷ lines) =
      unders-both (fence_marks bytes f.size (line_text line)) _ (fence-under f.size (line_text line)) (unders-both (line_end bytes line) _ (line-under line) (fenced-under f is_closed (next ∷ lines)))

  html-under : (is_open : Bool) (lines : List Line) → Unders (html_marks bytes is_open lines)
  html-under is_open [] = unders-none
  html-under is_open (line ∷ lines) =
      let columns = indent (bytes_of (line_text line)) in
      unders-both (leaf_marks bytes name.HtmlFlowData (take columns line)) _ (unders-leaf name.HtmlFlowData (take columns line) refl)
      (lines-under (leaf_marks bytes name.HtmlFlowData) (λ seats. unders-leaf name.HtmlFlowData seats refl) is_open (drop columns line ∷ lines))

  texts-within : (has_previous : Bool) (lines : List Line) → Within (text_marks bytes has_previous lines)
  texts-within has_previous [] = within-none
  texts-within has_previous (line ∷ []) = within-span _ name.Data (line_text line) [] within-none
  texts-within has_previous (line ∷ next ∷ lines) = within-both (chunk_span bytes _ name.Data line []) (text_marks bytes true (next ∷ lines)) (within-span _ name.Data line [] within-none) (texts-within true (next ∷ lines))

  text-under : (n : Name) (lines : List Line) → IsNoText n → Unders (span_marks bytes n (body lines) (text_marks bytes false lines))
  text-under n lines f = unders-over n (body lines) (text_marks bytes false lines) f (texts-within false lines) (λ e. subst Unders (sym (no-texts bytes false lines e)) unders-none)

  block-under : (n : Name) (is_open : Bool) (lines : List Line) (inside : List Mark) → IsNoText n → Unders inside → Unders (block_span bytes n is_open lines inside)
  block-under n false lines inside f h = unders-both (span_marks bytes n (body lines) inside) (last_end bytes lines) (unders-span n (body lines) inside f h) (last-under lines)
  block-under n true lines inside f h = unders-span n _ inside f h

  leaf-under : (block : LeafBlock) → Unders (leaf_block_marks bytes block)
  leaf-under (blank_line line) = unders-both (white bytes (line_text line)) _ (unders-white (line_text line)) (unders-leaf name.BlankLineEnding (ending_of line) refl)
  leaf-under (break_line line) = block-under name.ThematicBreak false (line ∷ []) _ refl (break-under _ (line_text line))
  leaf-under (atx_heading line) = block-under name.HeadingAtx false (line ∷ []) _ refl (heading-under (line_text line))
  leaf-under (paragraph lines) = unders-both (span_marks bytes name.Paragraph (body lines) (text_marks bytes false lines)) (last_end bytes lines) (text-under name.Paragraph lines refl) (last-under lines)
  leaf-under (setext_heading rank lines underline) =
      block-under name.HeadingSetext false (lines ++ underline ∷ []) _ refl
      (unders-both (span_marks bytes name.HeadingSetextText (body lines) (text_marks bytes false lines)) _ (text-under name.HeadingSetextText lines refl)
      (unders-both (last_end bytes lines) (underline_marks bytes (line_text underline)) (last-under lines)
      (unders-span name.HeadingSetextUnderline (line_text underline) (underline_inside bytes (line_text underline)) refl (sequence-under name.HeadingSetextUnderlineSequence _ (line_text underline) refl))))
  leaf-under (indented_code lines) = block-under name.CodeIndented false lines _ refl (lines-under (code_marks bytes 4) (code-under 4) false lines)
  leaf-under (fenced_code f is_closed lines) = block-under name.CodeFenced (not is_closed) lines _ refl (code-fenced-under f is_closed lines)
  leaf-under (html_block kind is_closed lines) = block-under name.HtmlFlow (not is_closed) lines _ refl (html-under (not is_closed) lines)

  pub leaf-blocks-under : (blocks : List LeafBlock) → Unders (flat_map (leaf_block_marks bytes) blocks)
  leaf-blocks-under [] = unders-none
  leaf-blocks-under (b ∷ bs) = unders-both (leaf_block_marks bytes b) (flat_map (leaf_block_marks bytes) bs) (leaf-under b) (leaf-blocks-under bs)
