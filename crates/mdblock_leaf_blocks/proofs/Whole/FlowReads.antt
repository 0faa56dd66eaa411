-- A text is read line by line and block by block, as its leaf blocks are told.
use Rattle.mdblock_leaf_blocks.proofs.Prelude.{◌≡◌, ℕ, zero, suc, ◌+◌, ◌^◌, ◌-◌, ◌<◌, ◌≤◌, ◌&&◌, List, [], ◌∷◌, ◌++◌, Bool, cond, inl, inr, length, map, drop, refl, sym, ap, ◌∙◌, subst, arith, append_assoc, append-nil, length-drop, None, Option, Some, All-cons, All-contains, All-nil, AllByRecursion, Constructs, Next, Name, Retry, Ok, ContentDefinitionBefore, FlowBeforeContent, FlowBlankLineAfter, FlowStart, Seat, Edit, with_local, Configuration, start_configuration, EndsIn, Reading, Given, Text, table_step, all_of, ending_of, line_text, lines_in, lines-are-all, flow, AreLines, IsAtLines, Line, LeafBlock, block_of_kind, blocks_in, bytes_of, text_of, LineKind, indented, is_thematic_break, line_kind, underline_rank, unindented, SeenKind, as_seen, seen_kind, underline, block_told, blocks_told, flow_told, FlowIsRead, IsToldAs, leaf_marks, white, Finds, ToldMark, as_it_is}
use Rattle.markdown_base.specs.declared.event.Name.TheVariants as name
use Rattle.mdblock_leaf_blocks.specs.LineKinds.{blank, heading, fence, html, thematic_break, text}
use Rattle.mdblock_leaf_blocks.proofs.Lines.{cut-line, lines-dropped, lines-in-are, says, underline-kind}
use Rattle.mdblock_leaf_blocks.proofs.Marks.Cuts.{cut}
use Rattle.mdblock_leaf_blocks.proofs.Whole.LineBlocks.{AllAreRead, BlockTold, blank-line-told, break-told, content-told, fenced-told, heading-told, html-told, indented-told, underline-told}
use Rattle.mdblock_leaf_blocks.proofs.Whole.LineBreaks.{blank-told}
use Rattle.mdblock_leaf_blocks.proofs.Whole.LineStarts.{IsSeen, at_byte, content-leads, ends-told, line-seen, still-at-lines, told-fed}
use Rattle.mdblock_leaf_blocks.proofs.Whole.Told.{IsTold, ToldTo, then-told, told-on}
use Rattle.mdblock_leaf_blocks.proofs.Marks.MarkLists.{edits-within, told-length}

module _ (all : AllAreRead) (g : Given) (t : Text) (flag : Bool) (room : length t.seats < 2 ^ 64 - 1) where
  abbrev on : Constructs
  on = g.options.constructs

  module _ (k : Configuration Unit Unit) (line : Line) (more : List Line) (are : AreLines (line ∷ more)) (at : drop k.position t.seats ≡ all_of (line ∷ more))
      (edits : AllByRecursion (λ (e : Edit). e.index < length k.events) k.local.map) where
    abbrev Begins : LeafBlock × ℕ → Type 0
    Begins found = IsTold g t k (Next FlowStart) (block_told g.bytes found.0) (drop found.1 (line ∷ more))

    module _ (s : Seat) (ss : List Seat) (text_is : line_text line ≡ s ∷ ss) where
      abbrev seen : IsSeen line more are s ss text_is g t k
      seen = line-seen line more are s ss text_is all.lines g t k room at

      -- where the reading goes on, once the look said what the line is
      abbrev there : Configuration Unit Unit
      there = with_local (at_byte k) seen.local

      here : IsAtLines t there (line ∷ more)
      here = still-at-lines line more are s ss text_is all.lines g t k room at seen.local

      some : 1 ≤ length (line_text line)
      some = subst (λ l. 1 ≤ length l) (sym text_is) (omega arith)

      edits-there : AllByRecursion (λ (e : Edit). e.index < length k.events) there.local.map
      edits-there = subst (AllByRecursion (λ (e : Edit). e.index < length k.events)) (sym seen.keeps.edits) edits

      after-look : (found : LeafBlock × ℕ) → seen.answer ≡ Ok → BlockTold all g t there line more here (Retry FlowBlankLineAfter) found → Begins found
      after-look found well told = then-told g t k there (Next FlowStart) (Retry FlowBlankLineAfter) [] (block_told g.bytes found.0) (drop found.1 (line ∷ more)) (seen.well well) told

      by-kind : (kind : LineKind) → seen_kind on (text_of line) ≡ as_seen kind → Finds (as_seen kind) (unindented (text_of line)) seen.local seen.answer → Begins (block_of_kind on kind line more)
      by-kind blank is (well, found) =
          after-look (block_of_kind on blank line more) well (blank-line-told all g t there line more here some (record { here = here; is_kind = is; found = (refl, found) }))
      by-kind indented is (well, found) =
          after-look (block_of_kind on indented line more) well (indented-told all g t there line more here (record { here = here; is_kind = is; found = (refl, found) }))
      by-kind heading is (well, found, size) =
          after-look (block_of_kind on heading line more) well (heading-told all g t there line more here (record { here = here; is_kind = is; found = (refl, found, size) }))
      by-kind (fence f) is (well, found, mark, size, columns) =
          after-look (block_of_kind on (fence f) line more) well (fenced-told all g t there line more here f (record { here = here; is_kind = is; found = (refl, found, mark, size, columns) }))
      by-kind (html kind) is (well, found, mark) =
          after-look (block_of_kind on (html kind) line more) well
          (html-told all g t there line more here kind (says on (text_of line) is).0 (record { here = here; is_kind = is; found = (refl, found, mark) }))
      by-kind thematic_break is (well, found) =
          after-look (block_of_kind on thematic_break line more) well (break-told all g t there line more here (inl (record { here = here; is_kind = is; found = (refl, found) })))
      by-kind text is badly =
          then-told g t k there (Next FlowStart) (Retry FlowBeforeContent) [] _ _ (seen.badly badly) (content-told all g t there line more here some edits-there)

      -- by whether the line may be an underline
      by-rank : (rank : Option ℕ) → underline_rank on (text_of line) ≡ rank → Finds (elim rank [ None ↦ as_seen (line_kind on (text_of line)) | Some rank ↦ underline ]) (unindented (text_of line)) seen.local seen.answer
          → Begins (block_of_kind on (line_kind on (text_of line)) line more)
      by-rank None is finds = by-kind (line_kind on (text_of line)) (ap (λ rank. let kind : SeenKind = elim rank [ None ↦ as_seen (line_kind on (text_of line)) | Some rank ↦ underline ] in kind) is) finds
      by-rank (Some rank) is (well, found, marks) =
          let kind : LineKind = cond (on.thematic_break && is_thematic_break (unindented (text_of line))) thematic_break text in
          let under : seen_kind on (text_of line) ≡ underline = ap (λ rank. let kind : SeenKind = elim rank [ None ↦ as_seen (line_kind on (text_of line)) | Some rank ↦ underline ] in kind) is in
          subst (λ kind. Begins (block_of_kind on kind line more)) (sym (underline-kind on (text_of line) rank is))
          (after-look (block_of_kind on kind line more) well (underline-told all g t there line more here some under (refl, found, marks) edits-there))

      text-begins : Begins (block_of_kind on (line_kind on (text_of line)) line more)
      text-begins = by-rank (underline_rank on (text_of line)) refl seen.finds

    -- a blank line that has no white space
    blank-begins : line_text line ≡ [] → Begins (block_of_kind on (line_kind on (text_of line)) line more)
    blank-begins none = elim (cut-line line more are).ends [
      | inl with ↦
          let kind : line_kind on (text_of line) ≡ blank = ap (λ l. line_kind on (bytes_of l)) none in
          let first : drop k.position t.seats ≡ with.ending ∷ all_of more =
          at ∙ ap (λ l. l ++ all_of more) (sym (cut-line line more are).whole ∙ ap (λ l. l ++ ending_of line) none ∙ with.is) in
          let marks : leaf_marks g.bytes name.BlankLineEnding (with.ending ∷ []) ≡ white g.bytes (line_text line) ++ leaf_marks g.bytes name.BlankLineEnding (ending_of line) =
          ap (λ e. leaf_marks g.bytes name.BlankLineEnding e) (sym with.is) ∙ ap (λ l. white g.bytes l ++ leaf_marks g.bytes name.BlankLineEnding (ending_of line)) (sym none) in
          subst (λ kind. Begins (block_of_kind on kind line more)) (sym kind)
          (subst (λ ms. IsTold g t k (Next FlowStart) (map as_it_is ms) more) marks
          (then-told g t k (at_byte k) (Next FlowStart) (Retry FlowStart) [] _ more (told-fed g t k with.ending (all_of more) FlowStart first)
          (blank-told g t (at_byte k) with.ending more with.feed first refl)))
      | inr without ↦ absurd (without.some none)
    ]

    -- The block that the first line begins
    block-begins : Begins (block_of_kind on (line_kind on (text_of line)) line more)
    block-begins = elim (line_text line) as (λ l. line_text line ≡ l → Begins (block_of_kind on (line_kind on (text_of line)) line more)) [
      | [] ↦ λ none. blank-begins none
      | s ∷ ss ↦ λ text_is. text-begins s ss text_is
    ] refl

    -- has a line at least
    block-some : 1 ≤ (block_of_kind on (line_kind on (text_of line)) line more).1
    block-some = (cut on line more).some

  -- what was told since the start
  abbrev start : Configuration Unit Unit
  start = start_configuration flag

  edits-so-far : (k : Configuration Unit Unit) (told : List ToldMark) → ToldTo g t start (Next FlowStart) told k (Next FlowStart) → AllByRecursion (λ (e : Edit). e.index < length k.events) k.local.map
  edits-so-far k told h =
      let many : 0 + length told ≡ length k.events = omega (arith, ap length h.events_are, told-length 0 told) in
      subst (AllByRecursion (λ (e : Edit). e.index < length k.events)) (sym h.edits) (edits-within 0 (length k.events) told many)

  -- the text is told up to its end
  abbrev ToldToEnd : List ToldMark → Type 0
  ToldToEnd told = (after : Configuration Unit Unit) × ToldTo g t start (Next FlowStart) told after Ok

  no-blocks : (bound : ℕ) → blocks_in on bound [] ≡ []
  no-blocks zero = refl
  no-blocks (suc bound) = refl

  -- line by line, and block by block
  reads-on : (bound : ℕ) (lines : List Line) → length lines ≤ bound → AreLines lines → (k : Configuration Unit Unit) → drop k.position t.seats ≡ all_of lines
      → (told : List ToldMark) → ToldTo g t start (Next FlowStart) told k (Next FlowStart) → ToldToEnd (told ++ blocks_told g.bytes (blocks_in on bound lines))
  reads-on bound [] few are k at told so_far =
      subst (λ bs. ToldToEnd (told ++ blocks_told g.bytes bs)) (sym (no-blocks bound)) (_, told-on g t start k _ (Next FlowStart) (Next FlowStart) Ok told [] so_far (ends-told g t k at))
  reads-on zero (line ∷ more) few are k at told so_far = absurd (omega (arith, few))
  reads-on (suc bound) (line ∷ more) few are k at told so_far =
      let found = block_of_kind on (line_kind on (text_of line)) line more in
      let block = block_told g.bytes found.0 in
      let rest = drop found.1 (line ∷ more) in
      let step = block-begins k line more are at (edits-so-far k told so_far) in
      let fewer : length rest ≤ bound = omega (arith, few, length-drop found.1 (line ∷ more), block-some k line more are at (edits-so-far k told so_far)) in
      let blocks = blocks_told g.bytes (blocks_in on bound rest) in
      let both = told-on g t start k step.after (Next FlowStart) (Next FlowStart) step.to told block so_far step.told_to in
      subst ToldToEnd (append_assoc told block blocks) (elim step.ends [
        | inl (next, there) ↦
            reads-on bound rest fewer (lines-dropped found.1 (line ∷ more) are) step.after there (told ++ block) (subst (ToldTo g t start (Next FlowStart) (told ++ block) step.after) next both)
        | inr (well, none) ↦
            let nothing : blocks ≡ [] = ap (λ l. blocks_told g.bytes (blocks_in on bound l)) none ∙ ap (blocks_told g.bytes) (no-blocks bound) in
            (step.after, subst (λ ms. ToldTo g t start (Next FlowStart) ms step.after Ok) (sym (ap (λ bs. (told ++ block) ++ bs) nothing ∙ append-nil (told ++ block))) (subst (ToldTo g t start (Next FlowStart) (told ++ block) step.after) well both))
      ])

  -- from the start of documents
  told-from-line : (after : Configuration Unit Unit) (told : List ToldMark) → ToldTo g t start (Next FlowStart) told after Ok → IsToldAs g t flag FlowStart told
  told-from-line after told h =
      let r : Reading Unit Unit = record { configuration = after; answer = Ok; calls = 0 + h.calls + 0 } in
      record { result = r; ends = h.leads [] 0 r (record { bound = zero; is = refl }); well = refl; events_are = h.events_are; edits = h.edits; resolvers = h.resolvers }

  -- and from that of chains of content, with one call more
  told-from-content : (after : Configuration Unit Unit) (told : List ToldMark) → ToldTo g t start (Next FlowStart) told after Ok → IsToldAs g t flag ContentDefinitionBefore told
  told-from-content after told h =
      let r : Reading Unit Unit = record { configuration = after; answer = Ok; calls = 1 + h.calls + 0 } in
      record { result = r; ends = content-leads g t start r (h.leads [] 1 r (record { bound = zero; is = refl })); well = refl; events_are = h.events_are; edits = h.edits; resolvers = h.resolvers }

  -- the whole text is told
  whole-told : ToldToEnd (flow_told on g.bytes t.seats)
  whole-told =
      let lines = lines_in t.seats in
      let nothing : ToldTo g t start (Next FlowStart) [] start (Next FlowStart) =
      record { calls = 0; events_are = refl; edits = refl; resolvers = refl; leads = λ cs calls z h. let none : calls + 0 ≡ calls = omega arith in subst (λ n. EndsIn g (table_step flow g) t n start cs (Next FlowStart) z) none h } in
      reads-on (length lines) lines (omega arith) (lines-in-are t.seats) start (sym (lines-are-all t.seats)) [] nothing

-- So is any text, from each start
pub flow-is-read : AllAreRead → FlowIsRead
flow-is-read all g t flag start among room =
    let told = flow_told g.options.constructs g.bytes t.seats in
    let (after, h) = whole-told all g t flag room in
    let P = λ (start : Name). IsToldAs g t flag start told in
    All-contains P flow.starts start
    (All-cons P FlowStart (ContentDefinitionBefore ∷ []) (told-from-line all g t flag room after told h) (All-cons P ContentDefinitionBefore [] (told-from-content all g t flag room after told h) (All-nil P)))
    among
