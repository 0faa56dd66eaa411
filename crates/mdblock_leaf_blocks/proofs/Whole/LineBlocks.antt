-- The block that a line begins is read, by the kind of the line.
use Rattle.mdblock_leaf_blocks.proofs.Prelude.{◌≡◌, ℕ, suc, ◌+◌, ◌-◌, ◌<◌, ◌≤◌, ◌&&◌, ◌||◌, List, [], ◌∷◌, ◌++◌, true, false, cond, not, ◌⊎◌, inl, inr, length, map, take, drop, refl, sym, ap, ◌∙◌, subst, arith, is_some, None, Option, Some, and_parts, not-true, append_assoc, append-nil, length-prefix_len, AllByRecursion, drop-next, Constructs, State, Next, Retry, Ok, FlowAfter, FlowBeforeContent, FlowBlankLineAfter, FlowStart, Seat, Edit, Configuration, Given, Text, Byte, waits_at, all_of, ending_of, line_text, AreLines, BlankLinesAreRead, BreaksAreRead, FencedCodeIsRead, HeadingsAreRead, HtmlIsRead, IndentedCodeIsRead, IsAtLines, IsBlockRead, IsFound, ParagraphsAreRead, SetextHeadingsAreRead, heading_told, is_underlined, HtmlKind, ends, waits_for_blank, Line, LeafBlock, atx_heading, blank_line, break_line, paragraph, setext_heading, block_of_kind, bytes_of, content_at, ends_text, further_code, has_line, lines_through, lines_until, text_of, underlined, Fence, indented, closes, is_blank_line, is_thematic_break, underline_rank, unindented, number, seen_kind, block_told, block_span, body, break_marks, code_fenced_marks, code_marks, heading_marks, html_marks, leaf_marks, lines_marks, text_marks, white, Finds, LinesAreSeen, as_it_is}
use Rattle.markdown_base.specs.declared.event.Name.TheVariants as name
use Rattle.mdblock_leaf_blocks.specs.LineKinds.{fence, html, thematic_break, text}
use Rattle.mdblock_leaf_blocks.specs.SeenKinds as seen
use Rattle.mdblock_leaf_blocks.proofs.Lines.{all-of-split, body-and-text, cut-line, in-line-alone, in-line-text, line-with-it, lines-dropped, none-left, underlined-as-seen}
use Rattle.mdblock_leaf_blocks.proofs.Whole.BlockSteps.{block-told, closed-told, cut-ended, left-behind}
use Rattle.mdblock_leaf_blocks.proofs.Whole.LineBreaks.{behind-told}
use Rattle.mdblock_leaf_blocks.proofs.Whole.LineStarts.{first-byte, in-line-there}
use Rattle.mdblock_leaf_blocks.proofs.Whole.Told.{IsTold, then-told, told-named, told-read}
use Rattle.mdblock_leaf_blocks.proofs.Whole.UnderlineLines.{after, underline-goes}

-- all that is read by lines and blocks
pub record AllAreRead : Type 0 where
  pub lines : LinesAreSeen
  pub blanks : BlankLinesAreRead
  pub breaks : BreaksAreRead
  pub headings : HeadingsAreRead
  pub paragraphs : ParagraphsAreRead
  pub setext : SetextHeadingsAreRead
  pub indented_code : IndentedCodeIsRead
  pub fenced : FencedCodeIsRead
  pub html : HtmlIsRead

-- lines of which the first begins HTML
module _ (line : Line) (more : List Line) where
  -- how many lines it has
  abbrev html_lines : HtmlKind → ℕ
  html_lines kind = cond (waits_for_blank kind) (lines_until (λ l. is_blank_line (text_of l)) (line ∷ more)) (lines_through (ends kind) (line ∷ more))

  -- one at least; and all, if it is open
  pub html-some : (kind : HtmlKind) → is_blank_line (text_of line) ≡ false → 1 ≤ html_lines kind
  html-some kind full = elim (waits_for_blank kind) as (λ b. 1 ≤ cond b (lines_until (λ l. is_blank_line (text_of l)) (line ∷ more)) (lines_through (ends kind) (line ∷ more))) [
    | true ↦ rw full (omega arith)
    | false ↦ omega arith
  ]

  html-open : (kind : HtmlKind) → (waits_for_blank kind || has_line (ends kind) (line ∷ more)) ≡ false → drop (html_lines kind) (line ∷ more) ≡ []
  html-open kind = elim (waits_for_blank kind) as (λ b. (b || has_line (ends kind) (line ∷ more)) ≡ false → drop (cond b (lines_until (λ l. is_blank_line (text_of l)) (line ∷ more)) (lines_through (ends kind) (line ∷ more))) (line ∷ more) ≡ []) [
    | true ↦ λ e. absurd (cc)
    | false ↦ λ e. none-left (ends kind) (line ∷ more) e
  ]

module _ (all : AllAreRead) (g : Given) (t : Text) (k : Configuration Unit Unit) (line : Line) (more : List Line) (here : IsAtLines t k (line ∷ more)) where
  abbrev on : Constructs
  on = g.options.constructs

  -- a block is told, and so many lines are left behind it
  abbrev pub BlockTold : State → LeafBlock × ℕ → Type 0
  BlockTold from found = IsTold g t k from (block_told g.bytes found.0) (drop found.1 (line ∷ more))

  module _ (some : 1 ≤ length (line_text line)) where
    -- lines of a paragraph
    abbrev further : ℕ
    further = lines_until (ends_text on) more

    abbrev ours : List Line
    ours = take (suc further) (line ∷ more)

    abbrev rest : List Line
    rest = drop (suc further) (line ∷ more)

    ours-length : length ours ≡ suc further
    ours-length = ap suc (length-prefix_len (λ l. not (ends_text on l)) more)

    paragraph-told : is_underlined g rest ≡ false → BlockTold (Retry FlowBeforeContent) (paragraph ours, length ours)
    paragraph-told none =
        subst (λ n. IsTold g t k (Retry FlowBeforeContent) (block_told g.bytes (paragraph ours)) (drop n (line ∷ more))) (sym ours-length)
        (closed-told g t k FlowBeforeContent further line more name.Paragraph (text_marks g.bytes false ours) here.are_lines here.at (all.paragraphs g t k line more here some none))

    setext-told : (rank : ℕ) (next : Line) (behind : List Line) → rest ≡ next ∷ behind → is_underlined g rest ≡ true → AllByRecursion (λ (e : Edit). e.index < length k.events) k.local.map
        → BlockTold (Retry FlowBeforeContent) (setext_heading rank ours next, suc (length ours))
    setext-told rank next behind are is edits =
        let told = heading_told g.bytes ours next in
        let h = all.setext g t k line more next behind here some is are edits in
        let lines_are : AreLines (next ∷ behind) = subst AreLines are (lines-dropped (suc further) (line ∷ more) here.are_lines) in
        let cut = cut-line next behind lines_are in
        let parts : all_of (line ∷ more) ≡ body (ours ++ next ∷ []) ++ (ending_of next ++ all_of behind) =
        sym (all-of-split (suc further) (line ∷ more)) ∙ ap (λ l. all_of ours ++ all_of l) are ∙ ap (λ l. all_of ours ++ (l ++ all_of behind)) (sym cut.whole)
        ∙ ap (λ l. all_of ours ++ l) (append_assoc (line_text next) (ending_of next) (all_of behind)) ∙ sym (append_assoc (all_of ours) (line_text next) (ending_of next ++ all_of behind))
        ∙ ap (λ l. l ++ (ending_of next ++ all_of behind)) (sym (body-and-text ours next)) in
        let there = ap (λ p. drop p t.seats) h.position ∙ left-behind t k.position (body (ours ++ next ∷ [])) (ending_of next ++ all_of behind) (here.at ∙ parts) in
        let one : suc (length ours) ≡ suc further + 1 = omega (arith, ours-length) in
        let left : drop (suc (length ours)) (line ∷ more) ≡ behind = ap (λ n. drop n (line ∷ more)) one ∙ drop-next (line ∷ more) (suc further) next behind are in
        subst (λ l. IsTold g t k (Retry FlowBeforeContent) (block_told g.bytes (setext_heading rank ours next)) l) (sym left)
        (then-told g t k h.after (Retry FlowBeforeContent) (Retry FlowAfter) told _ behind (told-named g t k FlowBeforeContent (body (ours ++ next ∷ [])) (ending_of next ++ all_of behind) told (Retry FlowAfter) h)
        (behind-told g t h.after (ending_of next) behind (cut-ended next behind cut.ends) there h.waiting))

    -- by the line behind it
    by-next : (next : Line) (behind : List Line) → rest ≡ next ∷ behind → AllByRecursion (λ (e : Edit). e.index < length k.events) k.local.map → (rank : Option ℕ) → underline_rank on (text_of next) ≡ rank
        → BlockTold (Retry FlowBeforeContent) (elim rank [ None ↦ (paragraph ours, length ours) | Some rank ↦ (setext_heading rank ours next, suc (length ours)) ])
    by-next next behind are edits None is = paragraph-told (ap (is_underlined g) are ∙ underlined-as-seen on (text_of next) ∙ ap is_some is)
    by-next next behind are edits (Some rank) is = setext-told rank next behind are (ap (is_underlined g) are ∙ underlined-as-seen on (text_of next) ∙ ap is_some is) edits

    -- A paragraph, or a setext heading
    pub content-told : AllByRecursion (λ (e : Edit). e.index < length k.events) k.local.map → BlockTold (Retry FlowBeforeContent) (content_at on (line ∷ more))
    content-told edits = elim rest as (λ r. rest ≡ r → BlockTold (Retry FlowBeforeContent) (underlined on ours r)) [
      | [] ↦ λ are. paragraph-told (ap (is_underlined g) are)
      | next ∷ behind ↦ λ are. by-next next behind are edits (underline_rank on (text_of next)) refl
    ] refl

module _ (all : AllAreRead) (g : Given) (t : Text) (k : Configuration Unit Unit) (line : Line) (more : List Line) (here : IsAtLines t k (line ∷ more)) where
  -- the constructs that are on
  abbrev switches : Constructs
  switches = g.options.constructs

  -- what the line is
  abbrev bytes : List ℕ
  bytes = text_of line

  -- a blank line that has white space
  pub blank-line-told : 1 ≤ length (line_text line) → IsFound g t k seen.blank line more → BlockTold all g t k line more here (Retry FlowBlankLineAfter) (blank_line line, 1)
  blank-line-told some found = elim (cut-line line more here.are_lines).ends [
    | inl with ↦
        let h = all.blanks.with_ending g t k line more found (line-with-it line more here.are_lines with) some in
        record {
          after = h.after;
          to = Next FlowStart;
          told_to = told-read g t k FlowBlankLineAfter line (all_of more) _ (Next FlowStart) h;
          ends = inl (refl, ap (λ p. drop p t.seats) h.position ∙ left-behind t k.position line (all_of more) here.at);
        }
    | inr without ↦
        let in_line = in-line-alone line more here.are_lines without in
        let text_is = in-line-text line in_line in
        let found_last = subst (λ m. IsFound g t k seen.blank line m) without.last found in
        let h = all.blanks.at_end g t k line found_last in_line (subst (λ l. 1 ≤ length l) text_is some) in
        let marks : white g.bytes line ≡ white g.bytes (line_text line) ++ leaf_marks g.bytes name.BlankLineEnding (ending_of line) =
        sym (append-nil (white g.bytes line)) ∙ ap (λ l. white g.bytes l ++ []) (sym text_is) ∙ ap (λ e. white g.bytes (line_text line) ++ leaf_marks g.bytes name.BlankLineEnding e) (sym without.is) in
        subst (λ ms. IsTold g t k (Retry FlowBlankLineAfter) (map as_it_is ms) more) marks
        (record { after = h.after; to = Ok; told_to = told-read g t k FlowBlankLineAfter line [] _ Ok h; ends = inr (refl, without.last) })
  ]

  -- a thematic break, of a line that is one, or could be an underline
  pub break-told : IsFound g t k seen.thematic_break line more
      ⊎ (IsFound g t k seen.underline line more × (switches.thematic_break ≡ true) × (is_thematic_break (unindented bytes) ≡ true))
      → BlockTold all g t k line more here (Retry FlowBlankLineAfter) (break_line line, 1)
  break-told found = closed-told g t k FlowBlankLineAfter 0 line more name.ThematicBreak (break_marks g.bytes (length line) (line_text line)) here.are_lines here.at (all.breaks g t k line more found)

  pub heading-told : IsFound g t k seen.heading line more → BlockTold all g t k line more here (Retry FlowBlankLineAfter) (atx_heading line, 1)
  heading-told found = closed-told g t k FlowBlankLineAfter 0 line more name.HeadingAtx (heading_marks g.bytes (line_text line)) here.are_lines here.at (all.headings g t k line more found)

  pub indented-told : IsFound g t k seen.indented line more → BlockTold all g t k line more here (Retry FlowBlankLineAfter) (block_of_kind switches indented line more)
  indented-told found =
      let n = further_code switches more in
      closed-told g t k FlowBlankLineAfter n line more name.CodeIndented (lines_marks g.bytes (code_marks g.bytes 4) false (take (suc n) (line ∷ more))) here.are_lines here.at (all.indented_code g t k line more found)

  pub fenced-told : (f : Fence) → IsFound g t k (seen.fence f) line more → BlockTold all g t k line more here (Retry FlowBlankLineAfter) (block_of_kind switches (fence f) line more)
  fenced-told f found =
      let closed = has_line (closes switches f) more in
      let n = lines_through (closes switches f) more in
      block-told g t k FlowBlankLineAfter n line more name.CodeFenced (code_fenced_marks g.bytes f closed (take (suc n) (line ∷ more))) here.are_lines here.at (not closed)
      (λ goes_on. none-left (closes switches f) more (not-true closed goes_on)) (all.fenced g t k f line more found)

  pub html-told : (kind : HtmlKind) → is_blank_line bytes ≡ false → IsFound g t k (seen.html (number kind)) line more → BlockTold all g t k line more here (Retry FlowBlankLineAfter) (block_of_kind switches (html kind) line more)
  html-told kind full found =
      let lines = line ∷ more in
      let closed = waits_for_blank kind || has_line (ends kind) lines in
      let n = html_lines line more kind in
      let one : n ≡ suc (n - 1) = omega (arith, html-some line more kind full) in
      let h = all.html g t k kind line more found in
      subst (λ n. IsTold g t k (Retry FlowBlankLineAfter) (map as_it_is (block_span g.bytes name.HtmlFlow (not closed) (take n lines) (html_marks g.bytes (not closed) (take n lines)))) (drop n lines)) (sym one)
      (block-told g t k FlowBlankLineAfter (n - 1) line more name.HtmlFlow (html_marks g.bytes (not closed) (take (suc (n - 1)) lines)) here.are_lines here.at (not closed)
      (λ goes_on. ap (λ n. drop n lines) (sym one) ∙ html-open line more kind (not-true closed goes_on))
      (subst (λ n. IsBlockRead g t k FlowBlankLineAfter (take n lines) (drop n lines) name.HtmlFlow (not closed) (html_marks g.bytes (not closed) (take n lines))) one h))

  -- where a paragraph begins, though the line could be an underline
  pub underline-told : 1 ≤ length (line_text line) → seen_kind switches bytes ≡ seen.underline → Finds seen.underline (unindented bytes) k.local Ok → AllByRecursion (λ (e : Edit). e.index < length k.events) k.local.map
      → BlockTold all g t k line more here (Retry FlowBlankLineAfter) (block_of_kind switches (cond (switches.thematic_break && is_thematic_break (unindented bytes)) thematic_break text) line more)
  underline-told some is found edits =
      elim (switches.thematic_break && is_thematic_break (unindented bytes)) as (λ b. (switches.thematic_break && is_thematic_break (unindented bytes)) ≡ b
      → BlockTold all g t k line more here (Retry FlowBlankLineAfter) (block_of_kind switches (cond b thematic_break text) line more)) [
        | true ↦ λ e.
            break-told (inr (
              record { here = here; is_kind = is; found = found },
              (and_parts switches.thematic_break (is_thematic_break (unindented bytes)) e).0,
              (and_parts switches.thematic_break (is_thematic_break (unindented bytes)) e).1,
            ))
        | false ↦ λ e. begins (line_text line) refl e
      ] refl
    where
      begins : (seats : List Seat) → line_text line ≡ seats → (switches.thematic_break && is_thematic_break (unindented bytes)) ≡ false
          → BlockTold all g t k line more here (Retry FlowBlankLineAfter) (content_at switches (line ∷ more))
      begins [] text_is e = let none : 1 ≤ 0 = subst (λ l. 1 ≤ length l) text_is some in absurd (omega (arith, none))
      begins (s ∷ ss) text_is e =
          let at : drop k.position t.seats ≡ s ∷ (ss ++ (ending_of line ++ all_of more)) = here.at ∙ first-byte line more here.are_lines s ss text_is in
          let waits : k.waiting ≡ Byte = here.waits ∙ ap waits_at (first-byte line more here.are_lines s ss text_is) in
          let no_break = ap (λ b. switches.thematic_break && b) found.2 ∙ e in
          let goes = underline-goes g t k s (ss ++ (ending_of line ++ all_of more)) at waits found.1 no_break (in-line-there line more here.are_lines s ss text_is).0 (bytes_of ss)
          (ap (λ l. seen_kind switches (bytes_of l)) (sym text_is) ∙ is) in
          let k' = after g t k s (ss ++ (ending_of line ++ all_of more)) at waits found.1 no_break in
          let still : IsAtLines t k' (line ∷ more) = record { are_lines = here.are_lines; at = here.at; waits = here.waits; room = here.room } in
          then-told g t k k' (Retry FlowBlankLineAfter) (Retry FlowBeforeContent) [] _ _ goes (content-told all g t k' line more still some edits)
