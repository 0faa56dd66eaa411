-- The events of leaf blocks tell the ranks of their headings; and none of them that has a link is of a heading.
use Rattle.mddocument_laws.proofs.Prelude.{◌≡◌, ℕ, ◌+◌, ◌-◌, ◌==◌, List, [], ◌∷◌, ◌++◌, Bool, true, false, cond, inl, inr, Option, Some, None, append_assoc, drop, length, map, refl, sym, ap, ◌∙◌, subst, take, false_from_ne_true, false≢true, or_cases, or_parts, map-append, none-some, AllByRecursion, flat_map, list_any, ◌&&◌, ◌||◌, option_map, every-append, every-map, Constructs, Event, Enter, Exit, Name, is_enter, same_name, Seat, end_after, same_name-true, line_text, lines_in, event, Line, LeafBlock, atx_heading, blank_line, break_line, bytes_of, fenced_code, html_block, indented_code, leaf_blocks, paragraph, setext_heading, text_of, Chunk, Mark, body, chunk_span, flow_events, heading_around, last_end, leaf_block_marks, leaf_blocks_marks, linked_from, span_marks, text_chunk, text_marks, underline_marks, heading_text, indent, run, unindented, may_be_named, byte_of_first, enters, enters_heading, from_first, rank_at, rank_of, ranks_in, size_of_first}
use Rattle.markdown_base.specs.declared.event.Content.TheVariants as content
use Rattle.markdown_base.specs.declared.event.Name.TheVariants as name
use Rattle.mdblock_leaf_blocks.proofs.Marks.LeafSpans.{leaf-blocks-keep}
use Rattle.mdblock_leaf_blocks.proofs.Marks.MarkSpans.{IsKeptBySpans}
use Rattle.mddocument_laws.proofs.Chosen.{bare}
use Rattle.mddocument_laws.proofs.FlowNames.{IsOn, block-names}
use Rattle.mddocument_laws.proofs.HeadChildren.{IsOtherBy, IsOtherIfLinked}
use Rattle.mddocument_laws.proofs.Heads.{ranks-alike, ranks-behind}
use Rattle.mddocument_laws.proofs.Inside.{is_of_heading}
use Rattle.mddocument_laws.proofs.Named.{Marked, around, both, last-ends, marked-weaker, none, sequences, texts}
use Rattle.mddocument_laws.proofs.Ranks.Told.{TellsItsRank, events_of, rank_of_first}

-- ---- links

-- a mark that begins no chunk has no link, and a chunk is none of a heading
abbrev IsPlain : Mark → Type 0
IsPlain (e, None) = e.link ≡ None
IsPlain (e, Some chunk) = is_of_heading e.name ≡ false

abbrev ArePlain : List Mark → List Seat → Type 0
ArePlain marks seats = AllByRecursion IsPlain marks

module _ (bytes : List ℕ) where
  plain-chunk : (chunk : Chunk) (seats : List Seat) → AllByRecursion IsPlain (chunk_span bytes (Some chunk) name.Data seats [])
  plain-chunk chunk [] = tt
  plain-chunk chunk (s ∷ ss) = (refl, (refl, tt))

  plain-texts : (has_previous : Bool) (lines : List Line) → AllByRecursion IsPlain (text_marks bytes has_previous lines)
  plain-texts has_previous [] = tt
  plain-texts has_previous (line ∷ []) = plain-chunk _ (line_text line)
  plain-texts has_previous (line ∷ next ∷ lines) = every-append IsPlain (chunk_span bytes _ name.Data line []) (text_marks bytes true (next ∷ lines)) (plain-chunk _ line) (plain-texts true (next ∷ lines))

  plain-kept : IsKeptBySpans bytes ArePlain
  plain-kept = record {
    none = tt;
    both = λ {xs} {ys} {a} {b} h k. every-append IsPlain xs ys h k;
    leaf = λ n s ss w. (refl, (refl, tt));
    datum = λ c s ss w. (refl, (refl, tt));
    text = λ lines h w. plain-texts false lines;
    around = λ n s ss inside void h. (refl, every-append IsPlain inside _ h (refl, tt));
  }

plain-linked : (i : ℕ) (marks : List Mark) → AllByRecursion IsPlain marks → AllByRecursion IsOtherIfLinked (linked_from i marks)
plain-linked i [] h = tt
plain-linked i ((e, None) ∷ marks) h = (subst (λ o. IsOtherBy o e.name) (sym h.0) tt, plain-linked (i + 1) marks h.1)
plain-linked i ((e, Some chunk) ∷ marks) h = (h.0, plain-linked (i + 1) marks h.1)

pub flow-plain : (on : Constructs) (bytes : List ℕ) (seats : List Seat) → AllByRecursion IsOtherIfLinked (flow_events on bytes seats)
flow-plain on bytes seats = plain-linked 0 (leaf_blocks_marks bytes (leaf_blocks on (lines_in seats))) (leaf-blocks-keep on bytes ArePlain (plain-kept bytes) seats)

-- ---- events that enter no heading

abbrev NotHeading : Name → Type 0
NotHeading n = (same_name n name.HeadingAtx || same_name n name.HeadingSetext) ≡ false

abbrev IsQuiet : Event → Type 0
IsQuiet e = enters_heading e ≡ false

abbrev AreQuiet : List Mark → Type 0
AreQuiet marks = AllByRecursion (λ (m : Mark). IsQuiet m.0) marks

quiet-event : (k a s : Bool) → (a || s) ≡ false → ((k && a) || (k && s)) ≡ false
quiet-event true a s h = h
quiet-event false a s h = refl

quiet-named : (marks : List Mark) → Marked NotHeading marks → AreQuiet marks
quiet-named marks h =
    every-map (λ (m : Mark). NotHeading m.0.name) (λ (m : Mark). IsQuiet m.0) (λ m n. quiet-event (is_enter m.0.kind) (same_name m.0.name name.HeadingAtx) (same_name m.0.name name.HeadingSetext) n) marks h.all

quiet-events : (marks : List Mark) → AreQuiet marks → AllByRecursion IsQuiet (events_of marks)
quiet-events [] h = tt
quiet-events (m ∷ marks) h = (h.0, quiet-events marks h.1)

-- constructs by which leaf blocks but for headings have their names
abbrev without : Constructs → Constructs
without on = record on { heading_atx = false; heading_setext = false; thematic_break = true; code_indented = true; code_fenced = true; html_flow = true }

not-heading : (on : Constructs) (n : Name) → may_be_named (without on) n ≡ true → NotHeading n
not-heading on n h =
    let no : (m : Name) → may_be_named (without on) m ≡ false → same_name n m ≡ true → ⊥ = λ m off e. false≢true (sym off ∙ subst (λ x. may_be_named (without on) x ≡ true) (same_name-true n m e) h) in
    false_from_ne_true (same_name n name.HeadingAtx || same_name n name.HeadingSetext) (λ e. elim (or_cases (same_name n name.HeadingAtx) (same_name n name.HeadingSetext) e) [
      | inl atx ↦ no name.HeadingAtx refl atx
      | inr setext ↦ no name.HeadingSetext refl setext
    ])

-- ---- blocks

module _ (bytes : List ℕ) where
  abbrev Are : List Mark → Type 0
  Are marks = Marked NotHeading marks

  in-atx : (seats : List Seat) → Are (heading_around bytes (text_chunk bytes) seats)
  in-atx seats =
      let t = bytes_of seats in
      let signs = indent t + run 35 (unindented t) in
      let start = signs + indent (drop signs t) in
      let end = start + length (heading_text (drop start t)) in
      let inside = take (end - start) (drop start seats) in
      let chunk : Are (text_chunk bytes inside) = around bytes _ name.Data inside refl none in
      both (sequences NotHeading refl bytes name.HeadingAtxSequence (run 35 (unindented t)) (take start seats) refl)
      (both (around bytes None name.HeadingAtxText inside refl chunk) (sequences NotHeading refl bytes name.HeadingAtxSequence (run 35 (unindented (drop end t))) (drop end seats) refl))

  in-setext : (lines : List Line) (underline : Line) → Are (span_marks bytes name.HeadingSetextText (body lines) (text_marks bytes false lines) ++ (last_end bytes lines ++ underline_marks bytes (line_text underline)))
  in-setext lines underline =
      both (around bytes None name.HeadingSetextText (body lines) refl (texts bytes false lines refl))
      (both (last-ends bytes lines refl) (around bytes None name.HeadingSetextUnderline (line_text underline) refl (sequences NotHeading refl bytes name.HeadingSetextUnderlineSequence _ (line_text underline) refl)))

  no-underline : (has_previous : Bool) (lines : List Line) → list_any (enters name.HeadingSetextUnderlineSequence) (events_of (text_marks bytes has_previous lines)) ≡ false
  no-underline has_previous [] = refl
  no-underline has_previous (line ∷ []) = by (line_text line)
    where
      by : (seats : List Seat) → list_any (enters name.HeadingSetextUnderlineSequence) (events_of (chunk_span bytes (Some (record { content = content.Text; has_previous = has_previous; has_next = false })) name.Data seats [])) ≡ false
      by [] = refl
      by (s ∷ ss) = refl
  no-underline has_previous ([] ∷ next ∷ lines) = no-underline true (next ∷ lines)
  no-underline has_previous ((s ∷ ss) ∷ next ∷ lines) = no-underline true (next ∷ lines)

  module _ (given : List ℕ) where
    -- what enters no heading tells no rank
    no-rank : (es : List Event) → AllByRecursion IsQuiet es → rank_of_first given es ≡ None
    no-rank [] h = refl
    no-rank (e ∷ es) h =
        let parts = or_parts (enters name.HeadingAtx e) (enters name.HeadingSetext e) h.0 in
        let size = size_of_first (from_first (enters name.HeadingAtxSequence) es) in
        let byte = option_map (λ (b : ℕ). cond (b == 61) 1 2) (byte_of_first given (from_first (enters name.HeadingSetextUnderlineSequence) es)) in
        (λ i. cond (parts.0 i) size (cond (parts.1 i) byte None))

    -- a span that is a heading, and what is behind it
    heading-ranks : (n : Name) → (same_name n name.HeadingAtx || same_name n name.HeadingSetext) ≡ true → (rank : ℕ) (seats : List Seat) (inside behind : List Mark) → Are inside → Are behind
        → ((rest : List Event) → rank_of_first given (events_of (span_marks bytes n seats inside ++ behind) ++ rest) ≡ Some rank)
        → (rest : List Event) → ranks_in given (events_of (span_marks bytes n seats inside ++ behind) ++ rest) ≡ Some rank ∷ ranks_in given rest
    heading-ranks n is rank [] inside behind h k tells rest =
        let all = quiet-events (inside ++ behind) (quiet-named (inside ++ behind) (both h k)) in
        absurd (none-some rank (sym (no-rank (events_of (inside ++ behind) ++ []) (every-append IsQuiet (events_of (inside ++ behind)) [] all tt)) ∙ tells []))
    heading-ranks n is rank (s ∷ ss) inside behind h k tells rest =
        let exit : Mark = (event bytes Exit n (end_after s.end ss), None) in
        let marks = (inside ++ exit ∷ []) ++ behind in
        let quiet : AreQuiet marks =
        every-append (λ (m : Mark). IsQuiet m.0) (inside ++ exit ∷ []) behind (every-append (λ (m : Mark). IsQuiet m.0) inside (exit ∷ []) (quiet-named inside h) (refl, tt)) (quiet-named behind k) in
        let more = ranks-behind given (events_of marks) rest (quiet-events marks quiet) in
        let first = tells rest in
        ap (λ b. cond b (rank_at given (event bytes Enter n s.point) (events_of marks ++ rest) ∷ ranks_in given (events_of marks ++ rest)) (ranks_in given (events_of marks ++ rest))) is
        ∙ (λ i. first i ∷ more i)

    quiet-block : (on : Constructs) (block : LeafBlock) → IsOn (without on) block → (rest : List Event) → ranks_in given (events_of (leaf_block_marks bytes block) ++ rest) ≡ ranks_in given rest
    quiet-block on block is rest =
        let marks = leaf_block_marks bytes block in
        let named = marked-weaker (not-heading on) marks (block-names (without on) bytes block is) in
        ranks-behind given (events_of marks) rest (quiet-events marks (quiet-named marks named))

    -- a block tells its rank, and no other
    block-ranks : (on : Constructs) (block : LeafBlock) → TellsItsRank bytes given block → (rest : List Event) → ranks_in given (events_of (leaf_block_marks bytes block) ++ rest) ≡ map Some (rank_of block) ++ ranks_in given rest
    block-ranks on (blank_line line) h rest = quiet-block on (blank_line line) tt rest
    block-ranks on (break_line line) h rest = quiet-block on (break_line line) refl rest
    block-ranks on (atx_heading line) h rest =
        heading-ranks name.HeadingAtx refl (run 35 (unindented (text_of line))) (line_text line) (heading_around bytes (text_chunk bytes) (line_text line)) (last_end bytes (line ∷ [])) (in-atx (line_text line)) (last-ends bytes (line ∷ []) refl)
        (λ more. h (text_chunk bytes) (text_marks bytes false) more) rest
    block-ranks on (paragraph lines) h rest = quiet-block on (paragraph lines) tt rest
    block-ranks on (setext_heading rank lines underline) h rest =
        heading-ranks name.HeadingSetext refl rank (body (lines ++ underline ∷ [])) _ (last_end bytes (lines ++ underline ∷ [])) (in-setext lines underline) (last-ends bytes (lines ++ underline ∷ []) refl)
        (λ more. h (text_chunk bytes) (text_marks bytes false) more (no-underline false)) rest
    block-ranks on (indented_code lines) h rest = quiet-block on (indented_code lines) refl rest
    block-ranks on (fenced_code f is_closed lines) h rest = quiet-block on (fenced_code f is_closed lines) refl rest
    block-ranks on (html_block kind is_closed lines) h rest = quiet-block on (html_block kind is_closed lines) refl rest

    blocks-ranks : (on : Constructs) (blocks : List LeafBlock) → AllByRecursion (TellsItsRank bytes given) blocks → (rest : List Event)
        → ranks_in given (events_of (leaf_blocks_marks bytes blocks) ++ rest) ≡ map Some (flat_map rank_of blocks) ++ ranks_in given rest
    blocks-ranks on [] h rest = refl
    blocks-ranks on (block ∷ blocks) h rest =
        let front = leaf_block_marks bytes block in
        let more = leaf_blocks_marks bytes blocks in
        let f = λ (m : Mark). m.0 in
        let ranks : List (Option ℕ) = map Some (rank_of block) in
        ap (ranks_in given) (ap (λ l. l ++ rest) (map-append f front more) ∙ append_assoc (events_of front) (events_of more) rest)
        ∙ block-ranks on block h.0 (events_of more ++ rest)
        ∙ ap (λ l. ranks ++ l) (blocks-ranks on blocks h.1 rest)
        ∙ sym (append_assoc ranks (map Some (flat_map rank_of blocks)) (ranks_in given rest))
        ∙ ap (λ l. l ++ ranks_in given rest) (sym (map-append Some (rank_of block) (flat_map rank_of blocks)))

bare-linked : (i : ℕ) (marks : List Mark) → map bare (linked_from i marks) ≡ map bare (events_of marks)
bare-linked i [] = refl
bare-linked i ((e, None) ∷ marks) = ap (λ l. bare e ∷ l) (bare-linked (i + 1) marks)
bare-linked i ((e, Some chunk) ∷ marks) = ap (λ l. bare e ∷ l) (bare-linked (i + 1) marks)

-- The events of leaf blocks that tell their ranks tell the ranks of the headings among them, in order
pub flow-ranks : (on : Constructs) (bytes given : List ℕ) (seats : List Seat) → AllByRecursion (TellsItsRank bytes given) (leaf_blocks on (lines_in seats)) → (rest : List Event)
    → ranks_in given (flow_events on bytes seats ++ rest) ≡ map Some (flat_map rank_of (leaf_blocks on (lines_in seats))) ++ ranks_in given rest
flow-ranks on bytes given seats h rest =
    let blocks = leaf_blocks on (lines_in seats) in
    let marks = leaf_blocks_marks bytes blocks in
    let same : map bare (linked_from 0 marks ++ rest) ≡ map bare (events_of marks ++ rest) =
    map-append bare (linked_from 0 marks) rest ∙ ap (λ l. l ++ map bare rest) (bare-linked 0 marks) ∙ sym (map-append bare (events_of marks) rest) in
    ranks-alike given (linked_from 0 marks ++ rest) (events_of marks ++ rest) same ∙ blocks-ranks bytes given on blocks h rest
