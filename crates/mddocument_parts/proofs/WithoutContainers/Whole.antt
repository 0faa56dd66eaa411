-- A document in which no container begins is read as its leaf blocks are.
use Rattle.mddocument_parts.proofs.Prelude.{AllByRecursion, Bool, Constructs, Enter, Event, Exit, Line, List, Mark, None, Option, Seat, Some, [], alone, and-left, and-right, ap, append-nil, arith, chunk_span, cond, end_after, event, false, filter, flat_map, flow_events, leaf_blocks, leaf_blocks_marks, length, lines_in, linked-append, linked-length, linked_from, map, not-true, refl, subst, suc, sym, true, virtual, ℕ, ◌++◌, ◌+◌, ◌<◌, ◌∙◌, ◌∷◌, ◌≡◌}
use Rattle.std.proofs.lemmas.Option.{none-some, slice_get_within}
use Rattle.std.specs.List.{list_all}
use Rattle.std.specs.Prelude.{not, slice_get, ◌||◌}
use Rattle.markdown_base.proofs.Common.{every-append}
use Rattle.markdown_base.specs.Events.{EndsBelow}
use Rattle.markdown_base.specs.Places.{in_range}
use Rattle.markdown_base.specs.declared.configuration.ParseOptions.{ParseOptions}
use Rattle.markdown_base.specs.declared.event.Content.{Content}
use Rattle.markdown_base.specs.declared.event.Content.TheVariants as content
use Rattle.markdown_base.specs.declared.event.Name.TheVariants as name
use Rattle.markdown_edits.proofs.Edits.Passes.{olds, woven-nil}
use Rattle.markdown_edits.specs.Woven.{changed, placed}
use Rattle.markdown_tokenizer.proofs.Positions.Chains.{IsChain}
use Rattle.markdown_tokenizer.specs.Engine.{whole_text}
use Rattle.markdown_tokenizer.specs.Text.{Given, IsDocument}
use Rattle.markdown_children.specs.Chains.{begins, chain_of, fitting_starts}
use Rattle.markdown_children.specs.Children.{chain_changes, first_chunk, part_changes, with_children}
use Rattle.markdown_children.specs.Parts.{divided_over, parts}
use Rattle.markdown_children.specs.Reads.{text_from, text_of_chain}
use Rattle.markdown_children.specs.Ready.{IsReady, place_at}
use Rattle.mdconstructs_machines.proofs.BlockReads.Accounts.{lines-are-all}
use Rattle.mdinline_text_machine.proofs.DeepSpans.Chunks.{chain-seats, chunk_seats}
use Rattle.mdinline_text_machine.proofs.DeepSpans.Places.{chain-from, origin, place-shown, range-of}
use Rattle.mdinline_text_machine.proofs.Paragraphs.ChainEvents.{is-text}
use Rattle.mdinline_text_machine.proofs.Paragraphs.ChunkPairs.{place-at-event}
use Rattle.mdinline_text_machine.proofs.Texts.WholePlaces.{whole-is-text}
use Rattle.mdinline_labels.specs.Labels.{normalised}
use Rattle.mdinline_link_strings.specs.Strings.{with_strings}
use Rattle.mdinline_machine.specs.InlineRules.{no_labels}
use Rattle.mdinline_machine.specs.LawStatements.{with_inlines, with_strings as with_string_chunks}
use Rattle.mdblock_leaf_blocks.proofs.Marks.ChunksJoin.{blocks-meet}
use Rattle.mdblock_leaf_blocks.proofs.Marks.LeafSpans.{leaf-blocks-keep}
use Rattle.mdblock_leaf_blocks.proofs.Marks.MarkSpans.{IsKeptBySpans, text-by-chunks}
use Rattle.mdblock_leaf_blocks.proofs.Marks.ToldEdits.{mark_at}
use Rattle.mdblock_leaf_blocks.specs.ChunksJoin.{AcrossGap}
use Rattle.mdblock_containers.proofs.LetterLemmas.{no_letters_from}
use Rattle.mdblock_containers.proofs.SeatFacts.{document_lines, lines_end}
use Rattle.mdblock_containers.proofs.SkeletonReady.{skeletons_are_ready}
use Rattle.mdblock_containers.specs.Blocks.{document_blocks, document_skeleton, with_lazy_letters}
use Rattle.mdblock_containers.specs.Letters.{lazy_underline, lazy_underlines, with_letters}
use Rattle.mdblock_containers.specs.Rows.{Row, closed, has_none, rest_of, rows}
use Rattle.mdblock_containers.specs.Skeleton as skeletons
use Rattle.mdblock_containers.specs.Skeleton.{chained_from, parts_in, parts_marks}
use Rattle.mdblock_definitions.proofs.Without.{blocks-can-be-without, blocks-need-brackets, definitions-can-be-off, definitions-need-brackets}
use Rattle.mdblock_definitions.specs.Blocks as defined
use Rattle.mdblock_table_marks.specs.Cells.{celled}
use Rattle.mdblock_text_lines.proofs.BlocksAreThose.{blocks-are-those}
use Rattle.mdblock_text_lines.specs.DocumentBlocks as told
use Rattle.mdblock_definitions.specs.Labelled.{is_one_of}
use Rattle.mdblock_definitions.specs.Laws.{HasNoBracket, NothingIsDefined, begins_with_bracket}
use Rattle.mdblock_definitions.specs.Skeleton.{written_labels}
use Rattle.mddocument.proofs.FlowTexts.Chained.{IsAt, first-at, kept-at, kept-starts, next-at, starts_in}
use Rattle.mddocument.proofs.FlowTexts.Chunks.{chain-is, chain-next, chain-starts}
use Rattle.mddocument.proofs.FlowTexts.Segments.{HasByte, IsKept}
use Rattle.mddocument.proofs.FlowTexts.Whole.{inlines-are-read}
use Rattle.mddocument.proofs.InContainers.Merged.{IsBare}
use Rattle.mddocument.specs.DocumentEvents.{document_events, document_texts, is_defined_in}
use Rattle.mddocument.specs.Documents.{document, virtual_bytes}
use Rattle.mddocument.proofs.DefinedLabels.{labels-are-defined}
use Rattle.mddocument.specs.FlowTexts.{flow_inlines}
use Rattle.mddocument_parts.proofs.Events.{full-lines, in-blocks}
use Rattle.mddocument_parts.proofs.Links.{blocks-link-back}
use Rattle.mddocument_parts.proofs.WithoutContainers.CutOff.{IsCutOff, IsPlain, cut-off}
use Rattle.mddocument_parts.proofs.WithoutContainers.OneChild.{IsFresh, linked-on, meet-below, moved_on, one-changed, placed-unlinked}
use Rattle.mddocument_parts.proofs.WithoutContainers.PlainParts.{marks-alone, parts-alone, whole_marks, all-plain, plain-bare, plain-length, plain-letters, plain_rows}
use Rattle.mddocument_parts.specs.WithoutContainers.{DocumentsWithoutContainers, defines_nothing}

-- ==== A document that defines nothing has the blocks of its containers alone, and no label is defined in it.
every-bare : (all : List Row) → list_all (λ (row : Row). not (begins_with_bracket (rest_of row))) all ≡ true → AllByRecursion HasNoBracket all
every-bare [] h = tt
every-bare (row ∷ all) h =
    let here = not (begins_with_bracket (rest_of row)) in
    let more = list_all (λ (other : Row). not (begins_with_bracket (rest_of other))) all in
    (not-true (begins_with_bracket (rest_of row)) (and-left here more h), every-bare all (and-right here more h))

-- so its definitions are none, and their labels are none
none-normalised : (labels : List (List ℕ)) → map normalised labels ≡ [] → labels ≡ []
none-normalised [] h = refl
none-normalised (label ∷ labels) h = absurd (cc)

module _ (options : ParseOptions) (bytes : List ℕ) (untabled : options.constructs.gfm_table ≡ false) (nothing : defines_nothing options bytes ≡ true) where
  abbrev g : Given
  g = document options bytes

  abbrev bare : Bool
  bare = list_all (λ (row : Row). not (begins_with_bracket (rest_of row))) (rows options.constructs (lines_in (virtual_bytes options bytes)))

  -- what holds where definitions are off, and where no line has a bracket in front, holds
  by : (P : Type 0) → (options.constructs.definition ≡ false → P) → (AllByRecursion HasNoBracket (rows options.constructs (lines_in (virtual_bytes options bytes))) → P) → P
  by P off none = cases options.constructs.definition refl nothing
    where
      cases : (b : Bool) → options.constructs.definition ≡ b → (not b || bare) ≡ true → P
      cases false e h = off e
      cases true e h = none (every-bare (rows options.constructs (lines_in (virtual_bytes options bytes))) h)

  pub nothing-defined : defined.document_blocks g ≡ document_blocks g
  nothing-defined = by (defined.document_blocks g ≡ document_blocks g) (λ off. blocks-can-be-without g off untabled) (blocks-need-brackets g untabled)

  -- no label is defined
  pub no-label-defined : is_defined_in g ≡ no_labels
  no-label-defined =
      let on = options.constructs in
      let seats = virtual_bytes options bytes in
      let none : NothingIsDefined on bytes seats = by (NothingIsDefined on bytes seats) (λ off. definitions-can-be-off on off untabled bytes seats) (definitions-need-brackets on untabled bytes seats) in
      labels-are-defined g ∙ ap is_one_of (none-normalised (written_labels on seats) none.no_labels)

-- ==== A document in which no container begins is read as its leaf blocks are.
-- ---- marks without chunks
plain-linked : (i j : ℕ) (ms : List Mark) → AllByRecursion IsPlain ms → linked_from i ms ≡ linked_from j ms
plain-linked i j [] h = refl
plain-linked i j ((e, None) ∷ ms) h = ap (λ l. e ∷ l) (plain-linked (i + 1) (j + 1) ms h.1)
plain-linked i j ((e, Some chunk) ∷ ms) h = absurd (none-some chunk (sym h.0.0))

plain-unlinked : (i : ℕ) (ms : List Mark) → AllByRecursion IsPlain ms → AllByRecursion IsBare (linked_from i ms)
plain-unlinked i [] h = tt
plain-unlinked i ((e, None) ∷ ms) h = (h.0.1, plain-unlinked (i + 1) ms h.1)
plain-unlinked i ((e, Some chunk) ∷ ms) h = absurd (none-some chunk (sym h.0.0))

plain-kept : (wanted : Option Content) (ms : List Mark) → AllByRecursion IsPlain ms → AllByRecursion (IsKept wanted) ms
plain-kept wanted [] h = tt
plain-kept wanted ((e, None) ∷ ms) h = (h.0.1, plain-kept wanted ms h.1)
plain-kept wanted ((e, Some chunk) ∷ ms) h = absurd (none-some chunk (sym h.0.0))

pub chained-plain : (i j : ℕ) (p : Option ℕ) (ms : List Mark) → AllByRecursion IsPlain ms → chained_from i p ms ≡ linked_from j ms
chained-plain i j p [] h = refl
chained-plain i j p ((e, None) ∷ ms) h = ap (λ l. e ∷ l) (chained-plain (suc i) (j + 1) p ms h.1)
chained-plain i j p ((e, Some chunk) ∷ ms) h = absurd (none-some chunk (sym h.0.0))

-- a chunk alone, as an event
abbrev linked_alone : Event → Event
linked_alone e = record e { link = Some (record { previous = None; next = None; content = content.Content }) }

chained-one : (i j : ℕ) (front : List Mark) (e x : Event) (back : List Mark) → AllByRecursion IsPlain front → AllByRecursion IsPlain back
    → chained_from i None (front ++ ((e, alone content.Content) ∷ (x, None) ∷ back)) ≡ linked_from j (front ++ ((e, alone content.Content) ∷ (x, None) ∷ back))
chained-one i j [] e x back h k = ap (λ l. linked_alone e ∷ x ∷ l) (chained-plain (suc (suc i)) (j + 1 + 1) (Some i) back k)
chained-one i j ((v, None) ∷ front) e x back h k = ap (λ l. v ∷ l) (chained-one (suc i) (j + 1) front e x back h.1 k)
chained-one i j ((v, Some chunk) ∷ front) e x back h k = absurd (none-some chunk (sym h.0.0))

-- ---- the events of marks of leaf blocks have no links of their own
pub fresh-kept : (bytes : List ℕ) → IsKeptBySpans bytes (λ marks seats. AllByRecursion IsFresh marks)
fresh-kept bytes = record {
  none = tt;
  both = λ {xs} {ys} {a} {b} h k. every-append IsFresh xs ys h k;
  leaf = λ n s ss w. (refl, (refl, tt));
  datum = λ c s ss w. (refl, (refl, tt));
  text = λ lines starts w. text-by-chunks bytes (λ marks seats. AllByRecursion IsFresh marks) tt (λ xs ys a b h k. every-append IsFresh xs ys h k) (λ chunk n s ss w. (refl, (refl, tt))) false lines w;
  around = λ n s ss inside other h. (refl, every-append IsFresh inside ((event bytes Exit n (end_after s.end ss), None) ∷ []) h (refl, tt));
}

module _ (g : Given) (is : IsDocument g) where
  abbrev on : Constructs
  on = g.options.constructs

  some : 0 < g.tab
  some = let tab = is.tab.0 in omega (arith, tab)

  abbrev wanted : Option Content
  wanted = Some content.Content

  abbrev child_at : List Event → ℕ → List Event
  child_at events c = flow_events on g.bytes (text_from g events c).seats

  -- a list with the leaf blocks of its chains in their place
  abbrev with_leaves : List Event → List Event
  with_leaves events = with_children wanted events (map (child_at events) (fitting_starts wanted events))

  -- ---- no chunk
  pub none-read : (marks : List Mark) → AllByRecursion IsPlain marks → with_leaves (linked_from 0 marks) ≡ linked_from 0 marks
  none-read marks h =
      let events : List Event = linked_from 0 marks in
      let same : marks ++ [] ≡ marks = append-nil marks in
      let starts : fitting_starts wanted events ≡ [] = ap (starts_in wanted events 0) (linked-length 0 marks ∙ ap length (sym same)) ∙ kept-starts wanted events 0 marks [] (plain-kept wanted marks h) (ap (linked_from 0) (sym same)) in
      ap (λ cs. changed (flat_map chain_changes (divided_over events cs (map (child_at events) cs))) events) starts
      ∙ ap placed (woven-nil 0 events) ∙ placed-unlinked (olds 0 events) 0 events (plain-unlinked 0 marks h)

  -- ---- one chunk
  module _ (front back : List Mark) (s : Seat) (ss : List Seat) (h : AllByRecursion IsPlain front) (b : AllByRecursion IsPlain back) where
    abbrev seats : List Seat
    seats = s ∷ ss

    abbrev rest : List Mark
    rest = chunk_span g.bytes (alone content.Content) name.Data seats [] ++ back

    abbrev events : List Event
    events = linked_from 0 (front ++ rest)

    abbrev k : ℕ
    k = 0 + length front

    at : IsAt events k rest
    at = kept-at events 0 front rest refl

    at-back : IsAt events (k + 2) back
    at-back = chain-next content.Content g events k false (seats ∷ []) back (tt, tt) at

    starts : fitting_starts wanted events ≡ k ∷ []
    starts =
        let same : back ++ [] ≡ back = append-nil back in
        ap (starts_in wanted events 0) (linked-length 0 (front ++ rest))
        ∙ kept-starts wanted events 0 front rest (plain-kept wanted front h) refl
        ∙ chain-starts content.Content g events wanted refl k seats [] back (tt, tt) at
        ∙ ap (λ l. k ∷ l) (ap (starts_in wanted events (k + 2)) (ap length (sym same)) ∙ kept-starts wanted events (k + 2) back [] (plain-kept wanted back b) (at-back ∙ ap (linked_from (k + 2)) (sym same)))

    abbrev enter : Event
    enter = mark_at k (event g.bytes Enter name.Data s.point, alone content.Content)

    abbrev exit : Event
    exit = event g.bytes Exit name.Data (end_after s.end ss)

    at-enter : slice_get events k ≡ Some enter
    at-enter = first-at events k (event g.bytes Enter name.Data s.point, alone content.Content) ((exit, None) ∷ back) at

    at-exit : slice_get events (k + 1) ≡ Some exit
    at-exit = first-at events (k + 1) (exit, None) back (next-at events k (event g.bytes Enter name.Data s.point, alone content.Content) ((exit, None) ∷ back) at)

    chain : chain_of events k ≡ k ∷ []
    chain =
        let room = slice_get_within events k enter at-enter in
        chain-is content.Content g events (length events) k false seats [] back (omega (arith, room)) (tt, tt) at

    module _ (before behind : List Seat) (whole : virtual g.tab g.bytes ≡ before ++ (seats ++ behind)) where
      text-is : (text_from g events k).seats ≡ seats
      text-is =
          let q = end_after (origin g.tab g.bytes some) before in
          let run : IsChain g.tab g.bytes q (seats ++ behind) = chain-from g.tab g.bytes some before (seats ++ behind) whole in
          let from : place_at events k ≡ q = place-at-event events k enter at-enter ∙ run.1.shown_is in
          let to : place_at events (k + 1) ≡ end_after q seats = place-at-event events (k + 1) exit at-exit ∙ place-shown g.tab g.bytes q seats behind run in
          ap (λ ks. (text_of_chain g events ks).seats) chain
          ∙ chain-seats g events k []
          ∙ append-nil (chunk_seats g events k)
          ∙ (λ j. filter (in_range (from j) (to j)) (virtual g.tab g.bytes))
          ∙ range-of g.tab g.bytes some before seats behind whole

      abbrev child : List Event
      child = flow_events on g.bytes seats

      child-below : IsReady g.tab g.bytes wanted events → AllByRecursion (EndsBelow (length child)) child
      child-below ready =
          let start : begins wanted events k ≡ true = rw (at-enter) refl in
          let text = is-text g events is content.Content ready k start in
          subst (λ ss. let c = flow_events on g.bytes ss in AllByRecursion (EndsBelow (length c)) c) text-is
          (meet-below AcrossGap (child_at events k) (blocks-meet g (text_from g events k) text))

      one-read : IsReady g.tab g.bytes wanted events → with_leaves events ≡ linked_from 0 (front ++ (leaf_blocks_marks g.bytes (leaf_blocks on (lines_in seats)) ++ back))
      one-read ready =
          let fs : List Event = linked_from 0 front in
          let bs : List Event = linked_from (k + 1 + 1) back in
          let inside = leaf_blocks_marks g.bytes (leaf_blocks on (lines_in seats)) in
          let events_are : events ≡ fs ++ (enter ∷ exit ∷ bs) = linked-append 0 front rest in
          let long : length fs ≡ k = linked-length 0 front ∙ omega arith in
          let back_links = (blocks-link-back g.bytes (leaf_blocks on (lines_in seats)) (in-blocks HasByte on (lines_in seats) (full-lines seats))).links in
          let fresh = leaf-blocks-keep on g.bytes (λ marks seats. AllByRecursion IsFresh marks) (fresh-kept g.bytes) seats in
          let moved : linked_from k inside ≡ map (moved_on k) child = linked-on k inside 0 k (omega arith) back_links fresh in
          ap (λ cs. changed (flat_map chain_changes (divided_over events cs (map (child_at events) cs))) events) starts
          ∙ ap (λ ws. changed ws events) (append-nil (chain_changes (record { chunks = chain_of events k; parts = parts (map (λ j. place_at events (j + 1)) (chain_of events k)) (child_at events k) })))
          ∙ (λ i. changed (part_changes (first_chunk (chain i)) 0 (chain i) (parts (map (λ j. place_at events (j + 1)) (chain i)) (flow_events on g.bytes (text-is i)))) events)
          ∙ (λ i. changed (part_changes (sym long i) 0 (sym long i ∷ []) (child ∷ [])) (events_are i))
          ∙ one-changed fs bs child enter exit (plain-unlinked 0 front h) (plain-unlinked (k + 1 + 1) back b) (child-below ready)
          ∙ (λ i. fs ++ (map (moved_on (long i)) child ++ plain-linked (k + 1 + 1) (k + length inside) back b i))
          ∙ (λ i. fs ++ (sym moved i ++ linked_from (k + length inside) back))
          ∙ sym (linked-append 0 front (inside ++ back) ∙ ap (λ r. fs ++ r) (linked-append k inside back))

  -- ---- the document
  module _ (none : list_all (λ (row : Row). has_none row.begun) (rows on (lines_in (virtual g.tab g.bytes))) ≡ true) where
    abbrev lines : List Line
    lines = lines_in (virtual g.tab g.bytes)

    abbrev plain : List Row
    plain = plain_rows on closed 1 lines

    rows-are : rows on lines ≡ plain
    rows-are = all-plain on lines none

    letters-none : lazy_underlines on (virtual g.tab g.bytes) ≡ []
    letters-none = ap (flat_map (lazy_underline on)) rows-are ∙ plain-letters on closed 1 lines

    shown-same : with_lazy_letters g ≡ g
    shown-same = ap (λ (bs : List ℕ). record g { bytes = bs }) (ap (λ at. with_letters at g.bytes) letters-none ∙ no_letters_from 0 g.bytes)

    marks-are : parts_marks g.bytes (skeletons.parts (rows on lines)) ≡ flat_map (whole_marks g.bytes) (parts_in (length plain) plain)
    marks-are = ap (λ rs. parts_marks g.bytes (skeletons.parts rs)) rows-are ∙ marks-alone g.bytes (parts_in (length plain) plain) (parts-alone (length plain) plain (plain-bare on closed 1 lines))

    cut : IsCutOff g.bytes on (flat_map (whole_marks g.bytes) (parts_in (length plain) plain)) lines
    cut = let long = plain-length on closed 1 lines in cut-off g.bytes on (length plain) 1 lines (omega (arith, long)) (document_lines g.tab g.bytes) (lines_end (virtual g.tab g.bytes))

    -- by the chunk
    read-by : (front back : List Mark) (seats before behind : List Seat) → AllByRecursion IsPlain front → AllByRecursion IsPlain back → virtual g.tab g.bytes ≡ before ++ (seats ++ behind)
        → document_skeleton g ≡ chained_from 0 None (front ++ (chunk_span g.bytes (alone content.Content) name.Data seats [] ++ back))
        → with_leaves (document_skeleton g) ≡ linked_from 0 (front ++ (leaf_blocks_marks g.bytes (leaf_blocks on (lines_in seats)) ++ back))
    read-by front back [] before behind h b whole e = ap with_leaves (e ∙ chained-plain 0 0 None (front ++ back) (every-append IsPlain front back h b)) ∙ none-read (front ++ back) (every-append IsPlain front back h b)
    read-by front back (s ∷ ss) before behind h b whole e =
        let are = e ∙ chained-one 0 0 front (event g.bytes Enter name.Data s.point) (event g.bytes Exit name.Data (end_after s.end ss)) back h b in
        ap with_leaves are ∙ one-read front back s ss h b before behind whole (subst (IsReady g.tab g.bytes wanted) are (skeletons_are_ready g is wanted))

    pub blocks-are : document_blocks g ≡ flow_events on g.bytes (virtual g.tab g.bytes)
    blocks-are =
        let e = document_skeleton g in
        ap (λ (shown : Given). with_children wanted e (map (λ c. flow_events on shown.bytes (text_from shown e c).seats) (fitting_starts wanted e))) shown-same
        ∙ read-by cut.front cut.back cut.seats cut.before cut.behind cut.front_plain cut.back_plain (sym (lines-are-all (virtual g.tab g.bytes)) ∙ cut.whole) (ap (chained_from 0 None) (marks-are ∙ cut.skeleton))
        ∙ ap (linked_from 0) (sym cut.blocks)

    module _ (same : told.document_blocks g ≡ document_blocks g) (nothing : is_defined_in g ≡ no_labels) where
      texts-are : document_texts g ≡ flow_inlines g.options g.bytes (virtual g.tab g.bytes)
      texts-are =
          (λ i. with_string_chunks g (with_inlines (nothing i) g ((same ∙ blocks-are) i))) ∙ inlines-are-read g (whole_text g) (whole-is-text g is)

      pub events-are : document_events g ≡ with_strings on g.tab g.bytes (flow_inlines g.options g.bytes (virtual g.tab g.bytes))
      events-are = ap (with_strings on g.tab g.bytes) texts-are

pub documents-without-containers : DocumentsWithoutContainers
documents-without-containers options bytes is untabled none nothing =
    let g = document options bytes in
    let leaves = told.document_leaf_blocks g in
    let plain : told.document_blocks g ≡ leaves = ap (λ b. cond b (celled false leaves) leaves) untabled in
    let same = plain ∙ blocks-are-those g is ∙ nothing-defined options bytes untabled nothing in
    (same ∙ blocks-are g is none, events-are g is none same (no-label-defined options bytes untabled nothing))
