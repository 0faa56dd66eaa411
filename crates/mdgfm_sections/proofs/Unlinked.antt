-- The events of a document have no links: each chunk of a text or of a string is read.
use Rattle.std.proofs.Common.{◌≡◌, ℕ, zero, suc, ◌++◌, inl, inr, Bool, true, false, cond, List, [], ◌∷◌, Option, Some, None, refl, sym, ap, ◌∙◌}
use Rattle.std.proofs.lemmas.List.{length-map}
use Rattle.std.proofs.lemmas.Option.{none-some, slice_get_within}
use Rattle.std.specs.List.{AllByRecursion}
use Rattle.std.specs.Option.{option_map}
use Rattle.std.specs.Prelude.{◌&&◌, is_some, map, not}
use Rattle.markdown_base.proofs.Common.{every-append}
use Rattle.markdown_base.specs.declared.configuration.ParseOptions.{ParseOptions}
use Rattle.markdown_base.specs.declared.event.Content.{Content}
use Rattle.markdown_base.specs.declared.event.Content.TheVariants as content
use Rattle.markdown_base.specs.declared.event.Event.{Event}
use Rattle.markdown_base.specs.declared.event.Link.{Link}
use Rattle.markdown_children.proofs.ChainOrder.Spaced.{changes_are_apart}
use Rattle.markdown_children.proofs.Parts.InShape.{child-all}
use Rattle.markdown_children.proofs.Parts.Staying.{ts}
use Rattle.markdown_children.specs.Chains.{content_at, fits, fitting_starts, some_fits}
use Rattle.markdown_children.specs.Children.{child_changes, with_children}
use Rattle.markdown_children.specs.Ready.{IsReady}
use Rattle.markdown_edits.proofs.Edits.Survivors.{stays_unless_removed}
use Rattle.markdown_edits.specs.Woven.{of_list, place_in}
use Rattle.markdown_tokenizer.specs.Plain.{HaveNoLinks}
use Rattle.markdown_tokenizer.specs.Text.{Given, IsDocument}
use Rattle.mdinline_link_strings.specs.Strings.{in_string_after, is_data, line_as_string, seats_between, with_strings_from}
use Rattle.mdinline_machine.proofs.InlineChains.{inline-alone}
use Rattle.mdinline_machine.proofs.StringRuns.{string-alone}
use Rattle.mdinline_machine.specs.InlineChains.{with_inlines}
use Rattle.mdinline_machine.specs.InlineEvents.{inline_events}
use Rattle.mdinline_machine.specs.StringEvents.{string_events}
use Rattle.mdinline_text_machine.specs.ChainTexts.{chain_text}
use Rattle.mdblock_text_lines.specs.DocumentBlocks.{document_blocks}
use Rattle.mddocument.proofs.InContainers.Removed.{listed, of_kid, origin-of, removed-fits}
use Rattle.mddocument.proofs.InContainers.Skeletons.{skeleton-laws}
use Rattle.mddocument.proofs.InContainers.Texts.{blocks-textual}
use Rattle.mddocument.proofs.InContainers.TextsFormed.{content-ready, strings-ready}
use Rattle.mddocument.specs.DocumentEvents.{document_events_by, document_texts_by}
use Rattle.mddocument.specs.Documents.{document}
use Rattle.mddocument_parts.specs.BothDocuments.{events_by}

abbrev pub IsUnlinked : Event → Type 0
IsUnlinked e = e.link ≡ None

-- no event is in a chain
abbrev HasNoContent : List Event → Type 0
HasNoContent es = (k : ℕ) (c : Content) → content_at es k ≡ Some c → ⊥

alone-content : (es : List Event) → HaveNoLinks es → HasNoContent es
alone-content [] h k c is = none-some c is
alone-content (e ∷ es) h zero c is = none-some c (sym (ap (option_map (λ (l : Link). l.content)) h.0) ∙ is)
alone-content (e ∷ es) h (suc k) c is = alone-content es h.1 k c is

content-alone : (es : List Event) → HasNoContent es → AllByRecursion IsUnlinked es
content-alone [] h = tt
content-alone (e ∷ es) h = (by e.link refl, content-alone es (λ k. h (suc k)))
  where
    by : (o : Option Link) → e.link ≡ o → e.link ≡ None
    by None is = is
    by (Some l) is = absurd (h 0 l.content (ap (option_map (λ (l : Link). l.content)) is))

alone-all : (es : List Event) → HaveNoLinks es → AllByRecursion IsUnlinked es
alone-all [] h = tt
alone-all (e ∷ es) h = (h.0, alone-all es h.1)

-- what is left in chains if each chunk of a content is read as events without links
module _ (tab : ℕ) (bytes : List ℕ) (wanted : Content) (itself : some_fits (Some wanted) (Some wanted) ≡ true) (events : List Event) (ready : IsReady tab bytes (Some wanted) events) (reads : ℕ → List Event)
    (alone : (c : ℕ) → HaveNoLinks (reads c)) where
  abbrev starts : List ℕ
  starts = fitting_starts (Some wanted) events

  abbrev children : List (List Event)
  children = map reads starts

  none-left : (n p : ℕ) (c : Content) → content_at events n ≡ Some c → c ≡ wanted → place_in (of_list n) (ts tab bytes (Some wanted) events ready children) ≡ Some p → ⊥
  none-left n p c at same place =
      let fit : fits (Some wanted) events n ≡ true = ap (some_fits (Some wanted)) (at ∙ ap Some same) ∙ itself in
      let long = sym (length-map starts reads) in
      let gone = removed-fits tab bytes (Some wanted) events ready children long n fit in
      let chunk = ready.chunks n c at in
      let stays = stays_unless_removed (child_changes (Some wanted) events children) events (changes_are_apart tab bytes (Some wanted) events children ready).fresh n (slice_get_within events n chunk.enter chunk.enter_at) in
      let no : true ≡ false = sym (ap is_some place) ∙ stays ∙ ap not gone in
      cc

  each-alone : (cs : List ℕ) → AllByRecursion HasNoContent (map reads cs)
  each-alone [] = tt
  each-alone (c ∷ cs) = (alone-content (reads c) (alone c), each-alone cs)

  record IsLeft (c : Content) : Type 0 where
    other : c ≡ wanted → ⊥
    index : ℕ
    was : content_at events index ≡ Some c

  left : (p : ℕ) (c : Content) → content_at (with_children (Some wanted) events children) p ≡ Some c → IsLeft c
  left p c at = elim (origin-of tab bytes (Some wanted) events ready children p c at) [
    | listed n place old ↦ record { other = λ same. none-left n p c old same place; index = n; was = old }
    | of_kid d n own ↦ absurd (child-all HasNoContent (λ k c is. none-some c is) starts children (each-alone starts) d n c own)
  ]

module _ (defined : List ℕ → Bool) (g : Given) (is : IsDocument g) where
  abbrev blocks : List Event
  blocks = document_blocks g

  abbrev inlines : List Event
  inlines = with_inlines defined g blocks

  inlines-left : (p : ℕ) (c : Content) → content_at inlines p ≡ Some c → c ≡ content.String
  inlines-left p c at =
      let one = left g.tab g.bytes content.Text refl blocks (content-ready skeleton-laws g is content.Text) (λ c. inline_events defined g (chain_text g blocks c)) (λ c. inline-alone defined g (chain_text g blocks c)) p c at in
      elim (blocks-textual skeleton-laws g is one.index c one.was) [ inl text ↦ absurd (one.other text) | inr string ↦ string ]

  texts-none : HasNoContent (document_texts_by defined g)
  texts-none p c at =
      let one = left g.tab g.bytes content.String refl inlines (strings-ready skeleton-laws g is defined) (λ c. string_events g (chain_text g inlines c)) (λ c. string-alone g (chain_text g inlines c)) p c at in
      one.other (inlines-left one.index c one.was)

  strings-unlinked : (inside : Bool) (es : List Event) → AllByRecursion IsUnlinked es → AllByRecursion IsUnlinked (with_strings_from g.options.constructs g.tab g.bytes inside es)
  strings-unlinked inside [] h = tt
  strings-unlinked inside (e ∷ []) h = h
  strings-unlinked inside (e ∷ f ∷ es) h = by (inside && is_data e f) (strings-unlinked inside es h.1.1) (strings-unlinked (in_string_after inside e) (f ∷ es) h.1)
    where
      line : List Event
      line = line_as_string g.options.constructs g.tab g.bytes e.point f.point

      line-unlinked : AllByRecursion IsUnlinked line
      line-unlinked = alone-all line (string-alone g (record (chain_text g [] 0) { seats = seats_between g.tab g.bytes e.point f.point }))

      by : (t : Bool) → AllByRecursion IsUnlinked (with_strings_from g.options.constructs g.tab g.bytes inside es)
          → AllByRecursion IsUnlinked (with_strings_from g.options.constructs g.tab g.bytes (in_string_after inside e) (f ∷ es))
          → AllByRecursion IsUnlinked (cond t (line ++ with_strings_from g.options.constructs g.tab g.bytes inside es) (e ∷ with_strings_from g.options.constructs g.tab g.bytes (in_string_after inside e) (f ∷ es)))
      by true k l = every-append IsUnlinked line (with_strings_from g.options.constructs g.tab g.bytes inside es) line-unlinked k
      by false k l = (h.0, l)

  pub document-unlinked : AllByRecursion IsUnlinked (document_events_by defined g)
  document-unlinked = strings-unlinked false (document_texts_by defined g) (content-alone (document_texts_by defined g) texts-none)

pub events-unlinked : (options : ParseOptions) (defined : List ℕ → Bool) (bytes : List ℕ) → IsDocument (document options bytes) → AllByRecursion IsUnlinked (events_by options defined bytes)
events-unlinked options defined bytes is = document-unlinked defined (document options bytes) is
