-- Documents at a rest: their events are those of their parts, of which the second is moved; and which labels they ask for.
use Rattle.std.specs.Prelude.{◌≡◌, ℕ, Bool, true, List, ◌++◌, length, map, Some}
use Rattle.std.specs.List.{flat_map}
use Rattle.markdown_base.specs.declared.configuration.ParseOptions.{ParseOptions}
use Rattle.markdown_base.specs.declared.event.Content.TheVariants.{Text}
use Rattle.markdown_base.specs.declared.event.Event.{Event}
use Rattle.markdown_tokenizer.specs.Text.{IsDocument}
use Rattle.markdown_children.specs.Chains.{fitting_starts}
use Rattle.mdinline_text_machine.specs.ReadChains.{chain_text}
use Rattle.mdblock_text_lines.specs.DocumentBlocks.{document_blocks}
use Rattle.mddocument.specs.DocumentEvents.{is_defined_in}
use Rattle.mddocument.specs.Documents.{AreDocumentEvents, document}
use Rattle.mdinline_machine.specs.InlineChains.{with_inlines, with_strings as with_string_chunks}
use Rattle.mddocument_parts.specs.Asked.{Agree, asked_labels}
use Rattle.mddocument_parts.specs.DocumentRests.{begins_at_document_rest}
use Rattle.mddocument_parts.specs.Moved.{line_endings, moved_event}
use Rattle.mddocument_parts.specs.Sections.{are_sections_by, document_of, events_of_sections}
use Rattle.mdinline_link_strings.specs.Strings.{with_strings}

module _ (options : ParseOptions) where
  -- the blocks of bytes that are a document
  abbrev pub blocks_of : (bytes : List ℕ) → List Event
  blocks_of bytes = document_blocks (document options bytes)

  -- Its events, by which labels are defined. (A document's own labels make them the document's events)
  abbrev pub events_by : (defined : List ℕ → Bool) → (bytes : List ℕ) → List Event
  events_by defined bytes =
      let g = document options bytes in
      with_strings options.constructs options.tab_size bytes (with_string_chunks g (with_inlines defined g (blocks_of bytes)))

  -- The labels that are looked up in its texts
  abbrev pub asked_in : (defined : List ℕ → Bool) → (bytes : List ℕ) → List (List ℕ)
  asked_in defined bytes =
      let g = document options bytes in
      let blocks = blocks_of bytes in
      flat_map (λ c. asked_labels bytes options.constructs defined (chain_text g blocks c).seats) (fitting_starts (Some Text) blocks)

  -- The second bytes begin at a rest of the document behind the first
  abbrev pub is_rest : (a b : List ℕ) → Bool
  is_rest a b = begins_at_document_rest options.constructs options.tab_size a b

-- What is read of a document is what is read of its parts, one behind the other: the second moved by the lines, bytes and, in links, the events of the first
abbrev pub IsOfBoth : (read : List ℕ → List Event) → (a b : List ℕ) → Type 0
IsOfBoth read a b = read (a ++ b) ≡ read a ++ map (moved_event (line_endings a) (length a) (length (read a))) (read b)

-- At a rest so are its blocks
abbrev pub DocumentBlocksOfBoth : Type 0
DocumentBlocksOfBoth = (options : ParseOptions) (a b : List ℕ) → IsDocument (document options (a ++ b)) → is_rest options a b ≡ true → IsOfBoth (blocks_of options) a b

-- and its events, whatever labels are defined
abbrev pub DocumentEventsOfBoth : Type 0
DocumentEventsOfBoth = (defined : List ℕ → Bool) (options : ParseOptions) (a b : List ℕ) → IsDocument (document options (a ++ b)) → is_rest options a b ≡ true → IsOfBoth (events_by options defined) a b

-- The events of a document's sections, each read by itself with the document's labels, are those of the document
abbrev pub DocumentSectionsGiveEvents : Type 0
DocumentSectionsGiveEvents = (options : ParseOptions) (sections : List (List ℕ)) → let bytes = document_of sections in IsDocument (document options bytes) → are_sections_by (is_rest options) sections ≡ true
    → AreDocumentEvents options bytes (events_of_sections (events_by options (is_defined_in (document options bytes))) sections)

-- If two sets of labels agree on those that are looked up in it, a document's events are the same by both, and the same labels are looked up
abbrev pub DocumentLabelsDecide : Type 0
DocumentLabelsDecide = (defined others : List ℕ → Bool) (options : ParseOptions) (bytes : List ℕ) → Agree defined others (asked_in options defined bytes)
    → (events_by options others bytes ≡ events_by options defined bytes) × (asked_in options others bytes ≡ asked_in options defined bytes)
