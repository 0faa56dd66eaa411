-- Documents without containers: they are read as their leaf blocks are.
use Rattle.std.specs.Prelude.{◌≡◌, ◌||◌, not, ℕ, Bool, true, false, List}
use Rattle.std.specs.List.{list_all}
use Rattle.markdown_base.specs.declared.configuration.ParseOptions.{ParseOptions}
use Rattle.markdown_tokenizer.specs.Text.{IsDocument}
use Rattle.mdblock_containers.specs.Rows.{has_none, rest_of, rows}
use Rattle.mdblock_definitions.specs.Laws.{begins_with_bracket}
use Rattle.mdblock_text_lines.specs.DocumentBlocks.{document_blocks}
use Rattle.mddocument.specs.DocumentEvents.{document_events}
use Rattle.mddocument.specs.Documents.{AreFlowEvents, document, virtual_bytes}
use Rattle.mddocument.specs.FlowTexts.{flow_inlines}
use Rattle.mdconstructs_machines.specs.LineEvents.{lines_in}
use Rattle.mdinline_link_strings.specs.Strings.{with_strings}

-- No line of a document begins a block quote, a list item or a footnote definition, so none goes on with one
abbrev pub begins_no_container : ParseOptions → (bytes : List ℕ) → Bool
begins_no_container options bytes = list_all (λ row. has_none row.begun) (rows options.constructs (lines_in (virtual_bytes options bytes)))

-- No line of a document has a bracket in front, behind its prefixes and white space, so none begins a link reference definition; or these are off
abbrev pub defines_nothing : ParseOptions → (bytes : List ℕ) → Bool
defines_nothing options bytes =
    not options.constructs.definition || list_all (λ row. not (begins_with_bracket (rest_of row))) (rows options.constructs (lines_in (virtual_bytes options bytes)))

-- A document of which both hold, without tables, has the events of its leaf blocks and no others: with its chunks, and with its texts and strings read. In the latter the
-- strings are read, too, in which destinations, titles and labels stand
abbrev pub DocumentsWithoutContainers : Type 0
DocumentsWithoutContainers = (options : ParseOptions) (bytes : List ℕ) → IsDocument (document options bytes) → options.constructs.gfm_table ≡ false → begins_no_container options bytes ≡ true → defines_nothing options bytes ≡ true
    → let on = options.constructs in
    AreFlowEvents options bytes (document_blocks (document options bytes))
    × (document_events (document options bytes) ≡ with_strings on options.tab_size bytes (flow_inlines options bytes (virtual_bytes options bytes)))

-- Where block quotes, lists and footnote definitions are off, no line of a document begins one
abbrev pub NoneBeginsWhereOff : Type 0
NoneBeginsWhereOff = (options : ParseOptions) (bytes : List ℕ) → options.constructs.block_quote ≡ false → options.constructs.list_item ≡ false → options.constructs.gfm_footnote_definition ≡ false → begins_no_container options bytes ≡ true
