-- What the proofs of this crate cite from below them: words of std, of the crates below and of specs.
pub use Rattle.markdown_base.proofs.Common.{and-right}
pub use Rattle.markdown_base.proofs.Facts.Bools.{and-left}
pub use Rattle.markdown_base.specs.Places.{follows_cr, shown}
pub use Rattle.markdown_base.specs.Virtual.{Seat, begins_with_lf, end_after, end_in_tab, in_tab, line_feed, other_byte, point, tab_width, virtual, virtual_from}
pub use Rattle.markdown_base.specs.declared.configuration.Constructs.{Constructs}
pub use Rattle.markdown_base.specs.declared.event.Event.{Event}
pub use Rattle.markdown_base.specs.declared.event.Kind.{Kind}
pub use Rattle.markdown_base.specs.declared.event.Kind.TheVariants.{Enter, Exit}
pub use Rattle.markdown_base.specs.declared.event.Link.{Link}
pub use Rattle.markdown_base.specs.declared.event.Name.{Name}
pub use Rattle.markdown_base.specs.declared.event.Point.{Point}
pub use Rattle.mddocument.specs.FlowTexts.{block_texts, read_marks}
pub use Rattle.mdblock_leaf_blocks.proofs.Marks.Cuts.{cut, further-within, leaf-blocks-lines}
pub use Rattle.mdblock_leaf_blocks.proofs.Marks.MarkLists.{linked-append, linked-length}
pub use Rattle.mdblock_leaf_blocks.specs.BlockLines.{block_lines}
pub use Rattle.mdblock_leaf_blocks.specs.HtmlLines.{HtmlKind, ends, waits_for_blank}
pub use Rattle.mdblock_leaf_blocks.specs.LeafBlocks.{LeafBlock, Line, atx_heading, blank_line, block_of_kind, blocks_in, break_line, bytes_of, content_at, ends_text, fenced_code, further_code, has_line, html_block, html_block_at, indented_code, interrupts, is_blank, is_indented, leaf_blocks, lines_through, lines_until, paragraph, setext_heading, text_of, underlined}
pub use Rattle.mdblock_leaf_blocks.specs.LeafEvents.{Chunk, Mark, alone, block_around, block_span, body, break_marks, chunk_span, code_fenced_around, code_marks, fence_around, fenced_marks, flow_events, heading_around, html_marks, last_end, leaf_block_marks, leaf_blocks_marks, leaf_marks, line_end, lines_marks, linked_from, sequence_marks, span_marks, string_chunk, text_chunk, text_marks, underline_inside, underline_marks, white}
pub use Rattle.mdblock_leaf_blocks.specs.LineKinds.{Fence, LineKind, blank, closes, fence, heading, heading_text, html, indent, indented, is_blank_line, line_kind, run, text, thematic_break, underline_rank, unindented}
pub use Rattle.mdconstructs_tables.specs.Breaks.{is_white}
pub use Rattle.mdconstructs_machines.specs.LineEvents.{all_of, ending_of, is_line_ending, joined, line_text, lines_in}
pub use Rattle.mdconstructs_machines.specs.Spans.{event}
pub use Rattle.mddocument_parts.specs.Moved.{BlocksMove, BlocksOfBoth, EventsOfBoth, LinesAreCounted, LinesOfBoth, VirtualOfBoth, begins_at_rest, begins_line, first_at_rest, line_endings, moved_block, moved_event, moved_index, moved_line, moved_lines, moved_link, moved_point, moved_seat}
pub use Rattle.mddocument_parts.specs.ReadTexts.{ReadEventsOfBoth, ReadsMove}
pub use Rattle.mddocument_parts.specs.Rests.{RestsCutBlocks, RestsForget, WideRestsCutBlocks, begins_near, goes_on, is_at_rest, is_open, is_open_behind, kind_of_line, last_passes}
pub use Rattle.mddocument_parts.specs.Sections.{FirstLineTells, RestsOfBoth, SectionsGiveEvents, are_sections, are_sections_by, document_of, events_of_sections}
pub use Rattle.std.proofs.Common.{Bool, List, None, Option, Some, [], ap, append_assoc, arith, cond, drop, false, inl, inr, leb-true, length, length-append, length-drop, length-take, lt-ltb, ltb-false, ltb-true, min, nat_le, nat_lt, not, refl, subst, suc, sym, take, true, zero, ℕ, ◌&&◌, ◌++◌, ◌+◌, ◌-◌, ◌<◌, ◌==◌, ◌||◌, ◌∙◌, ◌∷◌, ◌≡◌, ◌≤◌, ◌⊎◌}
pub use Rattle.std.proofs.Math.Bool.{and-false, or-true}
pub use Rattle.std.proofs.lemmas.Bool.{eqb-true, not-false, not-true, or_parts}
pub use Rattle.std.proofs.lemmas.Grind.{flat_map-append}
pub use Rattle.std.proofs.lemmas.List.{append-nil, drop-append-le, drop-map, drop_all, get_or-append-add, get_or_append_left, get_or_past, length-map, map-append, take-append-le, take-map}
pub use Rattle.std.proofs.lemmas.List.Sums.{prefix_len-le-length}
pub use Rattle.std.specs.List.{AllByRecursion, flat_map, prefix_len}
pub use Rattle.std.specs.Prelude.{codes, filter, is_some, map, slice_index}
