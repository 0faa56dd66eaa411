-- What the proofs of this crate cite from below them: words of std, of the crates below and of specs.
pub use Rattle.std.proofs.Common.{Bool, List, None, Option, Some, [], ap, append-nil, append_assoc, arith, cond, drop, false, inl, inr, length, map, not, refl, reverse, subst, suc, sym, take, true, zero, ℕ, ◌++◌, ◌+◌, ◌-◌, ◌==◌, ◌∙◌, ◌∷◌, ◌≡◌, ◌⊎◌}
pub use Rattle.std.proofs.lemmas.Bool.{and_from, and_parts, cases_Bool, cond_both, false_from_ne_true, false≢true, not-true, or_cases, or_left, or_right}
pub use Rattle.std.specs.List.{AllByRecursion, between, flat_map}
pub use Rattle.std.specs.Prelude.{codes, is_some, nat_le, nat_lt, option_and_then, option_map, slice_get, unwrap_or, ◌&&◌, ◌||◌}
pub use Rattle.markdown_base.proofs.Common.{drop-at, every-append, every-drop}
pub use Rattle.markdown_base.specs.Events.{IsBalanced, empty, is_enter, relinked, same_name, span, with_ends}
pub use Rattle.markdown_base.specs.Virtual.{Seat, end_after, point, virtual}
pub use Rattle.markdown_base.specs.declared.configuration.Constructs.{Constructs}
pub use Rattle.markdown_base.specs.declared.event.Content.{Content}
pub use Rattle.markdown_base.specs.declared.event.Event.{Event}
pub use Rattle.markdown_base.specs.declared.event.Kind.{Kind}
pub use Rattle.markdown_base.specs.declared.event.Kind.TheVariants.{Enter, Exit}
pub use Rattle.markdown_base.specs.declared.event.Name.{Name}
pub use Rattle.markdown_base.specs.declared.event.Point.{Point}
pub use Rattle.markdown_base.proofs.Balanced.{IsBalanced-append, names_after_all-append, names_after_balanced, same_name-true}
pub use Rattle.markdown_edits.specs.Links.{content_at, content_of, next_of}
pub use Rattle.markdown_base.specs.OpenNames.{names_after_all}
pub use Rattle.markdown_edits.specs.SpanWalks.{is_wanted}
pub use Rattle.markdown_tokenizer.proofs.Positions.Order.{every-all, every-back, every-front}
pub use Rattle.markdown_tokenizer.specs.Text.{Given, IsDocument}
pub use Rattle.markdown_children.proofs.ChainOrder.Following.{Fits, chunk, fits_next, some_content}
pub use Rattle.markdown_children.specs.Chains.{begins, fitting_starts}
pub use Rattle.markdown_children.specs.Ready.{IsReady}
pub use Rattle.mdconstructs_machines.specs.LineEvents.{all_of, ending_of, line_text, lines_in}
pub use Rattle.mdconstructs_machines.specs.Spans.{event}
pub use Rattle.mdinline_labels.specs.declared.definitions.Definition.{Definition}
pub use Rattle.mdinline_emphasis.specs.Emphasis.{Run, closings, data_of, emphasised, events_of_runs, inner_name, later, markers_of_all, openings, outer_name, paired, unlinked_event}
pub use Rattle.mdblock_leaf_blocks.specs.LeafBlocks.{LeafBlock, Line, atx_heading, blank_line, break_line, bytes_of, fenced_code, html_block, indented_code, leaf_blocks, paragraph, setext_heading}
pub use Rattle.mdblock_leaf_blocks.specs.LeafEvents.{Chunk, Mark, block_span, body, chunk_span, code_marks, flow_events, last_end, leaf_block_marks, leaf_marks, linked_from, span_marks, string_chunk, text_chunk, text_marks, underline_marks, white}
pub use Rattle.mdblock_leaf_blocks.specs.LineKinds.{indent}
pub use Rattle.mdblock_lines.specs.Containers.{Container, Item, Prefix, footnote, item, quote}
pub use Rattle.mdblock_containers.proofs.FrameFacts.{Turn, all_entered, entered, left_is}
pub use Rattle.mdblock_containers.specs.Lists.{block_names, item_names, list_names}
pub use Rattle.mdblock_containers.specs.Rows.{Row, has_none, nothing_known, rest_of}
pub use Rattle.mdblock_containers.specs.Skeleton.{Frame, Part, Piece, begin_of, begun_all, begun_marks, chained_from, chunks_of, end_of, ending_marks, enters_of, exits, frames_at, frames_of, further, going_marks, going_on_at, inside_of, is_held, joined_pieces, last_line, list_at, list_begun, list_name, next_chunk, parts, parts_in, pieces_of, prefixes_marks, shared, standing}
pub use Rattle.mdblock_definitions.specs.Blocks.{document_skeleton}
pub use Rattle.mdblock_definitions.specs.Rows.{Known, known_after, row_of, rows, rows_from}
pub use Rattle.mdblock_definitions.specs.Sections.{Inside, Section, before_defined, begins_text, cut, defined, defined_in, defining, in_same, lines, paragraph_of, sections, sections_in, sections_of, sections_of_cut, table, tabled, text_in, undefined}
pub use Rattle.mdblock_definitions.specs.Skeleton.{all_rows, behind_marks, inside_marks, section_marks, sections_marks}
pub use Rattle.mdblock_text_lines.proofs.BlocksAreThose.{blocks-are-those}
pub use Rattle.mdblock_text_lines.specs.DocumentBlocks.{document_blocks}
pub use Rattle.mddocument.proofs.Walks.InnerTexts.{AnySeat, any-each, any-lines, any-seats}
pub use Rattle.mddocument.proofs.Walks.MarksWalk.{Walk, leafs, whites}
pub use Rattle.mddocument.proofs.Walks.SkeletonWalk.{AreInDefinition, MayPrefix, PieceIs, RowAt, definitions-are, places, prefixes, stretch-is}
pub use Rattle.mddocument_rules.specs.Standing.{all_stand, between_names, holds_blocks, inline_names, is_in, is_outside_links, may_stand, text_names}
pub use Rattle.mddocument_rules.specs.StandingLaws.{BlocksStand, LeafBlocksStand, SkeletonsStand}
pub use Rattle.mddocument_rules.specs.TextLaws.{EmphasisStands, IsPiece, LinksStand, StandApart, StandInTexts}
