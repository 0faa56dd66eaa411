-- What the proofs of this crate cite from below them: words of std, of the crates below and of specs.
pub use Rattle.std.proofs.Common.{Bool, List, None, Option, Some, [], ap, append-nil, append_assoc, arith, cond, drop, false, inl, inr, length, length-append, length-drop, map, min, not, refl, reverse, subst, suc, sym, take, take-append-drop, true, zero, zero-add, ℕ, ◌++◌, ◌+◌, ◌-◌, ◌<◌, ◌==◌, ◌∙◌, ◌∷◌, ◌≡◌, ◌≤◌, ◌⊎◌}
pub use Rattle.std.proofs.Math.Dec.{eqb-suc-zero}
pub use Rattle.std.proofs.lemmas.Bool.{and_from, and_parts, and_right, cases_Bool, cond_both, eq-eqb, eqb-true, false_from_ne_true, false≢true, leb-true, ne_eqb, not-true, or_cases, or_left, or_parts, or_right}
pub use Rattle.std.proofs.lemmas.Bool.Decides.{nat_tests}
pub use Rattle.std.proofs.lemmas.Grind.{flat_map-append}
pub use Rattle.std.proofs.lemmas.List.{drop-drop, drop-map, length-map, length-take-le, map-append, nil_from_length, take-map}
pub use Rattle.std.proofs.lemmas.List.Elements.{All-contains_itself, All-from_recursion, All-weaker, recursion_from_All}
pub use Rattle.std.proofs.lemmas.List.Folds.{length-prefix_len, list_any-append}
pub use Rattle.std.proofs.lemmas.List.Sorted.{IsPermutation-append_comm, IsPermutation-append_left, IsPermutation-append_right, IsPermutation-refl, IsPermutation-trans}
pub use Rattle.std.proofs.lemmas.Option.{none-some, same_Some}
pub use Rattle.std.specs.Char.{is_ascii_alphabetic, is_ascii_alphanumeric}
pub use Rattle.std.specs.List.{AllByRecursion, between, filter, flat_map, list_all, list_any, position_or_len, prefix_len, take_while}
pub use Rattle.std.specs.List.Sorted.{IsPermutation}
pub use Rattle.std.specs.Option.{is_some, option_and_then, option_or}
pub use Rattle.std.specs.Prelude.{All, AllPairs, Contains, IsSome, IsSomeAnd, codes, if◌then◌else◌, nat_le, nat_lt, option_map, slice_get, slice_index, ⊤, ◌&&◌, ◌||◌}
pub use Rattle.markdown_base.proofs.Common.{and-right, drop-at, every-append, every-drop, every-filter, every-get, every-map, every-reverse, every-take}
pub use Rattle.markdown_base.proofs.Facts.Bools.{and-left}
pub use Rattle.markdown_base.specs.Events.{IsVoidTight, is_enter, is_void, relinked, same_name, with_ends}
pub use Rattle.markdown_base.specs.Places.{IsPointOf, follows_cr, shown, stands_before}
pub use Rattle.markdown_base.specs.Presets.{default_constructs, default_parse_options}
pub use Rattle.markdown_base.specs.Texts.{html_block_names, html_raw_names}
pub use Rattle.markdown_base.specs.Virtual.{Seat, begins_with_lf, end_after, in_tab, line_feed, other_byte, point, tab_width, virtual, virtual_from}
pub use Rattle.markdown_base.specs.declared.configuration.Constructs.{Constructs}
pub use Rattle.markdown_base.specs.declared.event.Content.{Content}
pub use Rattle.markdown_base.specs.declared.event.Content.TheVariants.{String}
pub use Rattle.markdown_base.specs.declared.event.Event.{Event}
pub use Rattle.markdown_base.specs.declared.event.Kind.TheVariants.{Enter, Exit}
pub use Rattle.markdown_base.specs.declared.event.Name.{Name}
pub use Rattle.markdown_base.specs.declared.event.Name.TheVariants.{AttentionSequence, BlankLineEnding, CharacterReference, Data, Image, Label, LabelEnd, LabelImage, LabelLink, LabelMarker, LabelText, LineEnding, Link, ListOrdered, ListUnordered, Paragraph, Reference, Resource, SpaceOrTab}
pub use Rattle.markdown_base.specs.declared.event.Point.{Point}
pub use Rattle.markdown_base.proofs.Balanced.{same_name-true}
pub use Rattle.markdown_edits.proofs.Edits.Passes.{olds, pass, woven-pass}
pub use Rattle.markdown_edits.specs.Woven.{AreApart, Change, Tagged, as_listed, changed, events_at, is_removed, placed_end, placed_in, woven}
pub use Rattle.markdown_tokenizer.proofs.Positions.Order.{every-all, every-back, every-front}
pub use Rattle.markdown_tokenizer.specs.Text.{Given, IsDocument, IsText, Text, empty_text, followed_by, pushed}
pub use Rattle.markdown_children.proofs.ChainOrder.Following.{Fits, chunk, fits_next, follow_one_another}
pub use Rattle.markdown_children.proofs.ChainOrder.Spaced.{changes_are_apart, length-map_ends, length-parts}
pub use Rattle.markdown_children.proofs.Parts.Kept.{after-step, after_changes, between-none, joined, joined-parts, part_after, split-at, untagged, untagged-child, untagged-olds, with_children_holds}
pub use Rattle.markdown_children.specs.Chains.{chain_of, fitting_starts}
pub use Rattle.markdown_children.specs.Children.{chain_changes, child_changes, first_chunk, part_changes, tagged_child, with_children}
pub use Rattle.markdown_children.specs.LawStatements.{AreSpaced, EndsInVoidEnter, IsTornNowhere, IsWholeFrom, LeadOnFrom, NoneTorn, StandSideBySide}
pub use Rattle.markdown_children.specs.Parts.{Divided, divided, divided_over, front_until, parts}
pub use Rattle.markdown_children.specs.Reads.{text_from}
pub use Rattle.markdown_children.specs.Ready.{IsReady, place_at}
pub use Rattle.mdconstructs_tables.specs.Breaks.{is_white}
pub use Rattle.mdconstructs_machines.specs.LineEvents.{all_of, ending_of, is_line_ending, line_text, lines_in}
pub use Rattle.mdconstructs_machines.specs.Spans.{event, leaf, span}
pub use Rattle.mdinline_text_machine.proofs.Paragraphs.ChainEvents.{all-begin, is-text}
pub use Rattle.mdinline_text_machine.proofs.Paragraphs.ChunksReady.{drop-two}
pub use Rattle.mdinline_text_machine.specs.Bytes.{backticks, has_byte_at, is_ampersand, is_backtick, is_greater_than, is_less_than, is_line_feed, passes}
pub use Rattle.mdinline_text_machine.specs.ChainTexts.{chain_text}
pub use Rattle.mdinline_text_machine.specs.Construct.{BracketMark, Found, Grammar, fails, first_there, if_on, makes, opens, or_else, plain}
pub use Rattle.mdinline_text_machine.specs.Escape.{escape, escape_at}
pub use Rattle.mdinline_text_machine.specs.Items.{item_length}
pub use Rattle.mdinline_text_machine.specs.Parts.{cut, cut_remembering, line_ending, part, part_events, part_length, plain_run}
pub use Rattle.mdinline_text_machine.specs.TextEvents.{item_events}
pub use Rattle.mdinline_labels.specs.Definitions.{definitions, end}
pub use Rattle.mdinline_labels.specs.declared.definitions.Definition.{Definition}
pub use Rattle.mdinline_labels.specs.declared.definitions.Stretch.{Stretch}
pub use Rattle.mdinline_emphasis.specs.Emphasis.{Delimiter, Pair, Run, all_in_pairs, close_pairs, closes_yet, closings, data_of, emphasised, events_of_runs, gave, in_lists, in_pairs, inner_name, later, look_back, markers_of, markers_of_all, may_pair, on_stack, openings, opens_yet, outer_name, paired, pairs, pairs_from, sequence_name, style_of, styles, unlinked_event}
pub use Rattle.mdinline_emphasis.specs.Runs.{depth_after, index_of_event, is_sequence, run_at, runs_from, runs_in}
pub use Rattle.mdinline_emphasis.specs.declared.pairs.Style.{Style}
pub use Rattle.mdinline_links.proofs.Reached.{runs-ascend}
pub use Rattle.mdinline_links.specs.Kept.{IsFresh, IsKept, is_made_of}
pub use Rattle.mdinline_links.specs.Laid.{AreAscending}
pub use Rattle.mdinline_links.specs.Linked.{SoFar, Waiting, added, all_parts, around, as_data, emphasised_parts, ended, events, failed, is_bracket, is_run, is_tail, label_text, last_place, made, opened, outermost_spans, part_of, runs_of_parts, span_at, spanning, spans_in, taken, with_links}
pub use Rattle.mdinline_constructs.specs.Reference.{Kind, body_at, decimal, hexadecimal, is_number_sign, is_semicolon, is_value, is_value_byte, is_x, mark_events, marks, named, number_at, reference, reference_at, value_at}
pub use Rattle.mdinline_constructs.specs.StringItems.{string_data, string_item_at, string_part, string_seat_events}
pub use Rattle.mdinline_constructs.specs.WhiteSpace.{white_space, white_space_at}
pub use Rattle.mdinline_link_strings.specs.StringItems.{is_string_special, string_grammars, string_items}
pub use Rattle.mdinline_link_strings.specs.Strings.{in_string_after, is_data, line_as_string, seats_between, with_strings, with_strings_from}
pub use Rattle.mdinline_machine.specs.Brackets.{Bracket, Memory, after_item, are_brackets, before_link, begins_end, begins_link, bracket_at, bytes_before, collapsed_reference, end_at, end_of_last, has_bracket, image_bracket, is_image_bracket, is_wanted_at, label_end, link_bracket, lone_end, no_tail, nothing_read, own_is_defined, own_tail, spanned_bytes, tail_of, waiting_behind}
pub use Rattle.mdinline_machine.specs.InlineEvents.{bracket_or_part, data_length, data_run, delimiter_run, inline_events, inline_grammars, inline_item_at, inline_items, read_events, run_length, run_or_part}
pub use Rattle.mdinline_machine.specs.LawStatements.{with_inlines}
pub use Rattle.mdinline_machine.specs.RunRows.{begins_run}
pub use Rattle.mdinline_machine.specs.StringEvents.{string_events}
pub use Rattle.mdblock_leaf_blocks.proofs.Marks.Courses.{Course, course-every, course-on, course-place, text-course}
pub use Rattle.mdblock_leaf_blocks.specs.BlockLines.{block_lines}
pub use Rattle.mdblock_leaf_blocks.specs.ChunksJoin.{AcrossGap}
pub use Rattle.mdblock_leaf_blocks.specs.HtmlLines.{HtmlKind, any_tag, begins, behind_name, block_tag, cdata, comment, declaration, ends_name, first_passes, html_kind, instruction, is_block_name, is_closing_tag, is_named, is_open_tag, lower, name_at, raw, starts_with, tag_name}
pub use Rattle.mdblock_leaf_blocks.specs.LeafBlocks.{LeafBlock, Line, atx_heading, blank_line, block_of_kind, blocks_in, break_line, bytes_of, content_at, ends_text, fenced_code, further_code, html_block, indented_code, leaf_blocks, lines_through, lines_until, paragraph, setext_heading, text_of, underlined}
pub use Rattle.mdblock_leaf_blocks.specs.LeafEvents.{Chunk, Mark, block_around, block_span, body, break_marks, chunk_span, code_fenced_around, code_marks, fence_around, fenced_marks, flow_events, heading_around, html_marks, last_end, leaf_block_marks, leaf_blocks_marks, leaf_marks, line_end, lines_marks, linked_from, sequence_marks, span_marks, string_chunk, text_chunk, text_marks, underline_marks, white}
pub use Rattle.mdblock_leaf_blocks.specs.LineKinds.{Fence, LineKind, begins_with, blank, closes, fence, heading, heading_text, html, indent, indented, is_atx_heading, is_blank_line, is_break_of_marks, is_far, is_fence_of, is_thematic_break, is_underline_of_marks, kind_of_rest, line_kind, run, text, thematic_break, underline_rank, unindented}
pub use Rattle.mdblock_lines.specs.Containers.{Container, Item, Prefix, digits, first_byte, footnote, footnote_at, goes_on, is_footnote, is_marker, item, item_at, may_begin_item, quote, quote_size}
pub use Rattle.mdblock_containers.specs.Prefixes.{beginning, columns_of, containers_of, going_on, in_place_of, with_list}
pub use Rattle.mdblock_containers.specs.Rows.{Before, Row, has_none, is_paragraph, is_raw, nothing_known, rest_of}
pub use Rattle.mdblock_containers.specs.Skeleton.{Frame, Part, Piece, begin_of, begun_all, begun_marks, chained_from, chunks_of, end_of, ending_marks, enters_of, exits, frames_at, frames_of, further, going_marks, going_on_at, inside_of, is_held, joined_pieces, last_line, left_in, list_at, list_begun, list_name, parts_in, pieces_of, prefixes_marks, shared, standing}
pub use Rattle.mdblock_definitions.specs.Blocks.{document_skeleton, shown_as_text}
pub use Rattle.mdblock_definitions.specs.Rows.{Known, known_after, row_of, rows, rows_from}
pub use Rattle.mdblock_definitions.specs.Sections.{Inside, Section, before_defined, begins_text, defined, defined_in, defining, in_same, lines, lines_defined, paragraph_of, sections, sections_in, sections_of, text_in, undefined}
pub use Rattle.mdblock_definitions.specs.Skeleton.{all_rows, behind_definitions, behind_marks, inside_marks, labels_in, labels_of_section, letters, section_marks, sections_in_seats, sections_marks, skeleton}
pub use Rattle.mdblock_text_lines.specs.DocumentBlocks.{document_blocks}
pub use Rattle.mddocument.proofs.InContainers.InlineHolds.{inlines-hold-text}
pub use Rattle.mddocument.proofs.InContainers.Skeletons.{skeleton-laws}
pub use Rattle.mddocument.proofs.InContainers.TextsFormed.{content-ready, strings-ready, texts-orderly}
pub use Rattle.mddocument.proofs.InContainers.Tight.{all-texts, events-tight, inlines-lone, texts-torn}
pub use Rattle.mddocument.specs.DocumentEvents.{document_events, document_texts, is_defined_in}
pub use Rattle.mddocument_laws.specs.EmphasisLaws.{DocumentsHaveSpansOfPairs, DocumentsHaveSpansOfTexts, PairsAreOfRuns, RunsAreApart, RunsHaveMarkers, TextsHaveSpansOfPairs, text_starts}
pub use Rattle.mddocument_laws.specs.EmphasisSpans.{EmphasisSpan, emphasis_spans, is_emphasis, markers_given, spans_behind, spans_of_pairs, spans_of_runs}
pub use Rattle.mddocument_laws.specs.LineStarts.{BlankStartsNothing, HtmlExcludes, KindsHaveNoOrder, LineStart, StartsExclude, atx, block_quote, dashes, equals_signs, footnote_definition, has_own_name, has_precedence, line_break, list_item, markup, starts, ticks, tildes}
pub use Rattle.mddocument_laws.specs.Names.{has_labels, may_be_named}
pub use Rattle.mddocument_laws.specs.PairedApart.{runs_apart, runs_apart_from, runs_inside, runs_outside, spans_of_text}
pub use Rattle.mddocument_laws.specs.Ranks.{EachHeadingTellsItsRank, HasRank, HeadingsHaveRanks, HeadingsTellTheirRanks, byte_of_first, enters, enters_heading, from_first, leaf_blocks_of, rank_at, rank_of, ranks_in, size_of_first}
pub use Rattle.mddocument_laws.specs.ReferencePlaces.{BeginsWithReference, IsMark, IsWholeReference, ReferencesAreSpelled, ReferencesAreWritten, ReferencesOfDocumentsEnd, ReferencesOfDocumentsStand, ReferencesOfInlinesStand, ReferencesOfStringsStand, StandsAtReference, mark_spans, reference_span, span_in_line}
