-- What the proofs of this crate cite from below them: words of std, of the crates below and of specs.
pub use Rattle.std.proofs.Common.{Bool, IfOk, List, None, Option, Some, [], add-one, add_assoc, ap, append_assoc, arith, cond, drop, eq-eqb, eqb-true, false, get_or, inl, inr, length, map, map-id, min, nat_le, nat_lt, ne_eqb, refl, rules, set, subst, suc, sym, take, true, zero, zero-add, ℕ, ◌&&◌, ◌*◌, ◌++◌, ◌+◌, ◌-◌, ◌<◌, ◌^◌, ◌∙◌, ◌∷◌, ◌≡◌, ◌≤◌, ◌⊎◌}
pub use Rattle.std.proofs.Math.Bool.{and-false, and-true, or-false, or_assoc, or_comm}
pub use Rattle.std.proofs.Math.Nat.{mul-le-mul_left, mul-le-mul_right}
pub use Rattle.std.proofs.Math.Seq.{drop-append-add, drop-append_seam, take-add, take-append-add, take-append_seam}
pub use Rattle.std.proofs.lemmas.Bool.{and_from, and_parts, cases_Bool, cases_lt, cases_order, false≢true, le-leb, leb-true, lt-ltb, ltb-false, ltb-true, not_from_false, or_cases, or_left, or_parts, or_right}
pub use Rattle.std.proofs.lemmas.Bool.Decides.{nat_tests}
pub use Rattle.std.proofs.lemmas.Iterator.Adapters.{YieldsList-from_vec}
pub use Rattle.std.proofs.lemmas.List.{append-nil, drop-append-le, drop-drop, drop-map, drop-take, drop_all, drop_at, drop_more, get_or-append-add, get_or-append_right, get_or-drop, get_or-map, get_or-take, get_or_append_left, get_or_past, get_or_push, length-append, length-drop, length-map, length-take, length-take-le, length_push, map-append, take-append-drop, take-append-le, take-map, take-take, take_all, take_at, take_more, take_more_same, take_rest}
pub use Rattle.std.proofs.lemmas.List.Elements.{All-append, All-drop, All-from_get_or, All-from_recursion, All-take, Contains-append_left, Contains-append_right}
pub use Rattle.std.proofs.lemmas.List.Folds.{list_all-append, list_any-append}
pub use Rattle.std.proofs.lemmas.List.Sums.{fold_push, prefix_len-le-length, prefix_len_passes, prefix_len_stops, sum_by-append, sum_by-cons, take_while-cons}
pub use Rattle.std.proofs.lemmas.Option.{cond_some, get_or_from_slice_get, same_Some, slice_get-get_or, slice_get-map, slice_get_past, slice_get_read, slice_get_within}
pub use Rattle.std.proofs.lemmas.Result.{IfOk-weaker, err_from_is_err_and}
pub use Rattle.std.proofs.lemmas.Str.{IsUtf8-encode, IsUtf8-from_is_utf8, chars-encodes, is_utf8-from_IsUtf8, len_utf8_bounds, length-encode}
pub use Rattle.std.specs.List.{AllByRecursion, between, flat_map, list_any, prefix_len, sum_by}
pub use Rattle.std.specs.Option.{unwrap_or}
pub use Rattle.std.specs.Prelude.{All, Contains, Err, IfNone, IfSome, IsUtf8, MatchResult, Ok, Result, chars, find, is_some, not, option_and_then, option_map, slice_get, slice_index, sum, take_while, vec_len, ◌==◌, ◌||◌}
pub use Rattle.std.specs.Str.{all_scalars, continuation_len, encode_utf8_all, is_utf8}
pub use Rattle.std.specs.Vec.Iter.{into_iter_items, into_iter_len, into_iter_steps}
pub use Rattle.std.specs.declared.alloc.Global.{Global}
pub use Rattle.std.specs.declared.vec.Vec.{Vec}
pub use Rattle.markdown_base.proofs.Common.{and-right, drop-at, every-append, every-drop, every-filter, every-map, every-take, get-front}
pub use Rattle.markdown_base.specs.Lines.{ends_line, is_lf, is_line_start}
pub use Rattle.markdown_base.specs.Places.{follows_cr, in_range, shown, stands_before}
pub use Rattle.markdown_base.specs.Virtual.{IsWithinLimit, Seat, begins_with_lf, end_after, in_tab, line_feed, other_byte, tab_width, virtual, virtual_from}
pub use Rattle.markdown_base.specs.declared.configuration.Constructs.{Constructs}
pub use Rattle.markdown_base.specs.declared.configuration.ParseOptions.{ParseOptions}
pub use Rattle.markdown_base.specs.declared.event.Event.{Event}
pub use Rattle.markdown_base.specs.declared.event.Link.{Link}
pub use Rattle.markdown_base.specs.declared.event.Point.{Point}
pub use Rattle.markdown_tokenizer.proofs.Positions.Order.{every-back, every-front}
pub use Rattle.markdown_tokenizer.specs.Text.{Given, IsDocument, IsText, Text}
pub use Rattle.markdown_children.specs.Chains.{begins, chain_of, fitting_starts}
pub use Rattle.mdconstructs_tables.specs.Breaks.{is_white}
pub use Rattle.mdconstructs_machines.specs.LineEvents.{is_line_ending, lines_in}
pub use Rattle.mdinline_text_machine.proofs.DeepSpans.Atoms.{IsCut, OneLine, cut-append, cut-none}
pub use Rattle.mdinline_text_machine.specs.ReadChains.{chain_text}
pub use Rattle.mdinline_labels.specs.Defined.{defines, is_same}
pub use Rattle.mdinline_labels.specs.Labels.{has_no_bracket, hides, is_bracket, is_label}
pub use Rattle.mdinline_labels.specs.declared.labels.Labels.{Labels}
pub use Rattle.mdinline_constructs.specs.WhiteSpace.{white_space}
pub use Rattle.mdinline_machine.specs.Brackets.{Bracket, Memory, after_item, before_link, begins_end, begins_link, bytes_before, end_at, image_bracket, is_image_bracket, is_open_bracket, label_end, link_bracket, lone_end, nothing_read, spanned_bytes, tail_of, waiting_behind}
pub use Rattle.mdinline_machine.specs.InlineEvents.{bracket_or_part, data_length, data_run, delimiter_run, inline_grammars, inline_item_at, line_break, run_length, run_or_part}
pub use Rattle.mdblock_leaf_blocks.proofs.Marks.Courses.{Course, course-every, course-on, course-place, course-upto, text-course}
pub use Rattle.mdblock_leaf_blocks.specs.ChunksJoin.{AcrossGap}
pub use Rattle.mdblock_leaf_blocks.specs.LeafBlocks.{Line, text_of}
pub use Rattle.mdblock_leaf_blocks.specs.LineKinds.{line_kind, underline_rank}
pub use Rattle.mdblock_lines.specs.Lines.{ending_size, line_bytes, line_length}
pub use Rattle.mdblock_containers.proofs.RowFacts.{BeganBefore}
pub use Rattle.mdblock_containers.specs.Rows.{Before, has_none, is_paragraph, open_paragraph}
pub use Rattle.mdblock_containers.specs.Views.{IsRow, before_of, begun_of, leaf_of, open_of}
pub use Rattle.mdblock_containers.specs.declared.rows.Row.{Row}
pub use Rattle.mdblock_definitions.specs.Labelled.{is_one_of}
pub use Rattle.mdblock_definitions.specs.Rows.{Known, is_behind_text, is_used_up, known_after, row_of}
pub use Rattle.mddocument.proofs.Innermost.Lined.{LinedFor, lined-cut}
pub use Rattle.mddocument.specs.Documents.{document}
pub use Rattle.mddocument.proofs.ReferenceBytes.{IsWritten, dark-shown, is_dark, written-virtual}
pub use Rattle.mddocument_parts.proofs.ChildrenOfBoth.{no-further}
pub use Rattle.mddocument_parts.proofs.LineFronts.{line-ahead, line-behind}
pub use Rattle.mddocument_parts.specs.Asked.{asked_from, asked_labels, if_label, label_ahead, label_behind, labels_at, looked_up, own_label}
pub use Rattle.mddocument_parts.specs.BothDocuments.{DocumentLabelsDecide, asked_in, blocks_of, events_by, is_rest}
pub use Rattle.mddocument_parts.specs.DocumentRests.{DocumentFirstLineTells, begins_anew, begins_at_document_rest, first_at_document_rest, is_closed, joins_list, known_at_start, known_behind}
pub use Rattle.mddocument_parts.specs.Moved.{begins_line, line_endings, moved_event, moved_index, moved_line, moved_lines, moved_link, moved_point}
pub use Rattle.mddocument_parts.specs.Rests.{begins_near}
pub use Rattle.mddocument_parts.specs.Sections.{are_sections_by, document_of, events_of_sections}
pub use Rattle.mdgfm_documents.specs.Documents.{gfm_events}
pub use Rattle.mdgfm_sections.specs.Notes.{notes_written}
pub use Rattle.mdgfm_sections.specs.Parts.{gfm_events_by}
pub use Rattle.mddocument_editing.specs.Asking.{AskedLabelsAreInBrackets, BracketsDecide, BytesWithoutEndAskNothing}
pub use Rattle.mddocument_editing.specs.Divided.{Divided, DividedIsUnique, EventsOfAllSectionsAreTheDocuments, IsDivided, bytes_of, events_between, events_of, is_label_of, is_note_of, section_events}
pub use Rattle.mddocument_editing.specs.Edits.{IsChange, IsWhy, KeepsEvents, KeepsTargets, NothingIsNamed, ascend_from, edited, numbers_of, section_of}
pub use Rattle.mddocument_editing.specs.FirstRest.{AreSectionsOf, HasNoRestBefore, IsFirstRest, IsWhole, items_of}
pub use Rattle.mddocument_editing.specs.Fronts.{IsFrontOf, IsSmall, moved_by}
pub use Rattle.mddocument_editing.specs.InBrackets.{AreAllNear, asks_for, changes, is_in_brackets, is_untold, label_ends, may_ask, may_stand}
pub use Rattle.mddocument_editing.specs.Kept.{ArePackable, IsKept, IsLabelled, IsPackable, IsRead, IsRecut, bytes_of_parts, bytes_of_sections, divided_of, has_end, recut_document, recut_sections}
pub use Rattle.mddocument_editing.specs.Known.{AreWritten, Key, is_key_of, is_written, knows, label_of, labels_written, link, note, part_events, written}
pub use Rattle.mddocument_editing.specs.Lookups.{IsSectionAt, line_at, start_of}
pub use Rattle.mddocument_editing.specs.Packed.{end_fits, event_fits, events_fit, link_fits, point_fits}
pub use Rattle.mddocument_editing.specs.PositionParts.{EndingsAdd, OffsetsMove, OffsetsStay, PositionsMove, PositionsStay, StartsLine, down, endings}
pub use Rattle.mddocument_editing.specs.Positions.{CharactersAreUtf8, OffsetsComeBack, Place, PositionsComeBack, UnitsAreWritten, behind, character_in, clamped, first_size, index_in, is_between, is_in_line, length_in, line_of, offset_of, places, places_from, position_of, sizes, sizes_behind, starts, starts_up_to, text_at, units}
pub use Rattle.mddocument_editing.specs.Put.{AreReread, HasEvents, HasLinking, IsReadDocument, looks_up, put_all, put_at, read_again, read_as}
pub use Rattle.mddocument_editing.specs.Seams.{IsSeam}
pub use Rattle.mddocument_editing.specs.Settled.{has_ending, is_settled}
pub use Rattle.mddocument_editing.specs.Trims.{AreTrimmed, StayBehind, StayInFront}
pub use Rattle.mddocument_editing.specs.declared.defined.Defined.{Defined}
pub use Rattle.mddocument_editing.specs.declared.edit.Edit.{Edit}
pub use Rattle.mddocument_editing.specs.declared.edit.Other.{Other}
pub use Rattle.mddocument_editing.specs.declared.edit.Why.{Why}
pub use Rattle.mddocument_editing.specs.declared.kept.Kept.{Kept}
pub use Rattle.mddocument_editing.specs.declared.moved.Front.{Front}
pub use Rattle.mddocument_editing.specs.declared.packed.PackError.TheVariants.{TooLong}
pub use Rattle.mddocument_editing.specs.declared.positions.Encoding.{Encoding}
pub use Rattle.mddocument_editing.specs.declared.positions.Encoding.TheVariants.{Utf16, Utf8}
pub use Rattle.mddocument_editing.specs.declared.positions.Position.{Position}
pub use Rattle.mddocument_editing.specs.declared.reread.Reread.{Reread}
pub use Rattle.mddocument_editing.specs.declared.section.Section.{Section}
