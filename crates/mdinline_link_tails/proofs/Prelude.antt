-- What the proofs of this crate cite from below them: words of std, of the crates below and of specs.
pub use Rattle.std.proofs.Common.{Bool, List, None, Option, Some, [], ap, arith, cond, drop, false, length, length-append, nat_le, not, refl, slice_get, subst, suc, sym, take, true, zero, ℕ, ◌&&◌, ◌*◌, ◌++◌, ◌+◌, ◌-◌, ◌<◌, ◌==◌, ◌||◌, ◌∙◌, ◌∷◌, ◌≡◌, ◌≤◌}
pub use Rattle.std.proofs.Math.Bool.{and-false, and-true, or-false}
pub use Rattle.std.proofs.lemmas.Bool.{eqb-true}
pub use Rattle.std.proofs.lemmas.Bool.Decides.{nat_tests}
pub use Rattle.std.proofs.lemmas.List.{append-nil, append_assoc, drop-drop, drop-map, drop-take, drop_at, length-drop, length-map, take-take, take_at}
pub use Rattle.std.proofs.lemmas.Slice.{between_is}
pub use Rattle.std.specs.List.{between, flat_map, prefix_len}
pub use Rattle.std.specs.Prelude.{codes, option_and_then}
pub use Rattle.markdown_base.proofs.Common.{drop-next}
pub use Rattle.markdown_base.proofs.Seats.{end-after-one}
pub use Rattle.markdown_base.specs.Virtual.{Seat, end_after, virtual}
pub use Rattle.markdown_base.specs.declared.event.Event.{Event}
pub use Rattle.markdown_base.specs.declared.event.Kind.TheVariants.{Enter, Exit}
pub use Rattle.markdown_base.specs.declared.event.Name.{Name as EventName}
pub use Rattle.markdown_base.specs.declared.event.Name.TheVariants.{Data, LineEnding, Resource, ResourceDestination, ResourceDestinationLiteral, ResourceDestinationLiteralMarker, ResourceDestinationRaw, ResourceDestinationString, ResourceMarker, ResourceTitle, ResourceTitleMarker, ResourceTitleString, SpaceOrTab}
pub use Rattle.markdown_base.specs.declared.state.Name.{Name}
pub use Rattle.markdown_base.specs.declared.state.State.TheVariants.{Next, Nok, Ok, Retry}
pub use Rattle.markdown_base.specs.declared.state.TheConstants.Name.{DestinationEnclosed, DestinationEnclosedBefore, DestinationEnclosedEscape, DestinationRaw, DestinationRawEscape, LabelEndResourceBefore, LabelEndResourceDestinationAfter, LabelEndResourceEnd, LabelEndResourceOpen, LabelEndResourceStart, TitleAfterEol, TitleBegin, TitleEscape, TitleInside, TitleStart}
pub use Rattle.markdown_tokenizer.specs.Calls.{with_local}
pub use Rattle.markdown_tokenizer.specs.Configuration.{Choice, Configuration, Local}
pub use Rattle.markdown_tokenizer.specs.Sight.{Sight, byte_of, end_or, end_place, point_or, sight}
pub use Rattle.markdown_tokenizer.specs.Text.{Given, Text}
pub use Rattle.markdown_tokenizer.specs.declared.waiting.Waits.TheVariants.{Byte, Nothing}
pub use Rattle.mdinline_labels.proofs.Steps.{behind-more, behind-none}
pub use Rattle.mdconstructs_machines.proofs.LineReads.Rows.{row_step}
pub use Rattle.mdconstructs_machines.proofs.LineReads.Steps.{at-front, held, place-behind}
pub use Rattle.mdconstructs_tables.specs.Tables.{counts}
pub use Rattle.mdconstructs_tables.proofs.Rows.Calls.{byte-waits, can-exit, can-mark, then}
pub use Rattle.mdconstructs_tables.specs.Rows.{Act, Rows, class_of, consume, enter, exit, row, when, write}
pub use Rattle.mdinline_text_machine.proofs.CodeSpans.Parts.{more-is, size_b, with_b}
pub use Rattle.mdinline_text_machine.proofs.Plain.Stretches.{first_byte, goes-next, loops, passed, past, past-at, past-stops, shows}
pub use Rattle.mdinline_text_machine.proofs.Texts.Counted.{IsAfter, after-call, remembered}
pub use Rattle.mdinline_text_machine.proofs.Texts.Cutting.{cut-enough, drop-less}
pub use Rattle.mdinline_text_machine.proofs.Texts.Leads.{Ending, spent}
pub use Rattle.mdinline_text_machine.proofs.Texts.Steps.{EndsWith, HasRow, HasRows, Leads, Plays, before_class, between_items, leads-row, tested}
pub use Rattle.mdinline_text_machine.specs.Bytes.{passes}
pub use Rattle.mdinline_text_machine.specs.Construct.{Found}
pub use Rattle.mdinline_text_machine.specs.Items.{item_length}
pub use Rattle.mdinline_text_machine.specs.Parts.{bytes_of, leaf}
pub use Rattle.mdinline_text_machine.specs.TextBytes.{text_byte}
pub use Rattle.mdinline_text_machine.specs.TextSizes.{more_than, size_b_grows}
