-- What the proofs of this crate cite from below them: words of std, of the crates below and of specs.
pub use Rattle.std.proofs.Common.{Bool, List, None, Option, Some, [], ap, arith, cond, drop, false, length, length-append, nat_le, not, refl, slice_get, subst, suc, sym, take, true, ℕ, ◌&&◌, ◌*◌, ◌++◌, ◌+◌, ◌-◌, ◌==◌, ◌||◌, ◌∙◌, ◌∷◌, ◌≡◌, ◌≤◌}
pub use Rattle.std.proofs.Math.Bool.{or-false}
pub use Rattle.std.proofs.Math.Seq.{take-length}
pub use Rattle.std.proofs.lemmas.List.{append-nil, append_assoc, drop-drop, length-drop, length-map, map-append, take-map, take-take, take_at}
pub use Rattle.std.specs.Prelude.{option_and_then}
pub use Rattle.markdown_base.proofs.Common.{drop-next}
pub use Rattle.markdown_base.proofs.Seats.{end-after-one}
pub use Rattle.markdown_base.specs.Virtual.{Seat, end_after}
pub use Rattle.markdown_base.specs.declared.event.Event.{Event}
pub use Rattle.markdown_base.specs.declared.event.Kind.TheVariants.{Enter, Exit}
pub use Rattle.markdown_base.specs.declared.event.Name.{Name as EventName}
pub use Rattle.markdown_base.specs.declared.event.Name.TheVariants.{Data, LineEnding, Reference, ReferenceMarker, ReferenceString, SpaceOrTab}
pub use Rattle.markdown_base.specs.declared.state.Name.{Name}
pub use Rattle.markdown_base.specs.declared.state.State.TheVariants.{Next, Nok, Ok, Retry}
pub use Rattle.markdown_base.specs.declared.state.TheConstants.Name.{LabelEndReferenceFull, LabelEolAfter, LabelEscape, LabelInside, LabelStart}
pub use Rattle.markdown_tokenizer.specs.Configuration.{Choice, Configuration, Local}
pub use Rattle.markdown_tokenizer.specs.Sight.{Sight, byte_of, end_or, end_place, point_or, sight}
pub use Rattle.markdown_tokenizer.specs.Text.{Given, Text}
pub use Rattle.markdown_tokenizer.specs.declared.waiting.Waits.TheVariants.{Byte, Nothing}
pub use Rattle.mdinline_labels.proofs.Steps.{behind-more, behind-none}
pub use Rattle.mdconstructs_machines.proofs.LineReads.Rows.{row_step}
pub use Rattle.mdconstructs_machines.proofs.LineReads.Steps.{at-front, held, place-behind}
pub use Rattle.mdconstructs_tables.specs.Tables.{counts}
pub use Rattle.mdconstructs_tables.proofs.Rows.Calls.{byte-waits, can-exit, can-mark, then}
pub use Rattle.mdconstructs_tables.specs.Rows.{Rows, class_of, consume, enter, exit, row, when, write, writes}
pub use Rattle.mdinline_text_machine.proofs.Plain.Stretches.{goes-next, shows}
pub use Rattle.mdinline_text_machine.proofs.Texts.Leads.{Ending}
pub use Rattle.mdinline_text_machine.proofs.Texts.Steps.{EndsWith, HasRow, HasRows, Leads, Plays, before_class, between_items, leads-row}
pub use Rattle.mdinline_text_machine.specs.Construct.{Found}
pub use Rattle.mdinline_text_machine.specs.Items.{item_length}
pub use Rattle.mdinline_text_machine.specs.Parts.{bytes_of, leaf}
pub use Rattle.mdinline_text_machine.specs.TextBytes.{text_byte}
pub use Rattle.mdinline_link_tails.proofs.Resources.Lines.{feed-first, line-first, take-more}
pub use Rattle.mdinline_full_references.specs.declared.names.TheConstants.{LabelEndReferenceFullEnd, LabelLineWhite}
