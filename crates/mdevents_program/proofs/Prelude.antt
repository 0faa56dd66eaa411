-- What the proofs of this crate cite from below them: words of std, of the crates below and of specs.
pub use Rattle.std.proofs.Common.{Bool, List, None, Option, Some, T, [], ap, append-nil, append_assoc, arith, drop, eq-zero-or-pos, eqb, eqb→eq, false, get_or, inl, inr, length, length-append, length-drop, length-set, length-take-le, lit<, refl, set, subst, suc, sym, take, take-append-drop, take-take, true, zero, ℕ, ◌%◌, ◌&&◌, ◌*◌, ◌++◌, ◌+◌, ◌-◌, ◌/◌, ◌<◌, ◌^◌, ◌∙◌, ◌∷◌, ◌≡◌, ◌≤◌}
pub use Rattle.std.proofs.KnownBytes.{Appends-nil, Appends-trans, Consumes-trans, Keeps-refl}
pub use Rattle.std.proofs.Math.Nat.{lt_trans}
pub use Rattle.std.proofs.lemmas.Fmt.{decimal_digit, decimal_step, length-decimal-le}
pub use Rattle.std.proofs.lemmas.Grind.{flat_map-append}
pub use Rattle.std.proofs.lemmas.List.{drop-set, set_comm, take_all, take_at, take_more}
pub use Rattle.std.proofs.lemmas.Result.{IfErr-at_err, err_from_is_err_and, on_err_weaker, on_ok_weaker}
pub use Rattle.std.proofs.lemmas.Simd.{put_chunk_is}
pub use Rattle.std.specs.Fmt.{decimal}
pub use Rattle.std.specs.Io.KnownBytes.{Appends, Consumes}
pub use Rattle.std.specs.Option.{option_and_then}
pub use Rattle.std.specs.Prelude.{codes, filter_map, map, string_bytes, unwrap_or}
pub use Rattle.std.specs.Simd.Lanes.{put_chunk}
pub use Rattle.std.specs.Str.{bytes_eq}
pub use Rattle.markdown.specs.Virtual.{IsWithinLimit}
pub use Rattle.markdown.specs.declared.event.Event.{Event}
pub use lib.Ieee.Fits.{and_l, and_r}
pub use Rattle.mdevents_program.specs.Choices.{choice_together}
pub use Rattle.mdevents_program.specs.Arguments.{Spelled, at_most_one, cut, cut_in, deep, deep_in, machine, machine_in, options_of, tab, tab_in, which_of}
pub use Rattle.mdevents_program.specs.ArgumentsInner.{chosen_after, with_value}
pub use Rattle.mdevents_program.specs.Printed.{event_line, printed_column, printed_events, printed_point}
pub use Rattle.mdevents_program.specs.Program.{ArePrintedEvents}
pub use Rattle.mdprograms.specs.Numbers.{decimal_of, tab_size_of}
pub use Rattle.mdevents_program.specs.declared.choice.Choice.{Choice}
pub use Rattle.mdevents_program.specs.declared.arguments.SoFar.{SoFar}
pub use Rattle.mdevents_program.specs.declared.choice.Which.{Which}
pub use Rattle.mdevents_program.specs.declared.choice.Which.TheVariants.{Lines}
pub use Rattle.std.proofs.lemmas.Bool.{ltb-false, ltb-true}
pub use Rattle.std.proofs.lemmas.List.FromFn.{get_or-map-range_with_len}
pub use Rattle.std.specs.List.{range_with_len}
pub use Rattle.std.specs.Prelude.{cond, nat_lt}
pub use Rattle.mdevents_program.specs.Digits.{three_digits}
pub use Rattle.mdevents_program.specs.declared.digits.TheConstants.{NUMBERS, THREES}
pub use Rattle.markdown.specs.declared.event.Point.{Point}
