-- What the proofs of this crate cite from below them: words of std, of the crates below and of specs.
pub use Rattle.std.proofs.Common.{Bool, List, None, Option, Some, [], ap, arith, cond, false, length, length-append, not, refl, slice_get, subst, suc, sym, true, zero, ℕ, inl, inr, ◌&&◌, ◌*◌, ◌+◌, ◌-◌, ◌<◌, ◌==◌, ◌≡◌, ◌≤◌, ◌∙◌, ◌∷◌}
pub use Rattle.std.proofs.Math.Nat.{mul-add, mul-suc}
pub use Rattle.std.proofs.lemmas.List.{length-map}
pub use Rattle.std.proofs.lemmas.List.Sums.{count_by-le-length, length-filter, sum_by-append, sum_by-cons}
pub use Rattle.std.proofs.lemmas.Option.{get_or_from_slice_get, same_Some}
pub use Rattle.std.specs.List.{AllByRecursion, flat_map, range_with_len, slice_index_or, sum_by}
pub use Rattle.std.specs.Prelude.{AllPairs, Contains, filter, option_and_then, option_map, unwrap_or, ◌^◌}
pub use Rattle.markdown_base.proofs.Facts.Lists.{some-get}
pub use Rattle.markdown_base.specs.declared.event.Content.{Content}
pub use Rattle.markdown_base.specs.declared.event.Event.{Event}
pub use Rattle.markdown_base.specs.declared.event.Kind.{Kind}
pub use Rattle.markdown_base.specs.declared.event.Kind.TheVariants.{Enter, Exit}
pub use Rattle.markdown_base.specs.declared.event.Point.{Point}
pub use Rattle.markdown_base.specs.declared.state.Name.{Name}
pub use Rattle.markdown_base.specs.declared.state.State.TheVariants.{Next}
pub use Rattle.markdown_base.specs.Events.{is_enter}
pub use Rattle.markdown_base.specs.Places.{denotes_same, in_range, stands_before}
pub use Rattle.markdown_base.specs.Virtual.{Seat, point, virtual}
pub use Rattle.markdown_tokenizer.proofs.Positions.Order.{before-upto, every-all, every-kept, not-before}
pub use Rattle.markdown_tokenizer.proofs.Runs.Working.{text-on}
pub use Rattle.markdown_tokenizer.specs.Configuration.{start_configuration}
pub use Rattle.markdown_tokenizer.specs.Reading.{EndsIn}
pub use Rattle.markdown_tokenizer.specs.Rules.{Rules}
pub use Rattle.markdown_tokenizer.specs.Text.{CanFollow, Given, IsDocument, IsText, Text, empty_text, followed_by, followed_by_all, passed, pushed}
pub use Rattle.markdown_tokenizer.specs.declared.subtokenize.Subresult.{Subresult}
pub use Rattle.markdown_children.proofs.ChainOrder.Following.{by_test, chunk, filter-no, filter-yes, follow_one_another, some_content, whole-from}
pub use Rattle.markdown_children.proofs.ChainOrder.Forward.{begins-fits}
pub use Rattle.markdown_children.proofs.ChildReads.Pieces.{chunks_can_be_read}
pub use Rattle.markdown_children.specs.Children.{first_chunk}
pub use Rattle.markdown_children.specs.Chains.{begins, chain_of, content_at, fits, fitting_chunks, fitting_starts}
pub use Rattle.markdown_children.specs.LawStatements.{AreSpaced, IsWholeFrom}
pub use Rattle.markdown_children.specs.Reads.{AreChildren, Child, IsChild, IsSubtokenized, pieces_behind, pieces_of, start_name, text_from, text_of_chain}
pub use Rattle.markdown_children.specs.Ready.{IsReady, place_at}
pub use Rattle.mdconstructs_machines.specs.Innermost.{AccountFor, ended_next, innermost_spans, span_over, stretch_bytes}
pub use Rattle.mddocument_costs.specs.Chains.{AreOf, ChainsAreApart, ChainsAreFew, IsWithin, ReadsWithin, calls_of, chain_bytes, chain_count}
