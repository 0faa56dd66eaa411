-- What the proofs of this crate cite from below them: words of std, of the crates below and of specs.
pub use Rattle.std.proofs.Common.{None, [], arith, get_or, inl, inr, refl, subst, sym, ◌∙◌, ◌∷◌}
pub use Rattle.std.specs.Prelude.{drop}
pub use Rattle.markdown.proofs.Runs.Ranges.{HasRanges, ranges-at, ranges-gap, ranges-holds, ranges-passed, ranges-pushed, ranges-range, ranges-start}
pub use Rattle.markdown.proofs.Runs.Whole.{start-is-point}
pub use Rattle.markdown.specs.Engine.{given_by, given_of}
pub use Rattle.markdown.specs.Virtual.{IsWithinLimit}
pub use Rattle.markdown.specs.declared.configuration.ParseOptions.{ParseOptions}
pub use Rattle.markdown.specs.declared.state.State.TheVariants.{Next}
