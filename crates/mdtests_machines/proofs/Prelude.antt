-- What the proofs of this crate cite from below them: words of std, of the crates below and of specs.
pub use Rattle.std.proofs.Common.{Bool, List, None, Option, Some, [], arith, refl, subst, sym, ℕ, ◌<◌}
pub use Rattle.markdown.proofs.Runs.Whole.{start-is-point}
pub use Rattle.markdown.specs.Configuration.{Choice, Configuration, TokenizerValue}
pub use Rattle.markdown.specs.Engine.{given_by, given_of}
pub use Rattle.markdown.specs.StateConstants.Name.{TextStart}
pub use Rattle.markdown.specs.Text.{Given, Text}
pub use Rattle.markdown.specs.Virtual.{IsWithinLimit, point}
pub use Rattle.markdown.specs.declared.configuration.ParseOptions.{ParseOptions}
pub use Rattle.markdown.specs.declared.event.Point.{Point}
pub use Rattle.markdown.specs.declared.state.State.{State}
pub use Rattle.markdown.specs.declared.state.State.TheVariants.{Error, Next, Nok, Ok, Retry}
pub use Rattle.mdconstructs_machines.specs.Laws.Wrap.{wrap-lawful}
pub use Rattle.mdconstructs_tables.specs.RowInvariant.{IsStateAt}
pub use Rattle.mdconstructs_tables.specs.Rows.{StateRows, named}
pub use Rattle.mdconstructs_tables.specs.Tables.{LineByte}
pub use Rattle.mdconstructs_machines.specs.Wrap.{wrap, wrap_rules}
pub use Rattle.mdconstructs_machines.specs.declared.wrap.Resolver.{Resolver}
pub use Rattle.mdconstructs_machines.specs.declared.wrap.Wrap.{Wrap}
pub use Rattle.mdtests_machines.specs.Found.{with_definition}
