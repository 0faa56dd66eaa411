-- What the proofs of this crate cite from below them: words of std, of the crates below and of specs.
pub use Rattle.std.proofs.Common.{None, Option, Some, arith, lit<, refl, rules, subst, ◌≡◌}
pub use Rattle.std.specs.Prelude.{Contains, option_and_then}
pub use Rattle.markdown.specs.Reads.{start_name}
pub use Rattle.markdown.specs.StateConstants.Name.{ContentDefinitionBefore, StringStart, TextStart}
pub use Rattle.markdown.specs.declared.event.Content.{Content}
pub use Rattle.markdown.specs.declared.event.Content.TheVariants.{Flow, String}
pub use Rattle.markdown.specs.declared.state.Name.{Name}
pub use Rattle.mdconstructs_tables.proofs.Rows.Calls.{callable, never-called}
pub use Rattle.mdconstructs_tables.specs.Tables.{counts}
pub use Rattle.mdtests_tables.specs.Starved.{starved, text_start}
