-- What the proofs of this crate cite from below them: words of std, of the crates below and of specs.
pub use Rattle.std.proofs.Common.{Bool, List, None, Option, Some, [], ap, cond, false, refl, sym, take, true, true≢false, ℕ, ◌∙◌, ◌∷◌, ◌≡◌}
pub use Rattle.std.proofs.KnownBytes.{Keeps-refl}
pub use Rattle.std.proofs.lemmas.Bool.{or_parts}
pub use Rattle.std.proofs.lemmas.Result.{IfErr-at_err, err_from_is_err_and, on_ok_weaker}
pub use Rattle.std.specs.Io.KnownBytes.{Appends}
pub use Rattle.std.specs.List.{list_any}
pub use Rattle.std.specs.Option.{option_and_then, option_map}
pub use Rattle.std.specs.Prelude.{map, string_bytes}
pub use Rattle.markdown_base.specs.declared.configuration.Options.{Options}
pub use Rattle.mdhtml_program.specs.Arguments.{asks_gfm, asks_two_tildes, choice_of_words, chosen_after, lets_all, nothing_chosen, once, options_of, stands_alone, tab_of, with_value, with_word}
pub use Rattle.mdhtml_program.specs.Program.{IsHtmlOfRead, html_by}
pub use Rattle.mdhtml_program.specs.declared.arguments.Choice.{Choice}
