-- The definitions compute what is told of each example.
use Rattle.std.proofs.Common.{◌≡◌, map, refl}
use lib.Utf8.{encode}
use Rattle.std.specs.Char.Unicode.Rows.{by_runs, by_strings}
use Rattle.std.specs.Char.Unicode.ToLowercase.{lowercase_runs, lowercase_strings, to_lowercase}
use Rattle.std.specs.Char.Unicode.ToUppercase.{to_uppercase, uppercase_runs, uppercase_strings}
use Rattle.std.specs.Str.{chars, is_utf8}
use Rattle.mdinline_characters.specs.CharacterReferences.{character_references}
use Rattle.mdinline_characters.specs.References.{characters_of}
use Rattle.mdinline_labels.specs.Labels.{folded_text}
use Rattle.mddocument_link_targets.specs.Examples.{decoded_strings, definitions, inline_links, read_of, references, targets, told_targets}

pub of-inline : targets inline_links ≡ told_targets inline_links
of-inline = refl

pub of-references : targets references ≡ told_targets references
unfolding is_utf8 chars encode folded_text to_lowercase by_strings lowercase_strings by_runs lowercase_runs to_uppercase uppercase_strings uppercase_runs
of-references = refl

pub of-strings : targets decoded_strings ≡ told_targets decoded_strings
unfolding characters_of encode character_references
of-strings = refl

pub of-definitions : map read_of definitions ≡ definitions
unfolding is_utf8 chars encode folded_text to_lowercase by_strings lowercase_strings by_runs lowercase_runs to_uppercase uppercase_strings uppercase_runs
of-definitions = refl
