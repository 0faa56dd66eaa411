-- What the proofs of this crate cite from below them: words of std and of specs.
pub use Rattle.std.proofs.Common.{Err, List, None, Ok, [], arith, length, length-drop, nat_lt, rules, sym, take, true, ℕ, ◌-◌, ◌<◌, ◌^◌, ◌∙◌, ◌∷◌, ◌≡◌, ◌≤◌}
pub use Rattle.std.proofs.KnownBytes.{Appends-trans}
pub use Rattle.std.proofs.Math.Seq.{take-add}
pub use Rattle.std.proofs.lemmas.Bool.Decides.{nat_tests}
pub use Rattle.std.proofs.lemmas.List.{take_rest}
pub use Rattle.std.proofs.lemmas.Str.Parse.{IsNumeralModel, numerals_by_value, parse_digits}
pub use Rattle.std.specs.Bool.{then_some}
pub use Rattle.std.specs.Char.{is_ascii_digit}
pub use Rattle.std.specs.Io.KnownBytes.{Appends}
pub use Rattle.std.specs.List.{list_all}
pub use Rattle.std.specs.Str.Parse.{digits_value}
pub use Rattle.mdprograms.specs.Numbers.{decimal_of}
