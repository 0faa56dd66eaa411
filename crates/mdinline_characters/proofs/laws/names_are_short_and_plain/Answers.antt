use Rattle.mdinline_characters.proofs.Prelude.{length, nat_le, lt-leb, is_ascii_alphanumeric, list_all}
use Rattle.mdinline_characters.proofs.Parts.{no_characters}
use Rattle.mdinline_characters.proofs.Tables.{all_are_short, all_are_plain}
use Rattle.mdinline_characters.proofs.laws.names_are_short_and_plain.Goals as goal

pub returns : goal.returns
returns c = record {
  short = λ name long. no_characters (λ key. nat_le (length key) 31) name (lt-leb (length name) 31 long) all_are_short;
  plain = λ name other. no_characters (list_all is_ascii_alphanumeric) name other all_are_plain;
}
