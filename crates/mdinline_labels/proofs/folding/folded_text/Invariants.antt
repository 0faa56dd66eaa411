use Rattle.mdinline_labels.proofs.Prelude.{◌≡◌, ◌++◌, IsUtf8, string_bytes, chars_rest, folded_text}
use Rattle.mdinline_labels.proofs.folding.folded_text.Given as goal

abbrev pub invariant-loop-letter : goal.invariant-loop-letter
invariant-loop-letter l = IsUtf8 (chars_rest l.letter-iterator) × (string_bytes l.out ++ folded_text (chars_rest l.letter-iterator) ≡ folded_text l.fn.text)
