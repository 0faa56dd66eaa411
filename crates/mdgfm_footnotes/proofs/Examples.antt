-- The examples, computed.
use Rattle.std.proofs.Common.{◌≡◌, refl}
use Rattle.mdgfm_footnotes.specs.Examples.{calls_of_texts, calls_told, lines_told, lines_with}

pub calls-told : calls_of_texts ≡ calls_told
calls-told = refl

pub lines-told : lines_with ≡ lines_told
lines-told = refl
