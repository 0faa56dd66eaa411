-- The examples, computed.
use Rattle.std.proofs.Common.{◌≡◌, refl}
use Rattle.mdgfm_tasks.specs.Examples.{lines, lines_told, lines_with}

pub lines-told : lines_with lines ≡ lines_told lines
lines-told = refl
