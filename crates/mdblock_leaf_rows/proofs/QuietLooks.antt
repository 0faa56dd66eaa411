-- Looks make no event, class by class.
use Rattle.std.proofs.Common.{refl}
use Rattle.std.specs.Prelude.{Some, None}
use Rattle.mdblock_leaf_rows.specs.FlowBytes.{line_feed, blank, sign, star, underscore, dash, equals, tick, tilde, less, greater, slash, bang, question, opening, closing, double, single, colon, dot, letter, digit, other}
use Rattle.mdblock_leaf_rows.specs.QuietLooks.{LooksAreQuiet}

pub looks-quiet : LooksAreQuiet
looks-quiet previous None = refl
looks-quiet previous (Some line_feed) = refl
looks-quiet previous (Some blank) = refl
looks-quiet previous (Some sign) = refl
looks-quiet previous (Some star) = refl
looks-quiet previous (Some underscore) = refl
looks-quiet previous (Some dash) = refl
looks-quiet previous (Some equals) = refl
looks-quiet previous (Some tick) = refl
looks-quiet previous (Some tilde) = refl
looks-quiet previous (Some less) = refl
looks-quiet previous (Some greater) = refl
looks-quiet previous (Some slash) = refl
looks-quiet previous (Some bang) = refl
looks-quiet previous (Some question) = refl
looks-quiet previous (Some opening) = refl
looks-quiet previous (Some closing) = refl
looks-quiet previous (Some double) = refl
looks-quiet previous (Some single) = refl
looks-quiet previous (Some colon) = refl
looks-quiet previous (Some dot) = refl
looks-quiet previous (Some (letter byte)) = refl
looks-quiet previous (Some (digit byte)) = refl
looks-quiet previous (Some other) = refl
