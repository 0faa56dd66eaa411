-- The machine of leaf blocks refuses no document, by the test of its rows.
use Rattle.std.proofs.Common.{◌≡◌, [], Option, Some, None, refl}
use Rattle.mdconstructs_tables.specs.Refusals.{refusing, RulesRefuseNothing}
use Rattle.mdconstructs_tables.proofs.Tables.Refusals.{nothing-found, refuse-nothing, table-steps}
use Rattle.mdblock_leaf_rows.specs.FlowBytes.{FlowByte, line_feed, blank, sign, star, underscore, dash, equals, tick, tilde, less, greater, slash, bang, question, opening, closing, double, single, colon, dot, letter, digit, other}
use Rattle.mdblock_leaf_rows.specs.FlowKnows.{flow_rules}
use Rattle.mdblock_leaf_rows.specs.FlowTable.{flow}

flow-none : (previous current : Option FlowByte) → refusing flow previous current ≡ []
flow-none previous None = refl
flow-none previous (Some line_feed) = refl
flow-none previous (Some blank) = refl
flow-none previous (Some sign) = refl
flow-none previous (Some star) = refl
flow-none previous (Some underscore) = refl
flow-none previous (Some dash) = refl
flow-none previous (Some equals) = refl
flow-none previous (Some tick) = refl
flow-none previous (Some tilde) = refl
flow-none previous (Some less) = refl
flow-none previous (Some greater) = refl
flow-none previous (Some slash) = refl
flow-none previous (Some bang) = refl
flow-none previous (Some question) = refl
flow-none previous (Some opening) = refl
flow-none previous (Some closing) = refl
flow-none previous (Some double) = refl
flow-none previous (Some single) = refl
flow-none previous (Some colon) = refl
flow-none previous (Some dot) = refl
flow-none previous (Some (letter byte)) = refl
flow-none previous (Some (digit byte)) = refl
flow-none previous (Some other) = refl

pub flow-refuses-nothing : RulesRefuseNothing flow_rules
flow-refuses-nothing = refuse-nothing flow_rules (table-steps flow flow-none) (λ g s k r m. nothing-found k m)
