-- The machine of leaf blocks is lawful.
use Rattle.std.proofs.Common.{◌≡◌, [], Option, Some, None, refl}
use Rattle.markdown_tokenizer.specs.Lawful.{IsLawful}
use Rattle.markdown_tokenizer.specs.Text.{Given}
use Rattle.mdconstructs_tables.specs.Late.{hasty, IsLate}
use Rattle.mdconstructs_tables.specs.RowTest.{never}
use Rattle.mdconstructs_tables.proofs.Tables.Knowledge.{falling-lawful}
use Rattle.mdconstructs_tables.proofs.Tables.Late.{all-late}
use Rattle.mdblock_leaf_rows.specs.FlowBytes.{FlowByte, line_feed, blank, sign, star, underscore, dash, equals, tick, tilde, less, greater, slash, bang, question, opening, closing, double, single, colon, dot, letter, digit, other}
use Rattle.mdblock_leaf_rows.specs.FlowTable.{flow}
use Rattle.mdblock_leaf_rows.specs.FlowKnows.{knows_flow, flow_rules}
use Rattle.mdblock_leaf_rows.specs.Laws.Fit.{flow-fit, none}
use Rattle.mdblock_leaf_rows.specs.Laws.Known.{flow-known, only-checks}

late : (previous current : Option FlowByte) → hasty flow never none previous current ≡ []
late previous None = refl
late previous (Some line_feed) = refl
late previous (Some blank) = refl
late previous (Some sign) = refl
late previous (Some star) = refl
late previous (Some underscore) = refl
late previous (Some dash) = refl
late previous (Some equals) = refl
late previous (Some tick) = refl
late previous (Some tilde) = refl
late previous (Some less) = refl
late previous (Some greater) = refl
late previous (Some slash) = refl
late previous (Some bang) = refl
late previous (Some question) = refl
late previous (Some opening) = refl
late previous (Some closing) = refl
late previous (Some double) = refl
late previous (Some single) = refl
late previous (Some colon) = refl
late previous (Some dot) = refl
late previous (Some (letter byte)) = refl
late previous (Some (digit byte)) = refl
late previous (Some other) = refl

flow-late : IsLate flow never none
flow-late = record { fit = flow-fit; late = late }

pub flow-lawful : (g : Given) → IsLawful g (flow_rules g)
flow-lawful g = falling-lawful flow knows_flow none g flow-fit (all-late flow never none g flow-late) only-checks flow-known
