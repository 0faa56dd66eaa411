-- How many calls each state of the machine of texts may take. A run is of backticks.
use Rattle.mdconstructs_tables.specs.Rows.{Cost, costs}
use Rattle.mdconstructs_tables.specs.Numbers.{Price, priced}
use Rattle.mdinline_text_machine.specs.TextBytes.{TextByte, text_byte, is_backtick_class}

-- the cost that a price is
abbrev pub text_cost : Price TextByte → Cost
text_cost price = costs (priced text_byte is_backtick_class price)
