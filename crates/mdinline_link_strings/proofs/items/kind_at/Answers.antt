use Rattle.std.proofs.Common.{sym, ◌∙◌}
use Rattle.mdinline_link_strings.proofs.Fronts.{begins_decimal, begins_hexadecimal}
use Rattle.mdinline_link_strings.proofs.items.kind_at.Goals as goal

pub returns-then-has_x : goal.returns-then-has_x
returns-then-has_x c =
    begins_hexadecimal c.args.text.now (sym c.has_byte.ensures ∙ c.if-not-has_byte.false) (sym c.has_byte-2.ensures ∙ c.if-not-has_byte-2.false) (sym c.has_x.ensures ∙ c.if-has_x.true)

pub returns : goal.returns
returns c =
    begins_decimal c.args.text.now (sym c.has_byte.ensures ∙ c.if-not-has_byte.false) (sym c.has_byte-2.ensures ∙ c.if-not-has_byte-2.false) (sym c.has_x.ensures ∙ c.if-has_x.false)
