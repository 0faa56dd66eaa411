use Rattle.mdinline_emphasis.proofs.Prelude.{sym, ap, ◌∙◌, class_at_end}
use Rattle.mdinline_emphasis.proofs.Chars.{some-byte}
use Rattle.mdinline_emphasis.proofs.classes.class_at_end.Goals as goal

pub returns-in-Some : goal.returns-in-Some
returns-in-Some c = c.class_of.ensures ∙ sym (ap (class_at_end c.args.bytes.now) c.in-Some.is ∙ some-byte c.args.bytes.now c.in-Some.char (sym c.is_empty.ensures ∙ c.if-is_empty.false))
