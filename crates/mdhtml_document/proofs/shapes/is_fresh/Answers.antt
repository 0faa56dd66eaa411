use Rattle.std.proofs.Common.{◌∙◌, ap, sym, None, Some}
use Rattle.std.specs.Option.{option_copied}
use Rattle.mdhtml_document.proofs.Fresh.{fresh-by}
use Rattle.mdhtml_document.proofs.shapes.is_fresh.Goals as goal

pub returns-in-None : goal.returns-in-None
returns-in-None c = sym (fresh-by c.args.out.now None (ap option_copied (sym c.in-None.is) ∙ c.last.ensures.value))

pub returns-in-Some : goal.returns-in-Some
returns-in-Some c = sym (fresh-by c.args.out.now (Some c.in-Some.last.now) (ap option_copied (sym c.in-Some.is) ∙ c.last.ensures.value))
