use Rattle.std.proofs.Common.{sym, ap, ◌∙◌}
use Rattle.std.specs.Option.{option_copied}
use Rattle.mdinline_links.proofs.Written.{last-is}
use Rattle.mdinline_links.proofs.pieces.last_place.Goals as goal

pub returns-in-Some : goal.returns-in-Some
returns-in-Some c = sym (last-is c.args.place c.args.events.now c.in-Some.event.now (sym c.last.ensures.value ∙ ap option_copied c.in-Some.is))
