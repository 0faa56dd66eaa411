use Rattle.markdown_tokenizer.proofs.Prelude.{◌∙◌}
use Rattle.markdown_tokenizer.proofs.Inside.Spans.{noted-here}
use Rattle.markdown_tokenizer.proofs.Inside.Steps.{after-byte, after_previous-is}
use Rattle.markdown_tokenizer.proofs.tokenizer.Tokenizer.exit_place.Goals as goal

pub shown_after-requires : goal.shown_after-requires
shown_after-requires g c = record { after = after-byte c.self.inside c.self.invariant c.is_some-read.result c.is_some-read.ensures }

pub returns-clause-place : goal.returns-clause-place
returns-clause-place g c = rw (← c.self.view_is) (c.shown_after.ensures ∙ after_previous-is c.self.inside c.self.invariant)

pub returns-clause-noted : goal.returns-clause-noted
returns-clause-noted g c = rw (← c.self.view_is) (noted-here c.self.inside c.self.invariant c.shown_after.result c.shown_after.ensures)
