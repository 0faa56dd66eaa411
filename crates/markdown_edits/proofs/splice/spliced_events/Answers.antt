use Rattle.markdown_edits.proofs.Prelude.{length, get_or}
use Rattle.markdown_edits.proofs.Edits.Shifts.{link_fits}
use Rattle.markdown_edits.proofs.splice.spliced_events.Goals as goal

pub push_spliced-requires-clause-ends : goal.push_spliced-requires-clause-ends
push_spliced-requires-clause-ends c =
    rw c.deref-2.ensures.value (λ k d l. link_fits c.in_ok-shifts.shifts.items (length c.args.events.now) (get_or c.args.events.now k d).link c.in_ok-shifts.ensures.fits (c.requires.links k d l))
