use Rattle.std.proofs.Common.{◌≡◌, [], ◌∷◌, length}
use Rattle.mdhtml_document.specs.Frames.{AreListsOf, opens}
use Rattle.mdhtml_document.specs.Written.{after}
use Rattle.mdhtml_document.specs.Walks.{walked_in}
use Rattle.mdhtml_document.proofs.writer.write_in.Given as goal

abbrev pub invariant-events : goal.invariant-events
invariant-events l = record {
  lists : AreListsOf l.whole.bytes.now l.lists l.rest;
  written : after l.out.items (walked_in l.whole (opens l.levels.items) l.rest) ≡ after l.initial.out.items (walked_in l.whole (record { mode = l.fn.mode; columns = []; closed = [] } ∷ []) l.events);
}

abbrev pub decreases-events : goal.decreases-events
decreases-events l = length l.rest
