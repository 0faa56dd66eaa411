use Rattle.std.proofs.Common.{◌≡◌, ◌-◌, ◌≤◌, suc}
use Rattle.mdhtml_document.specs.Notes.{back_links, back_links_from}
use Rattle.mdhtml_document.specs.Written.{after}
use Rattle.mdhtml_document.proofs.notes.push_back_links.Given as goal

abbrev pub invariant-loop-next : goal.invariant-loop-next
invariant-loop-next l = record {
  written : after l.out.items (back_links_from l.number (suc l.next) (l.many - l.next)) ≡ after l.initial.out.items (back_links l.number l.many);
  room : l.next ≤ l.many;
}

abbrev pub decreases-loop-next : goal.decreases-loop-next
decreases-loop-next l = l.many - l.next
