use Rattle.mddocument_editing.proofs.Prelude.{◌≡◌, ◌++◌, ◌≤◌, ◌-◌, length, take, drop, document_of, bytes_of_sections}
use Rattle.mddocument_editing.proofs.recut.cut_further.Given as goal

abbrev pub invariant-loop-text : goal.invariant-loop-text
invariant-loop-text l = record {
  text : l.text.items ≡ l.initial.text.items ++ document_of (take (l.end - l.behind) (drop l.behind (bytes_of_sections l.kept.sections.items)));
  order : l.behind ≤ l.end;
  within : l.end ≤ length l.kept.sections.items;
}

abbrev pub decreases-loop-text : goal.decreases-loop-text
decreases-loop-text l = length l.kept.sections.items - l.end
