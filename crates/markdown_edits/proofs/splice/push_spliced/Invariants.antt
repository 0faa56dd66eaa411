use Rattle.markdown_edits.proofs.Prelude.{◌≡◌, ◌++◌, drop, length, AreDisjoint, place_by, spliced, pooled}
use Rattle.markdown_edits.proofs.splice.push_spliced.Given as goal

abbrev pub invariant-loop-edit : goal.invariant-loop-edit
invariant-loop-edit l = record {
  built : l.out.items ++ spliced (place_by l.shifts 0 0) (pooled l.additions (drop l.edit-index l.edits)) l.from (drop l.from l.events) ≡ l.fn.out.items ++ spliced (place_by l.shifts 0 0) (pooled l.additions l.edits) 0 l.events;
  rest : AreDisjoint l.from (pooled l.additions (drop l.edit-index l.edits)) (length l.events);
}
