use Rattle.markdown_edits.proofs.Prelude.{◌≡◌, ℕ, ◌+◌, ◌-◌, ◌≤◌, ◌++◌, drop, AreDisjoint, added_by, shifts, pooled}
use Rattle.markdown_edits.proofs.shift.shifts_of.Given as goal

abbrev pub invariant-loop-edit : goal.invariant-loop-edit
invariant-loop-edit l = record {
  built : l.shifts.items ++ shifts l.removed (l.total - l.len) (pooled l.additions (drop l.edit-index l.edits)) ≡ shifts 0 0 (pooled l.additions l.edits);
  sum : l.total + added_by (pooled l.additions (drop l.edit-index l.edits)) ≡ l.len + added_by (pooled l.additions l.edits);
  more : l.len ≤ l.total;
  rest : (from : ℕ) × (l.removed ≤ from) × AreDisjoint from (pooled l.additions (drop l.edit-index l.edits)) l.len;
}
