use Rattle.std.proofs.Common.{◌≡◌, ℕ, List, ◌≤◌, drop, length}
use Rattle.std.specs.Map.{lookup}
use Rattle.std.specs.Prelude.{bytes_eq}
use Rattle.mddocument_editing.proofs.FirstSaid.{index_from}
use Rattle.mddocument_editing.proofs.leads.Leads.of.Given as goal

abbrev pub invariant-loop-at : goal.invariant-loop-at
invariant-loop-at l = record {
  known : (label : List ℕ) → lookup (λ known. bytes_eq label known.items) l.indices.entries ≡ index_from label l.at (drop l.at l.all.items);
  room : l.at ≤ length l.all.items;
}

abbrev pub decreases-loop-at : goal.decreases-loop-at
decreases-loop-at l = l.at
