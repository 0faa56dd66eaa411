use Rattle.std.specs.Prelude.{◌≡◌, ◌+◌, drop, length, take}
use Rattle.mdinline_links.specs.Laid.{placed_at}
use Rattle.mdinline_links.proofs.brackets.Pieces.place_runs.Given as goal

-- those that are left to be put into their pieces leave the same as all
abbrev pub invariant-loop-turns : goal.invariant-loop-turns
invariant-loop-turns g l =
    (length l.self.owners.items ≡ length l.self.runs.items) × (l.self.brackets.items ≡ l.fn.self.brackets.items)
    × (take l.from l.self.runs.items ≡ take l.from l.fn.self.runs.items) × (take l.from l.self.owners.items ≡ take l.from l.fn.self.owners.items)
    × (placed_at l.self.pieces.items (drop l.from l.self.owners.items) (drop l.from l.self.runs.items) ≡ placed_at l.fn.self.pieces.items (drop l.from l.fn.self.owners.items) (drop l.from l.fn.self.runs.items))
    × (l.turns + length l.self.runs.items ≡ l.fn.turns + length l.fn.self.runs.items)

abbrev pub decreases-loop-turns : goal.decreases-loop-turns
decreases-loop-turns g l = length l.self.runs.items
