-- A count that has room grows by one, and still has room.
use Rattle.mdblock_leaf_blocks.proofs.Prelude.{◌≡◌, ◌<◌, ℕ, suc, ◌+◌, ◌-◌, ◌^◌, arith, one_more}

-- a count that has room for one more
pub grows : (n more : ℕ) → n + suc more < 2 ^ 64 - 1 → one_more n ≡ suc n
grows n more h = omega arith

-- and for the rest
pub room-on : (n more : ℕ) → n + suc more < 2 ^ 64 - 1 → suc n + more < 2 ^ 64 - 1
room-on n more h = omega arith

pub room-less : (n more : ℕ) → n + suc more < 2 ^ 64 - 1 → n + more < 2 ^ 64 - 1
room-less n more h = omega arith
