-- Bytes that states of leaf blocks read over.
use Rattle.std.specs.Prelude.{◌≡◌, ◌<◌, ℕ, List, [], ◌∷◌, Bool, true, false, get_or}
use Rattle.mdblock_leaf_rows.specs.FlowBytes.{FlowByte, flow_byte}

-- a class passes none of these tests: at it a state's rows are those of the rest
abbrev pub PassesNone : (tests : List (FlowByte → Bool)) → FlowByte → Type 0
PassesNone [] w = Unit {0}
PassesNone (test ∷ tests) w = (test w ≡ false) × PassesNone tests w

-- the bytes of a set are above CR, and their classes pass none of these tests
abbrev pub PassNone : (tests : List (FlowByte → Bool)) → List Bool → Type 0
PassNone tests set = (byte : ℕ) → get_or set byte false ≡ true → (13 < byte) × PassesNone tests (flow_byte byte)
