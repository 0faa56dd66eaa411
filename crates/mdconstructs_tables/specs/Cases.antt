-- Rows by tests: a state says for which classes of bytes it does what, and what it does at all others.
use Rattle.std.specs.Prelude.{◌≡◌, ℕ, List, [], ◌∷◌, Bool, true, cond, Option, Some, None}
use Rattle.mdconstructs_tables.specs.Rows.{Rows}

-- a case: the classes that pass a test, and their rows
pub record Case (W R D : Type 0) : Type 0 where
  pub test : W → Bool
  pub rows : Rows R D

module _ {W R D : Type 0} where
  -- what a state does at the classes that pass a test
  abbrev pub at : (W → Bool) → Rows R D → Case W R D
  at test rows = record { test = test; rows = rows }

  -- the rows of the first case whose test a class passes; if there is none, the rest
  abbrev pub rows_in : List (Case W R D) → (rest : Rows R D) → W → Rows R D
  rows_in [] rest w = rest
  rows_in (c ∷ cs) rest w = cond (c.test w) c.rows (rows_in cs rest w)

  -- the rows of a state: at the end, in each case, and at all other bytes
  abbrev pub cases : (at_end : Rows R D) → List (Case W R D) → (rest : Rows R D) → (previous current : Option W) → Rows R D
  cases at_end cs rest previous None = at_end
  cases at_end cs rest previous (Some w) = rows_in cs rest w

  -- a property of a class and of its rows holds in each case and for the rest: one statement for a case, however many classes it has
  abbrev pub InEachCase : (P : W → Rows R D → Type 0) → List (Case W R D) → (rest : Rows R D) → Type 0
  InEachCase P [] rest = (w : W) → P w rest
  InEachCase P (c ∷ cs) rest = ((w : W) → c.test w ≡ true → P w c.rows) × InEachCase P cs rest

  -- each case is a test of bytes
  abbrev pub AreTestsOf : (class : ℕ → W) → List (Case W R D) → (tests : List (ℕ → Bool)) → Type 0
  AreTestsOf class [] [] = Unit {0}
  AreTestsOf class (c ∷ cs) (t ∷ ts) = ((byte : ℕ) → c.test (class byte) ≡ t byte) × AreTestsOf class cs ts
  AreTestsOf class _ _ = ⊥

  -- the rows of the first case whose test of bytes a byte passes
  abbrev pub rows_at_byte : List (Case W R D) → (tests : List (ℕ → Bool)) → (rest : Rows R D) → ℕ → Rows R D
  rows_at_byte (c ∷ cs) (t ∷ ts) rest byte = cond (t byte) c.rows (rows_at_byte cs ts rest byte)
  rows_at_byte _ _ rest byte = rest

  -- What holds in each case and for the rest holds at every class
  abbrev pub AreOneByOne : (P : W → Rows R D → Type 0) → Type 0
  AreOneByOne P = (cs : List (Case W R D)) (rest : Rows R D) → InEachCase P cs rest → (w : W) → P w (rows_in cs rest w)

-- If each case is a test of bytes, a byte's rows are those of the first test that it passes
abbrev pub AreByBytes : {W : Type 0} → (R D : Type 0) → (class : ℕ → W) → Type 0
AreByBytes {W} R D class = (cs : List (Case W R D)) (tests : List (ℕ → Bool)) (rest : Rows R D) → AreTestsOf class cs tests
    → (byte : ℕ) → rows_in cs rest (class byte) ≡ rows_at_byte cs tests rest byte
