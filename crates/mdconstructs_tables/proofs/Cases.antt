-- Rows by tests are decided case by case.
use Rattle.mdconstructs_tables.proofs.Prelude.{◌≡◌, ℕ, List, [], ◌∷◌, Bool, true, false, cond, refl, ap, ◌∙◌, Rows}
use Rattle.mdconstructs_tables.specs.Cases.{Case, rows_in, InEachCase, AreTestsOf, rows_at_byte}

module _ {W R D : Type 0} where
  -- what holds in each case and for the rest holds at every class
  pub in-case : (P : W → Rows R D → Type 0) (cs : List (Case W R D)) (rest : Rows R D) → InEachCase P cs rest → (w : W) → P w (rows_in cs rest w)
  in-case P [] rest h w = h w
  in-case P (c ∷ cs) rest h w = elim (c.test w) as (λ t. c.test w ≡ t → P w (cond t c.rows (rows_in cs rest w))) [
    | true ↦ λ is. h.0 w is
    | false ↦ λ other. in-case P cs rest h.1 w
  ] refl

  -- a byte's rows are those of the first test that it passes
  pub at-byte : (class : ℕ → W) (cs : List (Case W R D)) (tests : List (ℕ → Bool)) (rest : Rows R D) → AreTestsOf class cs tests
      → (byte : ℕ) → rows_in cs rest (class byte) ≡ rows_at_byte cs tests rest byte
  at-byte class [] [] rest are byte = refl
  at-byte class (c ∷ cs) (t ∷ ts) rest are byte =
      ap (λ passes. cond passes c.rows (rows_in cs rest (class byte))) (are.0 byte) ∙ ap (cond (t byte) c.rows) (at-byte class cs ts rest are.1 byte)
  at-byte class [] (t ∷ ts) rest are byte = absurd are
  at-byte class (c ∷ cs) [] rest are byte = absurd are
