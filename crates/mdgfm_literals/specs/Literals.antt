-- The literals of a text, from its front, by the indices of their bytes.
use Rattle.std.specs.Prelude.{ℕ, zero, suc, ◌+◌, ◌-◌, cond, List, [], ◌∷◌, slice_get, Option, Some, None}
use Rattle.mdgfm_literals.specs.declared.texts.Literal.{Literal}
use Rattle.mdgfm_literals.specs.Bytes.{is_escape}
use Rattle.mdgfm_literals.specs.Grammar.{literal_at}

-- how many bytes are passed with the first one, if it begins no literal: in an escape none begins
abbrev pub more_passed : List ℕ → ℕ
more_passed text = cond (is_escape text) 1 0

-- Literals of a text whose first byte is at this index. In the first `skip` bytes none begins. `before` is the byte before the one behind these. The
-- bytes of a literal are in no other, and what comes behind it is as at the beginning
abbrev pub literals_from : (skip : ℕ) → (before : Option ℕ) → (at : ℕ) → List ℕ → List Literal
literals_from skip before at [] = []
literals_from (suc skip) before at (b ∷ bs) = literals_from skip before (at + 1) bs
literals_from zero before at (b ∷ bs) = elim (literal_at before (b ∷ bs)) [
  | Some f ↦ record { from = at; to = at + f.size; name = f.name } ∷ literals_from (f.size - 1) None (at + 1) bs
  | None ↦ literals_from (more_passed (b ∷ bs)) (slice_get (b ∷ bs) (more_passed (b ∷ bs))) (at + 1) bs
]
