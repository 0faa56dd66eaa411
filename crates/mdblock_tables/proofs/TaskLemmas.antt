-- Lemmas on checks.
use Rattle.std.proofs.Common.{◌≡◌, ℕ, suc, ◌<◌, ◌≤◌, Bool, true, false, cond, List, [], ◌∷◌, length, drop, get_or, Option, Some, None, refl, arith, length-drop}
use Rattle.std.specs.Prelude.{◌==◌, ◌&&◌, not, nat_le, nat_lt, IfSome}
use Rattle.std.proofs.lemmas.Bool.{leb-true, ltb-true}
use Rattle.std.proofs.lemmas.List.Sums.{prefix_len-le-length}
use Rattle.mdconstructs_tables.specs.Breaks.{is_white}
use Rattle.mdblock_leaf_blocks.specs.LineKinds.{indent, unindented}
use Rattle.mdblock_tables.specs.declared.tasks.Check.{Check}
use Rattle.mdblock_tables.specs.Laws.{ChecksLeaveText}
use Rattle.mdblock_tables.specs.Pieces.{size_of}
use Rattle.mdblock_tables.specs.Tasks.{check_pieces, goes_on, is_value, marker_at}

-- a text that is too short, and another by its bytes
pub marker_short : (t : List ℕ) → length t < 3 → marker_at t ≡ None
marker_short [] h = refl
marker_short (a ∷ []) h = refl
marker_short (a ∷ b ∷ []) h = refl
marker_short (a ∷ b ∷ c ∷ more) h = absurd (omega (arith, h))

pub marker_bytes : (t : List ℕ) → 3 ≤ length t
    → marker_at t ≡ cond ((get_or t 0 0 == 91) && (is_value (get_or t 1 0) && ((get_or t 2 0 == 93) && goes_on (drop 3 t)))) (Some (not (is_white (get_or t 1 0)))) None
marker_bytes [] h = absurd (omega (arith, h))
marker_bytes (a ∷ []) h = absurd (omega (arith, h))
marker_bytes (a ∷ b ∷ []) h = absurd (omega (arith, h))
marker_bytes (a ∷ b ∷ c ∷ more) h = refl

-- something comes behind a marker
marker_leaves : (t : List ℕ) (is_checked : Bool) → marker_at t ≡ Some is_checked → 4 < length t
marker_leaves [] k e = absurd (cc)
marker_leaves (a ∷ []) k e = absurd (cc)
marker_leaves (a ∷ b ∷ []) k e = absurd (cc)
marker_leaves (a ∷ b ∷ c ∷ more) k e = by (a == 91) (is_value b) (c == 93) (nat_le 1 (indent more)) (nat_lt (indent more) (length more)) refl refl e
  where
    by : (p q r s l : Bool) → nat_le 1 (indent more) ≡ s → nat_lt (indent more) (length more) ≡ l → cond (p && (q && (r && (s && l)))) (Some (not (is_white b))) None ≡ Some k → 4 < suc (suc (suc (length more)))
    by true true true true true es el e = let some = leb-true 1 (indent more) es in let less = ltb-true (indent more) (length more) el in omega (arith, some, less)
    by false q r s l es el e = absurd (cc)
    by true false r s l es el e = absurd (cc)
    by true true false s l es el e = absurd (cc)
    by true true true false l es el e = absurd (cc)
    by true true true true false es el e = absurd (cc)

pub checks_leave_text : ChecksLeaveText
checks_leave_text line = by (marker_at (unindented line)) refl
  where
    by : (o : Option Bool) → marker_at (unindented line) ≡ o → IfSome (elim o [ None ↦ None | Some k ↦ Some (let v : Check = record { columns = indent line; is_checked = k } in v) ]) (λ check. size_of (check_pieces check) < length line)
    by None e = tt
    by (Some k) e = let left = marker_leaves (unindented line) k e in omega (arith, left, length-drop (indent line) line, prefix_len-le-length is_white line)
