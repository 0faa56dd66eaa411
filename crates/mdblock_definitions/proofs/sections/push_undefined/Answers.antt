use Rattle.std.proofs.Common.{◌≡◌, ◌<◌, ◌-◌, ℕ, zero, suc, List, [], ◌∷◌, ap, arith, drop, get_or, length, refl, ◌∙◌}
use Rattle.std.specs.Prelude.{None}
use Rattle.mdblock_containers.specs.Ahead.{AreRows, ahead_of}
use Rattle.mdblock_containers.specs.declared.ahead.Ahead.{Ahead}
use Rattle.mdblock_containers.specs.declared.spans.RowAt.{RowAt}
use Rattle.mdblock_containers.specs.Rows.{Row}
use Rattle.mdblock_definitions.proofs.sections.push_undefined.Goals as goal

-- what is known of a line that stands alone
alone : (rows : List RowAt) (all : List Row) → length rows ≡ 1 → AreRows rows all → (d : Ahead) (k : ℕ) → k < length rows
    → get_or (record { further = 0; many = 0; list = None } ∷ []) k d ≡ ahead_of (drop (length rows - k) all)
alone [] all one are d k h = absurd (omega (arith, one))
alone (x ∷ []) [] one are d k h = absurd are
alone (x ∷ []) (r ∷ []) one are d zero h = refl
alone (x ∷ []) (r ∷ []) one are d (suc k) h = absurd (omega (arith, h))
alone (x ∷ []) (r ∷ s ∷ rs) one are d k h = absurd are.1
alone (x ∷ y ∷ xs) all one are d k h = absurd (omega (arith, one))

pub push_lines-requires-clause-aheads : goal.push_lines-requires-clause-aheads
push_lines-requires-clause-aheads g c = λ all are d k h. alone c.args.rows.now all c.if-rows-eq1.true are d k h

pub push_lines-requires-2-clause-len : goal.push_lines-requires-2-clause-len
push_lines-requires-2-clause-len g c = ap (λ (l : List Ahead). length l) c.as_slice.ensures.value ∙ c.in_ok-aheads.ensures.len

pub push_lines-requires-2-clause-aheads : goal.push_lines-requires-2-clause-aheads
push_lines-requires-2-clause-aheads g c = λ all are d k h. ap (λ (l : List Ahead). get_or l k d) c.as_slice.ensures.value ∙ c.in_ok-aheads.ensures.aheads all are d k h
