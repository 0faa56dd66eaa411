-- What looks for tails may cost: behind each `]` a resource and a full reference may be looked for, and be none. All of these together are linear.
use Rattle.mdinline_machine.proofs.Prelude.{ℕ, suc, ◌+◌, ◌*◌, ◌≤◌, ◌&&◌, ◌==◌, ◌≡◌, List, [], ◌∷◌, true, false, cond, ap, arith, and-false, length, Constructs, begins_end}
use Rattle.mdinline_full_references.proofs.Looks.{looks-are-linear as references-few}
use Rattle.mdinline_full_references.specs.FullReferenceLooks.{full_reference_look, looks as reference_looks}
use Rattle.mdinline_link_tails.proofs.Looks.Linear.{looks-are-linear}
use Rattle.mdinline_link_tails.specs.ResourceLooks.{looks, resource_look}

-- looks behind `]` take at most four calls and two for each byte that they pass, and some more
abbrev pub look_calls : (behind : List ℕ) → ℕ
look_calls behind = 4 * resource_look behind + (2 * full_reference_look behind + 10)

-- all looks of a text: one at each `]`, if ends of labels are on
abbrev pub tail_looks : Constructs → List ℕ → ℕ
tail_looks on [] = 0
tail_looks on (b ∷ bs) = cond (begins_end on b) (look_calls bs) 0 + tail_looks on bs

tail-looks-few : (on : Constructs) (bs : List ℕ) → tail_looks on bs ≤ 4 * looks bs + (2 * reference_looks bs + 10 * length bs)
tail-looks-few on [] = omega arith
tail-looks-few on (b ∷ bs) =
    elim (b == 93) as (λ t. cond (on.label_end && t) (look_calls bs) 0 + tail_looks on bs ≤ 4 * (cond t (resource_look bs) 0 + looks bs) + (2 * (cond t (full_reference_look bs) 0 + reference_looks bs) + 10 * suc (length bs))) [
      | true ↦ elim on.label_end as (λ u. cond (u && true) (look_calls bs) 0 + tail_looks on bs ≤ 4 * (resource_look bs + looks bs) + (2 * (full_reference_look bs + reference_looks bs) + 10 * suc (length bs))) [
        | true ↦ omega (arith, tail-looks-few on bs)
        | false ↦ omega (arith, tail-looks-few on bs)
      ]
      | false ↦
          let none : cond (on.label_end && false) (look_calls bs) 0 ≡ 0 = ap (λ t. cond t (look_calls bs) 0) (and-false on.label_end) in
          omega (arith, none, tail-looks-few on bs)
    ]

pub tail-looks-linear : (on : Constructs) (bs : List ℕ) → tail_looks on bs ≤ 236 * length bs
tail-looks-linear on bs = omega (arith, tail-looks-few on bs, looks-are-linear bs, references-few bs)
