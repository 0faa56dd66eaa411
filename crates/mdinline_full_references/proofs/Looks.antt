-- All looks at full references together pass no more bytes than the text has: one ends before the next one begins.
use Rattle.std.proofs.Common.{ℕ, ◌≡◌, ◌+◌, ◌≤◌, ◌==◌, ◌&&◌, ◌||◌, Bool, true, false, cond, List, [], ◌∷◌, length, refl, sym, subst, arith}
use Rattle.std.proofs.lemmas.Bool.{eqb-true}
use Rattle.mdinline_labels.specs.Labels.{hides}
use Rattle.mdinline_labels.specs.Tails.{bare_behind, is_plain}
use Rattle.mdinline_full_references.specs.Laws.{LooksAreLinear}
use Rattle.mdinline_link_tails.specs.ResourceLooks.{marked_look}
use Rattle.mdinline_full_references.specs.FullReferenceLooks.{full_reference_look, looks}

-- what a look passes, from a place in a label on
abbrev in_label : (bare hidden : Bool) → List ℕ → ℕ
in_label bare hidden bs = marked_look 91 93 bare hidden bs

-- a bracket that begins a label ends a look that is not behind a backslash
begins-ends : (bare : Bool) (c : ℕ) (cs : List ℕ) → (c == 91) ≡ true → in_label bare false (c ∷ cs) ≡ 0
begins-ends bare c cs e = subst (λ b. in_label bare false (b ∷ cs) ≡ 0) (sym (eqb-true c 91 e)) refl

-- A look that goes on and all further ones pass no more than is left; nor do one that begins at the front and all further ones
abbrev IsWithin : List ℕ → Type 0
IsWithin bs = ((bare hidden : Bool) → in_label bare hidden bs + looks bs ≤ length bs) × (full_reference_look bs + looks bs ≤ length bs)

-- nor both: if one begins, the other ends
both : (bs : List ℕ) → IsWithin bs → (bare : Bool) → in_label bare false bs + (full_reference_look bs + looks bs) ≤ length bs
both [] h bare = omega arith
both (c ∷ cs) h bare =
    let next = in_label false false cs in
    elim (c == 91) as (λ t. (c == 91) ≡ t → cond t (1 + next) 0 + looks (c ∷ cs) ≤ length (c ∷ cs) → in_label bare false (c ∷ cs) + (cond t (1 + next) 0 + looks (c ∷ cs)) ≤ length (c ∷ cs)) [
      | true ↦ λ e less. omega (arith, begins-ends bare c cs e, less)
      | false ↦ λ e less. omega (arith, h.0 bare false)
    ] refl h.1

-- at a byte behind which further looks are
further : (b : ℕ) (bs : List ℕ) → IsWithin bs → looks (b ∷ bs) ≤ length bs
further b bs h =
    elim (b == 93) as (λ t. cond t (full_reference_look bs) 0 + looks bs ≤ length bs) [
      | true ↦ h.1
      | false ↦ omega (arith, h.0 false false)
    ]

-- and the look that passes it
passing : (hidden : Bool) (b : ℕ) (bs : List ℕ) → IsWithin bs → (bare : Bool) → 1 + in_label bare (hides hidden b) bs + looks (b ∷ bs) ≤ length (b ∷ bs)
passing hidden b bs h bare =
    elim (b == 93) as (λ t. (b == 93) ≡ t → 1 + in_label bare (hides hidden b) bs + (cond t (full_reference_look bs) 0 + looks bs) ≤ length (b ∷ bs)) [
      | true ↦ λ e.
          let shown : hides hidden b ≡ false = subst (λ c. hides hidden c ≡ false) (sym (eqb-true b 93 e)) refl in
          subst (λ t. 1 + in_label bare t bs + (full_reference_look bs + looks bs) ≤ length (b ∷ bs)) (sym shown) (omega (arith, both bs h bare))
      | false ↦ λ e. omega (arith, h.0 bare (hides hidden b))
    ] refl

within : (bs : List ℕ) → IsWithin bs
within [] = (λ bare hidden. omega arith, omega arith)
within (b ∷ bs) =
    let h = within bs in
    let more = further b bs h in
    let here = λ (bare hidden : Bool). elim (is_plain 93 hidden b) as (λ t. cond t 0 (cond (is_plain 91 hidden b || (bare && (b == 10))) 0 (1 + in_label (bare_behind bare b) (hides hidden b) bs)) + looks (b ∷ bs) ≤ length (b ∷ bs)) [
      | true ↦ omega (arith, more)
      | false ↦ elim (is_plain 91 hidden b || (bare && (b == 10))) as (λ t. cond t 0 (1 + in_label (bare_behind bare b) (hides hidden b) bs) + looks (b ∷ bs) ≤ length (b ∷ bs)) [
        | true ↦ omega (arith, more)
        | false ↦ passing hidden b bs h (bare_behind bare b)
      ]
    ] in (
      here,
      elim (b == 91) as (λ t. (b == 91) ≡ t → cond t (1 + in_label false false bs) 0 + looks (b ∷ bs) ≤ length (b ∷ bs)) [
        | true ↦ λ e.
            let same : 0 + looks bs ≡ looks bs = omega arith in
            let none : looks (b ∷ bs) ≡ looks bs = subst (λ c. looks (c ∷ bs) ≡ looks bs) (sym (eqb-true b 91 e)) same in
            omega (arith, none, h.0 false false)
        | false ↦ λ e. omega (arith, more)
      ] refl,
    )

pub looks-are-linear : LooksAreLinear
looks-are-linear text = omega (arith, (within text).0 false false)
