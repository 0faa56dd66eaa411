-- How many bytes a full reference has.
use Rattle.std.proofs.Common.{◌≡◌, ◌==◌, ◌&&◌, ◌||◌, ◌+◌, ◌<◌, ◌≤◌, ℕ, zero, suc, List, [], ◌∷◌, Bool, true, false, cond, Some, None, arith, length, refl, subst, take}
use Rattle.std.specs.Option.{option_and_then}
use Rattle.mdinline_labels.specs.Labels.{hides, is_label}
use Rattle.mdinline_labels.specs.Tails.{bare_behind, is_plain, label_size, marked_size, one_more}
use Rattle.mdinline_text_machine.specs.Construct.{Found}
use Rattle.mdinline_full_references.specs.FullReference.{full_reference, full_reference_grammar, label_length, label_text}

-- a label ends within its text
label-within : (bare hidden : Bool) (bs : List ℕ) (n : ℕ) → marked_size 91 93 bare hidden bs ≡ Some n → n < length bs
label-within bare hidden [] n h = absurd (cc)
label-within bare hidden (b ∷ bs) n h =
    let more = marked_size 91 93 (bare_behind bare b) (hides hidden b) bs in
    elim (is_plain 93 hidden b) as (λ t. cond t (Some 0) (cond (is_plain 91 hidden b || (bare && (b == 10))) None (one_more more)) ≡ Some n → n < length (b ∷ bs)) [
      | true ↦ λ e. (let none : 0 ≡ n = cc in subst (λ k. k < length (b ∷ bs)) none (omega arith))
      | false ↦ elim (is_plain 91 hidden b || (bare && (b == 10))) as (λ t. cond t None (one_more more) ≡ Some n → n < length (b ∷ bs)) [
        | true ↦ λ e. absurd (cc)
        | false ↦
            elim more as (λ o. more ≡ o → one_more o ≡ Some n → n < length (b ∷ bs)) [
              | None ↦ λ is e. absurd (cc)
              | Some m ↦ λ is e. (let same : m + 1 ≡ n = cc in omega (arith, same, label-within (bare_behind bare b) (hides hidden b) bs m is))
            ] refl
      ]
    ] h

-- the label at the front of a text, with its brackets
pub label-fits : (text : List ℕ) (n : ℕ) → label_length text ≡ Some n → (1 ≤ n) × (n + 2 ≤ length text)
label-fits [] n h = absurd (cc)
label-fits (b ∷ bs) n h =
    let of_label = λ (k : ℕ). cond (is_label (take k bs)) (Some k) None in
    elim (b == 91) as (λ t. cond t (option_and_then of_label (label_size bs)) None ≡ Some n → (1 ≤ n) × (n + 2 ≤ length (b ∷ bs))) [
      | true ↦
          elim (label_size bs) as (λ o. label_size bs ≡ o → option_and_then of_label o ≡ Some n → (1 ≤ n) × (n + 2 ≤ length (b ∷ bs))) [
            | None ↦ λ is e. absurd (cc)
            | Some k ↦ λ is. elim (is_label (take k bs)) as (λ t. is_label (take k bs) ≡ t → cond t (Some k) None ≡ Some n → (1 ≤ n) × (n + 2 ≤ length (b ∷ bs))) [
              | true ↦ λ full e.
                  let same : k ≡ n = cc in
                  let less = label-within false false bs k is in
                  (subst (λ j. 1 ≤ j) same (filled bs k full), omega (arith, same, less))
              | false ↦ λ full e. absurd (cc)
            ] refl
          ] refl
      | false ↦ λ e. absurd (cc)
    ] h
  where
    -- nothing is no label
    filled : (bs : List ℕ) (k : ℕ) → is_label (take k bs) ≡ true → 1 ≤ k
    filled bs zero full = absurd (let none : is_label (take 0 bs) ≡ false = nothing bs in cc)
      where
        nothing : (bs : List ℕ) → is_label (take 0 bs) ≡ false
        nothing [] = refl
        nothing (c ∷ cs) = refl
    filled bs (suc k) full = omega arith

-- a reference has a byte between its brackets, and stands within its text
pub record HasSize (text : List ℕ) (tail : Found) : Type 0 where
  pub some : 3 ≤ tail.size
  pub fits : tail.size ≤ length text

pub full-reference-sizes : (wanted : List ℕ → Bool) (text : List ℕ) (tail : Found) → (full_reference_grammar wanted).front text ≡ Some tail → HasSize text tail
full-reference-sizes wanted text tail is =
    elim (label_length text) as (λ o. label_length text ≡ o → option_and_then (λ n. cond (wanted (label_text n text)) (Some (full_reference n)) None) o ≡ Some tail → HasSize text tail) [
      | None ↦ λ there e. absurd (cc)
      | Some n ↦ λ there. elim (wanted (label_text n text)) as (λ t. cond t (Some (full_reference n)) None ≡ Some tail → HasSize text tail) [
        | true ↦ λ e.
            let same : full_reference n ≡ tail = cc in
            let within = label-fits text n there in
            subst (HasSize text) same (record { some = omega (arith, within.0); fits = within.1 })
        | false ↦ λ e. absurd (cc)
      ]
    ] refl is
