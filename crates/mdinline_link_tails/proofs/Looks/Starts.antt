-- Each try for a resource has its own place where a destination may begin.
use Rattle.std.proofs.Common.{ℕ, suc, ◌+◌, ◌≤◌, ◌≡◌, ◌∙◌, ◌∷◌, ◌||◌, ◌&&◌, ◌==◌, Bool, true, false, cond, List, [], drop, length, refl, ap, arith}
use Rattle.std.proofs.lemmas.Bool.{false≢true}
use Rattle.mdinline_labels.specs.Tails.{begins_with, ends_raw, gap}
use Rattle.mdinline_link_tails.proofs.Looks.Passed.{enclosed_start_look, looks, raw_start_look, resource_look}
use Rattle.mdinline_link_tails.proofs.Looks.Enclosed.{begins_behind, enclosed_starts}
use Rattle.mdinline_link_tails.proofs.Looks.Gaps.{gap-is, gap_from, gaps_behind, goes-gap, goes_on, is_gap, line_behind}
use Rattle.mdinline_link_tails.proofs.Looks.Raw.{raw_starts}

-- what a destination that begins there passes
abbrev destination : List ℕ → ℕ
destination bs = raw_start_look bs + enclosed_start_look bs

-- all that may begin
abbrev all_starts : (begins bracket : Bool) → List ℕ → ℕ
all_starts begins bracket bs = raw_starts begins bracket bs + enclosed_starts begins bracket bs

-- what tries pass of destinations. `bracket`: `]` comes before
abbrev destinations : (bracket : Bool) → List ℕ → ℕ
destinations bracket [] = 0
destinations bracket (b ∷ bs) = cond (bracket && (b == 40)) (destination (drop (gap bs) bs)) 0 + destinations (b == 93) bs

-- one byte more: what begins there, and what begins behind it
more : (begins bracket : Bool) (b : ℕ) (bs : List ℕ) → all_starts begins bracket (b ∷ bs) ≡ cond begins (destination (b ∷ bs)) 0 + all_starts (begins_behind bracket b) (b == 93) bs
more true bracket b bs = omega arith
more false bracket b bs = omega arith

-- white space begins no destination
white-begins : (b : ℕ) (bs : List ℕ) → is_gap b ≡ true → destination (b ∷ bs) ≡ 0
white-begins b bs h =
    let raw : (ends_raw b || (b == 60)) ≡ true = grind (arith) in
    let angle : (b == 60) ≡ false = grind (arith) in
    rw (raw, angle) refl

zero-front : (n : ℕ) → 0 + n ≡ n
zero-front n = omega arith

-- with a try in white space behind its `(`, or without
abbrev StartsOnward : List ℕ → Type 0
StartsOnward bs = (going line begins bracket : Bool) → (going ≡ true → (begins ≡ true) × (bracket ≡ false))
    → cond going (destination (drop (gap_from line bs) bs)) 0 + destinations bracket bs ≤ all_starts begins bracket bs

step : (b : ℕ) (bs : List ℕ) → StartsOnward bs → StartsOnward (b ∷ bs)
step b bs onward false line begins bracket h =
    let all = more begins bracket b bs in
    elim (bracket && (b == 40)) as (λ t. (bracket && (b == 40)) ≡ t → 0 + (cond t (destination (drop (gap bs) bs)) 0 + destinations (b == 93) bs) ≤ all_starts begins bracket (b ∷ bs)) [
      | true ↦ λ e.
          let there : begins_behind bracket b ≡ true = grind (arith) in
          let other : (b == 93) ≡ false = grind (arith) in
          let place : destination (drop (gap bs) bs) ≡ destination (drop (gap_from true bs) bs) = ap (λ n. destination (drop n bs)) (gap-is bs) in
          let next = onward true true (begins_behind bracket b) (b == 93) (λ e. (there, other)) in
          omega (arith, all, place, next)
      | false ↦ λ e. omega (arith, all, onward false true (begins_behind bracket b) (b == 93) (λ e. absurd (false≢true e)))
    ] refl
step b bs onward true line begins bracket h =
    let first : begins ≡ true = (h refl).0 in
    let alone : (bracket && (b == 40)) ≡ false = ap (λ t. t && (b == 40)) (h refl).1 in
    let own : destinations bracket (b ∷ bs) ≡ destinations (b == 93) bs = ap (λ t. cond t (destination (drop (gap bs) bs)) 0 + destinations (b == 93) bs) alone ∙ zero-front (destinations (b == 93) bs) in
    let all : all_starts begins bracket (b ∷ bs) ≡ destination (b ∷ bs) + all_starts (begins_behind bracket b) (b == 93) bs = more begins bracket b bs ∙ ap (λ t. cond t (destination (b ∷ bs)) 0 + all_starts (begins_behind bracket b) (b == 93) bs) first in
    elim (goes_on line b) as (λ t. goes_on line b ≡ t → destination (drop (cond t (1 + gap_from (line_behind line b) bs) 0) (b ∷ bs)) + destinations bracket (b ∷ bs) ≤ all_starts begins bracket (b ∷ bs)) [
      | true ↦ λ e.
          let white = goes-gap line b e in
          let there : begins_behind bracket b ≡ true = ap (λ t. t || (bracket && (b == 40))) white in
          let other : (b == 93) ≡ false = grind (arith) in
          let n = gap_from (line_behind line b) bs in
          let one : 1 + n ≡ suc n = omega arith in
          let place : destination (drop (1 + n) (b ∷ bs)) ≡ destination (drop n bs) = ap (λ k. destination (drop k (b ∷ bs))) one in
          omega (arith, place, own, all, onward true (line_behind line b) (begins_behind bracket b) (b == 93) (λ e. (there, other)))
      | false ↦ λ e. omega (arith, own, all, onward false true (begins_behind bracket b) (b == 93) (λ e. absurd (false≢true e)))
    ] refl

starts-go : (bs : List ℕ) → StartsOnward bs
starts-go [] true true begins bracket h = omega arith
starts-go [] true false begins bracket h = omega arith
starts-go [] false line begins bracket h = omega arith
starts-go (b ∷ bs) going line begins bracket h = step b bs (starts-go bs) going line begins bracket h

pub destinations-within : (begins bracket : Bool) (bs : List ℕ) → destinations bracket bs ≤ all_starts begins bracket bs
destinations-within begins bracket bs = omega (arith, starts-go bs false true begins bracket (λ e. absurd (false≢true e)))

-- ---- what tries are made of
-- how many parentheses there are, and the white space behind them
abbrev opened : List ℕ → ℕ
opened bs = length bs + gaps_behind (λ b. b == 40) bs

-- the try that a `]` before a text begins
abbrev begun : (bracket : Bool) → List ℕ → ℕ
begun bracket bs = cond (bracket && begins_with 40 bs) (1 + resource_look (drop 1 bs)) 0

pub looks-made : (bracket : Bool) (bs : List ℕ) → begun bracket bs + looks bs ≤ opened bs + destinations bracket bs
looks-made bracket [] = elim bracket as (λ t. cond (t && false) (1 + resource_look []) 0 + 0 ≤ 0 + 0 + 0) [ true ↦ omega arith | false ↦ omega arith ]
looks-made bracket (b ∷ bs) = elim bracket as (λ t. cond (t && (b == 40)) (1 + resource_look bs) 0 + looks (b ∷ bs) ≤ suc (length bs) + (cond (b == 40) (gap bs) 0 + gaps_behind (λ b. b == 40) bs) + (cond (t && (b == 40)) (destination (drop (gap bs) bs)) 0 + destinations (b == 93) bs)) [
  | true ↦ elim (b == 40) as (λ t. cond t (1 + resource_look bs) 0 + looks (b ∷ bs) ≤ suc (length bs) + (cond t (gap bs) 0 + gaps_behind (λ b. b == 40) bs) + (cond t (destination (drop (gap bs) bs)) 0 + destinations (b == 93) bs)) [
    | true ↦ omega (arith, looks-made (b == 93) bs)
    | false ↦ omega (arith, looks-made (b == 93) bs)
  ]
  | false ↦ omega (arith, looks-made (b == 93) bs)
]
