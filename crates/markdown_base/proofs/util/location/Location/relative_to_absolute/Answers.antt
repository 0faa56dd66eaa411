use Rattle.markdown_base.proofs.Prelude.{◌≡◌, ◌<◌, ◌∙◌, ◌+◌, ◌-◌, ◌^◌, ℕ, zero, suc, Bool, false, List, [], ◌∷◌, length, get_or, drop, sym, ap, subst, refl, nat_le, arith, rules, tests, Option, None, option_map, take_while, IfSome, last_or}
use Rattle.markdown_base.proofs.LineLemmas.{leading_turn}
use Rattle.markdown_base.proofs.util.location.Location.relative_to_absolute.Goals as goal
use Rattle.markdown_base.proofs.util.location.Location.relative_to_absolute.Goals.{Left-loop-stop, else-loop-stop-test, then-loop-stop-test+then-stop-relative}

-- if the next does not pass, the result is the last one that passed
stopped : (p : ℕ × ℕ → Bool) (stops : List (ℕ × ℕ)) (i : ℕ) (last : Option (ℕ × ℕ)) → (i < length stops → p (get_or stops i (0, 0)) ≡ false) → last_or last (take_while p (drop i stops)) ≡ last
stopped p [] zero last none = refl
stopped p [] (suc i) last none = refl
stopped p (x ∷ xs) zero last none = rw (none (omega arith)) refl
stopped p (x ∷ xs) (suc i) last none = stopped p xs i last (λ within. none (omega arith))

-- what the loop leaves is what the leading stops end in
left : (c : Left-loop-stop) → c.loop-stop.last ≡ last_or None (take_while (λ (stop : ℕ × ℕ). nat_le stop.0 c.args.relative) c.args.stops.now)
left c =
    let none : c.loop-stop.stop-index < length c.args.stops.now → nat_le (get_or c.args.stops.now c.loop-stop.stop-index (0, 0)).0 c.args.relative ≡ false = elim c.loop-stop-test.branch [
      | else-loop-stop-test w ↦ λ within. absurd (omega arith)
      | then-loop-stop-test+then-stop-relative w ↦ λ within. search (rules, tests)
    ] in
    sym (stopped (λ stop. nat_le stop.0 c.args.relative) c.args.stops.now c.loop-stop.stop-index c.loop-stop.last none) ∙ c.loop-stop.invariant.left

pub loop-stop-preserved : goal.loop-stop-preserved
loop-stop-preserved c = record {
  left = sym (leading_turn (λ stop. nat_le stop.0 c.args.relative) c.args.stops.now c.loop-stop.stop-index c.loop-stop.last (omega arith) (search (rules, tests))) ∙ c.loop-stop.invariant.left;
  before = search rules;
}

pub returns-in_err-start : goal.returns-in_err-start
returns-in_err-start c =
    record { offset = c.from_residual.ensures ∙ ap (λ o. option_map (λ (stop : ℕ × ℕ). stop.1 + (c.args.relative - stop.0)) o) (sym c.in_err-start.was ∙ (left (goal.at.returns-in_err-start c).Left-loop-stop)) }

pub overflow_add-result : goal.overflow_add-result
overflow_add-result c =
    let last = left (goal.at.overflow_add-result c).Left-loop-stop in
    let fits : c.in_ok-start.absolute + (c.args.relative - c.in_ok-start.start) < 2 ^ 64 =
    subst (λ o. IfSome (option_map (λ (stop : ℕ × ℕ). stop.1 + (c.args.relative - stop.0)) o) (λ offset. offset < 2 ^ 64)) (sym last ∙ c.in_ok-start.was) c.requires.fits in
    omega arith

pub returns : goal.returns
returns c =
    record { offset = ap (λ o. option_map (λ (stop : ℕ × ℕ). stop.1 + (c.args.relative - stop.0)) o) (sym c.in_ok-start.was ∙ (left (goal.at.returns c).Left-loop-stop)) }
