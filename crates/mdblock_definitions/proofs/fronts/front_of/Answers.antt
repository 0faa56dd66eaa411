use Rattle.std.proofs.Common.{◌≡◌, ◌+◌, ◌-◌, ◌*◌, ◌≤◌, ◌++◌, ◌∷◌, [], append-nil, append_assoc, drop, length, sym, ap, ◌∙◌, subst, arith, length-drop}
use Rattle.std.specs.List.{prefix_len}
use Rattle.mdinline_labels.specs.Costs.{IsPaid}
use Rattle.mdinline_labels.specs.Definitions.{definition_at, definitions}
use Rattle.mdinline_labels.specs.Tails.{is_white}
use Rattle.mdinline_labels.proofs.Paid.{still-paid, all-paid}
use Rattle.mdinline_labels.proofs.Fronts.{no-more, no-rest, one-behind, past-end, tail}
use Rattle.mdblock_definitions.proofs.fronts.front_of.Goals as goal
use Rattle.mdblock_definitions.proofs.fronts.front_of.Goals.{then-end-text, else-end-text}

pub returns-in-None-clause-definitions : goal.returns-in-None-clause-definitions
returns-in-None-clause-definitions g c =
    let xs = c.args.text.now in
    let none = no-more (drop c.loop-next.next xs) (ap definition_at (sym (tail c.loop-next.next xs)) ∙ sym c.in-None.ensures.definition) in
    sym (append-nil c.loop-next.definitions.items) ∙ ap (λ ds. c.loop-next.definitions.items ++ ds) (sym none) ∙ c.loop-next.invariant.0

pub returns-in-None-clause-rest : goal.returns-in-None-clause-rest
returns-in-None-clause-rest g c = sym (no-rest (drop c.loop-next.next c.args.text.now) (ap definition_at (sym (tail c.loop-next.next c.args.text.now)) ∙ sym c.in-None.ensures.definition)) ∙ c.loop-next.invariant.1

pub loop-next-preserved : goal.loop-next-preserved
loop-next-preserved g c =
    let xs = c.args.text.now in
    let next = c.loop-next.next in
    let d = c.in-Some.definition in
    let before = c.loop-next.definitions.items in
    let room : d.size ≤ length xs - next = omega (arith, c.in-Some.ensures.inside, ap length (tail next xs), length-drop next xs) in
    let place : drop c.if-end-text.next xs ≡ drop (next + (d.size + 1)) xs =
    elim c.if-end-text.branch [
      | then-end-text w ↦ ap (λ n. drop n xs) (omega (arith, w.next-is))
      | else-end-text w ↦ past-end xs c.if-end-text.next (next + (d.size + 1)) (omega (arith, w.next-is, room)) (omega (arith, w.next-is, room))
    ] in
    let more = one-behind xs next c.if-end-text.next d (omega arith) (ap definition_at (sym (tail next xs)) ∙ sym c.in-Some.ensures.definition) place in (
      ap (λ ds. ds ++ definitions (drop c.if-end-text.next xs)) c.in_ok-push-in-Some.ensures.items
          ∙ append_assoc before (d ∷ []) (definitions (drop c.if-end-text.next xs))
          ∙ ap (λ ds. before ++ ds) (sym more.0)
          ∙ c.loop-next.invariant.0,
      sym more.1 ∙ c.loop-next.invariant.1,
      elim c.if-end-text.branch [ then-end-text w ↦ omega (arith, w.next-is, room) | else-end-text w ↦ omega (arith, w.next-is, room) ],
      still-paid xs next c.if-end-text.next d c.args.turns.now c.loop-next.turns c.definition_counted.new.turns c.loop-next.invariant.3
          (ap definition_at (sym (tail next xs)) ∙ sym c.in-Some.ensures.definition)
          (subst (λ ys. prefix_len is_white ys + 3 ≤ d.size) (tail next xs) c.in-Some.ensures.front)
          (subst (λ ys. IsPaid ys d c.loop-next.turns c.definition_counted.new.turns) (tail next xs) c.in-Some.ensures.paid)
          (subst (λ ys. c.definition_counted.new.turns ≤ c.loop-next.turns + 4 * length ys + 8) (tail next xs) c.in-Some.ensures.turns)
          place
          (elim c.if-end-text.branch [ then-end-text w ↦ omega (arith, w.next-is) | else-end-text w ↦ omega (arith, w.next-is) ]),
    )

pub returns-in-None-clause-turns : goal.returns-in-None-clause-turns
returns-in-None-clause-turns g c =
    let xs = c.args.text.now in
    let next = c.loop-next.next in
    all-paid xs next c.args.turns.now c.loop-next.turns c.definition_counted.new.turns (omega arith) c.loop-next.invariant.3
    (subst (λ ys. c.definition_counted.new.turns ≤ c.loop-next.turns + 4 * length ys + 8) (tail next xs) c.in-None.ensures.turns)

pub returns-in_err-push-in-Some-clause-turns : goal.returns-in_err-push-in-Some-clause-turns
returns-in_err-push-in-Some-clause-turns g c =
    let xs = c.args.text.now in
    let next = c.loop-next.next in
    all-paid xs next c.args.turns.now c.loop-next.turns c.definition_counted.new.turns (omega arith) c.loop-next.invariant.3
    (subst (λ ys. c.definition_counted.new.turns ≤ c.loop-next.turns + 4 * length ys + 8) (tail next xs) c.in-Some.ensures.turns)
