use Rattle.mdinline_labels.proofs.Prelude.{◌≡◌, ◌+◌, ◌-◌, ◌*◌, ◌≤◌, drop, length, sym, ap, ◌∙◌, subst, arith, length-drop, definition_at, prefix_len, is_white, IsPaid}
use Rattle.mdinline_labels.proofs.Paid.{still-paid, all-paid}
use Rattle.mdinline_labels.proofs.Fronts.{no-more, no-rest, one-behind, past-end, tail}
use Rattle.mdinline_labels.proofs.definitions.definitions_counted.Goals as goal
use Rattle.mdinline_labels.proofs.definitions.definitions_counted.Goals.{then-end-bytes, else-end-bytes}

pub returns-in-None-clause-count : goal.returns-in-None-clause-count
returns-in-None-clause-count g c =
    let none = no-more (drop c.loop-next.next c.args.bytes.now) (ap definition_at (sym (tail c.loop-next.next c.args.bytes.now)) ∙ sym c.in-None.ensures.definition) in
    omega (arith, c.loop-next.invariant.0, ap length none)

pub returns-in-None-clause-rest : goal.returns-in-None-clause-rest
returns-in-None-clause-rest g c = sym (no-rest (drop c.loop-next.next c.args.bytes.now) (ap definition_at (sym (tail c.loop-next.next c.args.bytes.now)) ∙ sym c.in-None.ensures.definition)) ∙ c.loop-next.invariant.1

pub loop-next-preserved : goal.loop-next-preserved
loop-next-preserved g c =
    let xs = c.args.bytes.now in
    let next = c.loop-next.next in
    let d = c.in-Some.definition in
    let room : d.size ≤ length xs - next = omega (arith, c.in-Some.ensures.inside, ap length (tail next xs), length-drop next xs) in
    let place : drop c.if-end-bytes.next xs ≡ drop (next + (d.size + 1)) xs =
    elim c.if-end-bytes.branch [
      | then-end-bytes w ↦ ap (λ n. drop n xs) (omega (arith, w.next-is))
      | else-end-bytes w ↦ past-end xs c.if-end-bytes.next (next + (d.size + 1)) (omega (arith, w.next-is, room)) (omega (arith, w.next-is, room))
    ] in
    let more = one-behind xs next c.if-end-bytes.next d (omega arith) (ap definition_at (sym (tail next xs)) ∙ sym c.in-Some.ensures.definition) place in (
      omega (arith, c.loop-next.invariant.0, ap length more.0),
      sym more.1 ∙ c.loop-next.invariant.1,
      elim c.if-end-bytes.branch [ then-end-bytes w ↦ omega (arith, w.next-is, room) | else-end-bytes w ↦ omega (arith, w.next-is, room) ],
      elim c.if-end-bytes.branch [ then-end-bytes w ↦ omega (arith, w.next-is, room) | else-end-bytes w ↦ omega (arith, w.next-is, room) ],
      still-paid xs next c.if-end-bytes.next d c.args.turns.now c.loop-next.turns c.definition_counted.new.turns c.loop-next.invariant.4
          (ap definition_at (sym (tail next xs)) ∙ sym c.in-Some.ensures.definition)
          (subst (λ ys. prefix_len is_white ys + 3 ≤ d.size) (tail next xs) c.in-Some.ensures.front)
          (subst (λ ys. IsPaid ys d c.loop-next.turns c.definition_counted.new.turns) (tail next xs) c.in-Some.ensures.paid)
          (subst (λ ys. c.definition_counted.new.turns ≤ c.loop-next.turns + 4 * length ys + 8) (tail next xs) c.in-Some.ensures.turns)
          place
          (elim c.if-end-bytes.branch [ then-end-bytes w ↦ omega (arith, w.next-is) | else-end-bytes w ↦ omega (arith, w.next-is) ]),
    )

pub returns-in-None-clause-turns : goal.returns-in-None-clause-turns
returns-in-None-clause-turns g c =
    let xs = c.args.bytes.now in
    let next = c.loop-next.next in
    all-paid xs next c.args.turns.now c.loop-next.turns c.definition_counted.new.turns (omega arith) c.loop-next.invariant.4
    (subst (λ ys. c.definition_counted.new.turns ≤ c.loop-next.turns + 4 * length ys + 8) (tail next xs) c.in-None.ensures.turns)
