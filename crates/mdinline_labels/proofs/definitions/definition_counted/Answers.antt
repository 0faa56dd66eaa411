use Rattle.mdinline_labels.proofs.Prelude.{◌≤◌, IfSome, Some, None, IsEnded, IsPaid, end}
use Rattle.mdinline_labels.proofs.Paid.{paid}
use Rattle.mdinline_labels.proofs.definitions.definition_counted.Goals as goal

pub returns-clause-paid : goal.returns-clause-paid
returns-clause-paid g c =
    let text = c.args.bytes.now in
    let de = c.in_ok-destination.destination in
    let title = c.title_at-title.result in
    let t3 = c.title_at-title.new.turns in
    let t4 = c.titled_or_not.new.turns in
    elim c.titled_or_not.result as (λ r. IfSome r (λ d. IsEnded text de title d t3 t4) → IfSome r (λ d. end de ≤ d.size) → IfSome r (λ d. IsPaid text d c.args.turns.now t4)) [
      | None ↦ λ h k. h
      | Some d ↦ λ h k. paid text (end c.in_ok-label.label) de title d c.args.turns.now c.label_at.new.turns c.destination_at.new.turns t3 t4
          c.in_ok-label.ensures.found c.in_ok-destination.ensures.found c.in_ok-destination.ensures.behind
          c.title_at-title.ensures.tried c.title_at-title.ensures.mark c.title_at-title.ensures.found h k
    ] c.titled_or_not.ensures.paid c.titled_or_not.ensures.behind
