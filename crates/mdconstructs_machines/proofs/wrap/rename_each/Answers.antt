use Rattle.mdconstructs_machines.proofs.Prelude.{◌≡◌, ℕ, suc, ◌+◌, ◌<◌, ◌≤◌, List, length, get_or, slice_set, ap, ◌∙◌, arith, Event, renamed}
use Rattle.mdconstructs_machines.proofs.Mapped.{mapped, mapped-all, mapped-length, mapped-more}
use Rattle.mdconstructs_machines.proofs.wrap.rename_each.Goals as goal

more : (ys xs : List Event) (i : ℕ) (d : Event) → ys ≡ mapped renamed i xs → i < length xs → slice_set ys i (renamed (get_or ys i d)) ≡ mapped renamed (suc i) xs
more ys xs i d is lt = ap (λ zs. slice_set zs i (renamed (get_or zs i d))) is ∙ mapped-more renamed i xs d lt

pub loop-event-preserved : goal.loop-event-preserved
loop-event-preserved c =
    let i = c.loop-event.event-index in let xs = c.args.events.now in
    let lt : i < length xs = omega (arith, c.loop-event-test.true, ap length c.loop-event.invariant, mapped-length renamed i xs) in
    let next : suc i ≡ i + 1 = omega arith in
    ap (slice_set c.loop-event.events i) c.rename.ensures ∙ more c.loop-event.events xs i _ c.loop-event.invariant lt ∙ ap (λ n. mapped renamed n xs) next

pub returns : goal.returns
returns c =
    let i = c.loop-event.event-index in let xs = c.args.events.now in
    let all : length xs ≤ i = omega (arith, c.loop-event-test.false, ap length c.loop-event.invariant, mapped-length renamed i xs) in
    c.loop-event.invariant ∙ mapped-all renamed i xs all
