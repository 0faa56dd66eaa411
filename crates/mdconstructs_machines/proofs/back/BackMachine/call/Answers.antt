use Rattle.mdconstructs_machines.proofs.Prelude.{◌≡◌, Some, refl, sym, subst, ap, rules, Nok, StringStart, DidStep, with_local, sight_of, named, step_at, counts, back, string_start}
use Rattle.mdconstructs_machines.proofs.back.BackMachine.call.Goals as goal

pub returns-in-StringStart : goal.returns-in-StringStart
returns-in-StringStart c =
    let t = c.args.t.now in
    let k = with_local t.configuration (counts t.configuration.local) in
    let same : c.args.name.number ≡ StringStart.number = search rules in
    let is : named back.states c.args.name ≡ Some string_start = ap (λ n. named back.states (record { number = n })) same in
    record {
      call_is_step = subst (λ o. DidStep t c.begin.new.t (step_at back t.given o (sight_of t) k) Nok) (sym is) (record { answered = refl; became = c.begin.ensures });
    }
