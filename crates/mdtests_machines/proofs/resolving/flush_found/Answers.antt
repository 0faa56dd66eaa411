use Rattle.mdtests_machines.proofs.Prelude.{[], sym, subst, arith, Next, TextStart, TokenizerValue, Resolver, Wrap, wrap_rules, wrap-lawful}
use Rattle.markdown.proofs.Runs.Cuts.{IsAtCut, at-start, at-end}
use Rattle.mdtests_machines.proofs.Found.{found-holds}
use Rattle.mdtests_machines.proofs.resolving.flush_found.Goals as goal

pub push-requires : goal.push-requires
push-requires c =
    let begun : IsAtCut (λ (m : Wrap). wrap_rules m.refuse) c.args.parse_state.now TextStart [] 0 (0, 0) c.args.tokenizer.now (Next TextStart) =
    at-start (λ m. wrap-lawful m.refuse) c.requires.document (0, omega arith, (cc)) tt _ c.requires.begins in
    record { range = λ _. begun.last; holds = λ _. begun.holds }

pub flush-requires : goal.flush-requires
flush-requires c =
    let begun : IsAtCut (λ (m : Wrap). wrap_rules m.refuse) c.args.parse_state.now TextStart [] 0 (0, 0) c.args.tokenizer.now (Next TextStart) =
    at-start (λ m. wrap-lawful m.refuse) c.requires.document (0, omega arith, (cc)) tt _ c.requires.begins in
    let u = c.push.new.self in let a = c.in_ok-state.state in
    record {
      holds = λ _. subst (λ (t : TokenizerValue Wrap Resolver Unit). (wrap_rules t.machine.refuse t.given).holds t.text t.configuration t.choices a) (sym c.in_ok-find.ensures)
          (found-holds u.machine.refuse u.given u.text u.configuration u.choices c.args.label a (at-end begun u a c.in_ok-state.ensures.ok));
    }
