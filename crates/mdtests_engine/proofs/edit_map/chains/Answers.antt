use Rattle.mdtests_engine.proofs.Prelude.{ℕ, ◌*◌, ◌<◌, [], ◌∷◌, ◌++◌, sym, subst, ap, ◌∙◌, arith, rules, IfSome, All, All-push, EndsBelow, EachEnd}
use Rattle.std.proofs.lemmas.Option.{IfSome_then}
use Rattle.mdtests_engine.proofs.edit_map.chains.Goals as goal

pub loop-k-preserved : goal.loop-k-preserved
loop-k-preserved c =
    let n : ℕ = 2 * c.args.count in
    let P = EndsBelow n in
    let inside : c.loop-k.k < c.args.count = search rules in
    let before : IfSome c.enter_before.result (λ k. k < n) = IfSome_then c.enter_before.result {Q = λ k. k < n} c.enter_before.ensures (λ k below. omega arith) in
    let enter : P c.linked.result = IfSome_then c.linked.result.link {Q = EachEnd (λ k. k < n)} c.linked.ensures (λ l ends. (rw ends.0 before, rw ends.1 c.enter_behind.ensures)) in
    let first : All P (c.loop-k.events.items ++ c.linked.result ∷ []) = All-push P c.loop-k.events.items c.linked.result c.loop-k.invariant.1 enter in
    let both : All P ((c.loop-k.events.items ++ c.linked.result ∷ []) ++ c.event.result ∷ []) = All-push P (c.loop-k.events.items ++ c.linked.result ∷ []) c.event.result first (rw c.event.ensures tt) in (
      search rules,
      subst (All P) (sym (c.in_ok-push-2.ensures.items ∙ ap (λ xs. xs ++ c.event.result ∷ []) c.in_ok-push.ensures.items)) both,
    )
