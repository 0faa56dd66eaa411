use Rattle.mdbench.proofs.Prelude.{ℕ, ◌*◌, [], ◌∷◌, ◌++◌, sym, subst, ap, ◌∙◌, rules, All, All-push, EndsBelow}
use Rattle.mdbench.proofs.chain.Goals as goal

pub loop-k-preserved : goal.loop-k-preserved
loop-k-preserved c =
    let n : ℕ = 2 * c.args.count in
    let P = EndsBelow n in
    let first : All P (c.loop-k.events.items ++ c.linked_enter.result ∷ []) = All-push P c.loop-k.events.items c.linked_enter.result c.loop-k.invariant.1 c.linked_enter.ensures in
    let both : All P ((c.loop-k.events.items ++ c.linked_enter.result ∷ []) ++ c.event_of.result ∷ []) = All-push P (c.loop-k.events.items ++ c.linked_enter.result ∷ []) c.event_of.result first (rw c.event_of.ensures tt) in (
      search rules,
      subst (All P) (sym (c.in_ok-push-2.ensures.items ∙ ap (λ xs. xs ++ c.event_of.result ∷ []) c.in_ok-push.ensures.items)) both,
    )
