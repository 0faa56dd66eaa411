-- Leaf blocks are read within the cost of their machine.
use Rattle.mddocument_costs.proofs.Prelude.{Some, [], arith, refl, subst, ◌*◌, ◌+◌, ◌≡◌, ◌≤◌, ◌∷◌, Content, Name, Next, start_configuration, content_at, text_from, ReadsWithin}
use Rattle.markdown_base.specs.declared.event.Content.TheVariants as content
use Rattle.markdown_base.specs.declared.state.TheConstants.Name.{ContentDefinitionBefore}
use Rattle.mdblock_leaf_rows.specs.FlowKnows.{flow_rules}
use Rattle.mdblock_leaf_rows.specs.LawStatements.{StartsWithin}
use Rattle.mddocument_costs.proofs.ChainCalls.{calls-within, content-of, from-start, only-one}

pub flow-linear : StartsWithin flow_rules ContentDefinitionBefore (λ n. 9 * n + 10) → ReadsWithin flow_rules (content.Content ∷ []) 9 10
flow-linear costs g wanted events new sub document ready are few h =
    calls-within g document wanted events ready flow_rules 9 10 (λ c child begin less one.
    let there = content-of g document wanted events ready c begin in
    let is = only-one content.Content there.0 (are c there.0 there.1 there.2) in
    let at : content_at events c ≡ Some content.Content = subst (λ (w : Content). content_at events c ≡ Some w) is there.2 in
    let text = text_from g events c in
    let start = from-start g document wanted events ready flow_rules c child one content.Content ContentDefinitionBefore at refl in
    let within = subst (λ (name : Name). one.result.calls ≤ (flow_rules g).cost text (start_configuration one.read.flag) [] (Next name)) start one.read.within in
    omega (arith, within, costs g text one.read.flag)) new sub h
