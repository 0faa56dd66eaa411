use Rattle.markdown_children.proofs.Prelude.{ℕ, List, [], false, refl, sym, ap, ◌∙◌, subst, Edit, StandBefore, Subresult, given_by, err-if, lists, IsChildFault}
use Rattle.markdown_children.proofs.ChildReads.SoFar.{stand-before, so_far-other, so_far-next, so_far-fault}
use Rattle.markdown_children.proofs.ChainOrder.Forward.{forward-chain, within}
use Rattle.markdown_children.proofs.children.gather.Goals as goal
use Rattle.markdown_children.proofs.children.gather.Goals.{then-begins_at+in_ok-child+in_ok-acc+in_ok-found, else-begins_at}

pub loop-index-init : goal.loop-index-init
loop-index-init g c =
    let e = c.requires.empty in
    record { children = []; read = tt; edits = e; removed = rw e; added = rw e; done = ((λ t. refl), (λ t. refl)); definitions = c.new-2.ensures; footnotes = c.new.ensures }

pub divide-requires-clause-chain : goal.divide-requires-clause-chain
divide-requires-clause-chain g c = forward-chain c.args.parse_state.now.options.now.tab_size c.args.parse_state.now.bytes.now c.args.filter c.args.events.now c.requires.ready c.loop-index.index (sym c.begins_at.ensures ∙ c.if-begins_at.true)

pub divide-requires-clause-within : goal.divide-requires-clause-within
divide-requires-clause-within g c = within c.args.parse_state.now.options.now.tab_size c.args.parse_state.now.bytes.now c.args.filter c.args.events.now c.requires.ready c.loop-index.index (sym c.begins_at.ensures ∙ c.if-begins_at.true)

pub divide-requires-clause-before : goal.divide-requires-clause-before
divide-requires-clause-before g c =
    let p = c.args.parse_state.now in
    let s = c.loop-index.invariant in
    subst (λ (es : List Edit). StandBefore es c.loop-index.index) (sym s.edits)
    (stand-before p.options.now.tab_size p.bytes.now c.args.filter c.args.events.now c.requires.ready c.loop-index.index (lists s.children) (sym c.begins_at.ensures ∙ c.if-begins_at.true))

pub loop-index-preserved : goal.loop-index-preserved
loop-index-preserved g c =
    elim c.if-begins_at.branch [
      | then-begins_at+in_ok-child+in_ok-acc+in_ok-found w ↦ so_far-next {child = record { events = w.in_ok-child.child.items; found = w.in_ok-child.more }}
          c.requires.ready (sym c.begins_at.ensures ∙ w.if-begins_at.true) c.loop-index.invariant w.in_ok-child.ensures.ok
          (w.map-is ∙ w.in_ok-acc.ensures.ok) (ap (λ (s : ℕ × ℕ). s.0) w.acc-is ∙ w.in_ok-acc.ensures.sums.0) (ap (λ (s : ℕ × ℕ). s.1) w.acc-is ∙ w.in_ok-acc.ensures.sums.1)
          (w.found-is ∙ ap (λ (s : Subresult). record s { done = false }) w.in_ok-found.ensures)
      | else-begins_at w ↦ so_far-other (sym c.begins_at.ensures ∙ w.if-begins_at.false) w.map-is w.acc-is w.found-is c.loop-index.invariant
    ]

pub returns-in_err-child-clause-err : goal.returns-in_err-child-clause-err
returns-in_err-child-clause-err g c =
    let p = c.args.parse_state.now in
    err-if c.from_residual.result _ _
    (λ f is. so_far-fault f c.loop-index-test.true (sym c.begins_at.ensures ∙ c.if-begins_at.true) c.loop-index.invariant
    (subst (IsChildFault (given_by p.bytes.now p.options.now) (g.M.Machine.rules p.machine.now) c.args.events.now c.loop-index.index) (sym is) c.in_err-child.ensures.err))
    c.from_residual.ensures.1
