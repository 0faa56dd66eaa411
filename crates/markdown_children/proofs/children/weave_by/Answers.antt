use Rattle.markdown_children.proofs.Prelude.{◌≡◌, ℕ, ◌≤◌, List, [], None, true, false, refl, sym, ap, ◌∙◌, subst, arith, length, drop, length-drop, length-map, between, take, ◌+◌, ◌-◌, ◌++◌, AllZip-long, AreDisjoint, SoFar, Child, IsChild, fitting_starts, begins, IsReady, Event, Edit, StandBefore, Subresult, given_by, err-if, lists, all_edits, divided_over, starts_below, removed_by, IsChildFault, take-length, edits_of_chain, written, end_of}
use Rattle.markdown_children.proofs.ChildReads.SoFar.{stand-before, so_far-other, so_far-next, so_far-fault}
use Rattle.markdown_children.proofs.ChainOrder.Forward.{forward-chain, within}
use Rattle.markdown_children.proofs.Parts.Tabled.{removed-le}
use Rattle.markdown_children.proofs.Parts.Rewritten.{all-written}
use Rattle.markdown_children.proofs.Parts.Written.{end_of-append, end_of-within, written-append}
use Rattle.markdown_children.proofs.Parts.Edits.{edits_give_children}
use Rattle.markdown_children.proofs.children.weave_by.Goals as goal
use Rattle.markdown_children.proofs.children.weave_by.Goals.{then-begins_at+in_ok-more+in_ok-end+in_ok-found, else-begins_at}

pub loop-index-init : goal.loop-index-init
loop-index-init g c = (
  [],
  record { children = []; read = tt; edits = refl; removed = refl; added = refl; done = ((λ t. refl), (λ t. refl)); definitions = c.new-2.ensures; footnotes = c.new.ensures },
  c.in_ok-woven.ensures.items,
  refl,
)

pub push_child-requires-clause-chain : goal.push_child-requires-clause-chain
push_child-requires-clause-chain g c = forward-chain c.args.parse_state.now.options.now.tab_size c.args.parse_state.now.bytes.now None c.args.events.now c.requires.ready c.loop-index.index (sym c.begins_at.ensures ∙ c.if-begins_at.true)

pub push_child-requires-clause-within : goal.push_child-requires-clause-within
push_child-requires-clause-within g c = within c.args.parse_state.now.options.now.tab_size c.args.parse_state.now.bytes.now None c.args.events.now c.requires.ready c.loop-index.index (sym c.begins_at.ensures ∙ c.if-begins_at.true)

-- the edits of the chains so far are before the next chain
are-before : (tab : ℕ) (bytes : List ℕ) (events : List Event) (ready : IsReady tab bytes None events) (i : ℕ) (es : List Edit) (children : List (List Event)) → begins None events i ≡ true
    → es ≡ all_edits 0 0 (divided_over events (starts_below None events i) children) → (end_of 0 es ≤ i) × (removed_by es ≤ i)
are-before tab bytes events ready i es children b is =
    let stands = subst (λ (ds : List Edit). StandBefore ds i) (sym is) (stand-before tab bytes None events ready i children b) in
    (end_of-within 0 i es stands.disjoint, omega (arith, removed-le es 0 i stands.disjoint))

pub push_child-requires-clause-before : goal.push_child-requires-clause-before
push_child-requires-clause-before g c =
    let p = c.args.parse_state.now in
    let inv = c.loop-index.invariant in
    let before = are-before p.options.now.tab_size p.bytes.now c.args.events.now c.requires.ready c.loop-index.index inv.0 (lists inv.1.children) (sym c.begins_at.ensures ∙ c.if-begins_at.true) inv.1.edits in
    omega (arith, inv.3, before.0)

pub push_child-requires-clause-removed : goal.push_child-requires-clause-removed
push_child-requires-clause-removed g c =
    let p = c.args.parse_state.now in
    let inv = c.loop-index.invariant in
    let before = are-before p.options.now.tab_size p.bytes.now c.args.events.now c.requires.ready c.loop-index.index inv.0 (lists inv.1.children) (sym c.begins_at.ensures ∙ c.if-begins_at.true) inv.1.edits in
    omega (arith, inv.1.removed, before.1)

pub returns-in_err-more-clause-err : goal.returns-in_err-more-clause-err
returns-in_err-more-clause-err g c =
    let p = c.args.parse_state.now in
    err-if c.from_residual-in_err-more.result _ _
    (λ f is. so_far-fault f c.loop-index-test.true (sym c.begins_at.ensures ∙ c.if-begins_at.true) c.loop-index.invariant.1
    (subst (IsChildFault (given_by p.bytes.now p.options.now) (g.M.Machine.rules p.machine.now) c.args.events.now c.loop-index.index) (sym is) c.in_err-more.ensures.err))
    c.from_residual-in_err-more.ensures.1

-- one more chain is written
woven-more : (events old now read child : List Event) (es : List Edit) (from i : ℕ) (acc : ℕ × ℕ) → old ≡ written 0 es events → from ≡ end_of 0 es → read ≡ child
    → now ≡ old ++ written from (edits_of_chain acc events i read) events → now ≡ written 0 (es ++ edits_of_chain acc events i child) events
woven-more events old now read child es from i acc before at same is =
    is ∙ (λ j. before j ++ written (at j) (edits_of_chain acc events i (same j)) events) ∙ sym (written-append 0 es (edits_of_chain acc events i child) events)

ends-more : (events read child : List Event) (es : List Edit) (from to i : ℕ) (acc : ℕ × ℕ) → from ≡ end_of 0 es → read ≡ child
    → to ≡ end_of from (edits_of_chain acc events i read) → to ≡ end_of 0 (es ++ edits_of_chain acc events i child)
ends-more events read child es from to i acc at same is =
    is ∙ (λ j. end_of (at j) (edits_of_chain acc events i (same j))) ∙ sym (end_of-append 0 es (edits_of_chain acc events i child))

pub loop-index-preserved : goal.loop-index-preserved
loop-index-preserved g c =
    let inv = c.loop-index.invariant in
    let events = c.args.events.now in
    let i = c.loop-index.index in
    elim c.if-begins_at.branch [
      | then-begins_at+in_ok-more+in_ok-end+in_ok-found w ↦
          let more = edits_of_chain c.loop-index.acc events i w.read_again.new.tokenizer.configuration.events in (
            inv.0 ++ more,
            so_far-next {child = record { events = w.read_again.new.tokenizer.configuration.events; found = w.in_ok-more.more }}
                c.requires.ready (sym c.begins_at.ensures ∙ w.if-begins_at.true) inv.1 w.in_ok-more.ensures.ok refl
                (ap (λ (s : ℕ × ℕ). s.0) w.acc-is ∙ w.in_ok-end.ensures.sums.0)
                (ap (λ (s : ℕ × ℕ). s.1) w.acc-is ∙ w.in_ok-end.ensures.sums.1 ∙ ap (λ (xs : List Event). c.loop-index.acc.1 + length xs) w.events-child.ensures)
                (w.found-is ∙ ap (λ (s : Subresult). record s { done = false }) w.in_ok-found.ensures),
            (rw w.woven-is (woven-more events c.loop-index.woven.items _ _ w.read_again.new.tokenizer.configuration.events inv.0 c.loop-index.from i c.loop-index.acc inv.2 inv.3 w.events-child.ensures w.in_ok-end.ensures.written)),
            w.from-is ∙ ends-more events _ w.read_again.new.tokenizer.configuration.events inv.0 c.loop-index.from _ i c.loop-index.acc inv.3 w.events-child.ensures w.in_ok-end.ensures.end,
          )
      | else-begins_at w ↦ (
        inv.0,
        so_far-other (sym c.begins_at.ensures ∙ w.if-begins_at.false) refl w.acc-is w.found-is inv.1,
        (rw w.woven-is inv.2),
        w.from-is ∙ inv.3,
      )
    ]

pub push_between-requires-clause-order : goal.push_between-requires-clause-order
push_between-requires-clause-order g c =
    let p = c.args.parse_state.now in
    let events = c.args.events.now in
    let inv = c.loop-index.invariant in
    let all : c.loop-index.index ≡ length events = omega arith in
    let disjoint = (edits_give_children p.options.now.tab_size p.bytes.now None events (lists inv.1.children) c.requires.ready).disjoint in
    let is : inv.0 ≡ all_edits 0 0 (divided_over events (fitting_starts None events) (lists inv.1.children)) =
    inv.1.edits ∙ ap (λ (k : ℕ). all_edits 0 0 (divided_over events (starts_below None events k) (lists inv.1.children))) all in
    omega (arith, inv.3, end_of-within 0 (length events) inv.0 (subst (λ (es : List Edit). AreDisjoint 0 es (length events)) (sym is) disjoint))

-- what is left of a list
all-left : (from : ℕ) (events : List Event) → between from (length events) events ≡ drop from events
all-left from events =
    let n : length events - from ≡ length (drop from events) = omega (arith, length-drop from events) in
    ap (λ k. take k (drop from events)) n ∙ take-length (drop from events)

pub returns-clause-ok : goal.returns-clause-ok
returns-clause-ok g c =
    let p = c.args.parse_state.now in
    let given = given_by p.bytes.now p.options.now in
    let rules = g.M.Machine.rules p.machine.now in
    let events = c.args.events.now in
    let inv = c.loop-index.invariant in
    let all : c.loop-index.index ≡ length events = omega arith in
    let s = subst (λ (k : ℕ). SoFar given rules None events k inv.0 c.loop-index.acc c.loop-index.found) all inv.1 in
    let long : length (fitting_starts None events) ≡ length (lists s.children) =
    sym (AllZip-long (IsChild given rules events) (fitting_starts None events) s.children s.read) ∙ sym (length-map s.children (λ (x : Child). x.events)) in (
      inv.0,
      (c.loop-index.acc, s),
      c.in_ok-push_between.ensures ∙ (λ j. inv.2 j ++ (ap (λ k. between k (length events) events) inv.3 ∙ all-left (end_of 0 inv.0) events) j)
          ∙ all-written p.options.now.tab_size p.bytes.now events c.requires.ready (lists s.children) long inv.0 s.edits,
    )
