use Rattle.markdown_children.proofs.Prelude.{◌≡◌, arith, refl, sym, ap, ◌∙◌, given_by, Memory, Result, IfErr, err-if, ok-if}
use Rattle.std.specs.declared.result.Result.TheVariants as result
use Rattle.markdown_children.proofs.ChainOrder.Following.{inside}
use Rattle.markdown_children.proofs.ChainOrder.Forward.{within}
use Rattle.markdown_children.proofs.ChildReads.ChainReads.{reads-holds}
use Rattle.markdown_children.proofs.ChildReads.Reading.{chain-first, chain-next, chain-passed, chain-rises, chain-child, chain-fault, on-range, on-pushed}
use Rattle.markdown_children.proofs.children.read_chunks.Goals as goal

pub range_of-requires : goal.range_of-requires
range_of-requires g c =
    let p = c.args.parse_state.now in
    record { inside = within p.options.now.tab_size p.bytes.now c.args.filter c.args.events.now c.requires.ready c.args.index c.requires.begins }

pub push-requires : goal.push-requires
push-requires g c =
    let p = c.args.parse_state.now in
    let first = chain-first g.M.Machine.rules p.machine.now p.bytes.now p.options.now c.requires.ready c.requires.begins c.requires.document (g.met.M.Machine.lawful p.machine.now (given_by p.bytes.now p.options.now)) c.requires.starts c.requires.start
    c.at_first_paragraph_of_list_item-first.ensures c.set_first_paragraph.ensures c.requires.new in
    record { range = λ _. on-range first c.range_of.ensures; holds = λ _. reads-holds first.reads }

pub loop-next-smaller : goal.loop-next-smaller
loop-next-smaller g c =
    let rises = chain-rises c.requires.ready c.loop-next.invariant.2 (sym c.in-Some.ensures) in
    omega (arith, rises.0, rises.1)

pub loop-next-init : goal.loop-next-init
loop-next-init g c =
    let p = c.args.parse_state.now in
    let first = chain-first g.M.Machine.rules p.machine.now p.bytes.now p.options.now c.requires.ready c.requires.begins c.requires.document (g.met.M.Machine.lawful p.machine.now (given_by p.bytes.now p.options.now)) c.requires.starts c.requires.start
    c.at_first_paragraph_of_list_item-first.ensures c.set_first_paragraph.ensures c.requires.new in
    (c.args.start, c.requires.start, on-pushed first c.range_of.ensures c.in_ok-state.ensures.ok)

pub next_of-requires : goal.next_of-requires
next_of-requires g c =
    let p = c.args.parse_state.now in
    omega (arith, inside p.options.now.tab_size p.bytes.now c.args.filter c.args.events.now c.requires.ready c.loop-next.at c.loop-next.invariant.2.stands.fit)

pub place_at-gap-requires : goal.place_at-gap-requires
place_at-gap-requires g c =
    omega (arith, (chain-rises c.requires.ready c.loop-next.invariant.2 (sym c.in-Some.ensures)).1)

pub define_skip-requires : goal.define_skip-requires
define_skip-requires g c =
    let r = (chain-next c.requires.ready c.loop-next.invariant.2 (sym c.in-Some.ensures)).reads in
    rw (c.place_at-gap.ensures, r.same_given) r.follow.0

pub range_of-requires-in-Some : goal.range_of-requires-in-Some
range_of-requires-in-Some g c = record { inside = (chain-rises c.requires.ready c.loop-next.invariant.2 (sym c.in-Some.ensures)).1 }

pub push-requires-in-Some : goal.push-requires-in-Some
push-requires-in-Some g c =
    let on = chain-passed c.requires.ready c.loop-next.invariant.2 (sym c.in-Some.ensures) c.place_at-gap.ensures c.in_ok-define_skip.ensures.ok in
    record { range = λ _. on-range on c.range_of-in-Some.ensures; holds = λ _. reads-holds on.reads }

pub loop-next-preserved : goal.loop-next-preserved
loop-next-preserved g c =
    let i = c.loop-next.invariant in
    (i.0, i.1, on-pushed (chain-passed c.requires.ready i.2 (sym c.in-Some.ensures) c.place_at-gap.ensures c.in_ok-define_skip.ensures.ok) c.range_of-in-Some.ensures c.in_ok-state-2.ensures.ok)

pub flush-requires : goal.flush-requires
flush-requires g c = record { holds = λ _. reads-holds c.loop-next.invariant.2.reads }

pub returns-clause-ok : goal.returns-clause-ok
returns-clause-ok g c =
    let i = c.loop-next.invariant in
    ok-if c.flush.result _ _ (λ sub f. chain-child i.2 (sym c.in_default.ensures) i.1 f) c.flush.ensures.ok

pub returns-in_err-define_skip-clause-err : goal.returns-in_err-define_skip-clause-err
returns-in_err-define_skip-clause-err g c = err-if c.from_residual-in_err-define_skip.result _ _ (λ f is. rw is tt) c.from_residual-in_err-define_skip.ensures.1

pub returns-in_err-state-2-clause-err : goal.returns-in_err-state-2-clause-err
returns-in_err-state-2-clause-err g c =
    let on = chain-passed c.requires.ready c.loop-next.invariant.2 (sym c.in-Some.ensures) c.place_at-gap.ensures c.in_ok-define_skip.ensures.ok in
    let memory = (c.in_err-state-2.ensures.err on.reads.open_still).0 in
    err-if c.from_residual-in_err-state-2.result _ _ (λ f is. let e : f ≡ Memory = is ∙ memory in rw e tt) c.from_residual-in_err-state-2.ensures.1

err-each : {T E : Type 0} (r : Result T E) (P Q : E → Type 0) → ((e : E) → r ≡ result.Err e → P e → Q e) → IfErr r P → IfErr r Q
err-each (result.Ok v) P Q f h = tt
err-each (result.Err e) P Q f h = f e refl h

pub returns-clause-err : goal.returns-clause-err
returns-clause-err g c =
    let i = c.loop-next.invariant in
    err-each c.flush.result _ _ (λ f is opened. chain-fault i.2 (sym c.in_default.ensures) i.1 f opened (λ m says. c.flush.ensures.message m (is ∙ ap result.Err says))) (c.flush.ensures.err i.2.reads.open_still)
