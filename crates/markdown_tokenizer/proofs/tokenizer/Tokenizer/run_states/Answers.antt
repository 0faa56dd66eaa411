use Rattle.markdown_tokenizer.proofs.Prelude.{refl, Next, ◌∙◌}
use Rattle.markdown_tokenizer.proofs.Runs.TakingUp.{kept-first, kept-next, kept-last, kept-answer, holds-there, closes-there, fewer-left, kept-over, fewer-over}
use Rattle.markdown_tokenizer.proofs.tokenizer.Tokenizer.run_states.Goals as goal

pub next_call-requires-clause-ends : goal.next_call-requires-clause-ends
next_call-requires-clause-ends g c =
    closes-there g.met.M.Machine.lawful c.requires.text (kept-first g.met.M.Machine.lawful c.args.flush c.args.self.now c.args.state c.requires.waits c.requires.holds)

pub returns-in-None : goal.returns-in-None
returns-in-None g c =
    let k = kept-first g.met.M.Machine.lawful c.args.flush c.args.self.now c.args.state c.requires.waits c.requires.holds in
    let e = kept-last g.met.M.Machine.lawful c.requires.text k c.next_call.new.self c.next_call.new.state c.in-None.ensures in
    record { same = e.0.same; leads = e.0.leads; comes = e.0.comes; stops = e.1; message = e.0.message }

pub loop-answer-init : goal.loop-answer-init
loop-answer-init g c =
    let k = kept-first g.met.M.Machine.lawful c.args.flush c.args.self.now c.args.state c.requires.waits c.requires.holds in
    kept-next g.met.M.Machine.lawful c.requires.text k c.next_call.new.self c.in-Some.name c.in-Some.ensures

pub call_state-requires-clause-waits : goal.call_state-requires-clause-waits
call_state-requires-clause-waits g c =
    let u = c.loop-answer.self in let holds = holds-there g.met.M.Machine.lawful c.loop-answer.invariant in
    (g.met.M.Machine.lawful u.machine u.given).invariant_kept.waits u.text u.configuration u.choices c.loop-answer.name c.shows_in_text.ensures.text holds

pub call_state-requires-clause-holds : goal.call_state-requires-clause-holds
call_state-requires-clause-holds g c = holds-there g.met.M.Machine.lawful c.loop-answer.invariant

pub go_on-requires-clause-ends : goal.go_on-requires-clause-ends
go_on-requires-clause-ends g c =
    closes-there g.met.M.Machine.lawful c.requires.text (kept-answer g.met.M.Machine.lawful c.requires.text c.loop-answer.invariant c.shows_in_text.ensures c.in-Ok.ensures c.in-Ok-answer.is)

pub go_on-requires-in-Nok-clause-ends : goal.go_on-requires-in-Nok-clause-ends
go_on-requires-in-Nok-clause-ends g c =
    closes-there g.met.M.Machine.lawful c.requires.text (kept-answer g.met.M.Machine.lawful c.requires.text c.loop-answer.invariant c.shows_in_text.ensures c.in-Ok.ensures c.in-Nok.is)

pub feed_next-requires : goal.feed_next-requires
feed_next-requires g c =
    let k = kept-answer g.met.M.Machine.lawful c.requires.text c.loop-answer.invariant c.shows_in_text.ensures c.in-Ok.ensures c.in-Next.is in
    let o = kept-over g.met.M.Machine.lawful c.requires.text k c.read_over.ensures in
    record { closed = o.same.closed ∙ c.requires.closed }

pub returns-else-feed_next : goal.returns-else-feed_next
returns-else-feed_next g c =
    let k = kept-answer g.met.M.Machine.lawful c.requires.text c.loop-answer.invariant c.shows_in_text.ensures c.in-Ok.ensures c.in-Next.is in
    let o = kept-over g.met.M.Machine.lawful c.requires.text k c.read_over.ensures in
    let e = kept-last g.met.M.Machine.lawful c.requires.text o c.feed_next.new.self (Next c.in-Next.next) (c.if-feed_next.ensures c.in-Next.next) in
    record { same = e.0.same; leads = e.0.leads; comes = e.0.comes; stops = e.1; message = e.0.message }

pub returns-in-Err-go_on : goal.returns-in-Err-go_on
returns-in-Err-go_on g c =
    let k = kept-answer g.met.M.Machine.lawful c.requires.text c.loop-answer.invariant c.shows_in_text.ensures c.in-Ok.ensures c.in-Ok-answer.is in
    let e = kept-last g.met.M.Machine.lawful c.requires.text k c.go_on.new.self _ c.in-Err-go_on.ensures in
    rw c.state.ensures (record { same = e.0.same; leads = e.0.leads; comes = e.0.comes; stops = e.1; message = e.0.message })

pub returns-in-Err-go_on-2 : goal.returns-in-Err-go_on-2
returns-in-Err-go_on-2 g c =
    let k = kept-answer g.met.M.Machine.lawful c.requires.text c.loop-answer.invariant c.shows_in_text.ensures c.in-Ok.ensures c.in-Nok.is in
    let e = kept-last g.met.M.Machine.lawful c.requires.text k c.go_on-in-Nok.new.self _ c.in-Err-go_on-2.ensures in
    rw c.state-in-Err-go_on-2.ensures (record { same = e.0.same; leads = e.0.leads; comes = e.0.comes; stops = e.1; message = e.0.message })

pub returns-in-Error-clause-comes : goal.returns-in-Error-clause-comes
returns-in-Error-clause-comes g c =
    (kept-answer g.met.M.Machine.lawful c.requires.text c.loop-answer.invariant c.shows_in_text.ensures c.in-Ok.ensures c.in-Error.is).comes

pub returns-in-Error-clause-leads : goal.returns-in-Error-clause-leads
returns-in-Error-clause-leads g c =
    (kept-answer g.met.M.Machine.lawful c.requires.text c.loop-answer.invariant c.shows_in_text.ensures c.in-Ok.ensures c.in-Error.is).leads

pub loop-answer-smaller-then-feed_next : goal.loop-answer-smaller-then-feed_next
loop-answer-smaller-then-feed_next g c =
    let k = kept-answer g.met.M.Machine.lawful c.requires.text c.loop-answer.invariant c.shows_in_text.ensures c.in-Ok.ensures c.in-Next.is in
    fewer-over g.met.M.Machine.lawful c.read_over.new.self c.requires.text k c.in-Ok.ensures c.read_over.ensures c.feed_next.new.self c.in-Next.next (c.if-feed_next.ensures c.in-Next.next)

pub loop-answer-preserved-then-feed_next : goal.loop-answer-preserved-then-feed_next
loop-answer-preserved-then-feed_next g c =
    let k = kept-answer g.met.M.Machine.lawful c.requires.text c.loop-answer.invariant c.shows_in_text.ensures c.in-Ok.ensures c.in-Next.is in
    let o = kept-over g.met.M.Machine.lawful c.requires.text k c.read_over.ensures in
    kept-next g.met.M.Machine.lawful c.requires.text o c.feed_next.new.self c.in-Next.next (c.if-feed_next.ensures c.in-Next.next)

pub loop-answer-smaller-in-Ok-go_on : goal.loop-answer-smaller-in-Ok-go_on
loop-answer-smaller-in-Ok-go_on g c =
    let k = kept-answer g.met.M.Machine.lawful c.requires.text c.loop-answer.invariant c.shows_in_text.ensures c.in-Ok.ensures c.in-Ok-answer.is in
    fewer-left g.met.M.Machine.lawful c.requires.text k c.go_on.new.self c.in-Ok-go_on.next c.in-Ok.ensures c.in-Ok-go_on.ensures

pub loop-answer-preserved-in-Ok-go_on : goal.loop-answer-preserved-in-Ok-go_on
loop-answer-preserved-in-Ok-go_on g c =
    let k = kept-answer g.met.M.Machine.lawful c.requires.text c.loop-answer.invariant c.shows_in_text.ensures c.in-Ok.ensures c.in-Ok-answer.is in
    kept-next g.met.M.Machine.lawful c.requires.text k c.go_on.new.self c.in-Ok-go_on.next c.in-Ok-go_on.ensures

pub loop-answer-smaller : goal.loop-answer-smaller
loop-answer-smaller g c =
    let k = kept-answer g.met.M.Machine.lawful c.requires.text c.loop-answer.invariant c.shows_in_text.ensures c.in-Ok.ensures c.in-Nok.is in
    fewer-left g.met.M.Machine.lawful c.requires.text k c.go_on-in-Nok.new.self c.in-Ok-go_on-2.next c.in-Ok.ensures c.in-Ok-go_on-2.ensures

pub loop-answer-preserved : goal.loop-answer-preserved
loop-answer-preserved g c =
    let k = kept-answer g.met.M.Machine.lawful c.requires.text c.loop-answer.invariant c.shows_in_text.ensures c.in-Ok.ensures c.in-Nok.is in
    kept-next g.met.M.Machine.lawful c.requires.text k c.go_on-in-Nok.new.self c.in-Ok-go_on-2.next c.in-Ok-go_on-2.ensures

pub loop-answer-preserved-in-Retry : goal.loop-answer-preserved-in-Retry
loop-answer-preserved-in-Retry g c =
    kept-answer g.met.M.Machine.lawful c.requires.text c.loop-answer.invariant c.shows_in_text.ensures c.in-Ok.ensures c.in-Retry.is

pub loop-answer-smaller-in-Retry : goal.loop-answer-smaller-in-Retry
loop-answer-smaller-in-Retry g c =
    let k = kept-answer g.met.M.Machine.lawful c.requires.text c.loop-answer.invariant c.shows_in_text.ensures c.in-Ok.ensures c.in-Retry.is in
    fewer-left g.met.M.Machine.lawful c.requires.text k c.call_state.new.self c.in-Retry.next c.in-Ok.ensures (refl, refl)
