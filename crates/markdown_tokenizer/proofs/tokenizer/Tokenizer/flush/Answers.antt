use Rattle.markdown_tokenizer.proofs.Prelude.{◌≡◌, ◌∙◌, [], ap, inl, inr, refl, sym, true, false, IfOk-weaker, Ok, Error, Reading, IsText, IsWellFormed, taken}
use Rattle.markdown_tokenizer.specs.declared.waiting.Phase.TheVariants.{Resolved}
use Rattle.markdown_tokenizer.proofs.Runs.Resolvers.{resolving-is, promised-is}
use Rattle.markdown_tokenizer.proofs.Runs.Outcomes.{flush-held, flush-refused, flush-ok}
use Rattle.markdown_tokenizer.proofs.tokenizer.Tokenizer.flush.Given.{Over}
use Rattle.markdown_tokenizer.proofs.tokenizer.Tokenizer.flush.Goals.{After-shows_events}
use Rattle.markdown_tokenizer.proofs.tokenizer.Tokenizer.flush.Goals as goal

-- where the reading ended no choice waits, the events are well formed, and the invariant holds
ended : (g : Over) (c : After-shows_events g) → let t = c.args.self.now in let u = c.run_states.new.self in
    (u.choices ≡ []) × (u.phase ≡ Reading) × IsWellFormed t.given u.configuration.events × IsText t.given u.text × (g.M.Machine.rules t.machine t.given).holds u.text u.configuration [] Ok
ended g c =
    let t = c.args.self.now in let u = c.run_states.new.self in let close = c.close.ensures in
    let only = rw close at c.in-Ok.ensures.same in let none = rw c.in-Ok-answer.is at c.in-Ok.ensures.stops in
    let h = flush-held (g.M.Machine.rules t.machine t.given) t u c.args.state c.in-Ok.answer only (rw close at c.in-Ok.ensures.leads) c.shows_in_text.ensures.text none in
    let held = rw c.in-Ok-answer.is at h.1 in let given = only.given in
    let reads = only.phase ∙ c.shows_in_text.ensures.reads (sym c.is_closed.ensures ∙ c.if-is_closed.false) in
    (none, reads, rw given at (c.shows_events.ensures reads ((g.met.M.Machine.lawful t.machine t.given).ends_when_read.ok u.text u.configuration h.0 held).1), h.0, held)

pub unreachable-requires : goal.unreachable-requires
unreachable-requires g c =
    let t = c.args.self.now in let u = c.run_states.new.self in let close = c.close.ensures in
    let h = flush-held (g.M.Machine.rules t.machine t.given) t u c.args.state c.in-Ok.answer (rw close at c.in-Ok.ensures.same) (rw close at c.in-Ok.ensures.leads)
    c.shows_in_text.ensures.text (rw c.in-Nok.is at c.in-Ok.ensures.stops) in
    (g.met.M.Machine.lawful t.machine t.given).ends_when_read.nok u.text u.configuration h.0 (rw c.in-Nok.is at h.1)

pub returns-in-Error-clause-message : goal.returns-in-Error-clause-message
returns-in-Error-clause-message g c message is =
    let t = c.args.self.now in let u = c.run_states.new.self in let close = c.close.ensures in
    let same : c.in-Error.message ≡ message = cc in let only = rw close at c.in-Ok.ensures.same in
    let reads = only.phase ∙ c.shows_in_text.ensures.reads (sym c.is_closed.ensures ∙ c.if-is_closed.false) in
    flush-refused (g.M.Machine.rules t.machine t.given) t u c.args.state c.in-Ok.answer only (rw close at c.in-Ok.ensures.leads)
    c.args.resolve u u.configuration u.phase refl (rw c.in-Error.is reads) message (inl (c.in-Error.is ∙ ap Error same))

pub resolve_all-requires-clause-invariant : goal.resolve_all-requires-clause-invariant
resolve_all-requires-clause-invariant g c =
    let t = c.args.self.now in let u = c.run_states.new.self in let close = c.close.ensures in let rest = c.take_definitions-sub.ensures.rest in
    let e = ended g (goal.at.resolve_all-requires-clause-invariant g c).After-shows_events in
    let only = rw close at c.in-Ok.ensures.same in let given = only.given in let machine = only.machine in
    rw (rest, machine, given) ((g.met.M.Machine.lawful t.machine t.given).resolvers_keep.at_end u.text u.configuration e.3 e.2 e.4)

pub returns-then-resolve-clause-ok : goal.returns-then-resolve-clause-ok
returns-then-resolve-clause-ok g c =
    let t = c.args.self.now in let u = c.run_states.new.self in let close = c.close.ensures in let rest = c.take_definitions-sub.ensures.rest in
    let e = ended g (goal.at.returns-then-resolve-clause-ok g c).After-shows_events in
    let only = rw close at c.in-Ok.ensures.same in let resolve = c.if-resolve.true in let after = c.resolve_all.ensures in
    IfOk-weaker c.resolve_all.result _ _
    (λ all over. flush-ok (g.M.Machine.rules t.machine t.given) t u c.args.state c.in-Ok.answer only (rw close at c.in-Ok.ensures.leads)
    c.args.resolve c.resolve_all.new.self c.resolve_all.new.self.configuration Resolved (rw rest at after.same) all c.in-Ok-answer.is e.0
    (rw resolve (resolving-is g.M.Machine.rules t u c.take_definitions-sub.new.self _ _ only.given only.machine only.text rest c.take_definitions-sub.ensures.answer over.is))
    (rw resolve refl) e.2 (λ f. absurd (let h : true ≡ false = sym resolve ∙ f in cc)) (λ _. over.in_shape)
    (λ _. promised-is g.M.Machine.rules t u c.take_definitions-sub.new.self _ _ only.given only.machine only.text rest over.promised)) after.ok

pub returns-then-resolve-clause-message : goal.returns-then-resolve-clause-message
returns-then-resolve-clause-message g c message refuses =
    let t = c.args.self.now in let u = c.run_states.new.self in let close = c.close.ensures in let rest = c.take_definitions-sub.ensures.rest in
    let e = ended g (goal.at.returns-then-resolve-clause-message g c).After-shows_events in
    let only = rw close at c.in-Ok.ensures.same in let resolve = c.if-resolve.true in let after = c.resolve_all.ensures in
    flush-refused (g.M.Machine.rules t.machine t.given) t u c.args.state c.in-Ok.answer only (rw close at c.in-Ok.ensures.leads)
    c.args.resolve c.resolve_all.new.self c.resolve_all.new.self.configuration Resolved (rw rest at after.same) (rw c.in-Ok-answer.is refl) message (inr (
      c.in-Ok-answer.is,
      e.0,
      rw resolve (resolving-is g.M.Machine.rules t u c.take_definitions-sub.new.self _ _ only.given only.machine only.text rest c.take_definitions-sub.ensures.answer (after.message message refuses)),
    ))

pub returns-else-resolve-clause-ok : goal.returns-else-resolve-clause-ok
returns-else-resolve-clause-ok g c =
    let t = c.args.self.now in let u = c.run_states.new.self in let close = c.close.ensures in let plain = c.if-resolve.false in
    let e = ended g (goal.at.returns-else-resolve-clause-ok g c).After-shows_events in
    flush-ok (g.M.Machine.rules t.machine t.given) t u c.args.state c.in-Ok.answer (rw close at c.in-Ok.ensures.same) (rw close at c.in-Ok.ensures.leads)
    c.args.resolve c.take_definitions-sub.new.self (taken u.configuration) u.phase c.take_definitions-sub.ensures.rest c.take_definitions-sub.result c.in-Ok-answer.is e.0
    (rw plain (refl, c.take_definitions-sub.ensures.answer)) (rw plain e.1) e.2
    (λ _. e.2) (λ f. absurd (let h : true ≡ false = sym f ∙ plain in cc)) (λ f. absurd (let h : true ≡ false = sym f ∙ plain in cc))
