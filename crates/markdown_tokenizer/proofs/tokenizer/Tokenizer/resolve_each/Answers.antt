use Rattle.markdown_tokenizer.proofs.Prelude.{◌+◌, drop}
use Rattle.markdown_tokenizer.proofs.Runs.Resolvers.{resolves-one, resolves-last, resolves-next, resolves-refused}
use Rattle.markdown_tokenizer.proofs.tokenizer.Tokenizer.resolve_each.Goals as goal

pub resolve_next-requires-clause-invariant : goal.resolve_next-requires-clause-invariant
resolve_next-requires-clause-invariant g c =
    let r = resolves-one g.M.Machine.rules c.loop-name.name-index c.name-item.result c.loop-name-test.true c.name-item.is c.loop-name.invariant in
    let same = r.same in (drop (c.loop-name.name-index + 1) c.args.names.now, rw same r.holds)

pub returns-in_err-found-clause-message : goal.returns-in_err-found-clause-message
returns-in_err-found-clause-message g c m is =
    let r = resolves-one g.M.Machine.rules c.loop-name.name-index c.name-item.result c.loop-name-test.true c.name-item.is c.loop-name.invariant in
    let from = rw is at c.from_residual.ensures.1 in
    resolves-refused g.M.Machine.rules r m (c.in_err-found.ensures.message m (cc))

pub loop-name-preserved : goal.loop-name-preserved
loop-name-preserved g c =
    let start = c.args.self.now in let law = (g.met.M.Machine.lawful start.machine start.given).resolvers_keep in
    let r = resolves-one g.M.Machine.rules c.loop-name.name-index c.name-item.result c.loop-name-test.true c.name-item.is c.loop-name.invariant in
    let gives = c.in_ok-found.ensures.ok in
    resolves-next g.M.Machine.rules r c.requires.text law c.resolve_next.new.self c.in_ok-found.found c.in_ok-found.ensures.same gives.0 gives.1 gives.2

pub make_edits-requires-clause-can : goal.make_edits-requires-clause-can
make_edits-requires-clause-can g c =
    let start = c.args.self.now in let r = resolves-last g.M.Machine.rules c.loop-name.name-index c.loop-name-test.false c.loop-name.invariant in
    ((g.met.M.Machine.lawful start.machine start.given).resolvers_keep.at_last start.text c.loop-name.self.configuration c.requires.text r.holds).0

pub returns-clause-ok : goal.returns-clause-ok
returns-clause-ok g c =
    let start = c.args.self.now in let r = resolves-last g.M.Machine.rules c.loop-name.name-index c.loop-name-test.false c.loop-name.invariant in
    let last = (g.met.M.Machine.lawful start.machine start.given).resolvers_keep.at_last start.text c.loop-name.self.configuration c.requires.text r.holds in
    let edits = c.in_ok-make_edits.ensures.ok in rw edits (record { is = r.leads; in_shape = last.1; promised = last.2 })
