use Rattle.markdown_tokenizer.proofs.Prelude.{◌≤◌, length, arith, seen, none_over}
use Rattle.markdown_tokenizer.proofs.Inside.Over.{noted-fits, noted-from, passed-fits, passed-sound, passed-over}
use Rattle.markdown_tokenizer.proofs.Inside.Steps.{end-inside}
use Rattle.markdown_tokenizer.proofs.tokenizer.Tokenizer.read_over.Goals as goal

pub over_until-to-requires : goal.over_until-to-requires
over_until-to-requires g c =
    let t = c.self.inside in let sound = c.self.invariant in
    let inside : t.end.0 ≤ length t.bytes.now = rw sound.known.own_bytes (end-inside t sound) in let before = sound.known.is_plain_until.before in
    record { inside = omega (arith, inside, before) }

pub bounds-self-inside-to : goal.bounds-self-inside-to
bounds-self-inside-to g c =
    let t = c.self.inside in let sound = c.self.invariant in
    let inside : t.end.0 ≤ length t.bytes.now = rw sound.known.own_bytes (end-inside t sound) in let before = sound.known.is_plain_until.before in
    let more = c.if-from-to.true in let upto = c.over_until-to.ensures.until more in
    omega (arith, inside, before, more, upto)

pub noted_upto-self-inside-requires-clause-from : goal.noted_upto-self-inside-requires-clause-from
noted_upto-self-inside-requires-clause-from g c =
    let t = c.self.inside in let h = c.over_until-to in let more = c.if-from-to.true in
    noted-from (g.M.Machine.rules (seen t).machine) c.args.name t c.self.invariant h.result.0 h.result.1 more (h.ensures.until more) h.ensures.over

pub noted_upto-self-inside-requires-clause-column : goal.noted_upto-self-inside-requires-clause-column
noted_upto-self-inside-requires-clause-column g c =
    let t = c.self.inside in let h = c.over_until-to in let more = c.if-from-to.true in
    noted-fits (g.M.Machine.rules (seen t).machine) c.args.name t c.self.invariant h.result.0 h.result.1 more (h.ensures.until more) h.ensures.over

pub pass_over-requires-clause-column : goal.pass_over-requires-clause-column
pass_over-requires-clause-column g c =
    let t = c.self.inside in let h = c.over_until-to in let more = c.if-from-to.true in
    passed-fits (g.M.Machine.rules (seen t).machine) c.args.name t c.self.invariant h.result.0 h.result.1 more (h.ensures.until more) h.ensures.over

pub invariant_of-self : goal.invariant_of-self
invariant_of-self g c =
    let t = c.self.inside in let h = c.over_until-to in let more = c.if-from-to.true in
    passed-sound (g.M.Machine.rules (seen t).machine) c.args.name t c.self.invariant h.result.0 h.result.1 more (h.ensures.until more) h.ensures.over
    c.pass_over.new.point c.pass_over.ensures c.more-self-inside.result c.more-self-inside.ensures c.noted_upto-self-inside.result c.noted_upto-self-inside.ensures

pub returns-then-from-to : goal.returns-then-from-to
returns-then-from-to g c =
    let t = c.self.inside in let h = c.over_until-to in let more = c.if-from-to.true in
    rw (← c.self.view_is)
    (passed-over (g.M.Machine.rules (seen t).machine) c.args.name t c.self.invariant h.result.0 h.result.1 more (h.ensures.until more) h.ensures.over
    c.pass_over.new.point c.pass_over.ensures c.more-self-inside.result c.more-self-inside.ensures c.noted_upto-self-inside.result c.noted_upto-self-inside.ensures)

pub returns-else-from-to : goal.returns-else-from-to
returns-else-from-to g c = none_over
