use Rattle.std.proofs.Common.{◌∙◌, sym, arith}
use Rattle.std.proofs.lemmas.List.Sums.{prefix_len-le-length}
use Rattle.mdconstructs_tables.specs.Breaks.{is_white}
use Rattle.mdblock_lines.proofs.LineLemmas.{tag_begins, tag_step, tag_ends}
use Rattle.mdblock_lines.proofs.html.ends_open_tag.Goals as goal

pub loop-more-init : goal.loop-more-init
loop-more-init g c = (tag_begins c.args.t.now, omega arith)

pub loop-more-preserved : goal.loop-more-preserved
loop-more-preserved g c = (
  tag_step c.args.t.now c.loop-more.rest.now c.in-Some.more.now (sym c.in-Some.ensures.value) c.in-Some.ensures.shorter c.loop-more.invariant.0,
  omega (arith, c.loop-more.invariant.1, c.add_one.ensures, c.in-Some.ensures.found, c.in-Some.ensures.white, c.in-Some.ensures.shorter),
)

pub returns-in-None-clause-value : goal.returns-in-None-clause-value
returns-in-None-clause-value g c = c.closes_tag.ensures.value ∙ sym (tag_ends c.args.t.now c.loop-more.rest.now (sym c.in-None.ensures.value) c.loop-more.invariant.0)

pub returns-in-None-clause-turns : goal.returns-in-None-clause-turns
returns-in-None-clause-turns g c =
    let within = prefix_len-le-length is_white c.loop-more.rest.now in
    omega (arith, c.loop-more.invariant.1, c.add_one.ensures, c.next_in_tag.ensures.turns, c.closes_tag.ensures.turns, within)
