use Rattle.std.proofs.Common.{◌≤◌, ◌+◌, ◌∙◌, ℕ, ap, sym, subst, arith}
use Rattle.std.specs.Prelude.{◌&&◌, IfSome}
use Rattle.mdblock_leaf_blocks.specs.LineKinds.{indent, is_thematic_break, unindented}
use Rattle.mdblock_lines.specs.Breaks.{has_break}
use Rattle.mdblock_lines.specs.Containers.{begins}
use Rattle.mdblock_containers.proofs.CostLemmas.{begun_paid}
use Rattle.mdblock_containers.proofs.GoingLemmas.{begins_some_size, begins_within_size}
use Rattle.mdblock_containers.proofs.going.begins_at.Goals as goal

pub begins-requires-clause-is_break : goal.begins-requires-clause-is_break
begins-requires-clause-is_break g c =
    let e = c.behind-rest.ensures.value in
    c.has.ensures ∙ (λ k. has_break c.args.breaks (c.args.at + (c.indent-columns.ensures.value ∙ ap indent e) k)) ∙ c.requires.breaks ∙ (λ k. c.args.on.now.thematic_break && is_thematic_break (unindented (sym e k)))

pub returns-clause-value : goal.returns-clause-value
returns-clause-value g c = c.begins.ensures.value ∙ ap (begins c.args.on.now c.args.number c.args.in_paragraph) c.behind-rest.ensures.value

pub returns-clause-some : goal.returns-clause-some
returns-clause-some g c = begins_some_size c.args.on.now c.args.number c.args.in_paragraph c.behind-rest.result.now c.begins.result c.begins.ensures.value

pub returns-clause-within : goal.returns-clause-within
returns-clause-within g c =
    subst (λ (n : ℕ). IfSome c.begins.result (λ p. p.size ≤ n)) c.behind-rest.ensures.len
    (begins_within_size c.args.on.now c.args.number c.args.in_paragraph c.behind-rest.result.now c.begins.result c.begins.ensures.value)

pub returns-clause-found : goal.returns-clause-found
returns-clause-found g c =
    begun_paid c.args.on.now c.args.number c.args.in_paragraph c.args.t.now c.behind-rest.result.now c.args.at c.indent-columns.result c.args.turns.now _ c.begins.new.turns c.begins.result c.behind-rest.ensures.value c.indent-columns.ensures.value
    c.indent-columns.ensures.turns c.begins.ensures.value c.begins.ensures.found

pub returns-clause-turns : goal.returns-clause-turns
returns-clause-turns g c = omega (arith, c.begins.ensures.turns, c.indent-columns.ensures.turns, c.indent-columns.ensures.within, c.behind-rest.ensures.len)
