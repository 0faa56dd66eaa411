use Rattle.std.proofs.Common.{◌≡◌, suc, ◌+◌, ◌-◌, ◌<◌, length, take, drop, get_or, cond, Some, sym, ap, ◌∙◌, arith}
use Rattle.std.specs.Prelude.{bytes_eq, ◌&&◌}
use Rattle.std.proofs.lemmas.List.{drop_more, take_rest}
use Rattle.markdown_base.proofs.SliceLemmas.{filler}
use Rattle.markdown_base.specs.declared.event.Name.TheVariants as name
use Rattle.mddocument_link_targets.specs.Costs.{cost_of_one, definitions_cost}
use Rattle.mddocument_link_targets.specs.Defined.{defined_at}
use Rattle.mddocument_link_targets.specs.Spans.{enters, inside}
use Rattle.mddocument_link_targets.specs.Targets.{defined_label, definition_from}
use Rattle.mddocument_link_targets.proofs.definitions.definitions_of_counted.Goals as goal

pub loop-at-preserved : goal.loop-at-preserved
loop-at-preserved g c =
    let bytes = c.args.bytes.now in
    let events = c.args.events.now in
    let at = c.loop-at.at - 1 in
    let e = get_or events at filler in
    let es = drop (at + 1) events in
    let within : at < length events = omega arith in
    let first = drop_more events at filler within in
    let next : suc at ≡ c.loop-at.at = omega arith in
    let same : c.loop-at.at ≡ at + 1 = omega arith in
    record {
      known = λ label.
          c.in_ok-define.ensures.defined label
          ∙ ap (λ fs. cond (enters name.Definition e && bytes_eq label (defined_label bytes (inside fs))) (Some at) (defined_at c.loop-at.all label)) (take_rest events (at + 1))
          ∙ ap (λ o. cond (enters name.Definition e && bytes_eq label (defined_label bytes (inside es))) (Some at) o)
          (c.loop-at.invariant.known label ∙ ap (λ n. definition_from bytes label c.loop-at.at (drop n events)) same ∙ ap (λ n. definition_from bytes label n es) (sym next))
          ∙ sym (ap (definition_from bytes label at) first);
      turns =
          let whole : definitions_cost (drop at events) ≡ 1 + (cost_of_one e es + definitions_cost es) = ap definitions_cost first in
          let one : cost_of_one e (take (length events - (at + 1)) (drop (at + 1) events)) ≡ cost_of_one e es = ap (cost_of_one e) (take_rest events (at + 1)) in
          let rest : definitions_cost (drop c.loop-at.at events) ≡ definitions_cost es = ap (λ n. definitions_cost (drop n events)) same in
          omega (arith, c.in_ok-define.ensures.turns, c.add_one.ensures, c.loop-at.invariant.turns, whole, one, rest);
      room = omega arith;
    }
