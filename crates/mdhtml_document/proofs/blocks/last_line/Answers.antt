use Rattle.std.proofs.Common.{◌≡◌, ◌+◌, ◌-◌, ◌<◌, false, arith, ap, drop, length, sym, ◌∙◌}
use Rattle.std.specs.List.{list_any}
use Rattle.std.proofs.lemmas.List.{take_rest}
use Rattle.markdown_base.specs.declared.event.Name.TheVariants as name
use Rattle.mddocument_link_targets.specs.Spans.{enters}
use Rattle.mdhtml_document.proofs.LastLines.{last-behind, last-of-none}
use Rattle.mdhtml_document.proofs.blocks.last_line.Goals as goal

pub returns-then-enters : goal.returns-then-enters
returns-then-enters c =
    let events = c.args.events.now in
    let from = c.loop-from.from in
    let next : (from - 1) + 1 ≡ from = omega arith in
    let within : from - 1 < length events = omega arith in
    let none : list_any (enters name.LineEnding) (drop ((from - 1) + 1) events) ≡ false = ap (λ n. list_any (enters name.LineEnding) (drop n events)) next ∙ c.loop-from.invariant.none in
    take_rest events from ∙ sym (last-behind events (from - 1) within (sym c.enters.ensures ∙ c.if-enters.true) none ∙ ap (λ n. drop n events) next)

pub returns : goal.returns
returns c =
    let events = c.args.events.now in
    let first : c.loop-from.from ≡ 0 = omega arith in
    sym (last-of-none events (ap (λ n. list_any (enters name.LineEnding) (drop n events)) (sym first) ∙ c.loop-from.invariant.none))
