use Rattle.std.proofs.Common.{◌≡◌, suc, ◌-◌, ◌<◌, false, arith, ap, drop, length, sym, ◌∙◌}
use Rattle.std.proofs.lemmas.List.{drop_all}
use Rattle.std.specs.List.{list_any}
use Rattle.markdown_base.proofs.SliceLemmas.{filler}
use Rattle.mdinline_full_references.specs.FullReferenceRows.{begins_label}
use Rattle.mdinline_full_references.proofs.FullReferences.LabelEvents.{behind-last, behind-none}
use Rattle.mdinline_full_references.proofs.full_reference.label_behind.Goals as goal

pub returns-then-begins_label-clause-behind : goal.returns-then-begins_label-clause-behind
returns-then-begins_label-clause-behind c =
    let events = c.args.events.now in
    let at = c.loop-at.at in
    let next : suc (at - 1) ≡ at = omega arith in
    let within : at - 1 < length events = omega arith in
    let passed : list_any begins_label (drop (suc (at - 1)) events) ≡ false = ap (λ n. list_any begins_label (drop n events)) next ∙ c.loop-at.invariant.passed in
    ap (λ n. drop n events) (sym next) ∙ sym (behind-last (at - 1) events filler within (sym c.begins_label.ensures ∙ c.if-begins_label.true) passed)

pub returns-clause-behind : goal.returns-clause-behind
returns-clause-behind c =
    let events = c.args.events.now in
    let none : c.loop-at.at ≡ 0 = omega arith in
    drop_all (length events) events (omega arith) ∙ sym (behind-none events (ap (λ n. list_any begins_label (drop n events)) (sym none) ∙ c.loop-at.invariant.passed))
