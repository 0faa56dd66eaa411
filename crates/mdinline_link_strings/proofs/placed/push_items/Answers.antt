use Rattle.std.proofs.Common.{◌≡◌, ◌∙◌, ◌+◌, ◌++◌, ◌-◌, ap, arith, drop, length, subst, sym, take}
use Rattle.std.proofs.lemmas.List.{length-drop, take_all}
use Rattle.mdinline_link_strings.proofs.Added.{added-more, all-added}
use Rattle.mdinline_link_strings.specs.Laid.{item_between}
use Rattle.mdinline_link_strings.specs.Reached.{AreAddedUpto}
use Rattle.mdinline_constructs.specs.StringItems.{string_item_at}
use Rattle.mdinline_link_strings.proofs.placed.push_items.Goals as goal

pub loop-next-preserved : goal.loop-next-preserved
loop-next-preserved g c =
    let on = c.args.on.now in
    let r = c.args.range.now in
    let old = c.args.out.now.items in
    let l = c.loop-next in
    let item = c.item_at-item.result in
    let text = c.as_slice-text.ensures.value in
    let many = ap length text in
    let test = c.loop-next-test.true in
    let t = c.as_slice-text.result.now in
    let left = length-drop l.next t in
    let whole : take (length t - l.next) (drop l.next t) ≡ drop l.next t = take_all (length t - l.next) (drop l.next t) (omega (arith, left)) in
    let few = ap length whole in
    let within = c.item_at-item.ensures.within in
    let size = c.size-next.ensures in
    let turns = c.item_at-item.ensures.turns in
    let one = c.add_one.ensures in
    let so_far = l.invariant.2 in
    let added = c.in_ok-push_item.ensures ∙ ap (λ ps. l.out.items ++ item_between ps item l.next) c.as_slice.ensures.value in
    let is = c.item_at-item.ensures.value ∙ ap (string_item_at on) whole ∙ ap (λ b. string_item_at on (drop l.next b)) text in (
      subst (AreAddedUpto on r old c.push_item.new.out.items) (ap (λ n. l.next + n) (sym size))
          (added-more on r old l.out.items c.push_item.new.out.items l.next item l.invariant.0 (omega (arith, test, many)) is c.item_at-item.ensures.some (omega (arith, test, many, left, few, within)) added),
      omega (arith, test, left, few, within, size),
      omega (arith, turns, one, so_far, size),
    )

pub returns-clause-items : goal.returns-clause-items
returns-clause-items g c =
    let test = c.loop-next-test.false in
    let many = ap length c.as_slice-text.ensures.value in
    all-added c.args.on.now c.args.range.now c.args.out.now.items c.loop-next.out.items c.loop-next.next c.loop-next.invariant.0 (omega (arith, test, many))
