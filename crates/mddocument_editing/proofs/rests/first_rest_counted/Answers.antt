use Rattle.mddocument_editing.proofs.Prelude.{◌≡◌, ◌<◌, ◌≤◌, ◌∙◌, false, drop, take, map, arith, open_of, is_rest}
use Rattle.mdblock_containers.proofs.CostLemmas.{began_sizes}
use Rattle.mdblock_containers.proofs.OverLemmas.{began_before}
use Rattle.mddocument_editing.proofs.RestLines.{asked, at-next, began-next, known_of, none-before-next}
use Rattle.mddocument_editing.proofs.rests.first_rest_counted.Goals.{else-start-gt0-via-then-start-gt0+else-begins_anew, else-start-gt0-via-else-start-gt0}
use Rattle.mddocument_editing.proofs.rests.first_rest_counted.Goals as goal

pub next_row-requires-clause-began : goal.next_row-requires-clause-began
next_row-requires-clause-began g c = began_before c.loop-start.number c.loop-start.known.before.stack.items c.loop-start.invariant.began

pub next_row-requires-clause-sizes : goal.next_row-requires-clause-sizes
next_row-requires-clause-sizes g c = began_sizes c.loop-start.number (map open_of c.loop-start.known.before.stack.items) c.loop-start.invariant.began

pub returns-then-begins_anew : goal.returns-then-begins_anew
returns-then-begins_anew g c =
    let options = c.args.options.now in
    let some : 0 < options.tab_size = omega (arith, c.get-tab_size.ensures.least, c.get-tab_size.ensures.columns) in
    let most : options.tab_size ≤ 16 = omega (arith, c.get-tab_size.ensures.most, c.get-tab_size.ensures.columns) in
    let at = c.loop-start.invariant.at c.loop-start-test.true in
    let e = c.in_ok-at.ensures in
    let seen = c.seen_of-seen in
    record {
      some = c.if-start-gt0.true;
      within = c.loop-start.invariant.within;
      rest = λ less.
          asked options c.args.bytes.now some most c.loop-start.start c.in_ok-at.at.span.next c.loop-start.number c.loop-start-test.true e.next c.loop-start.known seen.result.is_closed seen.result.list c.as_slice.result.now c.in_ok-at.at.row c.begins_anew.result
          at seen.ensures.closed seen.ensures.list (c.as_slice.ensures.value ∙ e.text) (e.row (known_of options.constructs options.tab_size (take c.loop-start.start c.args.bytes.now)) at.known) c.begins_anew.ensures
          ∙ c.if-begins_anew.true;
      first = c.loop-start.invariant.none;
    }

pub loop-start-preserved : goal.loop-start-preserved
loop-start-preserved g c =
    let i = c.loop-start.invariant in
    let options = c.args.options.now in
    let on = options.constructs in
    let bytes = c.args.bytes.now in
    let start = c.loop-start.start in
    let next = c.in_ok-at.at.span.next in
    let number = c.loop-start.number in
    let old = c.loop-start.known in
    let new = c.next_row.new.known in
    let e = c.in_ok-at.ensures in
    let seen = c.seen_of-seen in
    let some : 0 < options.tab_size = omega (arith, c.get-tab_size.ensures.least, c.get-tab_size.ensures.columns) in
    let most : options.tab_size ≤ 16 = omega (arith, c.get-tab_size.ensures.most, c.get-tab_size.ensures.columns) in
    let at = i.at c.loop-start-test.true in
    let k = known_of on options.tab_size (take start bytes) in
    let is = e.known k at.known in
    let here : (0 < start → is_rest options (take start bytes) (drop start bytes) ≡ false)
    = elim c.else-start-gt0.branch [
      | else-start-gt0-via-then-start-gt0+else-begins_anew w ↦ λ h.
          asked options bytes some most start next number c.loop-start-test.true e.next old seen.result.is_closed seen.result.list w.as_slice.result.now c.in_ok-at.at.row w.begins_anew.result
          at seen.ensures.closed seen.ensures.list (w.as_slice.ensures.value ∙ e.text) (e.row k at.known) w.begins_anew.ensures
          ∙ w.if-begins_anew.false
      | else-start-gt0-via-else-start-gt0 w ↦ λ h. absurd (let none = w.if-start-gt0.false in omega (arith, h, none))
    ] in
    record {
      within = e.within;
      few = omega (arith, i.few, e.more);
      depth = e.depth;
      over = e.over;
      began = began-next options bytes some most start next number c.loop-start-test.true e.next old new at is i.began;
      at = at-next options bytes some most start next number c.loop-start-test.true e.next old new at is;
      none = none-before-next options bytes some most start next number c.loop-start-test.true e.next old at i.none here e.within;
    }
