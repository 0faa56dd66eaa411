use Rattle.mddocument_editing.proofs.Prelude.{◌≡◌, ◌+◌, ◌-◌, ◌<◌, sym, ap, subst, ◌∙◌, length, drop, map, take, arith, drop-take, take_all, AllByRecursion, part_events, events_of_sections, every-take, every-drop, moved_by, IsRead, bytes_of_sections, knows}
use Rattle.mddocument_editing.proofs.SectionBytes.{every-at}
use Rattle.mddocument_editing.proofs.SectionEvents.{behind-more, behind-none, between-events, moved-more}
use Rattle.mddocument_editing.proofs.SectionFronts.{take-next}
use Rattle.mddocument_editing.proofs.moved.events_between.Goals as goal

pub loop-section-init : goal.loop-section-init
loop-section-init c = record {
  front = behind-none (part_events c.args.kept.now.options (knows c.args.kept.now.known)) c.in_ok-front.front c.in_ok-front.ensures.small;
  events = c.new-events.ensures.items;
}

pub loop-section-preserved : goal.loop-section-preserved
loop-section-preserved c =
    let k = c.args.kept.now in
    let defined = knows k.known in
    let wanted = take (c.args.to - c.args.from) (drop c.args.from c.as_slice-sections.result.now) in
    let i = c.loop-section.section-index in
    let x = c.section-item.result in
    let all = subst (λ l. AllByRecursion (IsRead k.options defined) l) (sym c.as_slice-sections.ensures.value) c.requires.kept.read in
    let read = every-take (IsRead k.options defined) (c.args.to - c.args.from) (drop c.args.from c.as_slice-sections.result.now) (every-drop (IsRead k.options defined) c.args.from c.as_slice-sections.result.now all) in
    let inside : i < length wanted = c.loop-section-test.true in
    let one : IsRead k.options defined x = subst (IsRead k.options defined) (sym c.section-item.is) (every-at (IsRead k.options defined) wanted i x read inside) in
    let e = c.in-Some.ensures in
    let before = c.loop-section.invariant.front in
    rw (take-next wanted i x inside c.section-item.is) (record {
      front = behind-more k.options defined c.in_ok-front.front c.loop-section.front (take i wanted) x before one c.in-Some.next e.lines e.bytes e.events e.small;
      events = moved-more k.options defined c.in_ok-front.front c.loop-section.front (take i wanted) x before one c.loop-section.events.items _ c.loop-section.invariant.events c.in_ok-push_section.ensures;
    })

pub returns : goal.returns
returns c =
    let k = c.args.kept.now in
    let from = c.args.from in
    let to = c.args.to in
    let all = k.sections.items in
    let sections = c.as_slice-sections.result.now in
    let wanted = take (to - from) (drop from sections) in
    let read = part_events k.options (knows k.known) in
    let end : take c.loop-section.section-index wanted ≡ wanted = take_all c.loop-section.section-index wanted c.loop-section-test.false in
    let order : from + (to - from) ≡ to = omega arith in
    let cut : wanted ≡ drop from (take to all) =
    sym (drop-take from (to - from) sections) ∙ ap (λ n. drop from (take n sections)) order ∙ ap (λ l. drop from (take to l)) c.as_slice-sections.ensures.value
    in
    c.loop-section.invariant.events
    ∙ ap (λ l. map (moved_by c.in_ok-front.front) (events_of_sections read (bytes_of_sections l))) (end ∙ cut)
    ∙ between-events k from to c.requires.kept c.requires.order c.requires.within c.in_ok-front.front c.in_ok-front.ensures
