use Rattle.mddocument_editing.proofs.Prelude.{ℕ, ◌+◌, ◌<◌, length, arith, inr, length-map, Global, Vec, items_of, bytes_of_sections}
use Rattle.mddocument_editing.proofs.Apart.{apart-part, apart-parts, apart-section}
use Rattle.mddocument_editing.proofs.SectionPlaces.{start-behind, start-within}
use Rattle.mddocument_editing.proofs.SectionSizes.{size-front, size-more}
use Rattle.mddocument_editing.proofs.recut.meeting.Goals as goal

pub overflow_add-end : goal.overflow_add-end
overflow_add-end c =
    let parts = c.args.parts.now in
    let i = c.loop-passed.kept in
    let lt : i < length parts = omega (arith, c.loop-passed.invariant.kept) in
    let more = size-more (λ (part : Vec ℕ Global). part.items) parts i c.index-parts-kept.result lt c.index-parts-kept.is in
    omega (arith, more, size-front (i + 1) (items_of parts), c.requires.parts, c.loop-passed.invariant.end, c.len-end.ensures)

pub loop-passed-preserved-then-end-start-2 : goal.loop-passed-preserved-then-end-start-2
loop-passed-preserved-then-end-start-2 c =
    let parts = c.args.parts.now in
    let i = c.loop-passed.kept in
    let lt : i < length parts = omega (arith, c.loop-passed.invariant.kept) in
    let more = size-more (λ (part : Vec ℕ Global). part.items) parts i c.index-parts-kept.result lt c.index-parts-kept.is in
    record {
      end = omega (arith, more, c.loop-passed.invariant.end, c.len-end.ensures);
      start = c.loop-passed.invariant.start;
      kept = omega (arith, lt);
      passed = c.loop-passed.invariant.passed;
      apart = apart-part (items_of parts) (bytes_of_sections c.args.sections.now) c.args.size c.loop-passed.invariant.apart (omega (arith, c.loop-passed.invariant.end, c.loop-passed.invariant.start));
    }

pub overflow_add-start : goal.overflow_add-start
overflow_add-start c =
    let next = start-behind c.args.sections.now c.loop-passed-test.true c.index-sections-passed.is in
    omega (arith, next, start-within (c.loop-passed.passed + 1) (bytes_of_sections c.args.sections.now), c.requires.sections, c.loop-passed.invariant.start, c.len-start.ensures)

pub loop-passed-preserved : goal.loop-passed-preserved
loop-passed-preserved c =
    let next = start-behind c.args.sections.now c.loop-passed-test.true c.index-sections-passed.is in
    record {
      end = c.loop-passed.invariant.end;
      start = omega (arith, next, c.loop-passed.invariant.start, c.len-start.ensures);
      kept = c.loop-passed.invariant.kept;
      passed = omega (arith, c.loop-passed-test.true);
      apart = apart-section (items_of c.args.parts.now) (bytes_of_sections c.args.sections.now) c.args.size c.loop-passed.invariant.apart (omega (arith, c.loop-passed.invariant.end, c.loop-passed.invariant.start));
    }

pub returns-clause-none : goal.returns-clause-none
returns-clause-none c = λ some passed lt. c.loop-passed.invariant.apart some passed (inr (omega (arith, lt, c.loop-passed-test.false)))

pub returns-then-kept-parts-clause-none : goal.returns-then-kept-parts-clause-none
returns-then-kept-parts-clause-none c = λ some passed lt.
    let parts = c.args.parts.now in
    let long = length-map parts (λ (part : Vec ℕ Global). part.items) in
    apart-parts (items_of parts) (bytes_of_sections c.args.sections.now) c.args.size c.loop-passed.invariant.apart (omega (arith, long, c.if-kept-parts.true))
    (omega (arith, c.loop-passed.invariant.end, c.loop-passed.invariant.start, c.if-end-start-2.true)) some passed
