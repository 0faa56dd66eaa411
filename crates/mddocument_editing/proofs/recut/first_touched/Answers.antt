use Rattle.mddocument_editing.proofs.Prelude.{◌≡◌, ◌+◌, ◌-◌, ◌≤◌, ◌<◌, ◌++◌, length, take, drop, get_or, true, sym, ap, ◌∙◌, arith, inr, length-take, ltb-true, nat_lt, document_of, Section, bytes_of_sections, is_settled}
use Rattle.mddocument_editing.proofs.SectionPlaces.{count-bytes, start-front, start-next}
use Rattle.mddocument_editing.proofs.SectionSizes.{bytes-inside, bytes-outside, size-front}
use Rattle.mddocument_editing.proofs.recut.first_touched.Goals as goal

pub slice_bounds-is_settled-length : goal.slice_bounds-is_settled-length
slice_bounds-is_settled-length c =
    let ss = c.args.sections.now in
    let i = c.args.found.0 in
    let left = c.args.found.1 in
    let next = start-next ss i (get_or ss i c.index-sections-index.result) c.if-index-sections.true (ap (get_or ss i) c.index-sections-index.is) in
    let inside = c.requires.section.end (omega (arith, c.if-index-sections.true, count-bytes ss)) in
    omega (arith, next, inside, c.requires.left, ap length c.as_slice.ensures.value, length-take (c.args.byte - (c.args.byte - left)) c.as_slice.result.now)

pub returns-then-is_settled-clause-settled : goal.returns-then-is_settled-clause-settled
returns-then-is_settled-clause-settled c =
    let ss = c.args.sections.now in
    let i = c.args.found.0 in
    let start = c.args.byte - c.args.found.1 in
    let s = get_or ss i c.index-sections-index.result in
    let lt = c.if-index-sections.true in
    let is = ap (get_or ss i) c.index-sections-index.is in
    let inside = c.requires.section.end (omega (arith, lt, count-bytes ss)) in
    let at : start ≡ length (document_of (take i (bytes_of_sections ss))) = omega (arith, c.requires.left) in
    let few : c.args.byte - start ≤ length s.part.bytes.items = omega (arith, start-next ss i s lt is, inside, at) in
    let told : is_settled (take (c.args.byte - start) c.as_slice.result.now) ≡ true = sym c.is_settled.ensures ∙ c.if-is_settled.true in
    inr (
    ap is_settled (bytes-inside (λ (section : Section). section.part.bytes.items) ss i start s at lt is (c.args.byte - start) few)
    ∙ ap (λ bs. is_settled (take (c.args.byte - start) bs)) (sym c.as_slice.ensures.value)
    ∙ told
    )

pub overflow_sub-start-in-loop-index : goal.overflow_sub-start-in-loop-index
overflow_sub-start-in-loop-index c =
    let less = start-front c.args.sections.now c.loop-index-test.true c.loop-index.invariant.within c.index-sections-index-in-loop-index.is c.as_slice-bytes.ensures.value in
    omega (arith, less, c.loop-index.invariant.start)

pub returns-then-is_settled_by-clause-start : goal.returns-then-is_settled_by-clause-start
returns-then-is_settled_by-clause-start c =
    let less = start-front c.args.sections.now c.loop-index-test.true c.loop-index.invariant.within c.index-sections-index-in-loop-index.is c.as_slice-bytes.ensures.value in
    omega (arith, less, c.loop-index.invariant.start)

pub returns-then-is_settled_by-clause-settled : goal.returns-then-is_settled_by-clause-settled
returns-then-is_settled_by-clause-settled c =
    let less = start-front c.args.sections.now c.loop-index-test.true c.loop-index.invariant.within c.index-sections-index-in-loop-index.is c.as_slice-bytes.ensures.value in
    let ss = c.args.sections.now in
    let i = c.loop-index.index - 1 in
    let s = get_or ss i c.index-sections-index-in-loop-index.result in
    let value = c.as_slice-bytes.ensures.value in
    let start = c.loop-index.start - length c.as_slice-bytes.result.now in
    let at : start ≡ length (document_of (take i (bytes_of_sections ss))) = omega (arith, less, c.loop-index.invariant.start) in
    let n = c.args.byte - start in
    let many : length s.part.bytes.items ≤ n = omega (arith, less, c.loop-index.invariant.start, c.loop-index.invariant.before, ap length value) in
    let e : i + 1 ≡ c.loop-index.index = omega (arith, c.loop-index-test.true) in
    let left = document_of (drop (i + 1) (bytes_of_sections ss)) in
    let more = take (n - length s.part.bytes.items) left in
    let some : nat_lt c.loop-index.start c.args.byte ≡ true → 0 < length more = λ stay.
    omega (arith, ltb-true c.loop-index.start c.args.byte stay, length-take (n - length s.part.bytes.items) left, size-front (i + 1) (bytes_of_sections ss), ap (λ k. length (document_of (take k (bytes_of_sections ss)))) e, less, c.loop-index.invariant.start, c.requires.inside, ap length value)
    in
    inr (
    ap is_settled (bytes-outside (λ (section : Section). section.part.bytes.items) ss i start s at (omega (arith, c.loop-index.invariant.within, c.loop-index-test.true)) (ap (get_or ss i) c.index-sections-index-in-loop-index.is) n many)
    ∙ ap (λ bs. is_settled (bs ++ more)) (sym value)
    ∙ c.is_settled_by.ensures c.if-is_settled_by.true more some
    )

pub loop-index-preserved : goal.loop-index-preserved
loop-index-preserved c =
    let less = start-front c.args.sections.now c.loop-index-test.true c.loop-index.invariant.within c.index-sections-index-in-loop-index.is c.as_slice-bytes.ensures.value in
    record {
      start = omega (arith, less, c.loop-index.invariant.start);
      before = omega (arith, c.loop-index.invariant.before);
      within = omega (arith, c.loop-index.invariant.within);
    }
